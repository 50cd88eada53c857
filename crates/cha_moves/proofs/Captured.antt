-- A pawn that captures enters no square of its side's first rank.
use Rattle.std.proofs.Common.{◌≡◌, ◌≢◌, ℕ, ◌<◌, ◌+◌, true, arith}
use Rattle.std.proofs.lemmas.Bool.{and_parts, eqb-true}
use Rattle.cha_board.specs.declared.men.Color.{Color}
use Rattle.cha_board.specs.declared.men.Color.TheVariants.{White, Black}
use Rattle.cha_board.specs.declared.men.Kind.TheVariants.{Pawn}
use Rattle.cha_board.specs.Men.{other_color}
use Rattle.cha_board.specs.Squares.{rank_of, last_rank, aims_at, is_rank_ahead}

pub captures_ahead : (c : Color) (s t : ℕ) → s < 64 → aims_at c Pawn s t ≡ true → rank_of t ≢ last_rank (other_color c)
unfolding aims_at is_rank_ahead
captures_ahead White s t small h at = (let e = eqb-true (rank_of t) (rank_of s + 1) (and_parts _ _ h).0 in omega (arith, e, at))
captures_ahead Black s t small h at = (let e = eqb-true (rank_of s) (rank_of t + 1) (and_parts _ _ h).0 in omega (arith, e, at))
