use Rattle.std.proofs.Common.{◌≡◌, ◌<◌, ℕ, true}
use Rattle.cha_board.specs.declared.men.Kind.TheVariants.{King}
use Rattle.cha_board.specs.Squares.{aims_at}
use Rattle.cha_board.specs.SquareSets.{has_square}
use Rattle.cha_moves.proofs.GoingLegally.{Sifted}
use Rattle.cha_moves.proofs.legally.sifted_of_king.Given as goal

-- the squares that are left are ways by a step, and the others were asked or need not be
abbrev pub invariant-loop-to : goal.invariant-loop-to
invariant-loop-to l = record {
  sifted : Sifted l.position l.fn.from l.to-iterator l.legal;
  near : (t : ℕ) → t < 64 → has_square l.to-iterator t ≡ true → aims_at l.position.side King l.fn.from t ≡ true;
}
