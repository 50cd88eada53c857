-- What a man of a side reaches, and what the rest of the squares does not.
use Rattle.std.proofs.Common.{◌≡◌, ℕ, ◌<◌, Bool, true, false, ◌&&◌, List, sym, ap, ◌∙◌}
use Rattle.std.specs.List.{list_any}
use Rattle.std.proofs.lemmas.Bool.{and_left}
use Rattle.cha_board.specs.declared.men.Color.{Color}
use Rattle.cha_board.specs.Men.{is_non_king}
use Rattle.cha_board.specs.SquareSets.{set_of, has_square}
use Rattle.cha_board.proofs.SetLaws.{has-set_of}
use Rattle.cha_board.specs.Board.{Board, man_at}
use Rattle.mob_sets.specs.Mobility.{Sets}
use Rattle.mob_sets.specs.Rows.{kinds}
use Rattle.mob_check.specs.Grounds.{reaches_from, has_own}

pub reached_by : (p : Board) (s : Sets) (c : Color) (t o i : ℕ) (rows : List Bool) → o ≡ i → t < 64 → rows ≡ set_of (λ u. list_any (λ k. s.has o k u) kinds) → has_own p c o ≡ true
    → has_square rows t ≡ reaches_from p s c t i
unfolding has_own reaches_from
reached_by p s c t o i rows at small is own =
    let test = λ (u : ℕ). list_any (λ k. s.has o k u) kinds in
    ap (λ x. has_square x t) is ∙ has-set_of test t small
    ∙ sym (ap (λ b. b && test t) own)
    ∙ ap (λ x. is_non_king c (man_at p.men x) && list_any (λ k. s.has x k t) kinds) at

pub reached_not : (p : Board) (s : Sets) (c : Color) (t o i : ℕ) → o ≡ i → has_own p c o ≡ false → reaches_from p s c t i ≡ false
unfolding has_own reaches_from
reached_not p s c t o i at other =
    sym (ap (λ x. is_non_king c (man_at p.men x) && list_any (λ k. s.has x k t) kinds) at)
    ∙ and_left (is_non_king c (man_at p.men o)) (list_any (λ k. s.has o k t) kinds) other
