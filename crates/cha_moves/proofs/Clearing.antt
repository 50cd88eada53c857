-- Empty squares between two squares, and the parts of an attack.
use Rattle.std.proofs.Common.{◌≡◌, ℕ, ◌<◌, true, not, ◌&&◌, List, Option, Some, None, inl, inr, sym, ◌∙◌, ap}
use Rattle.std.specs.List.{list_any}
use Rattle.std.proofs.lemmas.Bool.{and_parts, and_from, and_left, both_ways, cases_Bool, not-true, true_from_ne_false}
use Rattle.cha_board.specs.declared.men.Color.{Color}
use Rattle.cha_board.specs.declared.men.Man.{Man}
use Rattle.cha_board.specs.Men.{same_color}
use Rattle.cha_board.specs.Squares.{squares, aims_at, lies_between, between}
use Rattle.cha_board.specs.Board.{is_empty, is_clear, attacks_as}
use Rattle.cha_board.proofs.Scans.{any_square_at, no_square}
use Rattle.cha_board.proofs.Betweens.{all_kept}
use Rattle.cha_moves.specs.Shields.{aims_as}

-- what lies between two squares is empty where the way is clear
pub clear_at : (men : List (Option Man)) (u k y : ℕ) → is_clear men u k ≡ true → y < 64 → lies_between u k y ≡ true → is_empty men y ≡ true
unfolding is_clear between
clear_at men u k y clear small lies =
    let none = not-true (list_any (λ x. lies_between u k x && not (is_empty men x)) squares) (sym (all_kept (lies_between u k) (λ x. is_empty men x) squares) ∙ clear) in
    true_from_ne_false (is_empty men y) (λ stands.
    both_ways (list_any (λ x. lies_between u k x && not (is_empty men x)) squares) none
    (any_square_at (λ x. lies_between u k x && not (is_empty men x)) y small (and_from (lies_between u k y) (not (is_empty men y)) lies (ap not stands))))

pub clear_from : (men : List (Option Man)) (u k : ℕ) → ((y : ℕ) → y < 64 → lies_between u k y ≡ true → is_empty men y ≡ true) → is_clear men u k ≡ true
unfolding is_clear between
clear_from men u k free =
    all_kept (lies_between u k) (λ x. is_empty men x) squares
    ∙ ap not (no_square (λ x. lies_between u k x && not (is_empty men x)) (λ y small. elim (cases_Bool (lies_between u k y)) [
      | inl lies ↦ ap (λ b. b && not (is_empty men y)) lies ∙ ap not (free y small lies)
      | inr off ↦ and_left (lies_between u k y) (not (is_empty men y)) off
    ]))

-- what attacks a square aims at it, over a clear way
pub attack_parts : (men : List (Option Man)) (c : Color) (k u : ℕ) (o : Option Man) → attacks_as men c k u o ≡ true → (aims_as c k u o ≡ true) × (is_clear men u k ≡ true)
unfolding attacks_as
attack_parts men c k u None h = cc
attack_parts men c k u (Some man) h = and_parts (same_color man.color c && aims_at c man.kind u k) (is_clear men u k) h

pub attack_from : (men : List (Option Man)) (c : Color) (k u : ℕ) (o : Option Man) → aims_as c k u o ≡ true → is_clear men u k ≡ true → attacks_as men c k u o ≡ true
unfolding attacks_as
attack_from men c k u None aims clear = cc
attack_from men c k u (Some man) aims clear = and_from (same_color man.color c && aims_at c man.kind u k) (is_clear men u k) aims clear
