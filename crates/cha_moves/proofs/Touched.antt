-- The squares that a move leaves and enters, and those of men, as sets.
use Rattle.std.proofs.Common.{◌≡◌, ℕ, ◌<◌, ◌==◌, Bool, true, false, not, ◌&&◌, ◌||◌, List, Option, refl, sym, ap, ◌∙◌, arith}
use Rattle.std.proofs.lemmas.Bool.{both_ways, false_from_ne_true, not-true, and_from, eqb-true, eq-eqb, ne_eqb}
use Rattle.cha_board.specs.declared.men.Color.{Color}
use Rattle.cha_board.specs.declared.men.Color.TheVariants.{White, Black}
use Rattle.cha_board.specs.declared.castling.Wing.{Wing}
use Rattle.cha_board.specs.declared.castling.Wing.TheVariants.{Kingside, Queenside}
use Rattle.cha_board.specs.declared.men.Kind.{Kind}
use Rattle.cha_board.specs.declared.men.Man.{Man}
use Rattle.cha_board.specs.Men.{is_man}
use Rattle.cha_board.specs.Board.{man_at, is_home, home_of, corner_of, has_right, rights_where}
use Rattle.cha_board.specs.declared.position.Rights.{Rights}
use Rattle.cha_board.specs.SquareSets.{set_of, has_square, empty_set, set_with, set_common, has_no_square}
use Rattle.cha_board.proofs.RightLaws.{has-where, same_rights}
use Rattle.cha_board.proofs.SetLaws.{has-set_of, same_set}
use Rattle.cha_board.proofs.Scans.{any_square_at}
use Rattle.cha_moves.specs.Step.{Move}
use Rattle.cha_moves.specs.Moves.{touches, keeps_right, rights_after}
use Rattle.cha_moves.proofs.Kept.{squares_of}

turned : (a b : ℕ) (x : Bool) → (a == b) ≡ x → x ≡ (b == a)
turned a b true e = sym (eq-eqb b a (sym (eqb-true a b e)))
turned a b false e = sym (ne_eqb b a (λ h. both_ways (a == b) e (eq-eqb a b (sym h))))

either_order : (a b : Bool) → (a || (b || false)) ≡ (b || a)
either_order true true = refl
either_order true false = refl
either_order false true = refl
either_order false false = refl

-- the set with both squares is that of the squares which the move touches
pub touched_set : (m : Move) → set_with (set_with empty_set m.from) m.to ≡ set_of (touches m)
unfolding set_with
touched_set m =
    same_set (λ s. (s == m.to) || has_square (set_of (λ s. (s == m.from) || has_square empty_set s)) s) (touches m) (λ s small.
    ap (λ x. (s == m.to) || x) (has-set_of (λ s. (s == m.from) || has_square empty_set s) s small ∙ ap (λ x. (s == m.from) || x) (has-set_of (λ _. false) s small))
    ∙ either_order (s == m.to) (s == m.from)
    ∙ ap (λ x. x || (s == m.to)) (turned s m.from (s == m.from) refl)
    ∙ ap (λ x. (m.from == s) || x) (turned s m.to (s == m.to) refl))

-- a square of the board is among them exactly where the move touches it
pub touched_at : (m : Move) (s : ℕ) → s < 64 → has_square (set_of (touches m)) s ≡ touches m s
touched_at m s small = has-set_of (touches m) s small

-- a square is among those of the men of a side and a kind exactly where such a man stands on it
pub man_among : (men : List (Option Man)) (c : Color) (k : Kind) (s : ℕ) → s < 64 → has_square (set_of (λ s. is_man c k (man_at men s))) s ≡ is_man c k (man_at men s)
man_among men c k s small = has-set_of (λ s. is_man c k (man_at men s)) s small

-- a move touches no square of a set that has none of its squares
untouched : (m : Move) (p : ℕ → Bool) (s : ℕ) → has_no_square (set_common (set_of (touches m)) (set_of p)) ≡ true → s < 64 → p s ≡ true → touches m s ≡ false
unfolding has_no_square set_common
untouched m p s none small here' =
    let both = set_common (set_of (touches m)) (set_of p) in
    false_from_ne_true (touches m s) (λ h.
    let here : has_square both s ≡ true = has-set_of (λ s. has_square (set_of (touches m)) s && has_square (set_of p) s) s small
    ∙ and_from (has_square (set_of (touches m)) s) (has_square (set_of p) s) (touched_at m s small ∙ h) (has-set_of p s small ∙ here') in
    both_ways _ (not-true _ none) (any_square_at (has_square both) s small here))

stays : (b x y : Bool) → x ≡ false → y ≡ false → b ≡ (b && not x && not y)
stays true false false e f = refl
stays false false false e f = refl
stays b true y e f = cc
stays b x true e f = cc

-- the homes of kings and rooks are homes
pub home_is : (c : Color) → is_home (home_of c) ≡ true
home_is White = refl
home_is Black = refl

pub corner_is : (c : Color) (w : Wing) → is_home (corner_of c w) ≡ true
corner_is White Kingside = refl
corner_is White Queenside = refl
corner_is Black Kingside = refl
corner_is Black Queenside = refl

home_small : (c : Color) → home_of c < 64
home_small White = omega arith
home_small Black = omega arith

-- a move that touches no home of a king or a rook changes no right
pub rights_stay : (r : Rights) (m : Move) → has_no_square (set_common (set_of (touches m)) (set_of is_home)) ≡ true → r ≡ rights_after r m
unfolding rights_after
rights_stay r m none = same_rights r (rights_after r m) (λ c w.
    stays (has_right r c w) (touches m (home_of c)) (touches m (corner_of c w)) (untouched m is_home (home_of c) none (home_small c) (home_is c)) (untouched m is_home (corner_of c w) none (squares_of c w).small_i (corner_is c w))
    ∙ sym (has-where (keeps_right r m) c w))

-- the rights whose homes are in no set of the squares that a move touches
pub rights_lacking : (r : Rights) (m : Move) (set : List Bool) → set ≡ set_of (touches m)
    → rights_where (λ c w. has_right r c w && not (has_square set (home_of c)) && not (has_square set (corner_of c w))) ≡ rights_after r m
unfolding rights_after
rights_lacking r m set are =
    let at = λ (s : ℕ) (small : s < 64). ap (λ (x : List Bool). has_square x s) are ∙ touched_at m s small in
    λ i. rights_where (λ c w. has_right r c w && not (at (home_of c) (home_small c) i) && not (at (corner_of c w) (squares_of c w).small_i i))
