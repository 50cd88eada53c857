-- The squares where a pawn may step, and where a king may go, as sets.
use Rattle.std.proofs.Common.{◌≡◌, ℕ, ◌<◌, Bool, true, false, not, ◌&&◌, ◌||◌, ◌==◌, List, Some, refl, sym, ◌∙◌, ap, arith, inl, inr}
use Rattle.std.specs.List.{list_all}
use Rattle.std.proofs.lemmas.Bool.{and_parts, and_left, and_right, cases_Bool, cases_eq, eq-eqb, ne_eqb, eqb-true, eqb-false, false_from_ne_true, not-true}
use Rattle.std.proofs.Math.Bool.{not-not}
use Rattle.cha_board.specs.declared.men.Color.{Color}
use Rattle.cha_board.specs.declared.men.Color.TheVariants.{White, Black}
use Rattle.cha_board.specs.declared.men.Kind.{Kind}
use Rattle.cha_board.specs.declared.men.Kind.TheVariants.{Pawn, Knight, Bishop, Rook, Queen, King}
use Rattle.cha_board.specs.declared.men.Man.{Man}
use Rattle.cha_board.specs.declared.castling.Wing.{Wing}
use Rattle.cha_board.specs.declared.castling.Wing.TheVariants.{Kingside, Queenside}
use Rattle.cha_board.specs.Men.{same_color, same_kind}
use Rattle.cha_board.specs.Squares.{squares, rank_of, last_rank, ahead_of, files_apart, is_rank_ahead, aims_at}
use Rattle.cha_board.specs.Board.{Board, man_at, is_empty, goal_of}
use Rattle.cha_board.specs.SquareSets.{set_of, has_square, set_joined, set_minus}
use Rattle.cha_board.proofs.SetLaws.{has-set_of, same_set}
use Rattle.cha_board.specs.Aims.{aimed}
use Rattle.cha_board.proofs.Scans.{pair_at}
use Rattle.cha_moves.specs.Moves.{second_rank, fourth_rank, middle, is_step, is_double_step, is_pawn_capture, is_en_passant, castles, goes, goes_as, may_enter}
use Rattle.cha_moves.specs.Ways.{is_way}
use Rattle.cha_moves.proofs.Kept.{castling_tests}
use Rattle.cha_moves.proofs.Goings.{joined_of, minus_of, occupied_in, aims_seen, at_one}

same_bool : Bool → Bool → Bool
same_bool true b = b
same_bool false b = not b

from_same_bool : (a b : Bool) → same_bool a b ≡ true → a ≡ b
unfolding same_bool
from_same_bool true true h = refl
from_same_bool true false h = cc
from_same_bool false true h = cc
from_same_bool false false h = refl

-- the step of a pawn, by the numbers of its squares
step_test : Color → ℕ → ℕ → Bool
step_test c s t = (rank_of s == last_rank c) || same_bool ((files_apart s t == 0) && is_rank_ahead c s t) (t == ahead_of c s)

end_test : Color → ℕ → ℕ → Bool
end_test c s t = not (rank_of s == last_rank c) || not (is_rank_ahead c s t)

double_test : Color → ℕ → ℕ → Bool
double_test c s t = same_bool ((files_apart s t == 0) && (rank_of s == second_rank c) && (rank_of t == fourth_rank c)) ((rank_of s == second_rank c) && (t == ahead_of c (ahead_of c s)))

pawn_test : Color → ℕ → ℕ → Bool
pawn_test c s t = step_test c s t && end_test c s t && double_test c s t

pawn_table : (c : Color) → list_all (λ s. list_all (pawn_test c s) squares) squares ≡ true
unfolding pawn_test step_test end_test double_test same_bool files_apart is_rank_ahead squares
pawn_table White = refl
pawn_table Black = refl

pawn_tests : (c : Color) (s t : ℕ) → s < 64 → t < 64 → (step_test c s t ≡ true) × (end_test c s t ≡ true) × (double_test c s t ≡ true)
unfolding pawn_test
pawn_tests c s t small small' =
    let all = pair_at (pawn_test c) (pawn_table c) s t small small' in
    let x = and_parts (step_test c s t && end_test c s t) (double_test c s t) all in
    let y = and_parts (step_test c s t) (end_test c s t) x.0 in
    (y.0, y.1, x.1)

-- a pawn that stands on no last rank steps to the square ahead of it where that is empty
step_is : (q : Board) (s t : ℕ) → s < 64 → t < 64 → (rank_of s == last_rank q.side) ≡ false → is_step q s t ≡ ((t == ahead_of q.side s) && is_empty q.men (ahead_of q.side s))
unfolding is_step step_test
step_is q s t small small' inner =
    let test : ((rank_of s == last_rank q.side) || same_bool ((files_apart s t == 0) && is_rank_ahead q.side s t) (t == ahead_of q.side s)) ≡ true = (pawn_tests q.side s t small small').0 in
    let same : same_bool ((files_apart s t == 0) && is_rank_ahead q.side s t) (t == ahead_of q.side s) ≡ true = ap (λ b. b || same_bool ((files_apart s t == 0) && is_rank_ahead q.side s t) (t == ahead_of q.side s)) (sym inner) ∙ test in
    ap (λ b. b && is_empty q.men t) (from_same_bool ((files_apart s t == 0) && is_rank_ahead q.side s t) (t == ahead_of q.side s) same) ∙ at_one t (ahead_of q.side s) (λ u. is_empty q.men u)

-- a pawn on the last rank steps nowhere
end_is : (q : Board) (s t : ℕ) → s < 64 → t < 64 → (rank_of s == last_rank q.side) ≡ true → is_step q s t ≡ false
unfolding is_step end_test
end_is q s t small small' last =
    let test : (not (rank_of s == last_rank q.side) || not (is_rank_ahead q.side s t)) ≡ true = (pawn_tests q.side s t small small').1 in
    let none : not (is_rank_ahead q.side s t) ≡ true = ap (λ b. not b || not (is_rank_ahead q.side s t)) (sym last) ∙ test in
    and_left ((files_apart s t == 0) && is_rank_ahead q.side s t) (is_empty q.men t) (and_right (files_apart s t == 0) (is_rank_ahead q.side s t) (not-true (is_rank_ahead q.side s t) none))

mid_is : (c : Color) (s : ℕ) → s < 64 → rank_of s ≡ second_rank c → middle s (ahead_of c (ahead_of c s)) ≡ ahead_of c s
mid_is White s small e = omega arith
mid_is Black s small e = omega arith

-- a pawn on its first rank makes a double step over an empty square to an empty one
double_is : (q : Board) (s t : ℕ) → s < 64 → t < 64
    → is_double_step q s t ≡ ((rank_of s == second_rank q.side) && (t == ahead_of q.side (ahead_of q.side s)) && is_empty q.men (ahead_of q.side s) && is_empty q.men (ahead_of q.side (ahead_of q.side s)))
unfolding is_double_step double_test
double_is q s t small small' =
    let two = ahead_of q.side (ahead_of q.side s) in
    let begins = rank_of s == second_rank q.side in
    let way = (files_apart s t == 0) && begins && (rank_of t == fourth_rank q.side) in
    let same : way ≡ (begins && (t == two)) = from_same_bool way (begins && (t == two)) (pawn_tests q.side s t small small').2 in
    ap (λ b. b && is_empty q.men (middle s t) && is_empty q.men t) same ∙ (elim (cases_Bool (begins && (t == two))) [
      | inl e ↦ (
          let both = and_parts begins (t == two) e in
          let here : t ≡ two = eqb-true t two both.1 in
          let mid : middle s t ≡ ahead_of q.side s = ap (middle s) here ∙ mid_is q.side s small (eqb-true (rank_of s) (second_rank q.side) both.0) in
          ap (λ u. begins && (t == two) && is_empty q.men u && is_empty q.men t) mid ∙ ap (λ u. begins && (t == two) && is_empty q.men (ahead_of q.side s) && is_empty q.men u) here)
      | inr e ↦ rw e refl
    ])

-- the squares to which a pawn steps
abbrev pub pushes_of : Board → ℕ → List Bool
pushes_of q s = set_of (λ t. is_step q s t || is_double_step q s t)

second_not_last : (c : Color) (r : ℕ) → (r == last_rank c) ≡ true → (r == second_rank c) ≡ false
second_not_last White r h = (let e = eqb-true r 7 h in ne_eqb r 1 (λ f. omega (arith, e, f)))
second_not_last Black r h = (let e = eqb-true r 0 h in ne_eqb r 6 (λ f. omega (arith, e, f)))

-- none from the last rank
pub pushes_at_end : (q : Board) (s : ℕ) → s < 64 → (rank_of s == last_rank q.side) ≡ true → set_of (λ _. false) ≡ pushes_of q s
pushes_at_end q s small last =
    same_set (λ _. false) (λ t. is_step q s t || is_double_step q s t) (λ t small'.
    rw (end_is q s t small small' last, double_is q s t small small', second_not_last q.side (rank_of s) last) refl)

neither : (a b x y : Bool) → false ≡ ((a && false) || (b && x && false && y))
neither a b x y = rw (and_right a false refl, and_right (b && x) false refl) refl

-- none over a square that is not empty
pub pushes_blocked : (q : Board) (s : ℕ) → s < 64 → (rank_of s == last_rank q.side) ≡ false → is_empty q.men (ahead_of q.side s) ≡ false → set_of (λ _. false) ≡ pushes_of q s
pushes_blocked q s small inner stands =
    same_set (λ _. false) (λ t. is_step q s t || is_double_step q s t) (λ t small'.
    rw (step_is q s t small small' inner, double_is q s t small small', stands)
    (neither (t == ahead_of q.side s) (rank_of s == second_rank q.side) (t == ahead_of q.side (ahead_of q.side s)) (is_empty q.men (ahead_of q.side (ahead_of q.side s)))))

one_only : (a b x y : Bool) → (b && y) ≡ false → (a || false) ≡ ((a && true) || (b && x && true && y))
one_only true b x y h = refl
one_only false true true y h = sym h
one_only false true false y h = refl
one_only false false x y h = refl

-- one from another rank than the first of pawns, or where the second square is not empty
pub pushes_one : (q : Board) (s : ℕ) → s < 64 → (rank_of s == last_rank q.side) ≡ false → is_empty q.men (ahead_of q.side s) ≡ true
    → ((rank_of s == second_rank q.side) && is_empty q.men (ahead_of q.side (ahead_of q.side s))) ≡ false → set_of (λ t. (t == ahead_of q.side s) || false) ≡ pushes_of q s
pushes_one q s small inner free none =
    same_set (λ t. (t == ahead_of q.side s) || false) (λ t. is_step q s t || is_double_step q s t) (λ t small'.
    rw (step_is q s t small small' inner, double_is q s t small small', free)
    (one_only (t == ahead_of q.side s) (rank_of s == second_rank q.side) (t == ahead_of q.side (ahead_of q.side s)) (is_empty q.men (ahead_of q.side (ahead_of q.side s))) none))

both_of : (a x : Bool) → (x || (a || false)) ≡ ((a && true) || (true && x && true && true))
both_of true true = refl
both_of true false = refl
both_of false true = refl
both_of false false = refl

-- two else
pub pushes_two : (q : Board) (s : ℕ) → s < 64 → (rank_of s == last_rank q.side) ≡ false → is_empty q.men (ahead_of q.side s) ≡ true
    → (rank_of s == second_rank q.side) ≡ true → is_empty q.men (ahead_of q.side (ahead_of q.side s)) ≡ true
    → set_of (λ t. (t == ahead_of q.side (ahead_of q.side s)) || ((t == ahead_of q.side s) || false)) ≡ pushes_of q s
pushes_two q s small inner free begins free' =
    same_set (λ t. (t == ahead_of q.side (ahead_of q.side s)) || ((t == ahead_of q.side s) || false)) (λ t. is_step q s t || is_double_step q s t) (λ t small'.
    rw (step_is q s t small small' inner, double_is q s t small small', free, begins, free') (both_of (t == ahead_of q.side s) (t == ahead_of q.side (ahead_of q.side s))))

and_true : (a b : Bool) → b ≡ true → (a && b) ≡ a
and_true true b h = h
and_true false b h = refl

-- castling leads to one square
castling_is : (q : Board) (w : Wing) (s t : ℕ) → castles q w s t ≡ (castles q w s (goal_of q.side w) && (t == goal_of q.side w))
castling_is q w s t = elim (cases_eq t (goal_of q.side w)) [
  | inl e ↦ ap (castles q w s) e ∙ sym (and_true (castles q w s (goal_of q.side w)) (t == goal_of q.side w) (eq-eqb t (goal_of q.side w) e))
  | inr ne ↦ false_from_ne_true (castles q w s t) (λ h. ne (castling_tests q w s t h).to_goal) ∙ sym (and_right (castles q w s (goal_of q.side w)) (t == goal_of q.side w) (ne_eqb t (goal_of q.side w) ne))
]

pub with_castling_is : (q : Board) (w : Wing) (s : ℕ) (set : List Bool) → set_of (λ t. (castles q w s (goal_of q.side w) && (t == goal_of q.side w)) || has_square set t) ≡ set_of (λ t. castles q w s t || has_square set t)
with_castling_is q w s set = same_set (λ t. (castles q w s (goal_of q.side w) && (t == goal_of q.side w)) || has_square set t) (λ t. castles q w s t || has_square set t) (λ t small. ap (λ b. b || has_square set t) (sym (castling_is q w s t)))

turned : (a b c : Bool) → (c || (b || a)) ≡ (a || b || c)
turned true true true = refl
turned true true false = refl
turned true false true = refl
turned true false false = refl
turned false true true = refl
turned false true false = refl
turned false false true = refl
turned false false false = refl

-- where a king may go
pub king_goes : (q : Board) (s : ℕ) (near kingside : List Bool) → near ≡ set_of (aims_at q.side King s) → kingside ≡ set_of (λ t. castles q Kingside s t || has_square near t)
    → set_of (λ t. castles q Queenside s t || has_square kingside t) ≡ set_of (goes q King s)
unfolding goes
king_goes q s near kingside is also =
    same_set (λ t. castles q Queenside s t || has_square kingside t) (λ t. aims_at q.side King s t || castles q Kingside s t || castles q Queenside s t) (λ t small.
    let aimed = ap (λ (x : List Bool). has_square x t) is ∙ has-set_of (aims_at q.side King s) t small in
    let castled = ap (λ (x : List Bool). has_square x t) also ∙ has-set_of (λ t. castles q Kingside s t || has_square near t) t small ∙ ap (λ b. castles q Kingside s t || b) aimed in
    ap (λ b. castles q Queenside s t || b) castled ∙ turned (aims_at q.side King s t) (castles q Kingside s t) (castles q Queenside s t))

-- where a man that is neither pawn nor king may go
pub others_go : (q : Board) (k : Kind) (s : ℕ) → same_kind k Pawn ≡ false → same_kind k King ≡ false → aimed q.side k s (occupied_in q.men) ≡ set_of (goes q k s)
unfolding goes
others_go q Pawn s h h' = cc
others_go q Knight s h h' = aims_seen q.men q.side Knight s
others_go q Bishop s h h' = aims_seen q.men q.side Bishop s
others_go q Rook s h h' = aims_seen q.men q.side Rook s
others_go q Queen s h h' = aims_seen q.men q.side Queen s
others_go q King s h h' = cc

-- where the man on s may go and what it may enter
pub ways_of_man : (q : Board) (s : ℕ) (man : Man) → man_at q.men s ≡ Some man → same_color man.color q.side ≡ true
    → set_minus (set_of (goes q man.kind s)) (set_of (λ t. not (may_enter q.side (man_at q.men t)))) ≡ set_of (is_way q s)
unfolding is_way goes_as
ways_of_man q s man found own =
    minus_of (goes q man.kind s) (λ t. not (may_enter q.side (man_at q.men t)))
    ∙ same_set (λ t. goes q man.kind s t && not (not (may_enter q.side (man_at q.men t)))) (λ t. goes_as q s t (man_at q.men s) && may_enter q.side (man_at q.men t)) (λ t small.
    rw (found, own, not-not (may_enter q.side (man_at q.men t))) refl)

grouped : (a b c d : Bool) → ((a || b) || (c || d)) ≡ (a || b || c || d)
grouped true b c d = refl
grouped false true c d = refl
grouped false false true d = refl
grouped false false false d = refl

-- where a pawn may go
pub pawn_goes_to : (q : Board) (s : ℕ) → set_joined (pushes_of q s) (set_of (λ t. is_pawn_capture q s t || is_en_passant q s t)) ≡ set_of (goes q Pawn s)
unfolding goes
pawn_goes_to q s =
    joined_of (λ t. is_step q s t || is_double_step q s t) (λ t. is_pawn_capture q s t || is_en_passant q s t)
    ∙ same_set (λ t. (is_step q s t || is_double_step q s t) || (is_pawn_capture q s t || is_en_passant q s t)) (λ t. is_step q s t || is_double_step q s t || is_pawn_capture q s t || is_en_passant q s t) (λ t small.
    grouped (is_step q s t) (is_double_step q s t) (is_pawn_capture q s t) (is_en_passant q s t))

pub ahead_small : (c : Color) (s : ℕ) → s < 64 → (rank_of s == last_rank c) ≡ false → ahead_of c s < 64
ahead_small White s small inner = (let ne = eqb-false (rank_of s) 7 inner in omega (arith, ne))
ahead_small Black s small inner = omega arith

pub two_small : (c : Color) (s : ℕ) → s < 64 → (rank_of s == second_rank c) ≡ true → ahead_of c (ahead_of c s) < 64
two_small White s small begins = (let e = eqb-true (rank_of s) 1 begins in omega (arith, e))
two_small Black s small begins = omega arith
