-- The position after a legal move is valid.
use Rattle.std.proofs.Common.{◌≡◌, ◌≢◌, ℕ, ◌+◌, ◌-◌, ◌%◌, ◌<◌, ◌≤◌, ◌==◌, true, false, not, ◌&&◌, ◌||◌, List, length, Option, Some, None, slice_set, ◌⊎◌, inl, inr, refl, sym, ◌∙◌, ap, subst, arith}
use Rattle.std.proofs.lemmas.Bool.{and_parts, and_from, or_cases, or_parts, both_ways, eqb-true, eqb-false, eq-eqb, not-true, ne_eqb, cases_eq, cases_Bool, false_from_ne_true, or_left, or_right}
use Rattle.std.proofs.lemmas.Option.{same_Some}
use Rattle.cha_board.specs.declared.men.Color.{Color}
use Rattle.cha_board.specs.declared.men.Color.TheVariants.{White, Black}
use Rattle.cha_board.specs.declared.men.Kind.{Kind}
use Rattle.cha_board.specs.declared.men.Kind.TheVariants.{Pawn, Rook, King}
use Rattle.cha_board.specs.declared.men.Man.{Man}
use Rattle.cha_board.specs.declared.castling.Wing.{Wing}
use Rattle.cha_board.specs.declared.castling.Wing.TheVariants.{Kingside, Queenside}
use Rattle.cha_board.specs.declared.position.Rights.{Rights}
use Rattle.cha_board.specs.Men.{other_color, same_color, same_kind, is_vacant, is_man, is_pawn}
use Rattle.cha_board.specs.Squares.{rank_of, last_rank, files_apart, is_rank_ahead, aims_at}
use Rattle.cha_board.specs.Board.{Board, IsValid, man_at, is_empty, home_of, in_check, is_pawn_at_end, has_pawn_at_end, corner_of, crossing_of, has_right, right_fits, are_at_home, target_fits, target_is_good}
use Rattle.cha_board.proofs.Builds.{pawn_at, pawn_nowhere}
use Rattle.cha_board.proofs.RightLaws.{has-where}
use Rattle.cha_moves.specs.Step.{Move}
use Rattle.cha_moves.specs.Moves.{second_rank, fourth_rank, middle, is_step, is_double_step, is_pawn_capture, is_en_passant, castles, goes, is_promotion, is_target, arriving, victim_of, moved, rook_of, men_after, touches, keeps_right, rights_after, target_after, after, is_pseudo_legal, is_legal_in}
use Rattle.cha_board.proofs.Identity.{all_five, same_color_equal, same_kind_equal, other_other, one_kind, none_some, man_of, is_man_from, pawn_of, if_from}
use Rattle.cha_moves.proofs.Made.{may_gives, Step, put, put_other, length-moved, moved_to, moved_from, moved_other, men_moved, Plainly, Passing, OnWing, makes}
use Rattle.cha_moves.proofs.Kept.{from_to, promoted, arrived_is, Victim, victim_of_move, homes_of, Castling, castling_of, length_after, kings_kept}

-- the man that stands on u after a move: the one that moved, the rook of a castling, or one that stayed
pub data Stands (q : Board) (m : Move) (man : Man) (u : ℕ) (new : Man) : Type 0 where
  Arrived : u ≡ m.to → arriving (Some man) m.promotion ≡ Some new → Stands q m man u new
  Rooked : (i j : ℕ) → Castling q m i j → u ≡ j → rook_of q.side ≡ Some new → Stands q m man u new
  Stayed : u ≢ m.from → u ≢ m.to → man_at q.men u ≡ Some new → Stands q m man u new

-- the same where one man has moved
pub one_stands : (q : Board) (m : Move) (man : Man) → Step q m man → (u : ℕ) (new : Man) → man_at (men_moved q m) u ≡ Some new
    → ((u ≡ m.to) × (arriving (Some man) m.promotion ≡ Some new)) ⊎ ((u ≢ m.from) × (u ≢ m.to) × (man_at q.men u ≡ Some new))
one_stands q m man step u new found =
    let a = arriving (man_at q.men m.from) m.promotion in
    let size = step.valid.size in
    let in_to : m.to < length q.men = omega (arith, step.to, size) in
    let in_from : m.from < length q.men = omega (arith, step.from, size) in
    elim (cases_eq u m.to) [
      | inl e ↦ inl (e, ap (λ o. arriving o m.promotion) (sym step.may.found) ∙ sym (moved_to q.men m.from m.to a in_to) ∙ ap (λ s. man_at (men_moved q m) s) (sym e) ∙ found)
      | inr ne ↦ elim (cases_eq u m.from) [
        | inl f ↦ absurd (none_some (man_at (men_moved q m) u) new (ap (λ s. man_at (men_moved q m) s) f ∙ moved_from q.men m.from m.to a in_from (from_to q m man step.may)) found)
        | inr nf ↦ inr (nf, ne, sym (moved_other q.men m.from m.to a u nf ne) ∙ found)
      ]
    ]

-- the same after a castling, with the squares of the rook
pub data Castled (q : Board) (m : Move) (man : Man) (i j u : ℕ) (new : Man) : Type 0 where
  KingHere : u ≡ m.to → arriving (Some man) m.promotion ≡ Some new → Castled q m man i j u new
  RookHere : u ≡ j → rook_of q.side ≡ Some new → Castled q m man i j u new
  Others : u ≢ m.from → u ≢ m.to → u ≢ i → u ≢ j → man_at q.men u ≡ Some new → Castled q m man i j u new

pub castled : (q : Board) (m : Move) (man : Man) (i j : ℕ) → Step q m man → Castling q m i j → (u : ℕ) (new : Man) → man_at (men_after q m) u ≡ Some new → Castled q m man i j u new
castled q m man i j step castling u new found =
    let rook = rook_of q.side in
    let men : List (Option Man) = moved (men_moved q m) i j rook in
    let long = length-moved q.men m.from m.to (arriving (man_at q.men m.from) m.promotion) in
    let size = step.valid.size in
    let in_i : i < length (men_moved q m) = omega (arith, long, size, castling.small_i) in
    let in_j : j < length (men_moved q m) = omega (arith, long, size, castling.small_j) in
    let there : man_at men u ≡ Some new = ap (λ (xs : List (Option Man)). man_at xs u) (sym castling.men) ∙ found in
    elim (cases_eq u j) [
      | inl e ↦ RookHere e (sym (moved_to (men_moved q m) i j rook in_j) ∙ ap (λ s. man_at men s) (sym e) ∙ there)
      | inr nj ↦ elim (cases_eq u i) [
        | inl f ↦ absurd (none_some (man_at men u) new (ap (λ s. man_at men s) f ∙ moved_from (men_moved q m) i j rook in_i castling.i_j) there)
        | inr ni ↦ elim (one_stands q m man step u new (sym (moved_other (men_moved q m) i j rook u ni nj) ∙ there)) [
          | inl x ↦ KingHere x.0 x.1
          | inr x ↦ Others x.0 x.1 ni nj x.2
        ]
      ]
    ]

castled_stands : (q : Board) (m : Move) (man : Man) (i j u : ℕ) (new : Man) → Castling q m i j → Castled q m man i j u new → Stands q m man u new
castled_stands q m man i j u new castling (KingHere e a) = Arrived e a
castled_stands q m man i j u new castling (RookHere e a) = Rooked i j castling e a
castled_stands q m man i j u new castling (Others f t i' j' a) = Stayed f t a

one_man_stands : (q : Board) (m : Move) (man : Man) → Step q m man → (u : ℕ) (new : Man) → man_at (men_moved q m) u ≡ Some new → Stands q m man u new
one_man_stands q m man step u new found = elim (one_stands q m man step u new found) [
  | inl x ↦ Arrived x.0 x.1
  | inr x ↦ Stayed x.0 x.1 x.2
]

passing_stands : (q : Board) (m : Move) (man : Man) → Step q m man → Victim q m → (u : ℕ) (new : Man) → man_at (slice_set (men_moved q m) (victim_of q.side m.to) None) u ≡ Some new → Stands q m man u new
passing_stands q m man step victim u new found =
    let v = victim_of q.side m.to in
    let men : List (Option Man) = slice_set (men_moved q m) v None in
    let long = length-moved q.men m.from m.to (arriving (man_at q.men m.from) m.promotion) in
    let inside : v < length (men_moved q m) = omega (arith, long, victim.inside) in
    elim (cases_eq u v) [
      | inl e ↦ absurd (none_some (man_at men u) new (ap (λ s. man_at men s) e ∙ put (men_moved q m) v None inside) found)
      | inr ne ↦ one_man_stands q m man step u new (sym (put_other (men_moved q m) v None u ne) ∙ found)
    ]

pub stands : (q : Board) (m : Move) (man : Man) → Step q m man → (u : ℕ) (new : Man) → man_at (men_after q m) u ≡ Some new → Stands q m man u new
stands q m man step u new found = elim (makes q m) [
  | Plainly a b e ↦ one_man_stands q m man step u new (ap (λ (xs : List (Option Man)). man_at xs u) (sym e) ∙ found)
  | Passing t e ↦ passing_stands q m man step (victim_of_move q m man step t) u new (ap (λ (xs : List (Option Man)). man_at xs u) (sym e) ∙ found)
  | OnWing w t e ↦ (let k = castling_of q m w step.valid t e in castled_stands q m man _ _ u new k (castled q m man _ _ step k u new found))
]

-- a pawn that aims at a square is one rank behind it
pub pawn_ahead : (c : Color) (s t : ℕ) → aims_at c Pawn s t ≡ true → (is_rank_ahead c s t ≡ true) × (files_apart s t ≡ 1)
unfolding aims_at
pawn_ahead c s t h =
    let both = and_parts (is_rank_ahead c s t) (files_apart s t == 1) h in
    (both.0, eqb-true (files_apart s t) 1 both.1)

pub step_tests : (q : Board) (s t : ℕ) → is_step q s t ≡ true → (files_apart s t ≡ 0) × (is_rank_ahead q.side s t ≡ true) × (is_empty q.men t ≡ true)
unfolding is_step
step_tests q s t h =
    let both = and_parts ((files_apart s t == 0) && is_rank_ahead q.side s t) (is_empty q.men t) h in
    let way = and_parts (files_apart s t == 0) (is_rank_ahead q.side s t) both.0 in
    (eqb-true (files_apart s t) 0 way.0, way.1, both.1)

-- the tests of a double step
pub record DoubleStep (q : Board) (s t : ℕ) : Type 0 where
  pub file : s % 8 ≡ t % 8
  pub begins : rank_of s ≡ second_rank q.side
  pub ends : rank_of t ≡ fourth_rank q.side
  pub free : is_empty q.men (middle s t) ≡ true
  pub free_to : is_empty q.men t ≡ true

same_file : (s t : ℕ) → files_apart s t ≡ 0 → s % 8 ≡ t % 8
unfolding files_apart
same_file s t e = omega arith

pub double_step : (q : Board) (s t : ℕ) → is_double_step q s t ≡ true → DoubleStep q s t
unfolding is_double_step
double_step q s t h =
    let all = all_five (files_apart s t == 0) (rank_of s == second_rank q.side) (rank_of t == fourth_rank q.side) (is_empty q.men (middle s t)) (is_empty q.men t) h in
    record {
      file = same_file s t (eqb-true (files_apart s t) 0 all.0);
      begins = eqb-true (rank_of s) (second_rank q.side) all.1;
      ends = eqb-true (rank_of t) (fourth_rank q.side) all.2;
      free = all.3;
      free_to = all.4;
    }

-- the ways of a pawn
pub data PawnWay (q : Board) (s t : ℕ) : Type 0 where
  Steps : is_step q s t ≡ true → PawnWay q s t
  DoubleSteps : is_double_step q s t ≡ true → PawnWay q s t
  Captures : is_pawn_capture q s t ≡ true → PawnWay q s t
  Passes : is_en_passant q s t ≡ true → PawnWay q s t

pub pawn_way : (q : Board) (s t : ℕ) → goes q Pawn s t ≡ true → PawnWay q s t
unfolding goes
pawn_way q s t h =
    elim (or_cases (is_step q s t || is_double_step q s t || is_pawn_capture q s t) (is_en_passant q s t) h) [
      | inl x ↦ elim (or_cases (is_step q s t || is_double_step q s t) (is_pawn_capture q s t) x) [
        | inl y ↦ elim (or_cases (is_step q s t) (is_double_step q s t) y) [
          | inl z ↦ Steps z
          | inr z ↦ DoubleSteps z
        ]
        | inr y ↦ Captures y
      ]
      | inr x ↦ Passes x
    ]

-- a pawn goes one rank ahead, or to the rank of a double step
pub pawn_goes : (q : Board) (s t : ℕ) → goes q Pawn s t ≡ true → (is_rank_ahead q.side s t ≡ true) ⊎ (rank_of t ≡ fourth_rank q.side)
unfolding is_pawn_capture is_en_passant
pawn_goes q s t h = elim (pawn_way q s t h) [
  | Steps x ↦ inl (step_tests q s t x).1
  | DoubleSteps x ↦ inr (double_step q s t x).ends
  | Captures x ↦ inl (pawn_ahead q.side s t (and_parts (aims_at q.side Pawn s t) (not (is_empty q.men t)) x).0).0
  | Passes x ↦ inl (pawn_ahead q.side s t (and_parts (aims_at q.side Pawn s t) (is_target q.target t) x).0).0
]

fourth_not_last : (c : Color) → fourth_rank c ≢ last_rank c
fourth_not_last White = omega arith
fourth_not_last Black = omega arith

-- where a pawn comes from a rank between the first and the last, it reaches none of these but by promotion
rank_inside : (c : Color) (s t : ℕ) → s < 64 → (is_rank_ahead c s t ≡ true) ⊎ (rank_of t ≡ fourth_rank c) → (rank_of s ≢ 0) × (rank_of s ≢ 7) → rank_of t ≢ last_rank c → (rank_of t ≢ 0) × (rank_of t ≢ 7)
unfolding is_rank_ahead
rank_inside White s t small (inl h) from last = (let e = eqb-true (rank_of t) (rank_of s + 1) h in (omega arith, last))
rank_inside White s t small (inr e) from last = (omega arith, last)
rank_inside Black s t small (inl h) from last = (let e = eqb-true (rank_of s) (rank_of t + 1) h in (last, omega arith))
rank_inside Black s t small (inr e) from last = (last, omega arith)

second_unreached : (c : Color) (s t : ℕ) → s < 64 → (is_rank_ahead c s t ≡ true) ⊎ (rank_of t ≡ fourth_rank c) → (rank_of s ≢ 0) × (rank_of s ≢ 7) → rank_of t ≡ second_rank c → ⊥
unfolding is_rank_ahead
second_unreached White s t small (inl h) from rank = (let e = eqb-true (rank_of t) (rank_of s + 1) h in let f = from.0 in f (omega arith))
second_unreached White s t small (inr e) from rank = omega arith
second_unreached Black s t small (inl h) from rank = (let e = eqb-true (rank_of s) (rank_of t + 1) h in let f = from.1 in f (omega arith))
second_unreached Black s t small (inr e) from rank = omega arith

-- a pawn stands on none of the two end ranks
pub pawn_inside : (men : List (Option Man)) (s : ℕ) → has_pawn_at_end men ≡ false → s < 64 → is_pawn (man_at men s) ≡ true → (rank_of s ≢ 0) × (rank_of s ≢ 7)
unfolding is_pawn_at_end
pawn_inside men s none small pawn = (
  λ e. both_ways (has_pawn_at_end men) none (pawn_at men s small (and_from (is_pawn (man_at men s)) _ pawn (or_left (rank_of s == 0) (rank_of s == 7) (eq-eqb (rank_of s) 0 e)))),
  λ e. both_ways (has_pawn_at_end men) none (pawn_at men s small (and_from (is_pawn (man_at men s)) _ pawn (or_right (rank_of s == 0) (rank_of s == 7) (eq-eqb (rank_of s) 7 e)))),
)

-- the pawn that moves stands on none of the two end ranks
pub mover_inside : (q : Board) (m : Move) (man : Man) → Step q m man → man.kind ≡ Pawn → (rank_of m.from ≢ 0) × (rank_of m.from ≢ 7)
mover_inside q m man step kind =
    let mine = is_man_from (man_at q.men m.from) man q.side Pawn step.may.found (same_color_equal man.color q.side step.may.own) kind in
    pawn_inside q.men m.from (not-true (has_pawn_at_end q.men) step.valid.pawns) step.from (pawn_of q.side (man_at q.men m.from) mine)

-- how the pawn that moves goes
pub mover_goes : (q : Board) (m : Move) (man : Man) → Step q m man → man.kind ≡ Pawn → (is_rank_ahead q.side m.from m.to ≡ true) ⊎ (rank_of m.to ≡ fourth_rank q.side)
mover_goes q m man step kind =
    pawn_goes q m.from m.to (let P : Kind → Type 0 = λ k. goes q k m.from m.to ≡ true in subst P kind step.may.goes)

unpromoted : (c : Color) (man new : Man) (b : Option Kind) → is_promotion b ≡ true → arriving (Some man) b ≡ Some new → new.kind ≡ Pawn → ⊥
unpromoted c man new None h e pawn = cc
unpromoted c man new (Some k) h e pawn =
    let late : Man = record { color = man.color; kind = k } in
    let f : k ≡ new.kind = ap (λ (x : Man). x.kind) (same_Some late new e) in
    let g : is_promotion (Some Pawn) ≡ true = rw (f, pawn) at h in
    cc

-- a pawn that arrives as a pawn reaches none of the two end ranks
pub pawn_arrives : (q : Board) (m : Move) (man new : Man) → Step q m man → arriving (Some man) m.promotion ≡ Some new → new.kind ≡ Pawn → (man.kind ≡ Pawn) × (rank_of m.to ≢ last_rank q.side)
pawn_arrives q m man new step e pawn =
    elim (promoted q.side man.kind m.to m.promotion step.may.well) [
      | inl x ↦ absurd (unpromoted q.side man new m.promotion x.2 e pawn)
      | inr x ↦ (
          let same : Some man ≡ Some new = ap (arriving (Some man)) (sym x.0) ∙ e in
          let kind : man.kind ≡ Pawn = ap (λ (y : Man). y.kind) (same_Some man new same) ∙ pawn in
          let is : same_kind man.kind Pawn ≡ true = rw kind refl in
          (kind, λ last. both_ways (same_kind man.kind Pawn && (rank_of m.to == last_rank q.side)) x.1 (and_from (same_kind man.kind Pawn) (rank_of m.to == last_rank q.side) is (eq-eqb (rank_of m.to) (last_rank q.side) last))))
    ]

-- a pawn of some side stands there
which_pawn : (o : Option Man) → is_pawn o ≡ true → (c : Color) × (is_man c Pawn o ≡ true)
which_pawn o h = elim (or_cases (is_man White Pawn o) (is_man Black Pawn o) h) [
  | inl x ↦ (White, x)
  | inr x ↦ (Black, x)
]

pawn_stands : (q : Board) (m : Move) (man new : Man) (u : ℕ) → Step q m man → u < 64 → new.kind ≡ Pawn → Stands q m man u new → (rank_of u ≢ 0) × (rank_of u ≢ 7)
pawn_stands q m man new u step small pawn (Arrived e a) =
    let as_pawn = pawn_arrives q m man new step a pawn in
    let to = rank_inside q.side m.from m.to step.from (mover_goes q m man step as_pawn.0) (mover_inside q m man step as_pawn.0) as_pawn.1 in
    (λ f. to.0 (ap rank_of (sym e) ∙ f), λ f. to.1 (ap rank_of (sym e) ∙ f))
pawn_stands q m man new u step small pawn (Rooked i j castling e a) =
    let rook : Man = record { color = q.side; kind = Rook } in
    let f : Rook ≡ Pawn = ap (λ (x : Man). x.kind) (same_Some rook new a) ∙ pawn in
    absurd cc
pawn_stands q m man new u step small pawn (Stayed f t a) =
    pawn_inside q.men u (not-true (has_pawn_at_end q.men) step.valid.pawns) small (pawn_of new.color (man_at q.men u) (is_man_from (man_at q.men u) new new.color Pawn a refl pawn))

-- after a move no pawn stands on the first or the last rank
pub pawns_kept : (q : Board) (m : Move) (man : Man) → Step q m man → has_pawn_at_end (men_after q m) ≡ false
unfolding is_pawn_at_end
pawns_kept q m man step = pawn_nowhere (men_after q m) (λ s small. false_from_ne_true (is_pawn_at_end (men_after q m) s) (λ h.
    let both = and_parts (is_pawn (man_at (men_after q m) s)) ((rank_of s == 0) || (rank_of s == 7)) h in
    let which = which_pawn (man_at (men_after q m) s) both.0 in
    let k = man_of (man_at (men_after q m) s) which.0 Pawn which.1 in
    let inside = pawn_stands q m man k.man s step small k.kind (stands q m man step s k.man k.found) in
    elim (or_cases (rank_of s == 0) (rank_of s == 7) both.1) [
      | inl x ↦ inside.0 (eqb-true (rank_of s) 0 x)
      | inr x ↦ inside.1 (eqb-true (rank_of s) 7 x)
    ]))

-- a pawn never arrives on the rank on which its side's pawns begin
pub no_second : (q : Board) (m : Move) (man new : Man) (c : Color) → Step q m man → arriving (Some man) m.promotion ≡ Some new → is_man c Pawn (Some new) ≡ true → rank_of m.to ≡ second_rank c → ⊥
no_second q m man new c step e pawn rank =
    let k = and_parts (same_color new.color c) (same_kind new.kind Pawn) pawn in
    let is = arrived_is q.side man new m.to m.promotion step.may.well e in
    let as_pawn = pawn_arrives q m man new step e (same_kind_equal new.kind Pawn k.1) in
    let side : q.side ≡ c = sym (same_color_equal man.color q.side step.may.own) ∙ is.0 ∙ same_color_equal new.color c k.0 in
    second_unreached q.side m.from m.to step.from (mover_goes q m man step as_pawn.0) (mover_inside q m man step as_pawn.0) (rank ∙ ap second_rank (sym side))

-- a square that a move neither leaves nor enters
abbrev pub NotTouched : Move → ℕ → Type 0
NotTouched m s = (m.from ≢ s) × (m.to ≢ s)

pub not_touched : (m : Move) (s : ℕ) → not (touches m s) ≡ true → NotTouched m s
not_touched m s h =
    let both = or_parts (m.from == s) (m.to == s) (not-true (touches m s) h) in
    (eqb-false m.from s both.0, eqb-false m.to s both.1)

-- a right that is left was there before, and the move has touched neither its king's home nor its rook's
pub right_after : (r : Rights) (m : Move) (c : Color) (w : Wing) → has_right (rights_after r m) c w ≡ true → (has_right r c w ≡ true) × NotTouched m (home_of c) × NotTouched m (corner_of c w)
unfolding rights_after
right_after r m c w h =
    let x = and_parts (has_right r c w && not (touches m (home_of c))) (not (touches m (corner_of c w))) (sym (has-where (keeps_right r m) c w) ∙ h) in
    let y = and_parts (has_right r c w) (not (touches m (home_of c))) x.0 in
    (y.0, not_touched m (home_of c) y.1, not_touched m (corner_of c w) x.1)

-- none of the squares that the rooks of c leave or enter in a castling
abbrev pub Away : Color → ℕ → Type 0
Away c u = (w : Wing) → (u ≢ corner_of c w) × (u ≢ crossing_of c w)

white_squares : (w : Wing) → (corner_of White w ≤ 7) × (crossing_of White w ≤ 7)
white_squares Kingside = (omega arith, omega arith)
white_squares Queenside = (omega arith, omega arith)

black_squares : (w : Wing) → (56 ≤ corner_of Black w) × (56 ≤ crossing_of Black w)
black_squares Kingside = (omega arith, omega arith)
black_squares Queenside = (omega arith, omega arith)

-- the homes of one side are away from the castlings of the other
pub homes_away : (c d : Color) → home_of c ≢ home_of d → Away d (home_of c) × ((w : Wing) → Away d (corner_of c w))
homes_away White White ne = absurd (ne refl)
homes_away White Black ne = (λ w. (let b = black_squares w in (omega (arith, b), omega (arith, b))), λ v w. (let a = white_squares v in let b = black_squares w in (omega (arith, a, b), omega (arith, a, b))))
homes_away Black White ne = (λ w. (let a = white_squares w in (omega (arith, a), omega (arith, a))), λ v w. (let b = black_squares v in let a = white_squares w in (omega (arith, a, b), omega (arith, a, b))))
homes_away Black Black ne = absurd (ne refl)

aside : (q : Board) (m : Move) (i j : ℕ) → Castling q m i j → (u : ℕ) → Away q.side u → (u ≢ i) × (u ≢ j)
aside q m i j castling u away = (let x = away castling.wing in (λ e. x.0 (e ∙ castling.corner), λ e. x.1 (e ∙ castling.crossing)))

castling_keeps : (q : Board) (m : Move) (i j u : ℕ) → Castling q m i j → u ≢ m.from → u ≢ m.to → (m.from ≡ home_of q.side → Away q.side u) → man_at (men_after q m) u ≡ man_at q.men u
castling_keeps q m i j u castling from to away =
    let others = aside q m i j castling u (away castling.from_home) in
    ap (λ (xs : List (Option Man)). man_at xs u) castling.men ∙ moved_other (men_moved q m) i j (rook_of q.side) u others.0 others.1 ∙ moved_other q.men m.from m.to (arriving (man_at q.men m.from) m.promotion) u from to

-- a man other than a pawn stays where the move touches nothing
pub stays_there : (q : Board) (m : Move) (man : Man) → Step q m man → (c : Color) (k : Kind) (u : ℕ) → is_man c k (man_at q.men u) ≡ true → same_kind k Pawn ≡ false
    → u ≢ m.from → u ≢ m.to → (m.from ≡ home_of q.side → Away q.side u) → man_at (men_after q m) u ≡ man_at q.men u
stays_there q m man step c k u here other from to away =
    let stayed = moved_other q.men m.from m.to (arriving (man_at q.men m.from) m.promotion) u from to in
    elim (makes q m) [
      | Plainly a b e ↦ ap (λ (xs : List (Option Man)). man_at xs u) e ∙ stayed
      | Passing t e ↦ (
          let v = victim_of q.side m.to in
          let victim = victim_of_move q m man step t in
          let ne : u ≢ v = λ f. (
          let no_pawn = one_kind c (other_color q.side) k Pawn (man_at q.men u) other here in
          both_ways (is_man (other_color q.side) Pawn (man_at q.men v)) (ap (λ s. is_man (other_color q.side) Pawn (man_at q.men s)) (sym f) ∙ no_pawn) victim.pawn) in
          ap (λ (xs : List (Option Man)). man_at xs u) e ∙ put_other (men_moved q m) v None u ne ∙ stayed)
      | OnWing w t e ↦ castling_keeps q m _ _ u (castling_of q m w step.valid t e) from to away
    ]

-- a king and a rook at home stay there where their right is left
homes_kept : (q : Board) (m : Move) (man : Man) → Step q m man → (c : Color) (w : Wing) → is_man c King (man_at q.men (home_of c)) ≡ true → is_man c Rook (man_at q.men (corner_of c w)) ≡ true
    → NotTouched m (home_of c) → NotTouched m (corner_of c w) → are_at_home (men_after q m) c w ≡ true
unfolding are_at_home
homes_kept q m man step c w king rook not_home not_rook =
    let apart = λ (e : m.from ≡ home_of q.side). homes_away c q.side (λ f. not_home.0 (e ∙ sym f)) in
    let h = stays_there q m man step c King (home_of c) king refl (λ e. not_home.0 (sym e)) (λ e. not_home.1 (sym e)) (λ e. (apart e).0) in
    let k = stays_there q m man step c Rook (corner_of c w) rook refl (λ e. not_rook.0 (sym e)) (λ e. not_rook.1 (sym e)) (λ e. (apart e).1 w) in
    and_from (is_man c King (man_at (men_after q m) (home_of c))) (is_man c Rook (man_at (men_after q m) (corner_of c w))) (ap (is_man c King) h ∙ king) (ap (is_man c Rook) k ∙ rook)

-- the rights that are left fit the men
pub rights_kept : (q : Board) (m : Move) (man : Man) → Step q m man → (c : Color) (w : Wing) → right_fits (men_after q m) (rights_after q.rights m) c w ≡ true
unfolding right_fits
rights_kept q m man step c w =
    if_from (has_right (rights_after q.rights m) c w) (are_at_home (men_after q m) c w) (λ h.
    let x = right_after q.rights m c w h in
    let homes = homes_of q c w step.valid x.0 in
    homes_kept q m man step c w homes.0 homes.1 x.1 x.2)

-- a double step moves one man
pub double_plain : (q : Board) (m : Move) → is_man q.side Pawn (man_at q.men m.from) ≡ true → is_double_step q m.from m.to ≡ true → men_after q m ≡ men_moved q m
unfolding is_double_step is_en_passant
double_plain q m pawn double =
    let o = man_at q.men m.from in
    let none : is_man q.side King o ≡ false = one_kind q.side q.side Pawn King o refl pawn in
    let straight = (all_five (files_apart m.from m.to == 0) (rank_of m.from == second_rank q.side) (rank_of m.to == fourth_rank q.side) (is_empty q.men (middle m.from m.to)) (is_empty q.men m.to) double).0 in
    elim (makes q m) [
      | Plainly a b e ↦ e
      | Passing t e ↦ (
          let passes = and_parts (is_man q.side Pawn o) (aims_at q.side Pawn m.from m.to && is_target q.target m.to) t in
          let aims = pawn_ahead q.side m.from m.to (and_parts (aims_at q.side Pawn m.from m.to) (is_target q.target m.to) passes.1).0 in
          let zero = eqb-true (files_apart m.from m.to) 0 straight in
          let one = aims.1 in
          absurd (omega (arith, zero, one)))
      | OnWing w t e ↦ absurd (both_ways (is_man q.side King o) none (and_parts (is_man q.side King o) (castles q w m.from m.to) t).0)
    ]

-- a double step passes over the square between, which is one step ahead
pub record Over (c : Color) (s t : ℕ) : Type 0 where
  pub victim : victim_of (other_color c) (middle s t) ≡ t
  pub file : files_apart s (middle s t) ≡ 0
  pub ahead : is_rank_ahead c s (middle s t) ≡ true
  pub not_last : (rank_of (middle s t) == last_rank c) ≡ false
  pub small : middle s t < 64

pub over_it : (c : Color) (s t : ℕ) → s < 64 → t < 64 → s % 8 ≡ t % 8 → rank_of s ≡ second_rank c → rank_of t ≡ fourth_rank c → Over c s t
unfolding files_apart is_rank_ahead
over_it White s t small small' file begins ends = record {
  victim = omega arith;
  file = omega arith;
  ahead = eq-eqb (rank_of (middle s t)) (rank_of s + 1) (omega arith);
  not_last = ne_eqb (rank_of (middle s t)) 7 (omega arith);
  small = omega arith;
}
over_it Black s t small small' file begins ends = record {
  victim = omega arith;
  file = omega arith;
  ahead = eq-eqb (rank_of s) (rank_of (middle s t) + 1) (omega arith);
  not_last = ne_eqb (rank_of (middle s t)) 0 (omega arith);
  small = omega arith;
}

-- a pawn that has made a double step leaves a target that fits
target_set : (c : Color) (men : List (Option Man)) (s t : ℕ) → s < 64 → t < 64 → s % 8 ≡ t % 8 → rank_of s ≡ second_rank c → rank_of t ≡ fourth_rank c
    → is_empty men s ≡ true → is_empty men (middle s t) ≡ true → is_man c Pawn (man_at men t) ≡ true → target_fits men (other_color c) (middle s t) ≡ true
unfolding target_fits
target_set White men s t small small' file begins ends gone free pawn =
    let mid = middle s t in
    let front : mid + 8 ≡ t = omega arith in
    let behind : mid - 8 ≡ s = omega arith in
    let rank = eq-eqb (rank_of mid) 2 (omega arith) in
    and_from _ (is_man White Pawn (man_at men (mid + 8))) (and_from _ (is_empty men (mid - 8)) (and_from (rank_of mid == 2) (is_empty men mid) rank free) (ap (is_empty men) behind ∙ gone)) (ap (λ u. is_man White Pawn (man_at men u)) front ∙ pawn)
target_set Black men s t small small' file begins ends gone free pawn =
    let mid = middle s t in
    let front : mid - 8 ≡ t = omega arith in
    let behind : mid + 8 ≡ s = omega arith in
    let rank = eq-eqb (rank_of mid) 5 (omega arith) in
    and_from _ (is_man Black Pawn (man_at men (mid - 8))) (and_from _ (is_empty men (mid + 8)) (and_from (rank_of mid == 5) (is_empty men mid) rank free) (ap (is_empty men) behind ∙ gone)) (ap (λ u. is_man Black Pawn (man_at men u)) front ∙ pawn)

mid_apart : (c : Color) (s t : ℕ) → s < 64 → t < 64 → s % 8 ≡ t % 8 → rank_of s ≡ second_rank c → rank_of t ≡ fourth_rank c → (middle s t ≢ s) × (middle s t ≢ t)
mid_apart White s t small small' file begins ends = (omega arith, omega arith)
mid_apart Black s t small small' file begins ends = (omega arith, omega arith)

double_target : (q : Board) (m : Move) (man : Man) → Step q m man → is_man q.side Pawn (man_at q.men m.from) ≡ true → is_double_step q m.from m.to ≡ true → target_fits (men_after q m) (other_color q.side) (middle m.from m.to) ≡ true
double_target q m man step pawn double =
    let d = double_step q m.from m.to double in
    let mid = middle m.from m.to in
    let a = arriving (man_at q.men m.from) m.promotion in
    let size = step.valid.size in
    let in_to : m.to < length q.men = omega (arith, step.to, size) in
    let in_from : m.from < length q.men = omega (arith, step.from, size) in
    let over = over_it q.side m.from m.to step.from step.to d.file d.begins d.ends in
    let unpromoted_here : m.promotion ≡ None = (elim (promoted q.side man.kind m.to m.promotion step.may.well) [
      | inl x ↦ absurd (fourth_not_last q.side (sym d.ends ∙ x.1))
      | inr x ↦ x.0
    ]) in
    let there : a ≡ man_at q.men m.from = ap (arriving (man_at q.men m.from)) unpromoted_here in
    let gone : is_empty (men_moved q m) m.from ≡ true = ap is_vacant (moved_from q.men m.from m.to a in_from (from_to q m man step.may)) in
    let free : is_empty (men_moved q m) mid ≡ true = ap is_vacant (moved_other q.men m.from m.to a mid (mid_apart q.side m.from m.to step.from step.to d.file d.begins d.ends).0 (mid_apart q.side m.from m.to step.from step.to d.file d.begins d.ends).1) ∙ d.free in
    let arrived : is_man q.side Pawn (man_at (men_moved q m) m.to) ≡ true = ap (is_man q.side Pawn) (moved_to q.men m.from m.to a in_to ∙ there) ∙ pawn in
    ap (λ (xs : List (Option Man)). target_fits xs (other_color q.side) mid) (double_plain q m pawn double)
    ∙ target_set q.side (men_moved q m) m.from m.to step.from step.to d.file d.begins d.ends gone free arrived

-- the target that a move leaves fits the men
pub target_kept : (q : Board) (m : Move) (man : Man) → Step q m man → target_is_good (men_after q m) (other_color q.side) (target_after q m) ≡ true
unfolding target_after
target_kept q m man step =
    elim (cases_Bool (is_man q.side Pawn (man_at q.men m.from) && is_double_step q m.from m.to)) [
      | inl e ↦ (
          let both = and_parts (is_man q.side Pawn (man_at q.men m.from)) (is_double_step q m.from m.to) e in
          rw e (double_target q m man step both.0 both.1))
      | inr e ↦ rw e refl
    ]

-- the position after a legal move is valid
pub after_is_valid : (q : Board) (m : Move) → IsValid q → m.from < 64 → m.to < 64 → is_legal_in q m ≡ true → IsValid (after q m)
unfolding is_legal_in after
after_is_valid q m valid from to legal =
    let both = and_parts (is_pseudo_legal q m) (not (in_check (men_after q m) q.side)) legal in
    let mover = may_gives q m both.0 in
    let step : Step q m mover.0 = record { valid = valid; from = from; to = to; may = mover.1 } in
    record {
      size = length_after q m ∙ valid.size;
      kings = λ c. kings_kept q m mover.0 step c;
      pawns = ap not (pawns_kept q m mover.0 step);
      opponent = ap (λ c. not (in_check (men_after q m) c)) (other_other q.side) ∙ both.1;
      rights = rights_kept q m mover.0 step;
      target = target_kept q m mover.0 step;
    }
