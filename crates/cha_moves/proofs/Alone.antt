-- What a legal move of each kind of man changes: one man goes alone, a pawn captures in passing or a king castles; and which square is passed over.
use Rattle.std.proofs.Common.{◌≡◌, ◌≢◌, ℕ, ◌+◌, ◌%◌, ◌<◌, ◌≤◌, ◌==◌, Bool, true, false, not, ◌&&◌, List, Option, Some, None, slice_set, inl, inr, refl, sym, ap, ◌∙◌, arith}
use Rattle.std.specs.List.{Contains}
use Rattle.std.specs.Int.{abs_diff}
use Rattle.std.specs.Option.{is_some}
use Rattle.std.proofs.lemmas.Bool.{and_parts, cases_Bool, both_ways, eqb-true, eqb-false, false_from_ne_true, and_left}
use Rattle.std.proofs.lemmas.Option.{same_Some}
use Rattle.cha_board.specs.declared.men.Color.{Color}
use Rattle.cha_board.specs.declared.men.Color.TheVariants.{White, Black}
use Rattle.cha_board.specs.declared.men.Kind.{Kind}
use Rattle.cha_board.specs.declared.men.Kind.TheVariants.{Pawn, King}
use Rattle.cha_board.specs.declared.men.Man.{Man}
use Rattle.cha_board.specs.declared.castling.Wing.{Wing}
use Rattle.cha_board.specs.declared.castling.Wing.TheVariants.{Kingside, Queenside}
use Rattle.cha_board.specs.Men.{same_kind, is_man}
use Rattle.cha_board.specs.Squares.{rank_of, files_apart, ranks_apart, steps_apart, is_rank_ahead, aims_at}
use Rattle.cha_board.specs.Board.{Board, man_at, is_empty, home_of, goal_of}
use Rattle.cha_board.proofs.Identity.{same_color_equal, man_of, is_man_from, one_kind, two_kinds}
use Rattle.cha_moves.specs.Step.{Move}
use Rattle.cha_moves.specs.Moves.{second_rank, fourth_rank, middle, victim_of, is_target, is_pawn_capture, goes, is_en_passant, castles, is_double_step, arriving, moved, king_castles, rook_castled, captures_en_passant, men_after, target_after, legal}
use Rattle.cha_moves.proofs.Made.{makes, Plainly, Passing, OnWing}
use Rattle.cha_moves.proofs.Kept.{promoted, castling_tests, king_way}
use Rattle.cha_moves.proofs.Listed.{mover_of}
use Rattle.cha_moves.proofs.Near.{king_aims}
use Rattle.cha_moves.proofs.Validity.{pawn_ahead, step_tests, double_step, Steps, DoubleSteps, Captures, Passes, pawn_way}

-- it is of the side to move, and of the kind that is told of the man on that square
pub is_mover : (q : Board) (m : Move) (k told : Kind) (men : List (Option Man)) (from : ℕ) → Contains (legal q) m → men ≡ q.men → from ≡ m.from
    → ((man : Man) → man_at men from ≡ Some man → told ≡ man.kind) → told ≡ k → is_man q.side k (man_at q.men m.from) ≡ true
is_mover q m k told men from h same there tells is =
    let mover = mover_of q m h in
    let found : man_at men from ≡ Some mover.0 = rw (same, there) mover.1.found in
    is_man_from (man_at q.men m.from) mover.0 q.side k mover.1.found (same_color_equal mover.0.color q.side mover.1.own) (sym (tells mover.0 found) ∙ is)

-- the kind that is told of the man on its square is told of it where the move begins
pub kind_told : (q : Board) (m : Move) (told : Kind) (men : List (Option Man)) (from : ℕ) → men ≡ q.men → from ≡ m.from → ((man : Man) → man_at men from ≡ Some man → told ≡ man.kind)
    → (man : Man) → man_at q.men m.from ≡ Some man → told ≡ man.kind
kind_told q m told men from same there tells man found = (let here : man_at men from ≡ Some man = rw (same, there) found in tells man here)

-- a man of this colour and kind
the_man : (o : Option Man) (c : Color) (k : Kind) → is_man c k o ≡ true → o ≡ Some (record { color = c; kind = k })
the_man o c k h =
    let x = man_of o c k h in
    x.found ∙ (λ i. Some (record { color = x.color i; kind = x.kind i }))

-- where no more than one man goes
pub goes_alone : (q : Board) (m : Move) (k : Kind) → is_man q.side k (man_at q.men m.from) ≡ true → m.promotion ≡ None
    → captures_en_passant q (man_at q.men m.from) m.from m.to ≡ false → ((w : Wing) → king_castles q w (man_at q.men m.from) m.from m.to ≡ false)
    → men_after q m ≡ moved q.men m.from m.to (Some (record { color = q.side; kind = k }))
goes_alone q m k man none passing castling =
    elim (makes q m) [
      | Plainly a b e ↦
          e ∙ ap (λ b. moved q.men m.from m.to (arriving (man_at q.men m.from) b)) none ∙ ap (moved q.men m.from m.to) (the_man (man_at q.men m.from) q.side k man)
      | Passing t e ↦ absurd (both_ways (captures_en_passant q (man_at q.men m.from) m.from m.to) passing t)
      | OnWing w t e ↦ absurd (both_ways (king_castles q w (man_at q.men m.from) m.from m.to) (castling w) t)
    ]

pub not_some : (o : Option Kind) → is_some o ≡ false → o ≡ None
not_some None h = refl
not_some (Some k) h = cc

-- a man that is no pawn is not promoted
not_promoted : (q : Board) (m : Move) (k : Kind) → Contains (legal q) m → is_man q.side k (man_at q.men m.from) ≡ true → same_kind k Pawn ≡ false → m.promotion ≡ None
not_promoted q m k h man other =
    let mover = mover_of q m h in
    let no_pawn = one_kind q.side q.side k Pawn (man_at q.men m.from) other man in
    elim (promoted q.side mover.0.kind m.to m.promotion mover.1.well) [
      | inl x ↦ absurd (both_ways (is_man q.side Pawn (man_at q.men m.from)) no_pawn (is_man_from (man_at q.men m.from) mover.0 q.side Pawn mover.1.found (same_color_equal mover.0.color q.side mover.1.own) x.0))
      | inr x ↦ x.0
    ]

-- a man that is no pawn passes over no square
pub no_target : (q : Board) (m : Move) (k : Kind) → is_man q.side k (man_at q.men m.from) ≡ true → same_kind k Pawn ≡ false → None ≡ target_after q m
unfolding target_after
no_target q m k man other =
    rw (and_left (is_man q.side Pawn (man_at q.men m.from)) (is_double_step q m.from m.to) (one_kind q.side q.side k Pawn (man_at q.men m.from) other man)) refl

pub piece_alone : (q : Board) (m : Move) (k : Kind) → Contains (legal q) m → is_man q.side k (man_at q.men m.from) ≡ true → same_kind k Pawn ≡ false → same_kind k King ≡ false
    → men_after q m ≡ moved q.men m.from m.to (Some (record { color = q.side; kind = k }))
piece_alone q m k h man no_pawn no_king =
    let pawn = one_kind q.side q.side k Pawn (man_at q.men m.from) no_pawn man in
    let king = one_kind q.side q.side k King (man_at q.men m.from) no_king man in
    goes_alone q m k man (not_promoted q m k h man no_pawn) (and_left _ (is_en_passant q m.from m.to) pawn) (λ w. and_left _ (castles q w m.from m.to) king)

pub pawn_alone : (q : Board) (m : Move) → is_man q.side Pawn (man_at q.men m.from) ≡ true → m.promotion ≡ None → is_en_passant q m.from m.to ≡ false
    → men_after q m ≡ moved q.men m.from m.to (Some (record { color = q.side; kind = Pawn }))
pawn_alone q m man none passing =
    let king = one_kind q.side q.side Pawn King (man_at q.men m.from) refl man in
    goes_alone q m Pawn man none (two_kinds (is_man q.side Pawn (man_at q.men m.from)) (is_en_passant q m.from m.to) passing) (λ w. and_left _ (castles q w m.from m.to) king)

second_out : (a b : Bool) → a ≡ true → (a && b) ≡ false → b ≡ false
second_out true b h e = e
second_out false b h e = cc

-- a capture en passant takes a pawn away
pub passes : (q : Board) (m : Move) → is_man q.side Pawn (man_at q.men m.from) ≡ true → m.promotion ≡ None → is_en_passant q m.from m.to ≡ true
    → men_after q m ≡ slice_set (moved q.men m.from m.to (Some (record { color = q.side; kind = Pawn }))) (victim_of q.side m.to) None
passes q m man none passing =
    let king = one_kind q.side q.side Pawn King (man_at q.men m.from) refl man in
    let f : Option Man → List (Option Man) = λ (o : Option Man). slice_set (moved q.men m.from m.to o) (victim_of q.side m.to) None in
    elim (makes q m) [
      | Plainly a b e ↦ absurd (both_ways (is_en_passant q m.from m.to) (second_out _ _ man a) passing)
      | Passing t e ↦ e ∙ ap (λ b. f (arriving (man_at q.men m.from) b)) none ∙ ap f (the_man (man_at q.men m.from) q.side Pawn man)
      | OnWing w t e ↦ absurd (both_ways (king_castles q w (man_at q.men m.from) m.from m.to) (and_left _ (castles q w m.from m.to) king) t)
    ]

-- a king that castles goes two files
two_files : (c : Color) (w : Wing) → files_apart (home_of c) (goal_of c w) ≡ 2
unfolding files_apart
two_files White Kingside = refl
two_files White Queenside = refl
two_files Black Kingside = refl
two_files Black Queenside = refl

not_castling : (q : Board) (w : Wing) (s t : ℕ) → files_apart s t ≤ 1 → castles q w s t ≡ false
not_castling q w s t near =
    false_from_ne_true (castles q w s t) (λ h.
    let tests = castling_tests q w s t h in
    let far : files_apart s t ≡ 2 = rw (tests.from_home, tests.to_goal) (two_files q.side w) in
    omega (arith, far, near))

pub king_alone : (q : Board) (m : Move) → Contains (legal q) m → is_man q.side King (man_at q.men m.from) ≡ true → files_apart m.from m.to ≤ 1
    → men_after q m ≡ moved q.men m.from m.to (Some (record { color = q.side; kind = King }))
king_alone q m h man near =
    let pawn = one_kind q.side q.side King Pawn (man_at q.men m.from) refl man in
    goes_alone q m King man (not_promoted q m King h man refl) (and_left _ (is_en_passant q m.from m.to) pawn)
    (λ w. two_kinds (is_man q.side King (man_at q.men m.from)) (castles q w m.from m.to) (not_castling q w m.from m.to near))

-- a king that goes further than to the next file castles: a rook goes over it
pub near_files : (s t : ℕ) → (steps_apart s t == 1) ≡ true → files_apart s t ≤ 1
unfolding steps_apart
near_files s t h = (let e = eqb-true (steps_apart s t) 1 h in omega arith)

never_far : (q : Board) (s t : ℕ) → goes q King s t ≡ true → ((w : Wing) → castles q w s t ≡ false) → 1 < files_apart s t → ⊥
never_far q s t h castling far = elim (king_way q s t h) [
  | inl y ↦ (let near = near_files s t (king_aims q.side s t y) in omega (arith, near, far))
  | inr y ↦ both_ways (castles q y.0 s t) (castling y.0) y.1
]

goes_as_kind : (q : Board) (m : Move) (k : Kind) → Contains (legal q) m → is_man q.side k (man_at q.men m.from) ≡ true → goes q k m.from m.to ≡ true
goes_as_kind q m k h man =
    let mover = mover_of q m h in
    let x = man_of (man_at q.men m.from) q.side k man in
    let same : mover.0 ≡ x.man = same_Some mover.0 x.man (sym mover.1.found ∙ x.found) in
    ap (λ k. goes q k m.from m.to) (sym (ap (λ (y : Man). y.kind) same ∙ x.kind)) ∙ mover.1.goes

arrived : (q : Board) (m : Move) → Contains (legal q) m → is_man q.side King (man_at q.men m.from) ≡ true → arriving (man_at q.men m.from) m.promotion ≡ Some (record { color = q.side; kind = King })
arrived q m h man = ap (arriving (man_at q.men m.from)) (not_promoted q m King h man refl) ∙ the_man (man_at q.men m.from) q.side King man

-- the wing on which a king castles, told by the way that it goes
wing_told : (c : Color) (v w : Wing) (s t : ℕ) → s ≡ home_of c → t ≡ goal_of c v → (s < t → w ≡ Kingside) → (t ≤ s → w ≡ Queenside) → w ≡ v
wing_told c Kingside w s t from to up down = up (omega (arith, from, to))
wing_told White Queenside w s t from to up down = down (omega (arith, from, to))
wing_told Black Queenside w s t from to up down = down (omega (arith, from, to))

pub castles_far : (q : Board) (m : Move) (w : Wing) → Contains (legal q) m → is_man q.side King (man_at q.men m.from) ≡ true → 1 < files_apart m.from m.to → (m.from < m.to → w ≡ Kingside) → (m.to ≤ m.from → w ≡ Queenside)
    → men_after q m ≡ rook_castled (moved q.men m.from m.to (Some (record { color = q.side; kind = King }))) q.side w
castles_far q m w h man far up down =
    elim (makes q m) [
      | Plainly a b e ↦ absurd (never_far q m.from m.to (goes_as_kind q m King h man) (λ v. second_out _ _ man (b v)) far)
      | Passing t e ↦ absurd (both_ways (is_man q.side Pawn (man_at q.men m.from)) (one_kind q.side q.side King Pawn (man_at q.men m.from) refl man) (and_parts (is_man q.side Pawn (man_at q.men m.from)) (is_en_passant q m.from m.to) t).0)
      | OnWing v t e ↦ (
          let tests = castling_tests q v m.from m.to (and_parts (is_man q.side King (man_at q.men m.from)) (castles q v m.from m.to) t).1 in
          let same = wing_told q.side v w m.from m.to tests.from_home tests.to_goal up down in
          e ∙ ap (λ a. rook_castled (moved q.men m.from m.to a) q.side v) (arrived q m h man) ∙ rw same refl)
    ]

-- a pawn goes two ranks by a double step alone
one_rank : (c : Color) (s t : ℕ) → is_rank_ahead c s t ≡ true → ranks_apart s t ≡ 1
unfolding is_rank_ahead ranks_apart
one_rank White s t h = (let e = eqb-true (rank_of t) (rank_of s + 1) h in omega arith)
one_rank Black s t h = (let e = eqb-true (rank_of s) (rank_of t + 1) h in omega arith)

far_ranks : (s t : ℕ) → abs_diff s t ≡ 16 → 1 < ranks_apart s t
unfolding ranks_apart
far_ranks s t e = omega (arith, e)

sixteen : (c : Color) (s t : ℕ) → s % 8 ≡ t % 8 → rank_of s ≡ second_rank c → rank_of t ≡ fourth_rank c → abs_diff s t ≡ 16
sixteen White s t file begins ends = omega (arith, file, begins, ends)
sixteen Black s t file begins ends = omega (arith, file, begins, ends)

goes_double : (q : Board) (s t : ℕ) → goes q Pawn s t ≡ true → 1 < ranks_apart s t → is_double_step q s t ≡ true
unfolding is_pawn_capture is_en_passant
goes_double q s t h far = elim (pawn_way q s t h) [
  | Steps x ↦ (let one = one_rank q.side s t (step_tests q s t x).1 in absurd (omega (arith, one, far)))
  | DoubleSteps x ↦ x
  | Captures x ↦ (let one = one_rank q.side s t (pawn_ahead q.side s t (and_parts (aims_at q.side Pawn s t) (not (is_empty q.men t)) x).0).0 in absurd (omega (arith, one, far)))
  | Passes x ↦ (let one = one_rank q.side s t (pawn_ahead q.side s t (and_parts (aims_at q.side Pawn s t) (is_target q.target t) x).0).0 in absurd (omega (arith, one, far)))
]

pub goes_far : (q : Board) (m : Move) (over : ℕ) → Contains (legal q) m → is_man q.side Pawn (man_at q.men m.from) ≡ true → abs_diff m.from m.to ≡ 16 → over ≡ middle m.from m.to → Some over ≡ target_after q m
unfolding target_after
goes_far q m over h man far e =
    let double = goes_double q m.from m.to (goes_as_kind q m Pawn h man) (far_ranks m.from m.to far) in
    rw (man, double, e) refl

not_double : (q : Board) (m : Move) → (is_double_step q m.from m.to ≡ true → ⊥) → None ≡ target_after q m
unfolding target_after
not_double q m other =
    let none = false_from_ne_true (is_double_step q m.from m.to) other in
    rw (two_kinds (is_man q.side Pawn (man_at q.men m.from)) (is_double_step q m.from m.to) none) refl

pub goes_near : (q : Board) (m : Move) → abs_diff m.from m.to ≢ 16 → None ≡ target_after q m
goes_near q m near =
    not_double q m (λ h. (
    let d = double_step q m.from m.to h in
    near (sixteen q.side m.from m.to d.file d.begins d.ends)))

-- the lower and the higher one of two squares, the second of which lies ahead of the first
abbrev pub lower : Color → ℕ → ℕ → ℕ
lower White s t = s
lower Black s t = t

abbrev pub higher : Color → ℕ → ℕ → ℕ
higher White s t = t
higher Black s t = s

sixteen_up : (c : Color) (s t : ℕ) → s % 8 ≡ t % 8 → rank_of s ≡ second_rank c → rank_of t ≡ fourth_rank c → lower c s t + 16 ≡ higher c s t
sixteen_up White s t file begins ends = omega (arith, file, begins, ends)
sixteen_up Black s t file begins ends = omega (arith, file, begins, ends)

far_up : (c : Color) (s t : ℕ) → lower c s t + 16 ≡ higher c s t → (abs_diff s t ≡ 16) × (lower c s t + 8 ≡ middle s t)
far_up White s t e = (omega (arith, e), omega (arith, e))
far_up Black s t e = (omega (arith, e), omega (arith, e))

-- what a pawn passes over lies midway to the square 16 ahead
pub over_midway : (q : Board) (m : Move) (c : Color) (over : Option ℕ) → c ≡ q.side → Contains (legal q) m → is_man q.side Pawn (man_at q.men m.from) ≡ true
    → (lower c m.from m.to + 16 ≡ higher c m.from m.to → over ≡ Some (lower c m.from m.to + 8)) → (lower c m.from m.to + 16 ≢ higher c m.from m.to → over ≡ None) → over ≡ target_after q m
over_midway q m c over own h man far near = elim (cases_Bool (lower c m.from m.to + 16 == higher c m.from m.to)) [
  | inl x ↦ (
      let e = eqb-true (lower c m.from m.to + 16) (higher c m.from m.to) x in
      let up = far_up c m.from m.to e in
      far e ∙ goes_far q m (lower c m.from m.to + 8) h man up.0 up.1)
  | inr x ↦ (
      let ne = eqb-false (lower c m.from m.to + 16) (higher c m.from m.to) x in
      near ne ∙ not_double q m (λ double. (
      let d = double_step q m.from m.to double in
      ne (sixteen_up c m.from m.to d.file (d.begins ∙ ap second_rank (sym own)) (d.ends ∙ ap fourth_rank (sym own))))))
]

-- a capture en passant passes over no square
pub passes_no_target : (q : Board) (m : Move) → is_en_passant q m.from m.to ≡ true → None ≡ target_after q m
unfolding is_en_passant
passes_no_target q m passing =
    let one = one_rank q.side m.from m.to (pawn_ahead q.side m.from m.to (and_parts (aims_at q.side Pawn m.from m.to) (is_target q.target m.to) passing).0).0 in
    goes_near q m (λ e. (let far = far_ranks m.from m.to e in omega (arith, one, far)))
