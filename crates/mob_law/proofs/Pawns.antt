-- Moves of pawns: steps, double steps, captures, captures en passant, and promotion.
use Rattle.std.proofs.Common.{◌≡◌, ◌≢◌, ℕ, ◌+◌, ◌-◌, ◌/◌, ◌%◌, true, false, not, ◌&&◌, ◌==◌, Option, Some, None, refl, sym, subst, ap, ◌∙◌, arith, inl, inr}
use Rattle.std.proofs.lemmas.Bool.{and_parts, and_from, both_ways, false_from_ne_true, not-true, eq-eqb}
use Rattle.std.proofs.lemmas.Option.{same_Some}
use Rattle.cha_board.specs.declared.men.Color.{Color}
use Rattle.cha_board.specs.declared.men.Color.TheVariants.{White, Black}
use Rattle.cha_board.specs.declared.men.Kind.{Kind}
use Rattle.cha_board.specs.declared.men.Kind.TheVariants.{Pawn, King}
use Rattle.cha_board.specs.declared.men.Man.{Man}
use Rattle.cha_board.specs.Men.{other_color, same_color, same_kind, is_man, is_non_king}
use Rattle.cha_board.specs.Squares.{rank_of, last_rank, files_apart, is_rank_ahead, aims_at}
use Rattle.cha_board.specs.Board.{Board, man_at, is_empty}
use Rattle.cha_moves.specs.Step.{Move}
use Rattle.cha_moves.specs.Moves.{second_rank, fourth_rank, middle, is_step, is_double_step, is_pawn_capture, is_target, is_en_passant, goes, promotes_well, arriving, victim_of}
use Rattle.cha_board.proofs.Identity.{same_color_self, same_color_equal, man_of}
use Rattle.cha_moves.proofs.Made.{Step}
use Rattle.cha_moves.proofs.Kept.{Target, target_of, promoted}
use Rattle.cha_moves.proofs.Validity.{step_tests, double_step, pawn_way, Steps, DoubleSteps, Captures, Passes}
use Rattle.mob_law.specs.Reach.{is_fixed}
use Rattle.mob_sets.specs.Mobility.{Sets}
use Rattle.mob_law.specs.Closed.{Entry, Enters, PawnCaptures, IsClosed}
use Rattle.mob_law.proofs.CarriedFacts.{Passed, AtFirst, JustNow, Facts}
use Rattle.mob_law.proofs.Standing.{loose_unfixed, empty_not_fixed, origin_is_non_king, entry_of}
use Rattle.mob_law.proofs.OneMan.{Lands}
use Rattle.mob_law.proofs.PieceMoves.{enemy_there, spared}

-- what a pawn that enters a square becomes there is in reach there
pawn_reach : (p : Board) (s : Sets) (o : ℕ) (c : Color) (u t : ℕ) (man new : Man) (b : Option Kind) → Enters p s o c u t → man.kind ≡ Pawn → promotes_well c man.kind t b ≡ true → arriving (Some man) b ≡ Some new → s.has o new.kind t ≡ true
pawn_reach p s o c u t man new None enters pawn well arrives =
    let one : man ≡ new = same_Some man new arrives in
    let kind : Pawn ≡ new.kind = sym pawn ∙ ap (λ (x : Man). x.kind) one in
    let P : Kind → Type 0 = λ k. s.has o k t ≡ true in
    let is : same_kind man.kind Pawn ≡ true = rw pawn refl in
    elim (promoted c man.kind t None well) [
      | inl x ↦ cc
      | inr x ↦ subst P kind (enters.stays (λ last.
          both_ways (same_kind man.kind Pawn && (rank_of t == last_rank c)) x.1 (and_from (same_kind man.kind Pawn) (rank_of t == last_rank c) is (eq-eqb (rank_of t) (last_rank c) last))))
    ]
pawn_reach p s o c u t man new (Some k) enters pawn well arrives =
    let late : Man = record { color = man.color; kind = k } in
    let kind : k ≡ new.kind = ap (λ (x : Man). x.kind) (same_Some late new arrives) in
    let P : Kind → Type 0 = λ j. s.has o j t ≡ true in
    elim (promoted c man.kind t (Some k) well) [
      | inl x ↦ subst P kind (enters.becomes x.1 k x.2)
      | inr x ↦ cc
    ]

-- a pawn of the side to move, as an entry of the sets
record PawnMover (p : Board) (s : Sets) (q : Board) (origin : ℕ → ℕ) (m : Move) (man : Man) : Type 0 where
  first : Man
  color : first.color ≡ q.side
  entry : Entry p s (origin m.from) first Pawn m.from m.to

-- the pawn that has just passed over a target does not stand on its second rank
victim_rank : (q : Board) (c : Color) (t : ℕ) → Target q.men c t → rank_of (victim_of c t) ≢ second_rank (other_color c)
victim_rank q White t target e = (let rank : t / 8 ≡ 5 = target.rank in let there : (t - 8) / 8 ≡ 6 = e in omega (arith, rank, there))
victim_rank q Black t target e = (let rank : t / 8 ≡ 2 = target.rank in let there : (t + 8) / 8 ≡ 1 = e in omega (arith, rank, there))

-- squares of one file are 0 files apart
one_file : (s t : ℕ) → s % 8 ≡ t % 8 → files_apart s t ≡ 0
unfolding files_apart
one_file s t e = omega arith

-- a capture en passant: the pawn enters its square, and neither that nor the captured pawn's square is fixed
record EnPassant (p : Board) (s : Sets) (q : Board) (origin : ℕ → ℕ) (m : Move) : Type 0 where
  enters : Enters p s (origin m.from) q.side m.from m.to
  unfixed : is_fixed p s m.to ≡ false
  victim : is_fixed p s (victim_of q.side m.to) ≡ false

-- A pawn's move at a position where the facts hold:
module _ (p : Board) (s : Sets) (q : Board) (origin : ℕ → ℕ) (m : Move) (man : Man) (closed : IsClosed p s) (facts : Facts p s q origin) (step : Step q m man) (pawn : man.kind ≡ Pawn) where
  -- the pawn is an entry, by the fact that each man is in reach where it stands
  pawn_mover : PawnMover p s q origin m man
  pawn_mover =
      let from = facts.each m.from man step.may.found in
      let E : Kind → Type 0 = λ k. Entry p s (origin m.from) from.first k m.from m.to in
      record {
        first = from.first;
        color = from.color ∙ same_color_equal man.color q.side step.may.own;
        entry = subst E pawn (entry_of p s q origin facts m.from m.to man step.may.found step.from step.to);
      }

  -- the rule for captures, at the squares of the move
  captures_of : aims_at q.side Pawn m.from m.to ≡ true → PawnCaptures p s (origin m.from) q.side m.from m.to
  captures_of aims =
      let mover = pawn_mover in
      let C : Color → Type 0 = λ c. PawnCaptures p s (origin m.from) c m.from m.to in
      let A : Color → Type 0 = λ c. aims_at c Pawn m.from m.to ≡ true in
      subst C mover.color (closed.pawns_capture (origin m.from) mover.first m.from m.to mover.entry (subst A (sym mover.color) aims))

  -- a capture en passant gives this: at the first position by the rule for the target; later because the pawn
  -- that has just passed over the square is in reach there as an enemy, and is not fixed, since it has left its second rank
  passes_by : PawnCaptures p s (origin m.from) q.side m.from m.to
      → is_man (other_color q.side) Pawn (man_at q.men (victim_of q.side m.to)) ≡ true → is_fixed p s m.to ≡ false → rank_of (victim_of q.side m.to) ≢ second_rank (other_color q.side)
      → Passed p s q origin m.to → EnPassant p s q origin m
  passes_by takes victim free rank (AtFirst here side) = record {
    enters = takes.en_passant here side;
    unfixed = free;
    victim = loose_unfixed p s (victim_of q.side m.to) (takes.victim here side);
  }
  passes_by takes victim free rank (JustNow second reach) =
      let v = victim_of q.side m.to in
      let k = man_of (man_at q.men v) (other_color q.side) Pawn victim in
      let color = k.color in
      let other : same_kind k.man.kind King ≡ false = (let e = k.kind in rw e refl) in
      let first = facts.each v k.man k.found in
      let enemy : is_non_king (other_color q.side) (Some first.first) ≡ true =
      (let P : Option Man → Type 0 = λ x. is_non_king (other_color q.side) x ≡ true in
      subst P first.stood (origin_is_non_king p s q origin facts (other_color q.side) v k.man k.found (rw color (same_color_self (other_color q.side))) other)) in
      record {
        enters = takes.captures free (record { origin = origin v; man = first.first; kind = Pawn; stood = first.stood; enemy = enemy; reach = reach });
        unfixed = free;
        victim = false_from_ne_true (is_fixed p s v) (λ f. rank (let own = (facts.fixed v f).1 in rw own at second));
      }

  -- which of the two it is, the fact on the target says
  passes_of : is_en_passant q m.from m.to ≡ true → EnPassant p s q origin m
  unfolding is_en_passant
  passes_of h =
      let both = and_parts (aims_at q.side Pawn m.from m.to) (is_target q.target m.to) h in
      let target = target_of q m.from m.to step.valid h in
      let takes = captures_of both.0 in
      passes_by takes target.pawn (empty_not_fixed p s q origin facts m.to target.free) (victim_rank q q.side m.to target) (facts.target m.to both.1)

  -- a pawn that enters a square, which is not fixed, lands there as the facts need it
  lands_by : is_fixed p s m.to ≡ false → Enters p s (origin m.from) q.side m.from m.to → Lands p s q origin m man
  lands_by free enters = record {
    unfixed = free;
    leaves = enters.leaves;
    reach = λ new arrives. pawn_reach p s (origin m.from) q.side m.from m.to man new m.promotion enters pawn step.may.well arrives;
    victim = λ h. (passes_of (and_parts (is_man q.side Pawn (man_at q.men m.from)) (is_en_passant q m.from m.to) h).1).victim;
  }

  -- a step: its square is empty, so not fixed, and the pawn enters it
  steps : is_step q m.from m.to ≡ true → Lands p s q origin m man
  steps h =
      let tests = step_tests q m.from m.to h in
      let mover = pawn_mover in
      let free = empty_not_fixed p s q origin facts m.to tests.2 in
      let A : Color → Type 0 = λ c. is_rank_ahead c m.from m.to ≡ true in
      let E : Color → Type 0 = λ c. Enters p s (origin m.from) c m.from m.to in
      lands_by free
      (subst E mover.color (closed.pawns_step (origin m.from) mover.first m.from m.to mover.entry tests.0 (subst A (sym mover.color) tests.1) free))

  -- a double step: both squares are empty, so not fixed, and the pawn enters the second
  doubles : is_double_step q m.from m.to ≡ true → Lands p s q origin m man
  doubles h =
      let d = double_step q m.from m.to h in
      let mover = pawn_mover in
      let free = empty_not_fixed p s q origin facts m.to d.free_to in
      let over = empty_not_fixed p s q origin facts (middle m.from m.to) d.free in
      let B : Color → Type 0 = λ c. rank_of m.from ≡ second_rank c in
      let F : Color → Type 0 = λ c. rank_of m.to ≡ fourth_rank c in
      let E : Color → Type 0 = λ c. Enters p s (origin m.from) c m.from m.to in
      lands_by free
      (subst E mover.color (closed.pawns_double_step (origin m.from) mover.first m.from m.to mover.entry (one_file m.from m.to d.file) (subst B (sym mover.color) d.begins) (subst F (sym mover.color) d.ends) over free))

  -- a capture: what stands there is an enemy, in reach there, and not a fixed one
  captures_at : aims_at q.side Pawn m.from m.to ≡ true → is_empty q.men m.to ≡ false
      → (o : Option Man) → man_at q.men m.to ≡ o → Lands p s q origin m man
  captures_at aims full None there = absurd (both_ways (is_empty q.men m.to) full (rw there refl))
  captures_at aims full (Some enemy) there =
      let takes = captures_of aims in
      let free = spared p s q origin facts q.side m.to step.may.enter takes.spares in
      let N : Option Man → Type 0 = λ x. is_non_king (other_color q.side) x ≡ true in
      let foe : is_non_king (other_color q.side) (Some enemy) ≡ true = subst N there (enemy_there q.side (man_at q.men m.to) step.may.enter full) in
      let parts = and_parts (same_color enemy.color (other_color q.side)) (not (same_kind enemy.kind King)) foe in
      let from = facts.each m.to enemy there in
      let enemy_first : is_non_king (other_color q.side) (Some from.first) ≡ true =
      subst N from.stood (origin_is_non_king p s q origin facts (other_color q.side) m.to enemy there parts.0 (not-true (same_kind enemy.kind King) parts.1)) in
      lands_by free
      (takes.captures free (record { origin = origin m.to; man = from.first; kind = enemy.kind; stood = from.stood; enemy = enemy_first; reach = from.reach }))

  captures : is_pawn_capture q m.from m.to ≡ true → Lands p s q origin m man
  unfolding is_pawn_capture
  captures h =
      let both = and_parts (aims_at q.side Pawn m.from m.to) (not (is_empty q.men m.to)) h in
      captures_at both.0 (not-true (is_empty q.men m.to) both.1) (man_at q.men m.to) refl

  -- a capture en passant: the pawn enters the square passed over
  passes : is_en_passant q m.from m.to ≡ true → Lands p s q origin m man
  passes h =
      let x = passes_of h in
      lands_by x.unfixed x.enters

  -- each move of a pawn is one of the four
  pub pawn_lands : Lands p s q origin m man
  pawn_lands =
      let G : Kind → Type 0 = λ k. goes q k m.from m.to ≡ true in
      elim (pawn_way q m.from m.to (subst G pawn step.may.goes)) [
        | Steps h ↦ steps h
        | DoubleSteps h ↦ doubles h
        | Captures h ↦ captures h
        | Passes h ↦ passes h
      ]
