-- A move of one man: what the rules of closed sets owe it, and that it then carries the facts along.
use Rattle.std.proofs.Common.{◌≡◌, ◌≢◌, ℕ, ◌<◌, true, false, cond, ◌&&◌, ◌==◌, ◌⊎◌, List, length, Option, Some, None, slice_set, refl, sym, subst, ap, ◌∙◌, arith, inl, inr}
use Rattle.std.proofs.lemmas.Bool.{and_parts, both_ways, cases_Bool, cases_eq, eqb-true, eqb-false, eq-eqb, ne_eqb}
use Rattle.cha_board.specs.declared.men.Color.{Color}
use Rattle.cha_board.specs.declared.men.Kind.{Kind}
use Rattle.cha_board.specs.declared.men.Kind.TheVariants.{Pawn}
use Rattle.cha_board.specs.declared.men.Man.{Man}
use Rattle.cha_board.specs.declared.castling.Wing.{Wing}
use Rattle.cha_board.specs.Men.{other_color, is_man}
use Rattle.cha_board.specs.Squares.{rank_of, last_rank}
use Rattle.cha_board.specs.Board.{Board, man_at, home_of, corner_of}
use Rattle.cha_moves.specs.Step.{Move}
use Rattle.cha_moves.specs.Moves.{second_rank, middle, is_target, is_double_step, arriving, victim_of, king_castles, captures_en_passant, men_after, target_after, after}
use Rattle.cha_board.proofs.Identity.{other_other, none_some, man_of, is_man_from}
use Rattle.cha_moves.proofs.Made.{Step, put, put_other, length-moved, moved_other, men_moved, makes, Plainly, Passing, OnWing}
use Rattle.cha_moves.proofs.Kept.{arrived_is, victim_of_move}
use Rattle.cha_moves.proofs.Validity.{one_stands, double_step, no_second, right_after, over_it}
use Rattle.mob_law.specs.Reach.{is_fixed}
use Rattle.mob_sets.specs.Mobility.{Sets}
use Rattle.mob_law.specs.Closed.{IsClosed}
use Rattle.mob_law.proofs.CarriedFacts.{Passed, JustNow, Facts}
use Rattle.mob_law.proofs.Standing.{fixed_stands, empty_not_fixed}
use Rattle.mob_law.proofs.Carry.{Comes, Carries}

-- the square from which the man on u came, where one man has gone from `from` to `to`
pub back : ℕ → ℕ → ℕ → ℕ
back from to u = cond (u == to) from u

-- the man on `to` came from `from`, and each other from its own square
pub back_to : (from to u : ℕ) → u ≡ to → back from to u ≡ from
unfolding back
back_to from to u e = rw (eq-eqb u to e) refl

pub back_other : (from to u : ℕ) → u ≢ to → back from to u ≡ u
unfolding back
back_other from to u ne = rw (ne_eqb u to ne) refl

-- what the rules of closed sets owe a move of one man: its square is not fixed, its origin is loose where it leaves it, it
-- is in reach where it arrives, and no fixed pawn is captured en passant
pub record Lands (p : Board) (s : Sets) (q : Board) (origin : ℕ → ℕ) (m : Move) (man : Man) : Type 0 where
  pub unfixed : is_fixed p s m.to ≡ false
  pub leaves : m.from ≡ origin m.from → s.loose (origin m.from) ≡ true
  pub reach : (new : Man) → arriving (Some man) m.promotion ≡ Some new → s.has (origin m.from) new.kind m.to ≡ true
  pub victim : captures_en_passant q (man_at q.men m.from) m.from m.to ≡ true → is_fixed p s (victim_of q.side m.to) ≡ false

-- the man that stands on u after a move of one man: the one that moved, or one that stood there
abbrev pub OneMoved : Board → Move → Man → ℕ → Man → Type 0
OneMoved q m man u new = ((u ≡ m.to) × (arriving (Some man) m.promotion ≡ Some new)) ⊎ ((u ≢ m.from) × (u ≢ m.to) × (man_at q.men u ≡ Some new))

-- what stands where after a move of one man: that man where it arrives, and else what stood there; and on fixed squares
-- other than its two nothing changes
pub record OneMove (p : Board) (s : Sets) (q : Board) (m : Move) (man : Man) : Type 0 where
  pub came : (u : ℕ) (new : Man) → man_at (men_after q m) u ≡ Some new → OneMoved q m man u new
  pub kept : (f : ℕ) → is_fixed p s f ≡ true → f ≢ m.from → f ≢ m.to → man_at (men_after q m) f ≡ man_at q.men f

-- a square that is fixed is none that is not
pub apart_fixed : (p : Board) (s : Sets) (t f : ℕ) → is_fixed p s t ≡ false → is_fixed p s f ≡ true → f ≢ t
apart_fixed p s t f free h e = both_ways (is_fixed p s t) free (rw e at h)

-- a move that is no castling moves one man
pub one_moved : (p : Board) (s : Sets) (q : Board) (m : Move) (man : Man) → Step q m man
    → ((w : Wing) → king_castles q w (man_at q.men m.from) m.from m.to ≡ false)
    → (captures_en_passant q (man_at q.men m.from) m.from m.to ≡ true → is_fixed p s (victim_of q.side m.to) ≡ false) → OneMove p s q m man
one_moved p s q m man step no_castling spared =
    let a = arriving (man_at q.men m.from) m.promotion in
    elim (makes q m) [
      | Plainly x y e ↦ record {
        came = λ u new found. one_stands q m man step u new (ap (λ (xs : List (Option Man)). man_at xs u) (sym e) ∙ found);
        kept = λ f h nf nt. ap (λ (xs : List (Option Man)). man_at xs f) e ∙ moved_other q.men m.from m.to a f nf nt;
      }
      | Passing t e ↦ (
          let v = victim_of q.side m.to in
          let victim = victim_of_move q m man step t in
          let long = length-moved q.men m.from m.to a in
          let inside : v < length (men_moved q m) = omega (arith, long, victim.inside) in
          record {
            came = λ u new found. (
                let there : man_at (slice_set (men_moved q m) v None) u ≡ Some new = ap (λ (xs : List (Option Man)). man_at xs u) (sym e) ∙ found in
                elim (cases_eq u v) [
                  | inl f ↦ absurd (none_some (man_at (slice_set (men_moved q m) v None) u) new (ap (λ x. man_at (slice_set (men_moved q m) v None) x) f ∙ put (men_moved q m) v None inside) there)
                  | inr ne ↦ one_stands q m man step u new (sym (put_other (men_moved q m) v None u ne) ∙ there)
                ]);
            kept = λ f h nf nt. ap (λ (xs : List (Option Man)). man_at xs f) e
                ∙ put_other (men_moved q m) v None f (apart_fixed p s v f (spared t) h) ∙ moved_other q.men m.from m.to a f nf nt;
          })
      | OnWing w t e ↦ absurd (both_ways (king_castles q w (man_at q.men m.from) m.from m.to) (no_castling w) t)
    ]

-- and no two came from one square
one_apart : (q : Board) (m : Move) (man new other : Man) (u v : ℕ)
    → OneMoved q m man u new
    → OneMoved q m man v other
    → back m.from m.to u ≡ back m.from m.to v → u ≡ v
one_apart q m man new other u v (inl (e, a)) (inl (f, b)) same = e ∙ sym f
one_apart q m man new other u v (inl (e, a)) (inr (nf, nt, b)) same = absurd (nf (sym (back_other m.from m.to v nt) ∙ sym same ∙ back_to m.from m.to u e))
one_apart q m man new other u v (inr (nf, nt, a)) (inl (f, b)) same = absurd (nf (sym (back_other m.from m.to u nt) ∙ same ∙ back_to m.from m.to v f))
one_apart q m man new other u v (inr (nf, nt, a)) (inr (mf, mt, b)) same = sym (back_other m.from m.to u nt) ∙ same ∙ back_other m.from m.to v mt

-- a pawn on its own second rank has not moved, since a pawn never arrives there
one_second : (q : Board) (m : Move) (man : Man) (c : Color) (u : ℕ) (new : Man) → Step q m man → new.color ≡ c → new.kind ≡ Pawn → rank_of u ≡ second_rank c
    → OneMoved q m man u new
    → (is_man c Pawn (man_at q.men u) ≡ true) × (back m.from m.to u ≡ u)
one_second q m man c u new step color kind rank (inl (e, arrives)) =
    absurd (no_second q m man new c step arrives (is_man_from (Some new) new c Pawn refl color kind) (ap rank_of (sym e) ∙ rank))
one_second q m man c u new step color kind rank (inr (nf, nt, stays)) =
    (is_man_from (man_at q.men u) new c Pawn stays color kind, back_other m.from m.to u nt)

-- At a position where the facts hold:
module _ (p : Board) (s : Sets) (q : Board) (origin : ℕ → ℕ) (m : Move) (man : Man) (closed : IsClosed p s) (facts : Facts p s q origin) (step : Step q m man) where
  -- the target after a move: a pawn has just passed over it, which had not moved before and has it in reach
  pub target_now : (source : ℕ → ℕ) → source m.to ≡ m.from
      → (t : ℕ) → is_target (target_after q m) t ≡ true → Passed p s (after q m) (λ u. origin (source u)) t
  unfolding target_after after
  target_now source went t here =
      elim (cases_Bool (is_man q.side Pawn (man_at q.men m.from) && is_double_step q m.from m.to)) [
        | inl e ↦ (
            let both = and_parts (is_man q.side Pawn (man_at q.men m.from)) (is_double_step q m.from m.to) e in
            let passed : is_target (Some (middle m.from m.to)) t ≡ true = rw e at here in
            let at : middle m.from m.to ≡ t = eqb-true (middle m.from m.to) t passed in
            let d = double_step q m.from m.to both.1 in
            let g = over_it q.side m.from m.to step.from step.to d.file d.begins d.ends in
            let victim : victim_of (other_color q.side) t ≡ m.to = rw (← at) g.victim in
            let pawn = man_of (man_at q.men m.from) q.side Pawn both.0 in
            let own = facts.second m.from q.side both.0 d.begins in
            let from = facts.each m.from pawn.man pawn.found in
            let color : from.first.color ≡ q.side = from.color ∙ pawn.color in
            let reach : s.has (origin m.from) Pawn m.from ≡ true = (let P : Kind → Type 0 = λ x. s.has (origin m.from) x m.from ≡ true in subst P pawn.kind from.reach) in
            let enters = closed.pawns_step (origin m.from) from.first m.from (middle m.from m.to) (record { stood = from.stood; reach = reach; from = step.from; to = g.small }) g.file (rw color g.ahead) (empty_not_fixed p s q origin facts (middle m.from m.to) d.free) in
            let in_reach : s.has (origin m.from) Pawn (middle m.from m.to) ≡ true = enters.stays (eqb-false (rank_of (middle m.from m.to)) (last_rank from.first.color) (rw color g.not_last)) in
            JustNow (rw (victim, went, own, other_other) d.begins) (rw (victim, went, ← at) in_reach))
        | inr e ↦ (let nothing : is_target None t ≡ true = rw e at here in cc)
      ]

-- With what the rules give of the move:
module _ (p : Board) (s : Sets) (q : Board) (origin : ℕ → ℕ) (m : Move) (man : Man) (closed : IsClosed p s) (facts : Facts p s q origin) (step : Step q m man) (lands : Lands p s q origin m man) where
  -- the square that a man leaves is not fixed
  from_unfixed : (f : ℕ) → is_fixed p s f ≡ true → f ≢ m.from
  from_unfixed f h e =
      let h' : is_fixed p s m.from ≡ true = rw e at h in
      let own = (facts.fixed m.from h').1 in
      let loose : s.loose m.from ≡ true = rw own at (lands.leaves (sym own)) in
      both_ways (s.loose m.from) (fixed_stands p s m.from h').1 loose

  -- each man after the move stood somewhere before it, and is in reach where it stands
  one_comes : (u : ℕ) (new : Man) → OneMoved q m man u new → Comes s q origin new u (back m.from m.to u)
  one_comes u new (inl (e, arrives)) =
      let at : back m.from m.to u ≡ m.from = back_to m.from m.to u e in
      let is = arrived_is q.side man new m.to m.promotion step.may.well arrives in
      let R : ℕ → Type 0 = λ x. s.has (origin (back m.from m.to u)) new.kind x ≡ true in
      let O : ℕ → Type 0 = λ x. s.has (origin x) new.kind m.to ≡ true in
      record {
        old = man;
        stood = ap (λ x. man_at q.men x) at ∙ step.may.found;
        color = is.0;
        kind = is.1;
        reach = subst R (sym e) (subst O (sym at) (lands.reach new arrives));
      }
  one_comes u new (inr (nf, nt, stays)) =
      let at : back m.from m.to u ≡ u = back_other m.from m.to u nt in
      let O : ℕ → Type 0 = λ x. s.has (origin x) new.kind u ≡ true in
      record {
        old = new;
        stood = ap (λ x. man_at q.men x) at ∙ stays;
        color = refl;
        kind = inl refl;
        reach = subst O (sym at) (facts.each u new stays).reach;
      }

  -- so a move of one man carries the facts along
  pub one_carries : OneMove p s q m man → Carries p s q origin (after q m) (back m.from m.to)
  unfolding after
  one_carries ord = record {
    comes = λ u new found. one_comes u new (ord.came u new found);
    apart = λ u v new other found found' same. one_apart q m man new other u v (ord.came u new found) (ord.came v other found') same;
    fixed = λ f h. (
        let nf = from_unfixed f h in
        let nt = apart_fixed p s m.to f lands.unfixed h in
        (ord.kept f h nf nt, back_other m.from m.to f nt));
    second = λ u c pawn rank. (
        let k = man_of (man_at (men_after q m) u) c Pawn pawn in
        one_second q m man c u k.man step k.color k.kind rank (ord.came u k.man k.found));
    right = λ c w right. (
        let k = right_after q.rights m c w right in
        (k.0, back_other m.from m.to (home_of c) (λ e. k.1.1 (sym e)), back_other m.from m.to (corner_of c w) (λ e. k.2.1 (sym e))));
    target = λ t here. target_now p s q origin m man closed facts step (back m.from m.to) (back_to m.from m.to m.to refl) t here;
  }
