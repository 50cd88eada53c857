-- A man that is on no square as a kind asks for nothing.
use Rattle.std.proofs.Common.{◌≡◌, ℕ, ◌-◌, ◌+◌, ◌<◌, Bool, true, false, not, ◌&&◌, ◌||◌, ◌==◌, List, ap, sym, ◌∙◌, inl, inr}
use Rattle.std.specs.List.{list_any}
use Rattle.std.proofs.lemmas.Bool.{and_parts, or_cases, both_ways, eqb-true, not-true}
use Rattle.cha_board.specs.declared.men.Color.{Color}
use Rattle.cha_board.specs.declared.men.Color.TheVariants.{White, Black}
use Rattle.cha_board.specs.declared.men.Kind.{Kind}
use Rattle.cha_board.specs.declared.men.Kind.TheVariants.{Pawn}
use Rattle.cha_board.specs.Men.{other_color, same_kind}
use Rattle.cha_board.specs.Squares.{squares, rank_of}
use Rattle.cha_board.specs.Shifts.{is_ahead}
use Rattle.cha_board.specs.SquareSets.{set_of, set_common, has_square, has_no_square}
use Rattle.cha_board.proofs.Scans.{any_square_at}
use Rattle.cha_board.proofs.SetLaws.{has-set_of}
use Rattle.cha_board.proofs.Contents.{some_square, in_set_of}
use Rattle.mob_law.specs.Reach.{steps_to}
use Rattle.mob_sets.specs.Mobility.{Sets}
use Rattle.mob_check.specs.declared.ground.Ground.{Ground}
use Rattle.mob_check.specs.SingleSteps.{is_stepped_to, stays}
use Rattle.mob_check.specs.Grounds.{side_in}
use Rattle.mob_check.specs.Rules.{is_barred, goes_on, is_entered, comes_on, ends_on, is_struck, passes_on, is_passed, is_left, is_freed, AreRules}
use Rattle.mob_check.proofs.RowRules.{rules_from}

-- no square is in the empty set
no_square : (set : List Bool) → has_no_square set ≡ true → (u : ℕ) → u < 64 → has_square set u ≡ true → ⊥
unfolding has_no_square
no_square set none u small here =
    let some = any_square_at (has_square set) u small here in
    let never = not-true (list_any (has_square set) squares) none in
    cc

module _ (g : Ground) (o : ℕ) (c : Color) (k : Kind) (set : List Bool) (none : (u : ℕ) → u < 64 → has_square set u ≡ true → ⊥) where
  entered_none : (t : ℕ) → is_entered g c k set t ≡ true → ⊥
  unfolding is_entered
  entered_none t h =
      let from = some_square (λ u. has_square set u && goes_on g c k u t) h in
      none from.0 from.1 (and_parts (has_square set from.0) (goes_on g c k from.0 t) from.2).0

  stepped_none : (t : ℕ) → is_stepped_to c k set t ≡ true → ⊥
  unfolding is_stepped_to
  stepped_none t h =
      let from = some_square (λ u. has_square set u && steps_to c k u t) h in
      none from.0 from.1 (and_parts (has_square set from.0) (steps_to c k from.0 t) from.2).0

  ahead_none : (d : Color) (a : ℕ → Bool) → ((t : ℕ) → a t ≡ true → ⊥) → (x : ℕ) → is_ahead d (set_of a) x ≡ true → ⊥
  ahead_none White a never x h =
      let both = and_parts (not (rank_of x == 0)) (has_square (set_of a) (x - 8)) h in
      never (x - 8) (in_set_of a (x - 8) both.1).1
  ahead_none Black a never x h =
      let both = and_parts (not (rank_of x == 7)) (has_square (set_of a) (x + 8)) h in
      never (x + 8) (in_set_of a (x + 8) both.1).1

  struck_none : (x : ℕ) → is_struck g c k set x ≡ true → ⊥
  unfolding is_struck
  struck_none x h =
      let first = has_square g.fixed x && has_square (side_in g (other_color c)).men x && not (is_barred g c k x) in
      stepped_none x (and_parts first (is_stepped_to c k set x) h).1

  passed_none : (x : ℕ) → is_passed g c k set x ≡ true → ⊥
  unfolding is_passed passes_on
  passed_none x h =
      let both = and_parts (same_kind k Pawn) (is_ahead (other_color c) (set_of (passes_on g c k set)) x) h in
      ahead_none (other_color c) (passes_on g c k set)
      (λ t passes. stepped_none t (and_parts (has_square (side_in g c).target t) (is_stepped_to c k set t) passes).1) x both.1

  left_none : o < 64 → (x : ℕ) → is_left g o c k set x ≡ true → ⊥
  unfolding is_left
  left_none small x h =
      let a = and_parts ((x == o) && has_square set o) (list_any (goes_on g c k o) squares) h in
      none o small (and_parts (x == o) (has_square set o) a.0).1

  freed_none : o < 64 → (x : ℕ) → is_freed g o c k set x ≡ true → ⊥
  unfolding is_freed
  freed_none small x h = elim (or_cases (is_struck g c k set x || is_passed g c k set x) (is_left g o c k set x) h) [
    | inl e ↦ (elim (or_cases (is_struck g c k set x) (is_passed g c k set x) e) [
      | inl f ↦ struck_none x f
      | inr f ↦ passed_none x f
    ])
    | inr e ↦ left_none small x e
  ]

  -- where a man is on no square as a kind, the rules for that kind hold
  pub none_asked : (s : Sets) → o < 64 → ((u : ℕ) → s.has o k u ≡ has_square set u) → AreRules g s o c k
  unfolding comes_on ends_on
  none_asked s small is =
      rules_from g o c k set s small (λ u inside here. sym (is u) ∙ here)
      (λ t inside h. absurd (entered_none t (and_parts (is_entered g c k set t) (stays c k t) h).0))
      (λ j promotion t inside h. absurd (entered_none t (and_parts (is_entered g c k set t) (not (stays c k t)) h).0))
      (λ x inside h. absurd (freed_none small x h))

-- the same of a set that is told to be empty
pub nothing_asked : (g : Ground) (o : ℕ) (c : Color) (k : Kind) (set : List Bool) → has_no_square set ≡ true
    → (s : Sets) → o < 64 → ((u : ℕ) → s.has o k u ≡ has_square set u) → AreRules g s o c k
nothing_asked g o c k set none s small is = none_asked g o c k set (no_square set none) s small is

-- a man that is no pawn, where no man of the other side is fixed, frees its origin alone
pub freed_alone : (g : Ground) (o : ℕ) (c : Color) (k : Kind) (s : Sets) (prey : List Bool) → same_kind k Pawn ≡ false → s.loose o ≡ true → prey ≡ set_common g.fixed (side_in g (other_color c)).men → has_no_square prey ≡ true
    → (row : List Bool) (x : ℕ) → x < 64 → is_freed g o c k row x ≡ true → s.loose x ≡ true
unfolding is_freed is_struck is_passed is_left set_common
freed_alone g o c k s prey piece loose is none row x small h =
    let men = (side_in g (other_color c)).men in
    elim (or_cases (is_struck g c k row x || is_passed g c k row x) (is_left g o c k row x) h) [
      | inl two ↦ elim (or_cases (is_struck g c k row x) (is_passed g c k row x) two) [
        | inl struck ↦
            let first = and_parts (has_square g.fixed x && has_square men x && not (is_barred g c k x)) (is_stepped_to c k row x) struck in
            let second = and_parts (has_square g.fixed x && has_square men x) (not (is_barred g c k x)) first.0 in
            absurd (no_square prey none x small (ap (λ set. has_square set x) is ∙ has-set_of (λ u. has_square g.fixed u && has_square men u) x small ∙ second.0))
        | inr passed ↦ absurd (both_ways (same_kind k Pawn) piece (and_parts (same_kind k Pawn) (is_ahead (other_color c) (set_of (passes_on g c k row)) x) passed).0)
      ]
      | inr left ↦
          let parts = and_parts ((x == o) && has_square row o) (list_any (goes_on g c k o) squares) left in
          let same : x ≡ o = eqb-true x o (and_parts (x == o) (has_square row o) parts.0).0 in
          ap s.loose same ∙ loose
    ]
