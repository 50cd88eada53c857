-- The rules for an origin and a kind, once its row is filled.
use Rattle.std.proofs.Common.{◌≡◌, ℕ, ◌<◌, ◌==◌, Bool, true, false, not, ◌&&◌, List, Some, ap, sym, subst, ◌∙◌}
use Rattle.std.proofs.lemmas.Bool.{and_parts, both_ways}
use Rattle.cha_board.specs.declared.men.Color.{Color}
use Rattle.cha_board.specs.declared.men.Kind.{Kind}
use Rattle.cha_board.specs.declared.men.Kind.TheVariants.{Pawn}
use Rattle.cha_board.specs.declared.men.Man.{Man}
use Rattle.cha_board.specs.Men.{same_kind}
use Rattle.cha_board.specs.Squares.{rank_of, last_rank}
use Rattle.cha_board.specs.SquareSets.{has_square}
use Rattle.cha_board.proofs.Contents.{some_square}
use Rattle.cha_moves.specs.Moves.{is_promotion}
use Rattle.mob_sets.specs.Mobility.{Sets}
use Rattle.mob_check.specs.declared.ground.Ground.{Ground}
use Rattle.mob_check.specs.SingleSteps.{stays}
use Rattle.mob_check.specs.Rules.{goes_on, is_entered, comes_on, ends_on, is_freed, AreRules, ManRules}
use Rattle.mob_check.proofs.RowRules.{rules_from}
use Rattle.mob_solve.specs.declared.reach.Reach.{Reach}
use Rattle.mob_solve.specs.Reaching.{sets_in}
use Rattle.mob_solve.specs.Filled.{IsFilled}

module _ (g : Ground) (o : ℕ) (c : Color) (k : Kind) (row : List Bool) where
  -- the squares of a filled row lie in sets that keep the rules
  pub row_inside : (before : List Bool) (r : Sets) → AreRules g r o c k → IsFilled g c k before row → ((u : ℕ) → has_square before u ≡ true → r.has o k u ≡ true)
      → (u : ℕ) → has_square row u ≡ true → r.has o k u ≡ true
  row_inside before r rules filled holds = filled.least (r.has o k) holds rules.stay

  -- where the man comes from a filled row is in it
  comes_within : (before : List Bool) → IsFilled g c k before row → (t : ℕ) → t < 64 → comes_on g c k row t ≡ true → has_square row t ≡ true
  unfolding comes_on is_entered
  comes_within before filled t small h =
      let both = and_parts (is_entered g c k row t) (stays c k t) h in
      let from = some_square (λ u. has_square row u && goes_on g c k u t) both.0 in
      let two = and_parts (has_square row from.0) (goes_on g c k from.0 t) from.2 in
      filled.closed from.0 t from.1 small two.0 two.1 both.1

  -- where nothing new is asked, the rules hold
  pub row_rules : (before : List Bool) (s : Sets) → o < 64 → ((u : ℕ) → s.has o k u ≡ has_square before u) → IsFilled g c k before row
      → ((u : ℕ) → u < 64 → has_square row u ≡ true → s.has o k u ≡ true)
      → ((j : Kind) → is_promotion (Some j) ≡ true → (t : ℕ) → t < 64 → ends_on g c k row t ≡ true → s.has o j t ≡ true)
      → ((x : ℕ) → x < 64 → is_freed g o c k row x ≡ true → s.loose x ≡ true) → AreRules g s o c k
  row_rules before s small-o is filled come become free =
      rules_from g o c k row s small-o (λ u small here. filled.more u small (sym (is u) ∙ here))
      (λ t small h. come t small (comes_within before filled t small h)) become free

-- a man that is no pawn stays of its kind
pub ends_nowhere : (g : Ground) (c : Color) (k : Kind) (set : List Bool) (t : ℕ) → same_kind k Pawn ≡ false → ends_on g c k set t ≡ true → ⊥
unfolding ends_on stays
ends_nowhere g c k set t piece h =
    let both = and_parts (is_entered g c k set t) (not (not (same_kind k Pawn && (rank_of t == last_rank c)))) h in
    let none : not (not (same_kind k Pawn && (rank_of t == last_rank c))) ≡ false = ap (λ b. not (not (b && (rank_of t == last_rank c)))) piece in
    both_ways (not (not (same_kind k Pawn && (rank_of t == last_rank c)))) none both.1

-- rules of sets hold of equal ones
pub rules_before : (old new : Reach) (g : Ground) (o : ℕ) (c : Color) (k : Kind) → new ≡ old → AreRules g (sets_in new) o c k → AreRules g (sets_in old) o c k
rules_before old new g o c k same rules = (let P : Reach → Type 0 = λ x. AreRules g (sets_in x) o c k in subst P same rules)

pub man_before : (old new : Reach) (g : Ground) (o at : ℕ) (man : Man) → new ≡ old → at ≡ o → ManRules g (sets_in new) at man → ManRules g (sets_in old) o man
man_before old new g o at man same here rules =
    let P : Reach → Type 0 = λ x. ManRules g (sets_in x) o man in
    let Q : ℕ → Type 0 = λ x. ManRules g (sets_in new) x man in
    subst P same (subst Q here rules)
