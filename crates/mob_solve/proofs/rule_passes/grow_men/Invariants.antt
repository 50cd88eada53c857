use Rattle.std.proofs.Common.{◌≡◌, ◌<◌, ℕ, false, Some}
use Rattle.cha_board.specs.declared.men.Man.{Man}
use Rattle.cha_board.specs.Board.{man_at}
use Rattle.mob_sets.specs.Mobility.{Sets, IsWithin}
use Rattle.mob_solve.specs.Reaching.{sets_in, Grew}
use Rattle.mob_check.specs.Rules.{ManRules}
use Rattle.mob_solve.proofs.rule_passes.grow_men.Given as goal

abbrev pub invariant-loop-index : goal.invariant-loop-index
invariant-loop-index l = record {
  change : Grew l.fn.reach l.reach l.grew;
  rules : l.grew ≡ false → (o : ℕ) (man : Man) → o < l.index → man_at l.position.men o ≡ Some man → ManRules l.ground (sets_in l.fn.reach) o man;
  inside : (r : Sets) → ((o : ℕ) (man : Man) → man_at l.position.men o ≡ Some man → ManRules l.ground r o man) → IsWithin (sets_in l.fn.reach) r → IsWithin (sets_in l.reach) r;
}
