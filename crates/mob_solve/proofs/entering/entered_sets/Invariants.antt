use Rattle.std.proofs.Common.{◌≡◌, ◌<◌, ℕ, true}
use Rattle.cha_board.specs.declared.men.Kind.{Kind}
use Rattle.mob_sets.specs.Rows.{sets_of}
use Rattle.mob_sets.specs.Mobility.{IsWithin}
use Rattle.mob_solve.specs.Reaching.{sets_in}
use Rattle.mob_solve.proofs.entering.entered_sets.Given as goal

abbrev pub invariant-loop-index : goal.invariant-loop-index
invariant-loop-index l = record {
  has : (o : ℕ) → o < l.index → (k : Kind) (u : ℕ) → (sets_in l.reach).has o k u ≡ true → (sets_of l.sets).has o k u ≡ true;
  loose : (o : ℕ) → o < l.index → (sets_in l.reach).loose o ≡ true → (sets_of l.sets).loose o ≡ true;
  inside : IsWithin (sets_of l.sets) (sets_in l.reach);
}
