-- What a pass has seen is legal, and its own entries there are those that it made.
use Rattle.std.proofs.Common.{◌≡◌, ◌∙◌, sym, subst, Some}
use Rattle.std.proofs.lemmas.Option.{same_Some}
use Rattle.std.specs.declared.option.Option.{Option}
use Rattle.std.specs.declared.snapshot.Snapshot.{Snapshot}
use Rattle.turn_cell.specs.Histories.{entries_of, longer_of, IsLegal, IsWellKnown}
use Rattle.turn_cell.specs.Passes.{Known, IsOf, start, number, seen, mine, Turned, Joined}
use Rattle.turn_cell.specs.declared.object.Object.{Ghosts}
use Rattle.turn_cell.specs.declared.cells.Pass.{Pass}
use Rattle.turn_cell.specs.declared.cells.TurnCell.{TurnCell}
use Rattle.turn_cell.proofs.Prefix.{either_way}

-- a pass of a cell knows a legal history from the cell's first value
module _ {V C R : Type 0} {G : Ghosts V C R} where
  pub knows_of : (cell : TurnCell V C R) (pass : Pass V C R G) → IsOf cell pass → IsWellKnown G.step (start cell) (number pass) (seen pass) (mine pass)
  knows_of cell pass of = pass.knows cell.table.shared.key of.1

module _ {V C R : Type 0} (step : V → C → R → V → Type 0) where
  -- the passes of a cell began with one value
  abbrev pub IsKnown : Option (Snapshot V) → Known C R → Type 0
  IsKnown origin v = (o : Snapshot V) → origin ≡ Some o → IsWellKnown step o.value v.number v.seen v.mine

  from_key : (key : Snapshot V) (origin : Option (Snapshot V)) (v : Known C R) → origin ≡ Some key → IsWellKnown step key.value v.number v.seen v.mine → IsKnown origin v
  from_key key origin v lives known o is = subst (λ (x : Snapshot V). IsWellKnown step x.value v.number v.seen v.mine) (same_Some key o (sym lives ∙ is)) known

  pub turn_knows : (key : Snapshot V) (origin : Option (Snapshot V)) (v w : Known C R) (call : C) (reply : R) → origin ≡ Some key → Turned step key.value v call reply w → IsKnown origin w
  turn_knows key origin v w call reply lives t =
      from_key key origin w lives (∣ (t.last, t.legal) ∣₁, subst (λ n. entries_of n w.seen ≡ w.mine) (sym t.same.0) t.own)

  pub join_knows : (key : Snapshot V) (origin : Option (Snapshot V)) (v w u : Known C R) → origin ≡ Some key → IsLegal step key.value v.seen → IsLegal step key.value w.seen → Joined v w u → IsKnown origin u
  join_knows key origin v w u lives one two j =
      let longer : IsLegal step key.value (longer_of v.seen w.seen) = either_way v.seen w.seen v.seen (λ a b. IsLegal step key.value a) (λ h. two) (λ h. one) in
      from_key key origin u lives (subst (λ xs. IsLegal step key.value xs) (sym j.seen) longer, subst (λ n. entries_of n u.seen ≡ u.mine) (sym j.same.0) j.own)
