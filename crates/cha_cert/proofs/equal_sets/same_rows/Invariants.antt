use Rattle.std.proofs.Common.{◌≡◌, ℕ, ◌<◌, get_or}
use Rattle.mob_sets.specs.Rows.{Row}
use Rattle.cha_cert.proofs.equal_sets.same_rows.Given as goal

-- the rows so far are equal
abbrev pub invariant-loop-index : goal.invariant-loop-index
invariant-loop-index l = (j : ℕ) (d : Row) → j < l.index → get_or l.one j d ≡ get_or l.other j d
