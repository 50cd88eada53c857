use Rattle.std.proofs.Common.{◌≡◌, ℕ, ◌<◌, get_or}
use Rattle.mob_sets.specs.Rows.{SetRows}
use Rattle.cha_cert.proofs.sharing.number_of.Given as goal

-- the sets so far are others
abbrev pub invariant-loop-number : goal.invariant-loop-number
invariant-loop-number l = (j : ℕ) (d : SetRows) → j < l.number → get_or l.all j d ≡ l.wanted → ⊥
