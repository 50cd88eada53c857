-- Kinds of verdicts.
use Rattle.std.specs.Prelude.{◌≤◌, Bool, true, false, ◌&&◌, length, ⊤}
use Rattle.cha_verdict.specs.declared.verdicts.Verdict.{Verdict}
use Rattle.cha_verdict.specs.declared.verdicts.Verdict.TheVariants.{Winnable, Unwinnable, Undecided, Skipped}

-- the side can mate
abbrev pub is_winnable : Verdict → Bool
is_winnable (Winnable moves) = true
is_winnable _ = false

-- the side cannot mate
abbrev pub is_unwinnable : Verdict → Bool
is_unwinnable (Unwinnable cert) = true
is_unwinnable _ = false

-- nothing was shown about the side
abbrev pub is_undecided : Verdict → Bool
is_undecided (Undecided positions depth) = true
is_undecided _ = false

-- the side was not examined
abbrev pub is_skipped : Verdict → Bool
is_skipped Skipped = true
is_skipped _ = false

-- a certificate in a verdict has a number of nodes that its text can name (certificate text, version 1: this project)
abbrev pub IsPrintable : Verdict → Type 0
IsPrintable (Winnable moves) = ⊤
IsPrintable (Unwinnable cert) = (1 ≤ length cert) × (length cert ≤ 4294967295)
IsPrintable (Undecided positions depth) = ⊤
IsPrintable Skipped = ⊤

-- neither side can mate (Laws of Chess, Article 5.2.2)
abbrev pub are_dead : Verdict → Verdict → Bool
are_dead white black = is_unwinnable white && is_unwinnable black
