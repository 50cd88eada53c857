-- The text that says from where on a game was dead (this project).
use Rattle.std.specs.Prelude.{ℕ, ◌-◌, Bool, List, [], ◌++◌, Option, Some, None, codes}
use Rattle.cha_board.specs.declared.men.Color.TheVariants.{White, Black}
use Rattle.cha_verdict.specs.declared.verdicts.Verdict.TheVariants.{Unwinnable}
use Rattle.cha_verdict.specs.declared.scans.Edge.{Edge}
use Rattle.cha_verdict.specs.declared.scans.Edge.TheVariants.{Start, Live, Unclear}
use Rattle.cha_verdict.specs.declared.scans.EarlierCerts.{EarlierCerts}
use Rattle.cha_verdict.specs.declared.scans.Scan.{Scan}
use Rattle.report_words.specs.Counts.{count_text}
use Rattle.flag_report.specs.Findings.{line, cert_part}

-- where nothing was shown about the ply before, that it may have been earlier
unfoldable pub edge_text : Edge → ℕ → List ℕ
edge_text Start ply = []
edge_text Live ply = []
edge_text Unclear ply = count_text (codes " or earlier, ply ") (ply - 1) ++ codes " undecided"

-- the certificates of a dead ply that is not the last one, White's first, where certificates are printed
unfoldable pub earlier_part : Bool → Option EarlierCerts → List ℕ
earlier_part certs None = []
earlier_part certs (Some earlier) = cert_part certs White (Unwinnable earlier.white) ++ cert_part certs Black (Unwinnable earlier.black)

-- the line with the earliest ply that is shown dead, and its certificates
unfoldable pub scan_text : Scan → Bool → List ℕ
scan_text scan certs = line (count_text (codes "dead from: ply ") scan.ply ++ edge_text scan.edge scan.ply) ++ earlier_part certs scan.earlier

-- the same of a game that ends in a dead position, and nothing of another
unfoldable pub scan_part : Option Scan → Bool → List ℕ
scan_part None certs = []
scan_part (Some scan) certs = scan_text scan certs
