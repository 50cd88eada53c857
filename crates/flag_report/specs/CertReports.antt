-- What is printed of a certificate that was read and checked (this project).
use Rattle.std.specs.Prelude.{ℕ, List, [], ◌++◌, codes}
use Rattle.cha_board.specs.declared.men.Color.{Color}
use Rattle.cha_board.specs.declared.men.Color.TheVariants.{White, Black}
use Rattle.cert_text.specs.declared.faults.CertFault.{CertFault}
use Rattle.cert_text.specs.declared.faults.CertKind.{CertKind}
use Rattle.cert_text.specs.declared.faults.CertKind.TheVariants.{Header, Winner, Count, Node, Loose, Reach, End, NoMemory, Sets}
use Rattle.report_words.specs.Counts.{count_text}
use Rattle.flag_report.specs.Findings.{line}

-- the certificate is valid: this side cannot mate
unfoldable pub accepted_text : Color → List ℕ
accepted_text White = line (codes "accepted w")
accepted_text Black = line (codes "accepted b")

-- the name of what was wanted on a line; want of memory is none
unfoldable pub kind_text : CertKind → List ℕ
kind_text Header = codes "header"
kind_text Winner = codes "winner"
kind_text Count = codes "count"
kind_text Node = codes "node"
kind_text Loose = codes "loose"
kind_text Reach = codes "reach"
kind_text End = codes "end"
kind_text NoMemory = []
kind_text Sets = codes "sets"

-- the text is no certificate: the number of the first line that does not fit, from 1, and what was wanted there
unfoldable pub misfit_text : CertFault → List ℕ
misfit_text fault = line (count_text (codes "refused: line ") fault.line ++ codes " " ++ kind_text fault.kind)

-- the certificate is not valid: the number of the first node that fails, from 0
unfoldable pub failing_text : ℕ → List ℕ
failing_text number = line (count_text (codes "refused: node ") number)
