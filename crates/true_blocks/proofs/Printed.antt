-- What is printed of an outcome without certificates.
use Rattle.std.proofs.Common.{◌≡◌, ℕ, ◌+◌, false, List, [], ◌∷◌, ◌++◌, Option, Some, None, codes, refl, ap, ◌∙◌, append-nil}
use Rattle.cha_board.specs.declared.men.Color.{Color}
use Rattle.cha_board.specs.declared.men.Color.TheVariants.{White, Black}
use Rattle.cha_board.specs.Board.{Board}
use Rattle.cha_limits.specs.Bounds.{Bounds}
use Rattle.cha_verdict.specs.declared.verdicts.Verdict.{Verdict}
use Rattle.cha_verdict.specs.declared.verdicts.Verdict.TheVariants.{Winnable, Unwinnable, Undecided, Skipped}
use Rattle.cha_verdict.specs.declared.decisions.Decision.{Decision}
use Rattle.cha_verdict.specs.declared.scans.Scan.{Scan}
use Rattle.cha_verdict.specs.declared.scans.EarlierCerts.{EarlierCerts}
use Rattle.cha_outcome.specs.declared.outcomes.Outcome.{Outcome}
use Rattle.cha_outcome.specs.declared.outcomes.Outcome.TheVariants.{JudgedPosition, JudgedGame, ListedMates, RefusedLine, UnreadableGame, Replayed}
use Rattle.cha_outcome.specs.declared.questions.FlaggedDraws.{FlaggedDraws}
use Rattle.cha_outcome.specs.declared.status.PositionStatus.{PositionStatus}
use Rattle.report_style.specs.declared.styles.BlockForm.{BlockForm}
use Rattle.report_style.specs.declared.styles.Notation.TheVariants.{Coordinates}
use Rattle.report_style.specs.declared.styles.Style.TheVariants.{Blocks}
use Rattle.flag_report.specs.Findings.{line, verdict_text, winnable_text, cert_part, findings_text}
use Rattle.flag_report.specs.Scans.{scan_text, scan_part, earlier_part}
use Rattle.flag_report.specs.Styles.{body, block, blocks}
use Rattle.true_blocks.specs.Means.{IsMeant}
use Rattle.true_blocks.specs.Plain.{verdict_words, position_lines, dead_line, plain_body, plain_block, plain_blocks, AllMeant}

-- blocks without certificates, with moves in coordinates
abbrev pub plain : BlockForm
plain = record { certs = false; notation = Coordinates }

same_words : (q : Board) (v : Verdict) → verdict_text Coordinates q v ≡ verdict_words v
unfolding verdict_text winnable_text verdict_words
same_words q (Winnable []) = refl
same_words q (Winnable (m ∷ ms)) = refl
same_words q (Unwinnable cert) = refl
same_words q (Undecided positions depth) = refl
same_words q Skipped = refl

no_cert : (w : Color) (v : Verdict) → cert_part false w v ≡ []
unfolding cert_part
no_cert w (Winnable moves) = refl
no_cert w (Unwinnable cert) = refl
no_cert w (Undecided positions depth) = refl
no_cert w Skipped = refl

side : (label : List ℕ) (q : Board) (w : Color) (v : Verdict) → line (label ++ verdict_text Coordinates q v) ++ cert_part false w v ≡ line (label ++ verdict_words v)
side label q w v = ap (λ x. line (label ++ verdict_text Coordinates q v) ++ x) (no_cert w v) ∙ append-nil (line (label ++ verdict_text Coordinates q v)) ∙ ap (λ x. line (label ++ x)) (same_words q v)

found : (q : Board) (d : Decision) (status : PositionStatus) → findings_text plain q d status ≡ position_lines q d status
unfolding findings_text position_lines
found q d status = rw (side (codes "white: ") q White d.white, side (codes "black: ") q Black d.black) refl

no_earlier : (earlier : Option EarlierCerts) → earlier_part false earlier ≡ []
unfolding earlier_part
no_earlier None = refl
no_earlier (Some certs) = rw (no_cert White (Unwinnable certs.white), no_cert Black (Unwinnable certs.black)) refl

dead_from : (scan : Option Scan) → scan_part scan false ≡ dead_line scan
unfolding scan_part scan_text dead_line
dead_from None = refl
dead_from (Some scan) = rw (no_earlier scan.earlier) (append-nil _)

same_body : (limits : Bounds) (draws : FlaggedDraws) (o : Outcome) → IsMeant limits draws o → body plain o ≡ plain_body o
unfolding body plain_body IsMeant
same_body limits draws (JudgedPosition number q d status) h = found q d status
same_body limits draws (JudgedGame game d scan status judgment) h = rw (found game.last d status, dead_from scan) refl
same_body limits draws (ListedMates number q depth found) h = absurd h
same_body limits draws (RefusedLine number fault) h = refl
same_body limits draws (UnreadableGame span why) h = refl
same_body limits draws (Replayed game) h = absurd h

pub same_block : (limits : Bounds) (draws : FlaggedDraws) (number : ℕ) (o : Outcome) → IsMeant limits draws o → block (Blocks plain) number o ≡ plain_block number o
unfolding block
same_block limits draws number o h = rw (same_body limits draws o h) refl

pub same_blocks : (limits : Bounds) (draws : FlaggedDraws) (number : ℕ) (os : List Outcome) → AllMeant limits draws os → blocks (Blocks plain) number os ≡ plain_blocks number os
unfolding blocks plain_blocks
same_blocks limits draws number [] h = refl
same_blocks limits draws number (o ∷ os) h =
    ap (λ x. x ++ blocks (Blocks plain) (number + 1) os) (same_block limits draws number o h.0) ∙ ap (λ x. plain_block number o ++ x) (same_blocks limits draws (number + 1) os h.1)
