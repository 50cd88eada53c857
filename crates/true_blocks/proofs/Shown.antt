-- What a block says is true of the position whose FEN it shows.
use Rattle.std.proofs.Common.{◌≡◌, ℕ, List, [], ◌++◌, codes, sym, ap, ◌∙◌, append_assoc, append-nil}
use Rattle.cha_board.specs.Board.{Board, IsValid}
use Rattle.cha_fen.specs.Written.{fen_text}
use Rattle.cha_fen.proofs.WrittenRead.{written_is_read}
use Rattle.cha_limits.specs.Bounds.{Bounds}
use Rattle.cha_verdict.specs.declared.decisions.Decision.{Decision}
use Rattle.cha_outcome.specs.declared.outcomes.Outcome.{Outcome}
use Rattle.cha_outcome.specs.declared.outcomes.Outcome.TheVariants.{JudgedPosition, JudgedGame, ListedMates, RefusedLine, UnreadableGame, Replayed}
use Rattle.cha_outcome.specs.declared.questions.FlaggedDraws.{FlaggedDraws}
use Rattle.cha_outcome.specs.declared.status.PositionStatus.{PositionStatus}
use Rattle.report_words.specs.Counts.{count_text}
use Rattle.report_words.specs.Words.{status_text}
use Rattle.flag_report.specs.Styles.{label}
use Rattle.flag_report.specs.Findings.{line, fen_line}
use Rattle.flag_report.specs.Games.{result_line}
use Rattle.true_blocks.specs.Means.{Means}
use Rattle.true_blocks.specs.Plain.{verdict_words, position_lines, dead_line, plain_body}
use Rattle.true_blocks.specs.Shown.{IsTrueOfItsFen, ShowsTruth}
use Rattle.cha_board.specs.declared.men.Color.TheVariants.{White}
use Rattle.cha_outcome.specs.Outcomes.{HasSoundVerdicts}
use Rattle.cha_outcome.specs.Rulings.{first_of}
use Rattle.true_blocks.proofs.Meaning.{means}

-- the lines on a position in front of others
parts_of : (q : Board) (d : Decision) (status : PositionStatus) (more : List ℕ)
    → position_lines q d status ++ more
    ≡ line (codes "fen: " ++ fen_text q) ++ line (codes "white: " ++ verdict_words d.white) ++ line (codes "black: " ++ verdict_words d.black) ++ (line (codes "status: " ++ status_text status) ++ more)
unfolding position_lines
parts_of q d status more =
    let a = fen_line q in
    let b = line (codes "white: " ++ verdict_words d.white) in
    let c = line (codes "black: " ++ verdict_words d.black) in
    append_assoc ((a ++ b) ++ c) (line (codes "status: " ++ status_text status)) more

-- one more line in front of four parts
before : (h a b c rest : List ℕ) → h ++ (a ++ b ++ c ++ rest) ≡ h ++ a ++ b ++ c ++ rest
before h a b c rest = sym (append_assoc h (a ++ b ++ c) rest) ∙ ap (λ x. x ++ rest) (sym (append_assoc h (a ++ b) c) ∙ ap (λ x. x ++ c) (sym (append_assoc h a b)))

shown : (limits : Bounds) (head : List ℕ) (q : Board) (d : Decision) (status : PositionStatus) (more block : List ℕ) → IsValid q → Means q limits d → block ≡ line head ++ (position_lines q d status ++ more) → IsTrueOfItsFen limits block
shown limits head q d status more block valid means is = record {
  head = head;
  text = fen_text q;
  position = q;
  reads = written_is_read q valid;
  decision = d;
  means = means;
  rest = line (codes "status: " ++ status_text status) ++ more;
  parts = is ∙ ap (λ x. line head ++ x) (parts_of q d status more) ∙ before (line head) (fen_line q) (line (codes "white: " ++ verdict_words d.white)) (line (codes "black: " ++ verdict_words d.black)) _;
}

pub shows_truth : (limits : Bounds) (draws : FlaggedDraws) (number : ℕ) (o : Outcome) → HasSoundVerdicts limits draws o → ShowsTruth limits number o
unfolding HasSoundVerdicts plain_body
shows_truth limits draws number (JudgedPosition at q d status) h =
    shown limits (count_text (label (JudgedPosition at q d status)) number) q d status [] _ h.0.valid (means q White limits d h.0.sound)
    (ap (λ x. line (count_text (label (JudgedPosition at q d status)) number) ++ x) (sym (append-nil (position_lines q d status))))
shows_truth limits draws number (JudgedGame game d scan status judgment) h =
    shown limits (count_text (label (JudgedGame game d scan status judgment)) number) game.last d status (dead_line scan ++ result_line game.recorded judgment) _ h.0.valid (means game.last (first_of draws game) limits d h.0.sound)
    (ap (λ x. line (count_text (label (JudgedGame game d scan status judgment)) number) ++ x) (append_assoc (position_lines game.last d status) (dead_line scan) (result_line game.recorded judgment)))
shows_truth limits draws number (ListedMates at q depth found) h = tt
shows_truth limits draws number (RefusedLine at fault) h = tt
shows_truth limits draws number (UnreadableGame span why) h = tt
shows_truth limits draws number (Replayed game) h = tt
