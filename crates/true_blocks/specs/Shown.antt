-- What a block says of the position whose FEN it shows (this project).
use Rattle.std.specs.Prelude.{◌≡◌, ℕ, ◌+◌, List, [], ◌∷◌, ◌++◌, codes, Ok, ⊤}
use Rattle.cha_board.specs.Board.{Board}
use Rattle.cha_fen.specs.Fen.{fen}
use Rattle.cha_limits.specs.Bounds.{Bounds}
use Rattle.cha_verdict.specs.declared.decisions.Decision.{Decision}
use Rattle.cha_outcome.specs.declared.outcomes.Outcome.{Outcome}
use Rattle.cha_outcome.specs.declared.outcomes.Outcome.TheVariants.{JudgedPosition, JudgedGame, ListedMates, RefusedLine, UnreadableGame, Replayed}
use Rattle.flag_report.specs.Findings.{line}
use Rattle.true_blocks.specs.Means.{Means}
use Rattle.cha_outcome.specs.Totals.{totals_of}
use Rattle.flag_report.specs.declared.styles.Subject.{Subject}
use Rattle.flag_report.specs.Totals.{summary_text}
use Rattle.true_blocks.specs.Plain.{verdict_words, plain_block, plain_blocks}

-- A block has the FEN of a position, and behind it the words of two verdicts that are true of that position.
pub record IsTrueOfItsFen (limits : Bounds) (block : List ℕ) : Type 0 where
  pub head : List ℕ
  pub text : List ℕ
  pub position : Board
  pub reads : fen text ≡ Ok position
  pub decision : Decision
  pub means : Means position limits decision
  pub rest : List ℕ
  pub parts :
      block ≡ line head ++ line (codes "fen: " ++ text) ++ line (codes "white: " ++ verdict_words decision.white)
      ++ line (codes "black: " ++ verdict_words decision.black) ++ rest

-- so has that of an outcome, unless it is a line that is no position or a game that cannot be read
abbrev pub ShowsTruth : Bounds → ℕ → Outcome → Type 0
ShowsTruth limits number (JudgedPosition at q d status) = IsTrueOfItsFen limits (plain_block number (JudgedPosition at q d status))
ShowsTruth limits number (JudgedGame game d scan status judgment) = IsTrueOfItsFen limits (plain_block number (JudgedGame game d scan status judgment))
ShowsTruth limits number (ListedMates at q depth found) = ⊤
ShowsTruth limits number (RefusedLine at fault) = ⊤
ShowsTruth limits number (UnreadableGame span why) = ⊤
ShowsTruth limits number (Replayed game) = ⊤

-- the blocks of outcomes, numbered from here on, all do
abbrev pub AllShow : Bounds → ℕ → List Outcome → Type 0
AllShow limits number [] = ⊤
AllShow limits number (o ∷ os) = ShowsTruth limits number o × AllShow limits (number + 1) os

-- A report says of the positions whose FENs it shows nothing but what is true of them; the summary comes last.
abbrev pub ShowsOnlyTruth : Bounds → List ℕ → Type 0
ShowsOnlyTruth limits out = (os : List Outcome) × (subject : Subject) × AllShow limits 1 os × (out ≡ plain_blocks 1 os ++ summary_text subject (totals_of os))
