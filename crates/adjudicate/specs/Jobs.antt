-- What an order asks for (this project).
use Rattle.std.specs.Prelude.{ℕ, Bool, true, false, if◌then◌else◌, List, Option, Some, None}
use Rattle.pgn_games.specs.Games.{is_closed}
use Rattle.random_games.specs.Made.{made}
use Rattle.cha_outcome.specs.declared.items.Item.{Item}
use Rattle.cha_outcome.specs.declared.outcomes.Outcome.{Outcome}
use Rattle.cha_outcome.specs.declared.questions.FlaggedDraws.{FlaggedDraws}
use Rattle.cha_outcome.specs.declared.questions.FlaggedDraws.TheVariants.{Stand, Examined}
use Rattle.cha_outcome.specs.declared.questions.Question.{Question}
use Rattle.cha_outcome.specs.declared.questions.Question.TheVariants as questions
use Rattle.cha_outcome.specs.Totals.{totals_of}
use Rattle.report_style.specs.declared.styles.Style.{Style}
use Rattle.report_style.specs.declared.styles.Style.TheVariants.{SummaryAlone}
use Rattle.flag_report.specs.declared.styles.Subject.{Subject}
use Rattle.flag_report.specs.declared.styles.Subject.TheVariants.{Games, Positions, Mates, Plies}
use Rattle.flag_report.specs.Styles.{summary}
use Rattle.side_by_side.specs.declared.cuts.Purpose.TheVariants.{Judged, Corrected, Told}
use Rattle.side_by_side.specs.declared.cuts.ItemKind.{ItemKind}
use Rattle.side_by_side.specs.declared.cuts.ItemKind.TheVariants.{Games as GamesFor, Lines}
use Rattle.item_batches.specs.Items.{game_items}
use Rattle.item_batches.specs.Readers.{items_by, settled_by, closed_by}
use Rattle.cha_words.specs.declared.orders.Order.{Order}
use Rattle.cha_words.specs.declared.orders.Order.TheVariants.{AdjudicateGames, CorrectGames, JudgePositions, CheckCert, GenGames, ListMates, ReplayGames}

-- A report on items: whether the input is read, which items it has, how many of them are settled in a front of it, what is asked about
-- each, whether its text is closed, how the report is printed, and what it is about.
pub record Job : Type 0 where
  pub reads : Bool
  pub items : List ℕ → List Item
  pub settled : List ℕ → ℕ
  pub question : Question
  pub closed : List ℕ → Bool
  pub style : Style
  pub subject : Subject

-- a job on items of a kind as they come
abbrev pub job_on : ItemKind → Question → Style → Subject → Job
job_on kind question style subject = record { reads = true; items = items_by kind; settled = settled_by kind; question = question; closed = closed_by kind; style = style; subject = subject }

-- a job on games whose results may be corrected; its report is the summary alone
abbrev pub on_kept_games : Question → Job
on_kept_games question = job_on (GamesFor Corrected) question SummaryAlone Games

-- a job on games that are made of a seed, whose blocks are not printed
abbrev pub on_made : Question → ℕ → ℕ → Job
on_made question seed count = record { reads = false; items = λ _. game_items Judged (made seed count); settled = λ _. 0; question = question; closed = λ _. is_closed (made seed count); style = SummaryAlone; subject = Games }

-- what becomes of drawn games whose flag fell
abbrev pub draws_by : Bool → FlaggedDraws
draws_by flagged = if flagged then Examined else Stand

-- the job that an order is; the check of a certificate is none
abbrev pub job : Order → Option Job
job (AdjudicateGames limits flagged style) = Some (job_on (GamesFor Judged) (questions.Verdicts limits (draws_by flagged)) style Games)
job (CorrectGames limits flagged changed) = Some (on_kept_games (questions.Verdicts limits (draws_by flagged)))
job (JudgePositions limits style) = Some (job_on Lines (questions.Verdicts limits Stand) style Positions)
job CheckCert = None
job (GenGames limits seed count) = Some (on_made (questions.Verdicts limits Stand) seed count)
job (ListMates side workers depth style) = Some (job_on Lines (questions.Mates side depth) style Mates)
job (ReplayGames style) = Some (job_on (GamesFor Told) questions.Plies style Plies)

-- what is printed at the end of a job on an input with these outcomes
abbrev pub last : Job → List ℕ → List Outcome → List ℕ
last j bytes os = summary j.style j.subject (j.closed bytes) (totals_of os)
