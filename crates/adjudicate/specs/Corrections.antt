-- What is written where the results of games are corrected (this project).
use Rattle.std.specs.Prelude.{◌≡◌, ℕ, ◌≤◌, Bool, true, false, List, [], ◌∷◌, ◌++◌, length, map, Option, Some, None, ◌⊎◌}
use Rattle.std.specs.Io.KnownBytes.{Appends, Consumes, IsAtEnd}
use Rattle.pgn_games.specs.declared.marks.ResultMark.{ResultMark}
use Rattle.pgn_games.specs.declared.played.PlacedGame.{PlacedGame}
use Rattle.pgn_lex.specs.Tokens.{tokens}
use Rattle.pgn_games.specs.declared.token_turns.Place.TheVariants.{Before}
use Rattle.pgn_games.specs.Cutting.{cut}
use Rattle.pgn_games.specs.Games.{placed_games, games}
use Rattle.pgn_results.specs.Kept.{told, told_games}
use Rattle.pgn_results.specs.Correcting.{corrected, written_games}
use Rattle.pgn_results.specs.Keeping.{changed_piece}
use Rattle.cha_outcome.specs.declared.items.Item.{Item}
use Rattle.cha_outcome.specs.declared.outcomes.Outcome.{Outcome}
use Rattle.cha_outcome.specs.Outcomes.{item_of, new_result, AllSound}
use Rattle.cha_words.specs.declared.orders.Order.{Order}
use Rattle.cha_words.specs.declared.orders.Order.TheVariants.{CorrectGames}
use Rattle.adjudicate.specs.declared.endings.Status.{Status}
use Rattle.adjudicate.specs.declared.endings.Status.TheVariants.{Done, Usage, ReadFault, WriteFault, TooLong, NoMemory, NotAccepted}
use Rattle.adjudicate.specs.Jobs.{Job, on_kept_games, draws_by, last}
use Rattle.adjudicate.specs.Report.{IsFront}
use Rattle.item_batches.specs.Items.{TookAsNeeded}
use Rattle.adjudicate.specs.Runs.{Outside, Grew, AreWhole}
use Rattle.cha_outcome.specs.declared.questions.Question.TheVariants as questions

-- How games are written with other results: the job that judges them, whose report is the summary, and whether those that change are
-- written alone.
pub record Correction : Type 0 where
  pub judging : Job
  pub changed : Bool

-- the correction that an order is; the others write reports
abbrev pub correction : Order → Option Correction
correction (CorrectGames limits flagged changed) = Some (record { judging = on_kept_games (questions.Verdicts limits (draws_by flagged)); changed = changed })
correction _ = None

-- those of these games that a mark is given to, each from its first token to its last with that result, and a blank line behind it
unfoldable pub changed_games : List ℕ → List PlacedGame → List (Option ResultMark) → List ℕ
changed_games bytes [] marks = []
changed_games bytes (game ∷ games) [] = []
changed_games bytes (game ∷ games) (None ∷ marks) = changed_games bytes games marks
changed_games bytes (game ∷ games) (Some mark ∷ marks) =
    changed_piece bytes game.span (Some mark) ++ changed_games bytes games marks

-- the whole output on a text whose games have these outcomes: the text with each result that changes, or the games that change
abbrev pub corrected_text : Bool → List ℕ → List Outcome → List ℕ
corrected_text true bytes os = changed_games bytes (placed_games bytes) (map new_result os)
corrected_text false bytes os = corrected bytes (map new_result os)

-- the output up to the end of the last of the games that have these outcomes
abbrev pub corrected_front : Bool → List ℕ → List Outcome → List ℕ
corrected_front true bytes os = changed_games bytes (placed_games bytes) (map new_result os)
corrected_front false bytes os = written_games 0 bytes (placed_games bytes) (map new_result os)

-- these are sound outcomes of all items
abbrev pub HasAll : Job → List ℕ → List Outcome → Type 0
HasAll j bytes os = (map item_of os ≡ j.items bytes) × AllSound j.question os

-- these are sound outcomes of the first items, none of which was cut off
abbrev pub HasFirst : Job → Outside → List ℕ → List Outcome → Type 0
HasFirst j now bytes os =
    (later : List Item) × (j.items bytes ≡ map item_of os ++ later) × AllSound j.question os × AreWhole j.reads now (j.settled bytes) (length os)

-- the games of a text stay the same, but for their results, where those of these outcomes are written
unfoldable pub HasSameGames : List ℕ → List Outcome → Type 0
HasSameGames bytes os = map told (games (corrected bytes (map new_result os))) ≡ told_games (cut Before (tokens bytes)) (map new_result os)

-- what a second sink took, which is for the summary, and how often it failed
pub record Noted : Type 0 where
  pub taken : Option (List ℕ)
  pub faults : ℕ

abbrev pub noted : Option (List ℕ) → ℕ → Noted
noted taken faults = record { taken = taken; faults = faults }

-- the whole input was taken, its text was written with the results of sound outcomes, and the summary of these was noted
abbrev pub Corrects : Correction → Outside → Outside → Noted → Noted → Type 0
Corrects c before now notes notes' =
    (bytes : List ℕ) × Consumes before.left now.left bytes × IsAtEnd now.left
    × ((os : List Outcome) × HasAll c.judging bytes os × Grew before.written now.written (λ out. out ≡ corrected_text c.changed bytes os)
    × Appends notes.taken notes'.taken (last c.judging bytes os))

-- The output was cut: in what is written of a game, behind all that is written of those before it, and then nothing was noted, nor read that
-- was not needed for this game; or in all of it or the summary, once all was read.
abbrev pub IsCutOff : Correction → Outside → Outside → Noted → Noted → Type 0
IsCutOff c before now notes notes' =
    (bytes : List ℕ) × Consumes before.left now.left bytes × ((os : List Outcome) × (
    ((o : Outcome) × HasFirst c.judging now bytes (os ++ o ∷ []) × TookAsNeeded c.judging.settled bytes (length os)
    × Grew before.written now.written (λ out. IsFront (corrected_front c.changed bytes os) out × IsFront out (corrected_front c.changed bytes (os ++ o ∷ []))) × (notes'.taken ≡ notes.taken))
    ⊎ (IsAtEnd now.left × HasAll c.judging bytes os × Grew before.written now.written (λ out. IsFront out (corrected_text c.changed bytes os)) × Grew notes.taken notes'.taken (λ out. IsFront out (last c.judging bytes os)))
    ))

-- some bytes were taken, and so many of their games at least were written, with all up to the end of the last; nothing was noted, nor read
-- that was not needed for one more
abbrev pub WritesWhole : Correction → (List ℕ → ℕ) → Outside → Outside → Noted → Noted → Type 0
WritesWhole c least before now notes notes' =
    (bytes : List ℕ) × Consumes before.left now.left bytes
    × ((os : List Outcome) × HasFirst c.judging now bytes os × TookAsNeeded c.judging.settled bytes (length os) × (least bytes ≤ length os) × Grew before.written now.written (λ out. out ≡ corrected_front c.changed bytes os))
    × (notes'.taken ≡ notes.taken)

-- what was read, written and noted by the status of the run; where the source failed, no game that is settled is left out
abbrev pub EndedCorrecting : Correction → Status → Outside → Outside → Noted → Noted → Type 0
EndedCorrecting c Done before now notes notes' = Corrects c before now notes notes'
EndedCorrecting c WriteFault before now notes notes' = IsCutOff c before now notes notes'
EndedCorrecting c ReadFault before now notes notes' = WritesWhole c c.judging.settled before now notes notes'
EndedCorrecting c TooLong before now notes notes' = WritesWhole c (λ _. 0) before now notes notes'
EndedCorrecting c NoMemory before now notes notes' = WritesWhole c (λ _. 0) before now notes notes'
EndedCorrecting c NotAccepted before now notes notes' = ⊥
EndedCorrecting c Usage before now notes notes' = ⊥
