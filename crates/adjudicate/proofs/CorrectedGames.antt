-- Only games that were read get another result, and what is written of them is the corrected text.
use Rattle.std.proofs.Common.{◌≡◌, ℕ, Bool, true, false, if◌then◌else◌, List, [], ◌∷◌, ◌++◌, length, map, take, drop, Option, Some, None, nat_lt, ◌-◌, refl, sym, ◌∙◌}
use Rattle.cha_limits.specs.Bounds.{Bounds}
use Rattle.pgn_lex.specs.declared.kinds.Placed.{Placed}
use Rattle.pgn_lex.specs.Tokens.{tokens}
use Rattle.pgn_games.specs.declared.faults.GameFault.{GameFault}
use Rattle.pgn_games.specs.declared.marks.ResultMark.{ResultMark}
use Rattle.pgn_games.specs.declared.played.Game.{Game}
use Rattle.pgn_games.specs.declared.played.PlacedGame.{PlacedGame}
use Rattle.pgn_games.specs.declared.played.Span.{Span}
use Rattle.pgn_games.specs.declared.token_turns.Place.TheVariants.{Before}
use Rattle.pgn_games.specs.Cutting.{cut}
use Rattle.pgn_games.specs.Games.{placed_games, placed_game_of}
use Rattle.pgn_results.specs.Correcting.{corrected, written_games, end_of}
use Rattle.pgn_results.specs.Kept.{OnlyReadable}
use Rattle.pgn_results.proofs.OneByOne.{one_by_one}
use Rattle.pgn_results.proofs.GameByGame.{written_front}
use Rattle.cha_outcome.specs.declared.items.PlayedGame.{PlayedGame}
use Rattle.cha_outcome.specs.declared.items.Item.TheVariants.{Played, UnreadableGame}
use Rattle.cha_outcome.specs.declared.items.TheConstants.{MOST_GAME_BYTES}
use Rattle.cha_outcome.specs.declared.unreadable.Unreadable.TheVariants.{TooLong}
use Rattle.cha_outcome.specs.declared.outcomes.Outcome.{Outcome}
use Rattle.cha_outcome.specs.declared.outcomes.Outcome.TheVariants as outcomes
use Rattle.cha_outcome.specs.Items.{item_unless, game_item, kept_item}
use Rattle.cha_outcome.specs.declared.questions.FlaggedDraws.{FlaggedDraws}
use Rattle.cha_outcome.specs.declared.questions.Question.TheVariants.{Verdicts}
use Rattle.cha_outcome.specs.Outcomes.{item_of, new_result, AllSound}
use Rattle.side_by_side.specs.declared.cuts.Purpose.TheVariants.{Corrected}
use Rattle.item_batches.specs.Items.{game_items}
use Rattle.adjudicate.proofs.BegunGames.{results_of_begun}

-- a game gets a result only where it was played
marked_is_played : (o : Outcome) (mark : ResultMark) → new_result o ≡ Some mark → (game : PlayedGame) × (item_of o ≡ Played game)
unfolding new_result item_of
marked_is_played (outcomes.JudgedPosition number q d status) mark e = cc
marked_is_played (outcomes.JudgedGame game d scan status judgment) mark e = (game, refl)
marked_is_played (outcomes.ListedMates number q depth found) mark e = cc
marked_is_played (outcomes.RefusedLine number fault) mark e = cc
marked_is_played (outcomes.UnreadableGame span why) mark e = cc
marked_is_played (outcomes.Replayed game) mark e = cc

-- and it is played only where it has no fault
played_if : (long : Bool) (fault : Option GameFault) (span : Span) (game : Game) (played : PlayedGame) → (if long then UnreadableGame span TooLong else item_unless fault span game) ≡ Played played → fault ≡ None
played_if true fault span game played e = cc
played_if false None span game played e = refl
played_if false (Some fault) span game played e = cc

pub played_is_readable : (placed : PlacedGame) (played : PlayedGame) → kept_item placed ≡ Played played → placed.game.fault ≡ None
unfolding kept_item game_item
played_is_readable placed played e = played_if (nat_lt MOST_GAME_BYTES (placed.span.end - placed.span.start)) placed.game.fault placed.span placed.game played e

only_if : (slice : List Placed) (slices : List (List Placed)) (o : Outcome) (marks : List (Option ResultMark)) → item_of o ≡ kept_item (placed_game_of slice) → OnlyReadable slices marks
    → (mark : Option ResultMark) → new_result o ≡ mark → OnlyReadable (slice ∷ slices) (mark ∷ marks)
unfolding OnlyReadable
only_if slice slices o marks item rest None e = rest
only_if slice slices o marks item rest (Some mark) e =
    let played = marked_is_played o mark e in
    (played_is_readable (placed_game_of slice) played.0 (sym item ∙ played.1), rest)

only_readable : (slices : List (List Placed)) (os : List Outcome) → map item_of os ≡ map kept_item (map placed_game_of slices) → OnlyReadable slices (map new_result os)
unfolding OnlyReadable
only_readable [] os e = tt
only_readable (slice ∷ slices) [] e = tt
only_readable (slice ∷ slices) (o ∷ os) e =
    let here : item_of o ≡ kept_item (placed_game_of slice) = cc in
    let behind : map item_of os ≡ map kept_item (map placed_game_of slices) = cc in
    only_if slice slices o (map new_result os) here (only_readable slices os behind) (new_result o) refl

pub results_of_readable : (bytes : List ℕ) (os : List Outcome) → map item_of os ≡ game_items Corrected bytes → OnlyReadable (cut Before (tokens bytes)) (map new_result os)
unfolding placed_games
results_of_readable bytes os e = only_readable (cut Before (tokens bytes)) os e

-- the corrected text is what is written of all games, and what stands behind the last one
pub corrected_whole : (limits : Bounds) (draws : FlaggedDraws) (bytes : List ℕ) (os : List Outcome) → AllSound (Verdicts limits draws) os → map item_of os ≡ game_items Corrected bytes
    → corrected bytes (map new_result os) ≡ written_games 0 bytes (placed_games bytes) (map new_result os) ++ drop (end_of 0 (take (length (map new_result os)) (placed_games bytes))) bytes
corrected_whole limits draws bytes os sound e =
    one_by_one bytes (map new_result os) (results_of_readable bytes os e) (results_of_begun limits draws bytes os e sound) ∙ written_front bytes (map new_result os)
