-- What games keep where their results are changed.
use Rattle.std.specs.Prelude.{◌≡◌, ℕ, codes, Bool, false, is_some, if◌then◌else◌, List, [], ◌∷◌, Option, Some, None, ⊤}
use Rattle.std.specs.Option.{option_map}
use Rattle.pgn_lex.specs.declared.kinds.Placed.{Placed}
use Rattle.pgn_games.specs.declared.faults.GameFault.{GameFault}
use Rattle.pgn_games.specs.declared.faults.GameFault.TheVariants.{BadToken}
use Rattle.pgn_games.specs.declared.marks.ResultMark.{ResultMark}
use Rattle.pgn_games.specs.declared.played.Game.{Game}
use Rattle.pgn_games.specs.Cutting.{mark_of, mark_text}
use Rattle.pgn_games.specs.Fields.{tag_value}
use Rattle.pgn_games.specs.Games.{game_of}
use Rattle.pgn_results.specs.Replacing.{has_result}

-- a fault, but for where it stands
abbrev pub placeless_fault : GameFault → GameFault
placeless_fault (BadToken offset) = BadToken 0
placeless_fault fault = fault

-- what a game says, but for where its fault stands, with a result in place of its own
abbrev pub told_with : ResultMark → Game → Game
told_with mark game = record {
  start = game.start;
  recorded = mark;
  forfeit = game.forfeit;
  flag_fell = game.flag_fell;
  words = game.words;
  before_fault = game.before_fault;
  fault = option_map placeless_fault game.fault;
}

-- what a game says, but for where its fault stands
abbrev pub told : Game → Game
told game = told_with game.recorded game

-- what the games of these tokens say with the marks that are given to them: a game that no result ends keeps what it has, which is none
unfoldable pub told_games : List (List Placed) → List (Option ResultMark) → List Game
told_games [] marks = []
told_games (game ∷ games) [] = told (game_of game) ∷ told_games games []
told_games (game ∷ games) (None ∷ marks) = told (game_of game) ∷ told_games games marks
told_games (game ∷ games) (Some mark ∷ marks) =
    (if has_result game then told_with mark (game_of game) else told (game_of game)) ∷ told_games games marks

-- the values of the first tag pairs Result of these games, with the marks that are given to them
unfoldable pub told_tags : List (List Placed) → List (Option ResultMark) → List (Option (List ℕ))
told_tags [] marks = []
told_tags (game ∷ games) [] = tag_value (codes "Result") game ∷ told_tags games []
told_tags (game ∷ games) (None ∷ marks) = tag_value (codes "Result") game ∷ told_tags games marks
told_tags (game ∷ games) (Some mark ∷ marks) =
    (if is_some (tag_value (codes "Result") game) then Some (mark_text mark) else None) ∷ told_tags games marks

-- a mark is given only to a game without a fault
unfoldable pub OnlyReadable : List (List Placed) → List (Option ResultMark) → Type 0
OnlyReadable [] marks = ⊤
OnlyReadable (game ∷ games) [] = ⊤
OnlyReadable (game ∷ games) (None ∷ marks) = OnlyReadable games marks
OnlyReadable (game ∷ games) (Some mark ∷ marks) = ((game_of game).fault ≡ None) × OnlyReadable games marks

-- the first of these tokens is a result
unfoldable pub begins_with_result : List Placed → Bool
begins_with_result [] = false
begins_with_result (t ∷ ts) = is_some (mark_of t.token)

-- a mark is given only to a game with a token before its result
unfoldable pub OnlyBegun : List (List Placed) → List (Option ResultMark) → Type 0
OnlyBegun [] marks = ⊤
OnlyBegun (game ∷ games) [] = ⊤
OnlyBegun (game ∷ games) (None ∷ marks) = OnlyBegun games marks
OnlyBegun (game ∷ games) (Some mark ∷ marks) = (begins_with_result game ≡ false) × OnlyBegun games marks
