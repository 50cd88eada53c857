-- The moves of a game as values (this project).
use Rattle.std.specs.Prelude.{ℕ, ◌+◌, List, [], ◌∷◌, Option, Some, None, codes}
use Rattle.cha_board.specs.Board.{Board}
use Rattle.cha_fen.specs.Written.{fen_text}
use Rattle.cha_moves.specs.Step.{Move}
use Rattle.cha_moves.specs.Moves.{after}
use Rattle.cha_moves.specs.Texts.{move_bytes}
use Rattle.cha_san.specs.Writing.{san_text}
use Rattle.cha_outcome.specs.declared.items.ReplayedGame.{ReplayedGame}
use Rattle.cha_outcome.specs.declared.unreadable.Unreadable.{Unreadable}
use Rattle.report_words.specs.Reasons.{reason_text}
use Rattle.json.specs.Json.{Json, null, string, array, object, Items, no_items, item, Members, no_members, member}
use Rattle.json_report.specs.Lines.{count}

-- a move in a position, under its number: in both notations, and the position after it
abbrev pub ply_json : ℕ → Board → Move → Json
ply_json number q m =
    object (member (codes "ply") (count number) (member (codes "move") (string (move_bytes m)) (member (codes "san") (string (san_text q m))
    (member (codes "fen") (string (fen_text (after q m))) no_members))))

-- moves that are made one after the other, numbered from here on
abbrev pub ply_items : ℕ → Board → List Move → Items
ply_items number q [] = no_items
ply_items number q (m ∷ ms) = item (ply_json number q m) (ply_items (number + 1) (after q m) ms)

-- the position from which they are made, which may not be known
unfoldable pub start_json : Option Board → Json
start_json None = null
start_json (Some q) = string (fen_text q)

unfoldable pub plies_from : Option Board → List Move → Items
plies_from None ms = no_items
plies_from (Some q) ms = ply_items 1 q ms

-- why a game cannot be read
unfoldable pub why_json : Option Unreadable → Json
why_json None = null
why_json (Some why) = string (reason_text why)

-- the members that say the moves of a game
abbrev pub replay_members : ReplayedGame → Members
replay_members game =
    member (codes "start") (start_json game.start) (member (codes "plies") (array (plies_from game.start game.moves)) (member (codes "unreadable") (why_json game.why) no_members))
