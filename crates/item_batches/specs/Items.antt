-- The items of an input (this project).
use Rattle.std.specs.Prelude.{◌≡◌, ℕ, ◌≤◌, List, ◌++◌, length, map}
use Rattle.text_lines.specs.Lines.{text_lines}
use Rattle.pgn_games.specs.Games.{placed_games}
use Rattle.cha_outcome.specs.declared.items.Item.{Item}
use Rattle.cha_outcome.specs.Items.{line_item}
use Rattle.side_by_side.specs.declared.cuts.Purpose.{Purpose}
use Rattle.side_by_side.specs.Cuts.{item_for}

-- the most bytes that an input may have
abbrev pub most_bytes : ℕ
most_bytes = 268435456

-- What was taken is a front in which no more items are settled than so many, and one piece behind it: no piece was taken before it was needed
-- for one item more.
abbrev pub TookAsNeeded : (List ℕ → ℕ) → List ℕ → ℕ → Type 0
TookAsNeeded settled taken given = (piece : List ℕ) × ((front : List ℕ) × (taken ≡ front ++ piece) × (length piece ≤ 8388608) × (settled front ≤ given))

-- the items of a text of positions: its lines that count, in order
abbrev pub position_items : List ℕ → List Item
position_items bytes = map (λ line. line_item line.number line.text) (text_lines bytes)

-- the items of a text of games, in order, by what these are cut for
abbrev pub game_items : Purpose → List ℕ → List Item
game_items purpose bytes = map (item_for purpose) (placed_games bytes)
