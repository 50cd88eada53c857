-- What an input is made of, before it is read (this project).
use Rattle.std.specs.Prelude.{◌≡◌, ◌≤◌, length, None, ⊤}
use Rattle.pgn_games.specs.declared.played.PlacedGame.{PlacedGame}
use Rattle.cha_outcome.specs.Items.{line_item, game_item, kept_item, replay_item}
use Rattle.cha_outcome.specs.declared.items.Item.{Item}
use Rattle.cha_outcome.specs.declared.questions.Question.{Question}
use Rattle.cha_outcome.specs.declared.questions.Question.TheVariants.{Verdicts, Mates, Plies}
use Rattle.side_by_side.specs.declared.cuts.Purpose.{Purpose}
use Rattle.side_by_side.specs.declared.cuts.Purpose.TheVariants.{Judged, Corrected, Told}
use Rattle.side_by_side.specs.declared.cuts.ItemKind.{ItemKind}
use Rattle.side_by_side.specs.declared.cuts.ItemKind.TheVariants.{Games, Lines}
use Rattle.side_by_side.specs.declared.cuts.Cut.{Cut}
use Rattle.side_by_side.specs.declared.cuts.Cut.TheVariants.{Game, Line}

-- the item that is read of a game
abbrev pub item_for : Purpose → PlacedGame → Item
item_for Judged = game_item
item_for Corrected = kept_item
item_for Told = replay_item

-- the item that is read of what was cut
abbrev pub item_of_cut : Cut → Item
item_of_cut (Game purpose placed) = item_for purpose placed
item_of_cut (Line line) = line_item line.number line.text

-- an item can be read of it: a game has no more moves than are read, unless it has a fault
abbrev pub IsReadable : Cut → Type 0
IsReadable (Game purpose placed) = placed.game.fault ≡ None → length placed.game.words ≤ 12000
IsReadable (Line line) = ⊤

-- what it is
abbrev pub kind_of_cut : Cut → ItemKind
kind_of_cut (Game purpose placed) = Games purpose
kind_of_cut (Line line) = Lines

-- a question is asked about such items
abbrev pub IsAskedOf : ItemKind → Question → Type 0
IsAskedOf (Games Judged) (Verdicts limits draws) = ⊤
IsAskedOf (Games Judged) (Mates side depth) = ⊥
IsAskedOf (Games Judged) Plies = ⊥
IsAskedOf (Games Corrected) (Verdicts limits draws) = ⊤
IsAskedOf (Games Corrected) (Mates side depth) = ⊥
IsAskedOf (Games Corrected) Plies = ⊥
IsAskedOf (Games Told) (Verdicts limits draws) = ⊥
IsAskedOf (Games Told) (Mates side depth) = ⊥
IsAskedOf (Games Told) Plies = ⊤
IsAskedOf Lines (Verdicts limits draws) = ⊤
IsAskedOf Lines (Mates side depth) = ⊤
IsAskedOf Lines Plies = ⊥
