-- What a reader of items has taken and given.
use Rattle.std.specs.Prelude.{◌≡◌, ℕ, ◌≤◌, Bool, true, false, List, length}
use Rattle.pgn_games.specs.Games.{is_closed}
use Rattle.text_lines.specs.Lines.{settled_lines}
use Rattle.pgn_games.specs.Settling.{settled_games}
use Rattle.cha_outcome.specs.declared.items.Item.{Item}
use Rattle.side_by_side.specs.declared.cuts.Purpose.TheVariants.{Judged, Corrected, Told}
use Rattle.side_by_side.specs.declared.cuts.ItemKind.{ItemKind}
use Rattle.side_by_side.specs.declared.cuts.ItemKind.TheVariants.{Games as GamesFor, Lines}
use Rattle.item_batches.specs.declared.readers.ItemReader.{ItemReader}
use Rattle.item_batches.specs.declared.readers.ItemReader.TheVariants.{Games, Kept, Lines as LinesOf, Replays}
use Rattle.item_batches.specs.Items.{most_bytes, game_items, position_items}

-- the kind of items that it gives
abbrev pub kind_of : ItemReader → ItemKind
kind_of (Games reader) = GamesFor Judged
kind_of (Kept reader) = GamesFor Corrected
kind_of (LinesOf reader) = Lines
kind_of (Replays reader) = GamesFor Told

-- the bytes that it has taken
abbrev pub taken_by : ItemReader → List ℕ
taken_by (Games reader) = reader.taken
taken_by (Kept reader) = reader.taken
taken_by (LinesOf reader) = reader.taken
taken_by (Replays reader) = reader.taken

-- how many items it has given
abbrev pub given_by : ItemReader → ℕ
given_by (Games reader) = reader.given
given_by (Kept reader) = reader.given
given_by (LinesOf reader) = reader.given
given_by (Replays reader) = reader.given

-- how many of the bytes were written of the games that it has given; of other items no bytes are kept
abbrev pub written_by : ItemReader → ℕ
written_by (Games reader) = 0
written_by (Kept reader) = reader.written
written_by (LinesOf reader) = 0
written_by (Replays reader) = 0

-- it has taken all that there is
abbrev pub has_ended : ItemReader → Bool
has_ended (Games reader) = reader.ended
has_ended (Kept reader) = reader.ended
has_ended (LinesOf reader) = reader.ended
has_ended (Replays reader) = reader.ended

-- it can give more: no call has failed, and no more was taken than an input may have
abbrev pub CanGoOn : ItemReader → Type 0
CanGoOn (Games reader) = (reader.failed ≡ false) × (length reader.taken ≤ most_bytes)
CanGoOn (Kept reader) = (reader.failed ≡ false) × (length reader.taken ≤ most_bytes)
CanGoOn (LinesOf reader) = (reader.failed ≡ false) × (length reader.taken ≤ most_bytes)
CanGoOn (Replays reader) = (reader.failed ≡ false) × (length reader.taken ≤ most_bytes)

-- the items of a kind that bytes have, and how many of them are settled
abbrev pub items_by : ItemKind → List ℕ → List Item
items_by (GamesFor purpose) = game_items purpose
items_by Lines = position_items

abbrev pub settled_by : ItemKind → List ℕ → ℕ
settled_by (GamesFor purpose) = settled_games
settled_by Lines = settled_lines

-- whether their text is closed: lines always are
abbrev pub closed_by : ItemKind → List ℕ → Bool
closed_by (GamesFor purpose) = is_closed
closed_by Lines = λ _. true
