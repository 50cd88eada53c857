-- What a reader of lines keeps, by its fields.
use Rattle.std.specs.Prelude.{◌≡◌, ℕ, ◌+◌, ◌≤◌, true, List, ◌++◌, drop, length}
use Rattle.std.specs.List.{prefix_len}
use Rattle.cha_list.specs.declared.classes.Class.TheVariants.{NotLineFeed}
use Rattle.cha_list.specs.Bytes.{in_class}
use Rattle.text_lines.specs.declared.reading.Lines.{Lines}
use Rattle.text_lines.specs.Lines.{settled_lines}
use Rattle.text_lines.specs.Reading.{TookNoMore}
use Rattle.text_lines.specs.Holding.{IsHeld}

-- the bytes that were taken of the source
abbrev pub taken_by : Lines → List ℕ
taken_by s = s.text.before ++ s.text.piece.items

abbrev pub IsHeldBy : Lines → Type 0
IsHeldBy s = IsHeld s.text.before s.text.piece.items s.text.used s.text.scanned s.number s.given s.text.taken s.ended s.finished

-- its last piece was taken when it was needed
abbrev pub WaitsAt : Lines → Type 0
WaitsAt s = (piece : List ℕ) × TookNoMore (taken_by s) piece s.given

-- once the source has ended, each line that is settled was given
abbrev pub IsSpentAt : Lines → Type 0
IsSpentAt s = s.ended ≡ true → settled_lines (taken_by s) ≤ s.given

-- no line feed is left in the piece
abbrev pub HasNoFeed : Lines → Type 0
HasNoFeed s = s.text.used + prefix_len (in_class NotLineFeed) (drop s.text.used s.text.piece.items) ≡ length s.text.piece.items
