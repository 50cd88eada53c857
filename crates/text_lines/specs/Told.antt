-- The bytes that a history tells.
use Rattle.std.specs.Prelude.{ℕ, List, [], ◌++◌, take}
use Rattle.text_lines.specs.declared.history.Told.{Told, Nothing, More'}

-- bytes in order, those of the last piece last
abbrev pub bytes_told : Told → List ℕ
bytes_told Nothing = []
bytes_told (More' shape before piece size) = bytes_told before ++ take size piece.value.items
