-- A word read from its end.
use Rattle.std.specs.Prelude.{ℕ, ◌-◌, ◌==◌, Bool, true, false, List, length, take, Option, Some, None, slice_get}

-- the last byte
unfoldable pub last : List ℕ → Option ℕ
last word = slice_get word (length word - 1)

-- all bytes but the last
unfoldable pub front : List ℕ → List ℕ
front word = take (length word - 1) word

-- the bytes in front of a last byte that has been read, if it has been
unfoldable pub before : Bool → List ℕ → List ℕ
before true word = front word
before false word = word

-- a byte is this one
abbrev pub is_byte : ℕ → Option ℕ → Bool
is_byte b None = false
is_byte b (Some c) = c == b

-- the bytes in front of a last byte of this value, if there is one
unfoldable pub without : ℕ → List ℕ → List ℕ
without b word = before (is_byte b (last word)) word
