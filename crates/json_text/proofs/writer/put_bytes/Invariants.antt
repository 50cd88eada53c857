use Rattle.std.proofs.Common.{◌≡◌, ◌++◌, drop}
use Rattle.json_text.specs.Escapes.{AreBytes, escaped}
use Rattle.json_text.proofs.writer.put_bytes.Given as goal

-- what is written, and what is left to write, are the escapes of all bytes, and these are bytes if those that are left are
abbrev pub invariant-loop-byte : goal.invariant-loop-byte
invariant-loop-byte l =
    (l.text ++ escaped (drop l.byte-index l.bytes) ≡ l.initial.text ++ escaped l.bytes) × (AreBytes (drop l.byte-index l.bytes) → AreBytes l.bytes)
