use Rattle.std.proofs.Common.{◌≡◌, map, take, string_bytes}
use Rattle.cha_c.proofs.command_words.cut.Given as goal

abbrev pub invariant-loop-part : goal.invariant-loop-part
invariant-loop-part l = map string_bytes l.words.items ≡ map (λ part. part.now) (take l.part-index l.part-items)
