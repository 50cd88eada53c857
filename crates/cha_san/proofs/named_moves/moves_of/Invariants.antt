use Rattle.std.proofs.Common.{◌≡◌, ◌++◌, drop}
use Rattle.cha_san.specs.Playing.{moves_named}
use Rattle.cha_san.proofs.named_moves.moves_of.Given as goal

-- what is listed, and the moves that follow, are all that the words name
abbrev pub invariant-loop-word : goal.invariant-loop-word
invariant-loop-word l = l.moves ++ moves_named l.position (drop l.word-index l.words) ≡ moves_named l.start l.words
