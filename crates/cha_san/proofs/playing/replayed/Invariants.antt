-- cha_san/proofs/playing/replayed/Invariants.antt
use Rattle.std.proofs.Common.{◌≡◌, ◌+◌, drop}
use Rattle.cha_san.specs.Playing.{positions_from, positions}
use Rattle.cha_san.proofs.Replayed.{behind}
use Rattle.cha_san.proofs.playing.replayed.Given as goal

-- what is listed, and the positions that follow, are the positions of the game
abbrev pub invariant-loop-word : goal.invariant-loop-word
invariant-loop-word l = record {
  number : l.ply ≡ l.word-index;
  listed : behind l.done (positions_from (l.ply + 1) l.position (drop l.word-index l.words)) ≡ positions l.start l.words;
}
