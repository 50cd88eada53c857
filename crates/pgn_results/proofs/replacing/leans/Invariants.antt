use Rattle.std.proofs.Common.{◌≡◌, ◌==◌, ◌||◌, drop}
use Rattle.std.specs.List.{fold}
use Rattle.pgn_lex.specs.declared.classes.PgnClass.TheVariants.{WordByte}
use Rattle.pgn_lex.specs.Classes.{in_pgn_class}
use Rattle.pgn_results.specs.Replacing.{leans}
use Rattle.pgn_results.proofs.replacing.leans.Given as goal

-- the bytes that are left tell as all do
abbrev pub invariant-loop-byte : goal.invariant-loop-byte
invariant-loop-byte l = fold (λ before b. in_pgn_class WordByte b || (b == 36)) l.found (drop l.byte-index l.bytes) ≡ leans l.bytes
