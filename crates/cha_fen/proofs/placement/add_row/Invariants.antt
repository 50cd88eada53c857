use Rattle.std.proofs.Common.{◌≤◌, ◌-◌, Bool, List, Option, length, drop}
use Rattle.cha_board.specs.declared.men.Man.{Man}
use Rattle.cha_fen.specs.Placement.{if_size, row_squares}
use Rattle.cha_fen.specs.Adding.{Adds}
use Rattle.cha_fen.proofs.placement.add_row.Given as goal

-- what adds the rest of the row to what there is adds the row to what there was
abbrev pub invariant-loop-byte : goal.invariant-loop-byte
invariant-loop-byte l = record {
  low : length l.initial.men.items ≤ length l.men.items;
  high : length l.men.items ≤ l.end;
  rest : (r : Bool) (out : List (Option Man)) → Adds r l.men.items out (if_size (l.end - length l.men.items) (row_squares (drop l.byte-index l.bytes)))
      → Adds r l.initial.men.items out (if_size 8 (row_squares l.bytes));
}
