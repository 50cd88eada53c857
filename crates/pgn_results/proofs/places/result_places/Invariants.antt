use Rattle.std.proofs.Common.{◌≡◌, ℕ, ◌+◌, ◌≤◌, List, false, is_some, length}
use Rattle.std.specs.List.{list_any}
use Rattle.pgn_lex.specs.declared.kinds.Placed.{Placed}
use Rattle.pgn_games.specs.Cutting.{mark_of}
use Rattle.pgn_games.specs.Fields.{outside}
use Rattle.pgn_games.specs.declared.marks.ResultMark.{ResultMark}
use Rattle.pgn_results.specs.Places.{with_tag_there}
use Rattle.pgn_results.specs.Replacing.{has_result, with_mark}
use Rattle.pgn_results.proofs.places.result_places.Given as goal

-- what was found and what is left tell as all tokens do
abbrev pub invariant-loop-rest : goal.invariant-loop-rest
invariant-loop-rest l = record {
  shallow : l.depth + length l.rest ≤ length l.tokens;
  ends : list_any (λ (t : Placed). is_some (mark_of t.token)) (outside l.depth l.rest) ≡ has_result l.tokens;
  found : (mark : ResultMark) (bytes : List ℕ) → with_mark false 0 mark l.tokens bytes ≡ with_tag_there mark l.tag (with_mark (is_some l.tag) l.depth mark l.rest bytes);
}

abbrev pub decreases-loop-rest : goal.decreases-loop-rest
decreases-loop-rest l = length l.rest
