-- The facts hold at the first position, where each man is its own origin.
use Rattle.std.proofs.Common.{refl, inl}
use Rattle.cha_board.specs.Board.{Board}
use Rattle.mob_sets.specs.Mobility.{Sets}
use Rattle.mob_law.specs.Closed.{IsClosed}
use Rattle.mob_law.proofs.CarriedFacts.{FactsHold, AtFirst}

pub facts_begin : (p : Board) (s : Sets) → IsClosed p s → FactsHold p s p
facts_begin p s closed = (
  λ u. u,
  record {
    each = λ u man found. record { first = man; stood = found; color = refl; kind = inl refl; reach = closed.begins u man found };
    distinct = λ u v man other found found' same. same;
    fixed = λ f h. (refl, refl);
    second = λ u c pawn rank. refl;
    right = λ c w right. (right, refl, refl);
    target = λ t here. AtFirst here refl;
  },
)
