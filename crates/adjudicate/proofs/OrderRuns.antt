-- Runs of orders, whether they report or correct games.
use Rattle.std.proofs.Common.{inl, ℕ, List, [], Option, refl, sym, arith}
use Rattle.std.proofs.KnownBytes.{Appends-nil, Consumes-nil}
use Rattle.cha_words.specs.declared.orders.Order.{Order}
use Rattle.cha_words.specs.declared.orders.Order.TheVariants.{CorrectGames, JudgePositions, CheckCert, GenGames, ListMates}
use Rattle.adjudicate.specs.declared.endings.Status.TheVariants.{NoMemory}
use Rattle.adjudicate.specs.Jobs.{job}
use Rattle.adjudicate.specs.Report.{demand}
use Rattle.adjudicate.specs.Runs.{outside}
use Rattle.adjudicate.specs.Corrections.{Correction, Noted}
use Rattle.adjudicate.specs.Orders.{IsCorrecting, IsRun}
use Rattle.adjudicate.proofs.Fronts.{front_of_none}
use Rattle.item_batches.specs.Items.{TookAsNeeded}
use Rattle.side_by_side.specs.declared.cuts.Purpose.TheVariants.{Judged, Corrected}
use Rattle.side_by_side.specs.declared.cuts.ItemKind.TheVariants.{Games as GamesFor, Lines as LineItems}
use Rattle.item_batches.proofs.Settling.{took_nothing}
use Rattle.adjudicate.proofs.RunEndings.{took_all, not_begun_by}

-- where memory is refused before anything is read
pub nothing_corrected : (c : Correction) → TookAsNeeded c.judging.settled [] 0 → (left a : Option (List ℕ)) (f g : ℕ) (notes : Noted) → IsCorrecting c NoMemory (outside left f a g) (outside left f a g) notes notes
nothing_corrected c took left a f g notes = record {
  ended = ([], Consumes-nil left, ([], (c.judging.items [], refl, tt, inl (omega arith)), took, omega arith, ([], Appends-nil a, sym (front_of_none c.changed []))), refl);
  read_fault = λ e. cc;
  write_fault = λ e. cc;
  too_long = λ e. cc;
  not_too_long = λ _. ([], Consumes-nil left, omega arith);
  never_too_long = λ bytes told small e. cc;
  source_later = omega arith;
  sink_later = omega arith;
  notes_later = omega arith;
}

-- where nothing was taken, no piece was: of lines, of what has no items to settle, and else of games
took_none : (order : Order) → TookAsNeeded (demand order).settled [] 0
took_none (JudgePositions limits style) = took_nothing LineItems
took_none (ListMates side workers depth style) = took_nothing LineItems
took_none CheckCert = took_all (λ _. 0) (λ _. refl) []
took_none (GenGames limits seed count) = took_all (λ _. 0) (λ _. refl) []
took_none order = took_nothing (GamesFor Judged)

pub not_begun : (order : Order) (left a : Option (List ℕ)) (f g : ℕ) (notes : Noted) → IsRun order NoMemory (outside left f a g) (outside left f a g) notes notes
not_begun (CorrectGames limits flagged changed) left a f g notes = nothing_corrected _ (took_nothing (GamesFor Corrected)) left a f g notes
not_begun order left a f g notes = (not_begun_by (job order) (took_none order) left a f g, refl)
