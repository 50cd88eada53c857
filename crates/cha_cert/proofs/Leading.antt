-- Where the legal moves from a position lead.
use Rattle.std.proofs.Common.{◌≡◌, ℕ, ◌+◌, ◌<◌, ◌≤◌, Bool, List, length, get_or, Result, Ok, Err, IfOk, IsTrue, subst, ◌↔◌, arith, inl, inr}
use Rattle.std.specs.List.{Contains}
use Rattle.std.proofs.lemmas.Bool.{cases_lt}
use Rattle.cha_board.specs.declared.men.Color.{Color}
use Rattle.cha_board.specs.Men.{other_color}
use Rattle.cha_board.specs.Board.{Board, IsValid}
use Rattle.cha_moves.specs.Step.{Move}
use Rattle.cha_moves.specs.Moves.{after, legal}
use Rattle.cha_moves.specs.Ends.{IsMated}
use Rattle.cha_moves.proofs.Listed.{is_listed}
use Rattle.cha_moves.proofs.Validity.{after_is_valid}
use Rattle.cha_cert.specs.declared.indexing.IndexEntry.{IndexEntry}
use Rattle.cha_cert.specs.declared.nodes.Node.{Node}
use Rattle.cha_cert.specs.Certificates.{positions_of, InnerHolds}
use Rattle.cha_cert.specs.Indexed.{packed_of, words_in, LeadsInto}
use Rattle.cha_cert.proofs.Finding.{Shows}

-- one more move leads to a position of the index
pub leads_more : (places : List IndexEntry) (q : Board) (moves : List Move) (k : ℕ) → ((j : ℕ) (d : Move) → j < k → Contains (words_in places) (packed_of (after q (get_or moves j d))))
    → ((d : Move) → Contains (words_in places) (packed_of (after q (get_or moves k d)))) → (j : ℕ) (d : Move) → j < k + 1 → Contains (words_in places) (packed_of (after q (get_or moves j d)))
leads_more places q moves k before here j d less =
    elim (cases_lt j k) [
      | inl low ↦ before j d low
      | inr high ↦ (let same : k ≡ j = omega arith in subst (λ i. Contains (words_in places) (packed_of (after q (get_or moves i d)))) same (here d))
    ]

-- all moves do
pub leads_all : (w : Color) (places : List IndexEntry) (q : Board) (n : ℕ) → (IsMated q (other_color w) → ⊥) → length (legal q) ≤ n
    → ((k : ℕ) (d : Move) → k < n → Contains (words_in places) (packed_of (after q (get_or (legal q) k d)))) → LeadsInto w places q
leads_all w places q n free ended all = record {
  no_mate = free;
  leads = λ m there. subst (λ step. Contains (words_in places) (packed_of (after q step))) there.2 (all (there.0) m (let inside = there.1 in omega (arith, inside)));
}

-- what leads to positions of an index leads to the positions of the nodes that it shows
pub leads_shown : (w : Color) (nodes : List Node) (places : List IndexEntry) (q : Board) → IsValid q → Shows nodes places → LeadsInto w places q ↔ InnerHolds w nodes q
leads_shown w nodes places q valid shows =
    let next : (m : Move) → Contains (legal q) m → Contains (words_in places) (packed_of (after q m)) ↔ Contains (positions_of nodes) (after q m) = λ m there. (
    let is = is_listed q m there in
    shows (after q m) (after_is_valid q m valid is.from is.to is.legal)) in (
      λ l. record { no_mate = l.no_mate; leads = λ m there. (next m there).0 (l.leads m there) },
      λ h. record { no_mate = h.no_mate; leads = λ m there. (next m there).1 (h.leads m there) },
    )

-- what one test says, another says too
pub told_alike : {P Q E : Type 0} → P ↔ Q → (r : Result Bool E) → IfOk r (λ b. IsTrue b ↔ P) → IfOk r (λ b. IsTrue b ↔ Q)
told_alike alike (Ok b) told = ((λ t. alike.0 (told.0 t)), (λ q. told.1 (alike.1 q)))
told_alike alike (Err e) told = tt
