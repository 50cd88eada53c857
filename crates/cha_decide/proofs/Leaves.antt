-- Certificates of one node, and what is shown without a search.
use Rattle.std.proofs.Common.{◌≡◌, zero, suc, List, [], ◌∷◌, Option, Some, None, Result, Ok, Err, IfOk, sym, subst, refl, inr, arith}
use Rattle.std.specs.List.{All}
use Rattle.std.specs.Option.{IfSome}
use Rattle.std.proofs.lemmas.Option.{same_Some}
use Rattle.cha_list.specs.declared.memory.NoMemory.{NoMemory}
use Rattle.cha_board.specs.declared.men.Color.{Color}
use Rattle.cha_board.specs.Board.{Board, IsValid}
use Rattle.mob_law.specs.Closed.{IsClosed}
use Rattle.mob_law.specs.Static.{IsStaticallyUnwinnable}
use Rattle.mob_law.specs.Threats.{HasNoMate}
use Rattle.mob_sets.specs.Rows.{SetRows, sets_of}
use Rattle.cha_cert.specs.declared.nodes.Node.{Node}
use Rattle.cha_cert.specs.declared.nodes.Part.{Part}
use Rattle.cha_cert.specs.declared.nodes.Part.TheVariants.{Inner, Leaf, Men}
use Rattle.cha_cert.specs.Certificates.{AllValid, LeafHolds, IsLeaf, PartHolds, NodeHolds, IsValidCert}
use Rattle.mob_small.specs.declared.reasons.Reason.{Reason}
use Rattle.mob_small.specs.Reasons.{ReasonHolds}
use Rattle.cha_cert.proofs.Leaves.{leaf_holds}
use Rattle.cha_limits.specs.Bounds.{Bounds}
use Rattle.cha_verdict.specs.declared.verdicts.Verdict.TheVariants.{Unwinnable}
use Rattle.cha_cert.specs.AtOnce.{IsShownAtOnce, BySets}
use Rattle.forced_graph.specs.Outcomes.{HasExpandedInner}
use Rattle.cha_decide.specs.Shown.{HasNoInner, IsShownUnwinnable, IsShownAlone, IsFound}

module _ (q : Board) (w : Color) (part : Part) (valid : IsValid q) where
  abbrev pub node : Node
  node = record { position = q; part = part }

  all_hold : PartHolds w (node ∷ []) q part → All (NodeHolds w (node ∷ [])) (node ∷ [])
  all_hold holds zero d small = holds
  all_hold holds (suc k) d small = absurd (omega arith)

  all_valid : AllValid (node ∷ [])
  all_valid zero d small = valid
  all_valid (suc k) d small = absurd (omega arith)

  -- a leaf makes it valid
  pub leaf_is_valid : IsLeaf w q part → (cert : List Node) → cert ≡ node ∷ [] → IsValidCert q w cert
  leaf_is_valid leaf cert is =
      let one : IsValidCert q w (node ∷ []) = record { begins = refl; positions = all_valid; holds = all_hold (leaf_holds w (node ∷ []) q part leaf) } in
      subst (λ nodes. IsValidCert q w nodes) (sym is) one

-- closed mobility sets without a mate are a leaf
pub leaf_of_sets : (q : Board) (w : Color) (verdict : Option SetRows) (sets : SetRows) → verdict ≡ Some sets → IfSome verdict (λ s. IsClosed q (sets_of s)) → IfSome verdict (λ s. HasNoMate q (sets_of s) w) → IsLeaf w q (Leaf sets)
unfolding IsLeaf
leaf_of_sets q w None sets is closed no_mate = cc
leaf_of_sets q w (Some s) sets is closed no_mate =
    let holds : LeafHolds w q s = record { closed = closed; no_mate = no_mate } in
    subst (λ (x : SetRows). LeafHolds w q x) (same_Some s sets is) holds

-- and so are men that show it alone
pub leaf_of_men : (q : Board) (w : Color) (reason : Reason) → ReasonHolds q w reason → IsLeaf w q (Men reason)
unfolding IsLeaf
leaf_of_men q w reason holds = holds

-- what is not shown without a search is not shown by sets
pub no_sets : (q : Board) (w : Color) → (IsShownAtOnce q w → ⊥) → IsStaticallyUnwinnable q w → ⊥
no_sets q w unshown static = unshown (BySets static)

-- a certificate of one node that is no inner one
pub none_inner : (q : Board) (part : Part) → (part ≡ Inner → ⊥) → (cert : List Node) → cert ≡ record { position = q; part = part } ∷ [] → HasNoInner cert
none_inner q part leaf cert is = subst HasNoInner (sym is) one
  where
    one : HasNoInner (record { position = q; part = part } ∷ [])
    one zero d small = leaf
    one (suc k) d small = absurd (omega (arith, small))

-- a certificate that was accepted is the one that was checked
pub shown_alone : (o : Result (List Node) NoMemory) (q : Board) (w : Color) (cert : List Node) → IfOk o (IsShownUnwinnable q w) → IfOk o (λ shown. shown ≡ cert) → HasNoInner cert → IfOk o (IsShownAlone q w)
shown_alone (Err e) q w cert shown same outer = tt
shown_alone (Ok nodes) q w cert shown same outer = record { valid = shown.valid; size = shown.size; outer = subst HasNoInner (sym same) outer }

-- so what an exploration of an unshown position shows is found
pub found_closed : (q : Board) (w : Color) (limits : Bounds) (cert shown : List Node) → (IsShownAtOnce q w → ⊥) → HasExpandedInner q w limits.budget cert → shown ≡ cert → IsShownUnwinnable q w shown → IsFound q w limits (Unwinnable shown)
found_closed q w limits cert shown unshown inner same is = record {
  holds = is.valid;
  printable = is.size;
  examined = refl;
  expanded = inr (unshown, subst (HasExpandedInner q w limits.budget) (sym same) inner);
}
