-- Positions found in a table by their words.
use Rattle.std.proofs.Common.{◌≡◌, ℕ, zero, suc, Bool, true, false, cond, nat_eq, List, [], ◌∷◌, Option, None, Some, slice_get, refl, sym, ap, ◌∙◌}
use Rattle.std.proofs.lemmas.Bool.Decides.{Decides-eqb}
use Rattle.std.proofs.lemmas.Option.{same_Some}
use Rattle.std.proofs.lemmas.Slice.Eq.{slice_eq-Decides}
use Rattle.std.specs.Cmp.Lexicographic.{pointwise}
use Rattle.std.specs.Map.{lookup, lookup_key}
use Rattle.cha_board.specs.Board.{Board, IsValid}
use Rattle.cha_board.specs.Packing.{words_of}
use Rattle.cha_board.proofs.PackedWords.{words_tell}
use Rattle.node_store.specs.declared.spot.Spot.{Spot}
use Rattle.node_store.specs.declared.origin.NodeMark.{NodeMark}
use Rattle.std.specs.Option.{option_map}
use Rattle.node_store.specs.Nodes.{leaves, origins, IsAt, IsNew}
use Rattle.node_store.specs.Places.{nodes_of}

-- the key of a position is another key
abbrev pub is_key : Board → Spot → Bool
is_key q spot = pointwise nat_eq (words_of q) (words_of spot.position)

same_words : (q : Board) (spot : Spot) → is_key q spot ≡ true → words_of q ≡ words_of spot.position
same_words q spot h = (slice_eq-Decides Decides-eqb (words_of q) (words_of spot.position) _ refl).0 h

own_words : (q : Board) (spot : Spot) → spot.position ≡ q → is_key q spot ≡ true
own_words q spot h = (slice_eq-Decides Decides-eqb (words_of q) (words_of spot.position) _ refl).1 (ap words_of (sym h))

module _ (test : Spot → Bool) where
  passed : (e : Spot × NodeMark) (rest : Option Spot) (k : Spot) (b : Bool) → test e.0 ≡ b → cond b (Some e.0) rest ≡ Some k → (rest ≡ Some k → test k ≡ true) → test k ≡ true
  passed e rest k true is found later = ap test (sym (same_Some e.0 k found)) ∙ is
  passed e rest k false is found later = later found

  -- a key that is looked up passes
  pub key_passes : (es : List (Spot × NodeMark)) (k : Spot) → lookup_key test es ≡ Some k → test k ≡ true
  key_passes [] k found = cc
  key_passes (e ∷ es) k found = passed e (lookup_key test es) k (test e.0) refl found (key_passes es k)

  missed : (e : Spot × NodeMark) (rest : Option NodeMark) (b : Bool) → cond b (Some e.1) rest ≡ None → (b ≡ false) × (rest ≡ None)
  missed e rest true none = cc
  missed e rest false none = (refl, none)

  -- where none is found none passes
  pub none_passes : (es : List (Spot × NodeMark)) → lookup test es ≡ None → (i : ℕ) (q : Board) → IsAt (nodes_of es) i q → ((spot : Spot) → spot.position ≡ q → test spot ≡ true) → ⊥
  none_passes [] none i q at passes = cc
  none_passes (e ∷ es) none zero q at passes =
      let miss = missed e (lookup test es) (test e.0) none in
      let hit : test e.0 ≡ true = passes e.0 (same_Some e.0.position q at) in
      cc
  none_passes (e ∷ es) none (suc i) q at passes = none_passes es (missed e (lookup test es) (test e.0) none).1 i q at passes

  unseen_step : (e : Spot × NodeMark) (rest : Option NodeMark) (b : Bool) → (b ≡ true → ⊥) → rest ≡ None → cond b (Some e.1) rest ≡ None
  unseen_step e rest true never none = absurd (never refl)
  unseen_step e rest false never none = none

  none_found : (es : List (Spot × NodeMark)) → ((i : ℕ) (spot : Spot) → IsAt (nodes_of es) i spot.position → test spot ≡ true → ⊥) → lookup test es ≡ None
  none_found [] never = refl
  none_found (e ∷ es) never = unseen_step e (lookup test es) (test e.0) (λ h. never 0 e.0 refl h) (none_found es (λ i spot at h. never (suc i) spot at h))

-- a position that no node has is found nowhere
pub new_unfound : (es : List (Spot × NodeMark)) (q : Board) → ((i : ℕ) (p : Board) → IsAt (nodes_of es) i p → IsValid p) → IsValid q → IsNew (nodes_of es) q → lookup (is_key q) es ≡ None
new_unfound es q valid sound new =
    none_found (is_key q) es (λ i spot at h.
    let same : q ≡ spot.position = words_tell q spot.position sound (valid i spot.position at) (same_words q spot h) in
    new i (at ∙ ap Some (sym same)))

-- and what is found nowhere no node has
pub unfound_new : (es : List (Spot × NodeMark)) (q : Board) → lookup (is_key q) es ≡ None → IsNew (nodes_of es) q
unfound_new es q none i at = none_passes (is_key q) es none i q at (λ spot h. own_words q spot h)

-- a key that is found has the position
pub found_same : (es : List (Spot × NodeMark)) (q : Board) (spot : Spot) → IsValid q → IsValid spot.position → lookup_key (is_key q) es ≡ Some spot → spot.position ≡ q
found_same es q spot sound valid found = sym (words_tell q spot.position sound valid (same_words q spot (key_passes (is_key q) es spot found)))

-- the position of an entry
pub at_entry : (es : List (Spot × NodeMark)) (i : ℕ) (spot : Spot) (place : NodeMark) → slice_get es i ≡ Some (spot, place) → IsAt (nodes_of es) i spot.position
at_entry [] i spot place at = cc
at_entry (e ∷ es) zero spot place at = ap (λ (o : Option (Spot × NodeMark)). option_map (λ (x : Spot × NodeMark). x.0.position) o) at
at_entry (e ∷ es) (suc i) spot place at = at_entry es i spot place at

-- and its mark
pub leaf_entry : (es : List (Spot × NodeMark)) (i : ℕ) (spot : Spot) (place : NodeMark) → slice_get es i ≡ Some (spot, place) → slice_get (leaves (nodes_of es)) i ≡ Some place.leaf
leaf_entry [] i spot place at = cc
leaf_entry (e ∷ es) zero spot place at = ap (λ (o : Option (Spot × NodeMark)). option_map (λ (x : Spot × NodeMark). x.1.leaf) o) at
leaf_entry (e ∷ es) (suc i) spot place at = leaf_entry es i spot place at

-- and where it came from
pub origin_entry : (es : List (Spot × NodeMark)) (i : ℕ) (spot : Spot) (place : NodeMark) → slice_get es i ≡ Some (spot, place) → slice_get (origins (nodes_of es)) i ≡ Some place.origin
origin_entry [] i spot place at = cc
origin_entry (e ∷ es) zero spot place at = ap (λ (o : Option (Spot × NodeMark)). option_map (λ (x : Spot × NodeMark). x.1.origin) o) at
origin_entry (e ∷ es) (suc i) spot place at = origin_entry es i spot place at

-- the equality of keys
abbrev pub same_spot : Spot → Spot → Bool
same_spot a b = is_key a.position b
