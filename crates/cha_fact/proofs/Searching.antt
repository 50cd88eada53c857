-- A position that was searched stays so among more entries, keys tell positions, and facts are true of what they tell.
use Rattle.std.proofs.Common.{◌≡◌, ℕ, zero, suc, List, ◌++◌, ap, subst, inl, inr, ◌↔◌}
use Rattle.std.specs.List.{Contains}
use Rattle.std.proofs.lemmas.List.Elements.{Contains-append_left, Contains-append_right}
use Rattle.cha_board.specs.declared.men.Color.{Color}
use Rattle.cha_board.specs.Board.{Board, IsValid}
use Rattle.cha_board.proofs.PackedWords.{words_tell}
use Rattle.cha_moves.specs.Moves.{after}
use Rattle.cha_fact.specs.declared.fact.Fact.{Fact}
use Rattle.cha_fact.specs.Keys.{key_of}
use Rattle.cha_fact.specs.Truths.{IsTrueOf}
use Rattle.cha_fact.specs.Entries.{Entry, HasProbe, HasFound, HasStore, IsSearched}

-- each entry of one list is in the other
abbrev pub Within : List Entry → List Entry → Type 0
Within some more = (e : Entry) → Contains some e → Contains more e

-- the two parts of a joined list
pub front_within : (xs ys : List Entry) → Within xs (xs ++ ys)
front_within xs ys e there = Contains-append_left xs ys e there

pub back_within : (xs ys : List Entry) → Within ys (xs ++ ys)
back_within xs ys e there = Contains-append_right xs ys e there

pub within_both : (before entries behind : List Entry) → Within entries (before ++ entries ++ behind)
within_both before entries behind e there = Contains-append_left (before ++ entries) behind e (Contains-append_right before entries e there)

probe_stays : (some more : List Entry) → Within some more → (q : Board) (w : Color) → HasProbe some q w → HasProbe more q w
unfolding HasProbe
probe_stays some more all q w has = (has.0, all _ has.1)

found_stays : (some more : List Entry) → Within some more → (q : Board) (w : Color) (d : ℕ) → HasFound some q w d → HasFound more q w d
unfolding HasFound
found_stays some more all q w d has = (has.0, has.1, has.2, has.3, all _ has.4)

store_stays : (some more : List Entry) → Within some more → (q : Board) (w : Color) (d : ℕ) → HasStore some q w d → HasStore more q w d
unfolding HasStore
store_stays some more all q w d has = (has.0, all _ has.1)

pub searched_more : (some more : List Entry) → Within some more → (q : Board) (w : Color) (d : ℕ) → IsSearched some q w d → IsSearched more q w d
searched_more some more all q w zero done = done
searched_more some more all q w (suc zero) done = done
searched_more some more all q w (suc (suc d)) done =
    elim done [
      | inl found ↦ inl (found_stays some more all q w (suc (suc d)) found)
      | inr parts ↦ inr (probe_stays some more all q w parts.0, store_stays some more all q w (suc (suc d)) parts.1, λ m legal. searched_more some more all (after q m) w (suc d) (parts.2 m legal))
    ]

pub keys_tell : (a b : Board) (v w : Color) → IsValid a → IsValid b → (key_of a v ≡ key_of b w) ↔ ((a ≡ b) × (v ≡ w))
keys_tell a b v w valid valid' = (
  (λ e. (words_tell a b valid valid' (ap (λ key. key.packed.words) e), ap (λ key. key.winner) e)),
  (λ both i. key_of (both.0 i) (both.1 i)),
)

-- what is true of a position and a side is true of those that were asked for by the same key
pub true_of_asked : (copy a b : Board) (v w : Color) (f g : Fact) → IsValid copy → copy ≡ a → IsValid b → key_of a v ≡ key_of b w → IsTrueOf a v f → f ≡ g → IsTrueOf b w g
true_of_asked copy a b v w f g valid copied valid' same holds is =
    let V : Board → Type 0 = λ x. IsValid x in
    let e = (keys_tell a b v w (subst V copied valid) valid').0 same in
    let P : Board → Type 0 = λ x. IsTrueOf x w g in
    let Q : Color → Type 0 = λ x. IsTrueOf a x g in
    let R : Fact → Type 0 = λ x. IsTrueOf a v x in
    subst P e.0 (subst Q e.1 (subst R is holds))
