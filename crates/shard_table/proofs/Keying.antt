-- When two keys are one.
use Rattle.std.proofs.Common.{◌≡◌, ℕ, Bool, true, false, List, nat_eq, IsTrue, ◌↔◌, refl, sym, subst}
use Rattle.std.proofs.lemmas.Bool.{and_parts}
use Rattle.std.proofs.lemmas.Bool.Decides.{Decides-eqb}
use Rattle.std.proofs.lemmas.Slice.Eq.{slice_eq-Decides}
use Rattle.std.specs.Cmp.Lexicographic.{pointwise}
use Rattle.cha_board.specs.declared.men.Color.{Color}
use Rattle.cha_board.specs.declared.men.Color.TheVariants.{White, Black}
use Rattle.cha_board.specs.Men.{same_color}
use Rattle.cha_board.proofs.Identity.{same_color_equal, same_color_self}
use Rattle.cha_fact.specs.declared.key.Key.{Key}
use Rattle.cha_fact.specs.contracts.key.KeyPartialEq.TheImpl.{eq-value}
use Rattle.shard_table.specs.Shards.{same_key}

-- keys that the test calls one are one
pub key_exact : (a b : Key) → same_key a b ≡ true → a ≡ b
unfolding same_key
key_exact a b e =
    let parts = and_parts (pointwise nat_eq a.packed.words b.packed.words) (same_color a.winner b.winner) e in
    let words = (slice_eq-Decides Decides-eqb a.packed.words b.packed.words _ refl).0 parts.0 in
    let winner = same_color_equal a.winner b.winner parts.1 in
    λ i. record { packed = record { words = words i }; winner = winner i }

-- a key is itself
pub key_itself : (a : Key) → same_key a a ≡ true
unfolding same_key
key_itself a = rw ((slice_eq-Decides Decides-eqb a.packed.words a.packed.words _ refl).1 refl, same_color_self a.winner) refl

-- the test is equality
pub key_tells : (a b : Key) → IsTrue (same_key a b) ↔ (a ≡ b)
key_tells a b = (key_exact a b, (λ e. subst (λ k. IsTrue (same_key a k)) e (key_itself a)))

key_from : List ℕ → Color → Key
key_from words winner = record { packed = record { words = words }; winner = winner }

eq_at : (ws us : List ℕ) (v w : Color) → eq-value.it (key_from ws v) (key_from us w) ≡ same_key (key_from ws v) (key_from us w)
unfolding same_key key_from
eq_at ws us White White = refl
eq_at ws us White Black = refl
eq_at ws us Black White = refl
eq_at ws us Black Black = refl

-- the program's `==` of keys is the test
pub eq_is_same : (a b : Key) → eq-value.it a b ≡ same_key a b
unfolding key_from
eq_is_same a b = eq_at a.packed.words b.packed.words a.winner b.winner

bool_same : (a b : Bool) → (a ≡ true → b ≡ true) → (b ≡ true → a ≡ true) → a ≡ b
bool_same true b f g = sym (f refl)
bool_same false true f g = g refl
bool_same false false f g = refl

-- the test does not tell its two keys apart
pub same_back : (a b : Key) → same_key b a ≡ same_key a b
same_back a b = bool_same (same_key b a) (same_key a b)
    (λ e. subst (λ k. same_key a k ≡ true) (sym (key_exact b a e)) (key_itself a))
    (λ e. subst (λ k. same_key b k ≡ true) (sym (key_exact a b e)) (key_itself b))
