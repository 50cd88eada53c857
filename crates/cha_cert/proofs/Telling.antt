-- Which sets are equal, and what one more node makes of shared ones.
use Rattle.std.proofs.Common.{◌≡◌, ℕ, zero, suc, ◌+◌, ◌<◌, ◌≤◌, ◌==◌, nat_lt, Bool, true, false, List, [], ◌∷◌, ◌++◌, take, length, get_or, Option, Some, None, refl, sym, ap, subst, ◌∙◌, arith}
use Rattle.std.specs.Bool.{Decides}
use Rattle.std.specs.List.{position_or_len}
use lib.Pointwise.{pointwise}
use Rattle.std.proofs.lemmas.Bool.{and_parts, and_from, false_from_ne_true}
use Rattle.std.proofs.lemmas.Bool.Decides.{Decides-eqb, nat_tests}
use Rattle.std.proofs.lemmas.List.Sums.{fold_more}
use Rattle.std.proofs.lemmas.Slice.Eq.{slice_eq-Decides}
use Rattle.cha_board.specs.Men.{same_kind}
use Rattle.cha_board.specs.Board.{Board}
use Rattle.cha_board.proofs.Identity.{same_kind_equal, same_kind_self}
use Rattle.mob_sets.specs.Rows.{Row, SetRows}
use Rattle.cha_cert.specs.declared.nodes.Node.{Node}
use Rattle.cha_cert.specs.declared.shared.SharedPart.TheVariants.{Leaf as SharedLeaf}
use Rattle.cha_cert.specs.Shared.{Shared, same_bit, same_squares, same_row, same_sets, number_in, leaf_added, part_added, shared_of}

bit_decides : (a b : Bool) → Decides (same_bit a b) (a ≡ b)
bit_decides true true = ((λ e. refl), (λ e. refl))
bit_decides true false = ((λ e. cc), (λ e. cc))
bit_decides false true = ((λ e. cc), (λ e. cc))
bit_decides false false = ((λ e. refl), (λ e. refl))

squares_decide : (a b : List Bool) → Decides (same_squares a b) (a ≡ b)
squares_decide a b = slice_eq-Decides bit_decides a b (same_squares a b) refl

row_itself : (a : Row) → same_row a a ≡ true
row_itself a =
    and_from (a.origin == a.origin) _ ((Decides-eqb a.origin a.origin).1 refl) (and_from (same_kind a.kind a.kind) _ (same_kind_self a.kind) ((squares_decide a.squares a.squares).1 refl))

row_decides : (a b : Row) → Decides (same_row a b) (a ≡ b)
row_decides a b = (
  (λ t.
      let one = and_parts (a.origin == b.origin) _ t in
      let two = and_parts (same_kind a.kind b.kind) _ one.1 in
      let origin = (Decides-eqb a.origin b.origin).0 one.0 in
      let kind = same_kind_equal a.kind b.kind two.0 in
      let squares = (squares_decide a.squares b.squares).0 two.1 in
      (λ i. record { origin = origin i; kind = kind i; squares = squares i })),
  (λ e. subst (λ (x : Row). same_row a x ≡ true) e (row_itself a)),
)

pub sets_decide : (a b : SetRows) → Decides (same_sets a b) (a ≡ b)
sets_decide a b = (
  (λ t.
      let both = and_parts (pointwise same_row a.rows b.rows) _ t in
      let rows = (slice_eq-Decides row_decides a.rows b.rows (pointwise same_row a.rows b.rows) refl).0 both.0 in
      let loose = (squares_decide a.loose b.loose).0 both.1 in
      (λ i. record { rows = rows i; loose = loose i })),
  (λ e. subst (λ (x : SetRows). same_sets a x ≡ true) e
      (and_from (pointwise same_row a.rows a.rows) _ ((slice_eq-Decides row_decides a.rows a.rows (pointwise same_row a.rows a.rows) refl).1 refl) ((squares_decide a.loose a.loose).1 refl))),
)

-- the first place at which a test passes
place_found : {X : Type 0} (p : X → Bool) (xs : List X) (k : ℕ) → k < length xs → ((d : X) → p (get_or xs k d) ≡ true) → ((j : ℕ) (d : X) → j < k → p (get_or xs j d) ≡ false) → position_or_len p xs ≡ k
place_found p [] k inside here before = absurd (omega (arith, inside))
place_found p (x ∷ xs) zero inside here before = rw (here x) refl
place_found p (x ∷ xs) (suc k) inside here before =
    let rest : position_or_len p xs ≡ k = place_found p xs k (omega (arith, inside)) here (λ j d less. before (suc j) d (omega (arith, less))) in
    rw (before 0 x (omega arith)) (omega (arith, rest))

no_place_found : {X : Type 0} (p : X → Bool) (xs : List X) → ((j : ℕ) (d : X) → j < length xs → p (get_or xs j d) ≡ false) → position_or_len p xs ≡ length xs
no_place_found p [] none = refl
no_place_found p (x ∷ xs) none =
    let rest : position_or_len p xs ≡ length xs = no_place_found p xs (λ j d less. none (suc j) d (omega (arith, less))) in
    rw (none 0 x (omega arith)) (omega (arith, rest))

is_below : (a b k : ℕ) → a ≡ k → k < b → nat_lt a b ≡ true
is_below a b k e less = grind (arith, nat_tests)

is_not_below : (a b : ℕ) → a ≡ b → nat_lt a b ≡ false
is_not_below a b e = grind (arith, nat_tests)

pub number_there : (all : List SetRows) (s : SetRows) (k : ℕ) → k < length all → ((d : SetRows) → get_or all k d ≡ s) → ((j : ℕ) (d : SetRows) → j < k → get_or all j d ≡ s → ⊥) → Some k ≡ number_in all s
unfolding number_in
number_there all s k inside here before =
    let p = λ (t : SetRows). same_sets t s in
    let at = place_found p all k inside (λ d. (sets_decide (get_or all k d) s).1 (here d)) (λ j d less. false_from_ne_true (p (get_or all j d)) (λ t. before j d less ((sets_decide (get_or all j d) s).0 t))) in
    rw (is_below (position_or_len p all) (length all) k at inside) (ap Some (sym at))

pub number_nowhere : (all : List SetRows) (s : SetRows) (n : ℕ) → length all ≤ n → ((j : ℕ) (d : SetRows) → j < n → get_or all j d ≡ s → ⊥) → None ≡ number_in all s
unfolding number_in
number_nowhere all s n many none =
    let p = λ (t : SetRows). same_sets t s in
    let at = no_place_found p all (λ j d less. false_from_ne_true (p (get_or all j d)) (λ t. none j d (omega (arith, less, many)) ((sets_decide (get_or all j d) s).0 t))) in
    rw (is_not_below (position_or_len p all) (length all) at) refl

-- a leaf whose sets are there
pub leaf_old : (c d : Shared) (all : List SetRows) (q : Board) (s : SetRows) (i : ℕ) (o : Option ℕ) → all ≡ c.sets → o ≡ Some i → o ≡ number_in all s
    → d ≡ record { sets = c.sets; nodes = c.nodes ++ (record { position = q; part = SharedLeaf i }) ∷ [] } → d ≡ leaf_added c q s (number_in c.sets s)
leaf_old c d all q s i o here some told pushed =
    let at : Some i ≡ number_in c.sets s = sym some ∙ told ∙ ap (λ xs. number_in xs s) here in
    pushed ∙ ap (leaf_added c q s) at

-- a leaf whose sets are new, and were appended before
pub leaf_new : (c e d : Shared) (all : List SetRows) (q : Board) (s copy : SetRows) (n : ℕ) (o : Option ℕ) → all ≡ c.sets → o ≡ None → o ≡ number_in all s → copy ≡ s
    → e ≡ record { sets = c.sets ++ copy ∷ []; nodes = c.nodes } → n ≡ length c.sets
    → d ≡ record { sets = e.sets; nodes = e.nodes ++ (record { position = q; part = SharedLeaf n }) ∷ [] } → d ≡ leaf_added c q s (number_in c.sets s)
leaf_new c e d all q s copy n o here none told copied grown at pushed =
    let nowhere : None ≡ number_in c.sets s = sym none ∙ told ∙ ap (λ xs. number_in xs s) here in
    let sets : e.sets ≡ c.sets ++ s ∷ [] = ap (λ (x : Shared). x.sets) grown ∙ ap (λ x. c.sets ++ x ∷ []) copied in
    let old : e.nodes ≡ c.nodes = ap (λ (x : Shared). x.nodes) grown in
    pushed ∙ (λ i. record { sets = sets i; nodes = old i ++ (record { position = q; part = SharedLeaf (at i) }) ∷ [] }) ∙ ap (leaf_added c q s) nowhere

-- nothing is shared at first
pub none_shared : (c : Shared) → c ≡ record { sets = []; nodes = [] } → c ≡ shared_of []
unfolding shared_of
none_shared c e = e

-- one more node is shared
pub one_shared : (nodes : List Node) (k : ℕ) (node : Node) (c d : Shared) → k < length nodes → node ≡ get_or nodes k node → c ≡ shared_of (take k nodes) → d ≡ part_added c node.position node.part
    → d ≡ shared_of (take (k + 1) nodes)
unfolding shared_of
one_shared nodes k node c d inside is so_far added =
    added ∙ (λ i. part_added (so_far i) (is i).position (is i).part)
    ∙ sym (fold_more (λ (x : Shared) (n : Node). part_added x n.position n.part) (record { sets = []; nodes = [] }) nodes k node inside)
