-- How loops over rows and nodes go on, and where a text ends.
use Rattle.std.proofs.Common.{◌≡◌, ℕ, zero, suc, ◌<◌, ◌==◌, nat_lt, Bool, true, false, not, List, [], ◌∷◌, ◌++◌, length, drop, get_or, Option, Some, Result, Ok, refl, sym, ap, subst, ◌∙◌, arith, inl, inr}
use Rattle.std.specs.List.{list_all}
use Rattle.std.proofs.lemmas.Bool.{and_parts, cases_lt, eq-eqb, both_ways}
use Rattle.std.proofs.lemmas.Bool.Decides.{nat_tests}
use Rattle.std.proofs.lemmas.List.{get_or_append_left, get_or_at, length-append}
use Rattle.cha_board.specs.SquareSets.{empty_set, bits_of_set}
use Rattle.cha_board.specs.Squares.{squares}
use Rattle.mob_sets.specs.Rows.{Row, row_place}
use Rattle.mob_sets.specs.Tidy.{AreTidy, IsFull}
use Rattle.cha_cert.specs.declared.nodes.Node.{Node}
use Rattle.cert_text.specs.declared.faults.CertFault.{CertFault}
use Rattle.cert_text.specs.declared.rest.Left.{Left}
use Rattle.cert_text.specs.Agreeing.{RowGoesOn}
use Rattle.cert_text.specs.declared.faults.CertKind.TheVariants.{End}
use Rattle.cert_text.specs.Spelled.{IsInnerOrLeaf, AreInnerOrLeaves}
use Rattle.cert_text.specs.TextLines.{lines_of, tail_of}
use Rattle.cert_text.specs.Texts.{Parsed, found, misfit, and_then, ended, follows, rows_after, node_after, nodes_after}

-- one more row
pub row_goes : (bytes now then : List ℕ) (whole : Result (Parsed (List Row)) CertFault) (rows : List Row) (left : Left) (next : Row × Left) (o : Option (Row × Left)) → now ≡ then → now ≡ tail_of (drop left.at bytes)
    → o ≡ Some next → whole ≡ rows_after then rows left.number (lines_of (drop left.at bytes)) → RowGoesOn bytes rows left o
    → whole ≡ rows_after then (rows ++ next.0 ∷ []) next.1.number (lines_of (drop next.1.at bytes))
row_goes bytes now then whole rows left next o same here e so_far goes =
    let step = subst (RowGoesOn bytes rows left) e goes in
    so_far ∙ subst (λ tail. rows_after tail rows left.number (lines_of (drop left.at bytes)) ≡ rows_after tail (rows ++ next.0 ∷ []) next.1.number (lines_of (drop next.1.at bytes))) (sym here ∙ same) step

-- one more node
pub node_goes : (now then : List ℕ) (whole : Result (Parsed (List Node)) CertFault) (nodes : List Node) (node : Node) (k left n m : ℕ) (lines rest : List (List ℕ)) → now ≡ then → left ≡ suc k
    → whole ≡ nodes_after then left nodes n lines → node_after now n lines ≡ found node m rest → whole ≡ nodes_after then k (nodes ++ node ∷ []) m rest
unfolding nodes_after
node_goes now then whole nodes node k left n m lines rest same e so_far next =
    let here = subst (λ tail. node_after tail n lines ≡ found node m rest) same next in
    so_far ∙ rw (e, here) refl

-- the first node, and then the others
pub node_first : (now then : List ℕ) (whole : Result (Parsed (List Node)) CertFault) (nodes : List Node) (k left n : ℕ) (lines : List (List ℕ)) → now ≡ then → left ≡ suc k
    → whole ≡ nodes_after then left nodes n lines → whole ≡ and_then (node_after now n lines) (λ node. nodes_after then k (nodes ++ node.value ∷ []) node.number node.lines)
unfolding nodes_after
node_first now then whole nodes k left n lines same e so_far =
    so_far ∙ rw e refl ∙ ap (λ tail. and_then (node_after tail n lines) (λ node. nodes_after then k (nodes ++ node.value ∷ []) node.number node.lines)) (sym same)

-- all nodes are read
pub nodes_done : (then : List ℕ) (whole : Result (Parsed (List Node)) CertFault) (nodes : List Node) (left n : ℕ) (lines : List (List ℕ)) → left ≡ 0
    → whole ≡ nodes_after then left nodes n lines → whole ≡ found nodes n lines
unfolding nodes_after
nodes_done then whole nodes left n lines e so_far = so_far ∙ rw e refl

-- nodes and one more are inner ones and leaves
pub inner_or_leaf_more : (nodes : List Node) (node : Node) → AreInnerOrLeaves nodes → IsInnerOrLeaf node.part → AreInnerOrLeaves (nodes ++ node ∷ [])
inner_or_leaf_more nodes node all one k d inside =
    elim (cases_lt k (length nodes)) [
      | inl low ↦ rw (get_or_append_left nodes (node ∷ []) d k low) (all k d low)
      | inr high ↦ (
          let here : length nodes ≡ k = omega (arith, inside, high, length-append nodes (node ∷ [])) in
          let P : ℕ → Type 0 = λ j. IsInnerOrLeaf (get_or (nodes ++ node ∷ []) j d).part in
          subst P here (subst (λ (n : Node). IsInnerOrLeaf n.part) (sym (get_or_at nodes node [] d (length nodes) refl)) one))
    ]

nothing : bits_of_set empty_set ≡ 0
unfolding bits_of_set squares
nothing = refl

not_zero : (n : ℕ) → not (n == 0) ≡ true → n ≡ 0 → ⊥
not_zero n t e = (let z : (n == 0) ≡ true = eq-eqb n 0 e in both_ways (not (n == 0)) (ap not z) t)

each_before : (rows : List Row) (place : ℕ) → list_all (λ r. nat_lt (row_place r) place) rows ≡ true → (k : ℕ) (d : Row) → k < length rows → row_place (get_or rows k d) < place
each_before [] place t k d less = absurd (omega (arith, less))
each_before (row ∷ rows) place t zero d less = (let here = (and_parts (nat_lt (row_place row) place) _ t).0 in grind (arith, nat_tests))
each_before (row ∷ rows) place t (suc k) d less = each_before rows place (and_parts (nat_lt (row_place row) place) _ t).1 k d (omega (arith, less))

-- rows and one that follows are tidy
pub tidy_more : (rows : List Row) (row : Row) → AreTidy rows → follows rows row ≡ true → length row.squares ≡ 64 → AreTidy (rows ++ row ∷ [])
tidy_more rows row tidy follow width =
    let parts = and_parts (not (bits_of_set row.squares == 0)) _ follow in
    let full : IsFull row = record { width = width; some = λ e. not_zero (bits_of_set row.squares) parts.0 (ap bits_of_set e ∙ nothing) } in
    let last = λ (d : Row). get_or_at rows row [] d (length rows) refl in
    record {
      ordered = λ i j d less inside.
          elim (cases_lt j (length rows)) [
            | inl low ↦ (
                let up = tidy.ordered i j d less low in
                rw (get_or_append_left rows (row ∷ []) d i (omega arith), get_or_append_left rows (row ∷ []) d j low) up)
            | inr high ↦ (
                let here : j ≡ length rows = omega (arith, inside, high, length-append rows (row ∷ [])) in
                let up = each_before rows (row_place row) parts.1 i d (omega arith) in
                rw (get_or_append_left rows (row ∷ []) d i (omega arith), here, last d) up)
          ];
      full = λ k d inside.
          elim (cases_lt k (length rows)) [
            | inl low ↦ rw (get_or_append_left rows (row ∷ []) d k low) (tidy.full k d low)
            | inr high ↦ (
                let here : k ≡ length rows = omega (arith, inside, high, length-append rows (row ∷ [])) in
                rw (here, last d) full)
          ];
    }

more_behind : {A : Type 0} (b : ℕ) (bs : List ℕ) (lines : List (List ℕ)) (v : Bool) (n : ℕ) (value : A) → (b == 10) ≡ v → lines_of bs ≡ lines → ended n (lines_of (b ∷ bs)) (tail_of (b ∷ bs)) value ≡ misfit n End
unfolding lines_of tail_of
more_behind b bs lines true n value t e = rw t refl
more_behind b bs [] false n value t e = rw (t, e) refl
more_behind b bs (line ∷ lines) false n value t e = rw (t, e) refl

pub not_ended : {A : Type 0} (bs all : List ℕ) (n : ℕ) (value : A) → 0 < length bs → tail_of bs ≡ tail_of all → ended n (lines_of bs) (tail_of all) value ≡ misfit n End
not_ended [] all n value some e = absurd (omega (arith, some))
not_ended (b ∷ bs) all n value some e = ap (λ tail. ended n (lines_of (b ∷ bs)) tail value) (sym e) ∙ more_behind b bs (lines_of bs) (b == 10) n value refl refl

pub ended_here : {A : Type 0} (bs all : List ℕ) (n : ℕ) (value : A) → bs ≡ [] → tail_of bs ≡ tail_of all → ended n (lines_of bs) (tail_of all) value ≡ Ok value
unfolding lines_of tail_of
ended_here bs all n value none e = ap (λ tail. ended n (lines_of bs) tail value) (sym e) ∙ rw none refl
