-- Lines, written one after the other.
use Rattle.std.proofs.Common.{◌≡◌, ℕ, ◌+◌, ◌<◌, List, [], ◌∷◌, ◌++◌, map, length, take, get_or, refl, sym, ap, ◌∙◌, arith, append_assoc, append-nil, inl, inr, subst}
use Rattle.std.specs.List.{flat_map}
use Rattle.std.proofs.lemmas.Bool.{cases_lt}
use Rattle.std.proofs.lemmas.List.{take_more, map-append, get_or_read}
use Rattle.std.proofs.lemmas.List.Concat.{flat_map-append}
use Rattle.cha_board.specs.declared.men.Color.{Color}
use Rattle.mob_sets.specs.Rows.{Row}
use Rattle.cha_cert.specs.declared.nodes.Node.{Node}
use Rattle.cert_text.specs.Spelled.{header_line, end_line, winner_line, count_line, row_line, node_lines, cert_lines, lines_text, cert_text}

pub lines_append : (a b : List (List ℕ)) → lines_text (a ++ b) ≡ lines_text a ++ lines_text b
unfolding lines_text
lines_append [] b = refl
lines_append (line ∷ lines) b =
    ap (λ rest. line ++ 10 ∷ rest) (lines_append lines b) ∙ sym (append_assoc line (10 ∷ lines_text lines) (lines_text b))

-- lines behind lines
pub lines_more : (old text new : List ℕ) (done more : List (List ℕ)) → text ≡ old ++ lines_text done → new ≡ text ++ lines_text more → new ≡ old ++ lines_text (done ++ more)
lines_more old text new done more e f =
    f ∙ ap (λ t. t ++ lines_text more) e ∙ append_assoc old (lines_text done) (lines_text more) ∙ ap (λ t. old ++ t) (sym (lines_append done more))

pub no_lines : (text : List ℕ) → text ≡ text ++ lines_text []
unfolding lines_text
no_lines text = sym (append-nil text)

one_line : (text line : List ℕ) → (text ++ line) ++ 10 ∷ [] ≡ text ++ lines_text (line ∷ [])
unfolding lines_text
one_line text line = append_assoc text line (10 ∷ [])

rows_next : (rows : List Row) (k : ℕ) (row : Row) → k < length rows → row ≡ get_or rows k row → map row_line (take k rows) ++ row_line row ∷ [] ≡ map row_line (take (k + 1) rows)
rows_next rows k row inside is =
    sym (map-append row_line (take k rows) (row ∷ [])) ∙ ap (λ r. map row_line (take k rows ++ r ∷ [])) is ∙ ap (map row_line) (sym (take_more rows k row inside))

-- one more row
pub row_more : (old text mid new : List ℕ) (rows : List Row) (k : ℕ) (row : Row) → k < length rows → row ≡ get_or rows k row
    → text ≡ old ++ lines_text (map row_line (take k rows)) → mid ≡ text ++ row_line row → new ≡ mid ++ 10 ∷ [] → new ≡ old ++ lines_text (map row_line (take (k + 1) rows))
row_more old text mid new rows k row inside is e f g =
    lines_more old text new (map row_line (take k rows)) (row_line row ∷ []) e (g ∙ ap (λ t. t ++ 10 ∷ []) f ∙ one_line text (row_line row))
    ∙ ap (λ lines. old ++ lines_text lines) (rows_next rows k row inside is)

-- what holds of each item so far holds of one more
pub kept_more : {X : Type 0} (P : X → Type 0) (xs : List X) (k : ℕ) (x : X) → k < length xs → x ≡ get_or xs k x → P x
    → ((j : ℕ) (d : X) → j < k → P (get_or xs j d)) → (j : ℕ) (d : X) → j < k + 1 → P (get_or xs j d)
kept_more P xs k x inside is here before j d less =
    elim (cases_lt j k) [
      | inl low ↦ before j d low
      | inr high ↦ (
          let same : k ≡ j = omega arith in
          subst (λ i. P (get_or xs i d)) same (subst P (get_or_read xs k x inside is d) here))
    ]

nodes_next : (nodes : List Node) (k : ℕ) (node : Node) → k < length nodes → node ≡ get_or nodes k node → flat_map node_lines (take k nodes) ++ node_lines node ≡ flat_map node_lines (take (k + 1) nodes)
nodes_next nodes k node inside is =
    ap (λ lines. flat_map node_lines (take k nodes) ++ lines) (sym (append-nil (node_lines node)))
    ∙ sym (flat_map-append node_lines (take k nodes) (node ∷ []))
    ∙ ap (λ n. flat_map node_lines (take k nodes ++ n ∷ [])) is ∙ ap (flat_map node_lines) (sym (take_more nodes k node inside))

-- one more node
pub node_more : (old text new : List ℕ) (nodes : List Node) (k : ℕ) (node : Node) → k < length nodes → node ≡ get_or nodes k node
    → text ≡ old ++ lines_text (flat_map node_lines (take k nodes)) → new ≡ text ++ lines_text (node_lines node) → new ≡ old ++ lines_text (flat_map node_lines (take (k + 1) nodes))
node_more old text new nodes k node inside is e f =
    lines_more old text new (flat_map node_lines (take k nodes)) (node_lines node) e f ∙ ap (λ lines. old ++ lines_text lines) (nodes_next nodes k node inside is)

-- the whole
pub whole_text : (winner : Color) (nodes : List Node) (head body text : List ℕ) → head ≡ [] ++ lines_text (header_line ∷ winner_line winner ∷ count_line (length nodes) ∷ [])
    → body ≡ head ++ lines_text (flat_map node_lines nodes) → text ≡ body ++ 101 ∷ 110 ∷ 100 ∷ 10 ∷ [] → text ≡ cert_text winner nodes
unfolding cert_lines lines_text
whole_text winner nodes head body text e f g =
    let first = header_line ∷ winner_line winner ∷ count_line (length nodes) ∷ [] in
    let middle = flat_map node_lines nodes in
    g ∙ ap (λ t. t ++ 101 ∷ 110 ∷ 100 ∷ 10 ∷ []) (f ∙ ap (λ t. t ++ lines_text middle) e)
    ∙ append_assoc (lines_text first) (lines_text middle) (101 ∷ 110 ∷ 100 ∷ 10 ∷ [])
    ∙ ap (λ t. lines_text first ++ t) (sym (lines_append middle (end_line ∷ [])))
    ∙ sym (lines_append first (middle ++ end_line ∷ []))
