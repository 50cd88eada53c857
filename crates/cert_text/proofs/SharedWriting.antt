-- Lines of shared certificates, written one after the other.
use Rattle.std.proofs.Common.{◌≡◌, ℕ, ◌+◌, ◌<◌, List, [], ◌∷◌, ◌++◌, length, take, get_or, sym, ap, ◌∙◌, append_assoc, append-nil}
use Rattle.std.specs.List.{flat_map}
use Rattle.std.proofs.lemmas.List.{take_more}
use Rattle.std.proofs.lemmas.List.Concat.{flat_map-append}
use Rattle.cha_board.specs.declared.men.Color.{Color}
use Rattle.cha_cert.specs.Shared.{Shared}
use Rattle.cert_text.specs.Spelled.{winner_line, count_line, end_line, lines_text}
use Rattle.cert_text.specs.SharedSpelled.{sets_line, set_lines, shared_node_lines, shared_header_line, shared_lines, shared_text}
use Rattle.cert_text.proofs.Writing.{lines_more}

items_next : {X : Type 0} (lines : X → List (List ℕ)) (xs : List X) (k : ℕ) (x : X) → k < length xs → x ≡ get_or xs k x → flat_map lines (take k xs) ++ lines x ≡ flat_map lines (take (k + 1) xs)
items_next lines xs k x inside is =
    ap (λ more. flat_map lines (take k xs) ++ more) (sym (append-nil (lines x)))
    ∙ sym (flat_map-append lines (take k xs) (x ∷ []))
    ∙ ap (λ n. flat_map lines (take k xs ++ n ∷ [])) is ∙ ap (flat_map lines) (sym (take_more xs k x inside))

-- one more item
pub item_more : {X : Type 0} (lines : X → List (List ℕ)) (old text new : List ℕ) (xs : List X) (k : ℕ) (x : X) → k < length xs → x ≡ get_or xs k x
    → text ≡ old ++ lines_text (flat_map lines (take k xs)) → new ≡ text ++ lines_text (lines x) → new ≡ old ++ lines_text (flat_map lines (take (k + 1) xs))
item_more lines old text new xs k x inside is e f =
    lines_more old text new (flat_map lines (take k xs)) (lines x) e f ∙ ap (λ all. old ++ lines_text all) (items_next lines xs k x inside is)

-- the whole
pub whole_shared_text : (winner : Color) (c : Shared) (head sets count body text : List ℕ)
    → head ≡ [] ++ lines_text (shared_header_line ∷ winner_line winner ∷ sets_line (length c.sets) ∷ [])
    → sets ≡ head ++ lines_text (flat_map set_lines c.sets)
    → count ≡ sets ++ lines_text (count_line (length c.nodes) ∷ [])
    → body ≡ count ++ lines_text (flat_map shared_node_lines c.nodes)
    → text ≡ body ++ 101 ∷ 110 ∷ 100 ∷ 10 ∷ [] → text ≡ shared_text winner c
unfolding shared_lines lines_text
whole_shared_text winner c head sets count body text e f g h i =
    let first = shared_header_line ∷ winner_line winner ∷ sets_line (length c.sets) ∷ [] in
    let second = flat_map set_lines c.sets in
    let third = count_line (length c.nodes) ∷ [] in
    let fourth = flat_map shared_node_lines c.nodes in
    lines_more [] body text (((first ++ second) ++ third) ++ fourth) (end_line ∷ [])
    (lines_more [] count body ((first ++ second) ++ third) fourth (lines_more [] sets count (first ++ second) third (lines_more [] head sets first second e f) g) h) i
    ∙ ap lines_text (append_assoc ((first ++ second) ++ third) fourth (end_line ∷ []) ∙ ap (λ xs. xs ++ (fourth ++ end_line ∷ [])) (append_assoc first second third))
