-- What is written is read again: the fields and the whole.
use Rattle.std.proofs.Common.{◌≡◌, ℕ, zero, suc, ◌+◌, ◌/◌, ◌%◌, ◌<◌, ◌≤◌, ◌==◌, Bool, true, false, not, ◌&&◌, ◌||◌, if◌then◌else◌, nat_lt, List, [], ◌∷◌, ◌++◌, Option, Some, None, Ok, length, drop, refl, sym, ap, ◌∙◌, arith, append_assoc, append-nil, length-append, take_at, drop_at}
use Rattle.std.specs.List.{prefix_len, list_all}
use Rattle.std.proofs.lemmas.Bool.{and_parts, and_from, not-true}
use Rattle.std.proofs.lemmas.Bool.Decides.{nat_tests}
use Rattle.std.proofs.lemmas.List.Folds.{list_all-append}
use Rattle.cha_list.specs.declared.classes.Class.TheVariants.{Blank, NotBlank}
use Rattle.cha_list.specs.Bytes.{in_class}
use Rattle.cha_board.specs.declared.men.Color.{Color}
use Rattle.cha_board.specs.declared.men.Color.TheVariants.{White, Black}
use Rattle.cha_board.specs.declared.men.Man.{Man}
use Rattle.cha_board.specs.declared.position.Rights.{Rights}
use Rattle.cha_board.specs.declared.castling.Wing.{Wing}
use Rattle.cha_board.specs.Board.{Board, IsValid, has_one_king, has_pawn_at_end, in_check, has_right, rights_where, are_at_home, right_fits, target_is_good}
use Rattle.cha_board.specs.Men.{other_color}
use Rattle.cha_board.specs.Build.{build_fault, built, kept_rights, kept_target}
use Rattle.cha_board.specs.Letters.{square_text}
use Rattle.cha_board.proofs.Keeping.{small_target}
use Rattle.cha_fen.specs.Fields.{fields_after, fields}
use Rattle.cha_fen.specs.Fen.{parts_of, are_clocks, fen}
use Rattle.cha_fen.specs.Written.{row_text_after, rank_men, ranks_text, side_text, rights_text, target_text, fen_text}
use Rattle.cha_fen.proofs.Splitting.{first_field}
use Rattle.cha_fen.proofs.RoundTrip.{above, row_above, men_read, side_read, rights_read, target_read}

-- a byte above the blank is visible
seen : ℕ → Bool
seen b = nat_lt 32 b

seen_visible : (b : ℕ) → nat_lt 32 b ≡ true → in_class NotBlank b ≡ true
unfolding in_class
seen_visible b h = let e : (b == 32) ≡ false = grind (arith, nat_tests) in let f : (b == 9) ≡ false = grind (arith, nat_tests) in rw (e, f) refl

seen_no_blank : (b : ℕ) → nat_lt 32 b ≡ true → in_class Blank b ≡ false
unfolding in_class
seen_no_blank b h = let e : (b == 32) ≡ false = grind (arith, nat_tests) in let f : (b == 9) ≡ false = grind (arith, nat_tests) in rw (e, f) refl

prefix_seen : (w q : List ℕ) → list_all seen w ≡ true → prefix_len (in_class NotBlank) q ≡ 0 → prefix_len (in_class NotBlank) (w ++ q) ≡ length w
unfolding seen
prefix_seen [] q h e = e
prefix_seen (b ∷ bs) q h e =
    let both = and_parts (nat_lt 32 b) (list_all seen bs) h in
    rw (seen_visible b both.0, prefix_seen bs q both.1 e) (omega arith)

no_blank : (w q : List ℕ) → 0 < length w → list_all seen w ≡ true → 0 ≡ prefix_len (in_class Blank) (w ++ q)
unfolding seen
no_blank [] q some h = absurd (omega arith)
no_blank (b ∷ bs) q some h = rw (seen_no_blank b (and_parts (nat_lt 32 b) (list_all seen bs) h).0) refl

field_then : (w q : List ℕ) → 0 < length w → list_all seen w ≡ true → prefix_len (in_class NotBlank) q ≡ 0 → fields (w ++ q) ≡ w ∷ fields q
field_then w q some h e =
    first_field (w ++ q) (w ++ q) 0 (length w) (no_blank w q some h) refl (sym (prefix_seen w q h e)) (omega (arith, length-append w q))
    ∙ ap (λ x. x ∷ fields (drop (length w) (w ++ q))) (take_at w q (length w) refl) ∙ ap (λ x. w ∷ fields x) (drop_at w q (length w) refl)

fields_more : (w rest : List ℕ) → 0 < length w → list_all seen w ≡ true → fields (w ++ 32 ∷ rest) ≡ w ∷ fields rest
unfolding fields_after in_class
fields_more w rest some h = field_then w (32 ∷ rest) some h refl

fields_last : (w : List ℕ) → 0 < length w → list_all seen w ≡ true → fields w ≡ w ∷ []
unfolding fields_after
fields_last w some h = ap fields (sym (append-nil w)) ∙ field_then w [] some h refl

-- the four fields are seen, and not empty
seen_above : (b : ℕ) → nat_lt 47 b ≡ true → nat_lt 32 b ≡ true
seen_above b h = grind (arith, nat_tests)

far : (b : ℕ) → 33 ≤ b → nat_lt 32 b ≡ true
far b h = grind (arith, nat_tests)

lift : (w : List ℕ) → list_all above w ≡ true → list_all seen w ≡ true
unfolding above seen
lift [] h = refl
lift (b ∷ bs) h =
    let both = and_parts (nat_lt 47 b) (list_all above bs) h in
    and_from (nat_lt 32 b) (list_all seen bs) (seen_above b both.0) (lift bs both.1)

ranks_seen : (n : ℕ) (men : List (Option Man)) → list_all seen (ranks_text n men) ≡ true
unfolding ranks_text seen
ranks_seen zero men = refl
ranks_seen (suc zero) men =
    let row = row_text_after 0 (rank_men men 0) in
    list_all-append seen row [] ∙ and_from (list_all seen row) true (lift row (row_above 0 (rank_men men 0))) refl
ranks_seen (suc (suc n)) men =
    let row = row_text_after 0 (rank_men men (suc n)) in
    list_all-append seen row (47 ∷ ranks_text (suc n) men) ∙ and_from (list_all seen row) _ (lift row (row_above 0 (rank_men men (suc n)))) (ranks_seen (suc n) men)

ranks_some : (men : List (Option Man)) → 0 < length (ranks_text 8 men)
unfolding ranks_text
ranks_some men = omega (arith, length-append (row_text_after 0 (rank_men men 7)) (47 ∷ ranks_text 7 men))

side_seen : (c : Color) → list_all seen (side_text c) ≡ true
unfolding seen
side_seen White = refl
side_seen Black = refl

side_some : (c : Color) → 0 < length (side_text c)
side_some White = omega arith
side_some Black = omega arith

rights_seen_at : (a b c d : Bool) → list_all seen (rights_text (record { white_king = a; white_queen = b; black_king = c; black_queen = d })) ≡ true
unfolding rights_text seen
rights_seen_at true true true true = refl
rights_seen_at true true true false = refl
rights_seen_at true true false true = refl
rights_seen_at true true false false = refl
rights_seen_at true false true true = refl
rights_seen_at true false true false = refl
rights_seen_at true false false true = refl
rights_seen_at true false false false = refl
rights_seen_at false true true true = refl
rights_seen_at false true true false = refl
rights_seen_at false true false true = refl
rights_seen_at false true false false = refl
rights_seen_at false false true true = refl
rights_seen_at false false true false = refl
rights_seen_at false false false true = refl
rights_seen_at false false false false = refl

rights_some_at : (a b c d : Bool) → 0 < length (rights_text (record { white_king = a; white_queen = b; black_king = c; black_queen = d }))
unfolding rights_text
rights_some_at true true true true = omega arith
rights_some_at true true true false = omega arith
rights_some_at true true false true = omega arith
rights_some_at true true false false = omega arith
rights_some_at true false true true = omega arith
rights_some_at true false true false = omega arith
rights_some_at true false false true = omega arith
rights_some_at true false false false = omega arith
rights_some_at false true true true = omega arith
rights_some_at false true true false = omega arith
rights_some_at false true false true = omega arith
rights_some_at false true false false = omega arith
rights_some_at false false true true = omega arith
rights_some_at false false true false = omega arith
rights_some_at false false false true = omega arith
rights_some_at false false false false = omega arith

target_seen : (t : Option ℕ) → list_all seen (target_text t) ≡ true
unfolding target_text square_text seen
target_seen None = refl
target_seen (Some s) = and_from (nat_lt 32 (s % 8 + 97)) (nat_lt 32 (s / 8 + 49) && true) (far (s % 8 + 97) (omega arith)) (and_from (nat_lt 32 (s / 8 + 49)) true (far (s / 8 + 49) (omega arith)) refl)

target_some : (t : Option ℕ) → 0 < length (target_text t)
unfolding target_text square_text
target_some None = omega arith
target_some (Some s) = omega arith

written_fields : (q : Board) → fields (fen_text q) ≡ ranks_text 8 q.men ∷ side_text q.side ∷ rights_text q.rights ∷ target_text q.target ∷ []
unfolding fen_text
written_fields q =
    let a = ranks_text 8 q.men in
    let b = side_text q.side in
    let r = rights_text q.rights in
    let t = target_text q.target in
    let grouped : ((a ++ (32 ∷ b)) ++ (32 ∷ r)) ++ (32 ∷ t) ≡ a ++ (32 ∷ (b ++ (32 ∷ (r ++ (32 ∷ t))))) =
    append_assoc (a ++ (32 ∷ b)) (32 ∷ r) (32 ∷ t) ∙ append_assoc a (32 ∷ b) (32 ∷ (r ++ (32 ∷ t))) in
    ap fields grouped
    ∙ fields_more a (b ++ (32 ∷ (r ++ (32 ∷ t)))) (ranks_some q.men) (ranks_seen 8 q.men)
    ∙ ap (λ x. a ∷ x) (fields_more b (r ++ (32 ∷ t)) (side_some q.side) (side_seen q.side))
    ∙ ap (λ x. a ∷ b ∷ x) (fields_more r t (rights_some_at q.rights.white_king q.rights.white_queen q.rights.black_king q.rights.black_queen) (rights_seen_at q.rights.white_king q.rights.white_queen q.rights.black_king q.rights.black_queen))
    ∙ ap (λ x. a ∷ b ∷ r ∷ x) (fields_last t (target_some q.target) (target_seen q.target))

-- a valid position has no fault and is built from its own parts
none_of : {X : Type 0} (w b p k : Bool) (e f g : X) → w ≡ true → b ≡ true → p ≡ false → k ≡ false
    → (if not (w && b) then Some e else (if p then Some f else (if k then Some g else None))) ≡ None
none_of w b p k e f g h i j l = rw (h, i, j, l) refl

no_fault : (q : Board) → IsValid q → build_fault q.men q.side ≡ None
unfolding build_fault
no_fault q v =
    none_of (has_one_king q.men White) (has_one_king q.men Black) (has_pawn_at_end q.men) (in_check q.men (other_color q.side)) _ _ _ (v.kings White) (v.kings Black) (not-true _ v.pawns) (not-true _ v.opponent)

kept : (x h : Bool) → (not x || h) ≡ true → (x && h) ≡ x
kept true true e = refl
kept true false e = cc
kept false h e = refl

rights_again : (men : List (Option Man)) (r : Rights) → ((c : Color) (w : Wing) → right_fits men r c w ≡ true) → kept_rights men r ≡ r
unfolding right_fits kept_rights
rights_again men r fit = λ i. rights_where (λ c w. kept (has_right r c w) (are_at_home men c w) (fit c w) i)

target_again : (men : List (Option Man)) (c : Color) (t : Option ℕ) → target_is_good men c t ≡ true → kept_target men c t ≡ t
unfolding kept_target
target_again men c None h = refl
target_again men c (Some s) h = rw h refl

pub built_again : (q : Board) → IsValid q → built q.men q.side q.rights q.target ≡ q
unfolding built
built_again q v =
    let rights = rights_again q.men q.rights v.rights in
    let target = target_again q.men q.side q.target v.target in
    λ i. record { men = q.men; side = q.side; rights = rights i; target = target i }

pub written_is_read : (q : Board) → IsValid q → fen (fen_text q) ≡ Ok q
unfolding fen parts_of are_clocks
written_is_read q v =
    rw (written_fields q, men_read q.men v.size, side_read q.side, rights_read q.rights, target_read q.target (λ s e. small_target q s v e), no_fault q v) (ap Ok (built_again q v))

-- the same of a text that was written
pub read_again : (text : List ℕ) (q : Board) → text ≡ fen_text q → IsValid q → fen text ≡ Ok q
read_again text q e v = ap fen e ∙ written_is_read q v
