-- The moves that a word names, while they are found.
use Rattle.std.proofs.Common.{◌≡◌, ℕ, ◌<◌, ◌==◌, Bool, true, false, ◌↔◌, IsTrue, List, [], ◌∷◌, Some, None, refl, sym, ◌∙◌, ap}
use Rattle.std.specs.List.{Contains, filter, flat_map}
use Rattle.std.proofs.lemmas.Bool.{and_from, and_left, and_right, both_ways, false_from_ne_true}
use Rattle.std.proofs.lemmas.List.Elements.{filter-append}
use Rattle.cha_board.specs.declared.men.Kind.TheVariants.{Queen, Rook, Bishop, Knight}
use Rattle.cha_board.specs.Squares.{rank_of, last_rank}
use Rattle.cha_board.specs.Board.{Board}
use Rattle.cha_moves.specs.Step.{Move}
use Rattle.cha_moves.specs.Moves.{is_legal_in, moves_between, moves_from, legal}
use Rattle.cha_moves.proofs.Listed.{is_listed, listed}
use Rattle.cha_san.specs.declared.forms.Form.{Form}
use Rattle.cha_san.specs.declared.found.Found.{Found}
use Rattle.cha_san.specs.Fitting.{fits}
use Rattle.cha_san.specs.Seen.{with_one, seen}
use Rattle.cha_san.specs.Sources.{names, target_of}
use Rattle.cha_san.proofs.Sifting.{seen-append}
use Rattle.cha_san.proofs.Sourced.{from_one, no_promotion}

-- a move that is named
pub with_named : (q : Board) (form : Form) (found now : Found) (m : Move) → fits q form m ≡ true → Contains (legal q) m → now ≡ with_one found m → now ≡ seen found (filter (names q form) (m ∷ []))
with_named q form found now m fit may is =
    let named : names q form m ≡ true = and_from (fits q form m) (is_legal_in q m) fit (is_listed q m may).legal in
    is ∙ rw named refl

-- a move that does not fit, and one that is not legal
pub no_fit : (q : Board) (form : Form) (m : Move) → fits q form m ≡ false → names q form m ≡ false
no_fit q form m off = and_left (fits q form m) (is_legal_in q m) off

pub not_legal : (q : Board) (form : Form) (m : Move) (b : Bool) → m.from < 64 → m.to < 64 → (IsTrue b ↔ Contains (legal q) m) → b ≡ false → names q form m ≡ false
not_legal q form m b from to told off =
    and_right (fits q form m) (is_legal_in q m) (false_from_ne_true (is_legal_in q m) (λ h. both_ways b off (told.1 (listed q m from to h))))

-- a move that is not named
pub without_named : (q : Board) (form : Form) (found : Found) (m : Move) → names q form m ≡ false → found ≡ seen found (filter (names q form) (m ∷ []))
without_named q form found m off = rw off refl

-- a move in front of others
pub seen_first : (p : Move → Bool) (found : Found) (m : Move) (ms : List Move) → seen (seen found (filter p (m ∷ []))) (filter p ms) ≡ seen found (filter p (m ∷ ms))
seen_first p found m ms = sym (seen-append found (filter p (m ∷ [])) (filter p ms)) ∙ ap (seen found) (sym (filter-append p (m ∷ []) ms))

-- the moves between two squares, where no pawn is promoted
pub seen_plain : (q : Board) (form : Form) (found now : Found) (s t : ℕ) → (rank_of t == last_rank q.side) ≡ false → now ≡ seen found (filter (names q form) (record { from = s; to = t; promotion = None } ∷ []))
    → now ≡ seen found (filter (names q form) (moves_between s t))
seen_plain q form found now s t other is =
    is
    ∙ rw (no_promotion q form s t Queen other, no_promotion q form s t Rook other, no_promotion q form s t Bishop other, no_promotion q form s t Knight other) refl

-- the moves between two squares, one after the other
pub seen_all : (q : Board) (form : Form) (found a b c d e : Found) (s t : ℕ)
    → a ≡ seen found (filter (names q form) (record { from = s; to = t; promotion = None } ∷ []))
    → b ≡ seen a (filter (names q form) (record { from = s; to = t; promotion = Some Queen } ∷ []))
    → c ≡ seen b (filter (names q form) (record { from = s; to = t; promotion = Some Rook } ∷ []))
    → d ≡ seen c (filter (names q form) (record { from = s; to = t; promotion = Some Bishop } ∷ []))
    → e ≡ seen d (filter (names q form) (record { from = s; to = t; promotion = Some Knight } ∷ []))
    → e ≡ seen found (filter (names q form) (moves_between s t))
seen_all q form found a b c d e s t first second third fourth fifth =
    let p = names q form in
    let plain : Move = record { from = s; to = t; promotion = None } in
    let queen : Move = record { from = s; to = t; promotion = Some Queen } in
    let rook : Move = record { from = s; to = t; promotion = Some Rook } in
    let bishop : Move = record { from = s; to = t; promotion = Some Bishop } in
    let knight : Move = record { from = s; to = t; promotion = Some Knight } in
    fifth
    ∙ ap (λ x. seen x (filter p (knight ∷ []))) fourth ∙ seen_first p c bishop (knight ∷ [])
    ∙ ap (λ x. seen x (filter p (bishop ∷ knight ∷ []))) third ∙ seen_first p b rook (bishop ∷ knight ∷ [])
    ∙ ap (λ x. seen x (filter p (rook ∷ bishop ∷ knight ∷ []))) second ∙ seen_first p a queen (rook ∷ bishop ∷ knight ∷ [])
    ∙ ap (λ x. seen x (filter p (queen ∷ rook ∷ bishop ∷ knight ∷ []))) first ∙ seen_first p found plain (queen ∷ rook ∷ bishop ∷ knight ∷ [])

-- what is found once the moves from the next square were looked at
pub seen_next : (q : Board) (form : Form) (found now all : Found) (left rest : List ℕ) (s t : ℕ) → seen found (filter (names q form) (flat_map moves_from left)) ≡ all → left ≡ s ∷ rest
    → t ≡ target_of q form → t < 64 → now ≡ seen found (filter (names q form) (moves_between s t)) → seen now (filter (names q form) (flat_map moves_from rest)) ≡ all
seen_next q form found now all left rest s t before next target small is =
    let p = names q form in
    let here : filter p (moves_from s) ≡ filter p (moves_between s t) = from_one q form s (rw (← target) small) ∙ ap (λ x. filter p (moves_between s x)) (sym target) in
    ap (λ x. seen x (filter p (flat_map moves_from rest))) (is ∙ ap (seen found) (sym here))
    ∙ sym (seen-append found (filter p (moves_from s)) (filter p (flat_map moves_from rest)))
    ∙ ap (seen found) (sym (filter-append p (moves_from s) (flat_map moves_from rest)))
    ∙ ap (λ xs. seen found (filter p (flat_map moves_from xs))) (sym next)
    ∙ before
