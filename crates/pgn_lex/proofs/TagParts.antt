-- A tag, from its parts.
use Rattle.std.proofs.Common.{◌≡◌, ℕ, ◌-◌, List, Some, false, nat_lt, min, length, take, drop, Bool, sym, refl, ap, ◌∙◌, arith}
use Rattle.std.proofs.lemmas.List.{take_min}
use Rattle.pgn_lex.specs.declared.kinds.Token.TheVariants.{Tag}
use Rattle.pgn_lex.specs.declared.pieces.Piece.{Piece}
use Rattle.pgn_lex.specs.Values.{Keeps}
use Rattle.pgn_lex.specs.Pieces.{spoken_piece}
use Rattle.pgn_lex.specs.Tags.{past_blanks, past_byte, name_at, value_after, tag_at, tag_piece}

pub tag_is : (bs name after opened front closed end : List ℕ) → name_at (past_blanks bs) ≡ Some (record { text = name; rest = after }) → past_byte 34 (past_blanks after) ≡ Some opened
    → value_after false opened ≡ Some (record { text = front; rest = closed }) → past_byte 93 (past_blanks closed) ≡ Some end
    → tag_piece bs ≡ spoken_piece (Tag (take 255 name) (take 4096 front) (nat_lt 4096 (length front))) (length bs - length end)
unfolding tag_piece tag_at
tag_is bs name after opened front closed end e f g h = rw (e, f, g, h) refl

pub kept_name : (name kept : List ℕ) (k : ℕ) → k ≡ min (length name) 255 → kept ≡ take k name → kept ≡ take 255 name
kept_name name kept k e f =
    let k' : k ≡ min 255 (length name) = omega arith in
    f ∙ ap (λ x. take x name) k' ∙ take_min 255 name

-- as the code finds it
pub tag_from : (bs here name after here' opened front closed here'' end kept said text : List ℕ) (k size : ℕ) (cut : Bool) (p : Piece)
    → here ≡ past_blanks bs → name_at here ≡ Some (record { text = name; rest = after }) → here' ≡ past_blanks after → past_byte 34 here' ≡ Some opened
    → value_after false opened ≡ Some (record { text = front; rest = drop size opened }) → closed ≡ drop size opened → here'' ≡ past_blanks closed → past_byte 93 here'' ≡ Some end
    → k ≡ min (length name) 255 → kept ≡ take k name → said ≡ kept → Keeps text cut front
    → p ≡ spoken_piece (Tag said text cut) (length bs - length end) → p ≡ tag_piece bs
tag_from bs here name after here' opened front closed here'' end kept said text k size cut p b1 e b2 f g d b3 h m n s kept_is p_is =
    let g' : value_after false opened ≡ Some (record { text = front; rest = closed }) = g ∙ ap (λ x. Some (record { text = front; rest = x })) (sym d) in
    let whole = tag_is bs name after opened front closed end (ap name_at (sym b1) ∙ e) (ap (past_byte 34) (sym b2) ∙ f) g' (ap (past_byte 93) (sym b3) ∙ h) in
    p_is ∙ ap (λ x. spoken_piece (Tag x text cut) (length bs - length end)) (s ∙ kept_name name kept k m n)
    ∙ ap (λ x. spoken_piece (Tag (take 255 name) x cut) (length bs - length end)) kept_is.first_bytes
    ∙ ap (λ x. spoken_piece (Tag (take 255 name) (take 4096 front) x) (length bs - length end)) kept_is.has_more ∙ sym whole
