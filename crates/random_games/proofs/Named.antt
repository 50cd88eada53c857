-- The word of a legal move names that move.
use Rattle.std.proofs.Common.{◌≡◌, ℕ, ◌<◌, ◌==◌, ◌⊎◌, inl, inr, Bool, true, false, ◌∷◌, ◌++◌, Option, Some, None, Ok, refl, sym, ap, subst, ◌∙◌}
use Rattle.std.specs.Prelude.{codes, if◌then◌else◌}
use Rattle.std.specs.List.{Contains}
use Rattle.cha_board.specs.declared.men.Kind.{Kind}
use Rattle.cha_board.specs.declared.men.Kind.TheVariants.{Pawn, Knight, Bishop, Rook, Queen, King}
use Rattle.cha_board.specs.declared.men.Man.{Man}
use Rattle.cha_board.specs.Squares.{file_of}
use Rattle.cha_board.specs.Board.{Board}
use Rattle.cha_board.specs.Letters.{kind_of}
use Rattle.cha_moves.specs.Step.{Move}
use Rattle.cha_moves.specs.Moves.{is_promotion, legal}
use Rattle.cha_moves.proofs.Made.{Mover}
use Rattle.cha_moves.proofs.Listed.{is_listed, mover_of}
use Rattle.cha_san.specs.declared.forms.Form.TheVariants.{Short, Long}
use Rattle.cha_san.specs.Fitting.{is_castling}
use Rattle.cha_san.specs.Forms.{is_sign, stem, is_short, is_long, unsigned_form, form_of}
use Rattle.cha_san.specs.Resolving.{resolved}
use Rattle.cha_san.proofs.Naming.{names, short_alone, long_alone, both_alone, promotion_of, IsOf}
use Rattle.random_games.specs.Words.{man_text, plain_text, move_word}
use Rattle.cha_san.specs.Writing.{kind_text, castling_text}
use Rattle.random_games.proofs.SpelledWords.{plain_is}
use Rattle.random_games.proofs.WordParts.{says_parts, way_of, pawn_says, man_says}

short_form : form_of (codes "O-O") ≡ Some Short
unfolding unsigned_form stem is_sign is_short
short_form = refl

long_form : form_of (codes "O-O-O") ≡ Some Long
unfolding unsigned_form stem is_sign is_short is_long
long_form = refl

castling_named : (q : Board) (m : Move) (six : Bool) → Contains (legal q) m → is_castling q m ≡ true → (file_of m.to == 6) ≡ six → resolved q (if six then codes "O-O" else codes "O-O-O") ≡ Ok m
castling_named q m true there h e = names q m (codes "O-O") Short short_form (short_alone q m there h e)
castling_named q m false there h e = names q m (codes "O-O-O") Long long_form (long_alone q m there h e)

-- what a man's word says
promotes_as_pawn : (p : Option Kind) → is_promotion p ≡ true → (p ≡ None) ⊎ ((p ≡ Some Queen) ⊎ ((p ≡ Some Rook) ⊎ ((p ≡ Some Bishop) ⊎ (p ≡ Some Knight))))
promotes_as_pawn None h = inl refl
promotes_as_pawn (Some Queen) h = inr (inl refl)
promotes_as_pawn (Some Rook) h = inr (inr (inl refl))
promotes_as_pawn (Some Bishop) h = inr (inr (inr (inl refl)))
promotes_as_pawn (Some Knight) h = inr (inr (inr (inr refl)))
promotes_as_pawn (Some Pawn) h = cc
promotes_as_pawn (Some King) h = cc

other_form : (k : Kind) (l s t : ℕ) (p : Option Kind) → kind_of l ≡ Some k → (l == 79) ≡ false → (l == 48) ≡ false → (k ≡ Pawn → ⊥) → s < 64 → t < 64 → IsOf k p → form_of (l ∷ way_of s t p) ≡ Some (says_parts k s t p)
other_form k l s t p named one nil other in_s in_t h = elim h [
  | inl x ↦ absurd (other x.0)
  | inr e ↦ (let P : Option Kind → Type 0 = λ o. form_of (l ∷ way_of s t o) ≡ Some (says_parts k s t o) in subst P (sym e) (man_says k l s t named one nil in_s in_t))
]

plain_form : (k : Kind) (s t : ℕ) (p : Option Kind) → s < 64 → t < 64 → IsOf k p → form_of (kind_text k ++ way_of s t p) ≡ Some (says_parts k s t p)
unfolding kind_of
plain_form Pawn s t p in_s in_t h = pawn_says s t p in_s in_t (elim h [ inl x ↦ promotes_as_pawn p x.1 | inr e ↦ inl e ])
plain_form Knight s t p in_s in_t h = other_form Knight 78 s t p refl refl refl (λ e. cc) in_s in_t h
plain_form Bishop s t p in_s in_t h = other_form Bishop 66 s t p refl refl refl (λ e. cc) in_s in_t h
plain_form Rook s t p in_s in_t h = other_form Rook 82 s t p refl refl refl (λ e. cc) in_s in_t h
plain_form Queen s t p in_s in_t h = other_form Queen 81 s t p refl refl refl (λ e. cc) in_s in_t h
plain_form King s t p in_s in_t h = other_form King 75 s t p refl refl refl (λ e. cc) in_s in_t h

plain_named : (q : Board) (m : Move) (man : Man) → Contains (legal q) m → Mover q m man → is_castling q m ≡ false → resolved q (kind_text man.kind ++ way_of m.from m.to m.promotion) ≡ Ok m
plain_named q m man there may h =
    let listed = is_listed q m there in
    names q m (kind_text man.kind ++ way_of m.from m.to m.promotion) (says_parts man.kind m.from m.to m.promotion) (plain_form man.kind m.from m.to m.promotion listed.from listed.to (promotion_of q m man may)) (both_alone q m man there may h)

by_castling : (q : Board) (m : Move) (castling : Bool) → Contains (legal q) m → is_castling q m ≡ castling → resolved q (if castling then castling_text m.to else plain_text q m) ≡ Ok m
unfolding castling_text
by_castling q m true there h = castling_named q m (file_of m.to == 6) there h refl
by_castling q m false there h =
    let may = mover_of q m there in
    let text : plain_text q m ≡ kind_text may.0.kind ++ way_of m.from m.to m.promotion = plain_is q m ∙ ap (λ o. man_text o ++ way_of m.from m.to m.promotion) may.1.found in
    ap (resolved q) text ∙ plain_named q m may.0 there may.1 h

pub word_names : (q : Board) (m : Move) → Contains (legal q) m → resolved q (move_word q m) ≡ Ok m
unfolding move_word
word_names q m there = by_castling q m (is_castling q m) there refl
