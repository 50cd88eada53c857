-- The kept bytes of a word.
use Rattle.std.proofs.Common.{◌≡◌, ℕ, ◌≤◌, min, List, ◌∷◌, Option, length, take, refl, ap, ◌∙◌, arith}
use Rattle.std.specs.List.{prefix_len}
use Rattle.std.proofs.lemmas.List.{take_min, length-take}
use Rattle.pgn_lex.specs.declared.classes.PgnClass.TheVariants.{WordByte}
use Rattle.pgn_lex.specs.Classes.{in_pgn_class}
use Rattle.pgn_lex.specs.declared.kinds.Token.{Token}
use Rattle.pgn_lex.specs.declared.pieces.Piece.{Piece}
use Rattle.pgn_lex.specs.Pieces.{word_token, word_piece}

kept_word : (n k : ℕ) (bs run kept : List ℕ) → n ≤ length bs → run ≡ take n bs → k ≡ min n 254 → kept ≡ take k run → kept ≡ take 254 (take n bs)
kept_word n k bs run kept small e f g =
    let size : length run ≡ n = omega (arith, ap length e, length-take n bs) in
    let k' : k ≡ min 254 (length run) = omega arith in
    g ∙ ap (λ x. take x run) k' ∙ take_min 254 run ∙ ap (take 254) e

pub word_is : (b n k : ℕ) (bs run kept text : List ℕ) (token : Option Token) → n ≡ prefix_len (in_pgn_class WordByte) bs → n ≤ length bs → run ≡ take n bs → k ≡ min n 254 → kept ≡ take k run
    → text ≡ b ∷ kept → token ≡ word_token text → ◌≡◌ {A = Piece} (record { more = n; token = token }) (word_piece b bs)
unfolding word_piece
word_is b n k bs run kept text token e small f g h t u =
    let v : text ≡ b ∷ take 254 (take n bs) = t ∙ ap (λ x. b ∷ x) (kept_word n k bs run kept small f g h) in
    rw (u, v, e) refl
