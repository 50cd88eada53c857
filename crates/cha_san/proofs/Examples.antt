-- Worked words, computed from the definitions.
use Rattle.std.proofs.Common.{◌≡◌, ℕ, List, Option, Some, None, refl}
use Rattle.std.specs.Prelude.{codes}
use Rattle.cha_board.specs.declared.men.Kind.TheVariants.{Pawn, Knight, Queen}
use Rattle.cha_san.specs.declared.forms.Form.{Form}
use Rattle.cha_san.specs.declared.forms.Form.TheVariants.{Long, Plain}
use Rattle.cha_san.specs.Backwards.{last, front, before, without}
use Rattle.cha_board.specs.Letters.{kind_of}
use Rattle.cha_san.specs.Forms.{promotion_named, file_named, rank_named, promotion_at, file_at, rank_at, unpromoted, square_at, kind_at, parts, is_sign, stem, is_short, is_long, unsigned_form, form_of}

said : List ℕ → Option Form
unfolding unsigned_form stem is_sign is_short is_long parts kind_at square_at unpromoted rank_at file_at promotion_at rank_named file_named promotion_named kind_of without before front last
said word = form_of word

-- A pawn's move: the target alone (PGN standard, 8.2.3.2).
pawn_move : said (codes "e4") ≡ Some (Plain (record { kind = Pawn; file = None; rank = None; to = 28; promotion = None }))
unfolding said
pawn_move = refl

-- The file and the rank that a man leaves (PGN standard, 8.2.3.4), a capture, and signs.
queen_of_three : said (codes "Qh4xe1+!") ≡ Some (Plain (record { kind = Queen; file = Some 7; rank = Some 3; to = 4; promotion = None }))
unfolding said
queen_of_three = refl

-- A promotion with a capture (PGN standard, 8.2.3.3).
promotion_to_knight : said (codes "bxc8=N#") ≡ Some (Plain (record { kind = Pawn; file = Some 1; rank = None; to = 58; promotion = Some Knight }))
unfolding said
promotion_to_knight = refl

-- Castling on the queen's side (PGN standard, 8.2.3.3), with signs.
long_castling : said (codes "O-O-O!?") ≡ Some Long
unfolding said
long_castling = refl

-- A letter in lower case names no man.
small_letter : said (codes "nf3") ≡ None
unfolding said
small_letter = refl

-- Nothing may be left over.
left_over : said (codes "e2-e4") ≡ None
unfolding said
left_over = refl

-- Signs alone are no move.
signs_alone : said (codes "+#") ≡ None
unfolding said
signs_alone = refl
