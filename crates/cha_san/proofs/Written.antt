-- The word that is written of a legal move names it.
use Rattle.std.proofs.Common.{◌≡◌, ℕ, ◌<◌, ◌==◌, ◌&&◌, ◌⊎◌, inl, inr, Bool, true, false, not, List, [], ◌∷◌, ◌++◌, length, Option, Some, None, Result, Ok, is_ok, codes, refl, sym, ap, ◌∙◌, arith, if◌then◌else◌}
use Rattle.std.specs.List.{filter, Contains}
use Rattle.std.proofs.lemmas.Bool.{and_parts, ne_eqb}
use Rattle.cha_board.specs.declared.men.Kind.{Kind}
use Rattle.cha_board.specs.declared.men.Kind.TheVariants.{Pawn}
use Rattle.cha_board.specs.declared.men.Man.{Man}
use Rattle.cha_board.specs.Men.{same_kind}
use Rattle.cha_board.specs.Squares.{file_of, rank_of}
use Rattle.cha_board.specs.Board.{Board, man_at, in_check}
use Rattle.cha_moves.specs.Step.{Move}
use Rattle.cha_moves.specs.Moves.{after, all_moves, legal, is_promotion}
use Rattle.cha_moves.specs.MateLines.{is_mated}
use Rattle.cha_moves.proofs.Made.{Mover}
use Rattle.cha_moves.proofs.Listed.{is_listed, mover_of}
use Rattle.cha_san.specs.declared.forms.Form.{Form}
use Rattle.cha_san.specs.declared.forms.Form.TheVariants.{Short, Long, Plain}
use Rattle.cha_san.specs.declared.forms.Parts.{Parts}
use Rattle.cha_san.specs.Fitting.{is_castling, fits}
use Rattle.cha_san.specs.Forms.{unsigned_form}
use Rattle.cha_san.specs.Resolving.{only, resolved}
use Rattle.cha_san.specs.Seen.{seen, answered}
use Rattle.cha_san.specs.Sources.{names as named}
use Rattle.cha_san.specs.declared.faults.SanFault.{SanFault}
use Rattle.cha_san.specs.declared.found.Found.{Found}
use Rattle.cha_san.specs.declared.found.Found.TheVariants.{Nothing}
use Rattle.cha_san.proofs.Sifting.{answered_only}
use Rattle.cha_san.proofs.Sourced.{named_are}
use Rattle.cha_san.specs.Writing.{castling_text, takes_man, parts_of, named_if, is_alone, marked, parts_text, man_word, sign_text, san_text}
use Rattle.cha_san.proofs.Naming.{names, fits_own, counted_alone, both_alone, short_alone, long_alone, promotion_of}
use Rattle.cha_san.proofs.Spelling.{signs, EndsPlain, signed, short_said, long_said, short_ends, long_ends, parts_said, parts_end, IsBelow}

-- a word that says a form which a move alone fits names the move, with any sign behind it
said_names : (q : Board) (m : Move) (word : List ℕ) (form : Form) (mate check : Bool) → EndsPlain word → unsigned_form word ≡ Some form → filter (fits q form) (legal q) ≡ m ∷ [] → resolved q (word ++ signs mate check) ≡ Ok m
said_names q m word form mate check plain said one = names q m (word ++ signs mate check) form (signed word form mate check plain said) one

castling_names : (q : Board) (m : Move) (six mate check : Bool) → Contains (legal q) m → is_castling q m ≡ true → (file_of m.to == 6) ≡ six → resolved q ((if six then codes "O-O" else codes "O-O-O") ++ signs mate check) ≡ Ok m
castling_names q m true mate check there h e = said_names q m (codes "O-O") Short mate check short_ends short_said (short_alone q m there h e)
castling_names q m false mate check there h e = said_names q m (codes "O-O-O") Long mate check long_ends long_said (long_alone q m there h e)

-- a man's word
below_if : (b : Bool) (n : ℕ) → n < 8 → IsBelow (named_if b n)
below_if true n h = h
below_if false n h = tt

becomes : (k : Kind) (o : Option Kind) → ((k ≡ Pawn) × (is_promotion o ≡ true)) ⊎ (o ≡ None) → (is_promotion o ≡ true) ⊎ (o ≡ None)
becomes k o (inl x) = inl x.1
becomes k o (inr e) = inr e

module _ (q : Board) (m : Move) (man : Man) (there : Contains (legal q) m) (may : Mover q m man) (h : is_castling q m ≡ false) (takes mate check : Bool) where
  abbrev Names : Parts → Type 0
  Names p = resolved q (parts_text p takes ++ signs mate check) ≡ Ok m

  by_parts : (file rank : Bool) → filter (fits q (Plain (parts_of man.kind m file rank))) (legal q) ≡ m ∷ [] → Names (parts_of man.kind m file rank)
  by_parts file rank one =
      let p = parts_of man.kind m file rank in
      let inside = is_listed q m there in
      let from = inside.from in
      let small_file : file_of m.from < 8 = omega arith in
      let small_rank : rank_of m.from < 8 = omega (arith, from) in
      let said = parts_said p takes (below_if file (file_of m.from) small_file) (below_if rank (rank_of m.from) small_rank) inside.to (becomes man.kind m.promotion (promotion_of q m man may)) in
      said_names q m (parts_text p takes) (Plain p) mate check (parts_end p takes inside.to) said one

  alone : (file rank : Bool) → is_alone q (parts_of man.kind m file rank) ≡ true → Names (parts_of man.kind m file rank)
  alone file rank e = by_parts file rank (counted_alone q m (parts_of man.kind m file rank) there (fits_own q m man file rank may h) e)

  third : (b : Bool) → not (same_kind man.kind Pawn) && is_alone q (parts_of man.kind m false true) ≡ b → Names (if b then parts_of man.kind m false true else parts_of man.kind m true true)
  third true e = alone false true (and_parts (not (same_kind man.kind Pawn)) (is_alone q (parts_of man.kind m false true)) e).1
  third false e = by_parts true true (both_alone q m man there may h)

  second : (b c : Bool) → is_alone q (parts_of man.kind m true false) ≡ b → not (same_kind man.kind Pawn) && is_alone q (parts_of man.kind m false true) ≡ c
      → Names (if b then parts_of man.kind m true false else (if c then parts_of man.kind m false true else parts_of man.kind m true true))
  second true c e f = alone true false e
  second false c e f = third c f

  first : (a b c : Bool) → not (same_kind man.kind Pawn && takes_man q man.kind m) && is_alone q (parts_of man.kind m false false) ≡ a → is_alone q (parts_of man.kind m true false) ≡ b
      → not (same_kind man.kind Pawn) && is_alone q (parts_of man.kind m false true) ≡ c
      → Names (if a then parts_of man.kind m false false else (if b then parts_of man.kind m true false else (if c then parts_of man.kind m false true else parts_of man.kind m true true)))
  first true b c d e f = alone false false (and_parts (not (same_kind man.kind Pawn && takes_man q man.kind m)) (is_alone q (parts_of man.kind m false false)) d).1
  first false b c d e f = second b c e f

  marked_names : Names (marked q man.kind m)
  unfolding marked
  marked_names = first _ _ _ refl refl refl

by_castling : (q : Board) (m : Move) (castling mate check : Bool) → Contains (legal q) m → is_castling q m ≡ castling → resolved q ((if castling then castling_text m.to else man_word q m (man_at q.men m.from)) ++ signs mate check) ≡ Ok m
unfolding castling_text
by_castling q m true mate check there h = castling_names q m (file_of m.to == 6) mate check there h refl
by_castling q m false mate check there h =
    let may = mover_of q m there in
    ap (λ o. resolved q (man_word q m o ++ signs mate check)) may.1.found ∙ marked_names q m may.0 there may.1 h (takes_man q may.0.kind m) mate check

-- the law
pub san_names : (q : Board) (m : Move) → Contains (legal q) m → resolved q (san_text q m) ≡ Ok m
unfolding san_text sign_text
san_names q m there = by_castling q m (is_castling q m) (is_mated (after q m) (after q m).side) (in_check (after q m).men (after q m).side) there refl

-- one move alone was found
only_counts : (ms : List Move) → is_ok (only ms) ≡ (length ms == 1)
only_counts [] = refl
only_counts (m ∷ []) = refl
only_counts (m ∷ n ∷ rest) = let more : (length (m ∷ n ∷ rest) == 1) ≡ false = ne_eqb (length (m ∷ n ∷ rest)) 1 (λ e. omega (arith, e)) in sym more

pub found_alone : (q : Board) (p : Parts) (found : Found) (r : Result Move SanFault) → found ≡ seen Nothing (filter (named q (Plain p)) all_moves) → r ≡ answered found → is_ok r ≡ is_alone q p
unfolding is_alone
found_alone q p found r all chosen =
    ap is_ok (chosen ∙ ap answered all ∙ answered_only (filter (named q (Plain p)) all_moves) ∙ ap only (named_are q (Plain p))) ∙ only_counts (filter (fits q (Plain p)) (legal q))
