-- The cut of the words into parts.
use Rattle.std.proofs.Common.{◌≡◌, ℕ, ◌==◌, true, false, List, [], ◌∷◌, length, take, codes, Option, Some, None, refl, sym, ap, ◌∙◌}
use Rattle.std.specs.List.{before_first, after_first, position_or_len}
use Rattle.std.proofs.Math.Seq.{take-length}
use Rattle.cha_words.specs.declared.table.Command.{Command}
use Rattle.cha_words.specs.declared.table.Setting.{Setting}
use Rattle.cha_words.specs.declared.given.Given.{Given}
use Rattle.cha_words.specs.declared.given.Progress.{Progress}
use Rattle.cha_words.specs.Language.{Part, Piece, setting_named, is_flag, part_of, piece, piece_by, last_part, part_before, parts}
use Rattle.cha_words.specs.Language.Part.{Value, Plain}
use Rattle.cha_words.specs.Language.Piece.{Name, Whole}
use Rattle.cha_words.specs.Reading.{Takes, TakesName, TakesWord, settled_of, with_piece, parts_awaiting}

pub value_part : (word name value : List ℕ) (s : Setting) → name ≡ before_first (λ b. b == 61) word → value ≡ after_first (λ b. b == 61) word → setting_named name ≡ Some s → is_flag s ≡ false → part_of word ≡ Value s value
unfolding part_of
value_part word name value s n v e f = let t = rw n at e in rw (t, f, v) refl

pub flag_part : (word name : List ℕ) (s : Setting) → name ≡ before_first (λ b. b == 61) word → setting_named name ≡ Some s → is_flag s ≡ true → part_of word ≡ Plain word
unfolding part_of
flag_part word name s n e f = let t = rw n at e in rw (t, f) refl

pub plain_part : (word name : List ℕ) → name ≡ before_first (λ b. b == 61) word → setting_named name ≡ None → part_of word ≡ Plain word
unfolding part_of
plain_part word name n e = let t = rw n at e in rw t refl

pub whole_part : (word : List ℕ) → position_or_len (λ b. b == 61) word ≡ length word → setting_named word ≡ None → part_of word ≡ Plain word
whole_part word at_end e = plain_part word word (sym (ap (λ n. take n word) at_end ∙ take-length word)) e

-- the two ways to cut the words
last_same : (p : Piece) → last_part p ∷ [] ≡ with_piece p (λ awaited. parts_awaiting awaited [])
unfolding parts_awaiting
last_same (Name s) = refl
last_same (Whole part) = refl

before_same : (p : Piece) (next : List ℕ) (words : List (List ℕ)) → parts words ≡ parts_awaiting None words → parts (next ∷ words) ≡ parts_awaiting None (next ∷ words) → part_before p next (parts words) (parts (next ∷ words)) ≡ with_piece p (λ awaited. parts_awaiting awaited (next ∷ words))
unfolding parts_awaiting
before_same (Name s) next words one two = ap (λ ps. Value s next ∷ ps) one
before_same (Whole part) next words one two = ap (λ ps. part ∷ ps) two

pub cut_same : (words : List (List ℕ)) → parts words ≡ parts_awaiting None words
unfolding parts_awaiting
cut_same [] = refl
cut_same (word ∷ []) = last_same (piece word)
cut_same (word ∷ next ∷ words) = before_same (piece word) next words (cut_same words) (cut_same (next ∷ words))

pub awaited_part : (s : Setting) (word : List ℕ) (words : List (List ℕ)) → parts_awaiting (Some s) (word ∷ words) ≡ Value s word ∷ parts_awaiting None words
unfolding parts_awaiting
awaited_part s word words = refl

pub awaited_end : (s : Setting) → parts_awaiting (Some s) [] ≡ Value s [] ∷ []
unfolding parts_awaiting
awaited_end s = refl

pub no_part : parts_awaiting None [] ≡ []
unfolding parts_awaiting
no_part = refl

pub named_parts : (word : List ℕ) (s : Setting) → setting_named word ≡ Some s → (words : List (List ℕ)) → parts_awaiting None (word ∷ words) ≡ with_piece (piece_by (Some s) []) (λ awaited. parts_awaiting awaited words)
unfolding parts_awaiting piece
named_parts word s e words = rw e refl

pub one_part : (word : List ℕ) → setting_named word ≡ None → (words : List (List ℕ)) → parts_awaiting None (word ∷ words) ≡ part_of word ∷ parts_awaiting None words
unfolding parts_awaiting piece
one_part word e words = rw e refl

-- a word that is one part is taken as that part is
pub takes_part : (c : Command) (p : Progress) (word : List ℕ) (part : Part) (r : Option Given) → ((words : List (List ℕ)) → parts_awaiting p.awaited (word ∷ words) ≡ part ∷ parts_awaiting None words) → Takes c p.given part r → TakesWord c p word (settled_of r)
unfolding Takes TakesWord
takes_part c p word part (Some next) e h = (record { fits = h.0; awaits = tt }, λ words. rw (e words) (h.1 (parts_awaiting None words)))
takes_part c p word part None e h = λ words. rw (e words) (h (parts_awaiting None words))

pub takes_value : (c : Command) (p : Progress) (word : List ℕ) (s : Setting) (r : Option Given) → p.awaited ≡ Some s → Takes c p.given (Value s word) r → TakesWord c p word (settled_of r)
takes_value c p word s r a h = takes_part c p word (Value s word) r (λ words. rw a (awaited_part s word words)) h

pub takes_whole : (c : Command) (p : Progress) (word : List ℕ) (r : Option Given) → p.awaited ≡ None → setting_named word ≡ None → Takes c p.given (part_of word) r → TakesWord c p word (settled_of r)
takes_whole c p word r a e h = takes_part c p word (part_of word) r (λ words. rw a (one_part word e words)) h

pub takes_name : (c : Command) (p : Progress) (word : List ℕ) (s : Setting) (r : Option Progress) → p.awaited ≡ None → setting_named word ≡ Some s → TakesName c p.given s r → TakesWord c p word r
unfolding TakesName TakesWord
takes_name c p word s (Some next) a e h = (h.0, λ words. rw (a, named_parts word s e words) (h.1 words))
takes_name c p word s None a e h = λ words. rw (a, named_parts word s e words) (h words)

-- a flag is taken as its number
pub takes_flag : (c : Command) (g : Given) (s : Setting) (r : Option Given) → is_flag s ≡ true → Takes c g (Value s (codes "1")) r → TakesName c g s (settled_of r)
unfolding Takes TakesName
takes_flag c g s (Some next) f h = (record { fits = h.0; awaits = tt }, λ words. rw f (h.1 (parts_awaiting None words)))
takes_flag c g s None f h = λ words. rw f (h (parts_awaiting None words))
