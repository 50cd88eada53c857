-- What each byte does to a tag pair.
use Rattle.std.proofs.Common.{◌≡◌, ℕ, suc, ◌-◌, ◌≤◌, ◌==◌, Bool, true, false, List, [], ◌∷◌, ◌++◌, Option, Some, None, length, take, refl, sym, ap, arith, append_assoc, append-nil}
use Rattle.std.specs.List.{prefix_len}
use Rattle.std.proofs.lemmas.Bool.Decides.{nat_tests}
use Rattle.cha_list.specs.declared.classes.Class.TheVariants.{Blank, InLine}
use Rattle.cha_list.specs.Bytes.{in_class}
use Rattle.pgn_lex.specs.declared.classes.PgnClass.TheVariants.{NameByte}
use Rattle.pgn_lex.specs.Classes.{in_pgn_class}
use Rattle.pgn_lex.specs.declared.kinds.Token.TheVariants.{BadTag}
use Rattle.pgn_lex.specs.Pieces.{spoken_piece}
use Rattle.pgn_lex.specs.Tags.{◌>>=◌, Read, TagRead, past_blanks, past_byte, name_at, value_after, tag_at, tag_or_line}
use Rattle.pgn_lex.specs.Values.{onto_all}
use Rattle.pgn_lex.proofs.TagStages.{tag_valued, tag_in_value, tag_named, tag_in_name}
use Rattle.pgn_lex.proofs.Left.{one_more}
use Rattle.pgn_lex.proofs.Runs.{run_grows, run_ends}

blank_on : (b : ℕ) (bs : List ℕ) → in_class Blank b ≡ true → past_blanks (b ∷ bs) ≡ past_blanks bs
blank_on b bs e = rw (run_grows (in_class Blank) b bs e) refl

blank_ends : (b : ℕ) (bs : List ℕ) → in_class Blank b ≡ false → past_blanks (b ∷ bs) ≡ b ∷ bs
blank_ends b bs e = rw (run_ends (in_class Blank) b bs e) refl

byte_is : (wanted b : ℕ) (bs : List ℕ) → (b == wanted) ≡ true → past_byte wanted (b ∷ bs) ≡ Some bs
unfolding past_byte
byte_is wanted b bs e = rw e refl

byte_is_not : (wanted b : ℕ) (bs : List ℕ) → (b == wanted) ≡ false → past_byte wanted (b ∷ bs) ≡ None
unfolding past_byte
byte_is_not wanted b bs e = rw e refl

-- behind the closing quote
pub valued_blank : (name value : List ℕ) (b : ℕ) (bs : List ℕ) → in_class Blank b ≡ true → tag_valued name value (b ∷ bs) ≡ tag_valued name value bs
unfolding tag_valued
valued_blank name value b bs e = rw (blank_on b bs e) refl

pub valued_closes : (name value : List ℕ) (b : ℕ) (bs : List ℕ) → in_class Blank b ≡ false → (b == 93) ≡ true → tag_valued name value (b ∷ bs) ≡ Some (record { name = name; value = value; rest = bs })
unfolding tag_valued
valued_closes name value b bs e f = rw (blank_ends b bs e, byte_is 93 b bs f) refl

pub valued_breaks : (name value : List ℕ) (b : ℕ) (bs : List ℕ) → in_class Blank b ≡ false → (b == 93) ≡ false → tag_valued name value (b ∷ bs) ≡ None
unfolding tag_valued
valued_breaks name value b bs e f = rw (blank_ends b bs e, byte_is_not 93 b bs f) refl

-- within the value: by what a byte of a value does
goes_on_from : (name front added : List ℕ) (o : Option Read)
    → (onto_all added o >>= (λ v. tag_valued name (front ++ v.text) v.rest)) ≡ (o >>= (λ v. tag_valued name (front ++ added ++ v.text) v.rest))
goes_on_from name front added None = refl
goes_on_from name front added (Some v) = ap (λ x. tag_valued name x v.rest) (sym (append_assoc front added v.text))

pub value_goes_on : (escaped after : Bool) (name front added : List ℕ) (b : ℕ) (bs : List ℕ) → value_after escaped (b ∷ bs) ≡ onto_all added (value_after after bs)
    → tag_in_value escaped name front (b ∷ bs) ≡ tag_in_value after name (front ++ added) bs
unfolding tag_in_value
value_goes_on escaped after name front added b bs e = rw e (goes_on_from name front added (value_after after bs))

pub value_closes : (escaped : Bool) (name front : List ℕ) (b : ℕ) (bs : List ℕ) → value_after escaped (b ∷ bs) ≡ Some (record { text = []; rest = bs }) → tag_in_value escaped name front (b ∷ bs) ≡ tag_valued name front bs
unfolding tag_in_value
value_closes escaped name front b bs e = rw e (ap (λ x. tag_valued name x bs) (append-nil front))

pub value_breaks : (escaped : Bool) (name front : List ℕ) (b : ℕ) (bs : List ℕ) → value_after escaped (b ∷ bs) ≡ None → tag_in_value escaped name front (b ∷ bs) ≡ None
unfolding tag_in_value
value_breaks escaped name front b bs e = rw e refl

-- behind the name
pub named_blank : (name : List ℕ) (b : ℕ) (bs : List ℕ) → in_class Blank b ≡ true → tag_named name (b ∷ bs) ≡ tag_named name bs
unfolding tag_named
named_blank name b bs e = rw (blank_on b bs e) refl

pub named_opens : (name : List ℕ) (b : ℕ) (bs : List ℕ) → in_class Blank b ≡ false → (b == 34) ≡ true → tag_named name (b ∷ bs) ≡ tag_in_value false name [] bs
unfolding tag_named
named_opens name b bs e f = rw (blank_ends b bs e, byte_is 34 b bs f) refl

pub named_breaks : (name : List ℕ) (b : ℕ) (bs : List ℕ) → in_class Blank b ≡ false → (b == 34) ≡ false → tag_named name (b ∷ bs) ≡ None
unfolding tag_named
named_breaks name b bs e f = rw (blank_ends b bs e, byte_is_not 34 b bs f) refl

-- within the name
pub name_goes_on : (front : List ℕ) (b : ℕ) (bs : List ℕ) → in_pgn_class NameByte b ≡ true → tag_in_name front (b ∷ bs) ≡ tag_in_name (front ++ b ∷ []) bs
unfolding tag_in_name
name_goes_on front b bs e =
    let n = prefix_len (in_pgn_class NameByte) bs in
    rw (run_grows (in_pgn_class NameByte) b bs e, append_assoc front (b ∷ []) (take n bs)) refl

pub name_ends : (front : List ℕ) (b : ℕ) (bs : List ℕ) → in_pgn_class NameByte b ≡ false → tag_in_name front (b ∷ bs) ≡ tag_named front (b ∷ bs)
unfolding tag_in_name
name_ends front b bs e = rw (run_ends (in_pgn_class NameByte) b bs e) (ap (λ x. tag_named x (b ∷ bs)) (append-nil front))

-- before the name
pub opened_blank : (b : ℕ) (bs : List ℕ) → in_class Blank b ≡ true → tag_at (b ∷ bs) ≡ tag_at bs
unfolding tag_at
opened_blank b bs e = rw (blank_on b bs e) refl

not_none : (n : ℕ) → (suc n == 0) ≡ false
not_none n = grind (arith, nat_tests)

pub opened_name : (b : ℕ) (bs : List ℕ) → in_class Blank b ≡ false → in_pgn_class NameByte b ≡ true → tag_at (b ∷ bs) ≡ tag_in_name (b ∷ []) bs
unfolding tag_at name_at tag_in_name tag_named tag_in_value tag_valued
opened_name b bs e f = rw (blank_ends b bs e, run_grows (in_pgn_class NameByte) b bs f, not_none (prefix_len (in_pgn_class NameByte) bs)) refl

pub opened_breaks : (b : ℕ) (bs : List ℕ) → in_class Blank b ≡ false → in_pgn_class NameByte b ≡ false → tag_at (b ∷ bs) ≡ None
unfolding tag_at name_at
opened_breaks b bs e f = rw (blank_ends b bs e, run_ends (in_pgn_class NameByte) b bs f) refl

-- The piece of a tag pair falls by one with each byte, where what follows the tag pair lies in the rest.
pub tag_falls : (b : ℕ) (bs : List ℕ) (o : Option TagRead) → in_class InLine b ≡ true → ((t : TagRead) → o ≡ Some t → length t.rest ≤ length bs) → tag_or_line (b ∷ bs) o ≡ one_more (tag_or_line bs o)
tag_falls b bs None e small = ap (spoken_piece BadTag) (run_grows (in_class InLine) b bs e)
tag_falls b bs (Some t) e small =
    let few = small t refl in
    let f : length (b ∷ bs) - length t.rest ≡ suc (length bs - length t.rest) = omega arith in
    rw f refl
