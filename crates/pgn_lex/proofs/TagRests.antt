-- What follows a tag pair lies in what follows its stage.
use Rattle.std.proofs.Common.{◌≡◌, ℕ, ◌≤◌, ◌==◌, Bool, true, false, not, ◌||◌, if◌then◌else◌, List, [], ◌∷◌, ◌++◌, Option, Some, None, length, take, drop, refl, ap, arith, length-drop}
use Rattle.std.specs.List.{prefix_len}
use Rattle.cha_list.specs.declared.classes.Class.TheVariants.{Blank, InLine}
use Rattle.cha_list.specs.Bytes.{in_class}
use Rattle.pgn_lex.specs.declared.classes.PgnClass.TheVariants.{NameByte}
use Rattle.pgn_lex.specs.Classes.{in_pgn_class}
use Rattle.pgn_lex.specs.Tags.{◌>>=◌, Read, TagRead, onto, past_blanks, past_byte, name_at, value_after, tag_at}
use Rattle.pgn_lex.proofs.TagStages.{tag_valued, tag_in_value, tag_named, tag_in_name}

-- a chain that answers
bind_some : {A B : Type 0} (o : Option A) (f : A → Option B) (y : B) → (o >>= f) ≡ Some y → (x : A) × (o ≡ Some x) × (f x ≡ Some y)
bind_some None f y e = cc
bind_some (Some x) f y e = (x, refl, e)

blanks_le : (bs : List ℕ) → length (past_blanks bs) ≤ length bs
blanks_le bs = omega (arith, length-drop (prefix_len (in_class Blank) bs) bs)

byte_step : (v : Bool) (b : ℕ) (bs r : List ℕ) → (if v then Some bs else None) ≡ Some r → length r ≤ length (b ∷ bs)
byte_step true b bs r e = let f : bs ≡ r = cc in omega (arith, ap length f)
byte_step false b bs r e = cc

byte_le : (wanted : ℕ) (bs r : List ℕ) → past_byte wanted bs ≡ Some r → length r ≤ length bs
unfolding past_byte
byte_le wanted [] r e = cc
byte_le wanted (b ∷ bs) r e = byte_step (b == wanted) b bs r e

pub valued_le : (name value bs : List ℕ) (t : TagRead) → tag_valued name value bs ≡ Some t → length t.rest ≤ length bs
unfolding tag_valued
valued_le name value bs t e =
    let x = bind_some (past_byte 93 (past_blanks bs)) _ t e in
    let f : x.0 ≡ t.rest = cc (x.2) in
    omega (arith, byte_le 93 (past_blanks bs) x.0 x.1, blanks_le bs, ap length f)

onto_some : (b : ℕ) (o : Option Read) (r : Read) → onto b o ≡ Some r → (s : Read) × (o ≡ Some s) × (s.rest ≡ r.rest)
onto_some b None r e = cc
onto_some b (Some s) r e = (s, refl, cc)

-- a value
plain_step : (q l s : Bool) (b : ℕ) (bs : List ℕ) (x y : Option Read) (r : Read)
    → (if q then Some (record { text = []; rest = bs }) else (if l then None else (if s then x else onto b y))) ≡ Some r
    → ((r : Read) → x ≡ Some r → length r.rest ≤ length bs) → ((r : Read) → y ≡ Some r → length r.rest ≤ length bs) → length r.rest ≤ length (b ∷ bs)
plain_step true l s b bs x y r e f g = let h : bs ≡ r.rest = cc in omega (arith, ap length h)
plain_step false true s b bs x y r e f g = cc
plain_step false false true b bs x y r e f g = omega (arith, f r e)
plain_step false false false b bs x y r e f g = let o = onto_some b y r e in omega (arith, g o.0 o.1, ap length o.2)

escaped_step : (q l : Bool) (b : ℕ) (bs : List ℕ) (y : Option Read) (r : Read) → (if q then onto b y else (if l then None else onto 92 (onto b y))) ≡ Some r
    → ((r : Read) → y ≡ Some r → length r.rest ≤ length bs) → length r.rest ≤ length (b ∷ bs)
escaped_step true l b bs y r e g = let o = onto_some b y r e in omega (arith, g o.0 o.1, ap length o.2)
escaped_step false true b bs y r e g = cc
escaped_step false false b bs y r e g =
    let p = onto_some 92 (onto b y) r e in
    let o = onto_some b y p.0 p.1 in
    omega (arith, g o.0 o.1, ap length o.2, ap length p.2)

value_le : (escaped : Bool) (bs : List ℕ) (r : Read) → value_after escaped bs ≡ Some r → length r.rest ≤ length bs
unfolding value_after
value_le true [] r e = cc
value_le false [] r e = cc
value_le true (b ∷ bs) r e = escaped_step ((b == 34) || (b == 92)) (not (in_class InLine b)) b bs (value_after false bs) r e (λ s f. value_le false bs s f)
value_le false (b ∷ bs) r e =
    plain_step (b == 34) (not (in_class InLine b)) (b == 92) b bs (value_after true bs) (value_after false bs) r e (λ s f. value_le true bs s f) (λ s f. value_le false bs s f)

pub in_value_le : (escaped : Bool) (name front bs : List ℕ) (t : TagRead) → tag_in_value escaped name front bs ≡ Some t → length t.rest ≤ length bs
unfolding tag_in_value
in_value_le escaped name front bs t e =
    let x = bind_some (value_after escaped bs) _ t e in
    omega (arith, value_le escaped bs x.0 x.1, valued_le name (front ++ x.0.text) x.0.rest t x.2)

pub named_le : (name bs : List ℕ) (t : TagRead) → tag_named name bs ≡ Some t → length t.rest ≤ length bs
unfolding tag_named
named_le name bs t e =
    let x = bind_some (past_byte 34 (past_blanks bs)) _ t e in
    omega (arith, byte_le 34 (past_blanks bs) x.0 x.1, blanks_le bs, in_value_le false name [] x.0 t x.2)

pub in_name_le : (front bs : List ℕ) (t : TagRead) → tag_in_name front bs ≡ Some t → length t.rest ≤ length bs
unfolding tag_in_name
in_name_le front bs t e =
    omega (arith, named_le (front ++ take (prefix_len (in_pgn_class NameByte) bs) bs) (drop (prefix_len (in_pgn_class NameByte) bs) bs) t e, length-drop (prefix_len (in_pgn_class NameByte) bs) bs)

-- a name and what follows it, before it is known that the name has a byte
name_some : (v : Bool) (n : ℕ) (bs : List ℕ) (x : Read) → (if v then None else Some (record { text = take n bs; rest = drop n bs })) ≡ Some x → (x.text ≡ take n bs) × (x.rest ≡ drop n bs)
name_some true n bs x e = cc
name_some false n bs x e = (cc, cc)

from_name : (name rest : List ℕ) (t : TagRead) → (past_byte 34 (past_blanks rest) >>= (λ opened. value_after false opened >>= (λ value. past_byte 93 (past_blanks value.rest) >>= (λ rest. Some (record { name = name; value = value.text; rest = rest }))))) ≡ Some t → tag_named name rest ≡ Some t
unfolding tag_named tag_in_value tag_valued
from_name name rest t e = e

pub opened_le : (bs : List ℕ) (t : TagRead) → tag_at bs ≡ Some t → length t.rest ≤ length bs
unfolding tag_at name_at
opened_le bs t e =
    let n = prefix_len (in_pgn_class NameByte) (past_blanks bs) in
    let x = bind_some (name_at (past_blanks bs)) _ t e in
    let s = name_some (n == 0) n (past_blanks bs) x.0 x.1 in
    let named : tag_named x.0.text x.0.rest ≡ Some t = from_name x.0.text x.0.rest t x.2 in
    omega (arith, named_le x.0.text x.0.rest t named, ap length s.1, length-drop n (past_blanks bs), blanks_le bs)
