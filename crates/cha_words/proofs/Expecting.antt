-- Which words can stand where words are read so far.
use Rattle.std.proofs.Common.{◌≡◌, ◌↔◌, ℕ, Bool, true, false, List, [], ◌∷◌, codes, Option, Some, None, IsSome, refl, sym, ◌∙◌}
use Rattle.cha_words.specs.declared.orders.Order.{Order}
use Rattle.cha_words.specs.declared.table.Command.{Command}
use Rattle.cha_words.specs.declared.table.Setting.{Setting}
use Rattle.cha_words.specs.declared.table.Setting.TheVariants.{Budget, Workers, Depth, Entries, Certs, Json, San, Fens, FlaggedDraws, Changed}
use Rattle.cha_words.specs.declared.table.Range.{Range}
use Rattle.cha_words.specs.declared.given.Given.{Given}
use Rattle.cha_words.specs.declared.given.Said.{Said}
use Rattle.cha_words.specs.Language.{number, is_flag, range, next_argument, say, piece_by}
use Rattle.cha_words.specs.Language.Part.{Value, Plain}
use Rattle.cha_words.specs.Reading.{value_in, put, open_in, order_from, order_with, parts_awaiting, with_piece, Fits}
use Rattle.cha_words.specs.Faults.{NamesStand, NumbersStand, FurtherStand}
use Rattle.cha_words.proofs.Cutting.{awaited_part, named_parts, one_part}
use Rattle.cha_words.proofs.Choosing.{value_closed, value_bad, value_taken, plain_refused, plain_taken, put_fits, said_fits, opened, closed_words}
use Rattle.cha_words.proofs.Ending.{is_open}
use Rattle.cha_words.proofs.Completing.{CanGo, given_goes, number_goes, some_number, has_own}

is_there : {A : Type 0} (o : Option A) (x : A) → o ≡ Some x → IsSome o
is_there o x e = rw e refl

none_goes : (o : Option Order) (order : Order) → o ≡ None → o ≡ Some order → ⊥
none_goes o order none some = let e = sym none ∙ some in cc

-- the number of an option that awaits it
module _ (c : Command) (g : Given) (s : Setting) (r : Range) (word : List ℕ) (fits : Fits c g) (open_ : open_in c g s ≡ Some r) where
  pub value_goes : (n : ℕ) → number r.least r.most word ≡ Some n → CanGo (λ more. order_from c g (Value s word ∷ parts_awaiting None more))
  value_goes n e =
      let goes = given_goes c (put s n g) (put_fits c g s r word n fits open_ e) in
      (goes.0, goes.1, value_taken c g s r word n open_ e (parts_awaiting None goes.0) ∙ goes.2)

  value_read : (o : Option ℕ) → number r.least r.most word ≡ o → CanGo (λ more. order_from c g (Value s word ∷ parts_awaiting None more)) → IsSome (number r.least r.most word)
  value_read (Some n) e goes = is_there (number r.least r.most word) n e
  value_read None e goes = absurd (none_goes _ goes.1 (value_bad c g s r word open_ e (parts_awaiting None goes.0)) goes.2)

  pub value_can : CanGo (λ more. order_from c g (Value s word ∷ parts_awaiting None more)) ↔ IsSome (number r.least r.most word)
  value_can = (value_read (number r.least r.most word) refl, λ some. let n = is_open (number r.least r.most word) some in value_goes n.0 n.1)

pub numbers_stand : NumbersStand
numbers_stand c p s r word stands awaited open_ =
    let same : (more : List (List ℕ)) → order_with c p (word ∷ more) ≡ order_from c p.given (Value s word ∷ parts_awaiting None more) = λ more. rw (awaited, awaited_part s word more) refl in
    let can = value_can c p.given s r word stands.fits open_ in (
      λ goes. can.0 (goes.0, goes.1, sym (same goes.0) ∙ goes.2),
      λ some. let goes = can.1 some in (goes.0, goes.1, same goes.0 ∙ goes.2),
    )

-- the name of an option
flag_number : (s : Setting) → is_flag s ≡ true → some_number s ≡ codes "1"
flag_number Certs e = refl
flag_number Json e = refl
flag_number San e = refl
flag_number Fens e = refl
flag_number FlaggedDraws e = refl
flag_number Changed e = refl
flag_number Budget e = cc
flag_number Workers e = cc
flag_number Depth e = cc
flag_number Entries e = cc

abbrev with_name : Command → Given → Setting → List (List ℕ) → Option Order
with_name c g s more = order_from c g (with_piece (piece_by (Some s) []) (λ awaited. parts_awaiting awaited more))

as_flag : (c : Command) (g : Given) (s : Setting) → is_flag s ≡ true → (more : List (List ℕ)) → with_name c g s more ≡ order_from c g (Value s (codes "1") ∷ parts_awaiting None more)
as_flag c g s f more = rw f refl

as_name : (c : Command) (g : Given) (s : Setting) → is_flag s ≡ false → (more : List (List ℕ)) → with_name c g s more ≡ order_from c g (parts_awaiting (Some s) more)
as_name c g s f more = rw f refl

name_goes : (c : Command) (g : Given) (s : Setting) (r : Range) (b : Bool) → Fits c g → open_in c g s ≡ Some r → is_flag s ≡ b → CanGo (with_name c g s)
name_goes c g s r true fits open_ f =
    let own = has_own c s r (opened (value_in s g) (range c s) r open_) in
    let n : number r.least r.most (codes "1") ≡ Some own.0 = rw (← flag_number s f) own.1 in
    let goes = value_goes c g s r (codes "1") fits open_ own.0 n in
    (goes.0, goes.1, as_flag c g s f goes.0 ∙ goes.2)
name_goes c g s r false fits open_ f = let goes = number_goes c g s r fits open_ in (goes.0, goes.1, as_name c g s f goes.0 ∙ goes.2)

name_closed : (c : Command) (g : Given) (s : Setting) (b : Bool) → open_in c g s ≡ None → is_flag s ≡ b → (more : List (List ℕ)) → with_name c g s more ≡ None
name_closed c g s true closed f more = as_flag c g s f more ∙ value_closed c g s (codes "1") closed (parts_awaiting None more)
name_closed c g s false closed f more = as_name c g s f more ∙ closed_words c g s closed more

name_read : (c : Command) (g : Given) (s : Setting) (o : Option Range) → open_in c g s ≡ o → CanGo (with_name c g s) → IsSome (open_in c g s)
name_read c g s (Some r) e goes = is_there (open_in c g s) r e
name_read c g s None e goes = absurd (none_goes _ goes.1 (name_closed c g s (is_flag s) e refl goes.0) goes.2)

pub names_stand : NamesStand
names_stand c p s word stands awaited named =
    let same : (more : List (List ℕ)) → order_with c p (word ∷ more) ≡ with_name c p.given s more = λ more. rw (awaited, named_parts word s named more) refl in (
      λ goes. name_read c p.given s (open_in c p.given s) refl (goes.0, goes.1, sym (same goes.0) ∙ goes.2),
      λ some. let r = is_open (open_in c p.given s) some in let goes = name_goes c p.given s r.0 (is_flag s) stands.fits r.1 refl in (goes.0, goes.1, same goes.0 ∙ goes.2),
    )

-- a word that is no option
plain_goes : (c : Command) (g : Given) (word : List ℕ) (said : Said) → Fits c g → say (next_argument c g.said) g.said word ≡ Some said → CanGo (λ more. order_from c g (Plain word ∷ parts_awaiting None more))
plain_goes c g word said fits e =
    let goes = given_goes c (record g { said = said }) (said_fits c g word said fits e) in
    (goes.0, goes.1, plain_taken c g word said e (parts_awaiting None goes.0) ∙ goes.2)

plain_read : (c : Command) (g : Given) (word : List ℕ) (o : Option Said) → say (next_argument c g.said) g.said word ≡ o → CanGo (λ more. order_from c g (Plain word ∷ parts_awaiting None more)) → IsSome (say (next_argument c g.said) g.said word)
plain_read c g word (Some said) e goes = is_there (say (next_argument c g.said) g.said word) said e
plain_read c g word None e goes = absurd (none_goes _ goes.1 (plain_refused c g word e (parts_awaiting None goes.0)) goes.2)

pub further_stand : FurtherStand
further_stand c p word stands awaited unnamed plain =
    let same : (more : List (List ℕ)) → order_with c p (word ∷ more) ≡ order_from c p.given (Plain word ∷ parts_awaiting None more) = λ more. rw (awaited, one_part word unnamed more, plain) refl in (
      λ goes. plain_read c p.given word (say (next_argument c p.given.said) p.given.said word) refl (goes.0, goes.1, sym (same goes.0) ∙ goes.2),
      λ some. let s = is_open (say (next_argument c p.given.said) p.given.said word) some in let goes = plain_goes c p.given word s.0 stands.fits s.1 in (goes.0, goes.1, same goes.0 ∙ goes.2),
    )
