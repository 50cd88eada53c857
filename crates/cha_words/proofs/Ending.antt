-- What is ordered once all the words are read.
use Rattle.std.proofs.Common.{◌≡◌, ℕ, true, [], ◌∷◌, Option, Some, None, is_some, unwrap_or, IsSome, refl, sym, ap, arith}
use Rattle.cha_words.specs.declared.chosen.Numbers.{Numbers}
use Rattle.cha_words.specs.declared.table.Command.{Command}
use Rattle.cha_words.specs.declared.table.Setting.{Setting}
use Rattle.cha_words.specs.declared.table.Setting.TheVariants.{Budget, Workers, Depth, Entries, Certs, Json, San, Fens, FlaggedDraws, Changed}
use Rattle.cha_words.specs.declared.table.Range.{Range}
use Rattle.cha_words.specs.declared.given.Given.{Given}
use Rattle.cha_words.specs.declared.given.Progress.{Progress}
use Rattle.cha_words.specs.Language.{range, numbers_by, made, made_of}
use Rattle.cha_words.specs.Language.Part.{Value}
use Rattle.cha_words.specs.Reading.{value_in, open_in, chosen_from, numbers_from, order_from, order_with}
use Rattle.cha_words.proofs.Digits.{no_number}
use Rattle.cha_words.proofs.Cutting.{awaited_end, no_part}
use Rattle.cha_words.proofs.Choosing.{value_closed, value_bad}

-- each option has a number where no more words come
ends : (r : Option Range) (o : Option ℕ) → is_some (chosen_from r o []) ≡ true
ends None None = refl
ends (Some r) None = refl
ends r (Some n) = refl

pub whole : (c : Command) (g : Given) → (n : Numbers) × (numbers_from c g [] ≡ Some n)
whole c g = (numbers_by (λ s. unwrap_or (chosen_from (range c s) (value_in s g) []) 0), rw (has Budget, has Workers, has Depth, has Entries, has Certs, has Json, has San, has Fens, has FlaggedDraws, has Changed) refl)
  where
    has : (s : Setting) → is_some (chosen_from (range c s) (value_in s g) []) ≡ true
    has s = ends (range c s) (value_in s g)

pub of_some : {A : Type 0} (x y : A) → Some x ≡ Some y → x ≡ y
of_some x y e = cc

pub at_end : (c : Command) (g : Given) (n : Numbers) → numbers_from c g [] ≡ Some n → order_from c g [] ≡ made c n g.said
unfolding order_from
at_end c g n e = ap (λ o. made_of c o (Some g.said)) e

-- an option whose number never comes
none_awaited : (c : Command) (g : Given) (s : Setting) (o : Option Range) → open_in c g s ≡ o → order_from c g (Value s [] ∷ []) ≡ None
none_awaited c g s None e = value_closed c g s [] e []
none_awaited c g s (Some r) e = value_bad c g s r [] e (no_number r.least r.most [] (λ is. let some = is.some in omega (arith, some))) []

pub awaited_none : (c : Command) (p : Progress) (s : Setting) → p.awaited ≡ Some s → None ≡ order_with c p []
awaited_none c p s e = rw (e, awaited_end s) (sym (none_awaited c p.given s (open_in c p.given s) refl))

pub settled_end : (c : Command) (p : Progress) (n : Numbers) → p.awaited ≡ None → numbers_from c p.given [] ≡ Some n → made c n p.given.said ≡ order_with c p []
settled_end c p n e h = rw (e, no_part) (sym (at_end c p.given n h))

pub is_open : {A : Type 0} (o : Option A) → IsSome o → (r : A) × (o ≡ Some r)
is_open (Some r) h = (r, refl)
is_open None h = cc
