-- What one part makes of what is given.
use Rattle.std.proofs.Common.{◌≡◌, ℕ, ◌≤◌, Bool, true, false, ◌&&◌, List, [], ◌∷◌, filter_map, Option, Some, None, option_map, is_some, refl, ap, ◌∙◌, subst}
use Rattle.cha_words.specs.declared.chosen.Numbers.{Numbers}
use Rattle.cha_words.specs.declared.table.Command.{Command}
use Rattle.cha_words.specs.declared.table.Command.TheVariants.{Gen, Mates}
use Rattle.cha_words.specs.declared.table.Setting.{Setting}
use Rattle.cha_words.specs.declared.table.Setting.TheVariants.{Budget, Workers, Depth, Entries, Certs, Json, San, Fens, FlaggedDraws, Changed}
use Rattle.cha_words.specs.declared.table.Range.{Range}
use Rattle.cha_words.specs.declared.given.Given.{Given}
use Rattle.cha_words.specs.declared.given.Said.{Said}
use Rattle.cha_words.specs.declared.given.Said.TheVariants.{Nothing, Seeded, Games, Sided}
use Rattle.cha_board.specs.declared.men.Color.{Color}
use Rattle.cha_words.specs.Language.{Part, number, side_named, is_flag, range, next_argument, say, say_all, value_for, plain_word, has_all, all_of, made_of}
use Rattle.cha_words.specs.Language.Part.{Value, Plain}
use Rattle.cha_words.specs.Reading.{value_in, put, open_by, open_in, chosen_from, numbers_from, order_from, IsGivenIn, IsSaid, Fits, TakesName, parts_awaiting}
use Rattle.cha_words.proofs.Digits.{number_in_range}
use Rattle.cha_words.proofs.Cutting.{awaited_part, awaited_end}

-- a value of an option that may not be given
closed_chosen : (r : Option Range) (o : Option ℕ) (v : List ℕ) (vs : List (List ℕ)) → open_by o r ≡ None → chosen_from r o (v ∷ vs) ≡ None
closed_chosen r (Some n) v vs e = refl
closed_chosen r None v vs e = rw e refl

-- a value that is no number in its range
bad_chosen : (r : Option Range) (o : Option ℕ) (range : Range) (v : List ℕ) (vs : List (List ℕ)) → open_by o r ≡ Some range → number range.least range.most v ≡ None → chosen_from r o (v ∷ vs) ≡ None
bad_chosen r (Some n) range v vs e h = cc
bad_chosen r None range v [] e h = rw e h
bad_chosen r None range v (w ∷ vs) e h = rw e refl

-- a value that is one
good_chosen : (r : Option Range) (o : Option ℕ) (range : Range) (v : List ℕ) (n : ℕ) (vs : List (List ℕ)) → open_by o r ≡ Some range → number range.least range.most v ≡ Some n → chosen_from r o (v ∷ vs) ≡ chosen_from r (Some n) vs
good_chosen r (Some m) range v n vs e h = cc
good_chosen r None range v n [] e h = rw e h
good_chosen r None range v n (w ∷ vs) e h = rw e refl

-- one option without a number
both_false : (a : Bool) → (a && false) ≡ false
both_false true = refl
both_false false = refl

lacking : (s : Setting) (f : Setting → Option ℕ) → f s ≡ None → has_all f ≡ false
lacking Budget f e = rw e refl
lacking Workers f e = rw (e, both_false (is_some (f Budget))) refl
lacking Depth f e = rw (e, both_false (is_some (f Budget) && is_some (f Workers))) refl
lacking Entries f e = rw (e, both_false (is_some (f Budget) && is_some (f Workers) && is_some (f Depth))) refl
lacking Certs f e = rw (e, both_false (is_some (f Budget) && is_some (f Workers) && is_some (f Depth) && is_some (f Entries))) refl
lacking Json f e = rw (e, both_false (is_some (f Budget) && is_some (f Workers) && is_some (f Depth) && is_some (f Entries) && is_some (f Certs))) refl
lacking San f e = rw (e, both_false (is_some (f Budget) && is_some (f Workers) && is_some (f Depth) && is_some (f Entries) && is_some (f Certs) && is_some (f Json))) refl
lacking Fens f e = rw (e, both_false (is_some (f Budget) && is_some (f Workers) && is_some (f Depth) && is_some (f Entries) && is_some (f Certs) && is_some (f Json) && is_some (f San))) refl
lacking FlaggedDraws f e = rw (e, both_false (is_some (f Budget) && is_some (f Workers) && is_some (f Depth) && is_some (f Entries) && is_some (f Certs) && is_some (f Json) && is_some (f San) && is_some (f Fens))) refl
lacking Changed f e = rw (e, both_false (is_some (f Budget) && is_some (f Workers) && is_some (f Depth) && is_some (f Entries) && is_some (f Certs) && is_some (f Json) && is_some (f San) && is_some (f Fens) && is_some (f FlaggedDraws))) refl

pub absent : (s : Setting) (f : Setting → Option ℕ) → f s ≡ None → all_of f ≡ None
absent s f e = rw (lacking s f e) refl

no_numbers : (c : Command) (said : Option Said) → made_of c None said ≡ None
no_numbers c None = refl
no_numbers c (Some said) = refl

nothing_said : (c : Command) (n : Option Numbers) → made_of c n None ≡ None
nothing_said c None = refl
nothing_said c (Some n) = refl

refused : (c : Command) (g : Given) (ps : List Part) (s : Setting) → chosen_from (range c s) (value_in s g) (filter_map (value_for s) ps) ≡ None → order_from c g ps ≡ None
unfolding order_from
refused c g ps s e =
    ap (λ n. made_of c n (say_all c (Some g.said) (filter_map plain_word ps))) (absent s (λ t. chosen_from (range c t) (value_in t g) (filter_map (value_for t) ps)) e)
    ∙ no_numbers c (say_all c (Some g.said) (filter_map plain_word ps))

own_value : (s : Setting) (v : List ℕ) (ps : List Part) → filter_map (value_for s) (Value s v ∷ ps) ≡ v ∷ filter_map (value_for s) ps
own_value Budget v ps = refl
own_value Workers v ps = refl
own_value Depth v ps = refl
own_value Entries v ps = refl
own_value Certs v ps = refl
own_value Json v ps = refl
own_value San v ps = refl
own_value Fens v ps = refl
own_value FlaggedDraws v ps = refl
own_value Changed v ps = refl

-- an option that may not be given
pub value_closed : (c : Command) (g : Given) (s : Setting) (v : List ℕ) → open_in c g s ≡ None → (ps : List Part) → order_from c g (Value s v ∷ ps) ≡ None
value_closed c g s v e ps = refused c g (Value s v ∷ ps) s (ap (λ vs. chosen_from (range c s) (value_in s g) vs) (own_value s v ps) ∙ closed_chosen (range c s) (value_in s g) v (filter_map (value_for s) ps) e)

-- an option whose value is no number in its range
pub value_bad : (c : Command) (g : Given) (s : Setting) (r : Range) (v : List ℕ) → open_in c g s ≡ Some r → number r.least r.most v ≡ None → (ps : List Part) → order_from c g (Value s v ∷ ps) ≡ None
value_bad c g s r v e h ps = refused c g (Value s v ∷ ps) s (ap (λ vs. chosen_from (range c s) (value_in s g) vs) (own_value s v ps) ∙ bad_chosen (range c s) (value_in s g) r v (filter_map (value_for s) ps) e h)

-- an option that is given
pub value_taken : (c : Command) (g : Given) (s : Setting) (r : Range) (v : List ℕ) (n : ℕ) → open_in c g s ≡ Some r → number r.least r.most v ≡ Some n → (ps : List Part) → order_from c g (Value s v ∷ ps) ≡ order_from c (put s n g) ps
unfolding order_from
value_taken c g Budget r v n e h ps = rw (good_chosen (range c Budget) g.budget r v n (filter_map (value_for Budget) ps) e h) refl
value_taken c g Workers r v n e h ps = rw (good_chosen (range c Workers) g.workers r v n (filter_map (value_for Workers) ps) e h) refl
value_taken c g Depth r v n e h ps = rw (good_chosen (range c Depth) g.depth r v n (filter_map (value_for Depth) ps) e h) refl
value_taken c g Entries r v n e h ps = rw (good_chosen (range c Entries) g.entries r v n (filter_map (value_for Entries) ps) e h) refl
value_taken c g Certs r v n e h ps = rw (good_chosen (range c Certs) g.certs r v n (filter_map (value_for Certs) ps) e h) refl
value_taken c g Json r v n e h ps = rw (good_chosen (range c Json) g.json r v n (filter_map (value_for Json) ps) e h) refl
value_taken c g San r v n e h ps = rw (good_chosen (range c San) g.san r v n (filter_map (value_for San) ps) e h) refl
value_taken c g Fens r v n e h ps = rw (good_chosen (range c Fens) g.fens r v n (filter_map (value_for Fens) ps) e h) refl
value_taken c g FlaggedDraws r v n e h ps = rw (good_chosen (range c FlaggedDraws) g.flagged_draws r v n (filter_map (value_for FlaggedDraws) ps) e h) refl
value_taken c g Changed r v n e h ps = rw (good_chosen (range c Changed) g.changed r v n (filter_map (value_for Changed) ps) e h) refl

silent : (c : Command) (words : List (List ℕ)) → say_all c None words ≡ None
silent c [] = refl
silent c (word ∷ words) = refl

-- a further word that is refused
pub plain_refused : (c : Command) (g : Given) (word : List ℕ) → say (next_argument c g.said) g.said word ≡ None → (ps : List Part) → order_from c g (Plain word ∷ ps) ≡ None
unfolding order_from
plain_refused c g word e ps =
    let words = filter_map plain_word ps in
    let n : Option Numbers = numbers_from c g ps in
    ap (λ s. made_of c n (say_all c s words)) e ∙ (ap (λ s. made_of c n s) (silent c words) ∙ nothing_said c n)

-- a further word that is taken
pub plain_taken : (c : Command) (g : Given) (word : List ℕ) (said : Said) → say (next_argument c g.said) g.said word ≡ Some said → (ps : List Part) → order_from c g (Plain word ∷ ps) ≡ order_from c (record g { said = said }) ps
unfolding order_from
plain_taken c g word said e ps = let n : Option Numbers = numbers_from c g ps in ap (λ s. made_of c n (say_all c s (filter_map plain_word ps))) e

-- what is given lies in its range
pub opened : (o : Option ℕ) (r : Option Range) (range : Range) → open_by o r ≡ Some range → r ≡ Some range
opened None r range e = e
opened (Some n) r range e = cc

own_given : (r : Option Range) (range : Range) (n : ℕ) → r ≡ Some range → (range.least ≤ n) × (n ≤ range.most) → IsGivenIn r (Some n)
own_given r range n e h = rw e h

given_in : (c : Command) (g : Given) (s t : Setting) (r : Range) (n : ℕ) → Fits c g → range c s ≡ Some r → (r.least ≤ n) × (n ≤ r.most) → IsGivenIn (range c t) (value_in t (put s n g))
given_in c g Budget Budget r n fits e h = own_given (range c Budget) r n e h
given_in c g Workers Workers r n fits e h = own_given (range c Workers) r n e h
given_in c g Depth Depth r n fits e h = own_given (range c Depth) r n e h
given_in c g Entries Entries r n fits e h = own_given (range c Entries) r n e h
given_in c g Certs Certs r n fits e h = own_given (range c Certs) r n e h
given_in c g Json Json r n fits e h = own_given (range c Json) r n e h
given_in c g San San r n fits e h = own_given (range c San) r n e h
given_in c g Fens Fens r n fits e h = own_given (range c Fens) r n e h
given_in c g FlaggedDraws FlaggedDraws r n fits e h = own_given (range c FlaggedDraws) r n e h
given_in c g Changed Changed r n fits e h = own_given (range c Changed) r n e h
given_in c g s t r n fits e h = fits.settings t

put_said : (s : Setting) (n : ℕ) (g : Given) → g.said ≡ (put s n g).said
put_said Budget n g = refl
put_said Workers n g = refl
put_said Depth n g = refl
put_said Entries n g = refl
put_said Certs n g = refl
put_said Json n g = refl
put_said San n g = refl
put_said Fens n g = refl
put_said FlaggedDraws n g = refl
put_said Changed n g = refl

pub put_fits : (c : Command) (g : Given) (s : Setting) (r : Range) (v : List ℕ) (n : ℕ) → Fits c g → open_in c g s ≡ Some r → number r.least r.most v ≡ Some n → Fits c (put s n g)
put_fits c g s r v n fits e h = record {
  settings = λ t. given_in c g s t r n fits (opened (value_in s g) (range c s) r e) (number_in_range r.least r.most v n h);
  said = subst (λ said. IsSaid c said) (put_said s n g) fits.said;
}

-- what further words say can be said
seed_said : (o : Option ℕ) (t : Said) → option_map Seeded o ≡ Some t → IsSaid Gen t
seed_said None t e = cc
seed_said (Some n) t e = let is : Seeded n ≡ t = cc in subst (λ said. IsSaid Gen said) is tt

count_said : (seed : ℕ) (word : List ℕ) (o : Option ℕ) (t : Said) → number 1 1000 word ≡ o → option_map (Games seed) o ≡ Some t → IsSaid Gen t
count_said seed word None t r e = cc
count_said seed word (Some n) t r e = let is : Games seed n ≡ t = cc in subst (λ said. IsSaid Gen said) is (number_in_range 1 1000 word n r)

side_said : (o : Option Color) (t : Said) → option_map Sided o ≡ Some t → IsSaid Mates t
side_said None t e = cc
side_said (Some side) t e = let is : Sided side ≡ t = cc in subst (λ said. IsSaid Mates said) is tt

pub can_be_said : (c : Command) (s : Said) (word : List ℕ) (t : Said) → say (next_argument c s) s word ≡ Some t → IsSaid c t
can_be_said Gen Nothing word t e = seed_said (number 0 18446744073709551615 word) t e
can_be_said Gen (Seeded seed) word t e = count_said seed word (number 1 1000 word) t refl e
can_be_said Mates Nothing word t e = side_said (side_named word) t e
can_be_said c s word t e = cc

pub said_fits : (c : Command) (g : Given) (word : List ℕ) (said : Said) → Fits c g → say (next_argument c g.said) g.said word ≡ Some said → Fits c (record g { said = said })
said_fits c g word said fits e = record { settings = λ t. same t; said = can_be_said c g.said word said e }
  where
    same : (t : Setting) → IsGivenIn (range c t) (value_in t (record g { said = said }))
    same Budget = fits.settings Budget
    same Workers = fits.settings Workers
    same Depth = fits.settings Depth
    same Entries = fits.settings Entries
    same Certs = fits.settings Certs
    same Json = fits.settings Json
    same San = fits.settings San
    same Fens = fits.settings Fens
    same FlaggedDraws = fits.settings FlaggedDraws
    same Changed = fits.settings Changed

-- the name of an option that takes a number
pub closed_words : (c : Command) (g : Given) (s : Setting) → open_in c g s ≡ None → (words : List (List ℕ)) → order_from c g (parts_awaiting (Some s) words) ≡ None
closed_words c g s e [] = rw (awaited_end s) (value_closed c g s [] e [])
closed_words c g s e (word ∷ words) = rw (awaited_part s word words) (value_closed c g s word e (parts_awaiting None words))

pub name_refused : (c : Command) (g : Given) (s : Setting) → is_flag s ≡ false → open_in c g s ≡ None → TakesName c g s None
unfolding TakesName
name_refused c g s f e = λ words. rw f (closed_words c g s e words)

pub name_taken : (c : Command) (g : Given) (s : Setting) (r : Range) → Fits c g → is_flag s ≡ false → open_in c g s ≡ Some r → TakesName c g s (Some (record { given = g; awaited = Some s }))
unfolding TakesName
name_taken c g s r fits f e = (record { fits = fits; awaits = rw e refl }, λ words. rw f refl)
