-- Words that can be continued to an order.
use Rattle.std.proofs.Common.{◌≡◌, ℕ, Bool, true, false, if◌then◌else◌, List, [], ◌∷◌, codes, Option, Some, None, IsSome, refl, ap, ◌∙◌, subst}
use Rattle.cha_words.specs.declared.orders.Order.{Order}
use Rattle.cha_words.specs.declared.orders.Order.TheVariants.{GenGames, ListMates}
use Rattle.cha_board.specs.declared.men.Color.TheVariants.{White}
use Rattle.cha_words.specs.declared.table.Command.{Command}
use Rattle.cha_words.specs.declared.table.Command.TheVariants.{Gen, Mates}
use Rattle.cha_words.specs.declared.chosen.Numbers.{Numbers}
use Rattle.cha_words.specs.declared.table.Setting.{Setting}
use Rattle.cha_words.specs.declared.table.Setting.TheVariants.{Budget, Workers, Depth, Entries, Certs, Json, San, Fens, FlaggedDraws, Changed}
use Rattle.cha_words.specs.declared.table.Range.{Range}
use Rattle.cha_words.specs.declared.given.Given.{Given}
use Rattle.cha_words.specs.declared.given.Said.{Said}
use Rattle.cha_words.specs.declared.given.Said.TheVariants.{Nothing, Seeded, Games, Sided}
use Rattle.cha_words.specs.declared.given.Progress.{Progress}
use Rattle.cha_words.specs.Language.{number, is_number, side_named, setting_named, part_of, piece, takes, numbers_for, range, say_all, bounds, style, made, made_of}
use Rattle.cha_words.specs.Language.Part.{Plain}
use Rattle.cha_words.specs.Reading.{value_in, put, open_in, numbers_from, order_from, order_with, parts_awaiting, IsSaid, Fits, AwaitsValue, Stands}
use Rattle.cha_words.proofs.Cutting.{awaited_part}
use Rattle.cha_words.proofs.Choosing.{value_taken, put_fits, opened}
use Rattle.cha_words.proofs.Ending.{whole, is_open, of_some}

-- three words that are no options
zero_part : parts_awaiting None (codes "0" ∷ codes "1" ∷ []) ≡ Plain (codes "0") ∷ Plain (codes "1") ∷ []
unfolding parts_awaiting piece part_of setting_named
zero_part = refl

one_part : parts_awaiting None (codes "1" ∷ []) ≡ Plain (codes "1") ∷ []
unfolding parts_awaiting piece part_of setting_named
one_part = refl

side_part : parts_awaiting None (codes "w" ∷ []) ≡ Plain (codes "w") ∷ []
unfolding parts_awaiting piece part_of setting_named
side_part = refl

none_part : parts_awaiting None [] ≡ []
unfolding parts_awaiting
none_part = refl

-- what they say
both_said : say_all Gen (Some Nothing) (codes "0" ∷ codes "1" ∷ []) ≡ Some (Games 0 1)
unfolding number is_number
both_said = refl

count_said : (seed : ℕ) → say_all Gen (Some (Seeded seed)) (codes "1" ∷ []) ≡ Some (Games seed 1)
unfolding number is_number
count_said seed = refl

side_said : say_all Mates (Some Nothing) (codes "w" ∷ []) ≡ Some (Sided White)
unfolding side_named
side_said = refl

-- an order of numbers and further words, where all words are known
two_more : (c : Command) (g : Given) (n : Option Numbers) (said : Option Said) (a b : List ℕ) → numbers_from c g [] ≡ n → say_all c (Some g.said) (a ∷ b ∷ []) ≡ said → order_from c g (Plain a ∷ Plain b ∷ []) ≡ made_of c n said
unfolding order_from
two_more c g n said a b e s = ap (λ n. made_of c n (say_all c (Some g.said) (a ∷ b ∷ []))) e ∙ ap (λ s. made_of c n s) s

one_more : (c : Command) (g : Given) (n : Option Numbers) (said : Option Said) (a : List ℕ) → numbers_from c g [] ≡ n → say_all c (Some g.said) (a ∷ []) ≡ said → order_from c g (Plain a ∷ []) ≡ made_of c n said
unfolding order_from
one_more c g n said a e s = ap (λ n. made_of c n (say_all c (Some g.said) (a ∷ []))) e ∙ ap (λ s. made_of c n s) s

no_more : (c : Command) (g : Given) (n : Option Numbers) → numbers_from c g [] ≡ n → order_from c g [] ≡ made_of c n (Some g.said)
unfolding order_from
no_more c g n e = ap (λ n. made_of c n (Some g.said)) e

-- some words make an order
abbrev pub CanGo : (List (List ℕ) → Option Order) → Type 0
CanGo orders = (more : List (List ℕ)) × (order : Order) × (orders more ≡ Some order)

ends : (c : Command) (g : Given) (n : Numbers) (said : Said) → numbers_from c g [] ≡ Some n → g.said ≡ said → IsSome (made c n said) → CanGo (λ more. order_from c g (parts_awaiting None more))
ends c g n said e s some = let o = is_open (made c n said) some in ([], o.0, rw none_part (no_more c g (Some n) e ∙ ap (λ t. made_of c (Some n) (Some t)) s ∙ o.1))

by_said : (c : Command) (g : Given) (n : Numbers) (said : Said) → numbers_from c g [] ≡ Some n → g.said ≡ said → IsSaid c said → CanGo (λ more. order_from c g (parts_awaiting None more))
by_said Gen g n Nothing e s h = (codes "0" ∷ codes "1" ∷ [], GenGames (bounds n) 0 1, rw zero_part (two_more Gen g (Some n) (Some (Games 0 1)) (codes "0") (codes "1") e (ap (λ t. say_all Gen (Some t) (codes "0" ∷ codes "1" ∷ [])) s ∙ both_said)))
by_said Gen g n (Seeded seed) e s h = (codes "1" ∷ [], GenGames (bounds n) seed 1, rw one_part (one_more Gen g (Some n) (Some (Games seed 1)) (codes "1") e (ap (λ t. say_all Gen (Some t) (codes "1" ∷ [])) s ∙ count_said seed)))
by_said Gen g n (Games seed count) e s h = ends Gen g n (Games seed count) e s refl
by_said Mates g n Nothing e s h = (codes "w" ∷ [], ListMates White n.workers n.depth (style n), rw side_part (one_more Mates g (Some n) (Some (Sided White)) (codes "w") e (ap (λ t. say_all Mates (Some t) (codes "w" ∷ [])) s ∙ side_said)))
by_said Mates g n (Sided side) e s h = ends Mates g n (Sided side) e s refl
by_said c g n Nothing e s h = ends c g n Nothing e s refl
by_said c g n said e s h = absurd h

pub given_goes : (c : Command) (g : Given) → Fits c g → CanGo (λ more. order_from c g (parts_awaiting None more))
given_goes c g fits = let n = whole c g in by_said c g n.0 g.said n.1 refl fits.said

-- a number that an option takes behind each command that takes it
abbrev pub some_number : Setting → List ℕ
some_number Certs = codes "1"
some_number Json = codes "1"
some_number San = codes "1"
some_number Fens = codes "1"
some_number FlaggedDraws = codes "1"
some_number Changed = codes "1"
some_number _ = codes "2"

in_range : (s : Setting) (c : Command) → (n : ℕ) × (number (numbers_for s c).least (numbers_for s c).most (some_number s) ≡ Some n)
unfolding number is_number
in_range Budget c = (2, refl)
in_range Workers Gen = (2, refl)
in_range Workers c = (2, refl)
in_range Depth Mates = (2, refl)
in_range Depth c = (2, refl)
in_range Entries c = (2, refl)
in_range Certs c = (1, refl)
in_range Json c = (1, refl)
in_range San c = (1, refl)
in_range Fens c = (1, refl)
in_range FlaggedDraws c = (1, refl)
in_range Changed c = (1, refl)

own_by : (b : Bool) (word : List ℕ) (own r : Range) → (if b then Some own else None) ≡ Some r → (n : ℕ) × (number own.least own.most word ≡ Some n) → (n : ℕ) × (number r.least r.most word ≡ Some n)
own_by true word own r e has = subst (λ (k : Range). (n : ℕ) × (number k.least k.most word ≡ Some n)) (of_some own r e) has
own_by false word own r e has = cc

pub has_own : (c : Command) (s : Setting) (r : Range) → range c s ≡ Some r → (n : ℕ) × (number r.least r.most (some_number s) ≡ Some n)
has_own c s r e = own_by (takes c s) (some_number s) (numbers_for s c) r e (in_range s c)

pub number_goes : (c : Command) (g : Given) (s : Setting) (r : Range) → Fits c g → open_in c g s ≡ Some r → CanGo (λ more. order_from c g (parts_awaiting (Some s) more))
number_goes c g s r fits e =
    let n = has_own c s r (opened (value_in s g) (range c s) r e) in
    let goes = given_goes c (put s n.0 g) (put_fits c g s r (some_number s) n.0 fits e n.1) in
    (some_number s ∷ goes.0, goes.1, rw (awaited_part s (some_number s) goes.0) (value_taken c g s r (some_number s) n.0 e n.1 (parts_awaiting None goes.0) ∙ goes.2))

awaited_goes : (c : Command) (g : Given) (o : Option Setting) → Fits c g → AwaitsValue c g o → CanGo (λ more. order_from c g (parts_awaiting o more))
awaited_goes c g None fits open_ = given_goes c g fits
awaited_goes c g (Some s) fits open_ = let r = is_open (open_in c g s) open_ in number_goes c g s r.0 fits r.1

-- words that stand can be continued
pub goes_on : (c : Command) (p : Progress) → Stands c p → CanGo (λ more. order_with c p more)
goes_on c p h = awaited_goes c p.given p.awaited h.fits h.awaits
