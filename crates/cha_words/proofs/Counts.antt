-- What is ordered lies in its ranges.
use Rattle.std.proofs.Common.{◌≡◌, ℕ, ◌≤◌, Bool, true, false, if◌then◌else◌, List, [], ◌∷◌, Option, Some, None, unwrap_or, filter_map, refl, ap, ◌∙◌, subst, arith}
use Rattle.cha_limits.specs.Bounds.{Bounds}
use Rattle.cha_board.specs.declared.men.Color.{Color}
use Rattle.report_style.specs.declared.styles.Style.{Style}
use Rattle.cha_words.specs.declared.orders.Order.TheVariants.{GenGames, ListMates}
use Rattle.cha_words.specs.declared.table.Command.{Command}
use Rattle.cha_words.specs.declared.table.Command.TheVariants.{Gen, Mates}
use Rattle.cha_words.specs.declared.table.Setting.{Setting}
use Rattle.cha_words.specs.declared.table.Setting.TheVariants.{Workers, Depth}
use Rattle.cha_words.specs.declared.chosen.Numbers.{Numbers}
use Rattle.cha_words.specs.declared.table.Range.{Range}
use Rattle.cha_words.specs.declared.given.Said.{Said}
use Rattle.cha_words.specs.declared.given.Said.TheVariants.{Nothing, Games, Sided}
use Rattle.cha_words.specs.Language.{Part, from_to, range, next_argument, say, say_all, parts, value_for, plain_word, chosen, has_all, numbers_by, all_of, numbers, made, made_of, command_named, order_by, order_behind, order_of}
use Rattle.cha_words.specs.Reading.{IsSaid}
use Rattle.cha_words.proofs.Digits.{number_in_range}
use Rattle.cha_words.proofs.Choosing.{absent, can_be_said}
use Rattle.cha_words.proofs.Ending.{of_some}

said_all : (c : Command) (words : List (List ℕ)) (o : Option Said) (t : Said) → ((s : Said) → o ≡ Some s → IsSaid c s) → say_all c o words ≡ Some t → IsSaid c t
said_all c [] None t h e = cc
said_all c [] (Some s) t h e = subst (λ u. IsSaid c u) (of_some s t e) (h s refl)
said_all c (word ∷ words) None t h e = cc
said_all c (word ∷ words) (Some s) t h e = said_all c words (say (next_argument c s) s word) t (λ u is. can_be_said c s word u is) e

-- games that are made are of the word gen
games_of : (c : Command) (n : Numbers) (s : Said) (b : Bounds) (seed count : ℕ) → made c n s ≡ Some (GenGames b seed count) → (c ≡ Gen) × (Some s ≡ Some (Games seed count))
games_of Gen n (Games s k) b seed count e = (refl, let one : s ≡ seed = cc in let two : k ≡ count = cc in rw (one, two) refl)
games_of c n Nothing b seed count e = cc
games_of c n s b seed count e = cc

made_games : (c : Command) (n : Option Numbers) (s : Option Said) (b : Bounds) (seed count : ℕ) → made_of c n s ≡ Some (GenGames b seed count) → (c ≡ Gen) × (s ≡ Some (Games seed count))
made_games c (Some n) (Some s) b seed count e = games_of c n s b seed count e
made_games c None s b seed count e = cc
made_games c (Some n) None b seed count e = cc

-- shortest mates are of the word mates, and have the numbers of its options
pub record OfMates (c : Command) (n : Option Numbers) (workers depth : ℕ) : Type 0 where
  pub mates : c ≡ Mates
  pub numbers : Numbers
  pub is : n ≡ Some numbers
  pub workers-is : numbers.workers ≡ workers
  pub depth-is : numbers.depth ≡ depth

mates_of : (c : Command) (n : Numbers) (s : Said) (side : Color) (w d : ℕ) (p : Style) → made c n s ≡ Some (ListMates side w d p) → OfMates c (Some n) w d
mates_of Mates n (Sided t) side w d p e = record { mates = refl; numbers = n; is = refl; workers-is = cc; depth-is = cc }
mates_of c n Nothing side w d p e = cc
mates_of c n s side w d p e = cc

made_mates : (c : Command) (n : Option Numbers) (s : Option Said) (side : Color) (w d : ℕ) (p : Style) → made_of c n s ≡ Some (ListMates side w d p) → OfMates c n w d
made_mates c (Some n) (Some s) side w d p e = mates_of c n s side w d p e
made_mates c None s side w d p e = cc
made_mates c (Some n) None side w d p e = cc

nothing_said : (c : Command) (s : Said) → Some Nothing ≡ Some s → IsSaid c s
nothing_said c s e = subst (λ t. IsSaid c t) (of_some Nothing s e) tt

games_by : (o : Option Command) (words : List (List ℕ)) (b : Bounds) (seed count : ℕ) → order_behind o words ≡ Some (GenGames b seed count) → (1 ≤ count) × (count ≤ 1000)
unfolding order_by
games_by None words b seed count e = cc
games_by (Some c) words b seed count e =
    let made = made_games c (numbers c (parts words)) (say_all c (Some Nothing) (filter_map plain_word (parts words))) b seed count e in
    let said = said_all c (filter_map plain_word (parts words)) (Some Nothing) (Games seed count) (λ s is. nothing_said c s is) made.1 in
    subst (λ d. IsSaid d (Games seed count)) made.0 said

-- the games that are ordered
pub counted : (words : List (List ℕ)) (b : Bounds) (seed count : ℕ) → order_of words ≡ Some (GenGames b seed count) → (1 ≤ count) × (count ≤ 1000)
unfolding order_of
counted [] b seed count e = cc
counted (word ∷ words) b seed count e = games_by (command_named word) words b seed count e

-- an option's number lies in its range where its usual one does
chosen_in : (r : Range) (values : List (List ℕ)) (n : ℕ) → r.least ≤ r.usual → r.usual ≤ r.most → chosen (Some r) values ≡ Some n → (r.least ≤ n) × (n ≤ r.most)
chosen_in r [] n low high e = (let same : r.usual ≡ n = cc in (omega (arith, same, low), omega (arith, same, high)))
chosen_in r (value ∷ []) n low high e = number_in_range r.least r.most value n e
chosen_in r (value ∷ more ∷ values) n low high e = cc

-- each option has a number where all are ordered
some_of : (b : Bool) (m n : Numbers) → (if b then Some m else None) ≡ Some n → m ≡ n
some_of true m n e = cc
some_of false m n e = cc

has_one : (f : Setting → Option ℕ) (s : Setting) (n : Numbers) (o : Option ℕ) → f s ≡ o → all_of f ≡ Some n → f s ≡ Some (unwrap_or (f s) 0)
has_one f s n (Some m) e all = rw e refl
has_one f s n None e all = let none = absent s f e in cc

mates_in : (n : Numbers) (cut : List Part) (w d : ℕ) → numbers Mates cut ≡ Some n → n.workers ≡ w → n.depth ≡ d → ((1 ≤ w) × (w ≤ 16)) × ((1 ≤ d) × (d ≤ 6))
mates_in n cut w d e hw hd =
    let f : Setting → Option ℕ = λ s. chosen (range Mates s) (filter_map (value_for s) cut) in
    let same = some_of (has_all f) (numbers_by (λ s. unwrap_or (f s) 0)) n e in
    let workers = chosen_in (from_to 1 16 2) (filter_map (value_for Workers) cut) (unwrap_or (f Workers) 0) (omega arith) (omega arith) (has_one f Workers n (f Workers) refl e) in
    let depth = chosen_in (from_to 1 6 4) (filter_map (value_for Depth) cut) (unwrap_or (f Depth) 0) (omega arith) (omega arith) (has_one f Depth n (f Depth) refl e) in
    let w_in : (1 ≤ w) × (w ≤ 16) = subst (λ k. (1 ≤ k) × (k ≤ 16)) (ap (λ (m : Numbers). m.workers) same ∙ hw) workers in
    let d_in : (1 ≤ d) × (d ≤ 6) = subst (λ k. (1 ≤ k) × (k ≤ 6)) (ap (λ (m : Numbers). m.depth) same ∙ hd) depth in
    (w_in, d_in)

mates_by : (o : Option Command) (words : List (List ℕ)) (side : Color) (w d : ℕ) (p : Style) → order_behind o words ≡ Some (ListMates side w d p) → ((1 ≤ w) × (w ≤ 16)) × ((1 ≤ d) × (d ≤ 6))
unfolding order_by
mates_by None words side w d p e = cc
mates_by (Some c) words side w d p e =
    let made = made_mates c (numbers c (parts words)) (say_all c (Some Nothing) (filter_map plain_word (parts words))) side w d p e in
    mates_in made.numbers (parts words) w d (subst (λ k. numbers k (parts words) ≡ Some made.numbers) made.mates made.is) made.workers-is made.depth-is

-- the shortest mates that are ordered
pub mates_counted : (words : List (List ℕ)) (side : Color) (w d : ℕ) (p : Style) → order_of words ≡ Some (ListMates side w d p) → ((1 ≤ w) × (w ≤ 16)) × ((1 ≤ d) × (d ≤ 6))
unfolding order_of
mates_counted [] side w d p e = cc
mates_counted (word ∷ words) side w d p e = mates_by (command_named word) words side w d p e
