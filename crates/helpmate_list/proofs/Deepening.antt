-- The least number of plies, looked for from one on.
use Rattle.std.proofs.Common.{◌≡◌, ◌≢◌, ℕ, zero, suc, ◌+◌, ◌-◌, ◌<◌, ◌≤◌, ◌⊎◌, inl, inr, Bool, true, false, List, [], ◌∷◌, length, take, nat_lt, Contains, refl, sym, ◌∙◌, ap, subst, arith}
use Rattle.std.proofs.lemmas.Bool.{lt-ltb, ltb-true, ltb-false}
use Rattle.std.proofs.lemmas.List.{take_all, length-take-le, take-take}
use Rattle.cha_board.specs.declared.men.Color.{Color}
use Rattle.cha_board.specs.Men.{other_color, same_color}
use Rattle.cha_board.specs.Board.{Board}
use Rattle.cha_board.proofs.Identity.{same_color_equal, side_other}
use Rattle.cha_moves.specs.Step.{Move}
use Rattle.cha_moves.specs.Moves.{after}
use Rattle.cha_moves.specs.Ends.{IsMatingLine}
use Rattle.cha_moves.specs.MateLines.{mate_lines}
use Rattle.cha_moves.proofs.Contained.{not_in_nothing, Contains-cons_cases, Contains-cons_here, Contains-cons_there}
use Rattle.cha_moves.proofs.MateLines.{mating_line}
use Rattle.helpmate_list.specs.Shortest.{most_lines, HasNoMateBelow, found_or, shortest_from, shortest}
use Rattle.helpmate_list.proofs.ToMove.{mover_after}
use Rattle.helpmate_list.specs.declared.answers.Shortest.{Shortest}
use Rattle.helpmate_list.specs.declared.answers.Shortest.TheVariants.{NoneWithin, Found}
use Rattle.helpmate_list.proofs.Mating.{no_lines, none_within, none_below_more}

-- who is to move after a move and some more
mover_behind : (c : Color) (n : ℕ) → mover_after (other_color c) n ≡ mover_after c (suc n)
mover_behind c zero = refl
mover_behind c (suc n) = ap other_color (mover_behind c n)

-- after a mating line the loser is to move
mover_mated : (q : Board) (winner : Color) (ms : List Move) → IsMatingLine q winner ms → mover_after q.side (length ms) ≡ other_color winner
unfolding after
mover_mated q winner [] line = line.to_move
mover_mated q winner (m ∷ ms) line = sym (mover_behind q.side (length ms)) ∙ mover_mated (after q m) winner ms line.1

-- the numbers of moves after which the winner is to move
pub none_on_turn : (q : Board) (winner mover : Color) (n : ℕ) → mover ≡ mover_after q.side n → same_color mover winner ≡ true → mate_lines n q winner ≡ []
none_on_turn q winner mover n is turn =
    no_lines q winner n (λ ms size line.
    let T : ℕ → Type 0 = λ k. mover_after q.side k ≡ other_color winner in
    side_other winner (sym (same_color_equal mover winner turn) ∙ is ∙ subst T size (mover_mated q winner ms line)))

pub mover_next : (c mover next : Color) (n : ℕ) → mover ≡ mover_after c n → next ≡ other_color mover → next ≡ mover_after c (n + 1)
mover_next c mover next n is next_is = let e : n + 1 ≡ suc n = omega arith in next_is ∙ ap other_color is ∙ sym (ap (mover_after c) e)

-- where no list of n moves mates either
pub none_yet : (q : Board) (winner : Color) (n : ℕ) → HasNoMateBelow q winner n → mate_lines n q winner ≡ [] → HasNoMateBelow q winner (n + 1)
none_yet q winner n below none = none_below_more q winner n (none_within q winner n below none)

pub longer_first : (q : Board) (winner : Color) (d : ℕ) → shortest q winner d ≡ shortest_from (d + 1 - 0) 0 q winner
unfolding shortest
longer_first q winner d = let e : d + 1 ≡ d + 1 - 0 = omega arith in ap (λ k. shortest_from k 0 q winner) e

looked_at : (q : Board) (winner : Color) (k n : ℕ) → 0 < k → shortest_from k n q winner ≡ found_or n (mate_lines n q winner) (shortest_from (k - 1) (n + 1) q winner)
unfolding shortest_from
looked_at q winner zero n some = absurd (omega (arith, some))
looked_at q winner (suc k) n some = let e : k ≡ suc k - 1 = omega arith in ap (λ j. found_or n (mate_lines n q winner) (shortest_from j (n + 1) q winner)) e

none_found : (n : ℕ) (all : List (List Move)) (longer : Shortest) → all ≡ [] → found_or n all longer ≡ longer
unfolding found_or
none_found n [] longer none = refl
none_found n (line ∷ lines) longer none = absurd (cc)

pub longer_next : (q : Board) (winner : Color) (d n : ℕ) → shortest q winner d ≡ shortest_from (d + 1 - n) n q winner → n ≤ d → mate_lines n q winner ≡ [] → shortest q winner d ≡ shortest_from (d + 1 - (n + 1)) (n + 1) q winner
longer_next q winner d n is few none =
    let e : d + 1 - n - 1 ≡ d + 1 - (n + 1) = omega arith in
    is ∙ looked_at q winner (d + 1 - n) n (omega (arith, few)) ∙ none_found n (mate_lines n q winner) (shortest_from (d + 1 - n - 1) (n + 1) q winner) none ∙ ap (λ k. shortest_from k (n + 1) q winner) e

pub longer_found : (q : Board) (winner : Color) (d n : ℕ) (answer : Shortest) → shortest q winner d ≡ shortest_from (d + 1 - n) n q winner → n ≤ d → ((longer : Shortest) → answer ≡ found_or n (mate_lines n q winner) longer) → answer ≡ shortest q winner d
longer_found q winner d n answer is few found =
    found (shortest_from (d + 1 - n - 1) (n + 1) q winner) ∙ sym (is ∙ looked_at q winner (d + 1 - n) n (omega (arith, few)))

none_left : (q : Board) (winner : Color) (k n : ℕ) → k ≡ 0 → NoneWithin ≡ shortest_from k n q winner
unfolding shortest_from
none_left q winner zero n none = refl
none_left q winner (suc k) n none = absurd (omega (arith, none))

pub longer_none : (q : Board) (winner : Color) (d n : ℕ) → shortest q winner d ≡ shortest_from (d + 1 - n) n q winner → d < n → NoneWithin ≡ shortest q winner d
longer_none q winner d n is all = none_left q winner (d + 1 - n) n (omega (arith, all)) ∙ sym is

-- one more than an answer has tells whether there are more
tells_more : {X : Type 0} (n : ℕ) (all : List X) (b : Bool) → nat_lt n (length all) ≡ b → nat_lt n (length (take (suc n) all)) ≡ nat_lt n (length all)
tells_more n all true e =
    let less = ltb-true n (length all) e in
    let size : length (take (suc n) all) ≡ suc n = length-take-le (suc n) all (omega (arith, less)) in
    lt-ltb n (length (take (suc n) all)) (omega (arith, size)) ∙ sym e
tells_more n all false e = let few = ltb-false n (length all) e in ap (λ l. nat_lt n (length l)) (take_all (suc n) all (omega (arith, few)))

pub found_is : (n : ℕ) (kept lines all : List (List Move)) (more : Bool) (longer : Shortest) → kept ≢ [] → lines ≡ take most_lines kept → more ≡ nat_lt most_lines (length kept) → kept ≡ take (suc most_lines) all → Found n lines more ≡ found_or n all longer
unfolding found_or
found_is n kept lines [] more longer some lines_is more_is is = absurd (some is)
found_is n kept lines (line ∷ rest) more longer some lines_is more_is is =
    let all = line ∷ rest in
    let l : lines ≡ take most_lines all = lines_is ∙ ap (take most_lines) is ∙ take-take most_lines (suc most_lines) all (omega arith) in
    let m : more ≡ nat_lt most_lines (length all) = more_is ∙ ap (λ x. nat_lt most_lines (length x)) is ∙ tells_more most_lines all (nat_lt most_lines (length all)) refl in
    λ i. Found n (l i) (m i)

found_nothing : (n : ℕ) (all : List (List Move)) (longer : Shortest) → found_or n all longer ≡ NoneWithin → (all ≡ []) × (longer ≡ NoneWithin)
unfolding found_or
found_nothing n [] longer is = (refl, is)
found_nothing n (line ∷ lines) longer is = absurd (cc)

-- what an answer tells of the lines of its number of plies
pub record Tells (q : Board) (winner : Color) (n : ℕ) (lines : List (List Move)) (more : Bool) : Type 0 where
  pub none : HasNoMateBelow q winner n
  pub first : lines ≡ take most_lines (mate_lines n q winner)
  pub over : more ≡ nat_lt most_lines (length (mate_lines n q winner))

found_something : (q : Board) (winner : Color) (n m : ℕ) (all lines : List (List Move)) (more : Bool) (longer : Shortest) → HasNoMateBelow q winner n → mate_lines n q winner ≡ all → found_or n all longer ≡ Found m lines more
    → ((all ≡ []) × (longer ≡ Found m lines more)) ⊎ ((n ≡ m) × Tells q winner m lines more)
unfolding found_or
found_something q winner n m [] lines more longer none all_is is = inl (refl, is)
found_something q winner n m (line ∷ rest) lines more longer none all_is is =
    let number : n ≡ m = cc in
    let first : take most_lines (line ∷ rest) ≡ lines = cc in
    let past : nat_lt most_lines (length (line ∷ rest)) ≡ more = cc in
    let P : ℕ → Type 0 = λ k. Tells q winner k lines more in
    inr (
      number,
      subst P number (record {
        none = none;
        first = sym first ∙ ap (take most_lines) (sym all_is);
        over = sym past ∙ ap (λ l. nat_lt most_lines (length l)) (sym all_is);
      }),
    )

pub none_says : (k n : ℕ) (q : Board) (winner : Color) → HasNoMateBelow q winner n → shortest_from k n q winner ≡ NoneWithin → HasNoMateBelow q winner (n + k)
unfolding shortest_from
none_says zero n q winner none is = let B : ℕ → Type 0 = λ j. HasNoMateBelow q winner j in subst B (let e : n ≡ n + 0 = omega arith in e) none
none_says (suc k) n q winner none is =
    let B : ℕ → Type 0 = λ j. HasNoMateBelow q winner j in
    let parts = found_nothing n (mate_lines n q winner) (shortest_from k (n + 1) q winner) is in
    subst B (let e : n + 1 + k ≡ n + suc k = omega arith in e) (none_says k (n + 1) q winner (none_yet q winner n none parts.0) parts.1)

pub none_said : (k n : ℕ) (q : Board) (winner : Color) → HasNoMateBelow q winner (n + k) → shortest_from k n q winner ≡ NoneWithin
unfolding shortest_from HasNoMateBelow
none_said zero n q winner none = refl
none_said (suc k) n q winner none =
    let B : ℕ → Type 0 = λ j. HasNoMateBelow q winner j in
    none_found n (mate_lines n q winner) (shortest_from k (n + 1) q winner) (no_lines q winner n (λ ms size line. none ms (omega (arith, size)) line))
    ∙ none_said k (n + 1) q winner (subst B (let e : n + suc k ≡ n + 1 + k = omega arith in e) none)

pub found_says : (k n : ℕ) (q : Board) (winner : Color) (m : ℕ) (lines : List (List Move)) (more : Bool) → HasNoMateBelow q winner n → shortest_from k n q winner ≡ Found m lines more → (m < n + k) × Tells q winner m lines more
unfolding shortest_from
found_says zero n q winner m lines more none is = absurd (cc)
found_says (suc k) n q winner m lines more none is =
    elim (found_something q winner n m (mate_lines n q winner) lines more (shortest_from k (n + 1) q winner) none refl is) [
      | inl later ↦ (let rest = found_says k (n + 1) q winner m lines more (none_yet q winner n none later.0) later.1 in let less = rest.0 in (omega arith, rest.1))
      | inr here ↦ (let number = here.0 in (omega arith, here.1))
    ]

among_first : {X : Type 0} (n : ℕ) (xs : List X) (x : X) → Contains (take n xs) x → Contains xs x
among_first zero xs x there = absurd (not_in_nothing x there)
among_first (suc n) [] x there = there
among_first (suc n) (y ∷ ys) x there = elim (Contains-cons_cases y (take n ys) x there) [
  | inl e ↦ Contains-cons_here y ys x e
  | inr h ↦ Contains-cons_there y ys x (among_first n ys x h)
]

pub all_mate : (q : Board) (winner : Color) (n : ℕ) (lines : List (List Move)) (more : Bool) → Tells q winner n lines more → (ms : List Move) → Contains lines ms → IsMatingLine q winner ms × (length ms ≡ n)
all_mate q winner n lines more tells ms there =
    let C : List (List Move) → Type 0 = λ l. Contains l ms in
    mating_line n q winner ms (among_first most_lines (mate_lines n q winner) ms (subst C tells.first there))
