-- Lines that mate, and how many moves they have.
use Rattle.std.proofs.Common.{◌≡◌, ℕ, zero, suc, ◌+◌, ◌-◌, ◌<◌, ◌≤◌, ◌⊎◌, Bool, true, false, if◌then◌else◌, ◌++◌, get_or, inl, inr, List, [], ◌∷◌, length, map, take, Contains, refl, sym, ◌∙◌, ap, subst, arith}
use Rattle.std.specs.List.{flat_map}
use Rattle.std.proofs.lemmas.List.{take_all}
use Rattle.std.proofs.lemmas.List.Elements.{Contains-get_or}
use Rattle.cha_board.specs.declared.men.Color.{Color}
use Rattle.cha_board.specs.Men.{other_color}
use Rattle.cha_board.specs.Board.{Board}
use Rattle.cha_moves.specs.Step.{Move}
use Rattle.cha_moves.specs.Moves.{after, legal}
use Rattle.cha_moves.specs.Ends.{IsMatingLine, HasNoMateWithin}
use Rattle.cha_moves.specs.MateLines.{is_mated, mate_lines}
use Rattle.cha_moves.proofs.Contained.{not_in_nothing, Contains-cons_here}
use Rattle.cha_moves.proofs.MateLines.{begun, mating_line, line_of_mate}
use Rattle.helpmate_list.specs.Shortest.{HasNoMateBelow}
use Rattle.helpmate_list.proofs.Taking.{join_one, join_all}

pub led_by_legal : (q : Board) (winner : Color) (p : ℕ) → 1 ≤ p → flat_map (begun q winner (p - 1)) (legal q) ≡ mate_lines p q winner
unfolding mate_lines
led_by_legal q winner zero some = absurd (omega (arith, some))
led_by_legal q winner (suc p) some = let e : suc p - 1 ≡ p = omega arith in ap (λ n. flat_map (begun q winner n) (legal q)) e

-- before the first ply there is no shorter line
pub none_below_zero : (q : Board) (winner : Color) → HasNoMateBelow q winner 0
unfolding HasNoMateBelow
none_below_zero q winner = λ ms less line. absurd (omega (arith, less))

-- where no list of fewer moves mates, none of fewer moves by one mates behind a legal move
pub none_below_after : (q next : Board) (winner : Color) (p : ℕ) (m : Move) → HasNoMateBelow q winner p → Contains (legal q) m → next ≡ after q m → 1 ≤ p → HasNoMateBelow next winner (p - 1)
unfolding HasNoMateBelow
none_below_after q next winner p m none there is some =
    let P : Board → Type 0 = λ b. HasNoMateBelow b winner (p - 1) in
    subst P (sym is) (λ ms less line. none (m ∷ ms) (omega (arith, less, some)) (there, line))

-- no line of so many moves mates
pub no_line : (q : Board) (winner : Color) (p : ℕ) → mate_lines p q winner ≡ [] → (ms : List Move) → length ms ≡ p → IsMatingLine q winner ms → ⊥
no_line q winner p none ms size line =
    let P : ℕ → Type 0 = λ n. Contains (mate_lines n q winner) ms in
    let C : List (List Move) → Type 0 = λ l. Contains l ms in
    not_in_nothing ms (subst C none (subst P size (line_of_mate q winner ms line)))

up_to : (k p : ℕ) → k ≤ p → (k < p) ⊎ (k ≡ p)
up_to zero zero few = inr refl
up_to zero (suc p) few = inl (omega arith)
up_to (suc k) zero few = absurd (omega (arith, few))
up_to (suc k) (suc p) few = elim (up_to k p (omega (arith, few))) [ inl less ↦ inl (omega (arith, less)) | inr same ↦ inr (ap suc same) ]

pub none_within : (q : Board) (winner : Color) (p : ℕ) → HasNoMateBelow q winner p → mate_lines p q winner ≡ [] → HasNoMateWithin q winner p
unfolding HasNoMateBelow
none_within q winner p below none = λ ms few line. elim (up_to (length ms) p few) [ inl less ↦ below ms less line | inr same ↦ no_line q winner p none ms same line ]

pub none_below_more : (q : Board) (winner : Color) (p : ℕ) → HasNoMateWithin q winner p → HasNoMateBelow q winner (p + 1)
unfolding HasNoMateBelow
none_below_more q winner p none = λ ms less line. none ms (omega (arith, less)) line

-- of a list that has an element, the first one
is_nothing : {X : Type 0} (xs : List X) → ((x : X) → Contains xs x → ⊥) → xs ≡ []
is_nothing [] none = refl
is_nothing (x ∷ xs) none = absurd (none x (Contains-cons_here x xs x refl))

-- where no list of so many moves mates, there is no such line
pub no_lines : (q : Board) (winner : Color) (p : ℕ) → ((ms : List Move) → length ms ≡ p → IsMatingLine q winner ms → ⊥) → mate_lines p q winner ≡ []
no_lines q winner p none = is_nothing (mate_lines p q winner) (λ ms there. let line = mating_line p q winner ms there in none ms line.1 line.0)

take_nothing : {X : Type 0} (n : ℕ) (xs : List X) → xs ≡ [] → [] ≡ take n xs
take_nothing zero xs is = refl
take_nothing (suc n) [] is = refl
take_nothing (suc n) (x ∷ xs) is = absurd (cc)

pub none_first : (q : Board) (winner : Color) (p most : ℕ) → HasNoMateWithin q winner p → [] ≡ take most (mate_lines p q winner)
none_first q winner p most none = take_nothing most (mate_lines p q winner) (no_lines q winner p (λ ms same line. none ms (let e : length ms ≤ p = omega (arith, same) in e) line))

-- a list whose first elements are none has none
pub none_at_all : {X : Type 0} (most : ℕ) (kept all : List X) → kept ≡ take most all → 1 ≤ most → kept ≡ [] → all ≡ []
none_at_all most kept [] is some none = refl
none_at_all zero kept (x ∷ xs) is some none = absurd (omega (arith, some))
none_at_all (suc n) kept (x ∷ xs) is some none = let e = sym is ∙ none in absurd (cc)

-- the same behind the legal move with a number
pub none_below_at : (q next : Board) (winner : Color) (p i : ℕ) (m : Move) (ms : List Move) → HasNoMateBelow q winner p → ms ≡ legal q → i < length ms → m ≡ get_or ms i m → next ≡ after q m → 1 ≤ p → HasNoMateBelow next winner (p - 1)
none_below_at q next winner p i m ms none listed less here is some =
    let C : List Move → Type 0 = λ l. Contains l m in
    let M : Move → Type 0 = λ x. Contains ms x in
    none_below_after q next winner p m none (subst C listed (subst M (sym here) (Contains-get_or ms i m less))) is some

-- the first lines that begin with some of the moves, and with one more
pub led_more : (q next : Board) (winner : Color) (p most i : ℕ) (now new kept : List (List Move)) (ms : List Move) (m : Move) → now ≡ take most (flat_map (begun q winner p) (take i ms)) → kept ≡ take most (mate_lines p next winner) → next ≡ after q m
    → new ≡ take most (now ++ map (λ line. m ∷ line) kept) → i < length ms → m ≡ get_or ms i m → new ≡ take most (flat_map (begun q winner p) (take (i + 1) ms))
led_more q next winner p most i now new kept ms m is kept_is next_is new_is less here =
    join_one most most i now new (λ line. m ∷ line) kept (mate_lines p next winner) (begun q winner p) ms m is kept_is (let e : most ≤ most = omega arith in e) (ap (λ b. map (λ line. m ∷ line) (mate_lines p b winner)) (sym next_is)) new_is less here

-- the first lines that begin with all of the legal moves
pub led_all : (q : Board) (winner : Color) (p most i : ℕ) (now : List (List Move)) (ms : List Move) → now ≡ take most (flat_map (begun q winner (p - 1)) (take i ms)) → length ms ≤ i → ms ≡ legal q → 1 ≤ p → now ≡ take most (mate_lines p q winner)
led_all q winner p most i now ms is all listed some =
    join_all most i now (begun q winner (p - 1)) ms is all ∙ ap (λ l. take most (flat_map (begun q winner (p - 1)) l)) listed ∙ ap (take most) (led_by_legal q winner p some)

one_or_none : {X : Type 0} (b : Bool) (x : X) (most : ℕ) → 1 ≤ most → length (if b then (x ∷ []) else []) ≤ most
one_or_none true x most some = some
one_or_none false x most some = omega arith

at_most_one : (q : Board) (winner : Color) (most : ℕ) → 1 ≤ most → length (mate_lines 0 q winner) ≤ most
unfolding mate_lines
at_most_one q winner most some = one_or_none (is_mated q (other_color winner)) [] most some

-- the first lines of no plies
pub all_of_none : (q : Board) (winner : Color) (p most : ℕ) (lines : List (List Move)) → lines ≡ mate_lines 0 q winner → p ≡ 0 → 1 ≤ most → lines ≡ take most (mate_lines p q winner)
all_of_none q winner p most lines is none some =
    let few : length (mate_lines 0 q winner) ≤ most = at_most_one q winner most some in
    is ∙ sym (take_all most (mate_lines 0 q winner) few) ∙ ap (λ n. take most (mate_lines n q winner)) (sym none)

-- no move mates
not_by_one : (q : Board) (winner : Color) (ms : List Move) → ((m : Move) → IsMatingLine q winner (m ∷ []) → ⊥) → length ms ≡ 1 → IsMatingLine q winner ms → ⊥
not_by_one q winner [] none size line = absurd (omega (arith, size))
not_by_one q winner (m ∷ []) none size line = none m line
not_by_one q winner (m ∷ n ∷ ms) none size line = absurd (omega (arith, size))

pub none_by_move : (q : Board) (winner : Color) (p most : ℕ) (lines : List (List Move)) → lines ≡ [] → p ≡ 1 → ((m : Move) → IsMatingLine q winner (m ∷ []) → ⊥) → lines ≡ take most (mate_lines p q winner)
none_by_move q winner p most lines is one none =
    is ∙ take_nothing most (mate_lines p q winner) (no_lines q winner p (λ ms size line. not_by_one q winner ms none (size ∙ one) line))
