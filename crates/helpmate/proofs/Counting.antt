-- Lines of legal moves, as they are counted move by move.
use Rattle.std.proofs.Common.{◌≡◌, ℕ, zero, suc, ◌+◌, ◌-◌, ◌<◌, ◌≤◌, List, [], ◌∷◌, ◌++◌, map, length, get_or, take, inl, inr, sym, subst, arith}
use Rattle.std.specs.List.{Contains}
use Rattle.std.proofs.lemmas.List.{take_more, length-append, length-map}
use Rattle.std.proofs.lemmas.List.Elements.{Contains-append_cases, Contains-append_left, Contains-push}
use Rattle.cha_board.specs.Board.{Board}
use Rattle.cha_moves.specs.Step.{Move}
use Rattle.cha_moves.specs.Moves.{after, legal}
use Rattle.cha_moves.proofs.Contained.{not_in_nothing, Contains-cons_cases, Contains-map_parts}
use Rattle.cha_list.specs.Distinct.{AreDistinct}
use Rattle.cha_list.proofs.Distinct.{none_apart, one_more_apart}
use Rattle.cha_moves.specs.Lines.{IsLegalLine, HasLines}
use Rattle.helpmate.specs.Counted.{CountsPositions}
use Rattle.cha_moves.proofs.Apart.{joined_apart, images_apart}
use Rattle.cha_moves.proofs.LegalApart.{legal_apart}

-- a line of at most d legal moves that begins with one of these moves
abbrev pub Begins : Board → ℕ → List Move → List Move → Type 0
Begins q d ms [] = ⊥
Begins q d ms (m ∷ rest) = Contains ms m × Contains (legal q) m × IsLegalLine (after q m) rest × (length rest < d)

-- there are n distinct lines of at most d legal moves that begin with one of these moves
unfoldable pub HasLinesFrom : Board → ℕ → List Move → ℕ → Type 0
HasLinesFrom q d ms n =
    (lines : List (List Move)) × (length lines ≡ n) × AreDistinct lines × ((line : List Move) → Contains lines line → Begins q d ms line)

-- where there is nothing to search, nothing was expanded
pub no_positions : (q : Board) (d n : ℕ) → n ≡ 0 → CountsPositions q d n
unfolding HasLines
no_positions q zero n none = none
no_positions q (suc d) n none = ([], sym none, none_apart (List Move), (λ line there. absurd (not_in_nothing line there)))

pub from_no_move : (q : Board) (d n : ℕ) → n ≡ 0 → HasLinesFrom q d [] n
unfolding HasLinesFrom
from_no_move q d n none = ([], sym none, none_apart (List Move), (λ line there. absurd (not_in_nothing line there)))

-- such a line is one of legal moves
with_moves : (q : Board) (e d : ℕ) (ms : List Move) → e ≡ d → (line : List Move) → Begins q e ms line → IsLegalLine q line × (length line ≤ d)
unfolding IsLegalLine
with_moves q e d ms same [] h = absurd h
with_moves q e d ms same (m ∷ rest) h = ((h.1, h.2), (let few = h.3 in omega arith))

-- the empty line is one more than those that begin with moves
pub and_the_empty : (q : Board) (d n u : ℕ) (ms : List Move) → HasLinesFrom q (d - 1) ms n → 0 < d → u ≡ n + 1 → CountsPositions q d u
unfolding HasLinesFrom HasLines IsLegalLine
and_the_empty q zero n u ms h some one = absurd (omega arith)
and_the_empty q (suc d) n u ms h some one =
    let lines = h.0 in
    let size = h.1 in
    let apart = h.2 in
    let each = h.3 in
    let same : suc d - 1 ≡ d = omega arith in
    let longer : (line : List Move) → Begins q (suc d - 1) ms line → IsLegalLine q line × (length line ≤ d) = with_moves q (suc d - 1) d ms same in (
      [] ∷ lines,
      omega arith,
      one_more_apart [] lines (λ there. each [] there) apart,
      (λ line there. elim (Contains-cons_cases [] lines line there) [
        | inl e ↦ (let P : List Move → Type 0 = λ l. IsLegalLine q l × (length l ≤ d) in subst P e (tt, omega arith))
        | inr h ↦ longer line (each line h)
      ]),
    )

-- a line that begins with one of some moves begins with one of more
pub still_begins : (q : Board) (d : ℕ) (ms more : List Move) → ((m : Move) → Contains ms m → Contains more m) → (line : List Move) → Begins q d ms line → Begins q d more line
still_begins q d ms more all [] h = absurd h
still_begins q d ms more all (m ∷ rest) h = (all m h.0, h.1, h.2, h.3)

-- the move at a place is none of those before it
new_there : {X : Type 0} (xs : List X) (i : ℕ) (x : X) → AreDistinct xs → i < length xs → x ≡ get_or xs i x → Contains (take i xs) x → ⊥
unfolding AreDistinct
new_there [] i x d inside at there = absurd (omega arith)
new_there (y ∷ ys) zero x d inside at there = not_in_nothing x there
new_there {X = X} (y ∷ ys) (suc i) x d inside at there =
    let small : i < length ys = omega arith in
    let P : X → Type 0 = λ z. Contains ys z in
    elim (Contains-cons_cases y (take i ys) x there) [
      | inl e ↦ d.0 (subst P (sym e) (i, small, sym at))
      | inr later ↦ new_there ys i x d.1 small at later
    ]

-- a line of the position after a move, with the move in front, begins with the move
led_line : (q : Board) (d : ℕ) (m : Move) (ms : List Move) (line : List Move) → Contains ms m → Contains (legal q) m → IsLegalLine (after q m) line × (length line ≤ d) → Begins q (suc d) ms (m ∷ line)
led_line q d m ms line there legal h = (there, legal, h.0, (let few = h.1 in omega arith))

same_tail : (m : Move) (a b : List Move) → m ∷ a ≡ m ∷ b → a ≡ b
same_tail m a b e = cc

first_is : (q : Board) (d : ℕ) (ms : List Move) (m : Move) (line whole : List Move) → m ∷ line ≡ whole → Begins q d ms whole → Contains ms m
first_is q d ms m line whole e h = (let P : List Move → Type 0 = λ l. Begins q d ms l in (subst P (sym e) h).0)

-- the lines that begin with one more move: those of the position after it, with the move in front
pub from_one_more : (q : Board) (d n u v : ℕ) (ms : List Move) (i : ℕ) (m : Move) → HasLinesFrom q d (take i ms) n → CountsPositions (after q m) d u → i < length ms → m ≡ get_or ms i m → ms ≡ legal q → v ≡ n + u → HasLinesFrom q d (take (i + 1) ms) v
unfolding HasLinesFrom HasLines
from_one_more q zero n u v ms i m h positions inside at listed sum =
    let lines = h.0 in
    let size = h.1 in
    let apart = h.2 in
    let each = h.3 in
    let grown = take_more ms i m inside in
    let all : (x : Move) → Contains (take i ms) x → Contains (take (i + 1) ms) x = λ x there. rw grown (Contains-append_left (take i ms) (get_or ms i m ∷ []) x there) in
    let none : u ≡ 0 = positions in
    (lines, omega arith, apart, (λ line there. still_begins q 0 (take i ms) (take (i + 1) ms) all line (each line there)))
from_one_more q (suc d) n u v ms i m h k inside at listed sum =
    let lines = h.0 in
    let size = h.1 in
    let apart = h.2 in
    let each = h.3 in
    let below = k.0 in
    let many = k.1 in
    let differ = k.2 in
    let legal_lines = k.3 in
    let grown = take_more ms i m inside in
    let all : (x : Move) → Contains (take i ms) x → Contains (take (i + 1) ms) x = λ x there. rw grown (Contains-append_left (take i ms) (get_or ms i m ∷ []) x there) in
    let P : Move → Type 0 = λ x. Contains (take i ms ++ x ∷ []) m in
    let here : Contains (take (i + 1) ms) m = rw grown (subst P at (Contains-push (take i ms) m)) in
    let L : List Move → Type 0 = λ l. Contains l m in
    let allowed : Contains (legal q) m = subst L listed (i, inside, sym at) in
    let D : List Move → Type 0 = λ l. AreDistinct l in
    let new = new_there ms i m (subst D (sym listed) (legal_apart q)) inside at in
    let led : List Move → List Move = λ l. m ∷ l in
    let whole = length-append (map led below) lines in
    let ahead = length-map below led in (
      map led below ++ lines,
      omega arith,
      joined_apart (map led below) lines (images_apart led (λ a b e. same_tail m a b e) below differ) apart (λ line one two.
          let p = Contains-map_parts led below line one in
          new (first_is q (suc d) (take i ms) m p.0 line p.2 (each line two))),
      (λ line there. elim (Contains-append_cases (map led below) lines line there) [
        | inl h ↦
            (let p = Contains-map_parts led below line h in
            let B : List Move → Type 0 = λ l. Begins q (suc d) (take (i + 1) ms) l in
            subst B p.2 (led_line q d m (take (i + 1) ms) p.0 here allowed (legal_lines p.0 p.1)))
        | inr h ↦ still_begins q (suc d) (take i ms) (take (i + 1) ms) all line (each line h)
      ]),
    )

-- the same by what was left: before the loop `whole`, before this move `before`, and after it `now`
pub one_more_counted : (q r : Board) (d whole before now : ℕ) (ms : List Move) (i : ℕ) (m : Move) → HasLinesFrom q d (take i ms) (whole - 1 - before) → CountsPositions r d (before - now) → r ≡ after q m → i < length ms → m ≡ get_or ms i m → ms ≡ legal q
    → now ≤ before → before < whole → HasLinesFrom q d (take (i + 1) ms) (whole - 1 - now)
one_more_counted q r d whole before now ms i m h positions next inside at listed less fewer =
    let P : Board → Type 0 = λ b. CountsPositions b d (before - now) in
    from_one_more q d (whole - 1 - before) (before - now) (whole - 1 - now) ms i m h (subst P next positions) inside at listed (omega arith)

pub all_counted : (q : Board) (d whole now : ℕ) (ms : List Move) → HasLinesFrom q (d - 1) ms (whole - 1 - now) → 0 < d → now < whole → CountsPositions q d (whole - now)
all_counted q d whole now ms h some fewer = and_the_empty q d (whole - 1 - now) (whole - now) ms h some (omega arith)
