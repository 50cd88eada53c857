-- Lines that were given, and those that are left.
use Rattle.std.proofs.Common.{◌≡◌, ℕ, zero, suc, ◌+◌, ◌-◌, ◌<◌, ◌≤◌, Bool, true, false, if◌then◌else◌, List, [], ◌∷◌, ◌++◌, length, take, drop, Some, slice_get, refl, sym, ap, ◌∙◌, arith, length-append, length-take, append_assoc, append-nil, min}
use Rattle.std.specs.List.{prefix_len, list_all}
use Rattle.std.proofs.lemmas.List.{take-append-le}
use Rattle.std.proofs.Math.Seq.{drop-append_seam, take-append_seam}
use Rattle.cha_list.specs.declared.classes.Class.TheVariants.{NotLineFeed, Blank}
use Rattle.cha_list.specs.Bytes.{in_class}
use Rattle.text_lines.specs.declared.lines.TextLine.{TextLine}
use Rattle.text_lines.specs.Lines.{lines, without_return, counts, line_if, numbered, text_lines, ended_size, settled_lines}
use Rattle.text_lines.specs.Holding.{IsGone}
use Rattle.text_lines.proofs.LineEnds.{next_line_is, last_line}
use Rattle.text_lines.proofs.Runs.{take_none, front_run, feed_at, ended_feed, ended_still, take_two, ended_grown}

-- a line is one at most, and none of no byte
one_at_most : (number : ℕ) (text : List ℕ) → length (line_if number text) ≤ 1
unfolding line_if
one_at_most number text = step (counts text)
  where
    step : (v : Bool) → length {A = TextLine} (if v then record { number = number; text = take 4097 text } ∷ [] else []) ≤ 1
    step true = omega arith
    step false = omega arith

pub none_of_none : (number : ℕ) → line_if number [] ≡ []
unfolding line_if
none_of_none number = refl

few_of : (number : ℕ) (text : List ℕ) → length (line_if number text) ≤ length text
few_of number [] = rw (none_of_none number) (omega arith)
few_of number (b ∷ bs) = omega (arith, one_at_most number (b ∷ bs))

-- a line that is not blank, as it is kept
pub kept_line : (number : ℕ) (line : List ℕ) (size : ℕ) (text : List ℕ) → list_all (in_class Blank) line ≡ false → size ≡ min (length line) 4097 → text ≡ take size line
    → line_if number line ≡ record { number = number; text = text } ∷ []
unfolding line_if
kept_line number line size text other size_is text_is =
    let same : take 4097 line ≡ text = take_most line 4097 ∙ ap (λ n. take n line) (omega (arith, size_is)) ∙ sym text_is in
    rw (other, same) refl
  where
    take_most : (xs : List ℕ) (n : ℕ) → take n xs ≡ take (min n (length xs)) xs
    take_most [] n = take_none n ∙ sym (take_none (min n 0))
    take_most (x ∷ xs) zero = let few : min 0 (suc (length xs)) ≡ 0 = omega arith in rw few refl
    take_most (x ∷ xs) (suc n) = let more : min (suc n) (suc (length xs)) ≡ suc (min n (length xs)) = omega arith in rw more (ap (λ ys. x ∷ ys) (take_most xs n))

-- the first line of a text ends at its line feed, whatever follows
first_line : (rest later : List ℕ) → prefix_len (in_class NotLineFeed) rest < length rest
    → lines (take (suc (prefix_len (in_class NotLineFeed) rest)) rest ++ later) ≡ without_return (take (prefix_len (in_class NotLineFeed) rest) rest) ∷ lines later
first_line rest later small =
    let n = prefix_len (in_class NotLineFeed) rest in
    let front = take (suc n) rest in
    let size : length front ≡ suc n = omega (arith, length-take (suc n) rest, small) in
    let more : n + 1 ≡ length front = omega (arith, size) in
    let split = next_line_is (front ++ later) n (sym (front_run (in_class NotLineFeed) rest later small)) (omega (arith, length-append front later, size)) in
    let kept : take n (front ++ later) ≡ take n rest = take-append-le n front later (omega (arith, size)) ∙ ap (take n) (feed_at rest small) ∙ kept_front n rest small in
    split ∙ ap (λ xs. without_return xs ∷ lines (drop (n + 1) (front ++ later))) kept ∙ ap (λ ys. without_return (take n rest) ∷ lines ys) (ap (λ i. drop i (front ++ later)) more ∙ drop-append_seam front later)
  where
    kept_front : (n : ℕ) (rest : List ℕ) → n < length rest → take n (take n rest ++ 10 ∷ []) ≡ take n rest
    kept_front n rest h =
        let size : length (take n rest) ≡ n = omega (arith, length-take n rest, h) in
        ap (λ i. take i (take n rest ++ 10 ∷ [])) (sym size) ∙ take-append_seam (take n rest) (10 ∷ [])

-- a line that a line feed ends is gone
pub gone_line : (gone : List ℕ) (number given : ℕ) → IsGone gone number given false → (rest : List ℕ) → prefix_len (in_class NotLineFeed) rest < length rest → (given' : ℕ)
    → given' ≡ given + length (line_if number (without_return (take (prefix_len (in_class NotLineFeed) rest) rest)))
    → IsGone (gone ++ take (suc (prefix_len (in_class NotLineFeed) rest)) rest) (number + 1) given' false
unfolding numbered
gone_line gone number given h rest small given' given_is =
    let n = prefix_len (in_class NotLineFeed) rest in
    let line = without_return (take n rest) in
    let size : length (gone ++ take (suc n) rest) ≡ length gone + suc n = omega (arith, length-append gone (take (suc n) rest), length-take (suc n) rest, small) in
    record {
      done = h.done ++ line_if number line;
      count = length-append h.done (line_if number line) ∙ omega (arith, h.count, given_is);
      joins = λ later nothing.
          ap text_lines (append_assoc gone (take (suc n) rest) later) ∙ h.joins (take (suc n) rest ++ later) (λ e. cc)
          ∙ ap (λ ls. h.done ++ numbered number ls) (first_line rest later small) ∙ sym (append_assoc h.done (line_if number line) (numbered (number + 1) (lines later)));
      at_line = λ _. ap (λ xs. ended_size (gone ++ xs)) (feed_at rest small) ∙ ap ended_size (sym (append_assoc gone (take n rest) (10 ∷ []))) ∙ ended_feed (gone ++ take n rest)
          ∙ omega (arith, length-append gone (take n rest), length-take n rest, small, size);
      few = omega (arith, h.few, size);
      few_given = omega (arith, h.few_given, given_is, one_at_most number line, size);
    }

-- what no line feed ends is one line at most
pub last_numbered : (number : ℕ) (rest : List ℕ) → prefix_len (in_class NotLineFeed) rest ≡ length rest → numbered number (lines rest) ≡ line_if number rest
unfolding numbered lines
last_numbered number [] e = sym (none_of_none number)
last_numbered number (b ∷ bs) e = ap (numbered number) (last_line (b ∷ bs) (omega arith) e) ∙ append-nil (line_if number (b ∷ bs))

-- and is gone at the end
pub gone_last : (gone : List ℕ) (number given : ℕ) (finished : Bool) → IsGone gone number given finished → (rest : List ℕ) → prefix_len (in_class NotLineFeed) rest ≡ length rest → (finished ≡ true → rest ≡ []) → (given' : ℕ)
    → given' ≡ given + length (line_if number rest) → IsGone (gone ++ rest) number given' true
unfolding numbered lines
gone_last gone number given finished h rest none nothing given' given_is = record {
  done = h.done ++ line_if number rest;
  count = length-append h.done (line_if number rest) ∙ omega (arith, h.count, given_is);
  joins = λ later e.
      ap (λ xs. text_lines ((gone ++ rest) ++ xs)) (e refl) ∙ ap text_lines (append-nil (gone ++ rest)) ∙ h.joins rest nothing ∙ ap (λ ls. h.done ++ ls) (last_numbered number rest none)
      ∙ sym (ap (λ xs. (h.done ++ line_if number rest) ++ numbered number (lines xs)) (e refl) ∙ append-nil (h.done ++ line_if number rest));
  at_line = λ e. cc;
  few = omega (arith, h.few, length-append gone rest);
  few_given = omega (arith, h.few_given, given_is, few_of number rest, length-append gone rest);
}

-- an element behind others
behind : (xs : List TextLine) (y : TextLine) (ys : List TextLine) → slice_get (xs ++ y ∷ ys) (length xs) ≡ Some y
behind [] y ys = refl
behind (x ∷ xs) y ys = behind xs y ys

-- the line that comes next is the one behind those that were given
pub line_next : (gone rest : List ℕ) (number given : ℕ) (finished : Bool) (h : IsGone gone number given finished) → (finished ≡ true → rest ≡ []) → (line : TextLine) (later : List TextLine) → numbered number (lines rest) ≡ line ∷ later
    → slice_get (text_lines (gone ++ rest)) given ≡ Some line
line_next gone rest number given finished h nothing line later e =
    ap (λ ls. slice_get ls given) (h.joins rest nothing ∙ ap (λ ls. h.done ++ ls) e) ∙ ap (slice_get (h.done ++ line ∷ later)) (sym h.count) ∙ behind h.done line later

-- where a line feed ends it
pub ended_next : (number : ℕ) (rest : List ℕ) → prefix_len (in_class NotLineFeed) rest < length rest → numbered number (lines rest) ≡ line_if number (without_return (take (prefix_len (in_class NotLineFeed) rest) rest)) ++ numbered (number + 1) (lines (drop (prefix_len (in_class NotLineFeed) rest + 1) rest))
unfolding numbered
ended_next number rest small = ap (numbered number) (next_line_is rest (prefix_len (in_class NotLineFeed) rest) refl small)

-- those that were given come first, whatever follows
pub first_given : (gone rest : List ℕ) (number given : ℕ) (finished : Bool) (h : IsGone gone number given finished) → (finished ≡ true → rest ≡ []) → take given (text_lines (gone ++ rest)) ≡ h.done
first_given gone rest number given finished h nothing =
    ap (take given) (h.joins rest nothing) ∙ ap (λ n. take n (h.done ++ numbered number (lines rest))) (sym h.count) ∙ take-append_seam h.done (numbered number (lines rest))

-- no more lines are settled than were given, where no line feed follows
pub settled_given : (gone rest : List ℕ) (number given : ℕ) (h : IsGone gone number given false) → prefix_len (in_class NotLineFeed) rest ≡ length rest → settled_lines (gone ++ rest) ≤ given
unfolding numbered lines settled_lines
settled_given gone rest number given h none =
    let size : ended_size (gone ++ rest) ≡ length gone = ended_still gone rest none ∙ h.at_line refl in
    let front : take (ended_size (gone ++ rest)) (gone ++ rest) ≡ gone = ap (λ n. take n (gone ++ rest)) size ∙ take-append_seam gone rest in
    let all : text_lines (take (ended_size (gone ++ rest)) (gone ++ rest)) ≡ h.done = ap text_lines (front ∙ sym (append-nil gone)) ∙ h.joins [] (λ _. refl) ∙ append-nil h.done in
    omega (arith, ap length all, h.count)

-- each line that a line feed ended is settled, whatever follows
pub given_settled : (gone later : List ℕ) (number given : ℕ) (h : IsGone gone number given false) → given ≤ settled_lines (gone ++ later)
unfolding settled_lines
given_settled gone later number given h =
    let more : ℕ = ended_size (gone ++ later) - length gone in
    let size : ended_size (gone ++ later) ≡ length gone + more = omega (arith, ended_grown gone later, h.at_line refl) in
    let front : take (ended_size (gone ++ later)) (gone ++ later) ≡ gone ++ take more later =
    ap (λ n. take n (gone ++ later)) size ∙ take_two (length gone) more (gone ++ later) ∙ ap (λ xs. xs ++ take more (drop (length gone) (gone ++ later))) (take-append_seam gone later)
    ∙ ap (λ xs. gone ++ take more xs) (drop-append_seam gone later) in
    let all : text_lines (take (ended_size (gone ++ later)) (gone ++ later)) ≡ h.done ++ numbered number (lines (take more later)) = ap text_lines front ∙ h.joins (take more later) (λ e. cc) in
    omega (arith, ap length all, length-append h.done (numbered number (lines (take more later))), h.count)

-- before the first byte nothing is gone
pub none_gone : IsGone [] 1 0 false
unfolding text_lines ended_size
none_gone = record { done = []; count = refl; joins = λ later nothing. refl; at_line = λ _. refl; few = omega arith; few_given = omega arith }
