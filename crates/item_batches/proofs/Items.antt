-- The items of games and of lines.
use Rattle.std.proofs.Common.{◌≡◌, ℕ, zero, suc, ◌+◌, ◌<◌, ◌≤◌, ◌==◌, Bool, true, false, ◌&&◌, if◌then◌else◌, List, [], ◌∷◌, length, map, take, Some, slice_get, sym, ap, ◌∙◌, arith, length-append}
use Rattle.std.proofs.lemmas.List.{take-map}
use Rattle.text_lines.specs.declared.lines.TextLine.{TextLine}
use Rattle.text_lines.specs.Lines.{lines, onto_first, begins_with_line_feed, counts, line_if, numbered, text_lines, settled_lines}
use Rattle.cha_outcome.specs.Items.{line_item}
use Rattle.text_lines.specs.Reading.{TookNoMore}
use Rattle.item_batches.specs.Items.{TookAsNeeded}

-- a text has at most as many lines as bytes
onto_first_few : (b : ℕ) (ls : List (List ℕ)) → length (onto_first b ls) ≤ length ls + 1
onto_first_few b [] = omega arith
onto_first_few b (first ∷ rest) = omega arith

line_few : (joined feed : Bool) (b : ℕ) (ls : List (List ℕ)) → length (if joined then ls else (if feed then [] ∷ ls else onto_first b ls)) ≤ length ls + 1
line_few true feed b ls = omega arith
line_few false true b ls = omega arith
line_few false false b ls = onto_first_few b ls

all_lines_few : (bytes : List ℕ) → length (lines bytes) ≤ length bytes
unfolding lines
all_lines_few [] = omega arith
all_lines_few (b ∷ bs) = omega (arith, line_few ((b == 13) && begins_with_line_feed bs) (b == 10) b (lines bs), all_lines_few bs)

one_at_most : (number : ℕ) (text : List ℕ) → length (line_if number text) ≤ 1
unfolding line_if
one_at_most number text = step (counts text)
  where
    step : (v : Bool) → length {A = TextLine} (if v then record { number = number; text = take 4097 text } ∷ [] else []) ≤ 1
    step true = omega arith
    step false = omega arith

numbered_few : (number : ℕ) (texts : List (List ℕ)) → length (numbered number texts) ≤ length texts
unfolding numbered
numbered_few number [] = omega arith
numbered_few number (text ∷ texts) = omega (arith, length-append (line_if number text) (numbered (number + 1) texts), one_at_most number text, numbered_few (number + 1) texts)

lines_few : (bytes : List ℕ) → length (text_lines bytes) ≤ length bytes
unfolding text_lines
lines_few bytes = omega (arith, numbered_few 1 (lines bytes), all_lines_few bytes)

-- a line that was given is one of the lines
pub line_given_few : (bytes : List ℕ) (n : ℕ) (line : TextLine) → slice_get (text_lines bytes) n ≡ Some line → n < length bytes
line_given_few bytes n line e = omega (arith, there (text_lines bytes) n line e, lines_few bytes)
  where
    there : (ls : List TextLine) (n : ℕ) (line : TextLine) → slice_get ls n ≡ Some line → n < length ls
    there [] n line e = cc
    there (l ∷ ls) zero line e = omega arith
    there (l ∷ ls) (suc n) line e = omega (arith, there ls n line e)

-- the item of the line at a place
pub line_at : (ls : List TextLine) (n : ℕ) (line : TextLine) → slice_get ls n ≡ Some line → slice_get (map (λ line. line_item line.number line.text) ls) n ≡ Some (line_item line.number line.text)
line_at [] n line e = cc
line_at (l ∷ ls) zero line e = let same : l ≡ line = cc in ap (λ x. Some (line_item x.number x.text)) same
line_at (l ∷ ls) (suc n) line e = line_at ls n line e

-- the first items are those of the first lines
pub lines_first : (n : ℕ) (now before : List ℕ) → take n (text_lines now) ≡ take n (text_lines before)
    → take n (map (λ line. line_item line.number line.text) (text_lines now)) ≡ take n (map (λ line. line_item line.number line.text) (text_lines before))
lines_first n now before same =
    take-map (λ line. line_item line.number line.text) n (text_lines now) ∙ ap (map (λ line. line_item line.number line.text)) same ∙ sym (take-map (λ line. line_item line.number line.text) n (text_lines before))

-- what is not more than most is at most that
pub not_more : (n most : ℕ) → (most < n → ⊥) → n ≤ most
not_more n most h = omega arith

-- a piece of lines is no larger than one of games
pub lines_took : (taken : List ℕ) (given : ℕ) → (piece : List ℕ) × TookNoMore taken piece given → TookAsNeeded settled_lines taken given
lines_took taken given took = (took.0, (took.1.0, took.1.1, omega (arith, took.1.2), took.1.3))
