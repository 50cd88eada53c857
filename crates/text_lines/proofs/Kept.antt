-- What a reader of lines keeps, from one step to the next.
use Rattle.std.proofs.Common.{◌≡◌, ℕ, suc, ◌+◌, ◌-◌, ◌<◌, ◌≤◌, Bool, true, false, if◌then◌else◌, List, [], ◌∷◌, ◌++◌, length, take, drop, Option, Some, None, IfSome, IfNone, is_some, Result, Ok, Err, OnOk, ◌↔◌, nat_lt, slice_get, refl, sym, ap, ◌∙◌, arith, length-append, length-take, length-drop, append_assoc, append-nil}
use Rattle.std.specs.List.{prefix_len}
use Rattle.std.proofs.lemmas.List.{take-append-drop, take_all, drop_all}
use Rattle.cha_list.specs.declared.classes.Class.TheVariants.{NotLineFeed}
use Rattle.cha_list.specs.Bytes.{in_class}
use Rattle.std.proofs.lemmas.Bool.Decides.{nat_tests}
use Rattle.cha_outside.specs.declared.gathering.ReadEnd.{ReadEnd}
use Rattle.cha_outside.specs.declared.gathering.ReadEnd.TheVariants.{TooLong}
use Rattle.text_lines.specs.declared.pieces.Filled.{Filled}
use Rattle.text_lines.specs.declared.lines.TextLine.{TextLine}
use Rattle.text_lines.specs.Lines.{lines, without_return, line_if, numbered, text_lines, settled_lines}
use Rattle.text_lines.specs.Reading.{TookNoMore, gives_line}
use Rattle.text_lines.specs.Holding.{IsHeld}
use Rattle.text_lines.proofs.Runs.{take_two, run_through}
use Rattle.text_lines.proofs.Given.{gone_line, last_numbered, gone_last, line_next, ended_next, first_given, settled_given, given_settled, none_gone}

-- what is kept before the first byte
pub none_held : (before piece : List ℕ) (used scanned taken : ℕ) → before ≡ [] → piece ≡ [] → used ≡ 0 → scanned ≡ 0 → taken ≡ 0 → IsHeld before piece used scanned 1 0 taken false false
none_held before piece used scanned taken a b c d e = rw (a, b, c, d, e) (record {
  gone = none_gone;
  used_inside = omega arith;
  scanned_inside = omega arith;
  no_feed = omega arith;
  all_used = λ f. cc;
  at_end = λ f. cc;
  taken_is = refl;
  few_bytes = omega arith;
})

pub none_waits : (before piece : List ℕ) → before ≡ [] → piece ≡ [] → (last : List ℕ) × TookNoMore (before ++ piece) last 0
none_waits before piece a b =
    let none : settled_lines [] ≤ 0 = settled_given [] [] 1 0 none_gone refl in
    rw (a, b) ([], ([], refl, omega arith, none))

-- how many lines a line is
count_if : (number : ℕ) (text : List ℕ) (found : Option TextLine) → IfSome found (λ line. line_if number text ≡ line ∷ []) → IfNone found (line_if number text ≡ []) → length (line_if number text) ≡ (if is_some found then 1 else 0)
count_if number text (Some line) some none = ap length some
count_if number text None some none = ap length none

-- What is kept, step by step.
module _ (before piece : List ℕ) (used scanned number given taken : ℕ) (ended finished : Bool) (h : IsHeld before piece used scanned number given taken ended finished) where
  abbrev rest : List ℕ
  rest = drop used piece

  whole : before ++ piece ≡ (before ++ take used piece) ++ rest
  whole = ap (λ xs. before ++ xs) (sym (take-append-drop used piece)) ∙ sym (append_assoc before (take used piece) rest)

  size_is : length rest ≡ length piece - used
  size_is = length-drop used piece

  none_at_end : finished ≡ true → rest ≡ []
  none_at_end e = drop_all used piece (omega (arith, h.all_used e))

  -- a line that a line feed ends
  module _ (end : ℕ) (feed : end ≡ used + prefix_len (in_class NotLineFeed) (drop used piece)) (inside : end < length piece) (line : List ℕ) (line_is : line ≡ without_return (take (end - used) (drop used piece)))
      (found : Option TextLine) (some : IfSome found (λ given. line_if number line ≡ given ∷ [])) (none : IfNone found (line_if number line ≡ [])) where
    not_finished : finished ≡ false
    not_finished = step finished refl
      where
        step : (f : Bool) → finished ≡ f → f ≡ false
        step true e = absurd (omega (arith, h.all_used e, feed, inside))
        step false e = refl

    run_is : end - used ≡ prefix_len (in_class NotLineFeed) rest
    run_is = omega (arith, feed)

    small : prefix_len (in_class NotLineFeed) rest < length rest
    small = omega (arith, size_is, feed, inside)

    line_of_run : line ≡ without_return (take (prefix_len (in_class NotLineFeed) rest) rest)
    line_of_run = line_is ∙ ap (λ n. without_return (take n rest)) run_is

    pub held_line : (more : ℕ) → more ≡ (if is_some found then 1 else 0) → IsHeld before piece (end + 1) (end + 1) (number + 1) (given + more) taken ended finished
    held_line more more_is =
        let front : before ++ take (end + 1) piece ≡ (before ++ take used piece) ++ take (suc (prefix_len (in_class NotLineFeed) rest)) rest =
        ap (λ xs. before ++ xs) (ap (λ n. take n piece) (omega (arith, feed)) ∙ take_two used (suc (prefix_len (in_class NotLineFeed) rest)) piece) ∙ sym (append_assoc before (take used piece) (take (suc (prefix_len (in_class NotLineFeed) rest)) rest)) in
        record {
          gone = rw (front, not_finished) (gone_line (before ++ take used piece) number given (rw not_finished at h.gone) rest small (given + more) (omega (arith, more_is, count_if number line found some none, ap (λ l. length (line_if number l)) line_of_run)));
          used_inside = omega arith;
          scanned_inside = omega (arith, inside);
          no_feed = omega arith;
          all_used = λ e. let no : true ≡ false = sym e ∙ not_finished in cc;
          at_end = h.at_end;
          taken_is = h.taken_is;
          few_bytes = h.few_bytes;
        }

    pub found_line : IfSome found (λ line. slice_get (text_lines (before ++ piece)) given ≡ Some line)
    found_line = step found some
      where
        step : (f : Option TextLine) → IfSome f (λ x. line_if number line ≡ x ∷ []) → IfSome f (λ x. slice_get (text_lines (before ++ piece)) given ≡ Some x)
        step None e = tt
        step (Some x) e =
            ap (λ bs. slice_get (text_lines bs) given) whole
            ∙ line_next (before ++ take used piece) rest number given finished h.gone none_at_end x _ (ended_next number rest small ∙ ap (λ xs. xs ++ numbered (number + 1) (lines (drop (prefix_len (in_class NotLineFeed) rest + 1) rest))) (ap (line_if number) (sym line_of_run) ∙ e))

    pub line_settled : IfSome found (λ line. given < settled_lines (before ++ piece))
    line_settled = step found some none
      where
        behind_it : before ++ piece ≡ ((before ++ take used piece) ++ take (suc (prefix_len (in_class NotLineFeed) rest)) rest) ++ drop (suc (prefix_len (in_class NotLineFeed) rest)) rest
        behind_it = whole ∙ ap (λ xs. (before ++ take used piece) ++ xs) (sym (take-append-drop (suc (prefix_len (in_class NotLineFeed) rest)) rest))
            ∙ sym (append_assoc (before ++ take used piece) (take (suc (prefix_len (in_class NotLineFeed) rest)) rest) (drop (suc (prefix_len (in_class NotLineFeed) rest)) rest))

        step : (f : Option TextLine) → IfSome f (λ x. line_if number line ≡ x ∷ []) → IfNone f (line_if number line ≡ []) → IfSome f (λ x. given < settled_lines (before ++ piece))
        step None e n = tt
        step (Some x) e n =
            let one : given + 1 ≡ given + length (line_if number (without_return (take (prefix_len (in_class NotLineFeed) rest) rest))) = omega (arith, ap length e, ap (λ l. length (line_if number l)) line_of_run) in
            let there = given_settled _ (drop (suc (prefix_len (in_class NotLineFeed) rest)) rest) _ _ (gone_line (before ++ take used piece) number given (rw not_finished at h.gone) rest small (given + 1) one) in
            omega (arith, there, ap settled_lines behind_it)

  -- the line that the end ends
  module _ (no_feed : used + prefix_len (in_class NotLineFeed) (drop used piece) ≡ length piece) (end : ℕ) (end_is : end ≡ length piece) (line : List ℕ) (line_is : line ≡ take (end - used) (drop used piece))
      (found : Option TextLine) (some : IfSome found (λ given. line_if number line ≡ given ∷ [])) (none : IfNone found (line_if number line ≡ [])) where
    all_run : prefix_len (in_class NotLineFeed) rest ≡ length rest
    all_run = omega (arith, size_is, no_feed)

    line_all : line ≡ rest
    line_all = line_is ∙ take_all (end - used) rest (omega (arith, size_is, end_is))

    pub held_last : (more : ℕ) → more ≡ (if is_some found then 1 else 0) → ended ≡ true → IsHeld before piece end end number (given + more) taken ended true
    held_last more more_is is_ended =
        let front : before ++ take end piece ≡ (before ++ take used piece) ++ rest = ap (λ xs. before ++ xs) (take_all end piece (omega (arith, end_is))) ∙ whole in
        record {
          gone = rw front (gone_last (before ++ take used piece) number given finished h.gone rest all_run none_at_end (given + more) (omega (arith, more_is, count_if number line found some none, ap (λ l. length (line_if number l)) line_all)));
          used_inside = omega arith;
          scanned_inside = omega (arith, end_is);
          no_feed = omega arith;
          all_used = λ e. end_is;
          at_end = λ e. is_ended;
          taken_is = h.taken_is;
          few_bytes = h.few_bytes;
        }

    pub found_last : IfSome found (λ line. slice_get (text_lines (before ++ piece)) given ≡ Some line)
    found_last = step found some
      where
        step : (f : Option TextLine) → IfSome f (λ x. line_if number line ≡ x ∷ []) → IfSome f (λ x. slice_get (text_lines (before ++ piece)) given ≡ Some x)
        step None e = tt
        step (Some x) e =
            ap (λ bs. slice_get (text_lines bs) given) whole
            ∙ line_next (before ++ take used piece) rest number given finished h.gone none_at_end x [] (last_numbered number rest all_run ∙ ap (line_if number) (sym line_all) ∙ e)

    pub none_last : is_some found ≡ false → length (text_lines (before ++ piece)) ≤ given
    none_last lacks =
        let nothing : line_if number rest ≡ [] = step found lacks none in
        let all : text_lines (before ++ piece) ≡ h.gone.done = ap text_lines whole ∙ h.gone.joins rest none_at_end ∙ ap (λ ls. h.gone.done ++ ls) (last_numbered number rest all_run ∙ nothing) ∙ append-nil h.gone.done in
        omega (arith, ap length all, h.gone.count)
      where
        step : (f : Option TextLine) → is_some f ≡ false → IfNone f (line_if number line ≡ []) → line_if number rest ≡ []
        step None e g = ap (line_if number) (sym line_all) ∙ g
        step (Some x) e g = cc

  -- where no line feed is left in what is kept, each line that one ended was given
  pub ended_given : used + prefix_len (in_class NotLineFeed) (drop used piece) ≡ length piece → ended ≡ false → settled_lines (before ++ piece) ≤ given
  ended_given no_feed going =
      rw whole (settled_given (before ++ take used piece) rest number given (rw (not_finished_yet finished refl) at h.gone) (omega (arith, size_is, no_feed)))
    where
      not_finished_yet : (f : Bool) → finished ≡ f → finished ≡ false
      not_finished_yet true e = let shut : true ≡ false = sym (h.at_end e) ∙ going in cc
      not_finished_yet false e = e

  -- more bytes behind those that are kept
  module _ (no_feed : used + prefix_len (in_class NotLineFeed) (drop used piece) ≡ length piece) (going : ended ≡ false) (more before' piece' : List ℕ) (scanned' taken' : ℕ) (before_is : before' ≡ before ++ take used piece) (piece_is : piece' ≡ drop used piece ++ more)
      (scanned_is : scanned' + used ≡ scanned) (taken_is : taken' + length (drop used piece) ≡ taken + length piece') where
    open_yet : finished ≡ false
    open_yet = step finished refl
      where
        step : (f : Bool) → finished ≡ f → f ≡ false
        step true e = let shut : true ≡ false = sym (h.at_end e) ∙ going in cc
        step false e = refl

    joined : before' ++ piece' ≡ (before ++ take used piece) ++ (rest ++ more)
    joined = ap (λ xs. xs ++ piece') before_is ∙ ap (λ xs. (before ++ take used piece) ++ xs) piece_is

    pub refilled_whole : before' ++ piece' ≡ (before ++ piece) ++ more
    refilled_whole = joined ∙ sym (append_assoc (before ++ take used piece) rest more) ∙ ap (λ xs. xs ++ more) (sym whole)

    pub refilled_held : taken' ≤ 268435456 → IsHeld before' piece' 0 scanned' number given taken' ended finished
    refilled_held few =
        let gone_is : before' ++ take 0 piece' ≡ before ++ take used piece = append-nil before' ∙ before_is in
        let sizes : length piece' ≡ length rest + length more = ap length piece_is ∙ length-append rest more in
        let run : length rest ≤ prefix_len (in_class NotLineFeed) piece' = omega (arith, run_through (in_class NotLineFeed) rest more (omega (arith, size_is, no_feed)), ap (prefix_len (in_class NotLineFeed)) piece_is) in
        record {
          gone = rw gone_is h.gone;
          used_inside = omega arith;
          scanned_inside = omega (arith, scanned_is, size_is, sizes, h.scanned_inside);
          no_feed = omega (arith, run, scanned_is, size_is, h.scanned_inside);
          all_used = λ e. let shut : true ≡ false = sym e ∙ open_yet in cc;
          at_end = h.at_end;
          taken_is = omega (arith, taken_is, h.taken_is, size_is, sizes, ap length before_is, length-append before (take used piece), length-take used piece, h.used_inside, h.scanned_inside);
          few_bytes = few;
        }

    pub refilled_first : take given (text_lines (before' ++ piece')) ≡ take given (text_lines (before ++ piece))
    refilled_first =
        let shut : (xs : List ℕ) → finished ≡ true → xs ≡ [] = λ xs e. let shut : true ≡ false = sym e ∙ open_yet in cc in
        ap (λ bs. take given (text_lines bs)) joined ∙ first_given (before ++ take used piece) (rest ++ more) number given finished h.gone (shut (rest ++ more))
        ∙ sym (ap (λ bs. take given (text_lines bs)) whole ∙ first_given (before ++ take used piece) rest number given finished h.gone (shut rest))

    pub refilled_waits : length more ≤ 65536 → (piece : List ℕ) × TookNoMore (before' ++ piece') piece given
    refilled_waits few =
        (more, (before ++ piece, refilled_whole, few, rw whole (settled_given (before ++ take used piece) rest number given (rw open_yet at h.gone) (omega (arith, size_is, no_feed)))))

    pub refilled_settled : piece' ≡ drop used piece → settled_lines (before' ++ piece') ≤ given
    refilled_settled same =
        let all : before' ++ piece' ≡ (before ++ take used piece) ++ rest = ap (λ xs. xs ++ piece') before_is ∙ ap (λ xs. (before ++ take used piece) ++ xs) same in
        rw all (settled_given (before ++ take used piece) rest number given (rw open_yet at h.gone) (omega (arith, size_is, no_feed)))

-- a reading that is not too long has taken no more than the most
not_more : (n k : ℕ) → (k < n → ⊥) → n ≤ k
not_more n k few = step (nat_lt k n) refl
  where
    step : (v : Bool) → nat_lt k n ≡ v → n ≤ k
    step true e = absurd (few (grind (arith, nat_tests, e)))
    step false e = grind (arith, nat_tests, e)

pub on_ok : (r : Result Filled ReadEnd) (taken : ℕ) (P : Type 0) → (r ≡ Err TooLong) ↔ (268435456 < taken) → (taken ≤ 268435456 → P) → OnOk r P
on_ok (Ok filled) taken P h held = held (not_more taken 268435456 (λ long. let e = h.1 long in cc))
on_ok (Err end) taken P h held = tt

-- a piece that was needed stays so, where as many lines were given or more
pub still_waits : {X : Type 0} {E : Type 0} (r : Result X E) (P : Type 0) (taken taken' : List ℕ) (given given' : ℕ) → OnOk r P → taken' ≡ taken → given ≤ given'
    → ((piece : List ℕ) × TookNoMore taken piece given) → OnOk r (P × ((piece : List ℕ) × TookNoMore taken' piece given'))
still_waits (Ok x) P taken taken' given given' held same more waits =
    (held, (waits.0, (waits.1.0, same ∙ waits.1.1, waits.1.2, omega (arith, waits.1.3, more))))
still_waits (Err e) P taken taken' given given' held same more waits = tt

-- what was taken stays, and no fewer lines are given
pub waits_on : (taken taken' : List ℕ) (given given' : ℕ) → (piece : List ℕ) × TookNoMore taken piece given → taken' ≡ taken → given ≤ given' → (piece : List ℕ) × TookNoMore taken' piece given'
waits_on taken taken' given given' w e p = (w.0, (w.1.0, e ∙ w.1.1, w.1.2, omega (arith, w.1.3, p)))

-- a call takes no line back
pub last_given : (r : Result (Option TextLine) ReadEnd) (given given' : ℕ) → given' ≡ (if gives_line r then given + 1 else given) → given ≤ given'
last_given (Ok (Some line)) given given' e = omega (arith, e)
last_given (Ok None) given given' e = omega (arith, e)
last_given (Err end) given given' e = omega (arith, e)

-- the first lines stay the first, from one reading to the next
pub first_on : (n n' : ℕ) (a b c d : List ℕ) → n ≡ n' → take n (text_lines a) ≡ take n (text_lines b) → b ≡ c → take n' (text_lines c) ≡ take n' (text_lines d) → take n' (text_lines a) ≡ take n' (text_lines d)
first_on n n' a b c d same now between before =
    ap (λ k. take k (text_lines a)) (sym same) ∙ now ∙ ap (λ k. take k (text_lines b)) same ∙ ap (λ bs. take n' (text_lines bs)) between ∙ before
