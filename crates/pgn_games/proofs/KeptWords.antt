-- The words that are kept.
use Rattle.std.proofs.Common.{◌≡◌, ℕ, ◌<◌, ◌≤◌, ◌==◌, Bool, true, false, if◌then◌else◌, List, [], ◌∷◌, ◌++◌, Option, Some, None, is_some, Result, Ok, Err, OnOk, bytes_eq, length, take, refl, sym, ap, ◌∙◌, arith, length-append}
use Rattle.std.specs.Option.{option_or}
use Rattle.std.proofs.lemmas.List.{take_all, take-append-le}
use Rattle.std.proofs.lemmas.Bool.Decides.{nat_tests}
use Rattle.pgn_lex.specs.declared.kinds.Token.{Token}
use Rattle.pgn_lex.specs.declared.kinds.Token.TheVariants.{Tag, BadTag, Word, Star, Enter, Leave, Bad, Unclosed}
use Rattle.pgn_games.specs.declared.marks.ResultMark.{ResultMark}
use Rattle.pgn_games.specs.Cutting.{mark_of}
use Rattle.pgn_games.specs.Fields.{value_named, move_word}
use Rattle.pgn_games.specs.Summing.{word_outside, with_word}

pub none_kept : (words : List (List ℕ)) (o : Option (List ℕ)) → length words ≤ 12001 → o ≡ None → words ≡ take 12001 (with_word words o)
none_kept words o few e = rw e (sym (take_all 12001 words few))

pub inside : (depth : ℕ) (token : Token) → 0 < depth → word_outside depth token ≡ None
inside depth token deep =
    let no : (depth == 0) ≡ false = grind (arith, nat_tests) in
    rw no refl

by_mark : (depth : ℕ) (word : List ℕ) → move_word (Word word) ≡ None → word_outside depth (Word word) ≡ None
by_mark depth word e = by_depth (depth == 0)
  where
    by_depth : (top : Bool) → (if top then move_word (Word word) else None) ≡ None
    by_depth true = e
    by_depth false = refl

pub a_mark : (depth : ℕ) (word text : List ℕ) (mark : Option ResultMark) (b : Bool) → text ≡ word → mark ≡ mark_of (Word text) → b ≡ is_some mark → b ≡ true → word_outside depth (Word word) ≡ None
unfolding move_word
a_mark depth word text mark b e f g h =
    let some : is_some (mark_of (Word word)) ≡ true = ap (λ t. is_some (mark_of (Word t))) (sym e) ∙ ap is_some (sym f) ∙ sym g ∙ h in
    by_mark depth word (rw some refl)

pub none_more : (words : List (List ℕ)) (o : Option (List ℕ)) → length words ≡ 12001 → words ≡ take 12001 (with_word words o)
none_more words None full = sym (take_all 12001 words (omega arith))
none_more words (Some word) full = sym (take-append-le 12001 words (word ∷ []) (omega arith) ∙ take_all 12001 words (omega arith))

pub one_kept : (words words' : List (List ℕ)) (depth : ℕ) (word text : List ℕ) (mark : Option ResultMark) (b : Bool) → length words < 12001 → depth ≤ 0 → text ≡ word → mark ≡ mark_of (Word text) → b ≡ is_some mark → b ≡ false
    → words' ≡ words ++ word ∷ [] → words' ≡ take 12001 (with_word words (word_outside depth (Word word)))
unfolding move_word
one_kept words words' depth word text mark b few top e f g h pushed =
    let no : is_some (mark_of (Word word)) ≡ false = ap (λ t. is_some (mark_of (Word t))) (sym e) ∙ ap is_some (sym f) ∙ sym g ∙ h in
    let zero : (depth == 0) ≡ true = grind (arith, nat_tests) in
    let whole : take 12001 (words ++ word ∷ []) ≡ words ++ word ∷ [] = take_all 12001 (words ++ word ∷ []) (omega (arith, few, length-append words (word ∷ []))) in
    let is : Some word ≡ word_outside depth (Word word) = rw (zero, no) refl in
    pushed ∙ sym whole ∙ ap (λ o. take 12001 (with_word words o)) is

-- what has no text
outside_none : (depth : ℕ) (token : Token) → move_word token ≡ None → word_outside depth token ≡ None
outside_none depth token e = by_depth (depth == 0)
  where
    by_depth : (top : Bool) → (if top then move_word token else None) ≡ None
    by_depth true = e
    by_depth false = refl

no_more : (o : Option (List ℕ)) → o ≡ option_or o None
no_more None = refl
no_more (Some value) = refl

pub not_valued : (name : List ℕ) (o : Option (List ℕ)) (token : Token) (word : List ℕ) → token ≡ Word word → o ≡ option_or o (value_named name token)
unfolding value_named
not_valued name o token word e = rw e (no_more o)

pub on_ok : {A B : Type 0} (r : Result A B) (P : Type 0) → P → OnOk r P
on_ok (Ok x) P p = p
on_ok (Err x) P p = tt

pub tag_valued : (name : List ℕ) (o o' : Option (List ℕ)) (token : Token) (n text value : List ℕ) (cut : Bool) → token ≡ Tag n value cut → text ≡ n
    → o' ≡ option_or o (if bytes_eq text name then Some value else None) → o' ≡ option_or o (value_named name token)
unfolding value_named
tag_valued name o o' token n text value cut e f g = rw (e, ← f) g

pub tag_wordless : (words : List (List ℕ)) (depth : ℕ) (token : Token) (n value : List ℕ) (cut : Bool) → length words ≤ 12001 → token ≡ Tag n value cut → words ≡ take 12001 (with_word words (word_outside depth token))
unfolding move_word
tag_wordless words depth token n value cut few e = none_kept words _ few (outside_none depth token (rw e refl))

-- neither a tag nor a word
speechless : (token : Token) → ((word : List ℕ) → token ≡ Word word → ⊥) → move_word token ≡ None
unfolding move_word
speechless (Tag n value cut) never = refl
speechless BadTag never = refl
speechless (Word word) never = absurd (never word refl)
speechless Star never = refl
speechless Enter never = refl
speechless Leave never = refl
speechless Bad never = refl
speechless Unclosed never = refl

nameless : (name : List ℕ) (token : Token) → ((n value : List ℕ) (cut : Bool) → token ≡ Tag n value cut → ⊥) → value_named name token ≡ None
unfolding value_named
nameless name (Tag n value cut) never = absurd (never n value cut refl)
nameless name BadTag never = refl
nameless name (Word word) never = refl
nameless name Star never = refl
nameless name Enter never = refl
nameless name Leave never = refl
nameless name Bad never = refl
nameless name Unclosed never = refl

pub wordless : (words : List (List ℕ)) (depth : ℕ) (token : Token) → length words ≤ 12001 → ((word : List ℕ) → token ≡ Word word → ⊥) → words ≡ take 12001 (with_word words (word_outside depth token))
wordless words depth token few never = none_kept words _ few (outside_none depth token (speechless token never))

pub valueless : (name : List ℕ) (o : Option (List ℕ)) (token : Token) → ((n value : List ℕ) (cut : Bool) → token ≡ Tag n value cut → ⊥) → o ≡ option_or o (value_named name token)
valueless name o token never = rw (nameless name token never) (no_more o)
