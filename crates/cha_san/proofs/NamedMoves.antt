-- The moves that words name, while they are listed.
use Rattle.std.proofs.Common.{◌≡◌, ℕ, ◌+◌, ◌<◌, ◌≤◌, List, [], ◌∷◌, ◌++◌, length, get_or, drop, Some, None, Result, Ok, Err, refl, sym, ◌∙◌, ap, append_assoc, append-nil}
use Rattle.std.proofs.lemmas.List.{drop_all}
use Rattle.cha_board.specs.Board.{Board}
use Rattle.cha_moves.specs.Step.{Move}
use Rattle.cha_moves.specs.Moves.{after}
use Rattle.cha_san.specs.declared.faults.SanFault.{SanFault}
use Rattle.cha_san.specs.Resolving.{resolved}
use Rattle.cha_san.specs.Playing.{named_onward, named_move, moves_named}
use Rattle.cha_san.proofs.Replayed.{next}

-- from a word on
from_word : (q : Board) (word : List ℕ) (words : List (List ℕ)) (i : ℕ) → i < length words → word ≡ get_or words i word
    → moves_named q (drop i words) ≡ named_onward q (resolved q word) (λ p. moves_named p (drop (i + 1) words))
unfolding moves_named
from_word q word words i inside is = ap (moves_named q) (next words i word inside is)

onward_some : (q : Board) (r : Result Move SanFault) (m : Move) (rest : Board → List Move) → Some m ≡ named_move r → named_onward q r rest ≡ m ∷ rest (after q m)
onward_some q (Ok n) m rest e = let same : m ≡ n = cc in rw same refl
onward_some q (Err fault) m rest e = absurd cc

onward_none : (q : Board) (r : Result Move SanFault) (rest : Board → List Move) → None ≡ named_move r → named_onward q r rest ≡ []
onward_none q (Ok n) rest e = absurd cc
onward_none q (Err fault) rest e = refl

-- a word that names a move
pub word_named : (q p : Board) (m : Move) (word : List ℕ) (words : List (List ℕ)) (i : ℕ) (moves more all : List Move) → i < length words → word ≡ get_or words i word
    → Some m ≡ named_move (resolved q word) → more ≡ moves ++ m ∷ [] → p ≡ after q m → moves ++ moves_named q (drop i words) ≡ all → more ++ moves_named p (drop (i + 1) words) ≡ all
word_named q p m word words i moves more all inside is named longer later h =
    let rest = λ (x : Board). moves_named x (drop (i + 1) words) in
    let a : more ++ moves_named p (drop (i + 1) words) ≡ (moves ++ m ∷ []) ++ rest (after q m) = ap (λ ms. ms ++ rest p) longer ∙ ap (λ x. (moves ++ m ∷ []) ++ rest x) later in
    let b : moves_named q (drop i words) ≡ m ∷ rest (after q m) = from_word q word words i inside is ∙ onward_some q (resolved q word) m rest named in
    a ∙ append_assoc moves (m ∷ []) (rest (after q m)) ∙ ap (λ ms. moves ++ ms) (sym b) ∙ h

-- a word that names none
pub word_names_none : (q : Board) (word : List ℕ) (words : List (List ℕ)) (i : ℕ) (moves all : List Move) → i < length words → word ≡ get_or words i word
    → None ≡ named_move (resolved q word) → moves ++ moves_named q (drop i words) ≡ all → moves ≡ all
word_names_none q word words i moves all inside is named h =
    let b : moves_named q (drop i words) ≡ [] = from_word q word words i inside is ∙ onward_none q (resolved q word) (λ p. moves_named p (drop (i + 1) words)) named in
    sym (append-nil moves) ∙ ap (λ ms. moves ++ ms) (sym b) ∙ h

-- the end of the words
pub words_named : (q : Board) (words : List (List ℕ)) (i : ℕ) (moves all : List Move) → length words ≤ i → moves ++ moves_named q (drop i words) ≡ all → moves ≡ all
unfolding moves_named
words_named q words i moves all past h = sym (append-nil moves) ∙ ap (λ ws. moves ++ moves_named q ws) (sym (drop_all i words past)) ∙ h
