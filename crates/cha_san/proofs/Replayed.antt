-- The positions of a game, while they are listed.
use Rattle.std.proofs.Common.{◌≡◌, ℕ, suc, ◌+◌, ◌<◌, ◌≤◌, List, [], ◌∷◌, ◌++◌, length, get_or, drop, Result, Ok, Err, refl, sym, ◌∙◌, ap, append_assoc, arith}
use Rattle.std.proofs.lemmas.List.{drop_all}
use Rattle.std.proofs.Math.Seq.{drop-cons}
use Rattle.cha_board.specs.Board.{Board}
use Rattle.cha_moves.specs.Step.{Move}
use Rattle.cha_moves.specs.Moves.{after}
use Rattle.cha_san.specs.declared.faults.SanFault.{SanFault}
use Rattle.cha_san.specs.declared.faults.PlayFault.{PlayFault}
use Rattle.cha_san.specs.Resolving.{resolved}
use Rattle.cha_san.specs.Playing.{onto, onward, positions_from, FollowsBy}

pub next : {X : Type 0} (xs : List X) (i : ℕ) (x : X) → i < length xs → x ≡ get_or xs i x → drop i xs ≡ x ∷ drop (i + 1) xs
next xs i x inside is =
    let e : i + 1 ≡ suc i = omega arith in
    drop-cons xs i x inside ∙ ap (λ y. y ∷ drop (suc i) xs) (sym is) ∙ ap (λ n. x ∷ drop n xs) (sym e)

-- positions in front of those that follow, if these can be told
abbrev pub behind : List Board → Result (List Board) PlayFault → Result (List Board) PlayFault
behind done (Ok rest) = Ok (done ++ rest)
behind done (Err fault) = Err fault

behind_onto : (done : List Board) (q : Board) (rest : Result (List Board) PlayFault) → behind done (onto q rest) ≡ behind (done ++ q ∷ []) rest
behind_onto done q (Ok rest) = ap Ok (sym (append_assoc done (q ∷ []) rest))
behind_onto done q (Err fault) = refl

from_word : (ply : ℕ) (q : Board) (word : List ℕ) (words : List (List ℕ)) (i : ℕ) → i < length words → word ≡ get_or words i word
    → positions_from ply q (drop i words) ≡ onward ply q (resolved q word) (λ p. positions_from (ply + 1) p (drop (i + 1) words))
unfolding positions_from
from_word ply q word words i inside is = ap (positions_from ply q) (next words i word inside is)

-- a word that names a move
pub word_played : (ply now' : ℕ) (q p : Board) (word : List ℕ) (words : List (List ℕ)) (i : ℕ) (done more : List Board) (all : Result (List Board) PlayFault)
    → i < length words → word ≡ get_or words i word → FollowsBy q word p → more ≡ done ++ q ∷ [] → now' ≡ ply + 1
    → behind done (positions_from ply q (drop i words)) ≡ all → behind more (positions_from now' p (drop (i + 1) words)) ≡ all
word_played ply now' q p word words i done more all inside is follows longer later h =
    let rest = λ (x : Board). positions_from (ply + 1) x (drop (i + 1) words) in
    let a : behind more (positions_from now' p (drop (i + 1) words)) ≡ behind (done ++ q ∷ []) (rest (after q follows.0)) =
    ap (λ (xs : List Board). behind xs (positions_from now' p (drop (i + 1) words))) longer
    ∙ ap (λ (n : ℕ). behind (done ++ q ∷ []) (positions_from n p (drop (i + 1) words))) later
    ∙ ap (λ (x : Board). behind (done ++ q ∷ []) (rest x)) follows.2 in
    let b : behind (done ++ q ∷ []) (rest (after q follows.0)) ≡ behind done (onto q (rest (after q follows.0))) = sym (behind_onto done q (rest (after q follows.0))) in
    let c : behind done (onto q (rest (after q follows.0))) ≡ behind done (onward ply q (resolved q word) rest) = ap (λ (r : Result Move SanFault). behind done (onward ply q r rest)) (sym follows.1) in
    let d : behind done (onward ply q (resolved q word) rest) ≡ behind done (positions_from ply q (drop i words)) = ap (behind done) (sym (from_word ply q word words i inside is)) in
    a ∙ b ∙ c ∙ d ∙ h

-- a word that names none
pub word_fails : (ply : ℕ) (q : Board) (word : List ℕ) (words : List (List ℕ)) (i : ℕ) (done : List Board) (fault : PlayFault) (all : Result (List Board) PlayFault)
    → i < length words → word ≡ get_or words i word → resolved q word ≡ Err fault.fault → fault.ply ≡ ply
    → behind done (positions_from ply q (drop i words)) ≡ all → Err fault ≡ all
word_fails ply q word words i done fault all inside is refused number h =
    let rest = λ (x : Board). positions_from (ply + 1) x (drop (i + 1) words) in
    let a : behind done (positions_from ply q (drop i words)) ≡ behind done (onward ply q (resolved q word) rest) = ap (behind done) (from_word ply q word words i inside is) in
    let b : behind done (onward ply q (resolved q word) rest) ≡ Err (record { ply = ply; fault = fault.fault }) = ap (λ (r : Result Move SanFault). behind done (onward ply q r rest)) refused in
    let c : Err (record { ply = ply; fault = fault.fault }) ≡ Err fault = ap (λ (n : ℕ). Err (record { ply = n; fault = fault.fault })) (sym number) in
    sym (a ∙ b ∙ c) ∙ h

-- the end of the words
pub words_played : (ply : ℕ) (q : Board) (words : List (List ℕ)) (i : ℕ) (done more : List Board) (all : Result (List Board) PlayFault)
    → length words ≤ i → more ≡ done ++ q ∷ [] → behind done (positions_from ply q (drop i words)) ≡ all → Ok more ≡ all
unfolding positions_from
words_played ply q words i done more all past longer h =
    ap Ok longer ∙ ap (λ (ws : List (List ℕ)). behind done (positions_from ply q ws)) (sym (drop_all i words past)) ∙ h
