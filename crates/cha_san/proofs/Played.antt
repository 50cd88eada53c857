-- What is known of the positions of any game.
use Rattle.std.proofs.Common.{◌≡◌, ℕ, ◌+◌, ◌<◌, ◌≤◌, List, [], ◌∷◌, length, Some, Result, Ok, Err, IfOk, IfErr, ◌⊎◌, inl, inr, refl, sym, subst, arith, slice_get}
use Rattle.cha_board.specs.Board.{Board}
use Rattle.cha_moves.specs.Step.{Move}
use Rattle.cha_moves.specs.Moves.{after}
use Rattle.cha_san.specs.declared.faults.SanFault.{SanFault}
use Rattle.cha_san.specs.declared.faults.SanFault.TheVariants.{NoMemory}
use Rattle.cha_san.specs.declared.faults.PlayFault.{PlayFault}
use Rattle.cha_san.specs.Resolving.{resolved}
use Rattle.cha_san.specs.Playing.{onto, onward, positions_from, positions, LacksMemory}

onto_count : (q : Board) (r : Result (List Board) PlayFault) (n : ℕ) → IfOk r (λ qs. length qs ≡ n) → IfOk (onto q r) (λ qs. length qs ≡ n + 1)
onto_count q (Ok qs) n h = omega (arith, h)
onto_count q (Err fault) n h = tt

onward_count : (ply : ℕ) (q : Board) (r : Result Move SanFault) (rest : Board → Result (List Board) PlayFault) (n : ℕ) → ((p : Board) → IfOk (rest p) (λ qs. length qs ≡ n))
    → IfOk (onward ply q r rest) (λ qs. length qs ≡ n + 1)
onward_count ply q (Ok m) rest n h = onto_count q (rest (after q m)) n (h (after q m))
onward_count ply q (Err fault) rest n h = tt

-- there is one position more than there are words
pub count_from : (ply : ℕ) (q : Board) (words : List (List ℕ)) → IfOk (positions_from ply q words) (λ qs. length qs ≡ length words + 1)
unfolding positions_from
count_from ply q [] = refl
count_from ply q (word ∷ words) =
    let e : length words + 1 + 1 ≡ length (word ∷ words) + 1 = omega arith in
    subst (λ (n : ℕ). IfOk (onward ply q (resolved q word) (λ p. positions_from (ply + 1) p words)) (λ qs. length qs ≡ n)) e
    (onward_count ply q (resolved q word) (λ p. positions_from (ply + 1) p words) (length words + 1) (λ p. count_from (ply + 1) p words))

onto_start : (q : Board) (r : Result (List Board) PlayFault) → IfOk (onto q r) (λ qs. slice_get qs 0 ≡ Some q)
onto_start q (Ok qs) = refl
onto_start q (Err fault) = tt

onward_start : (ply : ℕ) (q : Board) (r : Result Move SanFault) (rest : Board → Result (List Board) PlayFault) → IfOk (onward ply q r rest) (λ qs. slice_get qs 0 ≡ Some q)
onward_start ply q (Ok m) rest = onto_start q (rest (after q m))
onward_start ply q (Err fault) rest = tt

-- the first position is the start
pub start_from : (ply : ℕ) (q : Board) (words : List (List ℕ)) → IfOk (positions_from ply q words) (λ qs. slice_get qs 0 ≡ Some q)
unfolding positions_from
start_from ply q [] = refl
start_from ply q (word ∷ words) = onward_start ply q (resolved q word) (λ p. positions_from (ply + 1) p words)

onto_number : (q : Board) (r : Result (List Board) PlayFault) (a b : ℕ) → IfErr r (λ f. (a + 1 ≤ f.ply) × (f.ply < b)) → IfErr (onto q r) (λ f. (a ≤ f.ply) × (f.ply < b))
onto_number q (Ok qs) a b h = tt
onto_number q (Err fault) a b h = (omega (arith, h.0), h.1)

onward_number : (ply : ℕ) (q : Board) (r : Result Move SanFault) (rest : Board → Result (List Board) PlayFault) (b : ℕ) → ply < b → ((p : Board) → IfErr (rest p) (λ f. (ply + 1 ≤ f.ply) × (f.ply < b)))
    → IfErr (onward ply q r rest) (λ f. (ply ≤ f.ply) × (f.ply < b))
onward_number ply q (Ok m) rest b few h = onto_number q (rest (after q m)) ply b (h (after q m))
onward_number ply q (Err fault) rest b few h = (omega arith, few)

-- the number of a word that names no move is that of some word
pub number_from : (ply : ℕ) (q : Board) (words : List (List ℕ)) → IfErr (positions_from ply q words) (λ f. (ply ≤ f.ply) × (f.ply < ply + length words))
unfolding positions_from
number_from ply q [] = tt
number_from ply q (word ∷ words) =
    let e : ply + 1 + length words ≡ ply + length (word ∷ words) = omega arith in
    let few : ply < ply + length (word ∷ words) = omega arith in
    onward_number ply q (resolved q word) (λ p. positions_from (ply + 1) p words) (ply + length (word ∷ words)) few
    (λ p. subst (λ (n : ℕ). IfErr (positions_from (ply + 1) p words) (λ f. (ply + 1 ≤ f.ply) × (f.ply < n))) e (number_from (ply + 1) p words))

pub played_count : (r : Result (List Board) PlayFault) (start : Board) (words : List (List ℕ)) → LacksMemory r ⊎ (r ≡ positions start words) → IfOk r (λ qs. length qs ≡ length words + 1)
played_count (Ok qs) start words (inl h) = absurd h
played_count (Ok qs) start words (inr e) = subst (λ (r : Result (List Board) PlayFault). IfOk r (λ xs. length xs ≡ length words + 1)) (sym e) (count_from 1 start words)
played_count (Err fault) start words h = tt

pub played_start : (r : Result (List Board) PlayFault) (start : Board) (words : List (List ℕ)) → LacksMemory r ⊎ (r ≡ positions start words) → IfOk r (λ qs. slice_get qs 0 ≡ Some start)
played_start (Ok qs) start words (inl h) = absurd h
played_start (Ok qs) start words (inr e) = subst (λ (r : Result (List Board) PlayFault). IfOk r (λ xs. slice_get xs 0 ≡ Some start)) (sym e) (start_from 1 start words)
played_start (Err fault) start words h = tt

pub played_number : (r : Result (List Board) PlayFault) (start : Board) (words : List (List ℕ)) → LacksMemory r ⊎ (r ≡ positions start words)
    → IfErr r (λ f. (f.fault ≡ NoMemory) ⊎ ((1 ≤ f.ply) × (f.ply ≤ length words)))
played_number (Ok qs) start words h = tt
played_number (Err fault) start words (inl h) = inl h
played_number (Err fault) start words (inr e) =
    let h = subst (λ (r : Result (List Board) PlayFault). IfErr r (λ f. (1 ≤ f.ply) × (f.ply < 1 + length words))) (sym e) (number_from 1 start words) in
    inr (h.0, omega (arith, h.1))
