-- The count of lines, as it is summed up move by move.
use Rattle.std.proofs.Common.{◌≡◌, ℕ, suc, ◌+◌, ◌<◌, ◌≤◌, List, [], ◌∷◌, length, get_or, take, refl, sym, ◌∙◌, ap, arith}
use Rattle.std.specs.List.{sum_by, filter, flat_map}
use Rattle.std.proofs.lemmas.List.{take_all}
use Rattle.std.proofs.lemmas.List.Sums.{sum_by-cons, sum_by-append, sum_by_more, sum_by_more_le}
use Rattle.std.proofs.lemmas.List.Elements.{filter-append}
use Rattle.cha_board.specs.Board.{Board}
use Rattle.cha_moves.specs.Step.{Move}
use Rattle.cha_moves.specs.Moves.{after, legal, is_legal_in, moves_from, moves_between}
use Rattle.cha_moves.specs.Ways.{legal_between}
use Rattle.cha_moves.proofs.ByKind.{Adds}
use Rattle.cha_perft.specs.Counts.{lines_from, lines_with}

pub one_line : (d : ℕ) (q : Board) → d ≡ 0 → 1 ≡ lines_from d q
unfolding lines_from
one_line d q e = rw e refl

counted : (ms : List Move) → length ms ≡ sum_by (λ _. 1) ms
counted [] = refl
counted (m ∷ ms) = omega (arith, counted ms, sum_by-cons (λ (x : Move). 1) m ms)

-- the lines of one move are the legal moves
pub last_lines : (d : ℕ) (q : Board) (n : ℕ) → d ≡ 1 → n ≡ length (legal q) → n ≡ lines_from d q
unfolding lines_from
last_lines d q n one all = all ∙ rw one (counted (legal q))

pub lines_by_move : (d e : ℕ) (q : Board) → d ≡ e + 1 → lines_from d q ≡ lines_with e q (legal q)
unfolding lines_from lines_with
lines_by_move d e q same = (let f : d ≡ suc e = omega arith in rw f refl)

pub no_lines : (d : ℕ) (q : Board) → 0 ≡ lines_with d q []
unfolding lines_with
no_lines d q = refl

-- the lines that begin with one more move
pub more_lines : (e : ℕ) (q : Board) (ms : List Move) (i : ℕ) (m : Move) (old lines now : ℕ) → i < length ms → m ≡ get_or ms i m → old ≡ lines_with e q (take i ms) → lines ≡ lines_from e (after q m) → now ≡ old + lines
    → now ≡ lines_with e q (take (i + 1) ms)
unfolding lines_with
more_lines e q ms i m old lines now inside at before more sum =
    let step = sum_by_more (λ (x : Move). lines_from e (after q x)) ms i m inside in
    let here : lines ≡ lines_from e (after q (get_or ms i m)) = more ∙ ap (λ x. lines_from e (after q x)) at in
    let before' : old ≡ sum_by (λ (x : Move). lines_from e (after q x)) (take i ms) = before in
    sum ∙ ap (λ n. n + lines) before' ∙ ap (λ n. sum_by (λ (x : Move). lines_from e (after q x)) (take i ms) + n) here ∙ sym step

-- the lines that begin with all legal moves
pub all_lines : (d e : ℕ) (q : Board) (ms : List Move) (i total : ℕ) → d ≡ e + 1 → length ms ≤ i → ms ≡ legal q → total ≡ lines_with e q (take i ms) → total ≡ lines_from d q
all_lines d e q ms i total same end listed sum =
    sum ∙ ap (lines_with e q) (take_all i ms end) ∙ ap (lines_with e q) listed ∙ sym (lines_by_move d e q same)

-- the lines counted so far and those of the next move are among all
pub some_lines : (d e : ℕ) (q : Board) (ms : List Move) (i : ℕ) (m : Move) (old lines most : ℕ) → d ≡ e + 1 → i < length ms → ms ≡ legal q → m ≡ get_or ms i m → old ≡ lines_with e q (take i ms) → lines ≡ lines_from e (after q m)
    → most ≤ old + lines → most ≤ lines_from d q
unfolding lines_with
some_lines d e q ms i m old lines most same inside listed at before more many =
    let part = sum_by_more_le (λ (x : Move). lines_from e (after q x)) ms i m inside in
    let here : lines ≡ lines_from e (after q (get_or ms i m)) = more ∙ ap (λ x. lines_from e (after q x)) at in
    let before' : old ≡ sum_by (λ (x : Move). lines_from e (after q x)) (take i ms) = before in
    let whole : lines_from d q ≡ sum_by (λ (x : Move). lines_from e (after q x)) ms = lines_by_move d e q same ∙ ap (λ xs. sum_by (λ (x : Move). lines_from e (after q x)) xs) (sym listed) in
    omega (arith, part, here, before', whole, many)

-- the lines that begin with a move of one piece after the other
next_lines : (e : ℕ) (q : Board) (f : ℕ → List Move) (x : ℕ) (left rest : List ℕ) → left ≡ x ∷ rest
    → lines_with e q (filter (is_legal_in q) (flat_map f left)) ≡ lines_with e q (filter (is_legal_in q) (f x)) + lines_with e q (filter (is_legal_in q) (flat_map f rest))
unfolding lines_with
next_lines e q f x left rest next =
    ap (λ ys. sum_by (λ (m : Move). lines_from e (after q m)) (filter (is_legal_in q) (flat_map f ys))) next
    ∙ ap (λ ms. sum_by (λ (m : Move). lines_from e (after q m)) ms) (filter-append (is_legal_in q) (f x) (flat_map f rest))
    ∙ sum_by-append (λ (m : Move). lines_from e (after q m)) (filter (is_legal_in q) (f x)) (filter (is_legal_in q) (flat_map f rest))

-- the lines that are counted and those of the men that are left, from the next man on
pub man_counted : (e : ℕ) (q : Board) (s old now all : ℕ) (left rest : List ℕ) → old + lines_with e q (filter (is_legal_in q) (flat_map moves_from left)) ≡ all → left ≡ s ∷ rest
    → now ≡ old + lines_with e q (filter (is_legal_in q) (moves_from s)) → now + lines_with e q (filter (is_legal_in q) (flat_map moves_from rest)) ≡ all
man_counted e q s old now all left rest before next more = (let part = next_lines e q moves_from s left rest next in omega (arith, part, before, more))

pub man_beyond : (e : ℕ) (q : Board) (s old most all : ℕ) (left rest : List ℕ) → old + lines_with e q (filter (is_legal_in q) (flat_map moves_from left)) ≡ all → left ≡ s ∷ rest
    → most ≤ old + lines_with e q (filter (is_legal_in q) (moves_from s)) → most ≤ all
man_beyond e q s old most all left rest before next many = (let part = next_lines e q moves_from s left rest next in omega (arith, part, before, many))

next_way : (e : ℕ) (q : Board) (s t : ℕ) (left rest : List ℕ) → left ≡ t ∷ rest
    → lines_with e q (filter (is_legal_in q) (flat_map (moves_between s) left)) ≡ lines_with e q (legal_between q s t) + lines_with e q (filter (is_legal_in q) (flat_map (moves_between s) rest))
unfolding legal_between
next_way e q s t left rest next = next_lines e q (moves_between s) t left rest next

-- the same for the squares to which a man goes
pub way_counted : (e : ℕ) (q : Board) (s t old now all : ℕ) (left rest : List ℕ) → old + lines_with e q (filter (is_legal_in q) (flat_map (moves_between s) left)) ≡ all → left ≡ t ∷ rest
    → now ≡ old + lines_with e q (legal_between q s t) → now + lines_with e q (filter (is_legal_in q) (flat_map (moves_between s) rest)) ≡ all
way_counted e q s t old now all left rest before next more = (let part = next_way e q s t left rest next in omega (arith, part, before, more))

pub way_beyond : (e : ℕ) (q : Board) (s t old most all : ℕ) (left rest : List ℕ) → old + lines_with e q (filter (is_legal_in q) (flat_map (moves_between s) left)) ≡ all → left ≡ t ∷ rest
    → most ≤ old + lines_with e q (legal_between q s t) → most ≤ all
way_beyond e q s t old most all left rest before next many = (let part = next_way e q s t left rest next in omega (arith, part, before, many))

-- where nothing is left, all are counted
pub all_counted : (e : ℕ) (q : Board) (old all : ℕ) (f : ℕ → List Move) (left : List ℕ) → old + lines_with e q (filter (is_legal_in q) (flat_map f left)) ≡ all → left ≡ [] → old ≡ all
all_counted e q old all f left before none =
    let rest : lines_with e q (filter (is_legal_in q) (flat_map f left)) ≡ lines_with e q [] = ap (λ xs. lines_with e q (filter (is_legal_in q) (flat_map f xs))) none in
    let nothing = no_lines e q in
    omega (arith, rest, nothing, before)

pub one_move : (e : ℕ) (q : Board) (m : Move) → lines_from e (after q m) ≡ lines_with e q (m ∷ [])
unfolding lines_with
one_move e q m = (let first = sum_by-cons (λ (x : Move). lines_from e (after q x)) m [] in omega (arith, first))

pub four_moves : (e : ℕ) (q : Board) (a b c d : Move) → (lines_from e (after q a) + lines_from e (after q b)) + (lines_from e (after q c) + lines_from e (after q d)) ≡ lines_with e q (a ∷ b ∷ c ∷ d ∷ [])
unfolding lines_with
four_moves e q a b c d =
    let f : Move → ℕ = λ (x : Move). lines_from e (after q x) in
    let one = sum_by-cons f a (b ∷ c ∷ d ∷ []) in
    let two = sum_by-cons f b (c ∷ d ∷ []) in
    let three = sum_by-cons f c (d ∷ []) in
    let four = sum_by-cons f d [] in
    omega (arith, one, two, three, four)

-- lines add up over lists of first moves
pub lines_add : (e : ℕ) (q : Board) → Adds (λ ms. lines_with e q ms)
unfolding lines_with
lines_add e q = record { none = refl; both = λ a b. sum_by-append (λ (m : Move). lines_from e (after q m)) a b }
