-- The lists of moves that mate are exactly the mating lines.
use Rattle.std.proofs.Common.{◌≡◌, ◌↔◌, ℕ, zero, suc, Bool, true, false, if◌then◌else◌, List, [], ◌∷◌, length, map, Contains, inl, inr, sym, ap, subst, refl}
use Rattle.cha_board.specs.declared.men.Color.{Color}
use Rattle.cha_board.specs.Men.{other_color}
use Rattle.cha_board.specs.Board.{Board}
use Rattle.cha_moves.specs.Step.{Move}
use Rattle.cha_moves.specs.Moves.{after, legal}
use Rattle.cha_moves.specs.Ends.{IsMatingLine}
use Rattle.cha_moves.specs.MateLines.{is_mated, mate_lines}
use Rattle.cha_moves.proofs.Contained.{not_in_nothing, Contains-cons_cases, Contains-cons_here, Contains-map_from, Contains-map_parts, Contains-flat_map_from, Contains-flat_map_parts}
use Rattle.cha_moves.proofs.Mated.{mated_is, mated_itself}

-- the lists of no moves
no_move : (b : Bool) (ms : List Move) → Contains (if b then ([] ∷ []) else []) ms → (b ≡ true) × (ms ≡ [])
no_move true ms h =
    elim (Contains-cons_cases [] [] ms h) [ inl is ↦ (refl, sym is) | inr later ↦ absurd (not_in_nothing ms later) ]
no_move false ms h = absurd (not_in_nothing ms h)

the_empty : (b : Bool) → b ≡ true → Contains {X = List Move} (if b then ([] ∷ []) else []) []
the_empty true e = Contains-cons_here [] [] [] refl
the_empty false e = absurd (cc)

-- the lists that begin with a move
abbrev pub begun : Board → Color → ℕ → Move → List (List Move)
begun q winner n m = map (λ ms. m ∷ ms) (mate_lines n (after q m) winner)

-- the lists are mating lines of so many moves
pub mating_line : (n : ℕ) (q : Board) (winner : Color) (ms : List Move) → Contains (mate_lines n q winner) ms → IsMatingLine q winner ms × (length ms ≡ n)
unfolding mate_lines
mating_line zero q winner ms h =
    let parts = no_move (is_mated q (other_color winner)) ms h in
    let P : List Move → Type 0 = λ l. IsMatingLine q winner l × (length l ≡ 0) in
    subst P (sym parts.1) (mated_is q (other_color winner) parts.0, refl)
mating_line (suc n) q winner ms h =
    let piece = Contains-flat_map_parts (begun q winner n) (legal q) ms h in
    let line = Contains-map_parts (λ l. piece.0 ∷ l) (mate_lines n (after q piece.0) winner) ms piece.2 in
    let rest = mating_line n (after q piece.0) winner line.0 line.1 in
    let P : List Move → Type 0 = λ l. IsMatingLine q winner l × (length l ≡ suc n) in
    subst P line.2 ((piece.1, rest.0), ap suc rest.1)

-- each mating line is one of the lists
pub line_of_mate : (q : Board) (winner : Color) (ms : List Move) → IsMatingLine q winner ms → Contains (mate_lines (length ms) q winner) ms
unfolding mate_lines
line_of_mate q winner [] h = the_empty (is_mated q (other_color winner)) (mated_itself q (other_color winner) h)
line_of_mate q winner (m ∷ ms) h =
    Contains-flat_map_from (begun q winner (length ms)) (legal q) m (m ∷ ms) h.0
    (Contains-map_from (λ l. m ∷ l) (mate_lines (length ms) (after q m) winner) ms (line_of_mate (after q m) winner ms h.1))

pub mate_lines_are : (n : ℕ) (q : Board) (winner : Color) (ms : List Move) → Contains (mate_lines n q winner) ms ↔ (IsMatingLine q winner ms × (length ms ≡ n))
mate_lines_are n q winner ms =
    let P : ℕ → Type 0 = λ k. Contains (mate_lines k q winner) ms in
    (mating_line n q winner ms, (λ (line, size). subst P size (line_of_mate q winner ms line)))
