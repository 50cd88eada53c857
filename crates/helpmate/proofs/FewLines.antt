-- There are few legal lines of at most one move.
use Rattle.std.proofs.Common.{◌≡◌, ℕ, zero, suc, ◌≤◌, List, [], ◌∷◌, map, length, refl, arith}
use Rattle.std.specs.List.{Contains}
use Rattle.std.proofs.lemmas.List.{length-map}
use Rattle.cha_board.specs.Board.{Board}
use Rattle.cha_moves.specs.Step.{Move}
use Rattle.cha_moves.specs.Moves.{legal}
use Rattle.cha_moves.proofs.Contained.{Contains-cons_here, Contains-cons_there, Contains-map_from}
use Rattle.cha_moves.specs.Lines.{IsLegalLine, HasLines}
use Rattle.helpmate.specs.Counted.{CountsPositions}
use Rattle.cha_moves.proofs.Apart.{no_more_than}
use Rattle.cha_moves.proofs.LegalApart.{few_legal}

abbrev alone : Move → List Move
alone m = m ∷ []

short_line : (q : Board) (line : List Move) → IsLegalLine q line → length line ≤ 1 → Contains ([] ∷ map alone (legal q)) line
unfolding IsLegalLine
short_line q [] legal_line few = Contains-cons_here [] (map alone (legal q)) [] refl
short_line q (m ∷ []) legal_line few = Contains-cons_there [] (map alone (legal q)) (m ∷ []) (Contains-map_from alone (legal q) m legal_line.0)
short_line q (m ∷ k ∷ rest) legal_line few = absurd (omega arith)

pub few_lines : (q : Board) (d n : ℕ) → d ≤ 1 → HasLines q d n → n ≤ 20481
unfolding HasLines
few_lines q d n small h =
    let all = no_more_than h.0 ([] ∷ map alone (legal q)) h.2 (λ line there. let l = h.3 line there in short_line q line l.0 (let few = l.1 in omega arith)) in
    let size = length-map (legal q) alone in
    let most = few_legal q in
    let same = h.1 in
    omega arith

-- so few that an allowance as large as a u32 is not spent in two plies
pub few_positions : (q : Board) (d n : ℕ) → d ≤ 2 → CountsPositions q d n → n ≤ 20481
few_positions q zero n small h = (let none : n ≡ 0 = h in omega arith)
few_positions q (suc d) n small h = few_lines q d n (omega arith) h
