-- No two legal moves of a position are one, and there are at most 20,480 of them.
use Rattle.std.proofs.Common.{◌≡◌, ℕ, ◌*◌, ◌≤◌, List, [], ◌∷◌, length, Option, Some, None, refl, sym, ◌∙◌, arith}
use Rattle.std.specs.List.{Contains, flat_map}
use Rattle.std.proofs.lemmas.List.{length-append}
use Rattle.std.proofs.lemmas.List.Sums.{length-filter, count_by-le-length}
use Rattle.cha_board.specs.declared.men.Kind.{Kind}
use Rattle.cha_board.specs.declared.men.Kind.TheVariants.{Pawn, Knight, Bishop, Rook, Queen, King}
use Rattle.cha_board.specs.Board.{Board}
use Rattle.cha_board.specs.Squares.{squares}
use Rattle.cha_board.proofs.Scans.{length_squares}
use Rattle.cha_moves.specs.Step.{Move}
use Rattle.cha_moves.specs.Moves.{moves_between, moves_from, all_moves, is_legal_in, legal}
use Rattle.cha_moves.proofs.Contained.{Contains-flat_map_parts}
use Rattle.cha_list.specs.Distinct.{AreDistinct}
use Rattle.cha_moves.proofs.Listed.{between_are}
use Rattle.cha_moves.proofs.Apart.{apart_by_images, filtered_apart, pieces_apart, numbers_apart}

abbrev number_of : Option Kind → ℕ
number_of None = 0
number_of (Some Queen) = 1
number_of (Some Rook) = 2
number_of (Some Bishop) = 3
number_of (Some Knight) = 4
number_of (Some Pawn) = 5
number_of (Some King) = 6

between_apart : (s t : ℕ) → AreDistinct (moves_between s t)
between_apart s t = apart_by_images (λ (m : Move). number_of m.promotion) (moves_between s t) (numbers_apart 0 5)

squares_apart : AreDistinct squares
unfolding squares
squares_apart = numbers_apart 0 64

from_apart : (s : ℕ) → AreDistinct (moves_from s)
unfolding moves_from
from_apart s =
    pieces_apart (λ t. moves_between s t) (between_apart s) (λ a b m one two. sym (between_are s a m one).1 ∙ (between_are s b m two).1) squares squares_apart

from_square : (s : ℕ) (m : Move) → Contains (moves_from s) m → m.from ≡ s
unfolding moves_from
from_square s m h =
    let p = Contains-flat_map_parts (λ t. moves_between s t) squares m h in
    (between_are s p.0 m p.2).0

all_apart : AreDistinct all_moves
unfolding all_moves
all_apart = pieces_apart moves_from from_apart (λ a b m one two. sym (from_square a m one) ∙ from_square b m two) squares squares_apart

pub legal_apart : (q : Board) → AreDistinct (legal q)
unfolding legal
legal_apart q = filtered_apart (is_legal_in q) all_moves all_apart

length_pieces : {X Y : Type 0} (f : X → List Y) (k : ℕ) → ((x : X) → length (f x) ≡ k) → (xs : List X) → length (flat_map f xs) ≡ length xs * k
length_pieces f k each [] = omega arith
length_pieces f k each (x ∷ xs) =
    let here = each x in
    let rest = length_pieces f k each xs in
    let sum = length-append (f x) (flat_map f xs) in
    omega arith

length_from : (s : ℕ) → length (moves_from s) ≡ 320
unfolding moves_from
length_from s =
    let size = length_squares in
    let all = length_pieces (λ t. moves_between s t) 5 (λ t. refl) squares in
    omega arith

length_all : length all_moves ≡ 20480
unfolding all_moves
length_all =
    let size = length_squares in
    let all = length_pieces moves_from 320 length_from squares in
    omega arith

pub few_legal : (q : Board) → length (legal q) ≤ 20480
unfolding legal
few_legal q =
    let kept = length-filter (is_legal_in q) all_moves in
    let fewer = count_by-le-length (is_legal_in q) all_moves in
    let all = length_all in
    omega arith
