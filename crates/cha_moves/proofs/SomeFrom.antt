-- A square from which a move is legal.
use Rattle.std.proofs.Common.{◌≡◌, ◌≢◌, ℕ, ◌<◌, ◌==◌, Bool, true, not, ◌&&◌, List, [], ◌∷◌, ◌++◌, inl, inr, sym, ap, ◌∙◌}
use Rattle.std.specs.List.{Contains, filter, flat_map}
use Rattle.std.proofs.lemmas.List.Elements.{filter-append}
use Rattle.cha_board.specs.Squares.{squares}
use Rattle.cha_board.specs.Board.{Board}
use Rattle.cha_moves.specs.Moves.{is_legal_in, moves_between, moves_from, all_moves, legal}
use Rattle.cha_moves.specs.Ways.{is_way, legal_between}
use Rattle.cha_moves.specs.Shields.{goes_legally}
use Rattle.cha_moves.proofs.GoingLegally.{some_between}
use Rattle.std.proofs.lemmas.Bool.{and_parts}
use Rattle.cha_list.proofs.Longer.{left_nothing}
use Rattle.cha_board.specs.SquareSets.{has_square, set_without}
use Rattle.cha_board.proofs.SetLaws.{has-set_of}
use Rattle.cha_moves.proofs.Contained.{Contains-cons_cases, Contains-squares_from, not_in_nothing}

right_nothing : {X : Type 0} (a b : List X) → a ++ b ≡ [] → b ≡ []
right_nothing [] b e = e
right_nothing (x ∷ a) b e = cc

-- what is kept of the pieces of one square is kept of those of all
filter_some : {X : Type 0} (p : X → Bool) (f : ℕ → List X) (xs : List ℕ) (x : ℕ) → Contains xs x → filter p (f x) ≢ [] → filter p (flat_map f xs) ≢ []
filter_some p f [] x inside some e = not_in_nothing x inside
filter_some p f (y ∷ ys) x inside some e =
    let split = sym (filter-append p (f y) (flat_map f ys)) ∙ e in
    elim (Contains-cons_cases y ys x inside) [
      | inl here ↦ some (ap (λ z. filter p (f z)) (sym here) ∙ left_nothing (filter p (f y)) (filter p (flat_map f ys)) split)
      | inr there ↦ filter_some p f ys x there some (right_nothing (filter p (f y)) (filter p (flat_map f ys)) split)
    ]

some_from : (q : Board) (s : ℕ) → s < 64 → filter (is_legal_in q) (moves_from s) ≢ [] → legal q ≢ []
unfolding legal all_moves
some_from q s small some = filter_some (is_legal_in q) moves_from squares s (Contains-squares_from s small) some

-- a square to which the man on another goes legally
pub some_going : (q : Board) (s t : ℕ) → s < 64 → t < 64 → goes_legally q s t ≡ true → legal q ≢ []
unfolding moves_from legal_between
some_going q s t small small' goes =
    some_from q s small (filter_some (is_legal_in q) (λ t. moves_between s t) squares t (Contains-squares_from t small') (some_between q s t goes))

-- ways of which one was asked
pub fewer_ways : (q : Board) (s to : ℕ) (left next : List Bool) → next ≡ set_without left to → ((t : ℕ) → t < 64 → has_square left t ≡ true → is_way q s t ≡ true) → (t : ℕ) → t < 64 → has_square next t ≡ true → is_way q s t ≡ true
unfolding set_without
fewer_ways q s to left next is ways t small here =
    ways t small (and_parts (not (t == to)) (has_square left t) (sym (has-set_of (λ u. not (u == to) && has_square left u) t small) ∙ ap (λ x. has_square x t) (sym is) ∙ here)).1
