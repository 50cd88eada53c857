-- How many moves are legal from a square, by the sets of the squares to which its man goes legally.
use Rattle.std.proofs.Common.{◌≡◌, ℕ, ◌+◌, ◌*◌, ◌<◌, Bool, true, false, ◌&&◌, cond, List, [], ◌∷◌, length, Some, refl, sym, ◌∙◌, ap, arith}
use Rattle.std.specs.List.{Contains, filter, flat_map}
use Rattle.std.proofs.lemmas.List.{length-append}
use Rattle.std.proofs.lemmas.List.Elements.{filter-append}
use Rattle.cha_board.specs.declared.men.Man.{Man}
use Rattle.cha_board.specs.Squares.{squares}
use Rattle.cha_board.specs.Board.{Board, IsValid, man_at}
use Rattle.cha_board.specs.SquareSets.{set_of, has_square, squares_in, set_common}
use Rattle.cha_board.proofs.SetLaws.{has-set_of, kept_alike}
use Rattle.cha_moves.specs.Moves.{is_legal_in, moves_between, moves_from}
use Rattle.cha_moves.specs.Ways.{is_promoted, legal_between}
use Rattle.cha_moves.specs.Shields.{goes_legally}
use Rattle.cha_moves.proofs.Contained.{Contains-cons_here, Contains-cons_there, Contains-filter_parts, Contains-squares_small}
use Rattle.cha_moves.proofs.Arriving.{Going, moves_plain, moves_promoted}
use Rattle.cha_moves.proofs.GoingLegally.{goes_plain, goes_promoted, goes_a_way, legal_by_goings, each_goes}

-- how many moves go to a square: four where the man is promoted
abbrev pub moves_onto : Bool → ℕ
moves_onto true = 4
moves_onto false = 1

onto : (q : Board) (s t : ℕ) (man : Man) (b : Bool) → Going q s t man → is_promoted q.side man.kind t ≡ b → goes_legally q s t ≡ true → length (legal_between q s t) ≡ moves_onto b
onto q s t man true g e h =
    let legal_so = sym (goes_promoted q s t man g e) ∙ h in
    rw (moves_promoted q s t man g e, legal_so) refl
onto q s t man false g e h =
    let legal_so = sym (goes_plain q s t man g e) ∙ h in
    rw (moves_plain q s t man g e, legal_so) refl

-- what is known of squares to which a man goes
pub record Goings (q : Board) (s : ℕ) (man : Man) (ts : List ℕ) : Type 0 where
  pub valid : IsValid q
  pub from : s < 64
  pub found : man_at q.men s ≡ Some man
  pub small : (t : ℕ) → Contains ts t → t < 64
  pub legally : (t : ℕ) → Contains ts t → goes_legally q s t ≡ true

one_more : (b : Bool) (here rest t : ℕ) (ts xs : List ℕ) → here ≡ moves_onto b → rest ≡ length ts + 3 * length xs → here + rest ≡ length (t ∷ ts) + 3 * length (cond b (t ∷ xs) xs)
one_more true here rest t ts xs e f = omega arith
one_more false here rest t ts xs e f = omega arith

-- the legal moves to the squares of a list, in number
counted : (q : Board) (s : ℕ) (man : Man) (ts : List ℕ) → Goings q s man ts
    → length (filter (is_legal_in q) (flat_map (moves_between s) ts)) ≡ length ts + 3 * length (filter (is_promoted q.side man.kind) ts)
unfolding legal_between
counted q s man [] g = refl
counted q s man (t ∷ ts) g =
    let first = Contains-cons_here t ts t refl in
    let legally = g.legally t first in
    let going : Going q s t man = record { valid = g.valid; from = g.from; to = g.small t first; found = g.found; way = goes_a_way q s t legally } in
    let here = onto q s t man (is_promoted q.side man.kind t) going refl legally in
    let others : Goings q s man ts = record {
      valid = g.valid;
      from = g.from;
      found = g.found;
      small = λ u inside. g.small u (Contains-cons_there t ts u inside);
      legally = λ u inside. g.legally u (Contains-cons_there t ts u inside);
    } in
    let rest = counted q s man ts others in
    ap length (filter-append (is_legal_in q) (moves_between s t) (flat_map (moves_between s) ts))
    ∙ length-append (filter (is_legal_in q) (moves_between s t)) (filter (is_legal_in q) (flat_map (moves_between s) ts))
    ∙ one_more (is_promoted q.side man.kind t) (length (filter (is_legal_in q) (moves_between s t))) (length (filter (is_legal_in q) (flat_map (moves_between s) ts))) t ts (filter (is_promoted q.side man.kind) ts) here rest

both_at : (p : ℕ → Bool) (a b : Bool) (x : ℕ) (ys zs : List ℕ) → p x ≡ b → filter p zs ≡ ys → cond (a && b) (x ∷ ys) ys ≡ filter p (cond a (x ∷ zs) zs)
both_at p true true x ys zs e f = rw (e, f) refl
both_at p true false x ys zs e f = rw (e, f) refl
both_at p false b x ys zs e f = sym f

kept_twice : (p r : ℕ → Bool) (xs : List ℕ) → filter (λ x. r x && p x) xs ≡ filter p (filter r xs)
kept_twice p r [] = refl
kept_twice p r (x ∷ xs) =
    ap (λ ys. cond (r x && p x) (x ∷ ys) ys) (kept_twice p r xs) ∙ both_at p (r x) (p x) x (filter p (filter r xs)) (filter r xs) refl refl

-- the squares of a set that pass a test
common_squares : (ways : List Bool) (p : ℕ → Bool) → squares_in (set_common ways (set_of p)) ≡ filter p (squares_in ways)
unfolding set_common squares
common_squares ways p =
    kept_alike (has_square (set_common ways (set_of p))) (λ s. has_square ways s && p s) 0 64 (λ s low small.
    has-set_of (λ s. has_square ways s && has_square (set_of p) s) s small ∙ ap (λ b. has_square ways s && b) (has-set_of p s small))
    ∙ kept_twice p (has_square ways) squares

-- the legal moves from a square, in number
pub counted_from : (q : Board) (s : ℕ) (man : Man) (ways last : List Bool) → IsValid q → s < 64 → man_at q.men s ≡ Some man → ways ≡ set_of (goes_legally q s) → last ≡ set_of (is_promoted q.side man.kind)
    → length (squares_in ways) + 3 * length (squares_in (set_common ways last)) ≡ length (filter (is_legal_in q) (moves_from s))
counted_from q s man ways last valid small found are promoted =
    let goings : Goings q s man (squares_in ways) = record {
      valid = valid;
      from = small;
      found = found;
      small = λ t inside. Contains-squares_small t (Contains-filter_parts (has_square ways) squares t inside).0;
      legally = λ t inside. each_goes q s t ways are inside;
    } in
    let n = counted q s man (squares_in ways) goings in
    let common = ap (λ x. length (squares_in (set_common ways x))) promoted ∙ ap length (common_squares ways (is_promoted q.side man.kind)) in
    let all = ap length (ap (λ x. filter (is_legal_in q) (flat_map (moves_between s) (squares_in x))) are ∙ legal_by_goings q s) in
    omega arith

-- the moves that are counted and those from the squares that are left
pub counted_next : (q : Board) (old here now all : ℕ) (left rest : List ℕ) (s : ℕ) → old + length (filter (is_legal_in q) (flat_map moves_from left)) ≡ all → left ≡ s ∷ rest
    → here ≡ length (filter (is_legal_in q) (moves_from s)) → now ≡ old + here → now + length (filter (is_legal_in q) (flat_map moves_from rest)) ≡ all
counted_next q old here now all left rest s before next is more =
    let same = ap (λ xs. length (filter (is_legal_in q) (flat_map moves_from xs))) next in
    let parts = ap length (filter-append (is_legal_in q) (moves_from s) (flat_map moves_from rest))
    ∙ length-append (filter (is_legal_in q) (moves_from s)) (filter (is_legal_in q) (flat_map moves_from rest)) in
    omega arith
