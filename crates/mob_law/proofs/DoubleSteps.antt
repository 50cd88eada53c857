-- A double step asks nothing of sets that two single steps do not ask.
use Rattle.std.proofs.Common.{◌≡◌, ◌≢◌, ℕ, ◌<◌, Bool, true, not, ◌&&◌, ◌||◌, ◌==◌, refl, arith}
use Rattle.std.specs.List.{list_all}
use Rattle.std.proofs.lemmas.Bool.{and_parts, and_from, eq-eqb, eqb-true, eqb-false, not-true}
use Rattle.cha_board.specs.declared.men.Color.{Color}
use Rattle.cha_board.specs.declared.men.Color.TheVariants.{White, Black}
use Rattle.cha_board.specs.Squares.{squares, rank_of, last_rank, files_apart, is_rank_ahead}
use Rattle.cha_board.specs.Board.{Board}
use Rattle.cha_board.proofs.Scans.{pair_at}
use Rattle.cha_moves.specs.Moves.{second_rank, fourth_rank, middle}
use Rattle.mob_sets.specs.Mobility.{Sets}
use Rattle.mob_law.specs.Closed.{PawnsStep, PawnsDoubleStep}

-- a pawn of c steps twice from u to t, and once, not onto its last rank
twice : Color → ℕ → ℕ → Bool
twice c u t = (files_apart u t == 0) && (rank_of u == second_rank c) && (rank_of t == fourth_rank c)

once : Color → ℕ → ℕ → Bool
once c u t = (files_apart u t == 0) && is_rank_ahead c u t && not (rank_of t == last_rank c)

over_middle : Color → ℕ → ℕ → Bool
over_middle c u t = not (twice c u t) || (once c u (middle u t) && once c (middle u t) t)

table : (c : Color) → list_all (λ u. list_all (over_middle c u) squares) squares ≡ true
unfolding over_middle twice once is_rank_ahead files_apart squares
table White = refl
table Black = refl

record Once (c : Color) (u t : ℕ) : Type 0 where
  file : files_apart u t ≡ 0
  ahead : is_rank_ahead c u t ≡ true
  inside : rank_of t ≢ last_rank c

once_is : (c : Color) (u t : ℕ) → once c u t ≡ true → Once c u t
unfolding once
once_is c u t h =
    let a = and_parts ((files_apart u t == 0) && is_rank_ahead c u t) (not (rank_of t == last_rank c)) h in
    let b = and_parts (files_apart u t == 0) (is_rank_ahead c u t) a.0 in
    record { file = eqb-true (files_apart u t) 0 b.0; ahead = b.1; inside = eqb-false (rank_of t) (last_rank c) (not-true (rank_of t == last_rank c) a.1) }

two_steps : (c : Color) (u t : ℕ) → u < 64 → t < 64 → files_apart u t ≡ 0 → rank_of u ≡ second_rank c → rank_of t ≡ fourth_rank c → Once c u (middle u t) × Once c (middle u t) t
unfolding over_middle twice
two_steps c u t small small' file begins ends =
    let is : twice c u t ≡ true = and_from ((files_apart u t == 0) && (rank_of u == second_rank c)) (rank_of t == fourth_rank c)
    (and_from (files_apart u t == 0) (rank_of u == second_rank c) (eq-eqb (files_apart u t) 0 file) (eq-eqb (rank_of u) (second_rank c) begins)) (eq-eqb (rank_of t) (fourth_rank c) ends) in
    let test : over_middle c u t ≡ true = pair_at (over_middle c) (table c) u t small small' in
    let both : (once c u (middle u t) && once c (middle u t) t) ≡ true = rw is at test in
    let each = and_parts (once c u (middle u t)) (once c (middle u t) t) both in
    (once_is c u (middle u t) each.0, once_is c (middle u t) t each.1)

pub step_twice : (p : Board) (s : Sets) → PawnsStep p s → PawnsDoubleStep p s
step_twice p s step o man u t entry file begins ends over free =
    let small : middle u t < 64 = omega (arith, entry.from, entry.to) in
    let two = two_steps man.color u t entry.from entry.to file begins ends in
    let first = step o man u (middle u t) (record { stood = entry.stood; reach = entry.reach; from = entry.from; to = small }) two.0.file two.0.ahead over in
    let second = step o man (middle u t) t (record { stood = entry.stood; reach = first.stays two.0.inside; from = small; to = entry.to }) two.1.file two.1.ahead free in
    record { stays = second.stays; becomes = λ last. absurd (two.1.inside last); leaves = first.leaves }
