-- The ground of sets, square by square.
use Rattle.std.proofs.Common.{◌≡◌, ℕ, ◌<◌, true, ◌&&◌, Option, Some, None, refl}
use Rattle.std.specs.List.{list_any}
use Rattle.std.proofs.lemmas.Bool.{and_parts}
use Rattle.cha_board.specs.declared.men.Color.{Color}
use Rattle.cha_board.specs.declared.men.Color.TheVariants.{White, Black}
use Rattle.cha_board.specs.declared.men.Kind.{Kind}
use Rattle.cha_board.specs.declared.men.Man.{Man}
use Rattle.cha_board.specs.Men.{other_color, same_color, is_non_king}
use Rattle.cha_board.specs.SquareSets.{has_square}
use Rattle.cha_board.proofs.SetLaws.{has-set_of}
use Rattle.cha_board.specs.Board.{Board, man_at}
use Rattle.cha_moves.specs.Moves.{is_target}
use Rattle.mob_law.specs.Reach.{is_fixed, is_guarded}
use Rattle.mob_sets.specs.Mobility.{Sets}
use Rattle.mob_law.specs.Closed.{EnemyReaches}
use Rattle.cha_board.proofs.Contents.{some_square}
use Rattle.mob_sets.specs.Rows.{kinds}
use Rattle.mob_sets.proofs.KindTests.{some_kind}
use Rattle.mob_check.specs.Grounds.{reaches_from, is_reached, has_own, is_target_for, side_ground_of, ground_of, side_in}

pub fixed_at : (p : Board) (s : Sets) (u : ℕ) → u < 64 → has_square (ground_of p s).fixed u ≡ is_fixed p s u
unfolding ground_of
fixed_at p s u small = has-set_of (is_fixed p s) u small

pub guards_at : (p : Board) (s : Sets) (c : Color) (t : ℕ) → t < 64 → has_square (side_in (ground_of p s) c).guards t ≡ is_guarded p s c t
unfolding ground_of side_ground_of
guards_at p s White t small = has-set_of (is_guarded p s White) t small
guards_at p s Black t small = has-set_of (is_guarded p s Black) t small

pub reach_at : (p : Board) (s : Sets) (c : Color) (t : ℕ) → t < 64 → has_square (side_in (ground_of p s) c).reach t ≡ is_reached p s c t
unfolding ground_of side_ground_of
reach_at p s White t small = has-set_of (is_reached p s White) t small
reach_at p s Black t small = has-set_of (is_reached p s Black) t small

pub men_at : (p : Board) (s : Sets) (c : Color) (t : ℕ) → t < 64 → has_square (side_in (ground_of p s) c).men t ≡ is_non_king c (man_at p.men t)
unfolding ground_of side_ground_of has_own
men_at p s White t small = has-set_of (has_own p White) t small
men_at p s Black t small = has-set_of (has_own p Black) t small

pub target_at : (p : Board) (s : Sets) (c : Color) (t : ℕ) → t < 64 → has_square (side_in (ground_of p s) c).target t ≡ (is_target p.target t && same_color c p.side)
unfolding ground_of side_ground_of is_target_for
target_at p s White t small = has-set_of (is_target_for p White) t small
target_at p s Black t small = has-set_of (is_target_for p Black) t small

-- an enemy that is reached is one that is in reach
enemy_of : (p : Board) (s : Sets) (c : Color) (t o : ℕ) (found : Option Man) → man_at p.men o ≡ found → is_non_king (other_color c) found ≡ true → (k : Kind) → s.has o k t ≡ true → EnemyReaches p s c t
enemy_of p s c t o None stood enemy k reach = cc
enemy_of p s c t o (Some man) stood enemy k reach = record { origin = o; man = man; kind = k; stood = stood; enemy = enemy; reach = reach }

pub reached_enemy : (p : Board) (s : Sets) (c : Color) (t : ℕ) → is_reached p s (other_color c) t ≡ true → EnemyReaches p s c t
unfolding is_reached reaches_from
reached_enemy p s c t h =
    let o = some_square (reaches_from p s (other_color c) t) h in
    let both = and_parts (is_non_king (other_color c) (man_at p.men o.0)) (list_any (λ k. s.has o.0 k t) kinds) o.2 in
    let k = some_kind (λ k. s.has o.0 k t) both.1 in
    enemy_of p s c t o.0 (man_at p.men o.0) refl both.0 k.0 k.1
