-- The fixed men that guard a square.
use Rattle.std.proofs.Common.{◌≡◌, ℕ, ◌<◌, true, ◌&&◌, ◌||◌, ◌==◌, Option, Some, None, refl}
use Rattle.std.proofs.lemmas.Bool.{and_parts}
use Rattle.cha_board.specs.declared.men.Color.{Color}
use Rattle.cha_board.specs.declared.men.Man.{Man}
use Rattle.cha_board.specs.Men.{same_color}
use Rattle.cha_board.specs.Squares.{steps_apart, aims_at}
use Rattle.cha_board.specs.Board.{Board, man_at}
use Rattle.cha_board.proofs.Contents.{some_square}
use Rattle.cha_board.proofs.Identity.{same_color_equal}
use Rattle.mob_law.specs.Reach.{is_fixed, is_leaper, guards_as, guards_from, is_guarded}
use Rattle.mob_sets.specs.Mobility.{Sets}

-- a fixed man of c on f that attacks t for ever
pub record Guard (p : Board) (s : Sets) (c : Color) (t f : ℕ) : Type 0 where
  pub man : Man
  pub found : man_at p.men f ≡ Some man
  pub color : man.color ≡ c
  pub fixed : is_fixed p s f ≡ true
  pub aims : aims_at c man.kind f t ≡ true
  pub near : (is_leaper man.kind || (steps_apart f t == 1)) ≡ true

guard_of : (p : Board) (s : Sets) (c : Color) (t f : ℕ) (o : Option Man) → man_at p.men f ≡ o → is_fixed p s f ≡ true → guards_as c f t o ≡ true → Guard p s c t f
unfolding guards_as
guard_of p s c t f None found fixed h = cc
guard_of p s c t f (Some man) found fixed h =
    let all = and_parts (same_color man.color c && aims_at c man.kind f t) (is_leaper man.kind || (steps_apart f t == 1)) h in
    let two = and_parts (same_color man.color c) (aims_at c man.kind f t) all.0 in
    record { man = man; found = found; color = same_color_equal man.color c two.0; fixed = fixed; aims = two.1; near = all.1 }

-- what is guarded is guarded by a man
pub some_guard : (p : Board) (s : Sets) (c : Color) (t : ℕ) → is_guarded p s c t ≡ true → (f : ℕ) × (f < 64) × Guard p s c t f
unfolding is_guarded guards_from
some_guard p s c t h =
    let from = some_square (guards_from p s c t) h in
    let both = and_parts (is_fixed p s from.0) (guards_as c from.0 t (man_at p.men from.0)) from.2 in
    (from.0, from.1, guard_of p s c t from.0 (man_at p.men from.0) refl both.0 both.1)
