-- Squares beside a king towards the man that checks it, on which nothing stands.
use Rattle.std.proofs.Common.{◌≡◌, ℕ, ◌<◌, true, not, ◌&&◌, ◌==◌, ◌⊎◌, Option, Some, None, refl, sym, inl, inr}
use Rattle.std.proofs.lemmas.Bool.{and_parts, eqb-false, eqb-true, not-true}
use Rattle.cha_board.specs.declared.men.Color.{Color}
use Rattle.cha_board.specs.declared.men.Kind.{Kind}
use Rattle.cha_board.specs.declared.men.Man.{Man}
use Rattle.cha_board.specs.Men.{other_color, is_non_king}
use Rattle.cha_board.specs.Squares.{steps_apart}
use Rattle.cha_board.specs.Board.{Board, man_at, is_empty, IsValid}
use Rattle.cha_board.proofs.Identity.{on_board}
use Rattle.cha_board.proofs.ManTests.{either_color}
use Rattle.mob_law.proofs.Geometry.{near}
use Rattle.mob_small.specs.Small.{HasOneBeside}
use Rattle.mob_small.proofs.BesideKing.{is_hole}
use Rattle.mob_small.proofs.Scene.{Shown, king_or_other}

-- With one man of w, which checks, and the loser's only man beside its king on n:
module _ (q : Board) (w : Color) (k : Kind) (valid : IsValid q) (one : HasOneBeside q.men w k) (sh : Shown q w k one.square)
    (n : ℕ) (other : (u : ℕ) → is_non_king (other_color w) (man_at q.men u) ≡ true → u ≡ n) where
  -- who stands where
  whose : (u : ℕ) (man : Man) → man_at q.men u ≡ Some man → ((u ≡ sh.wk) ⊎ (u ≡ one.square)) ⊎ ((u ≡ sh.ks) ⊎ (u ≡ n))
  whose u man found =
      let size = valid.size in
      elim (either_color man.color w) [
        | inl own ↦ inl (king_or_other q.men w sh.wk one.square (valid.kings w) (rw size sh.wk_small) sh.winner one.alone u man found own)
        | inr enemy ↦ inr (king_or_other q.men (other_color w) sh.ks n (valid.kings (other_color w)) (rw size sh.ks_small) sh.loser other u man found enemy)
      ]

  full_of : (u : ℕ) (man : Man) → man_at q.men u ≡ Some man → is_hole sh.ks one.square n u ≡ true → ⊥
  unfolding is_hole
  full_of u man found hole =
      let a = and_parts ((steps_apart sh.ks u == 1) && not (u == one.square)) (not (u == n)) hole in
      let b = and_parts (steps_apart sh.ks u == 1) (not (u == one.square)) a.0 in
      let small : u < 64 = rw valid.size at (on_board q.men u man found) in
      elim (whose u man found) [
        | inl x ↦ elim x [
          | inl e ↦ (let h : (steps_apart sh.ks sh.wk == 1) ≡ true = rw e at b.0 in sh.far (eqb-true (steps_apart sh.ks sh.wk) 1 h))
          | inr e ↦ eqb-false u one.square (not-true (u == one.square) b.1) e
        ]
        | inr x ↦ elim x [
          | inl e ↦ (near sh.ks u sh.ks_small small b.0).other (sym e)
          | inr e ↦ eqb-false u n (not-true (u == n) a.1) e
        ]
      ]

  empty_by : (u : ℕ) (o : Option Man) → man_at q.men u ≡ o → is_hole sh.ks one.square n u ≡ true → is_empty q.men u ≡ true
  empty_by u None there hole = rw there refl
  empty_by u (Some man) there hole = absurd (full_of u man there hole)

  -- so nothing stands on a hole
  pub hole_empty : (u : ℕ) → is_hole sh.ks one.square n u ≡ true → is_empty q.men u ≡ true
  hole_empty u hole = empty_by u (man_at q.men u) refl hole
