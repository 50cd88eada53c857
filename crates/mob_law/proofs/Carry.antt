-- How a move carries the facts along: men that neither move nor are captured keep their part of them, and the others have
-- theirs.
use Rattle.std.proofs.Common.{◌≡◌, ℕ, true, Some, sym, ap, ◌∙◌, inl, inr}
use Rattle.cha_board.specs.declared.men.Color.{Color}
use Rattle.cha_board.specs.declared.men.Kind.{Kind}
use Rattle.cha_board.specs.declared.castling.Wing.{Wing}
use Rattle.cha_board.specs.declared.men.Kind.TheVariants.{Pawn}
use Rattle.cha_board.specs.declared.men.Man.{Man}
use Rattle.cha_board.specs.Men.{is_man}
use Rattle.cha_board.specs.Squares.{rank_of}
use Rattle.cha_board.specs.Board.{Board, man_at, home_of, corner_of, has_right}
use Rattle.cha_moves.specs.Moves.{second_rank, is_target}
use Rattle.mob_law.specs.Reach.{is_fixed}
use Rattle.mob_sets.specs.Mobility.{Sets}
use Rattle.cha_moves.proofs.Kept.{Becomes}
use Rattle.mob_law.proofs.CarriedFacts.{Passed, Facts}

-- the man that stands on u after a move stood on v before it, and what it is now is in reach on u
pub record Comes (s : Sets) (q : Board) (origin : ℕ → ℕ) (man : Man) (u v : ℕ) : Type 0 where
  pub old : Man
  pub stood : man_at q.men v ≡ Some old
  pub color : old.color ≡ man.color
  pub kind : Becomes old.kind man.kind
  pub reach : s.has (origin v) man.kind u ≡ true

-- What a move from q to r has to do for the facts to go on, where `source` says on which square of q each man of r stood.
pub record Carries (p : Board) (s : Sets) (q : Board) (origin : ℕ → ℕ) (r : Board) (source : ℕ → ℕ) : Type 0 where
  pub comes : (u : ℕ) (man : Man) → man_at r.men u ≡ Some man → Comes s q origin man u (source u)
  pub apart : (u v : ℕ) (man other : Man) → man_at r.men u ≡ Some man → man_at r.men v ≡ Some other → source u ≡ source v → u ≡ v
  pub fixed : (f : ℕ) → is_fixed p s f ≡ true → (man_at r.men f ≡ man_at q.men f) × (source f ≡ f)
  pub second : (u : ℕ) (c : Color) → is_man c Pawn (man_at r.men u) ≡ true → rank_of u ≡ second_rank c
      → (is_man c Pawn (man_at q.men u) ≡ true) × (source u ≡ u)
  pub right : (c : Color) (w : Wing) → has_right r.rights c w ≡ true
      → (has_right q.rights c w ≡ true) × (source (home_of c) ≡ home_of c) × (source (corner_of c w) ≡ corner_of c w)
  pub target : (t : ℕ) → is_target r.target t ≡ true → Passed p s r (λ u. origin (source u)) t

-- what became a j, which became an i, became an i
becomes_on : (k j i : Kind) → Becomes k j → Becomes j i → Becomes k i
becomes_on k j i (inl e) (inl f) = inl (f ∙ e)
becomes_on k j i (inl e) (inr (a, b)) = inr (sym e ∙ a, b)
becomes_on k j i (inr (a, b)) (inl f) = inr (a, rw f b)
becomes_on k j i (inr (a, b)) (inr (c, d)) = inr (a, d)

-- then the facts hold after the move, where each man's origin is that of the square from which it came
pub carried : (p : Board) (s : Sets) (q : Board) (origin : ℕ → ℕ) (r : Board) (source : ℕ → ℕ) → Facts p s q origin → Carries p s q origin r source → Facts p s r (λ u. origin (source u))
carried p s q origin r source facts c = record {
  each = λ u man found. (
      let from = c.comes u man found in
      let before = facts.each (source u) from.old from.stood in
      record {
        first = before.first;
        stood = before.stood;
        color = before.color ∙ from.color;
        kind = becomes_on before.first.kind from.old.kind man.kind before.kind from.kind;
        reach = from.reach;
      });
  distinct = λ u v man other found found' same. (
      let a = c.comes u man found in
      let b = c.comes v other found' in
      c.apart u v man other found found' (facts.distinct (source u) (source v) a.old b.old a.stood b.stood same));
  fixed = λ f h. (
      let now = c.fixed f h in
      let before = facts.fixed f h in
      (now.0 ∙ before.0, ap origin now.1 ∙ before.1));
  second = λ u d pawn rank. (
      let before = c.second u d pawn rank in
      ap origin before.1 ∙ facts.second u d before.0 rank);
  right = λ d w right. (
      let now = c.right d w right in
      let before = facts.right d w now.0 in
      (before.0, ap origin now.1 ∙ before.1, ap origin now.2 ∙ before.2));
  target = c.target;
}
