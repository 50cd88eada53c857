-- The men that stand in their king's way are counted for their squares, each by its origin.
use Rattle.std.proofs.Common.{◌≡◌, ℕ, Bool, true, false, not, cond, ◌&&◌, ◌==◌, Option, Some, None, refl, sym, subst, ◌∙◌}
use Rattle.std.proofs.lemmas.Bool.{and_parts, and_from, not-true, eqb-true}
use Rattle.cha_board.specs.declared.men.Color.{Color}
use Rattle.cha_board.specs.declared.men.Kind.TheVariants.{King}
use Rattle.cha_board.specs.declared.men.Man.{Man}
use Rattle.cha_board.specs.Men.{same_color, same_kind, is_non_king}
use Rattle.cha_board.specs.Squares.{steps_apart}
use Rattle.cha_board.specs.Board.{Board, man_at, IsValid}
use Rattle.cha_board.proofs.Identity.{on_board}
use Rattle.mob_sets.specs.Mobility.{Sets}
use Rattle.mob_law.specs.Threats.{MayStandNear}
use Rattle.mob_law.proofs.CarriedFacts.{Facts}
use Rattle.mob_law.proofs.Standing.{origin_is_non_king}

-- a man of c other than the king stands on n, next to ks
blocks : Board → Color → ℕ → ℕ → Bool
blocks q c ks n = (steps_apart ks n == 1) && is_non_king c (man_at q.men n)

-- the man that is counted for n: the one that stands there
pub counted_on : Board → Color → ℕ → (ℕ → ℕ) → ℕ → Option ℕ
counted_on q c ks origin n = cond (blocks q c ks n) (Some (origin n)) None

pub counted_here : (q : Board) (c : Color) (ks : ℕ) (origin : ℕ → ℕ) (n : ℕ) → (steps_apart ks n == 1) ≡ true → is_non_king c (man_at q.men n) ≡ true
    → counted_on q c ks origin n ≡ Some (origin n)
unfolding counted_on blocks
counted_here q c ks origin n step there =
    let h = and_from (steps_apart ks n == 1) (is_non_king c (man_at q.men n)) step there in
    rw h refl

chosen : (b : Bool) (x o : ℕ) → cond b (Some x) None ≡ Some o → (b ≡ true) × (x ≡ o)
chosen true x o e = (refl, cc)
chosen false x o e = cc

-- such a man
record Blocker (q : Board) (c : Color) (ks n : ℕ) : Type 0 where
  step : (steps_apart ks n == 1) ≡ true
  man : Man
  found : man_at q.men n ≡ Some man
  own : same_color man.color c ≡ true
  other : same_kind man.kind King ≡ false

blocker_from : (q : Board) (c : Color) (ks n : ℕ) (o : Option Man) → man_at q.men n ≡ o → (steps_apart ks n == 1) ≡ true → is_non_king c o ≡ true → Blocker q c ks n
blocker_from q c ks n None found step h = cc
blocker_from q c ks n (Some man) found step h =
    let both = and_parts (same_color man.color c) (not (same_kind man.kind King)) h in
    record { step = step; man = man; found = found; own = both.0; other = not-true (same_kind man.kind King) both.1 }

counted_is : (q : Board) (c : Color) (ks : ℕ) (origin : ℕ → ℕ) (n o : ℕ) → counted_on q c ks origin n ≡ Some o → Blocker q c ks n × (origin n ≡ o)
unfolding counted_on blocks
counted_is q c ks origin n o h =
    let is = chosen (blocks q c ks n) (origin n) o h in
    let both = and_parts (steps_apart ks n == 1) (is_non_king c (man_at q.men n)) is.0 in
    (blocker_from q c ks n (man_at q.men n) refl both.0 both.1, is.1)

-- Where the facts hold, each man that is counted may stand next to its king, where it stands now, and none is counted twice.
module _ (p : Board) (s : Sets) (q : Board) (origin : ℕ → ℕ) (facts : Facts p s q origin) (valid : IsValid q) (c : Color) (ks : ℕ) where
  pub counted_near : (n o : ℕ) → counted_on q c ks origin n ≡ Some o → MayStandNear p s c ks o
  counted_near n o h =
      let is = counted_is q c ks origin n o h in
      let b = is.0 in
      let P : ℕ → Type 0 = λ x. is_non_king c (man_at p.men x) ≡ true in
      let R : ℕ → Type 0 = λ x. s.has x b.man.kind n ≡ true in
      record {
        stood = subst P is.1 (origin_is_non_king p s q origin facts c n b.man b.found b.own b.other);
        kind = b.man.kind;
        square = n;
        small = rw valid.size at (on_board q.men n b.man b.found);
        next = eqb-true (steps_apart ks n) 1 b.step;
        reach = subst R is.1 (facts.each n b.man b.found).reach;
      }

  pub counted_once : (n m o : ℕ) → counted_on q c ks origin n ≡ Some o → counted_on q c ks origin m ≡ Some o → n ≡ m
  counted_once n m o h g =
      let here = counted_is q c ks origin n o h in
      let there = counted_is q c ks origin m o g in
      facts.distinct n m here.0.man there.0.man here.0.found there.0.found (here.1 ∙ sym there.1)
