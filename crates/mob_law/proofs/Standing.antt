-- What the facts say of the squares and men of a position.
use Rattle.std.proofs.Common.{◌≡◌, ℕ, ◌<◌, Bool, true, false, not, List, [], ◌∷◌, Option, Some, refl, sym, subst, ap, ◌∙◌, inl, inr}
use Rattle.std.specs.List.{list_all}
use Rattle.std.proofs.lemmas.Bool.{and_parts, and_from, both_ways, false_from_ne_true, not-true}
use Rattle.cha_board.specs.declared.men.Color.{Color}
use Rattle.cha_board.specs.declared.men.Kind.{Kind}
use Rattle.cha_board.specs.declared.men.Kind.TheVariants.{King}
use Rattle.cha_board.specs.declared.men.Man.{Man}
use Rattle.cha_board.specs.Men.{same_color, same_kind, is_man, is_non_king}
use Rattle.cha_board.specs.Squares.{between}
use Rattle.cha_board.specs.Board.{Board, man_at, is_empty, is_clear, IsValid}
use Rattle.cha_moves.specs.Moves.{is_promotion}
use Rattle.mob_law.specs.Reach.{is_fixed, is_open}
use Rattle.mob_sets.specs.Mobility.{Sets}
use Rattle.mob_law.specs.Closed.{Entry}
use Rattle.mob_law.specs.Threats.{KingOn, NonKingOn}
use Rattle.cha_moves.proofs.Kept.{Becomes}
use Rattle.mob_law.proofs.CarriedFacts.{Facts}
use Rattle.cha_board.proofs.Identity.{man_of, is_man_from, on_board}
use Rattle.cha_board.proofs.ManTests.{is_non_king_from}

-- a test that follows from another, over a list
pub all_weaker : (p q : ℕ → Bool) (xs : List ℕ) → ((x : ℕ) → p x ≡ true → q x ≡ true) → list_all p xs ≡ true → list_all q xs ≡ true
all_weaker p q [] weaker h = refl
all_weaker p q (x ∷ xs) weaker h =
    let both = and_parts (p x) (list_all p xs) h in
    and_from (q x) (list_all q xs) (weaker x both.0) (all_weaker p q xs weaker both.1)

-- a fixed square has a man at first, and is not loose
pub fixed_stands : (p : Board) (s : Sets) (f : ℕ) → is_fixed p s f ≡ true → (is_empty p.men f ≡ false) × (s.loose f ≡ false)
unfolding is_fixed
fixed_stands p s f h =
    let both = and_parts (not (is_empty p.men f)) (not (s.loose f)) h in
    (not-true (is_empty p.men f) both.0, not-true (s.loose f) both.1)

-- a loose square is not fixed
pub loose_unfixed : (p : Board) (s : Sets) (f : ℕ) → s.loose f ≡ true → is_fixed p s f ≡ false
loose_unfixed p s f loose = false_from_ne_true (is_fixed p s f) (λ h. both_ways (s.loose f) (fixed_stands p s f h).1 loose)

-- where nothing lies between, it is open
pub open_near : (p : Board) (s : Sets) (u t : ℕ) → between u t ≡ [] → is_open p s u t ≡ true
unfolding is_open
open_near p s u t none = rw none refl

-- what is a king now was one, and what is none was none
pub king_before : (k j : Kind) → Becomes k j → j ≡ King → k ≡ King
king_before k j (inl e) f = sym e ∙ f
king_before k j (inr (pawn, becomes)) f =
    let P : Kind → Type 0 = λ x. is_promotion (Some x) ≡ true in
    let none : is_promotion (Some King) ≡ true = subst P f becomes in
    cc

pub no_king_before : (k j : Kind) → Becomes k j → same_kind j King ≡ false → same_kind k King ≡ false
no_king_before k j (inl e) h = rw e at h
no_king_before k j (inr (pawn, becomes)) h = rw pawn refl

-- What the facts say of a position q that moves have reached.
module _ (p : Board) (s : Sets) (q : Board) (origin : ℕ → ℕ) (facts : Facts p s q origin) where
  -- what is empty now is not fixed, since what is fixed stands where it stood
  pub empty_not_fixed : (v : ℕ) → is_empty q.men v ≡ true → is_fixed p s v ≡ false
  empty_not_fixed v empty =
      false_from_ne_true (is_fixed p s v) (λ h.
      let same = (facts.fixed v h).0 in
      both_ways (is_empty q.men v) (rw same (fixed_stands p s v h).0) empty)

  -- what is clear now is open
  pub open_from : (u t : ℕ) → is_clear q.men u t ≡ true → is_open p s u t ≡ true
  unfolding is_clear is_open
  open_from u t clear =
      all_weaker (λ v. is_empty q.men v) (λ v. not (is_fixed p s v)) (between u t) (λ v empty. ap not (empty_not_fixed v empty)) clear

  -- the origin of a man that is no king is none either
  pub origin_is_non_king : (c : Color) (u : ℕ) (man : Man) → man_at q.men u ≡ Some man → same_color man.color c ≡ true → same_kind man.kind King ≡ false
      → is_non_king c (man_at p.men (origin u)) ≡ true
  origin_is_non_king c u man found own other =
      let from = facts.each u man found in
      let P : Option Man → Type 0 = λ x. is_non_king c x ≡ true in
      let C : Color → Type 0 = λ x. same_color x c ≡ true in
      subst P (sym from.stood) (is_non_king_from c from.first (subst C (sym from.color) own) (no_king_before from.first.kind man.kind from.kind other))

  -- the first man of an origin, as an entry of the sets
  pub entry_of : (u t : ℕ) (man : Man) → (found : man_at q.men u ≡ Some man) → u < 64 → t < 64
      → Entry p s (origin u) (facts.each u man found).first man.kind u t
  entry_of u t man found small small' =
      let from = facts.each u man found in
      record { stood = from.stood; reach = from.reach; from = small; to = small' }

-- What they say where the position is valid, as each position is that legal moves reach.
module _ (p : Board) (s : Sets) (q : Board) (origin : ℕ → ℕ) (facts : Facts p s q origin) (valid : IsValid q) where
  -- a king is in reach where it stands
  pub king_on : (c : Color) (u : ℕ) → is_man c King (man_at q.men u) ≡ true → KingOn p s c u
  king_on c u king =
      let k = man_of (man_at q.men u) c King king in
      let from = facts.each u k.man k.found in
      let P : Kind → Type 0 = λ x. s.has (origin u) x u ≡ true in
      record {
        origin = origin u;
        stood = is_man_from (man_at p.men (origin u)) from.first c King from.stood (from.color ∙ k.color) (king_before from.first.kind k.man.kind from.kind k.kind);
        reach = subst P k.kind from.reach;
        small = rw valid.size at (on_board q.men u k.man k.found);
      }

  -- a man that is no king is in reach where it stands
  pub non_king_on : (c : Color) (u : ℕ) (man : Man) → man_at q.men u ≡ Some man → same_color man.color c ≡ true → same_kind man.kind King ≡ false
      → NonKingOn p s c man.kind u
  non_king_on c u man found own other = record {
    origin = origin u;
    stood = origin_is_non_king p s q origin facts c u man found own other;
    reach = (facts.each u man found).reach;
    small = rw valid.size at (on_board q.men u man found);
  }
