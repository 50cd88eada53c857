-- A mate by a side with one man beside its king: what stands where.
use Rattle.std.proofs.Common.{◌≡◌, ◌≢◌, ℕ, ◌<◌, ◌==◌, true, false, not, ◌&&◌, ◌⊎◌, List, length, Option, Some, None, refl, sym, subst, ◌∙◌, inl, inr}
use Rattle.std.proofs.lemmas.Bool.{and_parts, and_from, both_ways, cases_Bool, eq-eqb, eqb-true, not-true}
use Rattle.cha_board.specs.declared.men.Color.{Color}
use Rattle.cha_board.specs.declared.men.Kind.{Kind}
use Rattle.cha_board.specs.declared.men.Kind.TheVariants.{King}
use Rattle.cha_board.specs.declared.men.Man.{Man}
use Rattle.cha_board.specs.Men.{other_color, same_color, same_kind, is_kind, is_man, is_non_king}
use Rattle.cha_board.specs.Squares.{steps_apart, aims_at}
use Rattle.cha_board.specs.Board.{Board, man_at, has_one_king, IsValid}
use Rattle.cha_board.proofs.Identity.{man_of, is_man_from, on_board, same_color_self, same_kind_self, same_kind_equal}
use Rattle.cha_board.proofs.ManTests.{is_non_king_from, other_kind}
use Rattle.cha_moves.specs.Ends.{IsMated}
use Rattle.cha_moves.proofs.Kept.{king_place}
use Rattle.mob_sets.specs.Mobility.{Sets}
use Rattle.mob_law.specs.Reach.{is_fixed}
use Rattle.mob_law.specs.Threats.{KingOn, NonKingOn, Covered, Blocked, NextToKing, Attacked}
use Rattle.mob_law.proofs.CarriedFacts.{FactsHold, AtFirst}
use Rattle.mob_law.proofs.Mating.{mate_threatens}
use Rattle.mob_law.proofs.Standing.{loose_unfixed}
use Rattle.mob_small.specs.Small.{HasOnlyKing, HasOneBeside}

-- the sets in which each man is in reach where it stands alone, while nothing is fixed
abbrev pub here : Board → Sets
here q = record { has = λ o k u. (o == u) && is_kind k (man_at q.men u); loose = λ o. true }

pub facts_here : (q : Board) → FactsHold q (here q) q
facts_here q = (
  λ u. u,
  record {
    each = λ u man found. record {
      first = man;
      stood = found;
      color = refl;
      kind = inl refl;
      reach = and_from (u == u) (is_kind man.kind (man_at q.men u)) (eq-eqb u u refl) (rw found (same_kind_self man.kind));
    };
    distinct = λ u v man other found found' same. same;
    fixed = λ f h. absurd (both_ways (is_fixed q (here q) f) (loose_unfixed q (here q) f refl) h);
    second = λ u c pawn rank. refl;
    right = λ c w right. (right, refl, refl);
    target = λ t now. AtFirst now refl;
  },
)

-- who is in reach in them stands there
pub non_king_stands : (q : Board) (c : Color) (k : Kind) (u : ℕ) → NonKingOn q (here q) c k u → (is_non_king c (man_at q.men u) ≡ true) × (is_kind k (man_at q.men u) ≡ true)
non_king_stands q c k u on =
    let both = and_parts (on.origin == u) (is_kind k (man_at q.men u)) on.reach in
    let P : ℕ → Type 0 = λ x. is_non_king c (man_at q.men x) ≡ true in
    (subst P (eqb-true on.origin u both.0) on.stood, both.1)

pub king_stands_on : (q : Board) (c : Color) (u : ℕ) → KingOn q (here q) c u → is_man c King (man_at q.men u) ≡ true
king_stands_on q c u on =
    let both = and_parts (on.origin == u) (is_kind King (man_at q.men u)) on.reach in
    let P : ℕ → Type 0 = λ x. is_man c King (man_at q.men x) ≡ true in
    subst P (eqb-true on.origin u both.0) on.stood

-- a man has one kind
pub one_kind_there : (o : Option Man) (c : Color) (k j : Kind) → is_man c k o ≡ true → is_kind j o ≡ true → j ≡ k
one_kind_there o c k j man kind =
    let m = man_of o c k man in
    let P : Option Man → Type 0 = λ x. is_kind j x ≡ true in
    sym (same_kind_equal m.man.kind j (subst P m.found kind)) ∙ m.kind

-- a man of c stands where its king does, or where its other man does
pub king_or_other : (men : List (Option Man)) (c : Color) (k s : ℕ) → has_one_king men c ≡ true → k < length men → is_man c King (man_at men k) ≡ true
    → ((u : ℕ) → is_non_king c (man_at men u) ≡ true → u ≡ s)
    → (u : ℕ) (man : Man) → man_at men u ≡ Some man → man.color ≡ c → (u ≡ k) ⊎ (u ≡ s)
king_or_other men c k s one inside king alone u man found color =
    elim (cases_Bool (same_kind man.kind King)) [
      | inl h ↦ inl (sym (king_place men c u one (on_board men u man found) (is_man_from (man_at men u) man c King found color (same_kind_equal man.kind King h))) ∙ king_place men c k one inside king)
      | inr h ↦ inr (alone u (rw found (is_non_king_from c man (rw color (same_color_self c)) h)))
    ]

-- What a mate shows, where the winner w has beside its king one man, a k on s: where the kings stand, that the man checks,
-- and that each square next to the loser's king has another man of the loser's, is next to the winner's king, or is
-- attacked by that man.
pub record Shown (q : Board) (w : Color) (k : Kind) (s : ℕ) : Type 0 where
  pub ks : ℕ
  pub wk : ℕ
  pub ks_small : ks < 64
  pub wk_small : wk < 64
  pub s_small : s < 64
  pub loser : is_man (other_color w) King (man_at q.men ks) ≡ true
  pub winner : is_man w King (man_at q.men wk) ≡ true
  pub distinct : wk ≢ ks
  pub far : steps_apart ks wk ≢ 1
  pub aims : aims_at w k s ks ≡ true
  pub covered : (n : ℕ) → n < 64 → steps_apart ks n ≡ 1 → (is_non_king (other_color w) (man_at q.men n) ≡ true) ⊎ ((steps_apart wk n ≡ 1) ⊎ (aims_at w k s n ≡ true))

cover_shown : (q : Board) (w : Color) (k : Kind) (s ks wk n : ℕ) (j : Kind) (u : ℕ) (counted : Option ℕ) → is_man w k (man_at q.men s) ≡ true → ((v : ℕ) → is_non_king w (man_at q.men v) ≡ true → v ≡ s)
    → Covered q (here q) w ks wk n j u counted
    → (is_non_king (other_color w) (man_at q.men n) ≡ true) ⊎ ((steps_apart wk n ≡ 1) ⊎ (aims_at w k s n ≡ true))
cover_shown q w k s ks wk n j u counted stands alone (Blocked i on stuck o is) = inl (non_king_stands q (other_color w) i n on).0
cover_shown q w k s ks wk n j u counted stands alone (NextToKing near) = inr (inl near)
cover_shown q w k s ks wk n j u counted stands alone (Attacked i v attacks same) =
    let on = non_king_stands q w i v attacks.attacker in
    let place = alone v on.0 in
    let K : ℕ → Type 0 = λ x. is_kind i (man_at q.men x) ≡ true in
    let kind = one_kind_there (man_at q.men s) w k i stands (subst K place on.1) in
    let A : Kind → Type 0 = λ x. aims_at w x s n ≡ true in
    let B : ℕ → Type 0 = λ x. aims_at w i x n ≡ true in
    inr (inr (subst A kind (subst B place attacks.aims)))

pub shown : (q : Board) (w : Color) (k : Kind) → IsValid q → IsMated q (other_color w) → (one : HasOneBeside q.men w k) → Shown q w k one.square
shown q w k valid mate one =
    let threat = mate_threatens q (here q) q w valid (facts_here q) mate in
    let ks = threat.0 in
    let wk = threat.1 in
    let t = threat.2 in
    let s = one.square in
    let on = non_king_stands q w t.kind t.square t.checks.checker in
    let place = one.alone t.square on.0 in
    let K : ℕ → Type 0 = λ x. is_kind t.kind (man_at q.men x) ≡ true in
    let kind = one_kind_there (man_at q.men s) w k t.kind one.stands (subst K place on.1) in
    let A : Kind → Type 0 = λ x. aims_at w x s ks ≡ true in
    let B : ℕ → Type 0 = λ x. aims_at w t.kind x ks ≡ true in
    let S : ℕ → Type 0 = λ x. x < 64 in
    record {
      ks = ks;
      wk = wk;
      ks_small = t.loser.small;
      wk_small = t.winner.small;
      s_small = subst S place t.checks.checker.small;
      loser = king_stands_on q (other_color w) ks t.loser;
      winner = king_stands_on q w wk t.winner;
      distinct = t.distinct;
      far = t.far;
      aims = subst A kind (subst B place t.checks.aims);
      covered = λ n small step. cover_shown q w k s ks wk n t.kind t.square (t.counted n) one.stands one.alone (t.covered n small step);
    }

-- a side with only its king does not mate
pub bare_mates_not : (q : Board) (w : Color) → IsValid q → HasOnlyKing q.men w → IsMated q (other_color w) → ⊥
bare_mates_not q w valid bare mate =
    let threat = mate_threatens q (here q) q w valid (facts_here q) mate in
    let on = non_king_stands q w threat.2.kind threat.2.square threat.2.checks.checker in
    both_ways (is_non_king w (man_at q.men threat.2.square)) (bare threat.2.square) on.0

-- a man other than a king
pub record NonKing (o : Option Man) (c : Color) : Type 0 where
  pub man : Man
  pub found : o ≡ Some man
  pub own : same_color man.color c ≡ true
  pub other : same_kind man.kind King ≡ false

pub non_king_of : (o : Option Man) (c : Color) → is_non_king c o ≡ true → NonKing o c
non_king_of None c h = cc
non_king_of (Some man) c h =
    let both = and_parts (same_color man.color c) (not (same_kind man.kind King)) h in
    record { man = man; found = refl; own = both.0; other = not-true (same_kind man.kind King) both.1 }

-- it stands on the board
pub non_king_inside : (men : List (Option Man)) (c : Color) (u : ℕ) → is_non_king c (man_at men u) ≡ true → u < length men
non_king_inside men c u h = (let m = non_king_of (man_at men u) c h in on_board men u m.man m.found)

-- a man of another kind than a king
pub non_king_man : (o : Option Man) (c : Color) (k : Kind) → is_man c k o ≡ true → k ≢ King → is_non_king c o ≡ true
non_king_man o c k h no_king =
    let m = man_of o c k h in
    rw (m.found) (is_non_king_from c m.man (rw (m.color) (same_color_self c)) (rw (m.kind) (other_kind k King no_king)))
