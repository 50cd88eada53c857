-- Legal moves keep lone minor pieces, and so the law.
use Rattle.std.proofs.Common.{◌≡◌, ℕ, Bool, true, false, ◌||◌, Option, Some, None, refl, sym, subst, ap, ◌∙◌, inl, inr}
use Rattle.std.proofs.lemmas.Bool.{and_parts, and_from, and_left, both_ways, or_cases, or_left, or_right}
use Rattle.cha_board.specs.declared.men.Color.{Color}
use Rattle.cha_board.specs.declared.men.Kind.{Kind}
use Rattle.cha_board.specs.declared.men.Kind.TheVariants.{Pawn, Knight, Bishop, Rook, Queen, King}
use Rattle.cha_board.specs.declared.men.Man.{Man}
use Rattle.cha_board.specs.Men.{other_color, same_color, same_kind, is_kind, is_man}
use Rattle.cha_board.specs.Squares.{color_of_square}
use Rattle.cha_board.specs.Board.{Board, man_at, IsValid}
use Rattle.cha_board.proofs.Identity.{same_color_self, same_color_equal, same_kind_equal, other_other, two_kinds}
use Rattle.cha_board.proofs.ManTests.{either_color, is_non_king_from}
use Rattle.cha_moves.specs.Step.{Move}
use Rattle.cha_moves.specs.Moves.{men_after, after}
use Rattle.cha_moves.specs.Ends.{IsMated, IsUnwinnable}
use Rattle.cha_moves.proofs.Listed.{IsListed}
use Rattle.mob_law.proofs.Begin.{facts_begin}
use Rattle.mob_law.proofs.CarriedFacts.{Facts, FactsHold}
use Rattle.mob_law.proofs.Mating.{mate_threatens}
use Rattle.mob_small.specs.Small.{HasOneBeside}
use Rattle.mob_small.proofs.Scene.{here, facts_here, non_king_stands, non_king_of}
use Rattle.mob_small.specs.Lone.{HasOnly, is_queen, is_bishop_on, is_heavy_or_bishop_on, HasMenOn, IsLoneUnwinnable, LoneKnight, OneColor}
use Rattle.mob_small.proofs.Colors.{is_one_color}
use Rattle.mob_small.proofs.Uncovering.{ChecksOnce, checks_once}
use Rattle.mob_small.proofs.Knights.{knight_mates_not}
use Rattle.mob_small.proofs.Bishops.{bishops_mate_not}
use Rattle.mob_small.proofs.KeptSets.{keeps_color, kept, kept_closed, as_first, from_non_king, one_from, never}

-- a test that a man still passes on another square, where a bishop keeps the colour of its square
abbrev Keeps : (ℕ → Option Man → Bool) → Type 0
Keeps test = (man : Man) (o u : ℕ) → keeps_color man.kind u o ≡ true → test o (Some man) ≡ true → test u (Some man) ≡ true

bishop_keeps : (square c : Color) → Keeps (is_bishop_on square c)
unfolding keeps_color
bishop_keeps square c man o u color h =
    let both = and_parts (is_man c Bishop (Some man)) (same_color (color_of_square o) square) h in
    let kind = (and_parts (same_color man.color c) (same_kind man.kind Bishop) both.0).1 in
    let same : is_one_color u o ≡ true = rw kind at color in
    let e = same_color_equal (color_of_square u) (color_of_square o) same in
    and_from (is_man c Bishop (Some man)) (same_color (color_of_square u) square) both.0 (rw e both.1)

heavy_keeps : (square c : Color) → Keeps (is_heavy_or_bishop_on square c)
heavy_keeps square c man o u color h =
    let heavy = is_man c Rook (Some man) || is_man c Queen (Some man) in
    elim (or_cases heavy (is_bishop_on square c o (Some man)) h) [
      | inl x ↦ or_left heavy (is_bishop_on square c u (Some man)) x
      | inr x ↦ or_right heavy (is_bishop_on square c u (Some man)) (bishop_keeps square c man o u color x)
    ]

-- What moves have made of the men beside a king:
module _ (p : Board) (q : Board) (origin : ℕ → ℕ) (facts : Facts p (kept p) q origin) (c : Color) where
  only_kept : (test : ℕ → Option Man → Bool) → Keeps test → HasOnly p.men c test → HasOnly q.men c test
  only_kept test keeps only u h =
      let m = non_king_of (man_at q.men u) c h in
      let first = as_first p q origin facts c u m.man m.found in
      let P : Option Man → Type 0 = λ x. test (origin u) x ≡ true in
      let Q : Option Man → Type 0 = λ x. test u x ≡ true in
      subst Q (sym m.found) (keeps m.man (origin u) u first.1 (subst P first.0 (only (origin u) (from_non_king p q origin facts c u h))))

-- no pawn is a man that passes such a test
no_pawns : (p : Board) (w : Color) (own other : ℕ → Option Man → Bool) → HasOnly p.men w own → HasOnly p.men (other_color w) other
    → ((man : Man) (o : ℕ) → man.kind ≡ Pawn → (own o (Some man) ≡ false) × (other o (Some man) ≡ false)) → (o : ℕ) (found : Option Man) → man_at p.men o ≡ found → is_kind Pawn found ≡ true → ⊥
no_pawns p w own other has has' out o None found pawn = cc
no_pawns p w own other has has' out o (Some man) found pawn =
    let kind = same_kind_equal man.kind Pawn pawn in
    let none : same_kind man.kind King ≡ false = rw kind refl in
    let tests = out man o kind in
    elim (either_color man.color w) [
      | inl e ↦ (
          let P : Option Man → Type 0 = λ x. own o x ≡ true in
          both_ways (own o (Some man)) tests.0 (subst P found (has o (rw found (is_non_king_from w man (rw e (same_color_self w)) none)))))
      | inr e ↦ (
          let P : Option Man → Type 0 = λ x. other o x ≡ true in
          both_ways (other o (Some man)) tests.1 (subst P found (has' o (rw found (is_non_king_from (other_color w) man (rw e (same_color_self (other_color w))) none)))))
    ]

not_kind : (c : Color) (k : Kind) (man : Man) → same_kind man.kind k ≡ false → is_man c k (Some man) ≡ false
not_kind c k man h = two_kinds (same_color man.color c) (same_kind man.kind k) h

pawn_is_no : (c : Color) (k : Kind) (man : Man) → same_kind Pawn k ≡ false → man.kind ≡ Pawn → is_man c k (Some man) ≡ false
pawn_is_no c k man other kind = not_kind c k man (rw kind other)

-- the tests of the two laws pass no pawn
no_pawn_on : (square c : Color) (man : Man) (o : ℕ) → man.kind ≡ Pawn → (is_bishop_on square c o (Some man) ≡ false) × (is_heavy_or_bishop_on square c o (Some man) ≡ false)
no_pawn_on square c man o kind =
    let bishop : is_bishop_on square c o (Some man) ≡ false = and_left (is_man c Bishop (Some man)) (same_color (color_of_square o) square) (pawn_is_no c Bishop man refl kind) in
    (bishop, rw (pawn_is_no c Rook man refl kind, pawn_is_no c Queen man refl kind) bishop)

-- A lone knight:
module _ (p : Board) (w : Color) (valid : IsValid p) (one : HasOneBeside p.men w Knight) (queens : HasOnly p.men (other_color w) (is_queen (other_color w))) where
  no_mate_at : (q : Board) → IsValid q → FactsHold p (kept p) q → IsMated q (other_color w) → ⊥
  no_mate_at q valid' held mate =
      let threat = mate_threatens q (here q) q w valid' (facts_here q) mate in
      let on = non_king_stands q w threat.2.kind threat.2.square threat.2.checks.checker in
      knight_mates_not q w valid' (one_from p q held.0 held.1 w Knight one threat.2.square on.0)
      (only_kept p q held.0 held.1 (other_color w) (is_queen (other_color w)) (λ man o u color h. h) queens) mate

  knights : HasOnly p.men w (λ u man. is_man w Knight man)
  knights u h = (let P : ℕ → Type 0 = λ x. is_man w Knight (man_at p.men x) ≡ true in subst P (sym (one.alone u h)) one.stands)

  knight_bounded : IsUnwinnable p w
  knight_bounded ms line =
      let none : (o : ℕ) → is_kind Pawn (man_at p.men o) ≡ true → ⊥ = λ o pawn. (
      no_pawns p w (λ u man. is_man w Knight man) (is_queen (other_color w)) knights queens
      (λ man o kind. (pawn_is_no w Knight man refl kind, pawn_is_no (other_color w) Queen man refl kind)) o (man_at p.men o) refl pawn) in
      let closed = kept_closed p valid none in
      let held = facts_begin p (kept p) closed in
      never p w closed (λ q m valid' held' found after_held after_valid mate. no_mate_at (after q m) after_valid after_held mate) p ms valid held (no_mate_at p valid held) line

other_same : (a b : Color) → other_color a ≡ other_color b → a ≡ b
other_same a b e = sym (other_other a) ∙ ap other_color e ∙ other_other b

-- Bishops of one colour:
module _ (p : Board) (w square : Color) (valid : IsValid p) (has : HasMenOn square p.men w) where
  has_still : (q : Board) → FactsHold p (kept p) q → HasMenOn square q.men w
  has_still q held = (
    only_kept p q held.0 held.1 w (is_bishop_on square w) (bishop_keeps square w) has.0,
    only_kept p q held.0 held.1 (other_color w) (is_heavy_or_bishop_on square (other_color w)) (heavy_keeps square (other_color w)) has.1,
  )

  no_mate_after : (q : Board) (m : Move) → IsValid q → FactsHold p (kept p) q → IsListed q m → FactsHold p (kept p) (after q m) → IsValid (after q m) → IsMated (after q m) (other_color w) → ⊥
  unfolding after
  no_mate_after q m valid' held found held' after_valid mate =
      let side : q.side ≡ w = other_same q.side w mate.to_move in
      let O : Color → Type 0 = λ c. HasOnly q.men c (is_bishop_on square c) in
      let C : Color → Type 0 = λ c. ChecksOnce (men_after q m) c in
      let once = subst C side (checks_once q m square valid' found.from found.to found.legal (subst O (sym side) (has_still q held).0)) in
      bishops_mate_not (after q m) w square after_valid (has_still (after q m) held') once mate

  bishops_bounded : (IsMated p (other_color w) → ⊥) → IsUnwinnable p w
  bishops_bounded free ms line =
      let none : (o : ℕ) → is_kind Pawn (man_at p.men o) ≡ true → ⊥ = λ o pawn. (
      no_pawns p w (is_bishop_on square w) (is_heavy_or_bishop_on square (other_color w)) has.0 has.1
      (λ man o kind. ((no_pawn_on square w man o kind).0, (no_pawn_on square (other_color w) man o kind).1)) o (man_at p.men o) refl pawn) in
      let closed = kept_closed p valid none in
      never p w closed no_mate_after p ms valid (facts_begin p (kept p) closed) free line

-- so w has no mate by legal moves
pub lone_bounded : (p : Board) (w : Color) → IsValid p → IsLoneUnwinnable p w → IsUnwinnable p w
lone_bounded p w valid (LoneKnight one queens) = knight_bounded p w valid one queens
lone_bounded p w valid (OneColor has free) = bishops_bounded p w has.0 valid has.1 free
