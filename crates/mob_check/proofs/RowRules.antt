-- The rules for an origin and a kind: that what they ask lies in all sets that keep them, and that sets that have it keep them.
use Rattle.std.proofs.Common.{◌≡◌, ℕ, ◌+◌, ◌-◌, ◌<◌, Bool, true, false, not, ◌&&◌, ◌||◌, ◌==◌, List, Some, refl, sym, ap, ◌∙◌, inl, inr}
use Rattle.std.specs.List.{list_any}
use Rattle.std.proofs.lemmas.Bool.{and_parts, and_from, or_cases, or_left, or_right, not-true}
use Rattle.cha_board.specs.declared.men.Color.{Color}
use Rattle.cha_board.specs.declared.men.Color.TheVariants.{White, Black}
use Rattle.cha_board.specs.declared.men.Kind.{Kind}
use Rattle.cha_board.specs.declared.men.Kind.TheVariants.{Pawn, Knight, Bishop, Rook, Queen, King}
use Rattle.cha_board.specs.Men.{other_color, same_kind}
use Rattle.cha_board.specs.Squares.{squares, rank_of}
use Rattle.cha_board.specs.Shifts.{is_ahead}
use Rattle.cha_board.specs.SquareSets.{set_of, has_square}
use Rattle.cha_board.proofs.SetLaws.{has-set_of}
use Rattle.cha_board.proofs.Scans.{any_square_at}
use Rattle.cha_board.proofs.Contents.{some_square, in_set_of}
use Rattle.cha_moves.specs.Moves.{is_promotion}
use Rattle.mob_law.specs.Reach.{steps_to}
use Rattle.mob_sets.specs.Mobility.{Sets}
use Rattle.mob_check.specs.declared.ground.Ground.{Ground}
use Rattle.mob_check.specs.SingleSteps.{is_stepped_to, stays}
use Rattle.mob_check.specs.Grounds.{side_in}
use Rattle.mob_check.specs.Rules.{is_barred, goes_on, is_entered, comes_on, ends_on, is_struck, passes_on, is_passed, is_left, is_freed, AreRules}

-- what is in the set of a test
pub shown : (set : List Bool) (f : ℕ → Bool) → set ≡ set_of f → (u : ℕ) → has_square set u ≡ true → (u < 64) × (f u ≡ true)
shown set f is u h = in_set_of f u (sym (ap (λ x. has_square x u) is) ∙ h)

pub shows : (set : List Bool) (f : ℕ → Bool) → set ≡ set_of f → (u : ℕ) → u < 64 → f u ≡ true → has_square set u ≡ true
shows set f is u small h = ap (λ x. has_square x u) is ∙ has-set_of f u small ∙ h

-- a fact for each kind that a pawn may become
pub each_promotion : (P : Kind → Type 0) → P Queen → P Rook → P Bishop → P Knight → (j : Kind) → is_promotion (Some j) ≡ true → P j
each_promotion P q r b n Queen h = q
each_promotion P q r b n Rook h = r
each_promotion P q r b n Bishop h = b
each_promotion P q r b n Knight h = n
each_promotion P q r b n Pawn h = cc
each_promotion P q r b n King h = cc

stepped_grows : (c : Color) (k : Kind) (set row : List Bool) (t : ℕ) → ((u : ℕ) → u < 64 → has_square set u ≡ true → has_square row u ≡ true) → is_stepped_to c k set t ≡ true → is_stepped_to c k row t ≡ true
unfolding is_stepped_to
stepped_grows c k set row t grows h =
    let from = some_square (λ u. has_square set u && steps_to c k u t) h in
    let both = and_parts (has_square set from.0) (steps_to c k from.0 t) from.2 in
    any_square_at (λ u. has_square row u && steps_to c k u t) from.0 from.1 (and_from (has_square row from.0) (steps_to c k from.0 t) (grows from.0 from.1 both.0) both.1)

module _ (g : Ground) (o : ℕ) (c : Color) (k : Kind) (set row : List Bool) (grows : (u : ℕ) → u < 64 → has_square set u ≡ true → has_square row u ≡ true) where
  struck_grows : (x : ℕ) → is_struck g c k set x ≡ true → is_struck g c k row x ≡ true
  unfolding is_struck
  struck_grows x h =
      let first = has_square g.fixed x && has_square (side_in g (other_color c)).men x && not (is_barred g c k x) in
      let both = and_parts first (is_stepped_to c k set x) h in
      and_from first (is_stepped_to c k row x) both.0 (stepped_grows c k set row x grows both.1)

  ahead_grows : (d : Color) (a b : ℕ → Bool) → ((t : ℕ) → t < 64 → a t ≡ true → b t ≡ true) → (x : ℕ) → is_ahead d (set_of a) x ≡ true → is_ahead d (set_of b) x ≡ true
  ahead_grows White a b more x h =
      let both = and_parts (not (rank_of x == 0)) (has_square (set_of a) (x - 8)) h in
      let here = in_set_of a (x - 8) both.1 in
      and_from (not (rank_of x == 0)) (has_square (set_of b) (x - 8)) both.0 (has-set_of b (x - 8) here.0 ∙ more (x - 8) here.0 here.1)
  ahead_grows Black a b more x h =
      let both = and_parts (not (rank_of x == 7)) (has_square (set_of a) (x + 8)) h in
      let here = in_set_of a (x + 8) both.1 in
      and_from (not (rank_of x == 7)) (has_square (set_of b) (x + 8)) both.0 (has-set_of b (x + 8) here.0 ∙ more (x + 8) here.0 here.1)

  passed_grows : (x : ℕ) → is_passed g c k set x ≡ true → is_passed g c k row x ≡ true
  unfolding is_passed passes_on
  passed_grows x h =
      let target = (side_in g c).target in
      let both = and_parts (same_kind k Pawn) (is_ahead (other_color c) (set_of (passes_on g c k set)) x) h in
      and_from (same_kind k Pawn) (is_ahead (other_color c) (set_of (passes_on g c k row)) x) both.0
      (ahead_grows (other_color c) (passes_on g c k set) (passes_on g c k row) (λ t small passes.
      let two = and_parts (has_square target t) (is_stepped_to c k set t) passes in
      and_from (has_square target t) (is_stepped_to c k row t) two.0 (stepped_grows c k set row t grows two.1)) x both.1)

  left_grows : o < 64 → (x : ℕ) → is_left g o c k set x ≡ true → is_left g o c k row x ≡ true
  unfolding is_left
  left_grows small x h =
      let goes = list_any (goes_on g c k o) squares in
      let a = and_parts ((x == o) && has_square set o) goes h in
      let b = and_parts (x == o) (has_square set o) a.0 in
      and_from ((x == o) && has_square row o) goes (and_from (x == o) (has_square row o) b.0 (grows o small b.1)) a.1

  -- where a man may be on more squares, more becomes loose
  pub freed_grows : o < 64 → (x : ℕ) → is_freed g o c k set x ≡ true → is_freed g o c k row x ≡ true
  unfolding is_freed
  freed_grows small x h =
      let two = is_struck g c k row x || is_passed g c k row x in
      elim (or_cases (is_struck g c k set x || is_passed g c k set x) (is_left g o c k set x) h) [
        | inl e ↦ (elim (or_cases (is_struck g c k set x) (is_passed g c k set x) e) [
          | inl f ↦ or_left two (is_left g o c k row x) (or_left (is_struck g c k row x) (is_passed g c k row x) (struck_grows x f))
          | inr f ↦ or_left two (is_left g o c k row x) (or_right (is_struck g c k row x) (is_passed g c k row x) (passed_grows x f))
        ])
        | inr e ↦ or_right two (is_left g o c k row x) (left_grows small x e)
      ]

module _ (g : Ground) (o : ℕ) (c : Color) (k : Kind) (row : List Bool) where
  -- what a man comes to lies in sets that keep the rules
  pub comes_inside : (r : Sets) → AreRules g r o c k → ((u : ℕ) → has_square row u ≡ true → r.has o k u ≡ true) → (t : ℕ) → t < 64 → comes_on g c k row t ≡ true → r.has o k t ≡ true
  unfolding comes_on is_entered
  comes_inside r rules holds t small h =
      let both = and_parts (is_entered g c k row t) (stays c k t) h in
      let from = some_square (λ u. has_square row u && goes_on g c k u t) both.0 in
      let two = and_parts (has_square row from.0) (goes_on g c k from.0 t) from.2 in
      rules.stay from.0 t from.1 small (holds from.0 two.0) two.1 both.1

  -- what a pawn becomes lies in sets that keep the rules
  pub ends_inside : (r : Sets) → AreRules g r o c k → ((u : ℕ) → has_square row u ≡ true → r.has o k u ≡ true)
      → (j : Kind) → is_promotion (Some j) ≡ true → (t : ℕ) → t < 64 → ends_on g c k row t ≡ true → r.has o j t ≡ true
  unfolding ends_on is_entered
  ends_inside r rules holds j promotion t small h =
      let both = and_parts (is_entered g c k row t) (not (stays c k t)) h in
      let from = some_square (λ u. has_square row u && goes_on g c k u t) both.0 in
      let two = and_parts (has_square row from.0) (goes_on g c k from.0 t) from.2 in
      rules.become from.0 t from.1 small (holds from.0 two.0) two.1 (not-true (stays c k t) both.1) j promotion

  -- sets that have all this keep the rules
  pub rules_from : (s : Sets) → o < 64 → ((u : ℕ) → u < 64 → s.has o k u ≡ true → has_square row u ≡ true)
      → ((t : ℕ) → t < 64 → comes_on g c k row t ≡ true → s.has o k t ≡ true)
      → ((j : Kind) → is_promotion (Some j) ≡ true → (t : ℕ) → t < 64 → ends_on g c k row t ≡ true → s.has o j t ≡ true)
      → ((x : ℕ) → x < 64 → is_freed g o c k row x ≡ true → s.loose x ≡ true) → AreRules g s o c k
  unfolding comes_on ends_on is_entered
  rules_from s small-o inside come become free =
      let entered = λ (u t : ℕ) (small : u < 64) (here : s.has o k u ≡ true) (goes : goes_on g c k u t ≡ true).
      any_square_at (λ x. has_square row x && goes_on g c k x t) u small (and_from (has_square row u) (goes_on g c k u t) (inside u small here) goes) in
      record {
        stay = λ u t small small' here goes stay. come t small' (and_from (is_entered g c k row t) (stays c k t) (entered u t small here goes) stay);
        become = λ u t small small' here goes ends j promotion. become j promotion t small' (and_from (is_entered g c k row t) (not (stays c k t)) (entered u t small here goes) (ap not ends));
        free = λ set holds x small h. free x small (freed_grows g o c k set row (λ u within here. inside u within (holds u here)) small-o x h);
      }

-- rules for all kinds
pub each_kind : (P : Kind → Type 0) → P Pawn → ((k : Kind) → same_kind k Pawn ≡ false → P k) → (k : Kind) → P k
each_kind P pawn others Pawn = pawn
each_kind P pawn others Knight = others Knight refl
each_kind P pawn others Bishop = others Bishop refl
each_kind P pawn others Rook = others Rook refl
each_kind P pawn others Queen = others Queen refl
each_kind P pawn others King = others King refl

pub each_piece : (P : Kind → Type 0) → P Knight → P Bishop → P Rook → P Queen → P King → (k : Kind) → same_kind k Pawn ≡ false → P k
each_piece P n b r q k Pawn h = cc
each_piece P n b r q k Knight h = n
each_piece P n b r q k Bishop h = b
each_piece P n b r q k Rook h = r
each_piece P n b r q k Queen h = q
each_piece P n b r q k King h = k
