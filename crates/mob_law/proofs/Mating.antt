-- A mate where the facts hold is a threat in the sets.
use Rattle.std.proofs.Common.{◌≡◌, ◌≢◌, ℕ, ◌<◌, true, false, not, ◌||◌, ◌==◌, ◌⊎◌, List, [], length, Option, Some, None, Contains, refl, sym, subst, ap, ◌∙◌, arith, inl, inr}
use Rattle.std.proofs.lemmas.Bool.{and_from, or_left, or_right, both_ways, false_from_ne_true, true_from_ne_false, not-true, cases_Bool, cases_eq, eq-eqb, eqb-true}
use Rattle.std.proofs.lemmas.Option.{same_Some}
use Rattle.cha_board.specs.declared.men.Color.{Color}
use Rattle.cha_board.specs.declared.men.Kind.TheVariants.{King}
use Rattle.cha_board.specs.declared.men.Man.{Man}
use Rattle.cha_board.specs.Men.{other_color, same_color, same_kind, is_man, is_non_king}
use Rattle.cha_board.specs.Squares.{steps_apart, aims_at, between}
use Rattle.cha_board.specs.Board.{Board, man_at, is_empty, is_clear, attacked, king_of, in_check, has_one_king, IsValid}
use Rattle.cha_board.proofs.Sightings.{attacked_from}
use Rattle.cha_moves.specs.Step.{Move}
use Rattle.cha_moves.specs.Moves.{may_enter, is_pseudo_legal, moved, men_after, is_legal_in}
use Rattle.cha_moves.specs.Ends.{IsMated}
use Rattle.cha_board.proofs.Identity.{other_other, same_color_self, same_color_equal, same_kind_equal, ManOf, man_of, is_man_from, none_some, on_board}
use Rattle.cha_moves.proofs.Kept.{kings_kept, king_place}
use Rattle.cha_moves.proofs.Made.{may_gives, length-moved, moved_to, moved_from, moved_other}
use Rattle.cha_moves.proofs.Listed.{listed}
use Rattle.cha_moves.proofs.KingSquare.{king_stands}
use Rattle.mob_law.specs.Reach.{is_fixed, is_open_through}
use Rattle.mob_sets.specs.Mobility.{Sets}
use Rattle.mob_law.specs.Threats.{HasAtMostOneMan, Checks, ends_check, Covered, Blocked, NextToKing, Attacked, Threat}
use Rattle.mob_law.proofs.CarriedFacts.{Facts, FactsHold}
use Rattle.cha_board.proofs.ManTests.{either_color, not_of_other, is_non_king_from}
use Rattle.cha_moves.proofs.Near.{king_aims}
use Rattle.mob_law.proofs.Geometry.{near, king_aims_from}
use Rattle.mob_law.proofs.Standing.{all_weaker, empty_not_fixed, open_from, king_on, non_king_on, origin_is_non_king}
use Rattle.mob_law.proofs.KingSteps.{king_may, step_plain}
use Rattle.mob_law.proofs.Attackers.{some_attacker, attacks_by, clear_near}
use Rattle.mob_law.proofs.Counted.{counted_on, counted_here, counted_near, counted_once}
use Rattle.mob_law.proofs.Endings.{cannot_end}

-- an enemy that is no king may be captured
may_enter_enemy : (c : Color) (man : Man) → same_color man.color c ≡ false → same_kind man.kind King ≡ false → may_enter c (Some man) ≡ true
may_enter_enemy c man enemy other = and_from (not (same_color man.color c)) (not (same_kind man.kind King)) (ap not enemy) (ap not other)

-- where the two kings stand
abbrev loser_on : Board → Color → ℕ
loser_on q w = king_of q.men (other_color w)

abbrev winner_on : Board → Color → ℕ
winner_on q w = king_of q.men w

-- the loser's king goes to n
abbrev hop : Board → Color → ℕ → Move
hop q w n = record { from = loser_on q w; to = n; promotion = None }

-- a mate, at a valid position where the facts hold
record Scene (p : Board) (s : Sets) (q : Board) (w : Color) (origin : ℕ → ℕ) : Type 0 where
  valid : IsValid q
  facts : Facts p s q origin
  mate : IsMated q (other_color w)

-- the two kings stand on squares that are not next to each other
record Stand (q : Board) (w : Color) : Type 0 where
  loser : ManOf (man_at q.men (loser_on q w)) (other_color w) King
  loser_is : is_man (other_color w) King (man_at q.men (loser_on q w)) ≡ true
  winner_is : is_man w King (man_at q.men (winner_on q w)) ≡ true
  loser_small : loser_on q w < 64
  winner_small : winner_on q w < 64
  far : (steps_apart (loser_on q w) (winner_on q w) == 1) ≡ false

-- kings next to each other would give check
pub kings_far : (q : Board) (w : Color) (a b : ℕ) → a < 64 → b < 64 → b ≡ king_of q.men w → in_check q.men w ≡ false → is_man (other_color w) King (man_at q.men a) ≡ true → (steps_apart a b == 1) ≡ true → ⊥
unfolding in_check
kings_far q w a b small small' place safe king step =
    let k = man_of (man_at q.men a) (other_color w) King king in
    let color = k.color in
    let kind = k.kind in
    let own : same_color k.man.color (other_color w) ≡ true = rw color (same_color_self (other_color w)) in
    let aims : aims_at (other_color w) k.man.kind a b ≡ true = rw kind (king_aims_from (other_color w) a b step) in
    let hit = attacks_by q.men (other_color w) b a k.man k.found own aims (clear_near q.men a b (near a b small small' step).clear) in
    let seen : attacked q.men (other_color w) (king_of q.men w) ≡ true = rw place at (attacked_from q.men (other_color w) b a small hit) in
    both_ways (attacked q.men (other_color w) (king_of q.men w)) safe seen

-- the man that gives check
record Checker (p : Board) (s : Sets) (q : Board) (w : Color) (origin : ℕ → ℕ) : Type 0 where
  square : ℕ
  man : Man
  found : man_at q.men square ≡ Some man
  own : same_color man.color w ≡ true
  other : same_kind man.kind King ≡ false
  clear : is_clear q.men square (loser_on q w) ≡ true
  checks : Checks p s w (loser_on q w) man.kind square

-- At a mate where the facts hold:
module _ (p : Board) (s : Sets) (q : Board) (w : Color) (origin : ℕ → ℕ) (scene : Scene p s q w origin) where
  -- where the two kings stand
  stand : Stand q w
  stand =
      let valid = scene.valid in
      let loser_is = king_stands q.men (other_color w) (valid.kings (other_color w)) in
      let winner_is = king_stands q.men w (valid.kings w) in
      let loser = man_of (man_at q.men (loser_on q w)) (other_color w) King loser_is in
      let winner = man_of (man_at q.men (winner_on q w)) w King winner_is in
      let loser_small : loser_on q w < 64 = rw valid.size at (on_board q.men (loser_on q w) loser.man loser.found) in
      let winner_small : winner_on q w < 64 = rw valid.size at (on_board q.men (winner_on q w) winner.man winner.found) in
      let S : Color → Type 0 = λ c. in_check q.men (other_color c) ≡ false in
      let safe : in_check q.men (other_color (other_color w)) ≡ false = subst S scene.mate.to_move (not-true (in_check q.men (other_color q.side)) valid.opponent) in
      let S' : Color → Type 0 = λ c. in_check q.men c ≡ false in
      let safe' : in_check q.men w ≡ false = subst S' (other_other w) safe in
      record {
        loser = loser;
        loser_is = loser_is;
        winner_is = winner_is;
        loser_small = loser_small;
        winner_small = winner_small;
        far = false_from_ne_true (steps_apart (loser_on q w) (winner_on q w) == 1) (λ step.
            kings_far q w (loser_on q w) (winner_on q w) loser_small winner_small refl safe' loser_is step);
      }

-- With the two kings:
module _ (p : Board) (s : Sets) (q : Board) (w : Color) (origin : ℕ → ℕ) (scene : Scene p s q w origin) (st : Stand q w) where
  -- the man that gives check is in reach where it stands, and it is no king
  checker : Checker p s q w origin
  unfolding in_check
  checker =
      let seen : attacked q.men w (loser_on q w) ≡ true = rw other_other at scene.mate.check in
      let from = some_attacker q.men w (loser_on q w) seen in
      let u = from.0 in
      let a = from.2 in
      let size = scene.valid.size in
      let none : same_kind a.man.kind King ≡ false = false_from_ne_true (same_kind a.man.kind King) (λ h.
      let e = same_kind_equal a.man.kind King h in
      let place = king_place q.men w u (scene.valid.kings w) (omega (arith, from.1, size)) (is_man_from (man_at q.men u) a.man w King a.found (same_color_equal a.man.color w a.own) e) in
      let step : (steps_apart u (loser_on q w) == 1) ≡ true = king_aims w u (loser_on q w) (rw e at a.aims) in
      let back = (near u (loser_on q w) from.1 st.loser_small step).back in
      both_ways _ st.far (rw place back)) in
      record {
        square = u;
        man = a.man;
        found = a.found;
        own = a.own;
        other = none;
        clear = a.clear;
        checks = record {
          checker = non_king_on p s q origin scene.facts scene.valid w u a.man a.found a.own none;
          other = λ e. not_of_other w King (man_at q.men u) a.man a.found a.own (rw e st.loser_is);
          aims = a.aims;
          open_way = open_from p s q origin scene.facts u (loser_on q w) a.clear;
        };
      }

  -- since the loser has no legal move, its king would be attacked on n
  hop_checked : (n : ℕ) → n < 64 → is_pseudo_legal q (hop q w n) ≡ true
      → in_check (men_after q (hop q w n)) (other_color w) ≡ true
  unfolding is_legal_in
  hop_checked n small may =
      true_from_ne_false (in_check (men_after q (hop q w n)) (other_color w)) (λ safe.
      let C : Color → Type 0 = λ c. in_check (men_after q (hop q w n)) c ≡ false in
      let safe' : in_check (men_after q (hop q w n)) q.side ≡ false = subst C (sym scene.mate.to_move) safe in
      let fine : is_legal_in q (hop q w n) ≡ true = and_from (is_pseudo_legal q (hop q w n)) (not (in_check (men_after q (hop q w n)) q.side)) may (ap not safe') in
      let there = listed q (hop q w n) st.loser_small small fine in
      let L : List Move → Type 0 = λ ms. Contains ms (hop q w n) in
      let nowhere : Contains [] (hop q w n) = subst L scene.mate.stuck there in
      omega (arith, nowhere.1))

-- With the man that gives check, and a square n next to the loser's king:
module _ (p : Board) (s : Sets) (q : Board) (w : Color) (origin : ℕ → ℕ) (scene : Scene p s q w origin) (st : Stand q w) (c : Checker p s q w origin) (n : ℕ) (small : n < 64)
    (step : (steps_apart (loser_on q w) n == 1) ≡ true) where
  -- what attacks n once the loser's king has gone there
  covered_from : is_pseudo_legal q (hop q w n) ≡ true → Covered p s w (loser_on q w) (winner_on q w) n c.man.kind c.square (counted_on q (other_color w) (loser_on q w) origin n)
  unfolding in_check is_clear is_open_through
  covered_from may_go =
      let k = loser_on q w in
      let valid = scene.valid in
      let size = valid.size in
      let side = scene.mate.to_move in
      let mover = may_gives q (hop q w n) may_go in
      let king : is_man q.side King (man_at q.men k) ≡ true = rw side st.loser_is in
      let plain = step_plain q (hop q w n) king step in
      let a = man_at q.men k in
      let men : List (Option Man) = moved q.men k n a in
      let same : men_after q (hop q w n) ≡ men = plain in
      let in_k : k < length q.men = omega (arith, st.loser_small, size) in
      let in_n : n < length q.men = omega (arith, small, size) in
      let ne = (near k n st.loser_small small step).other in
      let arrived : man_at men n ≡ a = moved_to q.men k n a in_n in
      let left : man_at men k ≡ None = moved_from q.men k n a in_k ne in
      let kings : has_one_king men (other_color w) ≡ true = rw same at (kings_kept q (hop q w n) mover.0 (record { valid = valid; from = st.loser_small; to = small; may = mover.1 }) (other_color w)) in
      let place : king_of men (other_color w) ≡ n = king_place men (other_color w) n kings (rw (length-moved q.men k n a) in_n) (rw arrived st.loser_is) in
      let check : attacked men (other_color (other_color w)) (king_of men (other_color w)) ≡ true = rw same at (hop_checked p s q w origin scene st n small may_go) in
      let check' : attacked men w n ≡ true = rw (other_other, place) at check in
      let from = some_attacker men w n check' in
      let u = from.0 in
      let e = from.2 in
      let not_there : u ≢ n = λ f. not_of_other w King (man_at men u) e.man e.found e.own (rw (f, arrived) st.loser_is) in
      let other : u ≢ k = λ f. none_some (man_at men u) e.man (rw f left) e.found in
      let stood : man_at q.men u ≡ Some e.man = sym (moved_other q.men k n a u other not_there) ∙ e.found in
      elim (cases_Bool (same_kind e.man.kind King)) [
        | inl h ↦ (
            let f = same_kind_equal e.man.kind King h in
            let spot = king_place q.men w u (valid.kings w) (omega (arith, from.1, size)) (is_man_from (man_at q.men u) e.man w King stood (same_color_equal e.man.color w e.own) f) in
            let near_by : (steps_apart u n == 1) ≡ true = king_aims w u n (rw f at e.aims) in
            NextToKing (eqb-true (steps_apart (winner_on q w) n) 1 (rw spot near_by)))
        | inr h ↦ Attacked e.man.kind u (record {
          attacker = non_king_on p s q origin scene.facts valid w u e.man stood e.own h;
          not_there = not_there;
          other = other;
          aims = e.aims;
          open_way = all_weaker (λ v. is_empty men v) (λ v. (v == k) || not (is_fixed p s v)) (between u n) (λ v free.
              elim (cases_eq v k) [
                | inl f ↦ or_left (v == k) (not (is_fixed p s v)) (eq-eqb v k f)
                | inr f ↦ elim (cases_eq v n) [
                  | inl g ↦ (
                      let full : is_empty men v ≡ false = rw (g, arrived, st.loser.found) refl in
                      absurd (both_ways (is_empty men v) full free))
                  | inr g ↦ (
                      let free' : is_empty q.men v ≡ true = rw (moved_other q.men k n a v f g) at free in
                      or_right (v == k) (not (is_fixed p s v)) (rw (empty_not_fixed p s q origin scene.facts v free') refl))
                ]
              ]) e.clear;
        }) (λ lone.
            let first = origin_is_non_king p s q origin scene.facts w u e.man stood e.own h in
            let second = origin_is_non_king p s q origin scene.facts w c.square c.man c.found c.own c.other in
            let together = scene.facts.distinct u c.square e.man c.man stood c.found (lone (origin u) (origin c.square) first second) in
            let one = same_Some e.man c.man (sym stood ∙ (rw together c.found)) in
            (ap (λ (x : Man). x.kind) one, together))
      ]

  -- no king stands next to the loser's
  blocked_at : (d : Color) → is_man d King (man_at q.men n) ≡ true → (d ≡ w) ⊎ (d ≡ other_color w) → ⊥
  blocked_at d king (inl e) =
      let size = scene.valid.size in
      let K : Color → Type 0 = λ x. is_man x King (man_at q.men n) ≡ true in
      let place = king_place q.men w n (scene.valid.kings w) (omega (arith, small, size)) (subst K e king) in
      both_ways (steps_apart (loser_on q w) (winner_on q w) == 1) st.far (rw place step)
  blocked_at d king (inr e) =
      let size = scene.valid.size in
      let K : Color → Type 0 = λ x. is_man x King (man_at q.men n) ≡ true in
      let place = king_place q.men (other_color w) n (scene.valid.kings (other_color w)) (omega (arith, small, size)) (subst K e king) in
      (near (loser_on q w) n st.loser_small small step).other place

  -- a man that stands in its king's way does not end the check of the winner's only man
  stuck_there : (man : Man) → man_at q.men n ≡ Some man → same_color man.color (other_color w) ≡ true → same_kind man.kind King ≡ false → HasAtMostOneMan p w
      → ends_check (other_color w) (loser_on q w) c.square man.kind n ≡ false
  stuck_there man there own other lone =
      let origins = λ (u : ℕ) (other_man : Man) (found : man_at q.men u ≡ Some other_man) (of : same_color other_man.color w ≡ true) (no_king : same_kind other_man.kind King ≡ false).
      origin_is_non_king p s q origin scene.facts w u other_man found of no_king in
      cannot_end q w scene.valid scene.mate (loser_on q w) (winner_on q w) c.square (record {
        loser = st.loser_is;
        winner = st.winner_is;
        ks_small = st.loser_small;
        wk_small = st.winner_small;
        s_small = c.checks.checker.small;
        far = st.far;
        checker = c.man;
        found = c.found;
        own = c.own;
        no_king = c.other;
        clear = c.clear;
        alone = λ u other_man found of no_king. scene.facts.distinct u c.square other_man c.man found c.found
            (lone (origin u) (origin c.square) (origins u other_man found of no_king) (origins c.square c.man c.found c.own c.other));
      }) n man there own other small

  -- each square next to the loser's king is covered: by a man of its own there, or by what attacks it
  covered_at : (o : Option Man) → man_at q.men n ≡ o → Covered p s w (loser_on q w) (winner_on q w) n c.man.kind c.square (counted_on q (other_color w) (loser_on q w) origin n)
  covered_at None there =
      let color = st.loser.color ∙ sym scene.mate.to_move in
      covered_from
      (king_may q (hop q w n) st.loser.man (man_at q.men (loser_on q w)) st.loser.found color st.loser.kind refl (rw there refl) step)
  covered_at (Some man) there =
      let side = scene.mate.to_move in
      elim (cases_Bool (same_kind man.kind King)) [
        | inl h ↦ absurd (blocked_at man.color (is_man_from (man_at q.men n) man man.color King there refl (same_kind_equal man.kind King h)) (either_color man.color w))
        | inr h ↦ elim (cases_Bool (same_color man.color (other_color w))) [
          | inl own ↦ (
              let blocker : is_non_king (other_color w) (man_at q.men n) ≡ true = rw there (is_non_king_from (other_color w) man own h) in
              Blocked man.kind (non_king_on p s q origin scene.facts scene.valid (other_color w) n man there own h) (stuck_there man there own h)
              (origin n) (counted_here q (other_color w) (loser_on q w) origin n step blocker))
          | inr enemy ↦ (
              let color = st.loser.color ∙ sym scene.mate.to_move in
              let E : Color → Type 0 = λ x. may_enter x (man_at q.men n) ≡ true in
              let M : Option Man → Type 0 = λ x. may_enter (other_color w) x ≡ true in
              let enter = subst E (sym side) (subst M (sym there) (may_enter_enemy (other_color w) man enemy h)) in
              covered_from
              (king_may q (hop q w n) st.loser.man (man_at q.men (loser_on q w)) st.loser.found color st.loser.kind refl enter step))
        ]
      ]

-- a mate is a threat
pub mate_threatens : (p : Board) (s : Sets) (q : Board) (w : Color) → IsValid q → FactsHold p s q → IsMated q (other_color w) → (ks : ℕ) × (wk : ℕ) × Threat p s w ks wk
mate_threatens p s q w valid held mate =
    let origin = held.0 in
    let scene : Scene p s q w origin = record { valid = valid; facts = held.1; mate = mate } in
    let st = stand p s q w origin scene in
    let c = checker p s q w origin scene st in
    let k = loser_on q w in
    let h = winner_on q w in (
      k,
      h,
      record {
        loser = king_on p s q origin held.1 valid (other_color w) k st.loser_is;
        winner = king_on p s q origin held.1 valid w h st.winner_is;
        distinct = λ e. not_of_other (other_color w) King (man_at q.men k) st.loser.man st.loser.found (let color = st.loser.color in rw color (same_color_self (other_color w))) (rw (other_other, ← e) st.winner_is);
        far = λ e. both_ways (steps_apart k h == 1) st.far (eq-eqb (steps_apart k h) 1 e);
        kind = c.man.kind;
        square = c.square;
        checks = c.checks;
        counted = counted_on q (other_color w) k origin;
        near = counted_near p s q origin held.1 valid (other_color w) k;
        once = counted_once p s q origin held.1 valid (other_color w) k;
        covered = λ n small step. covered_at p s q w origin scene st c n small (eq-eqb (steps_apart k n) 1 step) (man_at q.men n) refl;
      },
    )
