-- The tests of closed sets hold where the rules on the ground do.
use Rattle.std.proofs.Common.{◌≡◌, ℕ, ◌<◌, true, ◌&&◌, length, Option, Some, None, refl, sym, subst, ◌∙◌}
use Rattle.std.specs.List.{list_all, list_any}
use Rattle.std.proofs.lemmas.Bool.{and_parts, and_from}
use Rattle.std.proofs.lemmas.Option.{same_Some}
use Rattle.cha_board.specs.declared.men.Color.{Color}
use Rattle.cha_board.specs.declared.men.Kind.{Kind}
use Rattle.cha_board.specs.declared.men.Kind.TheVariants.{Knight, Bishop, Rook, Queen}
use Rattle.cha_board.specs.declared.men.Man.{Man}
use Rattle.cha_board.specs.Men.{is_non_king}
use Rattle.cha_board.specs.Squares.{squares}
use Rattle.cha_board.specs.SquareSets.{set_of, has_square, set_common, is_subset}
use Rattle.cha_board.proofs.SetLaws.{has-set_of, same_set}
use Rattle.cha_board.specs.Board.{Board, man_at}
use Rattle.cha_board.proofs.Scans.{any_square_at, all_squares_at, each_square}
use Rattle.cha_board.proofs.Contents.{some_square, same_test, in_set_of, subset_at, subset_from}
use Rattle.cha_moves.specs.Moves.{is_promotion}
use Rattle.cha_board.proofs.Identity.{on_board}
use Rattle.mob_sets.specs.Mobility.{Sets}
use Rattle.mob_sets.specs.Rows.{SetRows, kinds, sets_of}
use Rattle.mob_sets.proofs.KindTests.{any_kind_at, some_kind, all_kinds_at, each_kind}
use Rattle.mob_check.specs.declared.ground.Ground.{Ground}
use Rattle.mob_check.specs.Grounds.{reaches_from, is_reached}
use Rattle.mob_check.specs.Rules.{comes_on, ends_on, is_freed, AreRules, ManRules, AllRules}
use Rattle.mob_check.proofs.RowRules.{comes_inside, ends_inside, rules_from, each_promotion}
use Rattle.mob_check.specs.declared.groups.Group.TheVariants.{MenOf}
use Rattle.mob_check.specs.Reaches.{reaches, reach_of}
use Rattle.mob_check.specs.Closing.{row_of, promoted, row_holds, man_holds, holds_at}
use Rattle.mob_check.proofs.MenInReach.{any_gives, any_from, small_of}

-- where men of a side are in reach, by rows and by squares
pub reached_is : (p : Board) (r : SetRows) (c : Color) → length p.men ≡ 64 → reach_of p r.rows (MenOf c) ≡ set_of (is_reached p (sets_of r) c)
unfolding reach_of is_reached reaches_from
reached_is p r c size =
    same_set (reaches p r.rows (MenOf c)) (is_reached p (sets_of r) c) (λ t small.
    same_test (reaches p r.rows (MenOf c) t) (list_any (reaches_from p (sets_of r) c t) squares)
    (λ h. let man = (any_gives p r c t small (has-set_of (reaches p r.rows (MenOf c)) t small ∙ h)).1 in
    let kind = (any_gives p r c t small (has-set_of (reaches p r.rows (MenOf c)) t small ∙ h)).0 in
    any_square_at (reaches_from p (sets_of r) c t) man.origin (small_of p.men c man.origin size man.stood)
    (and_from (is_non_king c (man_at p.men man.origin)) (list_any (λ k. (sets_of r).has man.origin k t) kinds) man.stood (any_kind_at (λ k. (sets_of r).has man.origin k t) kind man.reach)))
    (λ h. let o = some_square (reaches_from p (sets_of r) c t) h in
    let both = and_parts (is_non_king c (man_at p.men o.0)) (list_any (λ k. (sets_of r).has o.0 k t) kinds) o.2 in
    let k = some_kind (λ k. (sets_of r).has o.0 k t) both.1 in
    sym (has-set_of (reaches p r.rows (MenOf c)) t small) ∙ any_from p r c k.0 t (record { origin = o.0; stood = both.0; reach = k.1; small = small })))

-- For rows on a ground:
module _ (g : Ground) (r : SetRows) where
  abbrev s : Sets
  s = sets_of r

  promoted_at : (o t : ℕ) → t < 64 → has_square (promoted s o) t ≡ (s.has o Queen t && s.has o Rook t && s.has o Bishop t && s.has o Knight t)
  unfolding set_common
  promoted_at o t small =
      let q = row_of s o Queen in
      let k = row_of s o Rook in
      let b = row_of s o Bishop in
      let n = row_of s o Knight in
      let one = λ (u : ℕ). has_square q u && has_square k u in
      let two = λ (u : ℕ). has_square (set_of one) u && has_square b u in
      rw (
        has-set_of (λ u. has_square (set_of two) u && has_square n u) t small,
        has-set_of two t small,
        has-set_of one t small,
        has-set_of (s.has o Queen) t small,
        has-set_of (s.has o Rook) t small,
        has-set_of (s.has o Bishop) t small,
        has-set_of (s.has o Knight) t small,
      ) refl

  in_promoted : (o t : ℕ) → t < 64 → ((j : Kind) → is_promotion (Some j) ≡ true → s.has o j t ≡ true) → has_square (promoted s o) t ≡ true
  in_promoted o t small each =
      promoted_at o t small ∙ and_from (s.has o Queen t && s.has o Rook t && s.has o Bishop t) (s.has o Knight t)
      (and_from (s.has o Queen t && s.has o Rook t) (s.has o Bishop t) (and_from (s.has o Queen t) (s.has o Rook t) (each Queen refl) (each Rook refl)) (each Bishop refl)) (each Knight refl)

  from_promoted : (o t : ℕ) → t < 64 → has_square (promoted s o) t ≡ true → (j : Kind) → is_promotion (Some j) ≡ true → s.has o j t ≡ true
  from_promoted o t small h =
      let a = and_parts (s.has o Queen t && s.has o Rook t && s.has o Bishop t) (s.has o Knight t) (sym (promoted_at o t small) ∙ h) in
      let b = and_parts (s.has o Queen t && s.has o Rook t) (s.has o Bishop t) a.0 in
      let d = and_parts (s.has o Queen t) (s.has o Rook t) b.0 in
      each_promotion (λ j. s.has o j t ≡ true) d.0 d.1 b.1 a.1

  in_row : (o : ℕ) (k : Kind) (u : ℕ) → has_square (row_of s o k) u ≡ true → s.has o k u ≡ true
  in_row o k u h = (in_set_of (s.has o k) u h).1

  row_gives : (o : ℕ) (c : Color) (k : Kind) → o < 64 → row_holds g r o c k ≡ true → AreRules g s o c k
  unfolding row_holds
  row_gives o c k small h =
      let row = row_of s o k in
      let come = set_of (comes_on g c k row) in
      let last = set_of (ends_on g c k row) in
      let free = set_of (is_freed g o c k row) in
      let a = and_parts (is_subset come row && is_subset last (promoted s o)) (is_subset free r.loose) h in
      let b = and_parts (is_subset come row) (is_subset last (promoted s o)) a.0 in
      rules_from g o c k row s small (λ u inside here. has-set_of (s.has o k) u inside ∙ here)
      (λ t inside comes. in_row o k t (subset_at come row b.0 t inside (has-set_of (comes_on g c k row) t inside ∙ comes)))
      (λ j promotion t inside ends. from_promoted o t inside (subset_at last (promoted s o) b.1 t inside (has-set_of (ends_on g c k row) t inside ∙ ends)) j promotion)
      (λ x inside freed. subset_at free r.loose a.1 x inside (has-set_of (is_freed g o c k row) x inside ∙ freed))

  row_from : (o : ℕ) (c : Color) (k : Kind) → AreRules g s o c k → row_holds g r o c k ≡ true
  unfolding row_holds
  row_from o c k rules =
      let row = row_of s o k in
      let come = set_of (comes_on g c k row) in
      let last = set_of (ends_on g c k row) in
      let free = set_of (is_freed g o c k row) in
      and_from (is_subset come row && is_subset last (promoted s o)) (is_subset free r.loose)
      (and_from (is_subset come row) (is_subset last (promoted s o))
      (subset_from come row (λ t inside h. has-set_of (s.has o k) t inside ∙ comes_inside g o c k row s rules (in_row o k) t inside (in_set_of (comes_on g c k row) t h).1))
      (subset_from last (promoted s o) (λ t inside h. in_promoted o t inside (λ j promotion. ends_inside g o c k row s rules (in_row o k) j promotion t inside (in_set_of (ends_on g c k row) t h).1))))
      (subset_from free r.loose (λ x inside h. rules.free row (in_row o k) x inside (in_set_of (is_freed g o c k row) x h).1))

  man_gives : (o : ℕ) (found : Option Man) → o < 64 → man_holds g r o found ≡ true → (man : Man) → found ≡ Some man → ManRules g s o man
  unfolding man_holds
  man_gives o None small h man is = cc
  man_gives o (Some found) small h man is =
      let both = and_parts (s.has o found.kind o) (list_all (row_holds g r o found.color) kinds) h in
      let P : Man → Type 0 = λ m. ManRules g s o m in
      subst P (same_Some found man is) (record { begins = both.0; each = λ k. row_gives o found.color k small (all_kinds_at (row_holds g r o found.color) k both.1) })

  man_from : (o : ℕ) (found : Option Man) → ((man : Man) → found ≡ Some man → ManRules g s o man) → man_holds g r o found ≡ true
  unfolding man_holds
  man_from o None rules = refl
  man_from o (Some man) rules =
      and_from (s.has o man.kind o) (list_all (row_holds g r o man.color) kinds) (rules man refl).begins
      (each_kind (row_holds g r o man.color) (λ k. row_from o man.color k ((rules man refl).each k)))

  -- the tests of all men hold where all the rules do
  pub rules_given : (p : Board) → length p.men ≡ 64 → list_all (holds_at p g r) squares ≡ true → AllRules p g s
  unfolding holds_at
  rules_given p size h o man stood =
      let small : o < 64 = rw size at (on_board p.men o man stood) in
      man_gives o (man_at p.men o) small (all_squares_at (λ o. man_holds g r o (man_at p.men o)) o h small) man stood

  pub tests_hold : (p : Board) → AllRules p g s → list_all (holds_at p g r) squares ≡ true
  unfolding holds_at
  tests_hold p rules = each_square (λ o. man_holds g r o (man_at p.men o)) (λ o small. man_from o (man_at p.men o) (λ man stood. rules o man stood))
