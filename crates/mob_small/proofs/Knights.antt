-- A lone knight does not mate beside queens: one of them captures it.
use Rattle.std.proofs.Common.{◌≡◌, ℕ, ◌<◌, ◌==◌, ltb, Bool, true, false, ◌&&◌, List, [], ◌∷◌, Option, Some, None, refl, sym, subst, ap, ◌∙◌, inl, inr}
use Rattle.std.specs.List.{list_all}
use Rattle.std.proofs.lemmas.Bool.{and_parts, cases_Bool, eqb-true, ltb-true}
use Rattle.cha_board.specs.declared.men.Color.{Color}
use Rattle.cha_board.specs.declared.men.Color.TheVariants.{White}
use Rattle.cha_board.specs.declared.men.Kind.TheVariants.{Knight, Queen, King}
use Rattle.cha_board.specs.declared.men.Man.{Man}
use Rattle.cha_board.specs.Men.{other_color, same_kind, is_vacant, is_non_king}
use Rattle.cha_board.specs.Squares.{steps_apart, aims_at, between}
use Rattle.cha_board.specs.Board.{Board, man_at, is_empty, is_clear, IsValid}
use Rattle.cha_board.proofs.Identity.{is_man_from, same_color_self, same_kind_equal, all_four}
use Rattle.cha_board.proofs.ManTests.{either_color, is_non_king_from}
use Rattle.cha_moves.specs.Ends.{IsMated}
use Rattle.cha_moves.proofs.Kept.{king_place}
use Rattle.mob_law.proofs.Attackers.{clear_near}
use Rattle.mob_law.proofs.Geometry.{near}
use Rattle.mob_small.specs.Small.{HasOneBeside}
use Rattle.mob_small.proofs.BesideKing.{reply_tables, along_rank, along_file, there}
use Rattle.mob_small.proofs.Flights.{answer}
use Rattle.mob_small.proofs.Scene.{Shown, shown, king_or_other, non_king_inside, non_king_man}
use Rattle.mob_small.proofs.NoMate.{knight_beside}
use Rattle.mob_small.specs.Lone.{HasOnly, is_queen}
use Rattle.mob_small.proofs.Colors.{is_next, way, way_tables}
use Rattle.mob_small.proofs.Answering.{is_slider, enter_enemy, not_by_king, stood_before, aims_apart, answered}

-- where all pass one test and not all another, one passes the first alone
one_fails : (p q : ℕ → Bool) (xs : List ℕ) → list_all p xs ≡ true → list_all q xs ≡ false → (x : ℕ) × (p x ≡ true) × (q x ≡ false)
one_fails p q [] h fails = cc
one_fails p q (x ∷ xs) h fails =
    let both = and_parts (p x) (list_all p xs) h in
    elim (cases_Bool (q x)) [
      | inr here ↦ (x, both.0, here)
      | inl passes ↦ one_fails p q xs both.1 (ap (λ b. b && list_all q xs) (sym passes) ∙ fails)
    ]

-- a square that is not empty has a man
man_on : (o : Option Man) → is_vacant o ≡ false → (man : Man) × (o ≡ Some man)
man_on None h = cc
man_on (Some man) h = (man, refl)

-- At a mate by a lone knight beside queens:
module _ (q : Board) (w : Color) (valid : IsValid q) (mate : IsMated q (other_color w)) (one : HasOneBeside q.men w Knight) (queens : HasOnly q.men (other_color w) (is_queen (other_color w)))
    (sh : Shown q w Knight one.square) where
  -- no queen may capture the knight
  captured : (n : ℕ) → n < 64 → is_non_king (other_color w) (man_at q.men n) ≡ true → aims_at White Queen n one.square ≡ true → is_clear q.men n one.square ≡ true → ⊥
  unfolding is_slider
  captured n small there aims clear =
      let s = one.square in
      let apart = aims_apart Queen n s small aims in
      answered q w valid mate sh.ks sh.ks_small sh.loser n s Queen (record {
        from = small;
        to = sh.s_small;
        stands = queens n there;
        slider = refl;
        aims = aims;
        clear = clear;
        enter = enter_enemy w (man_at q.men s) (non_king_man (man_at q.men s) w Knight one.stands one.no_king);
        safe = λ u small' a. (
            let st = stood_before q w sh.ks n s u Queen valid small sh.s_small apart (queens n there) a in
            let none = not_by_king q w sh.ks sh.wk u a.man valid sh.ks_small sh.wk_small small' sh.winner sh.far st.found a.own a.aims in
            st.not_to (one.alone u (rw st.found (is_non_king_from w a.man a.own none))));
      })

  -- nor is there a man on a square next to both the king and the knight
  next_empty : (v : ℕ) (man : Man) → is_next sh.ks one.square v ≡ true → man_at q.men v ≡ Some man → ⊥
  unfolding is_next
  next_empty v man next found =
      let s = one.square in
      let l = other_color w in
      let all = all_four (ltb v 64) (steps_apart sh.ks v == 1) (steps_apart v s == 1) (aims_at White Queen v s) next in
      let small = ltb-true v 64 all.0 in
      let beside = near v s small sh.s_small all.2 in
      elim (either_color man.color w) [
        | inl own ↦ elim (king_or_other q.men w sh.wk s (valid.kings w) (rw valid.size sh.wk_small) sh.winner one.alone v man found own) [
          | inl e ↦ (let S : ℕ → Type 0 = λ x. (steps_apart sh.ks x == 1) ≡ true in sh.far (eqb-true (steps_apart sh.ks sh.wk) 1 (subst S e all.1)))
          | inr e ↦ beside.other e
        ]
        | inr enemy ↦ elim (cases_Bool (same_kind man.kind King)) [
          | inl h ↦ (
              let here = is_man_from (man_at q.men v) man l King found enemy (same_kind_equal man.kind King h) in
              let place = sym (king_place q.men l sh.ks (valid.kings l) (rw valid.size sh.ks_small) sh.loser) ∙ king_place q.men l v (valid.kings l) (rw valid.size small) here in
              (near sh.ks v sh.ks_small small all.1).other place)
          | inr h ↦ captured v small (rw found (is_non_king_from l man (rw enemy (same_color_self l)) h)) all.3 (clear_near q.men v s beside.clear)
        ]
      ]

  -- so none stands beside the king towards the knight
  none_beside : (n : ℕ) → n < 64 → aims_at White Queen n one.square ≡ true → list_all (is_next sh.ks one.square) (between n one.square) ≡ true → is_non_king (other_color w) (man_at q.men n) ≡ true → ⊥
  unfolding is_clear
  none_beside n small aims way there =
      elim (cases_Bool (is_clear q.men n one.square)) [
        | inl clear ↦ captured n small there aims clear
        | inr barred ↦ (
            let v = one_fails (is_next sh.ks one.square) (λ u. is_empty q.men u) (between n one.square) way barred in
            let m = man_on (man_at q.men v.0) v.2 in
            next_empty v.0 m.0 v.1 m.1)
      ]

on_the_board : (q : Board) (c : Color) (n : ℕ) → IsValid q → is_non_king (other_color c) (man_at q.men n) ≡ true → n < 64
on_the_board q c n valid h = rw valid.size at (non_king_inside q.men (other_color c) n h)

-- so there is none
pub knight_mates_not : (q : Board) (w : Color) → IsValid q → (one : HasOneBeside q.men w Knight) → HasOnly q.men (other_color w) (is_queen (other_color w)) → IsMated q (other_color w) → ⊥
unfolding aims_at there
knight_mates_not q w valid one queens mate =
    let sh = shown q w Knight valid mate one in
    let ks = sh.ks in
    let s = one.square in
    elim (knight_beside q w valid mate one sh) [
      | inl h ↦ (
          let a = answer Knight Queen along_rank there reply_tables.0 ks s sh.ks_small sh.s_small sh.aims in
          none_beside q w valid mate one queens sh (along_rank ks s) (on_the_board q w (along_rank ks s) valid h) a.aims (way along_rank way_tables.0 ks s sh.ks_small sh.s_small sh.aims) h)
      | inr h ↦ (
          let a = answer Knight Queen along_file there reply_tables.1 ks s sh.ks_small sh.s_small sh.aims in
          none_beside q w valid mate one queens sh (along_file ks s) (on_the_board q w (along_file ks s) valid h) a.aims (way along_file way_tables.1 ks s sh.ks_small sh.s_small sh.aims) h)
    ]
