-- A lone knight or bishop does not mate a bare king, nor beside a queen, nor a bishop beside a rook.
use Rattle.std.proofs.Common.{◌≡◌, ℕ, ◌<◌, true, false, ◌⊎◌, List, Option, Some, None, refl, sym, subst, ◌∙◌, inl, inr}
use Rattle.std.proofs.lemmas.Bool.{both_ways, eqb-true}
use Rattle.cha_board.specs.declared.men.Color.{Color}
use Rattle.cha_board.specs.declared.men.Color.TheVariants.{White}
use Rattle.cha_board.specs.declared.men.Kind.{Kind}
use Rattle.cha_board.specs.declared.men.Kind.TheVariants.{Knight, Bishop, Rook, Queen}
use Rattle.cha_board.specs.declared.men.Man.{Man}
use Rattle.cha_board.specs.Men.{other_color, is_man, is_non_king}
use Rattle.cha_board.specs.Squares.{steps_apart, aims_at, between}
use Rattle.cha_board.specs.Board.{Board, man_at, is_empty, is_clear, IsValid}
use Rattle.cha_board.proofs.Identity.{man_of, on_board, empty_is_none}
use Rattle.cha_board.proofs.ManTests.{is_non_king_from}
use Rattle.cha_moves.specs.Moves.{may_enter, moved}
use Rattle.cha_moves.specs.Ends.{IsMated}
use Rattle.cha_moves.proofs.Clearing.{clear_at}
use Rattle.cha_moves.proofs.Made.{moved_to}
use Rattle.mob_law.proofs.Standing.{all_weaker}
use Rattle.mob_small.specs.Small.{HasOnlyKing, HasOneBeside, HasBeside}
use Rattle.mob_small.specs.MateFreeKinds.{is_free}
use Rattle.mob_small.proofs.BesideKing.{flight_tables, reply_tables, is_hole, along_rank, along_file, across, there}
use Rattle.mob_small.proofs.Flights.{Flight, flight, not_both, Answer, answer}
use Rattle.mob_small.proofs.Scene.{Shown, shown, non_king_man}
use Rattle.mob_small.proofs.Holes.{hole_empty}
use Rattle.mob_small.proofs.Answering.{is_slider, enter_enemy, not_by_king, stood_before, aims_apart, answered}

-- At a mate by w, with its one man on the square of `one`:
module _ (q : Board) (w : Color) (k : Kind) (valid : IsValid q) (mate : IsMated q (other_color w)) (one : HasOneBeside q.men w k) (sh : Shown q w k one.square) where
  -- the loser's one man, of kind i, is not on a square from which it answers the check
  never_answers : (i : Kind) (n t : ℕ) → is_slider i ≡ true → (lo : HasOneBeside q.men (other_color w) i) → is_non_king (other_color w) (man_at q.men n) ≡ true → Answer i sh.ks one.square n t → ⊥
  unfolding is_clear
  never_answers i n t slider lo stands a =
      let place : n ≡ lo.square = lo.alone n stands in
      let other : (u : ℕ) → is_non_king (other_color w) (man_at q.men u) ≡ true → u ≡ n = λ u h. lo.alone u h ∙ sym place in
      let P : ℕ → Type 0 = λ x. is_man (other_color w) i (man_at q.men x) ≡ true in
      let placed : is_man (other_color w) i (man_at q.men n) ≡ true = subst P (sym place) lo.stands in
      let m = man_of (man_at q.men n) (other_color w) i placed in
      let small : n < 64 = rw valid.size at (on_board q.men n m.man m.found) in
      let hole = hole_empty q w k valid one sh n other in
      let arrived : man_at (moved q.men n t (man_at q.men n)) t ≡ man_at q.men n = moved_to q.men n t (man_at q.men n) (rw valid.size a.small) in
      let full : is_empty (moved q.men n t (man_at q.men n)) t ≡ false = rw (arrived, m.found) refl in
      answered q w valid mate sh.ks sh.ks_small sh.loser n t i (record {
        from = small;
        to = a.small;
        stands = placed;
        slider = slider;
        aims = a.aims;
        clear = all_weaker (is_hole sh.ks one.square n) (λ u. is_empty q.men u) (between n t) hole a.over;
        enter =
            elim a.onto [
              | inl e ↦ (
                  let E : ℕ → Type 0 = λ x. may_enter (other_color w) (man_at q.men x) ≡ true in
                  subst E (sym e) (enter_enemy w (man_at q.men one.square) (non_king_man (man_at q.men one.square) w k one.stands one.no_king)))
              | inr x ↦ (let none = empty_is_none (man_at q.men t) (hole t x.0) in rw none refl)
            ];
        safe = λ u small' attacker. (
            let st = stood_before q w sh.ks n t u i valid small a.small (aims_apart i n t small a.aims) placed attacker in
            let none = not_by_king q w sh.ks sh.wk u attacker.man valid sh.ks_small sh.wk_small small' sh.winner sh.far st.found attacker.own attacker.aims in
            let same : u ≡ one.square = one.alone u (rw st.found (is_non_king_from w attacker.man attacker.own none)) in
            elim a.onto [
              | inl e ↦ st.not_to (same ∙ sym e)
              | inr x ↦ (
                  let C : ℕ → Type 0 = λ y. is_clear (moved q.men n t (man_at q.men n)) y sh.ks ≡ true in
                  both_ways (is_empty (moved q.men n t (man_at q.men n)) t) full
                  (clear_at (moved q.men n t (man_at q.men n)) one.square sh.ks t (subst C same attacker.clear) a.small x.1))
            ]);
      })

  -- on one of the two squares towards the checker the loser has a man of its own
  own_beside : ((n : ℕ) → aims_at White k one.square n ≡ false → aims_at w k one.square n ≡ false)
      → Flight k sh.ks one.square (along_rank sh.ks one.square) → Flight k sh.ks one.square (along_file sh.ks one.square)
      → (is_non_king (other_color w) (man_at q.men (along_rank sh.ks one.square)) ≡ true) ⊎ (is_non_king (other_color w) (man_at q.men (along_file sh.ks one.square)) ≡ true)
  own_beside either first second =
      let s = one.square in
      let n = along_rank sh.ks s in
      let m = along_file sh.ks s in
      elim (sh.covered n first.small (eqb-true (steps_apart sh.ks n) 1 first.step)) [
        | inl own ↦ inl own
        | inr x ↦ elim x [
          | inr aims ↦ absurd (both_ways (aims_at w k s n) (either n first.unaimed) aims)
          | inl near ↦ elim (sh.covered m second.small (eqb-true (steps_apart sh.ks m) 1 second.step)) [
            | inl own ↦ inr own
            | inr y ↦ elim y [
              | inr aims ↦ absurd (both_ways (aims_at w k s m) (either m second.unaimed) aims)
              | inl near' ↦ absurd (not_both sh.ks s sh.wk sh.ks_small sh.wk_small sh.distinct sh.far first.step second.step near near')
            ]
          ]
        ]
      ]

-- a man that does not stand there
bare_there : (men : List (Option Man)) (c : Color) (n m : ℕ) → HasOnlyKing men c → (is_non_king c (man_at men n) ≡ true) ⊎ (is_non_king c (man_at men m) ≡ true) → ⊥
bare_there men c n m bare (inl h) = both_ways (is_non_king c (man_at men n)) (bare n) h
bare_there men c n m bare (inr h) = both_ways (is_non_king c (man_at men m)) (bare m) h

module _ (q : Board) (w : Color) (valid : IsValid q) (mate : IsMated q (other_color w)) where
  -- a knight
  pub knight_beside : (one : HasOneBeside q.men w Knight) (sh : Shown q w Knight one.square)
      → (is_non_king (other_color w) (man_at q.men (along_rank sh.ks one.square)) ≡ true) ⊎ (is_non_king (other_color w) (man_at q.men (along_file sh.ks one.square)) ≡ true)
  unfolding aims_at
  knight_beside one sh =
      own_beside q w Knight valid mate one sh (λ n h. h) (flight Knight along_rank flight_tables.0 sh.ks one.square sh.ks_small sh.s_small sh.aims) (flight Knight along_file flight_tables.1 sh.ks one.square sh.ks_small sh.s_small sh.aims)

  knight_queen : (one : HasOneBeside q.men w Knight) → HasOneBeside q.men (other_color w) Queen → ⊥
  unfolding aims_at there is_slider
  knight_queen one lo =
      let sh = shown q w Knight valid mate one in
      let ks = sh.ks in
      let s = one.square in
      elim (knight_beside one sh) [
        | inl h ↦ never_answers q w Knight valid mate one sh Queen (along_rank ks s) s refl lo h (answer Knight Queen along_rank there reply_tables.0 ks s sh.ks_small sh.s_small sh.aims)
        | inr h ↦ never_answers q w Knight valid mate one sh Queen (along_file ks s) s refl lo h (answer Knight Queen along_file there reply_tables.1 ks s sh.ks_small sh.s_small sh.aims)
      ]

  knight_bare : HasOneBeside q.men w Knight → HasOnlyKing q.men (other_color w) → ⊥
  knight_bare one bare =
      let sh = shown q w Knight valid mate one in
      bare_there q.men (other_color w) (along_rank sh.ks one.square) (along_file sh.ks one.square) bare (knight_beside one sh)

  -- a bishop
  bishop_beside : (one : HasOneBeside q.men w Bishop) (sh : Shown q w Bishop one.square)
      → (is_non_king (other_color w) (man_at q.men (along_rank sh.ks one.square)) ≡ true) ⊎ (is_non_king (other_color w) (man_at q.men (along_file sh.ks one.square)) ≡ true)
  unfolding aims_at
  bishop_beside one sh =
      own_beside q w Bishop valid mate one sh (λ n h. h) (flight Bishop along_rank flight_tables.2 sh.ks one.square sh.ks_small sh.s_small sh.aims) (flight Bishop along_file flight_tables.3 sh.ks one.square sh.ks_small sh.s_small sh.aims)

  bishop_rook : (one : HasOneBeside q.men w Bishop) → HasOneBeside q.men (other_color w) Rook → ⊥
  unfolding aims_at is_slider
  bishop_rook one lo =
      let sh = shown q w Bishop valid mate one in
      let ks = sh.ks in
      let s = one.square in
      elim (bishop_beside one sh) [
        | inl h ↦ never_answers q w Bishop valid mate one sh Rook (along_rank ks s) (across ks s) refl lo h (answer Bishop Rook along_rank across reply_tables.2 ks s sh.ks_small sh.s_small sh.aims)
        | inr h ↦ never_answers q w Bishop valid mate one sh Rook (along_file ks s) (across ks s) refl lo h (answer Bishop Rook along_file across reply_tables.3 ks s sh.ks_small sh.s_small sh.aims)
      ]

  bishop_queen : (one : HasOneBeside q.men w Bishop) → HasOneBeside q.men (other_color w) Queen → ⊥
  unfolding aims_at is_slider
  bishop_queen one lo =
      let sh = shown q w Bishop valid mate one in
      let ks = sh.ks in
      let s = one.square in
      elim (bishop_beside one sh) [
        | inl h ↦ never_answers q w Bishop valid mate one sh Queen (along_rank ks s) (across ks s) refl lo h (answer Bishop Queen along_rank across reply_tables.4 ks s sh.ks_small sh.s_small sh.aims)
        | inr h ↦ never_answers q w Bishop valid mate one sh Queen (along_file ks s) (across ks s) refl lo h (answer Bishop Queen along_file across reply_tables.5 ks s sh.ks_small sh.s_small sh.aims)
      ]

  bishop_bare : HasOneBeside q.men w Bishop → HasOnlyKing q.men (other_color w) → ⊥
  bishop_bare one bare =
      let sh = shown q w Bishop valid mate one in
      bare_there q.men (other_color w) (along_rank sh.ks one.square) (along_file sh.ks one.square) bare (bishop_beside one sh)

  -- so the kinds of the table do not mate
  pub free_mates_not : (own : Kind) (other : Option Kind) → is_free own other ≡ true → HasOneBeside q.men w own → HasOnlyKing q.men (other_color w) ⊎ HasBeside q.men (other_color w) other → ⊥
  unfolding is_free
  free_mates_not Knight other free one (inl bare) = knight_bare one bare
  free_mates_not Knight None free one (inr bare) = knight_bare one bare
  free_mates_not Knight (Some Queen) free one (inr lo) = knight_queen one lo
  free_mates_not Bishop other free one (inl bare) = bishop_bare one bare
  free_mates_not Bishop None free one (inr bare) = bishop_bare one bare
  free_mates_not Bishop (Some Rook) free one (inr lo) = bishop_rook one lo
  free_mates_not Bishop (Some Queen) free one (inr lo) = bishop_queen one lo
  free_mates_not _ _ free one lo = cc
