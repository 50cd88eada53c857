-- Bishops of one colour that check once do not mate beside rooks, queens and bishops of that colour: a rook or a queen beside
-- the king captures the one that checks, or steps in between.
use Rattle.std.proofs.Common.{◌≡◌, ◌≢◌, ℕ, ◌<◌, true, false, ◌||◌, ◌⊎◌, List, Option, Some, refl, sym, subst, ap, ◌∙◌, inl, inr}
use Rattle.std.proofs.lemmas.Bool.{and_parts, both_ways, eqb-true, or_cases}
use Rattle.std.proofs.lemmas.Option.{same_Some}
use Rattle.cha_board.specs.declared.men.Color.{Color}
use Rattle.cha_board.specs.declared.men.Color.TheVariants.{White}
use Rattle.cha_board.specs.declared.men.Kind.{Kind}
use Rattle.cha_board.specs.declared.men.Kind.TheVariants.{Bishop, Rook, Queen, King}
use Rattle.cha_board.specs.declared.men.Man.{Man}
use Rattle.cha_board.specs.Men.{other_color, same_color, is_vacant, is_man, is_non_king}
use Rattle.cha_board.specs.Squares.{steps_apart, is_diagonal, aims_at, lies_between, color_of_square}
use Rattle.cha_board.specs.Board.{Board, man_at, is_empty, is_clear, attacked, in_check, IsValid}
use Rattle.cha_board.proofs.Identity.{man_of, same_color_self, same_color_equal, other_other, empty_is_none}
use Rattle.cha_board.proofs.ManTests.{is_non_king_from}
use Rattle.cha_moves.specs.Moves.{may_enter, moved}
use Rattle.cha_moves.specs.Ends.{IsMated}
use Rattle.cha_moves.proofs.Clearing.{clear_at, clear_from}
use Rattle.cha_moves.proofs.Made.{moved_to, moved_other}
use Rattle.cha_moves.proofs.Kept.{king_place}
use Rattle.mob_law.specs.Threats.{Covered, Blocked, NextToKing, Attacked}
use Rattle.mob_law.proofs.Attackers.{Attacker, some_attacker, clear_near}
use Rattle.mob_law.proofs.Geometry.{near}
use Rattle.mob_law.proofs.Mating.{mate_threatens}
use Rattle.mob_small.proofs.BesideKing.{flight_tables, reply_tables, along_rank, along_file, across}
use Rattle.mob_small.proofs.Flights.{Flight, flight, not_both, Answer, answer}
use Rattle.mob_small.proofs.Scene.{here, facts_here, non_king_stands, king_stands_on, one_kind_there}
use Rattle.mob_small.specs.Lone.{HasMenOn, is_bishop_on}
use Rattle.mob_small.proofs.Colors.{is_one_color, diagonal, between_diagonal, Side, side, side_tables}
use Rattle.mob_small.proofs.Answering.{is_slider, enter_enemy, not_by_king, stood_before, aims_apart, answered}
use Rattle.mob_small.proofs.Uncovering.{ChecksOnce}

-- What a mate by such bishops shows: where the kings stand, a bishop that attacks the loser's king, and that each square next
-- to it has another man of the loser's, is next to the winner's king, or is of the bishops' colour.
record Checked (q : Board) (w : Color) (square : Color) : Type 0 where
  ks : ℕ
  wk : ℕ
  s : ℕ
  ks_small : ks < 64
  wk_small : wk < 64
  s_small : s < 64
  loser : is_man (other_color w) King (man_at q.men ks) ≡ true
  winner : is_man w King (man_at q.men wk) ≡ true
  distinct : wk ≢ ks
  far : steps_apart ks wk ≢ 1
  attacker : Attacker q.men w ks s
  stands : is_non_king w (man_at q.men s) ≡ true
  bishop : attacker.man.kind ≡ Bishop
  color : color_of_square ks ≡ square
  covered : (n : ℕ) → n < 64 → steps_apart ks n ≡ 1 → (is_non_king (other_color w) (man_at q.men n) ≡ true) ⊎ ((steps_apart wk n ≡ 1) ⊎ (color_of_square n ≡ square))

aims_diagonal : (w : Color) (k : Kind) (u t : ℕ) → k ≡ Bishop → aims_at w k u t ≡ true → is_diagonal u t ≡ true
unfolding aims_at
aims_diagonal w k u t bishop aims = (let K : Kind → Type 0 = λ x. aims_at w x u t ≡ true in subst K bishop aims)

diagonal_aims : (u t : ℕ) → is_diagonal u t ≡ true → aims_at White Bishop u t ≡ true
unfolding aims_at
diagonal_aims u t h = h

-- a diagonal keeps the colour
along : (u t : ℕ) (square : Color) → u < 64 → t < 64 → is_diagonal u t ≡ true → color_of_square u ≡ square → color_of_square t ≡ square
along u t square small small' line color = sym (same_color_equal (color_of_square u) (color_of_square t) (diagonal u t small small' line).same) ∙ color

module _ (q : Board) (w : Color) (square : Color) (valid : IsValid q) (has : HasMenOn square q.men w) where
  -- who is no king is a bishop on a square of the colour
  bishop_there : (u : ℕ) → is_non_king w (man_at q.men u) ≡ true → (is_man w Bishop (man_at q.men u) ≡ true) × (color_of_square u ≡ square)
  bishop_there u h =
      let both = and_parts (is_man w Bishop (man_at q.men u)) (same_color (color_of_square u) square) (has.0 u h) in
      (both.0, same_color_equal (color_of_square u) square both.1)

  its_kind : (u : ℕ) (man : Man) → is_non_king w (man_at q.men u) ≡ true → man_at q.men u ≡ Some man → man.kind ≡ Bishop
  its_kind u man h found =
      let b = man_of (man_at q.men u) w Bishop (bishop_there u h).0 in
      let same : b.man ≡ man = same_Some b.man man (sym b.found ∙ found) in
      let K : Man → Type 0 = λ x. x.kind ≡ Bishop in
      subst K same b.kind

  covers : (ks wk n : ℕ) (j : Kind) (u : ℕ) (counted : Option ℕ) → n < 64 → Covered q (here q) w ks wk n j u counted
      → (is_non_king (other_color w) (man_at q.men n) ≡ true) ⊎ ((steps_apart wk n ≡ 1) ⊎ (color_of_square n ≡ square))
  covers ks wk n j u counted small (Blocked i on lasting o is) = inl (non_king_stands q (other_color w) i n on).0
  covers ks wk n j u counted small (NextToKing step) = inr (inl step)
  covers ks wk n j u counted small (Attacked i v attacks lone) =
      let on = non_king_stands q w i v attacks.attacker in
      let bishop = bishop_there v on.0 in
      let kind : i ≡ Bishop = one_kind_there (man_at q.men v) w Bishop i bishop.0 on.1 in
      inr (inr (along v n square attacks.attacker.small small (aims_diagonal w i v n kind attacks.aims) bishop.1))

  checked : IsMated q (other_color w) → Checked q w square
  unfolding in_check
  checked mate =
      let l = other_color w in
      let threat = mate_threatens q (here q) q w valid (facts_here q) mate in
      let ks = threat.0 in
      let wk = threat.1 in
      let t = threat.2 in
      let loser = king_stands_on q l ks t.loser in
      let winner = king_stands_on q w wk t.winner in
      let place = king_place q.men l ks (valid.kings l) (rw valid.size t.loser.small) loser in
      let seen : attacked q.men w ks ≡ true = rw (other_other, place) at mate.check in
      let from = some_attacker q.men w ks seen in
      let s = from.0 in
      let a = from.2 in
      let none = not_by_king q w ks wk s a.man valid t.loser.small t.winner.small from.1 winner t.far a.found a.own a.aims in
      let stands : is_non_king w (man_at q.men s) ≡ true = rw a.found (is_non_king_from w a.man a.own none) in
      let bishop = its_kind s a.man stands a.found in
      record {
        ks = ks;
        wk = wk;
        s = s;
        ks_small = t.loser.small;
        wk_small = t.winner.small;
        s_small = from.1;
        loser = loser;
        winner = winner;
        distinct = t.distinct;
        far = t.far;
        attacker = a;
        stands = stands;
        bishop = bishop;
        color = along s ks square from.1 t.loser.small (aims_diagonal w a.man.kind s ks bishop a.aims) (bishop_there s stands).1;
        covered = λ n small step. covers ks wk n t.kind t.square (t.counted n) small (t.covered n small step);
      }

  -- With what such a mate shows:
  module _ (mate : IsMated q (other_color w)) (c : Checked q w square) (once : ChecksOnce q.men w) where
    -- the bishop aims at the king
    aims : aims_at White Bishop c.s c.ks ≡ true
    aims = diagonal_aims c.s c.ks (aims_diagonal w c.attacker.man.kind c.s c.ks c.bishop c.attacker.aims)

    -- what is beside the king is not of its colour
    not_its_color : (n : ℕ) → Side c.ks c.s n → color_of_square n ≡ square → ⊥
    not_its_color n sd color =
        let e : color_of_square n ≡ color_of_square c.ks = color ∙ sym c.color in
        both_ways (is_one_color n c.ks) sd.other (rw e (same_color_self (color_of_square c.ks)))

    -- With a man of the loser's of kind i on n beside the king, a rook or a queen, and t towards the bishop:
    module _ (n : ℕ) (i : Kind) (f : Flight Bishop c.ks c.s n) (sd : Side c.ks c.s n) (slider : is_slider i ≡ true) (stands : is_man (other_color w) i (man_at q.men n) ≡ true)
        (r : Answer i c.ks c.s n (across c.ks c.s)) where
      abbrev t : ℕ
      t = across c.ks c.s

      abbrev then : List (Option Man)
      then = moved q.men n t (man_at q.men n)

      apart : n ≢ t
      apart = aims_apart i n t f.small r.aims

      full : is_empty then t ≡ false
      full =
          let m = man_of (man_at q.men n) (other_color w) i stands in
          let arrived : man_at then t ≡ man_at q.men n = moved_to q.men n t (man_at q.men n) (rw valid.size r.small) in
          rw (arrived, m.found) refl

      enters : may_enter (other_color w) (man_at q.men t) ≡ true
      enters =
          elim r.onto [
            | inl e ↦ (let P : ℕ → Type 0 = λ x. may_enter (other_color w) (man_at q.men x) ≡ true in subst P (sym e) (enter_enemy w (man_at q.men c.s) c.stands))
            | inr x ↦ (
                let none = empty_is_none (man_at q.men t) (clear_at q.men c.s c.ks t c.attacker.clear r.small x.1) in
                rw none refl)
          ]

      -- a bishop that attacks the king then attacked it before, so it is the one
      safe : (u : ℕ) → u < 64 → Attacker then w c.ks u → ⊥
      safe u small a =
          let st = stood_before q w c.ks n t u i valid f.small r.small apart stands a in
          let none = not_by_king q w c.ks c.wk u a.man valid c.ks_small c.wk_small small c.winner c.far st.found a.own a.aims in
          let there : is_non_king w (man_at q.men u) ≡ true = rw st.found (is_non_king_from w a.man a.own none) in
          let bishop = its_kind u a.man there st.found in
          let line = aims_diagonal w a.man.kind u c.ks bishop a.aims in
          let clear : is_clear q.men u c.ks ≡ true = clear_from q.men u c.ks (λ y small' lies. was_free u small line a y small' lies) in
          let before : Attacker q.men w c.ks u = record { man = a.man; found = st.found; own = a.own; aims = a.aims; clear = clear } in
          let same : u ≡ c.s = once c.ks c.ks_small c.loser u c.s small c.s_small before c.attacker bishop c.bishop in
          elim r.onto [
            | inl e ↦ st.not_to (same ∙ sym e)
            | inr x ↦ (
                let L : ℕ → Type 0 = λ y. lies_between y c.ks t ≡ true in
                both_ways (is_empty then t) full (clear_at then u c.ks t a.clear r.small (subst L (sym same) x.1)))
          ]
        where
          was_free : (u : ℕ) → u < 64 → is_diagonal u c.ks ≡ true → Attacker then w c.ks u → (y : ℕ) → y < 64 → lies_between u c.ks y ≡ true → is_empty q.men y ≡ true
          was_free u small line a y small' lies =
              let free = clear_at then u c.ks y a.clear small' lies in
              let not_n : y ≢ n = λ e. (
              let color : color_of_square y ≡ square = same_color_equal (color_of_square y) (color_of_square c.ks) (diagonal y c.ks small' c.ks_small (between_diagonal u c.ks y small c.ks_small line lies).1).same ∙ c.color in
              let P : ℕ → Type 0 = λ x. color_of_square x ≡ square in
              not_its_color n sd (subst P e color)) in
              let not_t : y ≢ t = λ e. (let P : ℕ → Type 0 = λ x. is_empty then x ≡ true in both_ways (is_empty then t) full (subst P e free)) in
              ap is_vacant (sym (moved_other q.men n t (man_at q.men n) y not_n not_t)) ∙ free

      answers : ⊥
      answers =
          answered q w valid mate c.ks c.ks_small c.loser n t i (record {
            from = f.small;
            to = r.small;
            stands = stands;
            slider = slider;
            aims = r.aims;
            clear = clear_near q.men n t (near n t f.small r.small sd.touches).clear;
            enter = enters;
            safe = safe;
          })

    -- so no man of the loser's but its king stands beside the king towards the bishop
    none_beside : (n : ℕ) → Flight Bishop c.ks c.s n → Side c.ks c.s n → Answer Rook c.ks c.s n (across c.ks c.s) → Answer Queen c.ks c.s n (across c.ks c.s)
        → is_non_king (other_color w) (man_at q.men n) ≡ true → ⊥
    unfolding is_slider
    none_beside n f sd rook queen there =
        let l = other_color w in
        let o = man_at q.men n in
        elim (or_cases (is_man l Rook o || is_man l Queen o) (is_bishop_on square l n o) (has.1 n there)) [
          | inl heavy ↦ elim (or_cases (is_man l Rook o) (is_man l Queen o) heavy) [
            | inl h ↦ answers n Rook f sd refl h rook
            | inr h ↦ answers n Queen f sd refl h queen
          ]
          | inr bishop ↦ not_its_color n sd (same_color_equal (color_of_square n) square (and_parts (is_man l Bishop o) (same_color (color_of_square n) square) bishop).1)
        ]

    not_mated : ⊥
    not_mated =
        let ks = c.ks in
        let s = c.s in
        let n = along_rank ks s in
        let m = along_file ks s in
        let f = flight Bishop along_rank flight_tables.2 ks s c.ks_small c.s_small aims in
        let g = flight Bishop along_file flight_tables.3 ks s c.ks_small c.s_small aims in
        let sd = side along_rank side_tables.0 ks s c.ks_small c.s_small aims in
        let sd' = side along_file side_tables.1 ks s c.ks_small c.s_small aims in
        elim (c.covered n f.small (eqb-true (steps_apart ks n) 1 f.step)) [
          | inl own ↦ none_beside n f sd (answer Bishop Rook along_rank across reply_tables.2 ks s c.ks_small c.s_small aims) (answer Bishop Queen along_rank across reply_tables.4 ks s c.ks_small c.s_small aims) own
          | inr x ↦ elim x [
            | inr color ↦ not_its_color n sd color
            | inl near ↦ elim (c.covered m g.small (eqb-true (steps_apart ks m) 1 g.step)) [
              | inl own ↦ none_beside m g sd' (answer Bishop Rook along_file across reply_tables.3 ks s c.ks_small c.s_small aims) (answer Bishop Queen along_file across reply_tables.5 ks s c.ks_small c.s_small aims) own
              | inr y ↦ elim y [
                | inr color ↦ not_its_color m sd' color
                | inl near' ↦ not_both ks s c.wk c.ks_small c.wk_small c.distinct c.far f.step g.step near near'
              ]
            ]
          ]
        ]

-- so there is no mate by such bishops that check once
pub bishops_mate_not : (q : Board) (w square : Color) → IsValid q → HasMenOn square q.men w → ChecksOnce q.men w → IsMated q (other_color w) → ⊥
bishops_mate_not q w square valid has once mate = not_mated q w square valid has mate (checked q w square valid has mate) once
