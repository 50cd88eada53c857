-- A king that castles is not attacked where it arrives, once the rook has passed it.
use Rattle.std.proofs.Common.{◌≡◌, ◌≢◌, ℕ, ◌<◌, Bool, true, false, not, ◌||◌, ◌&&◌, List, length, Option, Some, None, inl, inr, refl, sym, ◌∙◌, ap, arith}
use Rattle.std.specs.List.{list_all}
use Rattle.std.proofs.lemmas.Bool.{and_parts, and_from, both_ways, cases_eq, not-true, false_from_ne_true}
use Rattle.std.proofs.lemmas.Option.{same_Some}
use Rattle.cha_board.specs.declared.men.Color.{Color}
use Rattle.cha_board.specs.declared.men.Color.TheVariants.{White, Black}
use Rattle.cha_board.specs.declared.men.Kind.TheVariants.{Pawn, Rook, King}
use Rattle.cha_board.specs.declared.men.Man.{Man}
use Rattle.cha_board.specs.declared.castling.Wing.{Wing}
use Rattle.cha_board.specs.declared.castling.Wing.TheVariants.{Kingside, Queenside}
use Rattle.cha_board.specs.Men.{other_color, same_color, is_vacant, is_man}
use Rattle.cha_board.specs.Squares.{squares, aims_at, files_apart, ranks_apart, is_straight, is_diagonal, is_within, lies_between}
use Rattle.cha_board.specs.Board.{Board, man_at, is_empty, attacks_as, attacked, in_check, king_of, home_of, corner_of, crossing_of, goal_of}
use Rattle.cha_board.proofs.Scans.{all_squares_at}
use Rattle.cha_board.proofs.Sightings.{attacked_from, attacked_by_none}
use Rattle.cha_moves.specs.Step.{Move}
use Rattle.cha_moves.specs.Moves.{goes, goes_as, may_enter, is_en_passant, castles, king_castles, moved, rook_of, men_after, arriving}
use Rattle.cha_moves.specs.Ways.{is_way, is_promoted}
use Rattle.cha_moves.specs.Shields.{aims_as, goes_legally}
use Rattle.cha_board.proofs.Identity.{same_color_self, one_color, one_kind, if_at}
use Rattle.cha_moves.proofs.Made.{Step, may_gives, length-moved, moved_to, moved_from, moved_other, men_moved, Plainly, Passing, OnWing, makes}
use Rattle.cha_moves.proofs.Kept.{from_to, Castling, castling_of, castling_tests, king_way, kings_kept, king_place, length_after}
use Rattle.cha_moves.proofs.Sureness.{legal_if}
use Rattle.cha_moves.proofs.Arriving.{Going, going_plain}
use Rattle.cha_moves.proofs.Clearing.{clear_at, clear_from, attack_parts, attack_from}
use Rattle.cha_moves.proofs.GoingLegally.{goes_plain, unaimed, not_between}

-- The rook that stands on j, and no longer on i, bars what the king on s barred on the way to t.
record Bars (s t i j : ℕ) : Type 0 where
  opened : (u : ℕ) → u < 64 → lies_between u t s ≡ true → lies_between u t j ≡ true
  left : (u : ℕ) → u < 64 → lies_between u t i ≡ true → ⊥

bar_test : ℕ → ℕ → ℕ → ℕ → ℕ → Bool
bar_test s t i j u = (not (lies_between u t s) || lies_between u t j) && not (lies_between u t i)

bars_by : (s t i j : ℕ) → list_all (bar_test s t i j) squares ≡ true → Bars s t i j
unfolding bar_test
bars_by s t i j h =
    record {
      opened = λ u small lies. if_at (lies_between u t s) (lies_between u t j) (and_parts (not (lies_between u t s) || lies_between u t j) (not (lies_between u t i)) (all_squares_at (bar_test s t i j) u h small)).0 lies;
      left = λ u small lies. both_ways (lies_between u t i) (not-true (lies_between u t i) (and_parts (not (lies_between u t s) || lies_between u t j) (not (lies_between u t i)) (all_squares_at (bar_test s t i j) u h small)).1) lies;
    }

bars_of : (c : Color) (w : Wing) → list_all (bar_test (home_of c) (goal_of c w) (corner_of c w) (crossing_of c w)) squares ≡ true
unfolding bar_test lies_between is_within is_straight is_diagonal files_apart ranks_apart squares
bars_of White Kingside = refl
bars_of White Queenside = refl
bars_of Black Kingside = refl
bars_of Black Queenside = refl

own_idle : (c : Color) (k u : ℕ) (man : Man) → same_color man.color c ≡ true → aims_as (other_color c) k u (Some man) ≡ true → ⊥
own_idle c k u man own aims = one_color man.color c own (and_parts (same_color man.color (other_color c)) (aims_at (other_color c) man.kind u k) aims).0

-- the square at which the king arrives is not attacked over the men after the castling, if it was not before
castled_safe : (q : Board) (m : Move) (i j : ℕ) → length q.men ≡ 64 → m.from < 64 → m.from ≢ m.to → Castling q m i j → Bars m.from m.to i j → attacked q.men (other_color q.side) m.to ≡ false
    → attacked (men_after q m) (other_color q.side) m.to ≡ false
castled_safe q m i j size small_from apart castling bars safe =
    let e = other_color q.side in
    let t = m.to in
    let one = men_moved q m in
    let now = moved one i j (rook_of q.side) in
    let arrived = arriving (man_at q.men m.from) m.promotion in
    let long = length-moved q.men m.from m.to arrived in
    let in_i : i < length one = omega (arith, long, size, castling.small_i) in
    let in_j : j < length one = omega (arith, long, size, castling.small_j) in
    let in_from : m.from < length q.men = omega (arith, size, small_from) in
    let rook : man_at now j ≡ rook_of q.side = moved_to one i j (rook_of q.side) in_j in
    let stays = λ (y : ℕ) (ni : y ≢ i) (nj : y ≢ j) (ns : y ≢ m.from) (nt : y ≢ t). moved_other one i j (rook_of q.side) y ni nj ∙ moved_other q.men m.from t arrived y ns nt in
    let gone_i : man_at now i ≡ None = moved_from one i j (rook_of q.side) in_i castling.i_j in
    let gone_s : man_at now m.from ≡ None = moved_other one i j (rook_of q.side) m.from (λ x. castling.i_from (sym x)) (λ x. castling.j_from (sym x)) ∙ moved_from q.men m.from t arrived in_from apart in
    ap (λ (x : List (Option Man)). attacked x e t) castling.men ∙ attacked_by_none now e t (λ u small. false_from_ne_true (attacks_as now e t u (man_at now u)) (λ h.
    let parts = attack_parts now e t u (man_at now u) h in
    let aims = λ (s : ℕ) (same : u ≡ s). ap (λ x. aims_as e t u (man_at now x)) (sym same) ∙ parts.0 in
    elim (cases_eq u i) [
      | inl x ↦ both_ways (aims_as e t u (man_at now i)) (ap (aims_as e t u) gone_i) (aims i x)
      | inr ni ↦ elim (cases_eq u j) [
        | inl x ↦ own_idle q.side t u (record { color = q.side; kind = Rook }) (same_color_self q.side) (ap (aims_as e t u) (sym rook) ∙ aims j x)
        | inr nj ↦ elim (cases_eq u m.from) [
          | inl x ↦ both_ways (aims_as e t u (man_at now m.from)) (ap (aims_as e t u) gone_s) (aims m.from x)
          | inr ns ↦ elim (cases_eq u t) [
            | inl x ↦ unaimed e t (man_at now t) (ap (λ y. aims_as e t y (man_at now y)) (sym x) ∙ parts.0)
            | inr nt ↦ (
                let clear = clear_from q.men u t (λ y small' lies. elim (cases_eq y i) [
                  | inl x ↦ absurd (bars.left u small (ap (lies_between u t) (sym x) ∙ lies))
                  | inr yi ↦ elim (cases_eq y j) [
                    | inl x ↦ ap (is_empty q.men) x ∙ castling.free
                    | inr yj ↦ elim (cases_eq y m.from) [
                      | inl x ↦ absurd (both_ways (is_empty now j) (ap is_vacant rook) (clear_at now u t j parts.1 castling.small_j (bars.opened u small (ap (lies_between u t) (sym x) ∙ lies))))
                      | inr ys ↦ elim (cases_eq y t) [
                        | inl x ↦ absurd (both_ways (lies_between u t t) (not_between u t) (ap (lies_between u t) (sym x) ∙ lies))
                        | inr yt ↦ ap is_vacant (sym (stays y yi yj ys yt)) ∙ clear_at now u t y parts.1 small' lies
                      ]
                    ]
                  ]
                ]) in
                both_ways (attacked q.men e t) safe (attacked_from q.men e t u small (attack_from q.men e t u (man_at q.men u) (ap (aims_as e t u) (sym (stays u ni nj ns nt)) ∙ parts.0) clear)))
          ]
        ]
      ]
    ]))

-- so a castling is legal
castling_legal : (q : Board) (s t i j : ℕ) (man : Man) → Going q s t man → man.kind ≡ King → s ≢ t → Castling q (record { from = s; to = t; promotion = None }) i j → Bars s t i j → attacked q.men (other_color q.side) t ≡ false → goes_legally q s t ≡ true
unfolding in_check
castling_legal q s t i j man g king apart castling bars safe =
    let m : Move = record { from = s; to = t; promotion = None } in
    let e = other_color q.side in
    let plain : is_promoted q.side man.kind t ≡ false = rw king refl in
    let may = going_plain q s t man g plain in
    let mover = may_gives q m may in
    let step : Step q m mover.0 = record { valid = g.valid; from = g.from; to = g.to; may = mover.1 } in
    let size = g.valid.size in
    let inside : t < length q.men = omega (arith, size, g.to) in
    let here : is_man q.side King (man_at (men_after q m) t) ≡ true =
    ap (λ (x : List (Option Man)). is_man q.side King (man_at x t)) castling.men
    ∙ ap (is_man q.side King) (moved_other (men_moved q m) i j (rook_of q.side) t (λ x. castling.i_to (sym x)) (λ x. castling.j_to (sym x)) ∙ moved_to q.men s t (man_at q.men s) inside)
    ∙ castling.king in
    let long = length_after q m in
    let at : king_of (men_after q m) q.side ≡ t = king_place (men_after q m) q.side t (kings_kept q m mover.0 step q.side) (omega (arith, long, size, g.to)) here in
    goes_plain q s t man g plain ∙ legal_if q m may ∙ ap not (ap (λ k. attacked (men_after q m) e k) at ∙ castled_safe q m i j size g.from apart castling bars safe)

-- a king goes to a square that is not near it by castling alone
far_castles : (q : Board) (s t : ℕ) (man : Man) → man_at q.men s ≡ Some man → man.kind ≡ King → is_way q s t ≡ true → aims_at q.side King s t ≡ false → (w : Wing) × (castles q w s t ≡ true)
unfolding is_way goes_as
far_castles q s t man found king way far =
    let goes' : goes_as q s t (Some man) ≡ true = ap (goes_as q s t) (sym found) ∙ (and_parts (goes_as q s t (man_at q.men s)) (may_enter q.side (man_at q.men t)) way).0 in
    let both = and_parts (same_color man.color q.side) (goes q man.kind s t) goes' in
    let all : goes q King s t ≡ true = ap (λ k. goes q k s t) (sym king) ∙ both.1 in
    elim (king_way q s t all) [
      | inl near ↦ absurd (both_ways (aims_at q.side King s t) far near)
      | inr castling ↦ castling
    ]

pub castling_goes : (q : Board) (s t : ℕ) (man : Man) → Going q s t man → man.kind ≡ King → aims_at q.side King s t ≡ false → goes_legally q s t ≡ true
castling_goes q s t man g king far =
    let m : Move = record { from = s; to = t; promotion = None } in
    let plain : is_promoted q.side man.kind t ≡ false = rw king refl in
    let mover = may_gives q m (going_plain q s t man g plain) in
    let own : same_color man.color q.side ≡ true = ap (λ (x : Man). same_color x.color q.side) (same_Some man mover.0 (sym g.found ∙ mover.1.found)) ∙ mover.1.own in
    let is_king : is_man q.side King (man_at q.men s) ≡ true = ap (is_man q.side King) g.found ∙ rw (own, king) refl in
    let no_pawn : is_man q.side Pawn (man_at q.men s) ≡ false = one_kind q.side q.side King Pawn (man_at q.men s) refl is_king in
    elim (makes q m) [
      | Plainly a b same ↦ (
          let on = far_castles q s t man g.found king g.way far in
          absurd (both_ways (king_castles q on.0 (man_at q.men s) s t) (b on.0) (and_from (is_man q.side King (man_at q.men s)) (castles q on.0 s t) is_king on.1)))
      | Passing x same ↦ absurd (both_ways (is_man q.side Pawn (man_at q.men s)) no_pawn (and_parts (is_man q.side Pawn (man_at q.men s)) (is_en_passant q s t) x).0)
      | OnWing w x same ↦ (
          let tests = castling_tests q w s t (and_parts (is_man q.side King (man_at q.men s)) (castles q w s t) x).1 in
          castling_legal q s t (corner_of q.side w) (crossing_of q.side w) man g king (from_to q m mover.0 mover.1) (castling_of q m w g.valid x same)
          (rw (tests.from_home, tests.to_goal) (bars_by (home_of q.side) (goal_of q.side w) (corner_of q.side w) (crossing_of q.side w) (bars_of q.side w))) (ap (attacked q.men (other_color q.side)) tests.to_goal ∙ tests.safe))
    ]
