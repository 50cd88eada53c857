-- Castling asks nothing of sets that the other rules do not ask, where the position is valid.
use Rattle.std.proofs.Common.{◌≡◌, ℕ, ◌+◌, ◌-◌, ◌<◌, Bool, true, false, not, ◌||◌, ◌==◌, [], Some, refl, sym, subst, inl, inr, arith}
use Rattle.std.specs.List.{list_all}
use Rattle.std.proofs.lemmas.Bool.{or_cases, both_ways, false_from_ne_true, eqb-true}
use Rattle.cha_board.specs.declared.men.Color.{Color}
use Rattle.cha_board.specs.declared.men.Color.TheVariants.{White, Black}
use Rattle.cha_board.specs.declared.men.Kind.{Kind}
use Rattle.cha_board.specs.declared.men.Kind.TheVariants.{Rook, King}
use Rattle.cha_board.specs.declared.men.Man.{Man}
use Rattle.cha_board.specs.declared.castling.Wing.{Wing}
use Rattle.cha_board.specs.declared.castling.Wing.TheVariants.{Kingside, Queenside}
use Rattle.cha_board.specs.Men.{other_color, is_man}
use Rattle.cha_board.specs.Squares.{squares, files_apart, ranks_apart, steps_apart, is_straight, is_diagonal, is_rank_ahead, is_within, lies_between, between, aims_at}
use Rattle.cha_board.specs.Board.{Board, man_at, home_of, corner_of, crossing_of, goal_of, has_right, IsValid}
use Rattle.cha_board.proofs.Scans.{all_squares_at}
use Rattle.cha_board.proofs.Identity.{other_other, same_color_self, ManOf, man_of, is_man_from}
use Rattle.mob_law.specs.Reach.{is_fixed, is_guarded}
use Rattle.mob_sets.specs.Mobility.{Sets}
use Rattle.mob_law.specs.Closed.{Entry, EnemyReaches, Castles, IsClosed}
use Rattle.mob_law.specs.Castling.{IsClosedButForCastling}
use Rattle.cha_board.proofs.ManTests.{not_of_other}
use Rattle.cha_moves.proofs.Kept.{homes_of}
use Rattle.cha_moves.proofs.Near.{king_aims}
use Rattle.mob_law.proofs.Geometry.{near, king_aims_from}
use Rattle.mob_law.proofs.Standing.{open_near}
use Rattle.mob_law.proofs.FixedGuards.{Guard, some_guard}
use Rattle.mob_law.proofs.Guards.{takes_no_pawn, goes_there, is_king, own_unguarded, kings_apart}

-- who stands next to `first` stands on `second` or next to it, or on the home or next to it
abbrev meets : Color → ℕ → ℕ → ℕ → Bool
meets c first second f =
    not (steps_apart f first == 1) || ((f == second) || (steps_apart f second == 1)) || ((f == home_of c) || (steps_apart f (home_of c) == 1))

-- the squares over which c castles: its king goes from its home over `first` to `second`, and no man of its side guards `second`
record Way (c : Color) (first second : ℕ) : Type 0 where
  home : home_of c < 64
  first_small : first < 64
  second_small : second < 64
  begins : (steps_apart (home_of c) first == 1) ≡ true
  ends : (steps_apart first second == 1) ≡ true
  far : (steps_apart (home_of c) second == 1) ≡ false
  no_pawn : list_all (takes_no_pawn c second) squares ≡ true
  meeting : list_all (meets c first second) squares ≡ true

short_way : (c : Color) → Way c (home_of c + 1) (home_of c + 2)
unfolding steps_apart files_apart ranks_apart aims_at is_rank_ahead squares
short_way White = record { home = omega arith; first_small = omega arith; second_small = omega arith; begins = refl; ends = refl; far = refl; no_pawn = refl; meeting = refl }
short_way Black = record { home = omega arith; first_small = omega arith; second_small = omega arith; begins = refl; ends = refl; far = refl; no_pawn = refl; meeting = refl }

long_way : (c : Color) → Way c (home_of c - 1) (home_of c - 2)
unfolding steps_apart files_apart ranks_apart aims_at is_rank_ahead squares
long_way White = record { home = omega arith; first_small = omega arith; second_small = omega arith; begins = refl; ends = refl; far = refl; no_pawn = refl; meeting = refl }
long_way Black = record { home = omega arith; first_small = omega arith; second_small = omega arith; begins = refl; ends = refl; far = refl; no_pawn = refl; meeting = refl }

-- a rook's step of one square
record Slide (u t : ℕ) : Type 0 where
  from : u < 64
  to : t < 64
  aims : (c : Color) → aims_at c Rook u t ≡ true
  nothing : between u t ≡ []

short_slides : (c : Color) → Slide (home_of c + 3) (home_of c + 2) × Slide (home_of c + 2) (home_of c + 1)
unfolding aims_at is_straight files_apart ranks_apart between lies_between is_within is_diagonal squares
short_slides White = (record { from = omega arith; to = omega arith; aims = λ c. refl; nothing = refl }, record { from = omega arith; to = omega arith; aims = λ c. refl; nothing = refl })
short_slides Black = (record { from = omega arith; to = omega arith; aims = λ c. refl; nothing = refl }, record { from = omega arith; to = omega arith; aims = λ c. refl; nothing = refl })

long_slides : (c : Color) → Slide (home_of c - 4) (home_of c - 3) × Slide (home_of c - 3) (home_of c - 2) × Slide (home_of c - 2) (home_of c - 1)
unfolding aims_at is_straight files_apart ranks_apart between lies_between is_within is_diagonal squares
long_slides White = (record { from = omega arith; to = omega arith; aims = λ c. refl; nothing = refl }, record { from = omega arith; to = omega arith; aims = λ c. refl; nothing = refl }, record { from = omega arith; to = omega arith; aims = λ c. refl; nothing = refl })
long_slides Black = (record { from = omega arith; to = omega arith; aims = λ c. refl; nothing = refl }, record { from = omega arith; to = omega arith; aims = λ c. refl; nothing = refl }, record { from = omega arith; to = omega arith; aims = λ c. refl; nothing = refl })

-- they lie between king and rook
short_lies : (c : Color) → (lies_between (home_of c) (home_of c + 3) (home_of c + 1) ≡ true) × (lies_between (home_of c) (home_of c + 3) (home_of c + 2) ≡ true)
unfolding lies_between is_within is_straight is_diagonal files_apart ranks_apart
short_lies White = (refl, refl)
short_lies Black = (refl, refl)

long_lies : (c : Color) → (lies_between (home_of c) (home_of c - 4) (home_of c - 1) ≡ true) × (lies_between (home_of c) (home_of c - 4) (home_of c - 2) ≡ true) × (lies_between (home_of c) (home_of c - 4) (home_of c - 3) ≡ true)
unfolding lies_between is_within is_straight is_diagonal files_apart ranks_apart
long_lies White = (refl, refl, refl)
long_lies Black = (refl, refl, refl)

module _ (p : Board) (s : Sets) (valid : IsValid p) (rules : IsClosedButForCastling p s) where
  -- a rook slides one square further
  slides : (o u t : ℕ) (man : Man) → man_at p.men o ≡ Some man → Slide u t → s.has o Rook u ≡ true → is_fixed p s t ≡ false → (s.has o Rook t ≡ true) × (u ≡ o → s.loose o ≡ true)
  slides o u t man stood slide reach free =
      let entry : Entry p s o man Rook u t = record { stood = stood; reach = reach; from = slide.from; to = slide.to } in
      let goes = rules.pieces_move o man Rook u t entry (λ e. cc) (slide.aims man.color) (open_near p s u t slide.nothing) (λ king. absurd cc) in
      (goes.goes free, λ e. goes.leaves free e)

  -- a rook of c in reach on t is an enemy of the other side there
  rook_there : (c : Color) (o t : ℕ) (rook : ManOf (man_at p.men o) c Rook) → s.has o Rook t ≡ true → EnemyReaches p s (other_color c) t
  rook_there c o t rook reach =
      let color = rook.color in
      let kind = rook.kind in
      record {
        origin = o;
        man = rook.man;
        kind = Rook;
        stood = rook.found;
        enemy = rw (color, kind, other_other, same_color_self) refl;
        reach = reach;
      }

  -- With c's king at home, the squares of a castling, none of them fixed, and a rook that may come to both:
  module _ (c : Color) (first second : ℕ) (way : Way c first second) (king : is_man c King (man_at p.men (home_of c)) ≡ true)
      (first_free : is_fixed p s first ≡ false) (second_free : is_fixed p s second ≡ false)
      (first_rook : EnemyReaches p s (other_color c) first) (second_rook : EnemyReaches p s (other_color c) second) where
    -- no fixed king of the enemy stands next to the second square
    no_king : (f : ℕ) → f < 64 → (man : Man) → man_at p.men f ≡ Some man → man.color ≡ other_color c → man.kind ≡ King → is_fixed p s f ≡ true → (steps_apart f second == 1) ≡ true → ⊥
    no_king f small man found color kind fixed step =
        let own = own_unguarded p s valid rules c second way.home way.second_small second_free king way.no_pawn way.far in
        let G : Color → Type 0 = λ x. is_guarded p s x second ≡ false in
        let g : Guard p s (other_color c) second f = record {
          man = man;
          found = found;
          color = color;
          fixed = fixed;
          aims = rw kind (king_aims_from (other_color c) f second step);
          near = rw kind refl;
        } in
        goes_there p s valid rules (other_color c) second f small way.second_small second_free g (λ pawn. cc) (λ k. subst G (sym (other_other c)) own)

    second_unguarded : is_guarded p s (other_color c) second ≡ false
    second_unguarded =
        false_from_ne_true (is_guarded p s (other_color c) second) (λ h.
        let from = some_guard p s (other_color c) second h in
        let g = from.2 in
        let kind = is_king p s valid rules (other_color c) second from.0 from.1 way.second_small second_free second_rook g in
        let A : Kind → Type 0 = λ k. aims_at (other_color c) k from.0 second ≡ true in
        no_king from.0 from.1 g.man g.found g.color kind g.fixed (king_aims (other_color c) from.0 second (subst A kind g.aims)))

    first_unguarded : is_guarded p s (other_color c) first ≡ false
    first_unguarded =
        false_from_ne_true (is_guarded p s (other_color c) first) (λ h.
        let from = some_guard p s (other_color c) first h in
        let f = from.0 in
        let g = from.2 in
        let kind = is_king p s valid rules (other_color c) first f from.1 way.first_small first_free first_rook g in
        let A : Kind → Type 0 = λ k. aims_at (other_color c) k f first ≡ true in
        let step : (steps_apart f first == 1) ≡ true = king_aims (other_color c) f first (subst A kind g.aims) in
        let foe = is_man_from (man_at p.men f) g.man (other_color c) King g.found g.color kind in
        let test : meets c first second f ≡ true = all_squares_at (meets c first second) f way.meeting from.1 in
        let rest : (((f == second) || (steps_apart f second == 1)) || ((f == home_of c) || (steps_apart f (home_of c) == 1))) ≡ true = rw step at test in
        elim (or_cases ((f == second) || (steps_apart f second == 1)) ((f == home_of c) || (steps_apart f (home_of c) == 1)) rest) [
          | inl a ↦ elim (or_cases (f == second) (steps_apart f second == 1) a) [
            | inl e ↦ (
                let F : ℕ → Type 0 = λ x. is_fixed p s x ≡ true in
                both_ways (is_fixed p s second) second_free (subst F (eqb-true f second e) g.fixed))
            | inr e ↦ no_king f from.1 g.man g.found g.color kind g.fixed e
          ]
          | inr a ↦ elim (or_cases (f == home_of c) (steps_apart f (home_of c) == 1) a) [
            | inl e ↦ (
                let M : ℕ → Type 0 = λ x. is_man (other_color c) King (man_at p.men x) ≡ true in
                let k = man_of (man_at p.men (home_of c)) c King king in
                let color = k.color in
                not_of_other c King (man_at p.men (home_of c)) k.man k.found (rw (color, same_color_self) refl) (subst M (eqb-true f (home_of c) e) foe))
            | inr e ↦ kings_apart p s valid rules c f way.home from.1 king foe e
          ]
        ])

    -- so the king may go there
    king_castles : (s.has (home_of c) King second ≡ true) × (s.loose (home_of c) ≡ true)
    king_castles =
        let h = home_of c in
        let k = man_of (man_at p.men h) c King king in
        let color = k.color in
        let kind = k.kind in
        let K : Kind → Type 0 = λ x. s.has h x h ≡ true in
        let begins : s.has h King h ≡ true = subst K k.kind (rules.begins h k.man k.found) in
        let G : ℕ → Type 0 = λ x. is_guarded p s (other_color k.man.color) x ≡ false in
        let e1 : Entry p s h k.man King h first = record { stood = k.found; reach = begins; from = way.home; to = way.first_small } in
        let g1 = rules.pieces_move h k.man King h first e1 (λ e. cc) (king_aims_from k.man.color h first way.begins) (open_near p s h first (near h first way.home way.first_small way.begins).clear)
        (λ x. rw color first_unguarded) in
        let e2 : Entry p s h k.man King first second = record { stood = k.found; reach = g1.goes first_free; from = way.first_small; to = way.second_small } in
        let g2 = rules.pieces_move h k.man King first second e2 (λ e. cc) (king_aims_from k.man.color first second way.ends) (open_near p s first second (near first second way.first_small way.second_small way.ends).clear)
        (λ x. rw color second_unguarded) in
        (g2.goes second_free, g1.leaves first_free refl)

  -- castling on the king's side follows
  short_follows : (c : Color) → has_right p.rights c Kingside ≡ true → is_fixed p s (home_of c + 1) ≡ false → is_fixed p s (home_of c + 2) ≡ false
      → Castles s (home_of c) (home_of c + 2) (home_of c + 3) (home_of c + 1)
  short_follows c right first second =
      let h = home_of c in
      let at_home = homes_of p c Kingside valid right in
      let rook = man_of (man_at p.men (h + 3)) c Rook at_home.1 in
      let K : Kind → Type 0 = λ x. s.has (h + 3) x (h + 3) ≡ true in
      let begins = subst K rook.kind (rules.begins (h + 3) rook.man rook.found) in
      let way = short_slides c in
      let one = slides (h + 3) (h + 3) (h + 2) rook.man rook.found way.0 begins second in
      let two = slides (h + 3) (h + 2) (h + 1) rook.man rook.found way.1 one.0 first in
      let king = king_castles c (h + 1) (h + 2) (short_way c) at_home.0 first second (rook_there c (h + 3) (h + 1) rook two.0) (rook_there c (h + 3) (h + 2) rook one.0) in
      record { king = king.0; rook = two.0; king_leaves = king.1; rook_leaves = one.1 refl }

  -- and on the queen's side
  long_follows : (c : Color) → has_right p.rights c Queenside ≡ true → is_fixed p s (home_of c - 1) ≡ false → is_fixed p s (home_of c - 2) ≡ false → is_fixed p s (home_of c - 3) ≡ false
      → Castles s (home_of c) (home_of c - 2) (home_of c - 4) (home_of c - 1)
  long_follows c right first second third =
      let h = home_of c in
      let at_home = homes_of p c Queenside valid right in
      let rook = man_of (man_at p.men (h - 4)) c Rook at_home.1 in
      let K : Kind → Type 0 = λ x. s.has (h - 4) x (h - 4) ≡ true in
      let begins = subst K rook.kind (rules.begins (h - 4) rook.man rook.found) in
      let way = long_slides c in
      let one = slides (h - 4) (h - 4) (h - 3) rook.man rook.found way.0 begins third in
      let two = slides (h - 4) (h - 3) (h - 2) rook.man rook.found way.1 one.0 second in
      let three = slides (h - 4) (h - 2) (h - 1) rook.man rook.found way.2 two.0 first in
      let king = king_castles c (h - 1) (h - 2) (long_way c) at_home.0 first second (rook_there c (h - 4) (h - 1) rook three.0) (rook_there c (h - 4) (h - 2) rook two.0) in
      record { king = king.0; rook = three.0; king_leaves = king.1; rook_leaves = one.1 refl }

  kings_castle : (c : Color) (w : Wing) → has_right p.rights c w ≡ true → ((t : ℕ) → t < 64 → lies_between (home_of c) (corner_of c w) t ≡ true → is_fixed p s t ≡ false)
      → Castles s (home_of c) (goal_of c w) (corner_of c w) (crossing_of c w)
  kings_castle c Kingside right free =
      let lies = short_lies c in
      short_follows c right (free (home_of c + 1) (short_way c).first_small lies.0) (free (home_of c + 2) (short_way c).second_small lies.1)
  kings_castle c Queenside right free =
      let lies = long_lies c in
      long_follows c right (free (home_of c - 1) (long_way c).first_small lies.0) (free (home_of c - 2) (long_way c).second_small lies.1) (free (home_of c - 3) (long_slides c).0.to lies.2)

-- so all rules hold
pub follows : (p : Board) (s : Sets) → IsValid p → IsClosedButForCastling p s → IsClosed p s
follows p s valid rules = record {
  begins = rules.begins;
  pieces_move = rules.pieces_move;
  pawns_step = rules.pawns_step;
  pawns_double_step = rules.pawns_double_step;
  pawns_capture = rules.pawns_capture;
  kings_castle = kings_castle p s valid rules;
}
