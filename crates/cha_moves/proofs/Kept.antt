-- What the man that moves becomes, the squares of a castling and of a capture en passant, and that each side keeps its king.
use Rattle.std.proofs.Common.{◌≡◌, ◌≢◌, ℕ, ◌+◌, ◌-◌, ◌<◌, ◌≤◌, ◌==◌, Bool, true, false, not, ◌&&◌, ◌||◌, cond, List, length, Option, Some, None, is_none, slice_set, ◌⊎◌, inl, inr, refl, sym, ◌∙◌, ap, arith}
use Rattle.std.specs.List.{count_by}
use Rattle.std.proofs.lemmas.Bool.{and_parts, or_cases, both_ways, eqb-true, eq-eqb, not-true, cases_eq, false_from_ne_true}
use Rattle.std.proofs.lemmas.List.{length-set}
use Rattle.std.proofs.lemmas.List.Sums.{sum_by-set}
use Rattle.std.proofs.lemmas.Option.{same_Some}
use Rattle.cha_board.specs.declared.men.Color.{Color}
use Rattle.cha_board.specs.declared.men.Color.TheVariants.{White, Black}
use Rattle.cha_board.specs.declared.men.Kind.{Kind}
use Rattle.cha_board.specs.declared.men.Kind.TheVariants.{Pawn, Knight, Bishop, Rook, Queen, King}
use Rattle.cha_board.specs.declared.men.Man.{Man}
use Rattle.cha_board.specs.declared.castling.Wing.{Wing}
use Rattle.cha_board.specs.declared.castling.Wing.TheVariants.{Kingside, Queenside}
use Rattle.cha_board.specs.Men.{other_color, same_color, same_kind, is_man}
use Rattle.cha_board.specs.Squares.{rank_of, last_rank, files_apart, ranks_apart, is_straight, is_diagonal, is_within, lies_between, aims_at}
use Rattle.cha_board.specs.Board.{Board, IsValid, man_at, is_empty, is_clear, attacked, home_of, corner_of, crossing_of, goal_of, king_of, has_one_king, has_right, right_fits, are_at_home, target_rank, target_fits, target_is_good}
use Rattle.cha_board.proofs.Kings.{king_is}
use Rattle.cha_moves.specs.Step.{Move}
use Rattle.cha_moves.specs.Moves.{is_promotion, promotes_well, may_enter, arriving, is_target, is_en_passant, victim_of, castles, goes, moved, king_castles, captures_en_passant, rook_of, rook_castled, men_after}
use Rattle.cha_board.proofs.Identity.{same_color_equal, same_kind_equal, side_other, two_kinds, one_kind, empty_no_man, empty_is_none, none_some, on_board, man_of, all_four, all_five, if_at}
use Rattle.cha_moves.proofs.Made.{Mover, Step, put_other, length-moved, moved_other, men_moved, Plainly, Passing, OnWing, makes}
use Rattle.cha_moves.proofs.Clearing.{clear_at}

-- the mover's own man bars a square
pub own_bars : (c : Color) (o : Option Man) (man : Man) → o ≡ Some man → same_color man.color c ≡ true → may_enter c o ≡ true → ⊥
own_bars c None man e own h = cc
own_bars c (Some x) man e own h =
    let both = and_parts (not (same_color x.color c)) (not (same_kind x.kind King)) h in
    let f = same_Some x man e in
    both_ways (same_color x.color c) (not-true (same_color x.color c) both.0) (rw f own)

-- a move leads to another square
pub from_to : (q : Board) (m : Move) (man : Man) → Mover q m man → m.from ≢ m.to
from_to q m man may e = own_bars q.side (man_at q.men m.from) man may.found may.own (rw e may.enter)

-- no king is captured
pub no_king_entered : (c d : Color) (o : Option Man) → may_enter c o ≡ true → is_man d King o ≡ false
no_king_entered c d None h = refl
no_king_entered c d (Some man) h =
    let both = and_parts (not (same_color man.color c)) (not (same_kind man.kind King)) h in
    two_kinds (same_color man.color d) (same_kind man.kind King) (not-true (same_kind man.kind King) both.1)

-- the kind that a man of kind k has once it may have been promoted
abbrev pub Becomes : Kind → Kind → Type 0
Becomes k j = (j ≡ k) ⊎ ((k ≡ Pawn) × (is_promotion (Some j) ≡ true))

chosen : (a p n : Bool) → cond a p n ≡ true → ((a ≡ true) × (p ≡ true)) ⊎ ((a ≡ false) × (n ≡ true))
chosen true p n h = inl (refl, h)
chosen false p n h = inr (refl, h)

no_promotion : (b : Option Kind) → is_none b ≡ true → b ≡ None
no_promotion None h = refl
no_promotion (Some k) h = cc

-- a promotion is that of a pawn on the last rank, and all other moves have none
pub promoted : (c : Color) (k : Kind) (t : ℕ) (b : Option Kind) → promotes_well c k t b ≡ true
    → ((k ≡ Pawn) × (rank_of t ≡ last_rank c) × (is_promotion b ≡ true)) ⊎ ((b ≡ None) × ((same_kind k Pawn && (rank_of t == last_rank c)) ≡ false))
unfolding promotes_well
promoted c k t b h =
    elim (chosen (same_kind k Pawn && (rank_of t == last_rank c)) (is_promotion b) (is_none b) h) [
      | inl x ↦ (
          let both = and_parts (same_kind k Pawn) (rank_of t == last_rank c) x.0 in
          inl (same_kind_equal k Pawn both.0, eqb-true (rank_of t) (last_rank c) both.1, x.1))
      | inr x ↦ inr (no_promotion b x.1, x.0)
    ]

-- the man that arrives is of the mover's colour, and of its kind or promoted
pub arrived_is : (c : Color) (man new : Man) (t : ℕ) (b : Option Kind) → promotes_well c man.kind t b ≡ true → arriving (Some man) b ≡ Some new → (man.color ≡ new.color) × Becomes man.kind new.kind
arrived_is c man new t None well e =
    let f = same_Some man new e in
    (ap (λ (x : Man). x.color) f, inl (ap (λ (x : Man). x.kind) (sym f)))
arrived_is c man new t (Some k) well e =
    let late : Man = record { color = man.color; kind = k } in
    let f = same_Some late new e in
    let kind : k ≡ new.kind = ap (λ (x : Man). x.kind) f in
    elim (promoted c man.kind t (Some k) well) [
      | inl x ↦ (ap (λ (x : Man). x.color) f, inr (x.0, rw (← kind) x.2))
      | inr x ↦ cc
    ]

-- a man that is no pawn arrives as it is
pub stays_man : (c : Color) (man : Man) (t : ℕ) (b : Option Kind) → promotes_well c man.kind t b ≡ true → same_kind man.kind Pawn ≡ false → arriving (Some man) b ≡ Some man
stays_man c man t b well other =
    elim (promoted c man.kind t b well) [
      | inl x ↦ (let pawn : same_kind man.kind Pawn ≡ true = rw x.0 refl in absurd (both_ways (same_kind man.kind Pawn) other pawn))
      | inr x ↦ rw x.0 refl
    ]

promotion_no_king : (k : Kind) → is_promotion (Some k) ≡ true → same_kind k King ≡ false
promotion_no_king Pawn h = cc
promotion_no_king Knight h = refl
promotion_no_king Bishop h = refl
promotion_no_king Rook h = refl
promotion_no_king Queen h = refl
promotion_no_king King h = cc

-- a king arrives where a king has left
king_arrives : (c d : Color) (man : Man) (t : ℕ) (b : Option Kind) → promotes_well c man.kind t b ≡ true → is_man d King (arriving (Some man) b) ≡ is_man d King (Some man)
king_arrives c d man t None well = refl
king_arrives c d man t (Some k) well =
    elim (promoted c man.kind t (Some k) well) [
      | inl x ↦ (
          let now : (same_color man.color d && same_kind k King) ≡ false = two_kinds (same_color man.color d) (same_kind k King) (promotion_no_king k x.2) in
          let pawn : same_kind man.kind King ≡ false = rw x.0 refl in
          let before : (same_color man.color d && same_kind man.kind King) ≡ false = two_kinds (same_color man.color d) (same_kind man.kind King) pawn in
          now ∙ sym before)
      | inr x ↦ cc
    ]

-- how many kings of c there are
abbrev pub kings_in : List (Option Man) → Color → ℕ
kings_in men c = count_by (is_man c King) men

abbrev one_if : Bool → ℕ
one_if b = cond b 1 0

-- a write to one square, and how many kings there are
pub kings_put : (men : List (Option Man)) (s : ℕ) (man : Option Man) (c : Color) → s < length men
    → kings_in (slice_set men s man) c + one_if (is_man c King (man_at men s)) ≡ kings_in men c + one_if (is_man c King man)
kings_put men s man c inside = sum_by-set (λ (o : Option Man). one_if (is_man c King o)) men s man None inside

-- a king that goes, or another man that does, leaves as many kings
kings_moved : (men : List (Option Man)) (s t : ℕ) (man : Option Man) (c : Color) → s < length men → t < length men → s ≢ t
    → is_man c King man ≡ is_man c King (man_at men s) → is_man c King (man_at men t) ≡ false → kings_in (moved men s t man) c ≡ kings_in men c
kings_moved men s t man c in_s in_t other same free =
    let left : List (Option Man) = slice_set men s None in
    let in_t' : t < length left = rw length-set in_t in
    let a = kings_put men s None c in_s in
    let b = kings_put left t man c in_t' in
    let ne : t ≢ s = λ e. other (sym e) in
    let there : is_man c King (man_at left t) ≡ false = rw (put_other men s None t ne) free in
    let x : one_if (is_man c King man) ≡ one_if (is_man c King (man_at men s)) = ap one_if same in
    let y : one_if (is_man c King (man_at left t)) ≡ 0 = ap one_if there in
    omega (arith, a, b, x, y)

-- a square whose man is no king is emptied
kings_cleared : (men : List (Option Man)) (s : ℕ) (c : Color) → s < length men → is_man c King (man_at men s) ≡ false → kings_in (slice_set men s None) c ≡ kings_in men c
kings_cleared men s c inside other =
    let a = kings_put men s None c inside in
    let y : one_if (is_man c King (man_at men s)) ≡ 0 = ap one_if other in
    omega (arith, a, y)

kings_one_move : (q : Board) (m : Move) (man : Man) → Step q m man → (c : Color) → kings_in (men_moved q m) c ≡ kings_in q.men c
kings_one_move q m man step c =
    let size = step.valid.size in
    let may = step.may in
    let o = man_at q.men m.from in
    let arrives : is_man c King (arriving o m.promotion) ≡ is_man c King o = rw may.found (king_arrives q.side c man m.to m.promotion may.well) in
    kings_moved q.men m.from m.to (arriving o m.promotion) c (omega (arith, step.from, size)) (omega (arith, step.to, size)) (from_to q m man may) arrives (no_king_entered q.side c (man_at q.men m.to) may.enter)

-- the target of a position: it is empty, and a pawn of the other side stands in front of it
pub record Target (men : List (Option Man)) (c : Color) (t : ℕ) : Type 0 where
  pub rank : rank_of t ≡ target_rank c
  pub free : is_empty men t ≡ true
  pub pawn : is_man (other_color c) Pawn (man_at men (victim_of c t)) ≡ true

pub target_parts : (men : List (Option Man)) (c : Color) (t : ℕ) → target_fits men c t ≡ true → Target men c t
unfolding target_fits
target_parts men White t h =
    let all = all_four (rank_of t == 5) (is_empty men t) (is_empty men (t + 8)) (is_man Black Pawn (man_at men (t - 8))) h in
    record { rank = eqb-true (rank_of t) 5 all.0; free = all.1; pawn = all.3 }
target_parts men Black t h =
    let all = all_four (rank_of t == 2) (is_empty men t) (is_empty men (t - 8)) (is_man White Pawn (man_at men (t + 8))) h in
    record { rank = eqb-true (rank_of t) 2 all.0; free = all.1; pawn = all.3 }

pub target_here : (men : List (Option Man)) (c : Color) (target : Option ℕ) (t : ℕ) → target_is_good men c target ≡ true → is_target target t ≡ true → target_fits men c t ≡ true
target_here men c None t good here = cc
target_here men c (Some u) t good here =
    let e = eqb-true u t here in
    rw (← e) good

pub target_of : (q : Board) (s t : ℕ) → IsValid q → is_en_passant q s t ≡ true → Target q.men q.side t
unfolding is_en_passant
target_of q s t valid h =
    let both = and_parts _ (is_target q.target t) h in
    target_parts q.men q.side t (target_here q.men q.side q.target t valid.target both.1)

-- the square of the captured pawn
pub record Victim (q : Board) (m : Move) : Type 0 where
  pub pawn : is_man (other_color q.side) Pawn (man_at q.men (victim_of q.side m.to)) ≡ true
  pub inside : victim_of q.side m.to < length q.men
  pub not_from : victim_of q.side m.to ≢ m.from
  pub not_to : victim_of q.side m.to ≢ m.to

pub victim_of_move : (q : Board) (m : Move) (man : Man) → Step q m man → captures_en_passant q (man_at q.men m.from) m.from m.to ≡ true → Victim q m
victim_of_move q m man step h =
    let both = and_parts (is_man q.side Pawn (man_at q.men m.from)) (is_en_passant q m.from m.to) h in
    let target = target_of q m.from m.to step.valid both.1 in
    let v = victim_of q.side m.to in
    let k = man_of (man_at q.men v) (other_color q.side) Pawn target.pawn in
    record {
      pawn = target.pawn;
      inside = on_board q.men v k.man k.found;
      not_from = λ e. (
          let here : man_at q.men m.from ≡ Some k.man = ap (λ s. man_at q.men s) (sym e) ∙ k.found in
          let one : k.man ≡ man = same_Some k.man man (sym here ∙ step.may.found) in
          let enemy : man.color ≡ other_color q.side = rw (← one) k.color in
          let own = same_color_equal man.color q.side step.may.own in
          side_other q.side (sym own ∙ enemy));
      not_to = λ e. (
          let here : man_at q.men m.to ≡ Some k.man = ap (λ s. man_at q.men s) (sym e) ∙ k.found in
          none_some (man_at q.men m.to) k.man (empty_is_none (man_at q.men m.to) target.free) here);
    }

-- the tests of a castling on a wing
pub record CastlesOn (q : Board) (w : Wing) (s t : ℕ) : Type 0 where
  pub from_home : s ≡ home_of q.side
  pub to_goal : t ≡ goal_of q.side w
  pub right : has_right q.rights q.side w ≡ true
  pub clear : is_clear q.men (home_of q.side) (corner_of q.side w) ≡ true
  pub safe : attacked q.men (other_color q.side) (goal_of q.side w) ≡ false

pub castling_tests : (q : Board) (w : Wing) (s t : ℕ) → castles q w s t ≡ true → CastlesOn q w s t
unfolding castles
castling_tests q w s t h =
    let x = and_parts _ (not (attacked q.men (other_color q.side) (goal_of q.side w))) h in
    let y = and_parts _ (not (attacked q.men (other_color q.side) (crossing_of q.side w))) x.0 in
    let all = all_five _ _ _ _ _ y.0 in
    record { from_home = eqb-true s (home_of q.side) all.0; to_goal = eqb-true t (goal_of q.side w) all.1; right = all.2; clear = all.3; safe = not-true _ x.1 }

-- a king goes where it aims, or castles on a wing
pub king_way : (q : Board) (s t : ℕ) → goes q King s t ≡ true → (aims_at q.side King s t ≡ true) ⊎ ((w : Wing) × (castles q w s t ≡ true))
unfolding goes
king_way q s t h = elim (or_cases (aims_at q.side King s t || castles q Kingside s t) (castles q Queenside s t) h) [
  | inl x ↦ elim (or_cases (aims_at q.side King s t) (castles q Kingside s t) x) [
    | inl y ↦ inl y
    | inr y ↦ inr (Kingside, y)
  ]
  | inr x ↦ inr (Queenside, x)
]

-- where c has a right, its king and that rook are at home
pub homes_of : (q : Board) (c : Color) (w : Wing) → IsValid q → has_right q.rights c w ≡ true → (is_man c King (man_at q.men (home_of c)) ≡ true) × (is_man c Rook (man_at q.men (corner_of c w)) ≡ true)
unfolding right_fits are_at_home
homes_of q c w valid right = and_parts _ _ (if_at (has_right q.rights c w) _ (valid.rights c w) right)

-- the squares of a castling
pub record Squares (h g i j : ℕ) : Type 0 where
  pub small_i : i < 64
  pub small_j : j < 64
  pub small_g : g < 64
  pub i_h : i ≢ h
  pub i_g : i ≢ g
  pub j_h : j ≢ h
  pub j_g : j ≢ g
  pub i_j : i ≢ j

squares_by : (h g i j : ℕ) → ((i ≡ h + 3) × (j ≡ h + 1) × (g ≡ h + 2) × (h ≤ 60)) ⊎ ((h ≡ i + 4) × (h ≡ j + 1) × (h ≡ g + 2) × (h ≤ 60)) → Squares h g i j
squares_by h g i j (inl x) = record { small_i = omega (arith, x); small_j = omega (arith, x); small_g = omega (arith, x); i_h = omega (arith, x); i_g = omega (arith, x); j_h = omega (arith, x); j_g = omega (arith, x); i_j = omega (arith, x) }
squares_by h g i j (inr x) = record { small_i = omega (arith, x); small_j = omega (arith, x); small_g = omega (arith, x); i_h = omega (arith, x); i_g = omega (arith, x); j_h = omega (arith, x); j_g = omega (arith, x); i_j = omega (arith, x) }

pub squares_of : (c : Color) (w : Wing) → Squares (home_of c) (goal_of c w) (corner_of c w) (crossing_of c w)
squares_of White Kingside = squares_by 4 6 7 5 (inl (refl, refl, refl, omega arith))
squares_of White Queenside = squares_by 4 2 0 3 (inr (refl, refl, refl, omega arith))
squares_of Black Kingside = squares_by 60 62 63 61 (inl (refl, refl, refl, omega arith))
squares_of Black Queenside = squares_by 60 58 56 59 (inr (refl, refl, refl, omega arith))

-- between king and rook lie the square that the king crosses and the one where it arrives
on_way : (c : Color) (w : Wing) → (lies_between (home_of c) (corner_of c w) (crossing_of c w) ≡ true) × (lies_between (home_of c) (corner_of c w) (goal_of c w) ≡ true)
unfolding lies_between is_within is_straight is_diagonal files_apart ranks_apart
on_way White Kingside = (refl, refl)
on_way White Queenside = (refl, refl)
on_way Black Kingside = (refl, refl)
on_way Black Queenside = (refl, refl)

-- a castling in which the rook goes from i to j
pub record Castling (q : Board) (m : Move) (i j : ℕ) : Type 0 where
  pub men : men_after q m ≡ moved (men_moved q m) i j (rook_of q.side)
  pub king : is_man q.side King (man_at q.men m.from) ≡ true
  pub rook : is_man q.side Rook (man_at q.men i) ≡ true
  pub free : is_empty q.men j ≡ true
  pub free_to : is_empty q.men m.to ≡ true
  pub from_home : m.from ≡ home_of q.side
  pub wing : Wing
  pub corner : i ≡ corner_of q.side wing
  pub crossing : j ≡ crossing_of q.side wing
  pub small_i : i < 64
  pub small_j : j < 64
  pub i_from : i ≢ m.from
  pub i_to : i ≢ m.to
  pub j_from : j ≢ m.from
  pub j_to : j ≢ m.to
  pub i_j : i ≢ j

pub castling_of : (q : Board) (m : Move) (w : Wing) → IsValid q → king_castles q w (man_at q.men m.from) m.from m.to ≡ true
    → men_after q m ≡ rook_castled (men_moved q m) q.side w → Castling q m (corner_of q.side w) (crossing_of q.side w)
castling_of q m w valid h men =
    let both = and_parts (is_man q.side King (man_at q.men m.from)) (castles q w m.from m.to) h in
    let tests = castling_tests q w m.from m.to both.1 in
    let squares = squares_of q.side w in
    let way = on_way q.side w in
    let from = tests.from_home in
    let to = tests.to_goal in
    record {
      men = men;
      king = both.0;
      rook = (homes_of q q.side w valid tests.right).1;
      free = clear_at q.men (home_of q.side) (corner_of q.side w) (crossing_of q.side w) tests.clear squares.small_j way.0;
      free_to = rw to (clear_at q.men (home_of q.side) (corner_of q.side w) (goal_of q.side w) tests.clear squares.small_g way.1);
      from_home = from;
      wing = w;
      corner = refl;
      crossing = refl;
      small_i = squares.small_i;
      small_j = squares.small_j;
      i_from = λ e. squares.i_h (e ∙ from);
      i_to = λ e. squares.i_g (e ∙ to);
      j_from = λ e. squares.j_h (e ∙ from);
      j_to = λ e. squares.j_g (e ∙ to);
      i_j = squares.i_j;
    }

-- the men are 64 after a move
pub length_after : (q : Board) (m : Move) → length (men_after q m) ≡ length q.men
length_after q m =
    let one = length-moved q.men m.from m.to (arriving (man_at q.men m.from) m.promotion) in
    elim (makes q m) [
      | Plainly a b e ↦ rw e one
      | Passing t e ↦ rw e (length-set (men_moved q m) (victim_of q.side m.to) None ∙ one)
      | OnWing w t e ↦ rw e (length-moved (men_moved q m) (corner_of q.side w) (crossing_of q.side w) (rook_of q.side) ∙ one)
    ]

kings_passing : (q : Board) (m : Move) (man : Man) → Step q m man → Victim q m → (c : Color) → kings_in (slice_set (men_moved q m) (victim_of q.side m.to) None) c ≡ kings_in q.men c
kings_passing q m man step victim c =
    let a = arriving (man_at q.men m.from) m.promotion in
    let v = victim_of q.side m.to in
    let inside : v < length (men_moved q m) = rw (length-moved q.men m.from m.to a) victim.inside in
    let stood = moved_other q.men m.from m.to a v victim.not_from victim.not_to in
    let other : is_man c King (man_at (men_moved q m) v) ≡ false = rw stood (one_kind (other_color q.side) c Pawn King (man_at q.men v) refl victim.pawn) in
    kings_cleared (men_moved q m) v c inside other ∙ kings_one_move q m man step c

kings_castling : (q : Board) (m : Move) (man : Man) (i j : ℕ) → Step q m man → Castling q m i j → (c : Color) → kings_in (moved (men_moved q m) i j (rook_of q.side)) c ≡ kings_in q.men c
kings_castling q m man i j step castling c =
    let a = arriving (man_at q.men m.from) m.promotion in
    let long = length-moved q.men m.from m.to a in
    let size = step.valid.size in
    let at_i = moved_other q.men m.from m.to a i castling.i_from castling.i_to in
    let at_j = moved_other q.men m.from m.to a j castling.j_from castling.j_to in
    let rook : is_man c King (man_at (men_moved q m) i) ≡ false = rw at_i (one_kind q.side c Rook King (man_at q.men i) refl castling.rook) in
    let free : is_man c King (man_at (men_moved q m) j) ≡ false = rw at_j (empty_no_man c King (man_at q.men j) castling.free) in
    let new : is_man c King (rook_of q.side) ≡ false = two_kinds (same_color q.side c) false refl in
    kings_moved (men_moved q m) i j (rook_of q.side) c (omega (arith, castling.small_i, long, size)) (omega (arith, castling.small_j, long, size)) castling.i_j (new ∙ sym rook) free
    ∙ kings_one_move q m man step c

kings_after : (q : Board) (m : Move) (man : Man) → Step q m man → (c : Color) → kings_in (men_after q m) c ≡ kings_in q.men c
kings_after q m man step c = elim (makes q m) [
  | Plainly a b e ↦ rw e (kings_one_move q m man step c)
  | Passing t e ↦ rw e (kings_passing q m man step (victim_of_move q m man step t) c)
  | OnWing w t e ↦ rw e (kings_castling q m man _ _ step (castling_of q m w step.valid t e) c)
]

-- each side has one king after a move
pub kings_kept : (q : Board) (m : Move) (man : Man) → Step q m man → (c : Color) → has_one_king (men_after q m) c ≡ true
unfolding has_one_king
kings_kept q m man step c =
    let one : kings_in q.men c ≡ 1 = eqb-true (kings_in q.men c) 1 (step.valid.kings c) in
    eq-eqb (kings_in (men_after q m) c) 1 (kings_after q m man step c ∙ one)

-- a side with one king has it on one square alone
pub one_king_place : (men : List (Option Man)) (c : Color) (s k : ℕ) → has_one_king men c ≡ true → s < length men → k < length men
    → is_man c King (man_at men s) ≡ true → is_man c King (man_at men k) ≡ true → s ≡ k
unfolding has_one_king
one_king_place men c s k one in_s in_k here there =
    elim (cases_eq s k) [
      | inl e ↦ e
      | inr ne ↦ (
          let left : List (Option Man) = slice_set men s None in
          let in_k' : k < length left = rw length-set in_k in
          let ne' : k ≢ s = λ e. ne (sym e) in
          let still : is_man c King (man_at left k) ≡ true = ap (is_man c King) (put_other men s None k ne') ∙ there in
          let a = kings_put men s None c in_s in
          let b = kings_put left k None c in_k' in
          let x : one_if (is_man c King (man_at men s)) ≡ 1 = ap one_if here in
          let y : one_if (is_man c King (man_at left k)) ≡ 1 = ap one_if still in
          let total : kings_in men c ≡ 1 = eqb-true (kings_in men c) 1 one in
          absurd (omega (arith, a, b, x, y, total)))
    ]

-- where a king of c stands that has one king
pub king_place : (men : List (Option Man)) (c : Color) (s : ℕ) → has_one_king men c ≡ true → s < length men → is_man c King (man_at men s) ≡ true → king_of men c ≡ s
king_place men c s one inside here =
    king_is men c s inside (λ k below. false_from_ne_true (is_man c King (man_at men k)) (λ h.
    let in_k : k < length men = omega arith in
    let e = one_king_place men c s k one inside in_k here h in
    omega (arith, e, below))) here
