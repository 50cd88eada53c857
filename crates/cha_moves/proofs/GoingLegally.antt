-- Which ways of a man are legal.
use Rattle.std.proofs.Common.{◌≡◌, ◌≢◌, ℕ, ◌<◌, ◌+◌, ◌==◌, ◌&&◌, ◌||◌, Bool, true, false, cond, if◌then◌else◌, not, List, [], ◌∷◌, length, Option, Some, None, slice_set, inl, inr, refl, sym, ◌∙◌, ap, arith}
use Rattle.std.specs.List.{Contains, filter, flat_map}
use Rattle.std.proofs.lemmas.Bool.{and_parts, and_left, and_right, or_from, both_ways, cases_Bool, cases_eq, eq-eqb, ne_eqb, false_from_ne_true}
use Rattle.std.proofs.lemmas.List.{length-set}
use Rattle.std.proofs.lemmas.Option.{same_Some}
use Rattle.cha_board.specs.declared.men.Color.{Color}
use Rattle.cha_board.specs.declared.men.Color.TheVariants.{White, Black}
use Rattle.cha_board.specs.declared.men.Kind.{Kind}
use Rattle.cha_board.specs.declared.men.Kind.TheVariants.{Pawn, Rook, Bishop, Knight, Queen, King}
use Rattle.cha_board.specs.declared.men.Man.{Man}
use Rattle.cha_board.specs.declared.castling.Wing.{Wing}
use Rattle.cha_board.specs.declared.castling.Wing.TheVariants.{Kingside, Queenside}
use Rattle.cha_board.specs.Men.{other_color, same_color, same_kind, is_vacant, is_of, is_man}
use Rattle.cha_board.specs.Squares.{squares, rank_of, last_rank, aims_at, files_apart, ranks_apart, steps_apart, is_straight, is_diagonal, is_line, is_rank_ahead, is_within, lies_between}
use Rattle.cha_board.specs.Board.{Board, IsValid, man_at, attacks_as, attacked, in_check, king_of, home_of, goal_of}
use Rattle.cha_board.specs.SquareSets.{set_of, has_square, squares_in, set_common, set_without, set_placed}
use Rattle.cha_board.proofs.SetLaws.{has-set_of, same_set, same_squares, length-set_of}
use Rattle.cha_board.proofs.Sightings.{attacked_from, attacked_by_none}
use Rattle.cha_moves.specs.Step.{Move}
use Rattle.cha_moves.specs.Moves.{is_legal_in, is_en_passant, castles, moves_between, moves_from, men_after}
use Rattle.cha_moves.specs.Ways.{is_way, is_promoted, legal_between}
use Rattle.cha_moves.specs.Shields.{aims_as, men_less, AreShields, IsFree, some_move, goes_legally}
use Rattle.cha_board.proofs.Identity.{two_kinds}
use Rattle.cha_moves.proofs.Made.{Step, may_gives, put, put_other, men_moved, Plainly, Passing, OnWing, makes}
use Rattle.cha_moves.proofs.Kept.{kings_kept, king_place, length_after, castling_tests}
use Rattle.cha_moves.proofs.Contained.{Contains-filter_parts, Contains-squares_small}
use Rattle.cha_moves.proofs.Filling.{still_safe, filled_put}
use Rattle.cha_moves.proofs.WayLaws.{no_way_between, no_ways, filter_in_set}
use Rattle.cha_moves.proofs.Sureness.{Ordinary, legal_if, not_enemy}
use Rattle.cha_moves.proofs.Arriving.{Going, going_plain, moves_plain, moves_promoted, promotion_ordinary}
use Rattle.cha_moves.proofs.Facing.{none_left}
use Rattle.cha_moves.proofs.Clearing.{clear_at, clear_from, attack_parts, attack_from}
use Rattle.cha_moves.proofs.Shielding.{answer_is_legal, no_answer_is_illegal}

some_kept : (b : Bool) (m : Move) (ms : List Move) → some_move (cond b (m ∷ ms) []) ≡ b
some_kept true m ms = refl
some_kept false m ms = refl

-- a way that is no promotion goes legally where its one move is legal
pub goes_plain : (q : Board) (s t : ℕ) (man : Man) → Going q s t man → is_promoted q.side man.kind t ≡ false → goes_legally q s t ≡ is_legal_in q (record { from = s; to = t; promotion = None })
unfolding goes_legally
goes_plain q s t man g h =
    ap some_move (moves_plain q s t man g h) ∙ some_kept (is_legal_in q (record { from = s; to = t; promotion = None })) (record { from = s; to = t; promotion = None }) []

-- a promotion goes legally where the one to a queen is legal
pub goes_promoted : (q : Board) (s t : ℕ) (man : Man) → Going q s t man → is_promoted q.side man.kind t ≡ true → goes_legally q s t ≡ is_legal_in q (record { from = s; to = t; promotion = Some Queen })
unfolding goes_legally
goes_promoted q s t man g h =
    ap some_move (moves_promoted q s t man g h)
    ∙ some_kept (is_legal_in q (record { from = s; to = t; promotion = Some Queen })) (record { from = s; to = t; promotion = Some Queen })
    (record { from = s; to = t; promotion = Some Rook } ∷ record { from = s; to = t; promotion = Some Bishop } ∷ record { from = s; to = t; promotion = Some Knight } ∷ [])

pub goes_nowhere : (q : Board) (s t : ℕ) → is_way q s t ≡ false → goes_legally q s t ≡ false
unfolding goes_legally legal_between
goes_nowhere q s t h = ap some_move (no_way_between q s t h)

-- what goes legally goes
pub goes_a_way : (q : Board) (s t : ℕ) → goes_legally q s t ≡ true → is_way q s t ≡ true
goes_a_way q s t h = elim (cases_Bool (is_way q s t)) [
  | inl e ↦ e
  | inr e ↦ absurd (both_ways (goes_legally q s t) (goes_nowhere q s t e) h)
]

no_moves : (ms : List Move) → some_move ms ≡ false → ms ≡ []
no_moves [] h = refl
no_moves (m ∷ ms) h = cc

-- the legal moves from a square are those to the squares to which its man goes legally
pub legal_by_goings : (q : Board) (s : ℕ) → filter (is_legal_in q) (flat_map (moves_between s) (squares_in (set_of (goes_legally q s)))) ≡ filter (is_legal_in q) (moves_from s)
unfolding moves_from goes_legally legal_between
legal_by_goings q s = filter_in_set (is_legal_in q) (moves_between s) (goes_legally q s) (λ t small h. no_moves (filter (is_legal_in q) (moves_between s t)) h)

pub some_between : (q : Board) (s t : ℕ) → goes_legally q s t ≡ true → legal_between q s t ≢ []
unfolding goes_legally
some_between q s t h = λ e. (let none : some_move (legal_between q s t) ≡ false = ap some_move e in both_ways (some_move (legal_between q s t)) none h)

pub each_goes : (q : Board) (s t : ℕ) (set : List Bool) → set ≡ set_of (goes_legally q s) → Contains (squares_in set) t → goes_legally q s t ≡ true
each_goes q s t set e inside =
    let parts = Contains-filter_parts (has_square set) squares t inside in
    sym (has-set_of (goes_legally q s) t (Contains-squares_small t parts.0)) ∙ ap (λ (x : List Bool). has_square x t) (sym e) ∙ parts.1

told_by : (x y : Bool) → (x ≡ true → y ≡ true) → (x ≡ false → y ≡ false) → x ≡ y
told_by true y f g = sym (f refl)
told_by false y f g = sym (g refl)

-- the ways of such a man that are legal are those that end every check
free_goes : (q : Board) (s t : ℕ) (man : Man) (answers screens : List Bool) → Going q s t man → AreShields q answers screens → IsFree q screens s → has_square answers t ≡ goes_legally q s t
free_goes q s t man answers screens g shields free = elim (cases_Bool (is_promoted q.side man.kind t)) [
  | inl promoted ↦ (
      let o = promotion_ordinary q s t man Queen g promoted refl in
      told_by (has_square answers t) (is_legal_in q (record { from = s; to = t; promotion = Some Queen })) (λ h. answer_is_legal q (record { from = s; to = t; promotion = Some Queen }) answers screens shields o free.no_screen h) (λ h. no_answer_is_illegal q (record { from = s; to = t; promotion = Some Queen }) answers screens shields o h)
      ∙ sym (goes_promoted q s t man g promoted))
  | inr plain ↦ (
      let o : Ordinary q (record { from = s; to = t; promotion = None }) = record { valid = g.valid; from = g.from; to = g.to; may = going_plain q s t man g plain; no_king = free.no_king; not_passing = free.no_passing t } in
      told_by (has_square answers t) (is_legal_in q (record { from = s; to = t; promotion = None })) (λ h. answer_is_legal q (record { from = s; to = t; promotion = None }) answers screens shields o free.no_screen h) (λ h. no_answer_is_illegal q (record { from = s; to = t; promotion = None }) answers screens shields o h)
      ∙ sym (goes_plain q s t man g plain))
]

pub free_ways : (q : Board) (s : ℕ) (man : Man) (answers screens : List Bool) → IsValid q → s < 64 → man_at q.men s ≡ Some man → AreShields q answers screens → IsFree q screens s
    → set_common (set_of (is_way q s)) answers ≡ set_of (goes_legally q s)
unfolding set_common
free_ways q s man answers screens valid small found shields free =
    same_set (λ t. has_square (set_of (is_way q s)) t && has_square answers t) (goes_legally q s) (λ t small'.
    ap (λ b. b && has_square answers t) (has-set_of (is_way q s) t small') ∙ elim (cases_Bool (is_way q s t)) [
      | inl way ↦ ap (λ b. b && has_square answers t) way ∙ free_goes q s t man answers screens (record { valid = valid; from = small; to = small'; found = found; way = way }) shields free
      | inr none ↦ and_left (is_way q s t) (has_square answers t) none ∙ sym (goes_nowhere q s t none)
    ])

files_self : (t : ℕ) → files_apart t t ≡ 0
unfolding files_apart
files_self t = omega arith

ranks_self : (t : ℕ) → ranks_apart t t ≡ 0
unfolding ranks_apart
ranks_self t = omega arith

straight_self : (t : ℕ) → is_straight t t ≡ false
unfolding is_straight
straight_self t = rw (eq-eqb t t refl) refl

diagonal_self : (t : ℕ) → is_diagonal t t ≡ false
unfolding is_diagonal
diagonal_self t = rw (eq-eqb t t refl) refl

-- no man aims at its own square
pub aims_at_self : (c : Color) (k : Kind) (t : ℕ) → aims_at c k t t ≡ false
unfolding aims_at is_rank_ahead is_line steps_apart
aims_at_self White Pawn t = and_left (rank_of t == rank_of t + 1) (files_apart t t == 1) (ne_eqb (rank_of t) (rank_of t + 1) (λ e. omega (arith, e)))
aims_at_self Black Pawn t = and_left (rank_of t == rank_of t + 1) (files_apart t t == 1) (ne_eqb (rank_of t) (rank_of t + 1) (λ e. omega (arith, e)))
aims_at_self c Knight t = rw (files_self t, ranks_self t) refl
aims_at_self c Bishop t = diagonal_self t
aims_at_self c Rook t = straight_self t
aims_at_self c Queen t = rw (straight_self t, diagonal_self t) refl
aims_at_self c King t = rw (files_self t, ranks_self t) refl

-- a man that aims at its own square is none
pub unaimed : (c : Color) (t : ℕ) (o : Option Man) → aims_as c t t o ≡ true → ⊥
unaimed c t None h = cc
unaimed c t (Some man) h = both_ways (aims_at c man.kind t t) (aims_at_self c man.kind t) (and_parts (same_color man.color c) (aims_at c man.kind t t) h).1

-- t does not lie between itself and another square
pub not_between : (u t : ℕ) → lies_between u t t ≡ false
unfolding lies_between
not_between u t =
    and_right (is_within u t t) ((is_straight u t && is_straight u t && is_straight t t) || (is_diagonal u t && is_diagonal u t && is_diagonal t t))
    (or_from (is_straight u t && is_straight u t && is_straight t t) (is_diagonal u t && is_diagonal u t && is_diagonal t t)
    (and_right (is_straight u t && is_straight u t) (is_straight t t) (straight_self t)) (and_right (is_diagonal u t && is_diagonal u t) (is_diagonal t t) (diagonal_self t)))

-- a square is attacked as well where a man of the other side stands on it
attacked_on : (c : Color) (men : List (Option Man)) (t : ℕ) (man : Man) → t < length men → same_color man.color c ≡ false → attacked (slice_set men t (Some man)) c t ≡ attacked men c t
attacked_on c men t man inside other = elim (cases_Bool (attacked (slice_set men t (Some man)) c t)) [
  | inr safe ↦ safe ∙ sym (attacked_by_none men c t (λ u small. false_from_ne_true (attacks_as men c t u (man_at men u)) (λ h.
      let now = slice_set men t (Some man) in
      let parts = attack_parts men c t u (man_at men u) h in
      let apart : u ≢ t = λ e. unaimed c t (man_at men t) (ap (λ x. aims_as c t x (man_at men x)) (sym e) ∙ parts.0) in
      let there : man_at now u ≡ man_at men u = put_other men t (Some man) u apart in
      let clear = clear_from now u t (λ y small' lies.
      let off : y ≢ t = λ e. both_ways (lies_between u t t) (not_between u t) (ap (lies_between u t) (sym e) ∙ lies) in
      ap is_vacant (put_other men t (Some man) y off) ∙ clear_at men u t y parts.1 small' lies) in
      both_ways (attacked now c t) safe (attacked_from now c t u small (attack_from now c t u (man_at now u) (ap (aims_as c t u) there ∙ parts.0) clear)))))
  | inl struck ↦ elim (cases_Bool (attacked men c t)) [
    | inl also ↦ struck ∙ sym also
    | inr safe ↦ absurd (both_ways (attacked (slice_set men t (Some man)) c t) (still_safe c men (slice_set men t (Some man)) t (filled_put c men t man inside other) safe) struck)
  ]
]

two_away : (c : Color) (w : Wing) → aims_at c King (home_of c) (goal_of c w) ≡ false
unfolding aims_at steps_apart files_apart ranks_apart
two_away White Kingside = refl
two_away White Queenside = refl
two_away Black Kingside = refl
two_away Black Queenside = refl

-- the king moves as one man where it does not castle
king_moves_one : (q : Board) (s t : ℕ) (man : Man) → man_at q.men s ≡ Some man → man.kind ≡ King → aims_at q.side King s t ≡ true
    → men_after q (record { from = s; to = t; promotion = None }) ≡ men_moved q (record { from = s; to = t; promotion = None })
king_moves_one q s t man found king aims =
    let m : Move = record { from = s; to = t; promotion = None } in
    let no_pawn : is_man q.side Pawn (man_at q.men s) ≡ false = ap (is_man q.side Pawn) found ∙ two_kinds (same_color man.color q.side) (same_kind man.kind Pawn) (rw king refl) in
    elim (makes q m) [
      | Plainly a b e ↦ e
      | Passing h e ↦ absurd (both_ways (is_man q.side Pawn (man_at q.men s)) no_pawn (and_parts (is_man q.side Pawn (man_at q.men s)) (is_en_passant q s t) h).0)
      | OnWing w h e ↦ (
          let tests = castling_tests q w s t (and_parts (is_man q.side King (man_at q.men s)) (castles q w s t) h).1 in
          absurd (both_ways (aims_at q.side King s t) (ap (λ x. aims_at q.side King x t) tests.from_home ∙ ap (aims_at q.side King (home_of q.side)) tests.to_goal ∙ two_away q.side w) aims))
    ]

-- a king goes legally to a square near it where it would not be attacked
pub king_goes : (q : Board) (s t : ℕ) (man : Man) → Going q s t man → man.kind ≡ King → aims_at q.side King s t ≡ true
    → goes_legally q s t ≡ not (attacked (men_less q s) (other_color q.side) t)
unfolding in_check
king_goes q s t man g king aims =
    let m : Move = record { from = s; to = t; promotion = None } in
    let e = other_color q.side in
    let plain : is_promoted q.side man.kind t ≡ false = rw king refl in
    let may = going_plain q s t man g plain in
    let mover = may_gives q m may in
    let step : Step q m mover.0 = record { valid = g.valid; from = g.from; to = g.to; may = mover.1 } in
    let size = g.valid.size in
    let own : same_color man.color q.side ≡ true = ap (λ (x : Man). same_color x.color q.side) (same_Some man mover.0 (sym g.found ∙ mover.1.found)) ∙ mover.1.own in
    let one : men_after q m ≡ slice_set (men_less q s) t (Some man) = king_moves_one q s t man g.found king aims ∙ ap (slice_set (men_less q s) t) g.found in
    let inside : t < length (men_less q s) = rw length-set (omega (arith, size, g.to)) in
    let here : man_at (men_after q m) t ≡ Some man = ap (λ (x : List (Option Man)). man_at x t) one ∙ put (men_less q s) t (Some man) inside in
    let long = length_after q m in
    let at : king_of (men_after q m) q.side ≡ t = king_place (men_after q m) q.side t (kings_kept q m mover.0 step q.side) (omega (arith, long, size, g.to)) (ap (is_man q.side King) here ∙ rw (own, king) refl) in
    goes_plain q s t man g plain ∙ legal_if q m may
    ∙ ap not (ap (λ k. attacked (men_after q m) e k) at ∙ ap (λ (x : List (Option Man)). attacked x e t) one ∙ attacked_on e (men_less q s) t man inside (not_enemy man.color q.side own))

-- The squares that are left are ways, and the others are in the set where they go legally.
pub record Sifted (q : Board) (s : ℕ) (left legal : List Bool) : Type 0 where
  pub size : length legal ≡ 64
  pub ways : (t : ℕ) → t < 64 → has_square left t ≡ true → is_way q s t ≡ true
  pub told : (t : ℕ) → t < 64 → has_square left t ≡ false → has_square legal t ≡ goes_legally q s t

pub unsifted : (q : Board) (s : ℕ) (ways : List Bool) → ways ≡ set_of (is_way q s) → Sifted q s ways ways
unsifted q s ways e =
    let at = λ (t : ℕ) (small : t < 64). ap (λ (x : List Bool). has_square x t) e ∙ has-set_of (is_way q s) t small in
    record {
      size = ap length e ∙ length-set_of (is_way q s);
      ways = λ t small h. sym (at t small) ∙ h;
      told = λ t small h. h ∙ sym (goes_nowhere q s t (sym (at t small) ∙ h));
    }

pub sifted_one : (q : Board) (s u : ℕ) (left legal : List Bool) (b : Bool) → u < 64 → b ≡ goes_legally q s u → Sifted q s left legal → Sifted q s (set_without left u) (set_placed legal u b)
unfolding set_without set_placed
sifted_one q s u left legal b small e f =
    let here = λ (t : ℕ) (small' : t < 64). has-set_of (λ t. if t == u then b else has_square legal t) t small' in
    let rest = λ (t : ℕ) (small' : t < 64). has-set_of (λ t. not (t == u) && has_square left t) t small' in
    record {
      size = length-set_of (λ t. if t == u then b else has_square legal t);
      ways = λ t small' h. f.ways t small' (and_parts (not (t == u)) (has_square left t) (sym (rest t small') ∙ h)).1;
      told = λ t small' h. here t small' ∙ elim (cases_eq t u) [
        | inl same ↦ ap (λ x. cond x b (has_square legal t)) (eq-eqb t u same) ∙ e ∙ ap (goes_legally q s) (sym same)
        | inr other ↦ ap (λ x. cond x b (has_square legal t)) (ne_eqb t u other) ∙ f.told t small' (ap (λ x. not x && has_square left t) (sym (ne_eqb t u other)) ∙ sym (rest t small') ∙ h)
      ];
    }

pub all_sifted : (q : Board) (s : ℕ) (left legal : List Bool) → Sifted q s left legal → squares_in left ≡ [] → legal ≡ set_of (goes_legally q s)
all_sifted q s left legal f none =
    same_squares legal (set_of (goes_legally q s)) f.size (length-set_of (goes_legally q s)) (λ t small. f.told t small (none_left left none t small) ∙ sym (has-set_of (goes_legally q s) t small))

-- a square with no man of the side to move has no legal way
pub no_goings : (q : Board) (s : ℕ) → is_of q.side (man_at q.men s) ≡ false → set_of (λ _. false) ≡ set_of (goes_legally q s)
no_goings q s h =
    same_set (λ _. false) (goes_legally q s) (λ t small.
    let none : is_way q s t ≡ false = sym (has-set_of (is_way q s) t small) ∙ ap (λ (x : List Bool). has_square x t) (sym (no_ways q s h)) ∙ has-set_of (λ _. false) t small in
    sym (goes_nowhere q s t none))

-- the squares on which a man is promoted
pub none_promoted : (c : Color) (k : Kind) → same_kind k Pawn ≡ false → set_of (λ _. false) ≡ set_of (is_promoted c k)
none_promoted c k h = same_set (λ _. false) (is_promoted c k) (λ t _. sym (and_left (same_kind k Pawn) (rank_of t == last_rank c) h))
