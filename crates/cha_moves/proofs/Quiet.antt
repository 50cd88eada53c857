-- Quiet moves, and the ways of a king.
use Rattle.std.proofs.Common.{◌≡◌, ℕ, ◌<◌, ◌==◌, Bool, true, false, not, ◌&&◌, ◌||◌, List, Some, None, length, inl, inr, refl, sym, ap, ◌∙◌, arith}
use Rattle.std.specs.List.{Contains}
use Rattle.std.proofs.lemmas.Bool.{and_parts, or_cases, cases_Bool, false_from_ne_true, both_ways, eqb-true, not-true}
use Rattle.cha_board.specs.declared.men.Color.{Color}
use Rattle.cha_board.specs.declared.men.Man.{Man}
use Rattle.cha_board.specs.declared.men.Kind.{Kind}
use Rattle.cha_board.specs.declared.men.Kind.TheVariants.{Pawn, Knight, Bishop, Rook, Queen, King}
use Rattle.cha_board.specs.declared.position.Rights.{Rights}
use Rattle.cha_board.specs.Men.{same_color, same_kind, is_man}
use Rattle.cha_board.specs.Squares.{files_apart, aims_at}
use Rattle.cha_board.specs.Board.{Board, IsValid, man_at, is_empty, is_home, home_of, corner_of, has_right, rights_where}
use Rattle.cha_board.specs.SquareSets.{set_of, has_square, set_common, set_minus, set_joined}
use Rattle.cha_board.proofs.Identity.{two_kinds}
use Rattle.cha_board.proofs.RightLaws.{has-where, same_rights}
use Rattle.cha_board.proofs.SetLaws.{has-set_of, length-set_of, same_set}
use Rattle.cha_moves.specs.Step.{Move}
use Rattle.cha_moves.specs.Moves.{is_step, is_double_step, is_target, is_en_passant, moved, touches, men_after, keeps_right, rights_after, legal}
use Rattle.cha_moves.specs.Ways.{is_way, is_free, is_quiet, is_promoted}
use Rattle.cha_moves.proofs.Alone.{near_files, king_alone, pawn_alone, piece_alone}
use Rattle.cha_moves.proofs.Arriving.{Going}
use Rattle.cha_moves.proofs.Goings.{joined_of}
use Rattle.cha_moves.proofs.GoingLegally.{Sifted, goes_nowhere}
use Rattle.cha_moves.proofs.Kept.{homes_of}
use Rattle.cha_moves.proofs.Near.{king_aims}
use Rattle.cha_moves.proofs.SafeCastling.{castling_goes}
use Rattle.cha_moves.proofs.Touched.{home_is, corner_is}
use Rattle.cha_moves.proofs.Validity.{pawn_ahead, step_tests, double_step}

free_test : (a e h : Bool) → a ≡ true → (a && not (not e || h)) ≡ (e && not h)
free_test true true h same = refl
free_test true false h same = refl
free_test false e h same = cc

-- the squares that are neither occupied nor homes are free
pub free_squares : (q : Board) (all : List Bool) → ((t : ℕ) → t < 64 → has_square all t ≡ true)
    → set_minus all (set_joined (set_of (λ t. not (is_empty q.men t))) (set_of is_home)) ≡ set_of (λ t. is_free q t)
unfolding set_minus
free_squares q all every =
    let busy = λ (t : ℕ). not (is_empty q.men t) || is_home t in
    let joined = joined_of (λ t. not (is_empty q.men t)) is_home in
    same_set (λ t. has_square all t && not (has_square (set_joined (set_of (λ t. not (is_empty q.men t))) (set_of is_home)) t)) (λ t. is_free q t) (λ t small.
    ap (λ (x : List Bool). has_square all t && not (has_square x t)) joined
    ∙ ap (λ b. has_square all t && not b) (has-set_of busy t small)
    ∙ free_test (has_square all t) (is_empty q.men t) (is_home t) (every t small))

common_of : (a b : ℕ → Bool) → set_common (set_of a) (set_of b) ≡ set_of (λ t. a t && b t)
unfolding set_common
common_of a b = same_set (λ t. has_square (set_of a) t && has_square (set_of b) t) (λ t. a t && b t) (λ t small. rw (has-set_of a t small, has-set_of b t small) refl)

minus_of : (a b : ℕ → Bool) → set_minus (set_of a) (set_of b) ≡ set_of (λ t. a t && not (b t))
unfolding set_minus
minus_of a b = same_set (λ t. has_square (set_of a) t && not (has_square (set_of b) t)) (λ t. a t && not (b t)) (λ t small. rw (has-set_of a t small, has-set_of b t small) refl)

-- the squares to which a pawn, a king and another man goes quietly
pub quiet_pawn : (q : Board) (s : ℕ)
    → set_minus (set_common (set_of (λ t. is_free q t)) (set_of (λ t. is_step q s t || is_double_step q s t))) (set_of (is_promoted q.side Pawn)) ≡ set_of (is_quiet q Pawn s)
unfolding is_quiet
quiet_pawn q s =
    ap (λ x. set_minus x (set_of (is_promoted q.side Pawn))) (common_of (λ t. is_free q t) (λ t. is_step q s t || is_double_step q s t))
    ∙ minus_of (λ t. is_free q t && (is_step q s t || is_double_step q s t)) (is_promoted q.side Pawn)

pub quiet_king : (q : Board) (s : ℕ) → set_common (set_of (λ t. is_free q t)) (set_of (aims_at q.side King s)) ≡ set_of (is_quiet q King s)
unfolding is_quiet
quiet_king q s = common_of (λ t. is_free q t) (aims_at q.side King s)

pub quiet_other : (q : Board) (k : Kind) (s : ℕ) → same_kind k Pawn ≡ false → same_kind k King ≡ false → set_of (λ t. is_free q t) ≡ set_of (is_quiet q k s)
unfolding is_quiet
quiet_other q Pawn s no_pawn no_king = cc
quiet_other q Knight s no_pawn no_king = refl
quiet_other q Bishop s no_pawn no_king = refl
quiet_other q Rook s no_pawn no_king = refl
quiet_other q Queen s no_pawn no_king = refl
quiet_other q King s no_pawn no_king = cc

-- what goes quietly enters a free square and is not promoted
pub record Quietly (q : Board) (k : Kind) (s t : ℕ) : Type 0 where
  pub free : is_empty q.men t ≡ true
  pub enters : is_home t ≡ false
  pub plain : is_promoted q.side k t ≡ false

quietly_free : (q : Board) (k : Kind) (s t : ℕ) → is_free q t ≡ true → is_promoted q.side k t ≡ false → Quietly q k s t
quietly_free q k s t h plain = (let x = and_parts (is_empty q.men t) (not (is_home t)) h in record { free = x.0; enters = not-true (is_home t) x.1; plain = plain })

pub quietly : (q : Board) (k : Kind) (s t : ℕ) → is_quiet q k s t ≡ true → Quietly q k s t
unfolding is_quiet
quietly q Pawn s t h =
    let x = and_parts (is_free q t && (is_step q s t || is_double_step q s t)) (not (is_promoted q.side Pawn t)) h in
    quietly_free q Pawn s t (and_parts (is_free q t) (is_step q s t || is_double_step q s t) x.0).0 (not-true (is_promoted q.side Pawn t) x.1)
quietly q Knight s t h = quietly_free q Knight s t h refl
quietly q Bishop s t h = quietly_free q Bishop s t h refl
quietly q Rook s t h = quietly_free q Rook s t h refl
quietly q Queen s t h = quietly_free q Queen s t h refl
quietly q King s t h = quietly_free q King s t (and_parts (is_free q t) (aims_at q.side King s t) h).0 refl

-- a pawn's step is no capture en passant
one_file : (q : Board) (s t : ℕ) → (is_step q s t || is_double_step q s t) ≡ true → files_apart s t ≡ 0
unfolding files_apart
one_file q s t h = elim (or_cases (is_step q s t) (is_double_step q s t) h) [
  | inl x ↦ (step_tests q s t x).0
  | inr x ↦ (let file = (double_step q s t x).file in omega (arith, file))
]

no_passing : (q : Board) (s t : ℕ) → files_apart s t ≡ 0 → is_en_passant q s t ≡ false
unfolding is_en_passant
no_passing q s t file = false_from_ne_true (is_en_passant q s t) (λ h. (
    let next = (pawn_ahead q.side s t (and_parts (aims_at q.side Pawn s t) (is_target q.target t) h).0).1 in
    omega (arith, file, next)))

-- what goes quietly goes alone
pub quietly_alone : (q : Board) (m : Move) (k : Kind) → Contains (legal q) m → is_man q.side k (man_at q.men m.from) ≡ true → m.promotion ≡ None → is_quiet q k m.from m.to ≡ true
    → men_after q m ≡ moved q.men m.from m.to (Some (record { color = q.side; kind = k }))
unfolding is_quiet
quietly_alone q m Pawn h man none quiet =
    let x = and_parts (is_free q m.to && (is_step q m.from m.to || is_double_step q m.from m.to)) (not (is_promoted q.side Pawn m.to)) quiet in
    let steps = (and_parts (is_free q m.to) (is_step q m.from m.to || is_double_step q m.from m.to) x.0).1 in
    pawn_alone q m man none (no_passing q m.from m.to (one_file q m.from m.to steps))
quietly_alone q m Knight h man none quiet = piece_alone q m Knight h man refl refl
quietly_alone q m Bishop h man none quiet = piece_alone q m Bishop h man refl refl
quietly_alone q m Rook h man none quiet = piece_alone q m Rook h man refl refl
quietly_alone q m Queen h man none quiet = piece_alone q m Queen h man refl refl
quietly_alone q m King h man none quiet =
    king_alone q m h man (near_files m.from m.to (king_aims q.side m.from m.to (and_parts (is_free q m.to) (aims_at q.side King m.from m.to) quiet).1))

other_square : (s h : ℕ) → is_home s ≡ false → is_home h ≡ true → (s == h) ≡ false
other_square s h away home = false_from_ne_true (s == h) (λ e. both_ways (is_home s) away (ap is_home (eqb-true s h e) ∙ home))

or_same : (a : Bool) → (a || a) ≡ (a || false)
or_same true = refl
or_same false = refl

touches_alike : (m n : Move) (h : ℕ) → n.from ≡ m.from → n.to ≡ m.from → is_home m.to ≡ false → is_home h ≡ true → touches n h ≡ touches m h
touches_alike m n h from to away home = rw (from, to, other_square m.to h away home) (or_same (m.from == h))

-- where a move enters no home, the rights are those that are left once its man has gone
pub rights_alike : (r : Rights) (m n : Move) → n.from ≡ m.from → n.to ≡ m.from → is_home m.to ≡ false → rights_after r n ≡ rights_after r m
unfolding rights_after
rights_alike r m n from to away =
    let at = λ (h : ℕ) (home : is_home h ≡ true). touches_alike m n h from to away home in
    λ i. rights_where (λ c w. has_right r c w && not (at (home_of c) (home_is c) i) && not (at (corner_of c w) (corner_is c w) i))

-- a man of another kind leaves no square on which a king or a rook is at home
not_left : (q : Board) (m : Move) (man : Man) (c : Color) (k : Kind) (h : ℕ) → man_at q.men m.from ≡ Some man → same_kind man.kind k ≡ false → is_home m.to ≡ false → is_home h ≡ true
    → is_man c k (man_at q.men h) ≡ true → touches m h ≡ false
not_left q m man c k h found other away home here =
    let from : (m.from == h) ≡ false = false_from_ne_true (m.from == h) (λ e. (
    let there : is_man c k (man_at q.men h) ≡ is_man c k (Some man) = ap (λ s. is_man c k (man_at q.men s)) (sym (eqb-true m.from h e)) ∙ ap (is_man c k) found in
    both_ways (is_man c k (man_at q.men h)) (there ∙ two_kinds (same_color man.color c) (same_kind man.kind k) other) here)) in
    rw (from, other_square m.to h away home) refl

right_unused : (b x y : Bool) → (b ≡ true → (x ≡ false) × (y ≡ false)) → b ≡ (b && not x && not y)
right_unused true x y h = (let f = h refl in rw (f.0, f.1) refl)
right_unused false x y h = refl

-- so that no right changes
pub rights_unused : (q : Board) (m : Move) (man : Man) → IsValid q → man_at q.men m.from ≡ Some man → same_kind man.kind King ≡ false → same_kind man.kind Rook ≡ false → is_home m.to ≡ false
    → q.rights ≡ rights_after q.rights m
unfolding rights_after
rights_unused q m man valid found no_king no_rook away = same_rights q.rights (rights_after q.rights m) (λ c w.
    right_unused (has_right q.rights c w) (touches m (home_of c)) (touches m (corner_of c w)) (λ h. (
    let x = homes_of q c w valid h in
    (not_left q m man c King (home_of c) found no_king away (home_is c) x.0, not_left q m man c Rook (corner_of c w) found no_rook away (corner_is c w) x.1)))
    ∙ sym (has-where (keeps_right q.rights m) c w))

-- the ways of a king of which only its steps are to be asked
pub castling_told : (q : Board) (s : ℕ) (man : Man) (ways near : List Bool) → IsValid q → s < 64 → man_at q.men s ≡ Some man → man.kind ≡ King → ways ≡ set_of (is_way q s) → near ≡ set_of (aims_at q.side King s)
    → Sifted q s (set_common ways near) ways
unfolding set_common
castling_told q s man ways near valid from found king are aims =
    let way = λ (t : ℕ) (small : t < 64). ap (λ (x : List Bool). has_square x t) are ∙ has-set_of (is_way q s) t small in
    let aimed = λ (t : ℕ) (small : t < 64). ap (λ (x : List Bool). has_square x t) aims ∙ has-set_of (aims_at q.side King s) t small in
    let left = λ (t : ℕ) (small : t < 64). has-set_of (λ t. has_square ways t && has_square near t) t small in
    record {
      size = ap length are ∙ length-set_of (is_way q s);
      ways = λ t small h. sym (way t small) ∙ (and_parts (has_square ways t) (has_square near t) (sym (left t small) ∙ h)).0;
      told = λ t small h. elim (cases_Bool (is_way q s t)) [
        | inl goes ↦ (
            let here = way t small ∙ goes in
            let far : aims_at q.side King s t ≡ false = sym (aimed t small) ∙ ap (λ b. b && has_square near t) (sym here) ∙ sym (left t small) ∙ h in
            let going : Going q s t man = record { valid = valid; from = from; to = small; found = found; way = goes } in
            here ∙ sym (castling_goes q s t man going king far))
        | inr none ↦ way t small ∙ none ∙ sym (goes_nowhere q s t none)
      ];
    }

-- each of those is a step
pub near_steps : (q : Board) (s t : ℕ) (ways near : List Bool) → t < 64 → near ≡ set_of (aims_at q.side King s) → has_square (set_common ways near) t ≡ true → aims_at q.side King s t ≡ true
unfolding set_common
near_steps q s t ways near small aims h =
    sym (has-set_of (aims_at q.side King s) t small) ∙ ap (λ (x : List Bool). has_square x t) (sym aims)
    ∙ (and_parts (has_square ways t) (has_square near t) (sym (has-set_of (λ t. has_square ways t && has_square near t) t small) ∙ h)).1
