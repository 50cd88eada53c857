-- How a man other than a king goes by one step or a jump, and what it becomes.
use Rattle.std.proofs.Common.{◌≡◌, ℕ, ◌<◌, ◌==◌, true, false, not, ◌&&◌, ◌||◌, [], Option, Some, None, refl, sym, subst, ap, inl, inr}
use Rattle.std.proofs.lemmas.Bool.{and_parts, and_from, or_left, or_right, both_ways, cases_Bool}
use Rattle.cha_board.specs.declared.men.Color.{Color}
use Rattle.cha_board.specs.declared.men.Kind.{Kind}
use Rattle.cha_board.specs.declared.men.Kind.TheVariants.{Pawn, Knight, Bishop, Rook, Queen, King}
use Rattle.cha_board.specs.declared.men.Man.{Man}
use Rattle.cha_board.specs.Men.{same_color, same_kind, is_man}
use Rattle.cha_board.specs.Squares.{rank_of, last_rank, steps_apart, aims_at, between}
use Rattle.cha_board.specs.Board.{Board, is_empty, is_clear}
use Rattle.cha_moves.specs.Moves.{goes, is_step, is_double_step, is_pawn_capture, is_en_passant, promotes_well, arriving}
use Rattle.mob_law.specs.Reach.{is_leaper, steps_to}
use Rattle.mob_law.proofs.Geometry.{leap_clear}

-- a step of one square or a jump, taken apart
pub steps_parts : (c : Color) (k : Kind) (u t : ℕ) → u < 64 → t < 64 → steps_to c k u t ≡ true → (aims_at c k u t ≡ true) × (between u t ≡ [])
unfolding steps_to
steps_parts c k u t small small' h =
    let both = and_parts (aims_at c k u t) (is_leaper k || (steps_apart u t == 1)) h in
    (both.0, leap_clear c k u t small small' both.0 both.1)

-- over no square it is clear
pub clear_over : (q : Board) (n t : ℕ) → between n t ≡ [] → is_clear q.men n t ≡ true
unfolding is_clear
clear_over q n t none = rw none refl

-- a man other than a pawn and a king goes where it steps or jumps
pub piece_way : (q : Board) (k : Kind) (n t : ℕ) → same_kind k Pawn ≡ false → same_kind k King ≡ false → aims_at q.side k n t ≡ true → is_clear q.men n t ≡ true → goes q k n t ≡ true
unfolding goes
piece_way q Pawn n t no_pawn no_king aims clear = cc
piece_way q Knight n t no_pawn no_king aims clear = and_from (aims_at q.side Knight n t) (is_clear q.men n t) aims clear
piece_way q Bishop n t no_pawn no_king aims clear = and_from (aims_at q.side Bishop n t) (is_clear q.men n t) aims clear
piece_way q Rook n t no_pawn no_king aims clear = and_from (aims_at q.side Rook n t) (is_clear q.men n t) aims clear
piece_way q Queen n t no_pawn no_king aims clear = and_from (aims_at q.side Queen n t) (is_clear q.men n t) aims clear
piece_way q King n t no_pawn no_king aims clear = cc

-- a pawn goes where it captures
pub pawn_way : (q : Board) (k : Kind) (n t : ℕ) → k ≡ Pawn → aims_at q.side k n t ≡ true → is_empty q.men t ≡ false → goes q k n t ≡ true
unfolding goes is_pawn_capture
pawn_way q k n t pawn aims full =
    let A : Kind → Type 0 = λ x. aims_at q.side x n t ≡ true in
    let G : Kind → Type 0 = λ x. goes q x n t ≡ true in
    let takes : is_pawn_capture q n t ≡ true = and_from (aims_at q.side Pawn n t) (not (is_empty q.men t)) (subst A pawn aims) (ap not full) in
    subst G (sym pawn) (or_left (is_step q n t || is_double_step q n t || is_pawn_capture q n t) (is_en_passant q n t) (or_right (is_step q n t || is_double_step q n t) (is_pawn_capture q n t) takes))

-- what a man becomes where it arrives: a pawn on the last rank a queen, and any other what it is
pub becoming : (c : Color) (k : Kind) (t : ℕ) → (b : Option Kind) × (promotes_well c k t b ≡ true)
unfolding promotes_well
becoming c k t =
    elim (cases_Bool (same_kind k Pawn && (rank_of t == last_rank c))) [
      | inl last ↦ (Some Queen, rw last refl)
      | inr inside ↦ (None, rw inside refl)
    ]

pub some_arrives : (man : Man) (b : Option Kind) → (new : Man) × (arriving (Some man) b ≡ Some new)
some_arrives man None = (man, refl)
some_arrives man (Some k) = (record { color = man.color; kind = k }, refl)

-- what a man of one kind is not
pub not_of_kind : (o : Option Man) (man : Man) (c : Color) (j : Kind) → o ≡ Some man → same_kind man.kind j ≡ false → is_man c j o ≡ true → ⊥
not_of_kind o man c j found other there =
    let P : Option Man → Type 0 = λ x. is_man c j x ≡ true in
    both_ways (same_kind man.kind j) other (and_parts (same_color man.color c) (same_kind man.kind j) (subst P found there)).1
