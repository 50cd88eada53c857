-- The test of mate says what the fact says, and a position stands in one way alone.
use Rattle.std.proofs.Common.{◌≡◌, Bool, true, false, not, ◌&&◌, List, [], ◌∷◌, refl, sym, ap, ◌∙◌}
use Rattle.std.proofs.lemmas.Bool.{and_parts, and_from, both_ways, not-true}
use Rattle.cha_board.specs.declared.men.Color.{Color}
use Rattle.cha_board.specs.Men.{other_color, same_color}
use Rattle.cha_board.specs.Board.{Board, in_check}
use Rattle.cha_moves.specs.Step.{Move}
use Rattle.cha_moves.specs.Moves.{legal}
use Rattle.cha_moves.specs.Ends.{IsMated, IsStalemated}
use Rattle.cha_moves.specs.MateLines.{is_nil, is_mated}
use Rattle.cha_moves.specs.Standings.{Stands, standing_with, standing_of}
use Rattle.cha_moves.specs.declared.ends.Standing.{Standing}
use Rattle.cha_moves.specs.declared.ends.Standing.TheVariants.{Mate, Stalemate, Running}
use Rattle.cha_board.proofs.Identity.{same_color_equal, same_color_self, other_other}

nil_is : (ms : List Move) → is_nil ms ≡ true → ms ≡ []
nil_is [] h = refl
nil_is (m ∷ ms) h = absurd (cc)

-- the test says what the fact says
pub mated_is : (q : Board) (loser : Color) → is_mated q loser ≡ true → IsMated q loser
unfolding is_mated
mated_is q loser h =
    let parts = and_parts (same_color q.side loser && in_check q.men loser) (is_nil (legal q)) h in
    let first = and_parts (same_color q.side loser) (in_check q.men loser) parts.0 in
    record { to_move = same_color_equal q.side loser first.0; check = first.1; stuck = nil_is (legal q) parts.1 }

pub mated_itself : (q : Board) (loser : Color) → IsMated q loser → is_mated q loser ≡ true
unfolding is_mated
mated_itself q loser h =
    let own : same_color q.side loser ≡ true = rw (h.to_move) (same_color_self loser) in
    let none : is_nil (legal q) ≡ true = ap is_nil h.stuck in
    and_from (same_color q.side loser && in_check q.men loser) (is_nil (legal q)) (and_from (same_color q.side loser) (in_check q.men loser) own h.check) none

free_of : (b : Bool) → (b ≡ true → ⊥) → not b ≡ true
free_of true h = absurd (h refl)
free_of false h = refl

-- no mate and no legal move is stalemate
pub stalemated : (q : Board) (side : Color) → q.side ≡ other_color side → is_mated q (other_color side) ≡ false → legal q ≡ [] → IsStalemated q
stalemated q side own h stuck =
    let mated : in_check q.men q.side ≡ true → ⊥ = λ check.
    both_ways (is_mated q (other_color side)) h (mated_itself q (other_color side) (record { to_move = own; check = sym (ap (in_check q.men) own) ∙ check; stuck = stuck })) in
    record { free = free_of (in_check q.men q.side) mated; stuck = stuck }

running : (q : Board) (ms : List Move) → (ms ≡ [] → ⊥) → Running ≡ standing_with q ms
unfolding standing_with
running q [] some = absurd (some refl)
running q (m ∷ ms) some = refl

-- what a position stands as is its standing
pub standing_is : (q : Board) (s : Standing) → Stands q s → s ≡ standing_of q
unfolding standing_with
standing_is q (Mate winner) h =
    let side = h.to_move in
    let check : in_check q.men q.side ≡ true = ap (in_check q.men) side ∙ h.check in
    let who : Mate winner ≡ Mate (other_color q.side) = ap Mate (sym (other_other winner) ∙ ap other_color (sym side)) in
    rw (h.stuck, check) who
standing_is q Stalemate h = rw (h.stuck, not-true _ h.free) refl
standing_is q Running h = running q (legal q) h
