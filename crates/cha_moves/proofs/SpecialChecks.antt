-- Squares on which a man may give check, as sets.
use Rattle.std.proofs.Common.{◌≡◌, ℕ, ◌==◌, Bool, true, false, ◌||◌, List, Option, Some, None, refl, sym, ◌∙◌, ap}
use Rattle.std.proofs.Math.Bool.{or_comm, or-true}
use Rattle.cha_board.specs.declared.men.Color.{Color}
use Rattle.cha_board.specs.declared.men.Kind.{Kind}
use Rattle.cha_board.specs.declared.men.Kind.TheVariants.{Pawn, Knight, Bishop, Rook, Queen, King}
use Rattle.cha_board.specs.declared.castling.Wing.TheVariants.{Kingside, Queenside}
use Rattle.cha_board.specs.Men.{other_color}
use Rattle.cha_board.specs.Squares.{rank_of, last_rank}
use Rattle.cha_board.specs.Aims.{aims_over, aimed}
use Rattle.cha_board.specs.Board.{Board, king_of, goal_of}
use Rattle.cha_board.specs.SquareSets.{set_of, has_square, set_joined, set_with, empty_set}
use Rattle.cha_board.proofs.SetLaws.{has-set_of, same_set}
use Rattle.cha_moves.specs.Moves.{is_target}
use Rattle.cha_moves.specs.Checks.{others, may_check, is_special_check}
use Rattle.cha_moves.proofs.Goings.{same_eqb}
use Rattle.cha_moves.proofs.Checking.{enemy_king}

or-false : (b : Bool) → b ≡ (b || false)
or-false true = refl
or-false false = refl

turned_or : (s u : ℕ) (b : Bool) → ((s == u) || b) ≡ (b || (u == s))
turned_or s u true = or-true (s == u)
turned_or s u false = sym (or-false (s == u)) ∙ same_eqb s u

-- the squares on which a pawn, a king and other men give check in their special ways
pub special_last : (q : Board) (set : List Bool) → q.target ≡ None → set ≡ set_of (λ t. rank_of t == last_rank q.side) → set ≡ set_of (is_special_check q Pawn)
unfolding is_special_check
special_last q set none is =
    is ∙ same_set (λ t. rank_of t == last_rank q.side) (is_special_check q Pawn) (λ t small. or-false (rank_of t == last_rank q.side) ∙ ap (λ (o : Option ℕ). (rank_of t == last_rank q.side) || is_target o t) (sym none))

pub special_target : (q : Board) (last set : List Bool) (u : ℕ) → q.target ≡ Some u → last ≡ set_of (λ t. rank_of t == last_rank q.side) → set ≡ set_with last u → set ≡ set_of (is_special_check q Pawn)
unfolding is_special_check set_with
special_target q last set u some is with_is =
    with_is ∙ same_set (λ s. (s == u) || has_square last s) (is_special_check q Pawn) (λ t small.
    ap (λ b. (t == u) || b) (ap (λ x. has_square x t) is ∙ has-set_of (λ t. rank_of t == last_rank q.side) t small)
    ∙ turned_or t u (rank_of t == last_rank q.side)
    ∙ ap (λ (o : Option ℕ). (rank_of t == last_rank q.side) || is_target o t) (sym some))

pub special_castling : (q : Board) (one set : List Bool) (a b : ℕ) → a ≡ goal_of q.side Queenside → b ≡ goal_of q.side Kingside → one ≡ set_with empty_set a → set ≡ set_with one b → set ≡ set_of (is_special_check q King)
unfolding is_special_check set_with
special_castling q one set a b left right one_is set_is =
    set_is ∙ same_set (λ s. (s == b) || has_square one s) (is_special_check q King) (λ t small.
    ap (λ x. (t == b) || x) (ap (λ x. has_square x t) one_is ∙ has-set_of (λ s. (s == a) || has_square empty_set s) t small ∙ ap (λ x. (t == a) || x) (has-set_of (λ _. false) t small))
    ∙ ap (λ x. (t == b) || x) (sym (or-false (t == a)))
    ∙ or_comm (t == b) (t == a)
    ∙ ap (λ x. (t == x) || (t == b)) left
    ∙ ap (λ x. (t == goal_of q.side Queenside) || (t == x)) right)

pub special_none : (q : Board) (k : Kind) → (k ≡ Pawn → ⊥) → (k ≡ King → ⊥) → empty_set ≡ set_of (is_special_check q k)
unfolding is_special_check
special_none q Pawn p k = absurd (p refl)
special_none q Knight p k = refl
special_none q Bishop p k = refl
special_none q Rook p k = refl
special_none q Queen p k = refl
special_none q King p k = absurd (k refl)

-- of a kind
pub of_kind : (q : Board) (k j : Kind) (set : List Bool) → k ≡ j → set ≡ set_of (is_special_check q j) → set ≡ set_of (is_special_check q k)
of_kind q k j set same is = is ∙ ap (λ (x : Kind). set_of (is_special_check q x)) (sym same)

-- both together
pub checks_are : (q : Board) (s : ℕ) (kind : Kind) (k : ℕ) (c : Color) (near special set : List Bool) → c ≡ other_color q.side → k ≡ king_of q.men c → near ≡ aimed c kind k (others q s) → special ≡ set_of (is_special_check q kind) → set ≡ set_joined near special → set ≡ set_of (may_check q s kind)
unfolding may_check set_joined aimed
checks_are q s kind k c near special set side king near_is special_is set_is =
    let here : k ≡ enemy_king q = king ∙ ap (king_of q.men) side in
    set_is ∙ same_set (λ t. has_square near t || has_square special t) (may_check q s kind) (λ t low.
    ap (λ x. x || has_square special t) (ap (λ x. has_square x t) near_is ∙ has-set_of (aims_over c kind k (others q s)) t low ∙ ap (λ d. aims_over d kind k (others q s) t) side ∙ ap (λ u. aims_over (other_color q.side) kind u (others q s) t) here)
    ∙ ap (λ x. aims_over (other_color q.side) kind (enemy_king q) (others q s) t || x) (ap (λ x. has_square x t) special_is ∙ has-set_of (is_special_check q kind) t low))
