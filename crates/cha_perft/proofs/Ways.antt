-- The moves of one way, which are legal.
use Rattle.std.proofs.Common.{◌≡◌, ℕ, ◌+◌, ◌<◌, Bool, true, false, cond, List, [], ◌∷◌, Option, Some, None, refl, sym, ap, subst, ◌∙◌, arith}
use Rattle.std.specs.List.{Contains}
use Rattle.cha_board.specs.declared.men.Man.{Man}
use Rattle.cha_board.specs.declared.men.Kind.{Kind}
use Rattle.cha_board.specs.declared.men.Kind.TheVariants.{Queen, Rook, Bishop, Knight}
use Rattle.cha_board.specs.Board.{Board, IsValid, man_at}
use Rattle.cha_board.specs.SquareSets.{set_of, has_square}
use Rattle.cha_board.proofs.SetLaws.{has-set_of}
use Rattle.cha_moves.specs.Step.{Move}
use Rattle.cha_moves.specs.Moves.{is_legal_in, moves_between, after, legal}
use Rattle.cha_moves.specs.Ways.{is_promoted, legal_between}
use Rattle.cha_moves.specs.Shields.{goes_legally}
use Rattle.cha_perft.specs.Counts.{lines_from, lines_with}
use Rattle.cha_perft.proofs.Sums.{four_moves}
use Rattle.cha_moves.proofs.Contained.{Contains-filter_parts}
use Rattle.cha_moves.proofs.Listed.{listed}
use Rattle.cha_moves.proofs.Arriving.{Going, moves_plain, moves_promoted}
use Rattle.cha_moves.proofs.GoingLegally.{goes_a_way, goes_plain, goes_promoted}

abbrev pub move_of : ℕ → ℕ → Option Kind → Move
move_of s t k = record { from = s; to = t; promotion = k }

-- what is known of a way of a man from one square to another
pub record Legally (q : Board) (s t : ℕ) (man : Man) : Type 0 where
  pub valid : IsValid q
  pub from : s < 64
  pub to : t < 64
  pub found : man_at q.men s ≡ Some man
  pub legally : goes_legally q s t ≡ true

going_of : (q : Board) (s t : ℕ) (man : Man) → Legally q s t man → Going q s t man
going_of q s t man g = record { valid = g.valid; from = g.from; to = g.to; found = g.found; way = goes_a_way q s t g.legally }

-- where the man is not promoted there is one move
pub plain_way : (q : Board) (s t : ℕ) (man : Man) → Legally q s t man → is_promoted q.side man.kind t ≡ false → legal_between q s t ≡ move_of s t None ∷ []
plain_way q s t man g plain =
    let going = going_of q s t man g in
    moves_plain q s t man going plain ∙ ap (λ b. cond b (move_of s t None ∷ []) []) (sym (goes_plain q s t man going plain) ∙ g.legally)

pub plain_legal : (q : Board) (s t : ℕ) (man : Man) → Legally q s t man → is_promoted q.side man.kind t ≡ false → Contains (legal q) (move_of s t None)
plain_legal q s t man g plain = listed q (move_of s t None) g.from g.to (sym (goes_plain q s t man (going_of q s t man g) plain) ∙ g.legally)

abbrev pub four : ℕ → ℕ → List Move
four s t = move_of s t (Some Queen) ∷ move_of s t (Some Rook) ∷ move_of s t (Some Bishop) ∷ move_of s t (Some Knight) ∷ []

-- where it is promoted there are four
pub promoted_way : (q : Board) (s t : ℕ) (man : Man) → Legally q s t man → is_promoted q.side man.kind t ≡ true → legal_between q s t ≡ four s t
promoted_way q s t man g promoted =
    let going = going_of q s t man g in
    moves_promoted q s t man going promoted ∙ ap (λ b. cond b (four s t) []) (sym (goes_promoted q s t man going promoted) ∙ g.legally)

among : (q : Board) (s t : ℕ) (k : Option Kind) (ms : List Move) → s < 64 → t < 64 → legal_between q s t ≡ ms → Contains ms (move_of s t k) → Contains (legal q) (move_of s t k)
unfolding legal_between
among q s t k ms small small' are inside =
    let here : Contains (legal_between q s t) (move_of s t k) = subst (λ (xs : List Move). Contains xs (move_of s t k)) (sym are) inside in
    listed q (move_of s t k) small small' (Contains-filter_parts (is_legal_in q) (moves_between s t) (move_of s t k) here).1

-- each of the four is legal
pub queen_legal : (q : Board) (s t : ℕ) (man : Man) → Legally q s t man → is_promoted q.side man.kind t ≡ true → Contains (legal q) (move_of s t (Some Queen))
queen_legal q s t man g promoted = among q s t (Some Queen) (four s t) g.from g.to (promoted_way q s t man g promoted) (0, omega arith, refl)

pub rook_legal : (q : Board) (s t : ℕ) (man : Man) → Legally q s t man → is_promoted q.side man.kind t ≡ true → Contains (legal q) (move_of s t (Some Rook))
rook_legal q s t man g promoted = among q s t (Some Rook) (four s t) g.from g.to (promoted_way q s t man g promoted) (1, omega arith, refl)

pub bishop_legal : (q : Board) (s t : ℕ) (man : Man) → Legally q s t man → is_promoted q.side man.kind t ≡ true → Contains (legal q) (move_of s t (Some Bishop))
bishop_legal q s t man g promoted = among q s t (Some Bishop) (four s t) g.from g.to (promoted_way q s t man g promoted) (2, omega arith, refl)

pub knight_legal : (q : Board) (s t : ℕ) (man : Man) → Legally q s t man → is_promoted q.side man.kind t ≡ true → Contains (legal q) (move_of s t (Some Knight))
knight_legal q s t man g promoted = among q s t (Some Knight) (four s t) g.from g.to (promoted_way q s t man g promoted) (3, omega arith, refl)

-- a square is among the last ones exactly where the man is promoted there
pub promoted_at : (q : Board) (man : Man) (last : List Bool) (t : ℕ) → t < 64 → last ≡ set_of (is_promoted q.side man.kind) → has_square last t ≡ is_promoted q.side man.kind t
promoted_at q man last t small are = ap (λ (x : List Bool). has_square x t) are ∙ has-set_of (is_promoted q.side man.kind) t small

-- what a move that is known asks
pub asked : (q : Board) (s t : ℕ) (k : Option Kind) (man : Man) (m : Move) → man_at q.men s ≡ Some man → m ≡ move_of s t k → Contains (legal q) (move_of s t k)
    → Contains (legal q) m × (man_at q.men m.from ≡ Some man)
asked q s t k man m found is lawful = (subst (λ (x : Move). Contains (legal q) x) (sym is) lawful, ap (λ (x : Move). man_at q.men x.from) is ∙ found)

-- the lines of the four
pub four_lines : (e : ℕ) (q : Board) (s t : ℕ) (a b c d : Move) (ms : List Move) → a ≡ move_of s t (Some Queen) → b ≡ move_of s t (Some Rook) → c ≡ move_of s t (Some Bishop) → d ≡ move_of s t (Some Knight) → ms ≡ four s t
    → (lines_from e (after q a) + lines_from e (after q b)) + (lines_from e (after q c) + lines_from e (after q d)) ≡ lines_with e q ms
four_lines e q s t a b c d ms first second third last are =
    four_moves e q a b c d ∙ ap (lines_with e q) ((λ i. first i ∷ second i ∷ third i ∷ last i ∷ []) ∙ sym are)
