-- Which legal moves mate at once.
use Rattle.std.proofs.Common.{◌≡◌, ℕ, ◌<◌, Bool, true, false, List, [], ◌∷◌, Option, Some, None, IsTrue, ◌↔◌, inl, inr, refl, sym, ◌∙◌, ap, subst}
use Rattle.std.specs.List.{Contains}
use Rattle.std.specs.Option.{IfNone}
use Rattle.std.proofs.lemmas.Bool.{both_ways}
use Rattle.cha_board.specs.declared.men.Color.{Color}
use Rattle.cha_board.specs.declared.men.Color.TheVariants.{White, Black}
use Rattle.cha_board.specs.declared.men.Kind.{Kind}
use Rattle.cha_board.specs.declared.men.Kind.TheVariants.{Pawn, Knight, Bishop, Rook, Queen, King}
use Rattle.cha_board.specs.Men.{other_color, same_color, is_of}
use Rattle.cha_board.specs.Squares.{squares, rank_of, last_rank}
use Rattle.cha_board.specs.Board.{Board, man_at}
use Rattle.cha_board.specs.SquareSets.{set_of, squares_in, has_square}
use Rattle.cha_board.proofs.SetLaws.{has-set_of}
use Rattle.cha_moves.specs.Step.{Move}
use Rattle.cha_moves.specs.Moves.{is_promotion, legal, after}
use Rattle.cha_moves.specs.Ways.{is_way}
use Rattle.cha_moves.specs.Ends.{IsMatingLine}
use Rattle.cha_moves.proofs.Made.{Mover}
use Rattle.cha_moves.proofs.Kept.{promoted}
use Rattle.cha_moves.proofs.Listed.{is_listed, mover_of}
use Rattle.cha_moves.proofs.WayLaws.{way_of}
use Rattle.cha_moves.proofs.Contained.{not_in_nothing, Contains-cons_cases, Contains-filter_from, Contains-squares_from}

-- a legal move mates for w
abbrev pub Mates : Board → Color → Move → Type 0
Mates q w m = IsMatingLine q w (m ∷ [])

-- what a test refuses
pub not_by : (P : Move → Type 0) (x y : Move) (b : Bool) → (IsTrue b ↔ P x) → b ≡ false → x ≡ y → P y → ⊥
not_by P x y b told fails is h = both_ways b fails (told.1 (subst P (sym is) h))

pub where_none : {A : Type 0} (o : Option A) (P Q : Type 0) → (P → Q) → IfNone o P → IfNone o Q
where_none None P Q f h = f h
where_none (Some x) P Q f h = h

-- a square of a set is one of its squares
pub in_squares : (set : List Bool) (s : ℕ) → s < 64 → has_square set s ≡ true → Contains (squares_in set) s
in_squares set s small h = Contains-filter_from (has_square set) squares s (Contains-squares_from s small) h

other_sides : (a b : Color) → same_color a b ≡ false → other_color a ≡ other_color b → ⊥
other_sides White White h e = cc
other_sides White Black h e = cc
other_sides Black White h e = cc
other_sides Black Black h e = cc

-- only the winner's move mates
pub not_to_move : (q : Board) (w : Color) → same_color q.side w ≡ false → (m : Move) → Mates q w m → ⊥
unfolding after
not_to_move q w h m mates = other_sides q.side w h mates.1.to_move

-- of the promotions on one square
abbrev pub Promotes : ℕ → ℕ → Kind → Move
Promotes from to k = record { from = from; to = to; promotion = Some k }

pub no_promotion_mates : (q : Board) (w : Color) (from to : ℕ) → (Mates q w (Promotes from to Queen) → ⊥) → (Mates q w (Promotes from to Rook) → ⊥) → (Mates q w (Promotes from to Bishop) → ⊥) → (Mates q w (Promotes from to Knight) → ⊥)
    → (k : Kind) → is_promotion (Some k) ≡ true → Mates q w (Promotes from to k) → ⊥
no_promotion_mates q w from to a b c d Queen h mates = a mates
no_promotion_mates q w from to a b c d Rook h mates = b mates
no_promotion_mates q w from to a b c d Bishop h mates = c mates
no_promotion_mates q w from to a b c d Knight h mates = d mates
no_promotion_mates q w from to a b c d Pawn h mates = cc
no_promotion_mates q w from to a b c d King h mates = cc

by_promotion : (q : Board) (w : Color) (from to : ℕ) (b : Option Kind) → (is_promotion b ≡ true) → ((k : Kind) → is_promotion (Some k) ≡ true → Mates q w (Promotes from to k) → ⊥) → Mates q w (record { from = from; to = to; promotion = b }) → ⊥
by_promotion q w from to None h none mates = cc
by_promotion q w from to (Some k) h none mates = none k h mates

-- a move is made of its squares and what the man becomes
made_of : (P : Move → Type 0) (m : Move) (from to : ℕ) (b : Option Kind) → m.from ≡ from → m.to ≡ to → m.promotion ≡ b → P m → P (record { from = from; to = to; promotion = b })
made_of P m from to b f t p h =
    subst (λ (x : Option Kind). P (record { from = from; to = to; promotion = x })) p
    (subst (λ (x : ℕ). P (record { from = from; to = x; promotion = m.promotion })) t
    (subst (λ (x : ℕ). P (record { from = x; to = m.to; promotion = m.promotion })) f h))

-- where the move without a promotion does not mate, only a promotion on the last rank does
pub none_between : (q : Board) (w : Color) (from to : ℕ) → (Mates q w (record { from = from; to = to; promotion = None }) → ⊥) → ((rank_of to ≡ last_rank q.side) → (k : Kind) → is_promotion (Some k) ≡ true → Mates q w (Promotes from to k) → ⊥)
    → (m : Move) → Mates q w m → m.from ≡ from → m.to ≡ to → ⊥
none_between q w from to plain promotion m mates f t =
    let mover = mover_of q m mates.0 in
    elim (promoted q.side mover.0.kind m.to m.promotion mover.1.well) [
      | inl x ↦ by_promotion q w from to m.promotion x.2 (promotion (ap rank_of (sym t) ∙ x.1)) (made_of (Mates q w) m from to m.promotion f t refl mates)
      | inr x ↦ plain (made_of (Mates q w) m from to None f t x.0 mates)
    ]

-- of the squares that are left one is taken
pub left_without : (left next : List Bool) (s x : ℕ) → squares_in left ≡ s ∷ squares_in next → (s ≡ x → ⊥) → Contains (squares_in left) x → Contains (squares_in next) x
left_without left next s x is other there =
    elim (Contains-cons_cases s (squares_in next) x (subst (λ (l : List ℕ). Contains l x) is there)) [
      | inl here ↦ absurd (other here)
      | inr later ↦ later
    ]

pub none_left : (left : List Bool) (x : ℕ) → squares_in left ≡ [] → Contains (squares_in left) x → ⊥
none_left left x is there = not_in_nothing x (subst (λ (l : List ℕ). Contains l x) is there)

-- a legal move leaves a square of its own man, by one of its ways
own_there : (q : Board) (m : Move) (man : _) → Mover q m man → is_of q.side (man_at q.men m.from) ≡ true
own_there q m man mover = ap (is_of q.side) mover.found ∙ mover.own

pub leaves_own : (q : Board) (w : Color) (own : List Bool) → q.side ≡ w → own ≡ set_of (λ s. is_of w (man_at q.men s)) → (m : Move) → Contains (legal q) m → Contains (squares_in own) m.from
leaves_own q w own side is m h =
    let listed = is_listed q m h in
    let mover = mover_of q m h in
    in_squares own m.from listed.from
    (ap (λ x. has_square x m.from) is ∙ has-set_of (λ s. is_of w (man_at q.men s)) m.from listed.from ∙ subst (λ (c : Color). is_of c (man_at q.men m.from) ≡ true) side (own_there q m mover.0 mover.1))

pub way_there : (q : Board) (ways : List Bool) (from : ℕ) → ways ≡ set_of (is_way q from) → (m : Move) → Contains (legal q) m → m.from ≡ from → has_square ways m.to ≡ true
way_there q ways from is m h f =
    let mover = mover_of q m h in
    ap (λ x. has_square x m.to) is ∙ has-set_of (is_way q from) m.to (is_listed q m h).to ∙ subst (λ (s : ℕ). is_way q s m.to ≡ true) f (way_of q m mover.0 mover.1)

pub goes_way : (q : Board) (ways : List Bool) (from : ℕ) → ways ≡ set_of (is_way q from) → (m : Move) → Contains (legal q) m → m.from ≡ from → Contains (squares_in ways) m.to
goes_way q ways from is m h f = in_squares ways m.to (is_listed q m h).to (way_there q ways from is m h f)

-- nothing goes from an empty square
pub none_from : (q : Board) (from : ℕ) → man_at q.men from ≡ None → (m : Move) → Contains (legal q) m → m.from ≡ from → ⊥
none_from q from empty m h f =
    let mover = mover_of q m h in
    some_none (sym mover.1.found ∙ ap (man_at q.men) f ∙ empty)
  where
    some_none : {A : Type 0} {a : A} → Some a ≡ None → ⊥
    some_none e = cc
