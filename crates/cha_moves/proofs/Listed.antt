-- Which moves are in the list of legal moves.
use Rattle.std.proofs.Common.{◌≡◌, ℕ, ◌<◌, Bool, true, not, ◌∷◌, Option, Some, None, ◌⊎◌, ◌↔◌, IsTrue, inl, inr, refl, sym, ◌∙◌, arith}
use Rattle.std.specs.List.{Contains}
use Rattle.std.proofs.lemmas.Bool.{and_parts}
use Rattle.std.proofs.lemmas.List.Elements.{All-contains, All-map}
use Rattle.cha_board.specs.declared.men.Kind.{Kind}
use Rattle.cha_board.specs.declared.men.Kind.TheVariants.{Pawn, Knight, Bishop, Rook, Queen, King}
use Rattle.cha_board.specs.declared.men.Man.{Man}
use Rattle.cha_board.specs.Squares.{squares}
use Rattle.cha_board.specs.Board.{Board, in_check}
use Rattle.cha_moves.specs.Step.{Move}
use Rattle.cha_moves.specs.Moves.{promotions, is_promotion, is_pseudo_legal, men_after, is_legal_in, moves_between, moves_from, all_moves, legal}
use Rattle.cha_moves.proofs.Made.{Mover, may_gives}
use Rattle.cha_moves.proofs.Kept.{promoted}
use Rattle.cha_moves.proofs.Contained.{Contains-filter_from, Contains-filter_parts, Contains-flat_map_parts, Contains-flat_map_from, Contains-squares_from, Contains-squares_small}

-- what the list of legal moves says of a move in it
pub record IsListed (q : Board) (m : Move) : Type 0 where
  pub from : m.from < 64
  pub to : m.to < 64
  pub legal : is_legal_in q m ≡ true

-- where the moves between two squares lead
pub between_are : (s t : ℕ) (m : Move) → Contains (moves_between s t) m → (m.from ≡ s) × (m.to ≡ t)
between_are s t m h =
    All-contains (λ (x : Move). (x.from ≡ s) × (x.to ≡ t)) (moves_between s t) m
    (All-map (λ (x : Move). (x.from ≡ s) × (x.to ≡ t)) (λ (k : Option Kind). record { from = s; to = t; promotion = k }) (None ∷ promotions) (λ k d inside. (refl, refl))) h

pub is_listed : (q : Board) (m : Move) → Contains (legal q) m → IsListed q m
unfolding legal all_moves moves_from
is_listed q m h =
    let a = Contains-filter_parts (is_legal_in q) all_moves m h in
    let b = Contains-flat_map_parts moves_from squares m a.0 in
    let c = Contains-flat_map_parts (λ t. moves_between b.0 t) squares m b.2 in
    let d = between_are b.0 c.0 m c.2 in
    let s = Contains-squares_small b.0 b.1 in
    let t = Contains-squares_small c.0 c.1 in
    let e = d.0 in
    let f = d.1 in
    record { from = omega arith; to = omega arith; legal = a.1 }

between_has : (s t : ℕ) (k : Option Kind) → (is_promotion k ≡ true) ⊎ (k ≡ None) → Contains (moves_between s t) (record { from = s; to = t; promotion = k })
between_has s t None h = (0, omega arith, refl)
between_has s t (Some Queen) h = (1, omega arith, refl)
between_has s t (Some Rook) h = (2, omega arith, refl)
between_has s t (Some Bishop) h = (3, omega arith, refl)
between_has s t (Some Knight) h = (4, omega arith, refl)
between_has s t (Some Pawn) (inl h) = cc
between_has s t (Some Pawn) (inr h) = cc
between_has s t (Some King) (inl h) = cc
between_has s t (Some King) (inr h) = cc

-- the man that makes a legal move
pub mover_in : (q : Board) (m : Move) → is_legal_in q m ≡ true → (man : Man) × Mover q m man
unfolding is_legal_in
mover_in q m h = may_gives q m (and_parts (is_pseudo_legal q m) (not (in_check (men_after q m) q.side)) h).0

pub mover_of : (q : Board) (m : Move) → Contains (legal q) m → (man : Man) × Mover q m man
mover_of q m h = mover_in q m (is_listed q m h).legal

pub promotes_listed : (q : Board) (m : Move) → is_legal_in q m ≡ true → (is_promotion m.promotion ≡ true) ⊎ (m.promotion ≡ None)
promotes_listed q m h =
    let mover = mover_in q m h in
    elim (promoted q.side mover.0.kind m.to m.promotion mover.1.well) [
      | inl x ↦ inl x.2
      | inr x ↦ inr x.0
    ]

pub listed : (q : Board) (m : Move) → m.from < 64 → m.to < 64 → is_legal_in q m ≡ true → Contains (legal q) m
unfolding legal all_moves moves_from
listed q m from to h =
    let here = between_has m.from m.to m.promotion (promotes_listed q m h) in
    let there = Contains-flat_map_from (λ t. moves_between m.from t) squares m.to m (Contains-squares_from m.to to) here in
    Contains-filter_from (is_legal_in q) all_moves m (Contains-flat_map_from moves_from squares m.from m (Contains-squares_from m.from from) there) h

-- the test of a move tells whether it is in the list
pub told_listed : (q : Board) (m : Move) (b : Bool) → m.from < 64 → m.to < 64 → b ≡ is_legal_in q m → IsTrue b ↔ Contains (legal q) m
told_listed q m b from to e = (λ h. listed q m from to (sym e ∙ h), λ h. e ∙ (is_listed q m h).legal)
