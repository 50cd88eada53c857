-- The moves that one way from a square to another gives.
use Rattle.std.proofs.Common.{◌≡◌, ℕ, ◌<◌, Bool, true, false, cond, not, ◌&&◌, ◌==◌, [], ◌∷◌, Option, Some, None, refl, sym, ◌∙◌, ap}
use Rattle.std.specs.List.{filter}
use Rattle.std.proofs.lemmas.Bool.{and_parts, and_from, and_left, eqb-true, false_from_ne_true, and_right}
use Rattle.cha_board.specs.declared.men.Color.{Color}
use Rattle.cha_board.specs.declared.men.Color.TheVariants.{White, Black}
use Rattle.cha_board.specs.declared.men.Kind.{Kind}
use Rattle.cha_board.specs.declared.men.Kind.TheVariants.{Pawn, Knight, Bishop, Rook, Queen, King}
use Rattle.cha_board.specs.declared.men.Man.{Man}
use Rattle.cha_board.specs.Men.{same_color, same_kind, is_man}
use Rattle.cha_board.specs.Squares.{rank_of, last_rank}
use Rattle.cha_board.specs.Board.{Board, IsValid, man_at, in_check, target_rank}
use Rattle.cha_board.specs.SquareSets.{set_of, has_square}
use Rattle.cha_board.proofs.SetLaws.{has-set_of}
use Rattle.cha_moves.specs.Step.{Move}
use Rattle.cha_moves.specs.Moves.{goes, goes_as, is_promotion, promotes_well, may_enter, is_pseudo_legal, is_pseudo_legal_as, is_en_passant, captures_en_passant, men_after, is_legal_in}
use Rattle.cha_moves.specs.Ways.{is_way, is_promoted, legal_between}
use Rattle.cha_board.proofs.Identity.{same_kind_equal, two_kinds}
use Rattle.cha_moves.proofs.Kept.{target_of}
use Rattle.cha_moves.proofs.Sureness.{Ordinary, legal_alike}

-- A way of a man from one square to another.
pub record Going (q : Board) (s t : ℕ) (man : Man) : Type 0 where
  pub valid : IsValid q
  pub from : s < 64
  pub to : t < 64
  pub found : man_at q.men s ≡ Some man
  pub way : is_way q s t ≡ true

-- a way and what the man may become there make a move that may be made but for what its king suffers
pub going_may : (q : Board) (s t : ℕ) (man : Man) (k : Option Kind) → Going q s t man → promotes_well q.side man.kind t k ≡ true → is_pseudo_legal q (record { from = s; to = t; promotion = k }) ≡ true
unfolding is_way goes_as is_pseudo_legal_as
going_may q s t man k g well =
    let both = and_parts (goes_as q s t (man_at q.men s)) (may_enter q.side (man_at q.men t)) g.way in
    let own : (same_color man.color q.side && goes q man.kind s t) ≡ true = ap (goes_as q s t) (sym g.found) ∙ both.0 in
    let parts = and_parts (same_color man.color q.side) (goes q man.kind s t) own in
    ap (is_pseudo_legal_as q (record { from = s; to = t; promotion = k })) g.found
    ∙ and_from (same_color man.color q.side && may_enter q.side (man_at q.men t) && goes q man.kind s t) (promotes_well q.side man.kind t k)
    (and_from (same_color man.color q.side && may_enter q.side (man_at q.men t)) (goes q man.kind s t) (and_from (same_color man.color q.side) (may_enter q.side (man_at q.men t)) parts.0 both.1) parts.1) well

well_plain : (c : Color) (k : Kind) (t : ℕ) → is_promoted c k t ≡ false → promotes_well c k t None ≡ true
unfolding promotes_well
well_plain c k t h = rw h refl

well_promoted : (c : Color) (k j : Kind) (t : ℕ) → is_promoted c k t ≡ true → is_promotion (Some j) ≡ true → promotes_well c k t (Some j) ≡ true
unfolding promotes_well
well_promoted c k j t h p = rw h p

pub going_plain : (q : Board) (s t : ℕ) (man : Man) → Going q s t man → is_promoted q.side man.kind t ≡ false → is_pseudo_legal q (record { from = s; to = t; promotion = None }) ≡ true
going_plain q s t man g h = going_may q s t man None g (well_plain q.side man.kind t h)

pub going_promoted : (q : Board) (s t : ℕ) (man : Man) (j : Kind) → Going q s t man → is_promoted q.side man.kind t ≡ true → is_promotion (Some j) ≡ true → is_pseudo_legal q (record { from = s; to = t; promotion = Some j }) ≡ true
going_promoted q s t man j g h p = going_may q s t man (Some j) g (well_promoted q.side man.kind j t h p)

-- what a man may not become makes no legal move
unwell_illegal : (q : Board) (s t : ℕ) (man : Man) (k : Option Kind) → man_at q.men s ≡ Some man → promotes_well q.side man.kind t k ≡ false → is_legal_in q (record { from = s; to = t; promotion = k }) ≡ false
unfolding is_legal_in is_pseudo_legal_as
unwell_illegal q s t man k found unwell =
    let m : Move = record { from = s; to = t; promotion = k } in
    and_left (is_pseudo_legal q m) (not (in_check (men_after q m) q.side))
    (ap (is_pseudo_legal_as q m) found ∙ rw unwell (and_right (same_color man.color q.side && may_enter q.side (man_at q.men t) && goes q man.kind s t) false refl))

unwell_plain : (c : Color) (k : Kind) (t : ℕ) → is_promoted c k t ≡ true → promotes_well c k t None ≡ false
unfolding promotes_well
unwell_plain c k t h = rw h refl

unwell_promoted : (c : Color) (k j : Kind) (t : ℕ) → is_promoted c k t ≡ false → promotes_well c k t (Some j) ≡ false
unfolding promotes_well
unwell_promoted c k j t h = rw h refl

-- a way that is no promotion gives one move
pub moves_plain : (q : Board) (s t : ℕ) (man : Man) → Going q s t man → is_promoted q.side man.kind t ≡ false
    → legal_between q s t ≡ cond (is_legal_in q (record { from = s; to = t; promotion = None })) (record { from = s; to = t; promotion = None } ∷ []) []
unfolding legal_between
moves_plain q s t man g h =
    let b = unwell_illegal q s t man (Some Queen) g.found (unwell_promoted q.side man.kind Queen t h) in
    let c = unwell_illegal q s t man (Some Rook) g.found (unwell_promoted q.side man.kind Rook t h) in
    let d = unwell_illegal q s t man (Some Bishop) g.found (unwell_promoted q.side man.kind Bishop t h) in
    let e = unwell_illegal q s t man (Some Knight) g.found (unwell_promoted q.side man.kind Knight t h) in
    rw (b, c, d, e) refl

filter_four : {X : Type 0} (p : X → Bool) (w x y z : X) (b : Bool) → p w ≡ b → p x ≡ b → p y ≡ b → p z ≡ b → filter p (w ∷ x ∷ y ∷ z ∷ []) ≡ cond b (w ∷ x ∷ y ∷ z ∷ []) []
filter_four p w x y z true e f g h = rw (e, f, g, h) refl
filter_four p w x y z false e f g h = rw (e, f, g, h) refl

not_last_target : (c : Color) (r : ℕ) → r ≡ last_rank c → r ≡ target_rank c → ⊥
not_last_target White r e f = cc
not_last_target Black r e f = cc

-- a promotion is no capture en passant
pub promotion_ordinary : (q : Board) (s t : ℕ) (man : Man) (j : Kind) → Going q s t man → is_promoted q.side man.kind t ≡ true → is_promotion (Some j) ≡ true → Ordinary q (record { from = s; to = t; promotion = Some j })
promotion_ordinary q s t man j g h p =
    let both = and_parts (same_kind man.kind Pawn) (rank_of t == last_rank q.side) h in
    let pawn = same_kind_equal man.kind Pawn both.0 in
    let king : is_man q.side King (Some man) ≡ false = two_kinds (same_color man.color q.side) (same_kind man.kind King) (rw pawn refl) in
    record {
      valid = g.valid;
      from = g.from;
      to = g.to;
      may = going_promoted q s t man j g h p;
      no_king = ap (is_man q.side King) g.found ∙ king;
      not_passing = false_from_ne_true (captures_en_passant q (man_at q.men s) s t) (λ e. (
          let passing = (and_parts (is_man q.side Pawn (man_at q.men s)) (is_en_passant q s t) e).1 in
          not_last_target q.side (rank_of t) (eqb-true (rank_of t) (last_rank q.side) both.1) (target_of q s t g.valid passing).rank));
    }

-- a promotion gives four moves, or none
pub moves_promoted : (q : Board) (s t : ℕ) (man : Man) → Going q s t man → is_promoted q.side man.kind t ≡ true
    → legal_between q s t
    ≡ cond (is_legal_in q (record { from = s; to = t; promotion = Some Queen }))
    (record { from = s; to = t; promotion = Some Queen } ∷ record { from = s; to = t; promotion = Some Rook } ∷ record { from = s; to = t; promotion = Some Bishop } ∷ record { from = s; to = t; promotion = Some Knight } ∷ []) []
unfolding legal_between
moves_promoted q s t man g h =
    let none = unwell_illegal q s t man None g.found (unwell_plain q.side man.kind t h) in
    let queen = promotion_ordinary q s t man Queen g h refl in
    let b = legal_alike q s t (Some Rook) (Some Queen) (promotion_ordinary q s t man Rook g h refl) queen in
    let c = legal_alike q s t (Some Bishop) (Some Queen) (promotion_ordinary q s t man Bishop g h refl) queen in
    let d = legal_alike q s t (Some Knight) (Some Queen) (promotion_ordinary q s t man Knight g h refl) queen in
    rw none (filter_four (is_legal_in q) (record { from = s; to = t; promotion = Some Queen }) (record { from = s; to = t; promotion = Some Rook }) (record { from = s; to = t; promotion = Some Bishop }) (record { from = s; to = t; promotion = Some Knight })
    (is_legal_in q (record { from = s; to = t; promotion = Some Queen })) refl b c d)

-- a move may be made but for what its king suffers where the man becomes what it has to and goes a way
pub is_pseudo : (q : Board) (m : Move) (man : Man) → m.to < 64 → man_at q.men m.from ≡ Some man → (promotes_well q.side man.kind m.to m.promotion && has_square (set_of (is_way q m.from)) m.to) ≡ is_pseudo_legal q m
unfolding is_pseudo_legal_as is_way goes_as
is_pseudo q m man small found =
    ap (λ b. promotes_well q.side man.kind m.to m.promotion && b) (has-set_of (λ t. goes_as q m.from t (man_at q.men m.from) && may_enter q.side (man_at q.men t)) m.to small)
    ∙ rw found (turned (promotes_well q.side man.kind m.to m.promotion) (same_color man.color q.side) (goes q man.kind m.from m.to) (may_enter q.side (man_at q.men m.to)))
  where
    turned : (p c g e : Bool) → (p && ((c && g) && e)) ≡ (c && e && g && p)
    turned true true true true = refl
    turned true true true false = refl
    turned true true false true = refl
    turned true true false false = refl
    turned true false g e = refl
    turned false true true true = refl
    turned false true true false = refl
    turned false true false true = refl
    turned false true false false = refl
    turned false false g e = refl

pub no_pseudo : (q : Board) (m : Move) → man_at q.men m.from ≡ None → false ≡ is_pseudo_legal q m
unfolding is_pseudo_legal_as
no_pseudo q m none = rw none refl
