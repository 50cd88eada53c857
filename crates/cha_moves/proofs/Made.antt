-- What a move does to the men: which man stands where afterwards.
use Rattle.std.proofs.Common.{◌≡◌, ◌≢◌, ℕ, ◌<◌, Bool, true, false, cond, List, length, Option, Some, None, slice_set, refl, ◌∙◌, get_or-set_other, get_or-set_same}
use Rattle.std.proofs.lemmas.List.{length-set}
use Rattle.cha_board.specs.declared.men.Man.{Man}
use Rattle.cha_board.specs.declared.castling.Wing.{Wing}
use Rattle.cha_board.specs.declared.castling.Wing.TheVariants.{Kingside, Queenside}
use Rattle.cha_board.specs.Men.{same_color}
use Rattle.cha_board.specs.Board.{Board, IsValid, man_at}
use Rattle.cha_moves.specs.Step.{Move}
use Rattle.cha_moves.specs.Moves.{goes, promotes_well, may_enter, is_pseudo_legal, is_pseudo_legal_as, arriving, victim_of, moved, king_castles, captures_en_passant, rook_castled, men_after}
use Rattle.cha_board.proofs.Identity.{all_four}

-- what is known of the man that may make a move
pub record Mover (q : Board) (m : Move) (man : Man) : Type 0 where
  pub found : man_at q.men m.from ≡ Some man
  pub own : same_color man.color q.side ≡ true
  pub enter : may_enter q.side (man_at q.men m.to) ≡ true
  pub goes : goes q man.kind m.from m.to ≡ true
  pub well : promotes_well q.side man.kind m.to m.promotion ≡ true

may_by : (q : Board) (m : Move) (o : Option Man) → man_at q.men m.from ≡ o → is_pseudo_legal_as q m o ≡ true → (man : Man) × Mover q m man
unfolding is_pseudo_legal_as
may_by q m None e h = cc
may_by q m (Some man) e h =
    let all = all_four (same_color man.color q.side) (may_enter q.side (man_at q.men m.to)) (goes q man.kind m.from m.to) (promotes_well q.side man.kind m.to m.promotion) h in
    (man, record { found = e; own = all.0; enter = all.1; goes = all.2; well = all.3 })

pub may_gives : (q : Board) (m : Move) → is_pseudo_legal q m ≡ true → (man : Man) × Mover q m man
may_gives q m h = may_by q m (man_at q.men m.from) refl h

-- a move that a man may make in a valid position
pub record Step (q : Board) (m : Move) (man : Man) : Type 0 where
  pub valid : IsValid q
  pub from : m.from < 64
  pub to : m.to < 64
  pub may : Mover q m man

-- what a write to one square leaves
pub put : (men : List (Option Man)) (s : ℕ) (man : Option Man) → s < length men → man_at (slice_set men s man) s ≡ man
put men s man inside = get_or-set_same men s man None inside

pub put_other : (men : List (Option Man)) (s : ℕ) (man : Option Man) (u : ℕ) → u ≢ s → man_at (slice_set men s man) u ≡ man_at men u
put_other men s man u other = get_or-set_other men s u man None other

-- what stands where once a man has gone from s to t
pub length-moved : (men : List (Option Man)) (s t : ℕ) (man : Option Man) → length (moved men s t man) ≡ length men
length-moved men s t man = length-set (slice_set men s None) t man ∙ length-set men s None

pub moved_to : (men : List (Option Man)) (s t : ℕ) (man : Option Man) → t < length men → man_at (moved men s t man) t ≡ man
moved_to men s t man inside = (let inside' : t < length (slice_set men s None) = rw length-set inside in put (slice_set men s None) t man inside')

pub moved_from : (men : List (Option Man)) (s t : ℕ) (man : Option Man) → s < length men → s ≢ t → man_at (moved men s t man) s ≡ None
moved_from men s t man inside other = put_other (slice_set men s None) t man s other ∙ put men s None inside

pub moved_other : (men : List (Option Man)) (s t : ℕ) (man : Option Man) (u : ℕ) → u ≢ s → u ≢ t → man_at (moved men s t man) u ≡ man_at men u
moved_other men s t man u from to = put_other (slice_set men s None) t man u to ∙ put_other men s None u from

-- the men once the man on m.from has gone to m.to
abbrev pub men_moved : Board → Move → List (Option Man)
men_moved q m = moved q.men m.from m.to (arriving (man_at q.men m.from) m.promotion)

-- how a move changes the men: as one man's move, as a capture en passant, or as castling on a wing
pub data Makes (q : Board) (m : Move) : Type 0 where
  Plainly : captures_en_passant q (man_at q.men m.from) m.from m.to ≡ false → ((w : Wing) → king_castles q w (man_at q.men m.from) m.from m.to ≡ false) → men_after q m ≡ men_moved q m → Makes q m
  Passing : captures_en_passant q (man_at q.men m.from) m.from m.to ≡ true → men_after q m ≡ slice_set (men_moved q m) (victim_of q.side m.to) None → Makes q m
  OnWing : (w : Wing) → king_castles q w (man_at q.men m.from) m.from m.to ≡ true → men_after q m ≡ rook_castled (men_moved q m) q.side w → Makes q m

each_wing : (P : Wing → Type 0) → P Kingside → P Queenside → (w : Wing) → P w
each_wing P a b Kingside = a
each_wing P a b Queenside = b

choose : {X : Type 0} (a b c : Bool) (all w x y z : X) → all ≡ cond a w (cond b x (cond c y z)) → (P : Type 0)
    → (a ≡ true → all ≡ w → P) → (b ≡ true → all ≡ x → P) → (c ≡ true → all ≡ y → P) → (a ≡ false → b ≡ false → c ≡ false → all ≡ z → P) → P
choose true b c all w x y z e P f g h k = f refl e
choose false true c all w x y z e P f g h k = g refl e
choose false false true all w x y z e P f g h k = h refl e
choose false false false all w x y z e P f g h k = k refl refl refl e

pub makes : (q : Board) (m : Move) → Makes q m
unfolding men_after
makes q m =
    let man = man_at q.men m.from in
    let men = men_moved q m in
    choose (captures_en_passant q man m.from m.to) (king_castles q Kingside man m.from m.to) (king_castles q Queenside man m.from m.to)
    (men_after q m) (slice_set men (victim_of q.side m.to) None) (rook_castled men q.side Kingside) (rook_castled men q.side Queenside) men
    refl (Makes q m) (λ t e. Passing t e) (λ t e. OnWing Kingside t e) (λ t e. OnWing Queenside t e) (λ a b c e. Plainly a (each_wing (λ w. king_castles q w man m.from m.to ≡ false) b c) e)
