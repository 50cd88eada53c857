-- Castling: the king and its rook go at once, and both leave their origins.
use Rattle.std.proofs.Common.{◌≡◌, ◌≢◌, ℕ, true, false, cond, ◌==◌, List, Option, Some, refl, sym, subst, ap, ◌∙◌, inl}
use Rattle.std.proofs.lemmas.Bool.{and_parts, both_ways, eq-eqb, ne_eqb}
use Rattle.std.proofs.lemmas.Option.{same_Some}
use Rattle.cha_board.specs.declared.men.Color.{Color}
use Rattle.cha_board.specs.declared.men.Color.TheVariants.{White, Black}
use Rattle.cha_board.specs.declared.men.Kind.{Kind}
use Rattle.cha_board.specs.declared.men.Kind.TheVariants.{Pawn, Rook, King}
use Rattle.cha_board.specs.declared.men.Man.{Man}
use Rattle.cha_board.specs.declared.castling.Wing.{Wing}
use Rattle.cha_board.specs.declared.castling.Wing.TheVariants.{Kingside, Queenside}
use Rattle.cha_board.specs.Men.{same_kind, is_man}
use Rattle.cha_board.specs.Board.{Board, man_at, home_of, corner_of, crossing_of, goal_of, is_home}
use Rattle.cha_moves.specs.Step.{Move}
use Rattle.cha_moves.specs.Moves.{castles, arriving, king_castles, rook_of, rook_castled, men_after, after}
use Rattle.cha_board.proofs.Identity.{man_of, is_man_from}
use Rattle.cha_moves.proofs.Made.{Step, moved_other, men_moved}
use Rattle.cha_moves.proofs.Kept.{Castling, castling_of, castling_tests, stays_man}
use Rattle.cha_moves.proofs.Clearing.{clear_at}
use Rattle.cha_moves.proofs.Touched.{home_is, corner_is}
use Rattle.cha_moves.proofs.Validity.{Castled, KingHere, RookHere, Others, castled, right_after}
use Rattle.mob_law.specs.Reach.{is_fixed}
use Rattle.mob_sets.specs.Mobility.{Sets}
use Rattle.mob_law.specs.Closed.{Castles, IsClosed}
use Rattle.mob_law.proofs.CarriedFacts.{Facts, FactsHold}
use Rattle.mob_law.proofs.Standing.{loose_unfixed, empty_not_fixed}
use Rattle.mob_law.proofs.Carry.{Comes, Carries, carried}
use Rattle.mob_law.proofs.OneMan.{apart_fixed, target_now}

-- the square from which the man on u came, where a king has gone from `from` to `to` and its rook from i to j
back_both : ℕ → ℕ → ℕ → ℕ → ℕ → ℕ
back_both from to i j u = cond (u == to) from (cond (u == j) i u)

-- the king came from `from`, the rook from i, and each other from its own square
back_king : (from to i j u : ℕ) → u ≡ to → back_both from to i j u ≡ from
unfolding back_both
back_king from to i j u e = rw (eq-eqb u to e) refl

back_rook : (from to i j u : ℕ) → u ≢ to → u ≡ j → back_both from to i j u ≡ i
unfolding back_both
back_rook from to i j u ne e = rw (ne_eqb u to ne, eq-eqb u j e) refl

back_none : (from to i j u : ℕ) → u ≢ to → u ≢ j → back_both from to i j u ≡ u
unfolding back_both
back_none from to i j u ne nj = rw (ne_eqb u to ne, ne_eqb u j nj) refl

-- a castling with what the sets and the facts say of it: the king and the rook are in reach where they go and have not
-- moved before, and the squares that they enter are not fixed and are no king's or rook's home
record CastlingMove (p : Board) (s : Sets) (q : Board) (origin : ℕ → ℕ) (m : Move) (man : Man) (i j : ℕ) : Type 0 where
  move : Castling q m i j
  king : man.kind ≡ King
  castles : Castles s m.from m.to i j
  king_origin : origin m.from ≡ m.from
  rook_origin : origin i ≡ i
  to_free : is_fixed p s m.to ≡ false
  rook_free : is_fixed p s j ≡ false
  homes : (c : Color) → (home_of c ≢ j) × ((w : Wing) → corner_of c w ≢ j)

-- the king arrives as it is
king_stays : (q : Board) (m : Move) (man new : Man) → Step q m man → man.kind ≡ King → arriving (Some man) m.promotion ≡ Some new → man ≡ new
king_stays q m man new step king arrives =
    let other : same_kind man.kind Pawn ≡ false = rw king refl in
    same_Some man new (sym (stays_man q.side man m.to m.promotion step.may.well other) ∙ arrives)

-- from which square the man on u came
data Source (from to i j u x : ℕ) : Type 0 where
  OfKing : u ≡ to → x ≡ from → Source from to i j u x
  OfRook : u ≡ j → x ≡ i → Source from to i j u x
  OfOther : x ≡ u → u ≢ from → u ≢ i → Source from to i j u x

-- `back_both` says from which
source : (q : Board) (m : Move) (man : Man) (i j u : ℕ) (new : Man) → j ≢ m.to → Castled q m man i j u new → Source m.from m.to i j u (back_both m.from m.to i j u)
source q m man i j u new jt (KingHere e a) = OfKing e (back_king m.from m.to i j u e)
source q m man i j u new jt (RookHere e a) = OfRook e (back_rook m.from m.to i j u (λ f. jt (sym e ∙ f)) e)
source q m man i j u new jt (Others nf nt ni nj a) = OfOther (back_none m.from m.to i j u nt nj) nf ni

-- no two men came from one square
one_source : (from to i j u v x y : ℕ) → i ≢ from → Source from to i j u x → Source from to i j v y → x ≡ y → u ≡ v
one_source from to i j u v x y ne (OfKing a b) (OfKing c d) e = a ∙ sym c
one_source from to i j u v x y ne (OfKing a b) (OfRook c d) e = absurd (ne (sym d ∙ sym e ∙ b))
one_source from to i j u v x y ne (OfKing a b) (OfOther c d f) e = absurd (d (sym c ∙ sym e ∙ b))
one_source from to i j u v x y ne (OfRook a b) (OfKing c d) e = absurd (ne (sym b ∙ e ∙ d))
one_source from to i j u v x y ne (OfRook a b) (OfRook c d) e = a ∙ sym c
one_source from to i j u v x y ne (OfRook a b) (OfOther c d f) e = absurd (f (sym c ∙ sym e ∙ b))
one_source from to i j u v x y ne (OfOther a b c) (OfKing d f) e = absurd (b (sym a ∙ e ∙ f))
one_source from to i j u v x y ne (OfOther a b c) (OfRook d f) e = absurd (c (sym a ∙ e ∙ f))
one_source from to i j u v x y ne (OfOther a b c) (OfOther d f g) e = sym a ∙ e ∙ d

-- A castling at a position where the facts hold:
module _ (p : Board) (s : Sets) (q : Board) (origin : ℕ → ℕ) (m : Move) (man : Man) (closed : IsClosed p s) (facts : Facts p s q origin) (step : Step q m man)
    (i j : ℕ) (c : CastlingMove p s q origin m man i j) where
  -- each man after it stood somewhere before it, and is in reach where it stands
  castled_comes : (u : ℕ) (new : Man) → Castled q m man i j u new → Comes s q origin new u (back_both m.from m.to i j u)
  castled_comes u new (KingHere e arrives) =
      let one = king_stays q m man new step c.king arrives in
      let kind : King ≡ new.kind = sym c.king ∙ ap (λ (x : Man). x.kind) one in
      let at : back_both m.from m.to i j u ≡ m.from = back_king m.from m.to i j u e in
      let U : ℕ → Type 0 = λ x. s.has m.from King x ≡ true in
      let K : Kind → Type 0 = λ k. s.has m.from k u ≡ true in
      let O : ℕ → Type 0 = λ x. s.has x new.kind u ≡ true in
      record {
        old = man;
        stood = ap (λ x. man_at q.men x) at ∙ step.may.found;
        color = ap (λ (x : Man). x.color) one;
        kind = inl (ap (λ (x : Man). x.kind) (sym one));
        reach = subst O (sym (ap origin at ∙ c.king_origin)) (subst K kind (subst U (sym e) c.castles.king));
      }
  castled_comes u new (RookHere e arrives) =
      let rook = man_of (man_at q.men i) q.side Rook c.move.rook in
      let late : Man = record { color = q.side; kind = Rook } in
      let one : late ≡ new = same_Some late new arrives in
      let color : q.side ≡ new.color = ap (λ (x : Man). x.color) one in
      let kind : Rook ≡ new.kind = ap (λ (x : Man). x.kind) one in
      let nt : u ≢ m.to = λ f. c.move.j_to (sym e ∙ f) in
      let at : back_both m.from m.to i j u ≡ i = back_rook m.from m.to i j u nt e in
      let U : ℕ → Type 0 = λ x. s.has i Rook x ≡ true in
      let K : Kind → Type 0 = λ k. s.has i k u ≡ true in
      let O : ℕ → Type 0 = λ x. s.has x new.kind u ≡ true in
      record {
        old = rook.man;
        stood = ap (λ x. man_at q.men x) at ∙ rook.found;
        color = rook.color ∙ color;
        kind = inl (sym kind ∙ sym rook.kind);
        reach = subst O (sym (ap origin at ∙ c.rook_origin)) (subst K kind (subst U (sym e) c.castles.rook));
      }
  castled_comes u new (Others nf nt ni nj stays) =
      let at : back_both m.from m.to i j u ≡ u = back_none m.from m.to i j u nt nj in
      let O : ℕ → Type 0 = λ x. s.has (origin x) new.kind u ≡ true in
      record {
        old = new;
        stood = ap (λ x. man_at q.men x) at ∙ stays;
        color = refl;
        kind = inl refl;
        reach = subst O (sym at) (facts.each u new stays).reach;
      }

  -- a pawn after a castling has not moved
  castled_second : (u : ℕ) (new : Man) (d : Color) → new.color ≡ d → new.kind ≡ Pawn → Castled q m man i j u new
      → (is_man d Pawn (man_at q.men u) ≡ true) × (back_both m.from m.to i j u ≡ u)
  castled_second u new d color kind (KingHere e arrives) =
      let is : King ≡ Pawn = sym c.king ∙ ap (λ (x : Man). x.kind) (king_stays q m man new step c.king arrives) ∙ kind in
      absurd cc
  castled_second u new d color kind (RookHere e arrives) =
      let late : Man = record { color = q.side; kind = Rook } in
      let is : Rook ≡ Pawn = ap (λ (x : Man). x.kind) (same_Some late new arrives) ∙ kind in
      absurd cc
  castled_second u new d color kind (Others nf nt ni nj stays) =
      (is_man_from (man_at q.men u) new d Pawn stays color kind, back_none m.from m.to i j u nt nj)

  -- a fixed square is none of the four that king and rook leave and enter
  castled_fixed : (f : ℕ) → is_fixed p s f ≡ true → (man_at (men_after q m) f ≡ man_at q.men f) × (back_both m.from m.to i j f ≡ f)
  castled_fixed f h =
      let nf = apart_fixed p s m.from f (loose_unfixed p s m.from c.castles.king_leaves) h in
      let ni = apart_fixed p s i f (loose_unfixed p s i c.castles.rook_leaves) h in
      let nt = apart_fixed p s m.to f c.to_free h in
      let nj = apart_fixed p s j f c.rook_free h in
      let a = arriving (man_at q.men m.from) m.promotion in (
        ap (λ (xs : List (Option Man)). man_at xs f) c.move.men ∙ moved_other (men_moved q m) i j (rook_of q.side) f ni nj ∙ moved_other q.men m.from m.to a f nf nt,
        back_none m.from m.to i j f nt nj,
      )

  -- so a castling carries the facts along
  castling_carries : Carries p s q origin (after q m) (back_both m.from m.to i j)
  unfolding after
  castling_carries = record {
    comes = λ u new found. castled_comes u new (castled q m man i j step c.move u new found);
    apart = λ u v new other found found' same. one_source m.from m.to i j u v (back_both m.from m.to i j u) (back_both m.from m.to i j v) c.move.i_from
        (source q m man i j u new c.move.j_to (castled q m man i j step c.move u new found)) (source q m man i j v other c.move.j_to (castled q m man i j step c.move v other found')) same;
    fixed = λ f h. castled_fixed f h;
    second = λ u d pawn rank. (
        let k = man_of (man_at (men_after q m) u) d Pawn pawn in
        castled_second u k.man d k.color k.kind (castled q m man i j step c.move u k.man k.found));
    right = λ d w right. (
        let k = right_after q.rights m d w right in
        (k.0, back_none m.from m.to i j (home_of d) (λ e. k.1.1 (sym e)) (c.homes d).0, back_none m.from m.to i j (corner_of d w) (λ e. k.2.1 (sym e)) ((c.homes d).1 w)));
    target = λ t here. target_now p s q origin m man closed facts step (back_both m.from m.to i j) (back_king m.from m.to i j m.to refl) t here;
  }

-- no rook castles to a home
no_home : (c : Color) (w : Wing) → is_home (crossing_of c w) ≡ false
no_home White Kingside = refl
no_home White Queenside = refl
no_home Black Kingside = refl
no_home Black Queenside = refl

homes_apart : (side : Color) (v : Wing) (c : Color) → (home_of c ≢ crossing_of side v) × ((w : Wing) → corner_of c w ≢ crossing_of side v)
homes_apart side v c =
    let apart = λ (s : ℕ) (home : is_home s ≡ true) (e : s ≡ crossing_of side v). both_ways (is_home (crossing_of side v)) (no_home side v) (ap is_home (sym e) ∙ home) in
    (apart (home_of c) (home_is c), λ w. apart (corner_of c w) (corner_is c w))

-- Castling, by the facts on rights and the rule on castling:
module _ (p : Board) (s : Sets) (q : Board) (origin : ℕ → ℕ) (m : Move) (man : Man) (closed : IsClosed p s) (facts : Facts p s q origin) (step : Step q m man) where
  -- after a castling the facts hold
  pub castling_held : (w : Wing) → king_castles q w (man_at q.men m.from) m.from m.to ≡ true → men_after q m ≡ rook_castled (men_moved q m) q.side w → FactsHold p s (after q m)
  castling_held w h men =
      let both = and_parts (is_man q.side King (man_at q.men m.from)) (castles q w m.from m.to) h in
      let tests = castling_tests q w m.from m.to both.1 in
      let move = castling_of q m w step.valid h men in
      let right = facts.right q.side w tests.right in
      let castles = closed.kings_castle q.side w right.0 (λ t small lies. empty_not_fixed p s q origin facts t (clear_at q.men (home_of q.side) (corner_of q.side w) t tests.clear small lies)) in
      let king = man_of (man_at q.men m.from) q.side King both.0 in
      let i = corner_of q.side w in
      let j = crossing_of q.side w in
      let F : ℕ → Type 0 = λ x. Castles s x (goal_of q.side w) i j in
      let T : ℕ → Type 0 = λ x. Castles s m.from x i j in
      let O : ℕ → Type 0 = λ x. origin x ≡ x in
      let c : CastlingMove p s q origin m man i j = record {
        move = move;
        king = ap (λ (x : Man). x.kind) (same_Some man king.man (sym step.may.found ∙ king.found)) ∙ king.kind;
        castles = subst T (sym tests.to_goal) (subst F (sym tests.from_home) castles);
        king_origin = subst O (sym tests.from_home) right.1;
        rook_origin = right.2;
        to_free = empty_not_fixed p s q origin facts m.to move.free_to;
        rook_free = empty_not_fixed p s q origin facts j move.free;
        homes = homes_apart q.side w;
      } in
      ((λ u. origin (back_both m.from m.to i j u)), carried p s q origin (after q m) (back_both m.from m.to i j) facts (castling_carries p s q origin m man closed facts step i j c))
