-- The sets that legal moves keep where no pawn stands: each man stays what it is, and a bishop keeps the colour of its square.
use Rattle.std.proofs.Common.{◌≡◌, ℕ, ◌<◌, Bool, true, false, not, ◌&&◌, ◌||◌, List, [], ◌∷◌, Option, Some, refl, sym, subst, ap, ◌∙◌}
use Rattle.std.proofs.lemmas.Bool.{and_parts, and_from, and_left, or_right}
use Rattle.cha_board.specs.declared.men.Color.{Color}
use Rattle.cha_board.specs.declared.men.Kind.{Kind}
use Rattle.cha_board.specs.declared.men.Kind.TheVariants.{Pawn, Knight, Bishop, Rook, Queen, King}
use Rattle.cha_board.specs.declared.men.Man.{Man}
use Rattle.cha_board.specs.Men.{other_color, same_kind, is_kind, is_man, is_non_king}
use Rattle.cha_board.specs.Squares.{aims_at, color_of_square}
use Rattle.cha_board.specs.Board.{Board, man_at, IsValid}
use Rattle.cha_board.proofs.Identity.{same_color_self, same_color_equal, same_kind_equal, same_kind_self}
use Rattle.cha_board.proofs.ManTests.{is_non_king_from}
use Rattle.cha_moves.specs.Step.{Move}
use Rattle.cha_moves.specs.Moves.{after}
use Rattle.cha_moves.specs.Ends.{IsMated, IsMatingLine}
use Rattle.cha_moves.proofs.Listed.{IsListed, is_listed}
use Rattle.cha_moves.proofs.Validity.{after_is_valid}
use Rattle.mob_sets.specs.Mobility.{Sets}
use Rattle.mob_law.specs.Closed.{has_fixed_enemy, IsClosed}
use Rattle.mob_law.specs.Reach.{is_fixed}
use Rattle.mob_law.proofs.CastlingFollows.{follows}
use Rattle.mob_law.proofs.CarriedFacts.{Facts, FactsHold}
use Rattle.mob_law.proofs.Keeping.{facts_kept}
use Rattle.mob_law.proofs.Standing.{loose_unfixed}
use Rattle.mob_small.specs.Small.{HasOneBeside}
use Rattle.mob_small.proofs.Scene.{non_king_of}
use Rattle.mob_small.proofs.Colors.{is_one_color, diagonal}

-- a bishop keeps the colour of its square
unfoldable pub keeps_color : Kind → ℕ → ℕ → Bool
keeps_color k u o = not (same_kind k Bishop) || is_one_color u o

-- the sets in which each man reaches all squares as what it is, a bishop those of one colour, while nothing is fixed
abbrev pub kept : Board → Sets
kept p = record { has = λ o k u. is_kind k (man_at p.men o) && keeps_color k u o; loose = λ o. true }

none_fixed : (p : Board) (c : Color) (t : ℕ) → has_fixed_enemy p (kept p) c t ≡ false
unfolding has_fixed_enemy
none_fixed p c t = and_left (is_fixed p (kept p) t) (is_non_king (other_color c) (man_at p.men t)) (loose_unfixed p (kept p) t refl)

colors_go : (c : Color) (k : Kind) (o u t : ℕ) → u < 64 → t < 64 → aims_at c k u t ≡ true → keeps_color k u o ≡ true → keeps_color k t o ≡ true
unfolding keeps_color aims_at
colors_go c Bishop o u t small small' aims h =
    let e = same_color_equal (color_of_square u) (color_of_square t) (diagonal u t small small' aims).same in
    rw e at h
colors_go c Pawn o u t small small' aims h = refl
colors_go c Knight o u t small small' aims h = refl
colors_go c Rook o u t small small' aims h = refl
colors_go c Queen o u t small small' aims h = refl
colors_go c King o u t small small' aims h = refl

colors_begin : (k : Kind) (o : ℕ) → keeps_color k o o ≡ true
unfolding keeps_color
colors_begin k o = or_right (not (same_kind k Bishop)) (is_one_color o o) (same_color_self (color_of_square o))

-- without pawns they are closed
pub kept_closed : (p : Board) → IsValid p → ((o : ℕ) → is_kind Pawn (man_at p.men o) ≡ true → ⊥) → IsClosed p (kept p)
kept_closed p valid no_pawn =
    let none : (o u : ℕ) → (kept p).has o Pawn u ≡ true → ⊥ = λ o u h. no_pawn o (and_parts (is_kind Pawn (man_at p.men o)) (keeps_color Pawn u o) h).0 in
    follows p (kept p) valid (record {
      begins = λ o man stood. and_from (is_kind man.kind (man_at p.men o)) (keeps_color man.kind o o) (rw stood (same_kind_self man.kind)) (colors_begin man.kind o);
      pieces_move = λ o man k u t entry piece aims open_way unguarded. record {
        goes = λ free. (
            let both = and_parts (is_kind k (man_at p.men o)) (keeps_color k u o) entry.reach in
            and_from (is_kind k (man_at p.men o)) (keeps_color k t o) both.0 (colors_go man.color k o u t entry.from entry.to aims both.1));
        leaves = λ free home. refl;
        spares = none_fixed p man.color t;
      };
      pawns_step = λ o man u t entry file ahead free. absurd (none o u entry.reach);
      pawns_double_step = λ o man u t entry file begins ends over free. absurd (none o u entry.reach);
      pawns_capture = λ o man u t entry aims. absurd (none o u entry.reach);
    })

man_is : (a b : Man) → a.color ≡ b.color → a.kind ≡ b.kind → a ≡ b
man_is a b color kind = ap (λ (c : Color). let m : Man = record { color = c; kind = a.kind } in m) color ∙ ap (λ (k : Kind). let m : Man = record { color = b.color; kind = k } in m) kind

-- What moves have made of the men beside a king:
module _ (p : Board) (q : Board) (origin : ℕ → ℕ) (facts : Facts p (kept p) q origin) (c : Color) where
  -- a man stands as what it was at first
  pub as_first : (u : ℕ) (man : Man) → man_at q.men u ≡ Some man → (man_at p.men (origin u) ≡ Some man) × (keeps_color man.kind u (origin u) ≡ true)
  as_first u man found =
      let from = facts.each u man found in
      let both = and_parts (is_kind man.kind (man_at p.men (origin u))) (keeps_color man.kind u (origin u)) from.reach in
      let K : Option Man → Type 0 = λ x. is_kind man.kind x ≡ true in
      let kind = same_kind_equal from.first.kind man.kind (subst K from.stood both.0) in
      (from.stood ∙ ap Some (man_is from.first man from.color kind), both.1)

  -- who is no king was none
  pub from_non_king : (u : ℕ) → is_non_king c (man_at q.men u) ≡ true → is_non_king c (man_at p.men (origin u)) ≡ true
  from_non_king u h =
      let m = non_king_of (man_at q.men u) c h in
      rw (as_first u m.man m.found).0 (is_non_king_from c m.man m.own m.other)

  -- what was one man is one man
  pub one_from : (k : Kind) → HasOneBeside p.men c k → (u : ℕ) → is_non_king c (man_at q.men u) ≡ true → HasOneBeside q.men c k
  one_from k one u h =
      let m = non_king_of (man_at q.men u) c h in
      let place = one.alone (origin u) (from_non_king u h) in
      let P : ℕ → Type 0 = λ x. is_man c k (man_at p.men x) ≡ true in
      let Q : Option Man → Type 0 = λ x. is_man c k x ≡ true in
      record {
        square = u;
        stands = subst Q (sym m.found) (subst Q (as_first u m.man m.found).0 (subst P (sym place) one.stands));
        no_king = one.no_king;
        alone = λ v h'. (
            let n = non_king_of (man_at q.men v) c h' in
            facts.distinct v u n.man m.man n.found m.found (one.alone (origin v) (from_non_king v h') ∙ sym place));
      }

-- Where no legal move mates for w at positions that moves reach, no series of them does:
module _ (p : Board) (w : Color) (closed : IsClosed p (kept p))
    (steps : (q : Board) (m : Move) → IsValid q → FactsHold p (kept p) q → IsListed q m → FactsHold p (kept p) (after q m) → IsValid (after q m) → IsMated (after q m) (other_color w) → ⊥) where
  pub never : (q : Board) (ms : List Move) → IsValid q → FactsHold p (kept p) q → (IsMated q (other_color w) → ⊥) → IsMatingLine q w ms → ⊥
  never q [] valid held free line = free line
  never q (m ∷ rest) valid held free line =
      let found = is_listed q m line.0 in
      let valid' = after_is_valid q m valid found.from found.to found.legal in
      let held' = facts_kept p (kept p) q m closed valid found.from found.to found.legal held in
      never (after q m) rest valid' held' (steps q m valid held found held' valid') line.1
