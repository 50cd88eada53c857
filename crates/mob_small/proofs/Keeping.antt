-- Legal moves keep small material, and so the law.
use Rattle.std.proofs.Common.{◌≡◌, ◌≢◌, ℕ, ◌<◌, true, ◌⊎◌, Option, Some, None, refl, subst, ap, inl, inr}
use Rattle.std.specs.List.{list_any}
use Rattle.std.proofs.lemmas.Bool.{both_ways, cases_Bool, false_from_ne_true, true_from_ne_false}
use Rattle.cha_board.specs.declared.men.Color.{Color}
use Rattle.cha_board.specs.declared.men.Kind.{Kind}
use Rattle.cha_board.specs.declared.men.Kind.TheVariants.{Pawn, King}
use Rattle.cha_board.specs.declared.men.Man.{Man}
use Rattle.cha_board.specs.Men.{other_color, is_kind, is_man, is_pawn, is_non_king}
use Rattle.cha_board.specs.Squares.{squares}
use Rattle.cha_board.specs.Board.{Board, man_at, IsValid}
use Rattle.cha_board.proofs.Contents.{some_square}
use Rattle.cha_board.proofs.Identity.{is_man_from, pawn_of, same_kind_equal}
use Rattle.cha_board.proofs.Scans.{any_square_at}
use Rattle.cha_moves.specs.Moves.{after}
use Rattle.cha_moves.specs.Ends.{IsMated, IsUnwinnable}
use Rattle.mob_law.specs.Closed.{IsClosed}
use Rattle.mob_law.proofs.Begin.{facts_begin}
use Rattle.mob_law.proofs.CarriedFacts.{Facts, FactsHold}
use Rattle.mob_small.specs.Small.{HasNoPawn, HasOnlyKing, HasBeside, IsMateFree, IsSmallUnwinnable}
use Rattle.mob_small.specs.MateFreeKinds.{is_free}
use Rattle.mob_small.proofs.NoMate.{free_mates_not}
use Rattle.mob_small.proofs.Scene.{bare_mates_not, non_king_inside}
use Rattle.mob_small.proofs.Witnesses.{some_mate}
use Rattle.mob_small.proofs.KeptSets.{kept, kept_closed, from_non_king, one_from, never}

pub pawn_kind : (o : Option Man) → is_kind Pawn o ≡ true → is_pawn o ≡ true
pawn_kind None h = cc
pawn_kind (Some man) h = pawn_of man.color (Some man) (is_man_from (Some man) man man.color Pawn refl refl (same_kind_equal man.kind Pawn h))

-- without pawns the sets that moves keep are closed
pawnless_closed : (p : Board) → IsValid p → HasNoPawn p.men → IsClosed p (kept p)
pawnless_closed p valid no_pawn = kept_closed p valid (λ o h. both_ways (is_pawn (man_at p.men o)) (no_pawn o) (pawn_kind (man_at p.men o) h))

-- What moves have made of the men beside the kings:
module _ (p : Board) (q : Board) (origin : ℕ → ℕ) (facts : Facts p (kept p) q origin) (valid : IsValid q) (c : Color) where
  none_from : HasOnlyKing p.men c → HasOnlyKing q.men c
  none_from bare u =
      false_from_ne_true (is_non_king c (man_at q.men u)) (λ h. both_ways (is_non_king c (man_at p.men (origin u))) (bare (origin u)) (from_non_king p q origin facts c u h))

  beside_kept : (k : Option Kind) → HasBeside p.men c k → HasOnlyKing q.men c ⊎ HasBeside q.men c k
  beside_kept None bare = inl (none_from bare)
  beside_kept (Some k) one =
      elim (cases_Bool (list_any (λ u. is_non_king c (man_at q.men u)) squares)) [
        | inl some ↦ (
            let u = some_square (λ x. is_non_king c (man_at q.men x)) some in
            inr (one_from p q origin facts c k one u.0 u.2))
        | inr none ↦ inl (λ u. false_from_ne_true (is_non_king c (man_at q.men u)) (λ h.
            let small : u < 64 = rw valid.size at (non_king_inside q.men c u h) in
            both_ways (list_any (λ x. is_non_king c (man_at q.men x)) squares) none (any_square_at (λ x. is_non_king c (man_at q.men x)) u small h)))
      ]

-- a man beside the king is a piece
pub pieces : (p : Board) (c : Color) → HasNoPawn p.men → (k : Option Kind) → HasBeside p.men c k → (k ≢ Some Pawn) × (k ≢ Some King)
pieces p c no_pawn None bare = (λ e. cc, λ e. cc)
pieces p c no_pawn (Some k) one = (
  λ e. (
      let kind : k ≡ Pawn = cc in
      let P : Kind → Type 0 = λ x. is_man c x (man_at p.men one.square) ≡ true in
      both_ways (is_pawn (man_at p.men one.square)) (no_pawn one.square) (pawn_of c (man_at p.men one.square) (subst P kind one.stands))),
  λ e. (let kind : k ≡ King = cc in one.no_king kind),
)

-- the kinds with which there is no mate are those of the table
pub free_in_table : (w : Color) (own : Kind) (other : Option Kind) → own ≢ Pawn → own ≢ King → other ≢ Some Pawn → other ≢ Some King → IsMateFree w own other → is_free own other ≡ true
free_in_table w own other a b c d free =
    true_from_ne_false (is_free own other) (λ h. let m = some_mate w own other a b c d h in free m.0 m.1)

-- Small material with which w cannot mate:
module _ (p : Board) (w : Color) (valid : IsValid p) (u : IsSmallUnwinnable p w) where
  -- no mate stands at a position that legal moves reach
  no_mate_at : (q : Board) → IsValid q → FactsHold p (kept p) q → IsMated q (other_color w) → (own : Option Kind) → HasBeside p.men w own → ⊥
  no_mate_at q valid' held mate None bare = bare_mates_not q w valid' (none_from p q held.0 held.1 valid' w bare) mate
  no_mate_at q valid' held mate (Some k) one =
      let l = other_color w in
      let other = u.small.few l in
      let a = pieces p w u.small.no_pawn (Some k) one in
      let b = pieces p l u.small.no_pawn other.0 other.1 in
      let free = free_in_table w k other.0 (λ e. a.0 (ap Some e)) (λ e. a.1 (ap Some e)) b.0 b.1 (u.free k other.0 one other.1) in
      elim (beside_kept p q held.0 held.1 valid' w (Some k) one) [
        | inl bare ↦ bare_mates_not q w valid' bare mate
        | inr own ↦ free_mates_not q w valid' mate k other.0 free own (beside_kept p q held.0 held.1 valid' l other.0 other.1)
      ]

-- so w has no mate by legal moves
pub small_bounded : (p : Board) (w : Color) → IsValid p → IsSmallUnwinnable p w → IsUnwinnable p w
small_bounded p w valid u ms line =
    let own = u.small.few w in
    let closed = pawnless_closed p valid u.small.no_pawn in
    let held = facts_begin p (kept p) closed in
    never p w closed (λ q m valid' held' found after_held after_valid mate. no_mate_at p w valid u (after q m) after_valid after_held mate own.0 own.1) p ms valid held
    (λ mate. no_mate_at p w valid u p valid held mate own.0 own.1) line
