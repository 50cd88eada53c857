-- The table is exact, and what its callers know of a position.
use Rattle.std.proofs.Common.{◌≡◌, ◌≢◌, ℕ, ◌<◌, ◌==◌, Bool, true, false, not, ◌&&◌, List, length, Option, Some, None, slice_get, ◌↔◌, IsTrue, refl, sym, subst, ap, ◌∙◌, inl, inr}
use Rattle.std.specs.List.{list_any}
use Rattle.std.proofs.lemmas.Bool.{and_parts, and_from, both_ways, cases_eq, ne_eqb, false_from_ne_true, true_from_ne_false, not-true, eqb-false, not-false, or_cases}
use Rattle.std.proofs.lemmas.Option.{same_Some}
use Rattle.cha_board.specs.declared.men.Color.{Color}
use Rattle.cha_board.specs.declared.men.Color.TheVariants.{White, Black}
use Rattle.cha_board.specs.declared.men.Kind.{Kind}
use Rattle.cha_board.specs.declared.men.Kind.TheVariants.{Pawn, King}
use Rattle.cha_board.specs.declared.men.Man.{Man}
use Rattle.cha_board.specs.Men.{other_color, same_color, same_kind, is_kind, is_man, is_pawn, is_non_king}
use Rattle.cha_board.specs.Squares.{squares}
use Rattle.cha_board.specs.SquareSets.{set_of, has_square, squares_in, set_without, has_no_square}
use Rattle.cha_board.specs.Board.{Board, man_at}
use Rattle.cha_board.proofs.SetLaws.{has-set_of}
use Rattle.cha_board.proofs.Contents.{some_square, in_set_of}
use Rattle.cha_board.proofs.Firsts.{first_tells, none_tells}
use Rattle.cha_board.proofs.Identity.{man_of, on_board, is_man_from, same_color_equal}
use Rattle.cha_board.proofs.ManTests.{either_color, kinds_differ}
use Rattle.cha_board.proofs.Scans.{any_square_at}
use Rattle.mob_small.specs.Small.{HasNoPawn, HasOnlyKing, HasOneBeside, HasBeside, IsMateFree, IsSmallUnwinnable}
use Rattle.mob_small.specs.MateFreeKinds.{is_free, AreMateFree, HasSeveral}
use Rattle.mob_small.proofs.NoMate.{free_mates_not}
use Rattle.mob_small.proofs.Keeping.{free_in_table, pawn_kind}
use Rattle.mob_small.proofs.Scene.{non_king_of, non_king_inside, non_king_man}

-- the table is exact
pub table_exact : (w : Color) (own : Kind) (other : Option Kind) → own ≢ Pawn → own ≢ King → other ≢ Some Pawn → other ≢ Some King → (b : Bool) → b ≡ is_free own other → IsTrue b ↔ IsMateFree w own other
table_exact w own other a b c d r e = (
  λ h q m. free_mates_not q w m.valid m.mate own other (sym e ∙ h) m.winner m.loser,
  λ free. e ∙ free_in_table w own other a b c d free,
)

-- With the squares of the men of c other than kings, as a set:
module _ (men : List (Option Man)) (c : Color) (size : length men ≡ 64) (set : List Bool) (is : set ≡ set_of (λ u. is_non_king c (man_at men u))) where
  put_in : (u : ℕ) → is_non_king c (man_at men u) ≡ true → (u < 64) × (has_square set u ≡ true)
  put_in u h =
      let inside : u < 64 = rw size at (non_king_inside men c u h) in
      (inside, ap (λ x. has_square x u) is ∙ has-set_of (λ x. is_non_king c (man_at men x)) u inside ∙ h)

  taken_out : (u : ℕ) → has_square set u ≡ true → is_non_king c (man_at men u) ≡ true
  taken_out u h = (in_set_of (λ x. is_non_king c (man_at men x)) u (sym (ap (λ x. has_square x u) is) ∙ h)).1

  -- if it has no first square, c has only its king
  pub none_beside : slice_get (squares_in set) 0 ≡ None → HasOnlyKing men c
  none_beside none u =
      false_from_ne_true (is_non_king c (man_at men u)) (λ h.
      let x = put_in u h in
      both_ways (has_square set u) (none_tells set none u x.0) x.1)

  -- With its first square:
  module _ (at : ℕ) (first : slice_get (squares_in set) 0 ≡ Some at) where
    pub first_non_king : is_non_king c (man_at men at) ≡ true
    first_non_king = taken_out at (first_tells set at first).1

    -- if that is the only one, its man is the one
    pub one_beside : has_no_square (set_without set at) ≡ true → (man : Man) → man_at men at ≡ Some man → HasOneBeside men c man.kind
    unfolding set_without has_no_square
    one_beside rest man found =
        let m = non_king_of (man_at men at) c first_non_king in
        let same : m.man ≡ man = same_Some m.man man (sym m.found ∙ found) in
        let M : Man → Type 0 = λ x. same_color x.color c ≡ true in
        let K : Man → Type 0 = λ x. same_kind x.kind King ≡ false in
        record {
          square = at;
          stands = is_man_from (man_at men at) man c man.kind found (same_color_equal man.color c (subst M same m.own)) refl;
          no_king = kinds_differ man.kind King (subst K same m.other);
          alone = λ u h. elim (cases_eq u at) [
            | inl e ↦ e
            | inr ne ↦ (
                let x = put_in u h in
                let here : has_square (set_of (λ s. not (s == at) && has_square set s)) u ≡ true = has-set_of (λ s. not (s == at) && has_square set s) u x.0 ∙ and_from (not (u == at)) (has_square set u) (ap not (ne_eqb u at ne)) x.1 in
                let some = any_square_at (has_square (set_of (λ s. not (s == at) && has_square set s))) u x.0 here in
                absurd (both_ways (list_any (has_square (set_of (λ s. not (s == at) && has_square set s))) squares) (not-true (list_any (has_square (set_of (λ s. not (s == at) && has_square set s))) squares) rest) some))
          ];
        }

    not_both_beside : (k : Option Kind) → HasBeside men c k → (v : ℕ) → v ≢ at → is_non_king c (man_at men v) ≡ true → ⊥
    not_both_beside None bare v apart there = both_ways (is_non_king c (man_at men v)) (bare v) there
    not_both_beside (Some k) one v apart there = apart (one.alone v there ∙ sym (one.alone at first_non_king))

    -- and else c has several
    pub several_beside : has_no_square (set_without set at) ≡ false → HasSeveral men c
    unfolding set_without has_no_square
    several_beside rest k h =
        let without : ℕ → Bool = λ s. not (s == at) && has_square set s in
        let v = some_square (has_square (set_of without)) (not-false (list_any (has_square (set_of without)) squares) rest) in
        let both = and_parts (not (v.0 == at)) (has_square set v.0) (in_set_of without v.0 v.2).1 in
        let apart = eqb-false v.0 at (not-true (v.0 == at) both.0) in
        not_both_beside k h v.0 apart (taken_out v.0 both.1)

-- a side has beside its king just what it has
beside_is_one : (men : List (Option Man)) (c : Color) (k j : Option Kind) → HasBeside men c k → HasBeside men c j → k ≡ j
beside_is_one men c None None h l = refl
beside_is_one men c None (Some j) bare one = absurd (both_ways (is_non_king c (man_at men one.square)) (bare one.square) (non_king_man (man_at men one.square) c j one.stands one.no_king))
beside_is_one men c (Some k) None one bare = absurd (both_ways (is_non_king c (man_at men one.square)) (bare one.square) (non_king_man (man_at men one.square) c k one.stands one.no_king))
beside_is_one men c (Some k) (Some j) one other =
    let place : other.square ≡ one.square = one.alone other.square (non_king_man (man_at men other.square) c j other.stands other.no_king) in
    let m = man_of (man_at men one.square) c k one.stands in
    let P : ℕ → Type 0 = λ x. is_man c j (man_at men x) ≡ true in
    let n = man_of (man_at men one.square) c j (subst P place other.stands) in
    let same = same_Some m.man n.man (sym m.found ∙ n.found) in
    ap Some (sym m.kind ∙ ap (λ (x : Man). x.kind) same ∙ n.kind)

-- what is known of the two sides settles the verdict
module _ (p : Board) (w : Color) (no_pawn : HasNoPawn p.men) (own other : Option Kind) (has : HasBeside p.men w own) (has' : HasBeside p.men (other_color w) other) where
  few : (c : Color) → (k : Option Kind) × HasBeside p.men c k
  few c =
      let P : Color → Type 0 = λ x. (k : Option Kind) × HasBeside p.men x k in
      elim (either_color c w) [
        | inl e ↦ subst P (sym e) (own, has)
        | inr e ↦ subst P (sym e) (other, has')
      ]

  free_named : (o : Option Kind) → o ≡ own → AreMateFree w own other → (k : Kind) → o ≡ Some k → IsMateFree w k other
  free_named o e free k f = (let P : Option Kind → Type 0 = λ x. AreMateFree w x other in subst P (sym e ∙ f) free)

  named_free : (o : Option Kind) → o ≡ own → IsSmallUnwinnable p w → AreMateFree w o other
  named_free None e u = tt
  named_free (Some k) e u = (let P : Option Kind → Type 0 = λ x. HasBeside p.men w x in u.free k other (subst P (sym e) has) has')

  pub verdict_exact : (b : Bool) → IsTrue b ↔ AreMateFree w own other → IsTrue b ↔ IsSmallUnwinnable p w
  verdict_exact b told = (
    λ h. record {
      small = record { no_pawn = no_pawn; few = few };
      free = λ k j one lo. (
          let e : own ≡ Some k = beside_is_one p.men w own (Some k) has one in
          let f : other ≡ j = beside_is_one p.men (other_color w) other j has' lo in
          let P : Option Kind → Type 0 = λ x. IsMateFree w k x in
          subst P f (free_named own refl (told.0 h) k e));
    },
    λ u. told.1 (named_free own refl u),
  )

-- a pawn, as a man
record PawnMan (o : Option Man) : Type 0 where
  man : Man
  found : o ≡ Some man
  kind : man.kind ≡ Pawn

pawn_man : (o : Option Man) → is_pawn o ≡ true → PawnMan o
pawn_man o h =
    elim (or_cases (is_man White Pawn o) (is_man Black Pawn o) h) [
      | inl x ↦ (let m = man_of o White Pawn x in record { man = m.man; found = m.found; kind = m.kind })
      | inr x ↦ (let m = man_of o Black Pawn x in record { man = m.man; found = m.found; kind = m.kind })
    ]

-- the set of pawns is empty where no pawn stands anywhere
pub pawnless : (men : List (Option Man)) → length men ≡ 64 → (b : Bool) → b ≡ has_no_square (set_of (λ s. is_kind Pawn (man_at men s))) → IsTrue b ↔ HasNoPawn men
unfolding has_no_square
pawnless men size b e =
    let pawns : ℕ → Bool = λ s. is_kind Pawn (man_at men s) in (
      λ h u. false_from_ne_true (is_pawn (man_at men u)) (λ p.
          let m = pawn_man (man_at men u) p in
          let inside : u < 64 = rw size at (on_board men u m.man m.found) in
          let here : has_square (set_of pawns) u ≡ true = has-set_of pawns u inside ∙ (rw (m.found, m.kind) refl) in
          both_ways (list_any (has_square (set_of pawns)) squares) (not-true (list_any (has_square (set_of pawns)) squares) (sym e ∙ h)) (any_square_at (has_square (set_of pawns)) u inside here)),
      λ none. true_from_ne_false b (λ no.
          let v = some_square (has_square (set_of pawns)) (not-false (list_any (has_square (set_of pawns)) squares) (sym e ∙ no)) in
          both_ways (is_pawn (man_at men v.0)) (none v.0) (pawn_kind (man_at men v.0) (in_set_of pawns v.0 v.2).1)),
    )

-- where there is a pawn, or a side has several men, there is no small material
pub pawns_refuse : (p : Board) (w : Color) → (HasNoPawn p.men → ⊥) → IsTrue false ↔ IsSmallUnwinnable p w
pawns_refuse p w some = (λ h. cc, λ u. absurd (some u.small.no_pawn))

pub several_refuse : (p : Board) (w c : Color) → HasSeveral p.men c → IsTrue false ↔ IsSmallUnwinnable p w
several_refuse p w c several = (λ h. cc, λ u. (let few = u.small.few c in absurd (several few.0 few.1)))
