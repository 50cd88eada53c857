-- A side that has beside its king only bishops on squares of one colour never gives check by two men at once.
use Rattle.std.proofs.Common.{◌≡◌, ◌≢◌, ℕ, ◌<◌, true, false, not, List, Option, Some, None, refl, sym, subst, ap, ◌∙◌, inl, inr}
use Rattle.std.proofs.lemmas.Bool.{and_parts, both_ways, cases_Bool, cases_eq, false_from_ne_true, not-true}
use Rattle.std.proofs.lemmas.Option.{same_Some}
use Rattle.cha_board.specs.declared.men.Color.{Color}
use Rattle.cha_board.specs.declared.men.Color.TheVariants.{White}
use Rattle.cha_board.specs.declared.men.Kind.{Kind}
use Rattle.cha_board.specs.declared.men.Kind.TheVariants.{Pawn, Bishop, Rook, King}
use Rattle.cha_board.specs.declared.men.Man.{Man}
use Rattle.cha_board.specs.Men.{other_color, same_color, same_kind, is_vacant, is_man, is_non_king}
use Rattle.cha_board.specs.Squares.{is_diagonal, aims_at, lies_between, color_of_square}
use Rattle.cha_board.specs.Board.{Board, man_at, is_empty, is_clear, attacked, king_of, in_check, IsValid}
use Rattle.cha_board.proofs.Identity.{man_of, is_man_from, same_color_self, same_color_equal, same_kind_equal, other_other, none_some, one_kind, empty_is_none}
use Rattle.cha_board.proofs.ManTests.{is_non_king_from, not_of_other}
use Rattle.cha_board.proofs.Sightings.{attacked_from}
use Rattle.cha_moves.specs.Step.{Move}
use Rattle.cha_moves.specs.Moves.{is_pseudo_legal, is_en_passant, arriving, moved, men_after, is_legal_in}
use Rattle.cha_moves.proofs.Clearing.{clear_at, clear_from}
use Rattle.cha_moves.proofs.Kept.{from_to, stays_man, castling_of, king_place}
use Rattle.cha_moves.proofs.Made.{Mover, may_gives, moved_to, moved_from, moved_other, makes, Plainly, Passing, OnWing}
use Rattle.cha_moves.proofs.GoingLegally.{aims_at_self}
use Rattle.mob_law.proofs.Attackers.{Attacker, attacks_by}
use Rattle.mob_small.proofs.Scene.{non_king_man}
use Rattle.mob_small.specs.Lone.{HasOnly, is_bishop_on}
use Rattle.mob_small.proofs.Colors.{between_diagonal, Ray, behind_one, farther}

-- a square does not lie between itself and another
not_between_itself : (f k : ℕ) → f < 64 → k < 64 → is_diagonal f k ≡ true → lies_between f k f ≡ true → ⊥
unfolding aims_at
not_between_itself f k small small' d lies = both_ways (is_diagonal f f) (aims_at_self White Bishop f) (between_diagonal f k f small small' d lies).0

-- With such bishops and a legal move:
module _ (q : Board) (m : Move) (valid : IsValid q) (from : m.from < 64) (to : m.to < 64) (man : Man) (may : Mover q m man) (square : Color) (only : HasOnly q.men q.side (is_bishop_on square q.side)) where
  -- who is no king is a bishop
  bishop_there : (u : ℕ) → is_non_king q.side (man_at q.men u) ≡ true → is_man q.side Bishop (man_at q.men u) ≡ true
  bishop_there u h = (and_parts (is_man q.side Bishop (man_at q.men u)) (same_color (color_of_square u) square) (only u h)).0

  no_other : (k : Kind) (u : ℕ) → k ≢ King → same_kind k Bishop ≡ false → is_man q.side k (man_at q.men u) ≡ true → ⊥
  no_other k u no_king no_bishop there =
      both_ways (is_man q.side Bishop (man_at q.men u)) (one_kind q.side q.side k Bishop (man_at q.men u) no_bishop there) (bishop_there u (non_king_man (man_at q.men u) q.side k there no_king))

  no_pawn : same_kind man.kind Pawn ≡ false
  no_pawn = false_from_ne_true (same_kind man.kind Pawn) (λ h.
      no_other Pawn m.from (λ e. cc) refl (is_man_from (man_at q.men m.from) man q.side Pawn may.found (same_color_equal man.color q.side may.own) (same_kind_equal man.kind Pawn h)))

  abbrev then : List (Option Man)
  then = moved q.men m.from m.to (Some man)

  -- the move is one man's
  pub plain : men_after q m ≡ then
  plain =
      let P : Option Man → Type 0 = λ x. men_after q m ≡ moved q.men m.from m.to x in
      elim (makes q m) [
        | Plainly a b e ↦ (
            let M : Option Man → Type 0 = λ x. arriving x m.promotion ≡ Some man in
            subst P (subst M (sym may.found) (stays_man q.side man m.to m.promotion may.well no_pawn)) e)
        | Passing x e ↦ absurd (no_other Pawn m.from (λ e. cc) refl (and_parts (is_man q.side Pawn (man_at q.men m.from)) (is_en_passant q m.from m.to) x).0)
        | OnWing w x e ↦ absurd (no_other Rook _ (λ e. cc) refl (castling_of q m w valid x e).rook)
      ]

  arrived : man_at then m.to ≡ Some man
  arrived = moved_to q.men m.from m.to (Some man) (rw valid.size to)

  left : man_at then m.from ≡ None
  left = moved_from q.men m.from m.to (Some man) (rw valid.size from) (from_to q m man may)

  -- With the enemy's king on k:
  module _ (k : ℕ) (small : k < 64) (king : is_man (other_color q.side) King (man_at then k) ≡ true) where
    k_not_from : k ≢ m.from
    k_not_from e = (
        let l = man_of (man_at then k) (other_color q.side) King king in
        let P : ℕ → Type 0 = λ x. man_at then x ≡ Some l.man in
        none_some (man_at then m.from) l.man left (subst P e l.found))

    k_not_to : k ≢ m.to
    k_not_to e = (
        let P : ℕ → Type 0 = λ x. is_man (other_color q.side) King (man_at then x) ≡ true in
        not_of_other q.side King (man_at then m.to) man arrived may.own (subst P e king))

    -- it stood there before, and was not attacked
    stood : is_man (other_color q.side) King (man_at q.men k) ≡ true
    stood = (let P : Option Man → Type 0 = λ x. is_man (other_color q.side) King x ≡ true in subst P (moved_other q.men m.from m.to (Some man) k k_not_from k_not_to) king)

    unattacked : (u : ℕ) (by : Man) → u < 64 → man_at q.men u ≡ Some by → same_color by.color q.side ≡ true → aims_at q.side by.kind u k ≡ true → is_clear q.men u k ≡ true → ⊥
    unfolding in_check
    unattacked u by small' found own aims clear =
        let hit = attacked_from q.men q.side k u small' (attacks_by q.men q.side k u by found own aims clear) in
        let place = king_place q.men (other_color q.side) k (valid.kings (other_color q.side)) (rw valid.size small) stood in
        let safe = not-true (in_check q.men (other_color q.side)) valid.opponent in
        let seen : attacked q.men (other_color (other_color q.side)) (king_of q.men (other_color q.side)) ≡ true = rw (other_other, place) hit in
        both_ways (attacked q.men (other_color (other_color q.side)) (king_of q.men (other_color q.side))) safe seen

    -- what is empty now, and was not left, was empty
    was_empty : (y : ℕ) → y ≢ m.from → is_empty then y ≡ true → is_empty q.men y ≡ true
    was_empty y apart free =
        let not_to : y ≢ m.to = λ e. (
        let P : ℕ → Type 0 = λ x. is_empty then x ≡ true in
        none_some (man_at then m.to) man (empty_is_none (man_at then m.to) (subst P e free)) arrived) in
        ap is_vacant (sym (moved_other q.men m.from m.to (Some man) y apart not_to)) ∙ free

    -- a bishop that attacks the king now, and has not moved, is one that the move has uncovered
    module _ (u : ℕ) (small' : u < 64) (a : Attacker then q.side k u) (bishop : a.man.kind ≡ Bishop) (still : u ≢ m.to) where
      diagonal_to : is_diagonal u k ≡ true
      unfolding aims_at
      diagonal_to = (let K : Kind → Type 0 = λ x. aims_at q.side x u k ≡ true in subst K bishop a.aims)

      not_from : u ≢ m.from
      not_from e = (
          let P : ℕ → Type 0 = λ x. man_at then x ≡ Some a.man in
          none_some (man_at then m.from) a.man left (subst P e a.found))

      pub uncovered : lies_between u k m.from ≡ true
      uncovered =
          elim (cases_Bool (lies_between u k m.from)) [
            | inl h ↦ h
            | inr off ↦ absurd (unattacked u a.man small' (sym (moved_other q.men m.from m.to (Some man) u not_from still) ∙ a.found) a.own a.aims
                (clear_from q.men u k (λ y small'' lies. was_empty y (λ e. (let P : ℕ → Type 0 = λ x. lies_between u k x ≡ true in both_ways (lies_between u k m.from) off (subst P e lies)))
                (clear_at then u k y a.clear small'' lies))))
          ]

      -- so the man that moved is the king: a bishop would have attacked from there
      pub by_king : same_kind man.kind King ≡ true
      unfolding aims_at
      by_king =
          elim (cases_Bool (same_kind man.kind King)) [
            | inl h ↦ h
            | inr h ↦ (
                let own = bishop_there m.from (rw may.found (is_non_king_from q.side man may.own h)) in
                let b = man_of (man_at q.men m.from) q.side Bishop own in
                let line' = (between_diagonal u k m.from small' small diagonal_to uncovered).1 in
                let kind : b.man.kind ≡ Bishop = b.kind in
                let aims : aims_at q.side b.man.kind m.from k ≡ true = rw kind line' in
                absurd (unattacked m.from b.man from b.found (rw b.color (same_color_self q.side)) aims
                (clear_from q.men m.from k (λ y small'' lies. was_empty y (λ e. (let P : ℕ → Type 0 = λ x. lies_between m.from k x ≡ true in not_between_itself m.from k from small line' (subst P e lies)))
                (clear_at then u k y a.clear small'' (farther k u m.from y (record { king = small; behind = small'; front = from; line = diagonal_to; lies = uncovered }) small'' lies))))))
          ]

    -- a bishop that has moved is no king
    no_king_here : (u : ℕ) (a : Attacker then q.side k u) → a.man.kind ≡ Bishop → u ≡ m.to → same_kind man.kind King ≡ true → ⊥
    no_king_here u a bishop here king_moved =
        let P : ℕ → Type 0 = λ x. man_at then x ≡ Some a.man in
        let same : a.man ≡ man = same_Some a.man man (sym (subst P here a.found) ∙ arrived) in
        let K : Man → Type 0 = λ x. x.kind ≡ Bishop in
        let kind : man.kind ≡ Bishop = subst K same bishop in
        let none : same_kind man.kind King ≡ false = rw kind refl in
        both_ways (same_kind man.kind King) none king_moved

    -- so two that attack it are one
    pub one_check : (u s : ℕ) → u < 64 → s < 64 → (a : Attacker then q.side k u) → (b : Attacker then q.side k s) → a.man.kind ≡ Bishop → b.man.kind ≡ Bishop → u ≡ s
    one_check u s small' small'' a b bishop bishop' =
        elim (cases_eq u m.to) [
          | inl here ↦ elim (cases_eq s m.to) [
            | inl there ↦ here ∙ sym there
            | inr still ↦ absurd (no_king_here u a bishop here (by_king s small'' b bishop' still))
          ]
          | inr still ↦ elim (cases_eq s m.to) [
            | inl there ↦ absurd (no_king_here s b bishop' there (by_king u small' a bishop still))
            | inr still' ↦ (
                let r : Ray k u m.from = record { king = small; behind = small'; front = from; line = diagonal_to u small' a bishop still; lies = uncovered u small' a bishop still } in
                let o : Ray k s m.from = record { king = small; behind = small''; front = from; line = diagonal_to s small'' b bishop' still'; lies = uncovered s small'' b bishop' still' } in
                elim (behind_one k u m.from s r o) [
                  | inl e ↦ e
                  | inr x ↦ elim x [
                    | inl lies ↦ absurd (none_some (man_at then s) b.man (empty_is_none (man_at then s) (clear_at then u k s a.clear small'' lies)) b.found)
                    | inr lies ↦ absurd (none_some (man_at then u) a.man (empty_is_none (man_at then u) (clear_at then s k u b.clear small' lies)) a.found)
                  ]
                ])
          ]
        ]

-- of two bishops of w that attack the enemy's king, each is the other
abbrev pub ChecksOnce : List (Option Man) → Color → Type 0
ChecksOnce men w =
    (k : ℕ) → k < 64 → is_man (other_color w) King (man_at men k) ≡ true → (u s : ℕ) → u < 64 → s < 64
    → (a : Attacker men w k u) → (b : Attacker men w k s) → a.man.kind ≡ Bishop → b.man.kind ≡ Bishop → u ≡ s

pub checks_once : (q : Board) (m : Move) (square : Color) → IsValid q → m.from < 64 → m.to < 64 → is_legal_in q m ≡ true → HasOnly q.men q.side (is_bishop_on square q.side) → ChecksOnce (men_after q m) q.side
unfolding is_legal_in
checks_once q m square valid from to legal only =
    let both = and_parts (is_pseudo_legal q m) (not (in_check (men_after q m) q.side)) legal in
    let mover = may_gives q m both.0 in
    let P : List (Option Man) → Type 0 = λ x. ChecksOnce x q.side in
    subst P (sym (plain q m valid from to mover.0 mover.1 square only)) (one_check q m valid from to mover.0 mover.1 square only)
