-- Which legal moves fit what a word says of one of them: that one alone.
use Rattle.std.proofs.Common.{◌≡◌, ℕ, ◌+◌, ◌-◌, ◌==◌, ◌&&◌, ◌⊎◌, inl, inr, Bool, true, false, not, List, [], ◌∷◌, length, Option, Some, None, Ok, refl, sym, ap, subst, ◌∙◌, arith}
use Rattle.std.specs.List.{filter, Contains}
use Rattle.std.proofs.lemmas.Bool.{and_parts, eqb-true, eq-eqb}
use Rattle.cha_list.specs.Distinct.{AreDistinct}
use Rattle.cha_board.specs.declared.men.Color.{Color}
use Rattle.cha_board.specs.declared.men.Color.TheVariants.{White, Black}
use Rattle.cha_board.specs.declared.men.Kind.{Kind}
use Rattle.cha_board.specs.declared.men.Kind.TheVariants.{Pawn, King}
use Rattle.cha_board.specs.declared.men.Man.{Man}
use Rattle.cha_board.specs.Men.{same_color, same_kind, is_man}
use Rattle.cha_board.specs.Squares.{file_of, rank_of, files_apart, last_rank}
use Rattle.cha_board.specs.Board.{Board, man_at, home_of}
use Rattle.cha_board.proofs.Identity.{same_kind_equal, same_kind_self}
use Rattle.cha_moves.specs.Step.{Move}
use Rattle.cha_moves.specs.Moves.{goes, promotes_well, is_promotion, legal}
use Rattle.cha_moves.proofs.Contained.{not_in_nothing, Contains-cons_here, Contains-cons_there, Contains-cons_cases, Contains-filter_from, Contains-filter_parts}
use Rattle.cha_moves.proofs.Made.{Mover}
use Rattle.cha_moves.proofs.Kept.{promoted, castling_tests, king_way}
use Rattle.cha_moves.proofs.Listed.{mover_of}
use Rattle.cha_moves.proofs.LegalApart.{legal_apart}
use Rattle.cha_moves.proofs.Apart.{filtered_apart}
use Rattle.cha_san.specs.declared.forms.Form.{Form}
use Rattle.cha_san.specs.declared.forms.Form.TheVariants.{Short, Long, Plain}
use Rattle.cha_san.specs.declared.forms.Parts.{Parts}
use Rattle.cha_san.specs.Fitting.{is_castling, is_named, promotes_as, fits_parts, fits}
use Rattle.cha_san.specs.Forms.{form_of}
use Rattle.cha_san.specs.Resolving.{only, resolved}
use Rattle.cha_san.specs.Writing.{named_if, parts_of, is_alone}
use Rattle.cha_san.proofs.Resolved.{answers_resolved}
use Rattle.cha_san.proofs.Sourced.{not_two_files, each_goal}

-- the one element of a list that passes
all_one : {X : Type 0} (ys : List X) (x : X) → AreDistinct ys → Contains ys x → ((y : X) → Contains ys y → y ≡ x) → ys ≡ x ∷ []
unfolding AreDistinct
all_one [] x d here same = absurd (not_in_nothing x here)
all_one (y ∷ []) x d here same = ap (λ z. z ∷ []) (same y (Contains-cons_here y [] y refl))
all_one (y ∷ z ∷ rest) x d here same =
    let first = same y (Contains-cons_here y (z ∷ rest) y refl) in
    let second = same z (Contains-cons_there y (z ∷ rest) z (Contains-cons_here z rest z refl)) in
    absurd (d.0 (Contains-cons_here z rest y (second ∙ sym first)))

one_passes : {X : Type 0} (p : X → Bool) (xs : List X) (x : X) → AreDistinct xs → Contains xs x → p x ≡ true → ((y : X) → Contains xs y → p y ≡ true → y ≡ x) → filter p xs ≡ x ∷ []
one_passes p xs x d here passes same =
    all_one (filter p xs) x (filtered_apart p xs d) (Contains-filter_from p xs x here passes) (λ y there. (let parts = Contains-filter_parts p xs y there in same y parts.0 parts.1))

-- the move that alone fits what a word says is the one that the word names
pub fits_alone : (q : Board) (m : Move) (form : Form) → Contains (legal q) m → fits q form m ≡ true → ((n : Move) → Contains (legal q) n → fits q form n ≡ true → n ≡ m) → filter (fits q form) (legal q) ≡ m ∷ []
fits_alone q m form there fit same = one_passes (fits q form) (legal q) m (legal_apart q) there fit same

pub names : (q : Board) (m : Move) (word : List ℕ) (form : Form) → form_of word ≡ Some form → filter (fits q form) (legal q) ≡ m ∷ [] → resolved q word ≡ Ok m
names q m word form said one = sym (answers_resolved q word form (Ok m) (record { said = said; chosen = sym (ap only one) }))

-- a list of one element
of_one : {X : Type 0} (xs : List X) (x : X) → length xs ≡ 1 → Contains xs x → xs ≡ x ∷ []
of_one [] x e here = absurd (omega (arith, e))
of_one (y ∷ []) x e here = ap (λ z. z ∷ []) (one_is y x here)
  where
    one_is : {X : Type 0} (y x : X) → Contains (y ∷ []) x → y ≡ x
    one_is y x here = elim (Contains-cons_cases y [] x here) [ inl e ↦ e | inr none ↦ absurd (not_in_nothing x none) ]
of_one (y ∷ z ∷ rest) x e here = absurd (omega (arith, e))

pub counted_alone : (q : Board) (m : Move) (p : Parts) → Contains (legal q) m → fits q (Plain p) m ≡ true → is_alone q p ≡ true → filter (fits q (Plain p)) (legal q) ≡ m ∷ []
unfolding is_alone
counted_alone q m p there fit alone = of_one (filter (fits q (Plain p)) (legal q)) m (eqb-true (length (filter (fits q (Plain p)) (legal q))) 1 alone) (Contains-filter_from (fits q (Plain p)) (legal q) m there fit)

-- moves by their parts
abbrev move : ℕ → ℕ → Option Kind → Move
move s t p = record { from = s; to = t; promotion = p }

same_move : (n m : Move) → n.from ≡ m.from → n.to ≡ m.to → n.promotion ≡ m.promotion → n ≡ m
same_move n m a b c = ap (λ s. move s n.to n.promotion) a ∙ ap (λ t. move m.from t n.promotion) b ∙ ap (λ p. move m.from m.to p) c

-- castling goes from the king's home, two files to one side or the other
record Castles (q : Board) (m : Move) : Type 0 where
  from_home : m.from ≡ home_of q.side
  none : m.promotion ≡ None
  side : (m.to ≡ home_of q.side + 2) ⊎ (m.to ≡ home_of q.side - 2)

castles : (q : Board) (m : Move) → Contains (legal q) m → is_castling q m ≡ true → Castles q m
unfolding is_castling
castles q m there h =
    let may = mover_of q m there in
    let man = may.0 in
    let both = and_parts (is_man q.side King (man_at q.men m.from)) (files_apart m.from m.to == 2) h in
    let king : man.kind ≡ King = same_kind_equal man.kind King (and_parts (same_color man.color q.side) (same_kind man.kind King) (sym (ap (is_man q.side King) may.1.found) ∙ both.0)).1 in
    let way : goes q King m.from m.to ≡ true = sym (ap (λ k. goes q k m.from m.to) king) ∙ may.1.goes in
    let none : m.promotion ≡ None = elim (promoted q.side man.kind m.to m.promotion may.1.well) [
      | inl x ↦ (let wrong = sym king ∙ x.0 in cc)
      | inr x ↦ x.0
    ] in
    elim (king_way q m.from m.to way) [
      | inl a ↦ absurd (not_two_files q.side m.from m.to a both.1)
      | inr x ↦ (let tests = castling_tests q x.0 m.from m.to x.1 in record { from_home = tests.from_home; none = none; side = each_goal q.side x.0 m.to tests.to_goal })
    ]

short_file : (c : Color) → file_of (home_of c + 2) ≡ 6
short_file White = refl
short_file Black = refl

long_file : (c : Color) → file_of (home_of c - 2) ≡ 2
long_file White = refl
long_file Black = refl

to_short : (q : Board) (m : Move) → Castles q m → file_of m.to ≡ 6 → m.to ≡ home_of q.side + 2
to_short q m h file = elim h.side [
  | inl e ↦ e
  | inr e ↦ absurd (let there = ap file_of e ∙ long_file q.side in omega (arith, file, there))
]

to_long : (q : Board) (m : Move) → Castles q m → file_of m.to ≡ 2 → m.to ≡ home_of q.side - 2
to_long q m h file = elim h.side [
  | inl e ↦ absurd (let there = ap file_of e ∙ short_file q.side in omega (arith, file, there))
  | inr e ↦ e
]

-- a castling move alone fits the word of its side
pub short_alone : (q : Board) (m : Move) → Contains (legal q) m → is_castling q m ≡ true → (file_of m.to == 6) ≡ true → filter (fits q Short) (legal q) ≡ m ∷ []
unfolding fits
short_alone q m there h six =
    let mine = castles q m there h in
    let to = to_short q m mine (eqb-true (file_of m.to) 6 six) in
    fits_alone q m Short there (rw (h, six) refl) (λ n in_list fit. (
    let both = and_parts (is_castling q n) (file_of n.to == 6) fit in
    let other = castles q n in_list both.0 in
    same_move n m (other.from_home ∙ sym mine.from_home) (to_short q n other (eqb-true (file_of n.to) 6 both.1) ∙ sym to) (other.none ∙ sym mine.none)))

pub long_alone : (q : Board) (m : Move) → Contains (legal q) m → is_castling q m ≡ true → (file_of m.to == 6) ≡ false → filter (fits q Long) (legal q) ≡ m ∷ []
unfolding fits
long_alone q m there h not_six =
    let mine = castles q m there h in
    let to : m.to ≡ home_of q.side - 2 = elim mine.side [
      | inl e ↦ (let six = eq-eqb (file_of m.to) 6 (ap file_of e ∙ short_file q.side) in let wrong = sym six ∙ not_six in cc)
      | inr e ↦ e
    ] in
    let two : (file_of m.to == 2) ≡ true = eq-eqb (file_of m.to) 2 (ap file_of to ∙ long_file q.side) in
    fits_alone q m Long there (rw (h, two) refl) (λ n in_list fit. (
    let both = and_parts (is_castling q n) (file_of n.to == 2) fit in
    let other = castles q n in_list both.0 in
    same_move n m (other.from_home ∙ sym mine.from_home) (to_long q n other (eqb-true (file_of n.to) 2 both.1) ∙ sym to) (other.none ∙ sym mine.none)))

-- what a man's word says
abbrev pub IsOf : Kind → Option Kind → Type 0
IsOf k p = ((k ≡ Pawn) × (is_promotion p ≡ true)) ⊎ (p ≡ None)

six_parts : (a b c d e f : Bool) → (a && b && c && d && e && f) ≡ true → (a ≡ true) × (b ≡ true) × (c ≡ true) × (d ≡ true) × (e ≡ true) × (f ≡ true)
six_parts false b c d e f h = cc
six_parts true false c d e f h = cc
six_parts true true false d e f h = cc
six_parts true true true false e f h = cc
six_parts true true true true false f h = cc
six_parts true true true true true false h = cc
six_parts true true true true true true h = (refl, refl, refl, refl, refl, refl)

promotes_self : (p : Option Kind) → promotes_as p p ≡ true
promotes_self None = refl
promotes_self (Some k) = same_kind_self k

one_square : (s t : ℕ) → file_of s ≡ file_of t → rank_of s ≡ rank_of t → s ≡ t
one_square s t file rank = omega (arith, file, rank)

same_promotion : (c : Color) (k : Kind) (t : ℕ) (p o : Option Kind) → IsOf k p → ((p ≡ None) → (same_kind k Pawn && (rank_of t == last_rank c)) ≡ false) → promotes_as p o ≡ true
    → (((k ≡ Pawn) × (rank_of t ≡ last_rank c) × (is_promotion o ≡ true)) ⊎ ((o ≡ None) × ((same_kind k Pawn && (rank_of t == last_rank c)) ≡ false))) → o ≡ p
same_promotion c k t None o h far fit way = elim way [
  | inl x ↦
      (let rank = eq-eqb (rank_of t) (last_rank c) x.1 in
      let pawn = ap (λ j. same_kind j Pawn) x.0 in
      let wrong = far refl in
      let both : (same_kind k Pawn && (rank_of t == last_rank c)) ≡ true = rw (pawn, rank) refl in
      let clash = sym both ∙ wrong in
      cc)
  | inr x ↦ x.0
]
same_promotion c k t (Some j) None h far fit way = cc
same_promotion c k t (Some j) (Some i) h far fit way = ap Some (same_kind_equal i j fit)

pub promotion_of : (q : Board) (m : Move) (man : Man) → Mover q m man → IsOf man.kind m.promotion
promotion_of q m man may = elim (promoted q.side man.kind m.to m.promotion may.well) [ inl x ↦ inl (x.0, x.2) | inr x ↦ inr x.0 ]

named_self : (b : Bool) (n : ℕ) → is_named (named_if b n) n ≡ true
named_self true n = eq-eqb n n refl
named_self false n = refl

-- a move fits the parts of its own words
pub fits_own : (q : Board) (m : Move) (man : Man) (file rank : Bool) → Mover q m man → is_castling q m ≡ false → fits q (Plain (parts_of man.kind m file rank)) m ≡ true
unfolding fits fits_parts
fits_own q m man file rank may h =
    let own : is_man q.side man.kind (man_at q.men m.from) ≡ true = ap (is_man q.side man.kind) may.found ∙ (let a = may.own in let b = same_kind_self man.kind in rw (a, b) refl) in
    let to : (m.to == m.to) ≡ true = eq-eqb m.to m.to refl in
    rw (h, own, named_self file (file_of m.from), named_self rank (rank_of m.from), to, promotes_self m.promotion) refl

-- with file and rank it alone fits them
pub both_alone : (q : Board) (m : Move) (man : Man) → Contains (legal q) m → Mover q m man → is_castling q m ≡ false → filter (fits q (Plain (parts_of man.kind m true true))) (legal q) ≡ m ∷ []
unfolding fits fits_parts
both_alone q m man there may h =
    let way = promoted q.side man.kind m.to m.promotion may.well in
    let of = promotion_of q m man may in
    let far : m.promotion ≡ None → (same_kind man.kind Pawn && (rank_of m.to == last_rank q.side)) ≡ false = λ e. elim way [ inl x ↦ (let wrong = sym x.2 ∙ ap is_promotion e in cc) | inr x ↦ x.1 ] in
    fits_alone q m (Plain (parts_of man.kind m true true)) there (fits_own q m man true true may h) (λ n in_list fit. (
    let all = six_parts (not (is_castling q n)) (is_man q.side man.kind (man_at q.men n.from)) (file_of n.from == file_of m.from) (rank_of n.from == rank_of m.from) (n.to == m.to) (promotes_as m.promotion n.promotion) fit in
    let from : n.from ≡ m.from = one_square n.from m.from (eqb-true (file_of n.from) (file_of m.from) all.2) (eqb-true (rank_of n.from) (rank_of m.from) all.3) in
    let target : n.to ≡ m.to = eqb-true n.to m.to all.4 in
    let other = mover_of q n in_list in
    let kind : other.0.kind ≡ man.kind = same_kind_equal other.0.kind man.kind (and_parts (same_color other.0.color q.side) (same_kind other.0.kind man.kind) (sym (ap (is_man q.side man.kind) other.1.found) ∙ all.1)).1 in
    let well = subst (λ k. promotes_well q.side k n.to n.promotion ≡ true) kind other.1.well in
    let well' = subst (λ t. promotes_well q.side man.kind t n.promotion ≡ true) target well in
    same_move n m from target (same_promotion q.side man.kind m.to m.promotion n.promotion of far all.5 (promoted q.side man.kind m.to n.promotion well'))))
