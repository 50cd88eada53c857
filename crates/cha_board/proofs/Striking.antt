-- Attacks, seen from the square outwards.
use Rattle.std.proofs.Common.{◌≡◌, ℕ, ◌<◌, Bool, true, false, not, ◌==◌, ◌&&◌, ◌||◌, List, [], ◌∷◌, Option, None, Some, refl, sym, ap, ◌∙◌}
use Rattle.std.specs.List.{list_any}
use Rattle.std.proofs.lemmas.Nat.Bits.{bit_at-zero}
use Rattle.cha_board.specs.declared.men.Color.{Color}
use Rattle.cha_board.specs.declared.men.Color.TheVariants.{White}
use Rattle.cha_board.specs.declared.men.Kind.{Kind}
use Rattle.cha_board.specs.declared.men.Kind.TheVariants.{Pawn, Knight, Bishop, Rook, Queen, King}
use Rattle.cha_board.specs.declared.men.Man.{Man}
use Rattle.cha_board.specs.Men.{other_color, same_color, same_kind, is_man}
use Rattle.cha_board.specs.Board.{man_at, is_empty, is_clear, attacks_as, attacked}
use Rattle.cha_board.specs.Squares.{squares, lies_between, is_line, aims_at, between}
use Rattle.cha_board.specs.SquareSets.{set_of, has_square, set_joined, set_common, has_no_square}
use Rattle.cha_board.proofs.SetLaws.{same_set, has-set_of}
use Rattle.cha_board.specs.Aims.{is_open, aims_over, aimed, strikes_from, struck_by, struck_somehow}
use Rattle.cha_board.proofs.Scans.{no_square, any_alike}
use Rattle.cha_board.proofs.Betweens.{between_bits, all_kept, lies_turned}
use Rattle.cha_board.proofs.Tables.{pawn_leap, knight_leap, king_leap, aims_from_there}
use Rattle.cha_board.proofs.Sliding.{open_on}

-- a man of either side slides alike
pub bishop_of : (c : Color) (s : ℕ) (occupied : List Bool) → aimed White Bishop s occupied ≡ aimed c Bishop s occupied
unfolding aimed aims_over aims_at
bishop_of c s occupied = refl

pub rook_of : (c : Color) (s : ℕ) (occupied : List Bool) → aimed White Rook s occupied ≡ aimed c Rook s occupied
unfolding aimed aims_over aims_at
rook_of c s occupied = refl

or_shared : (a b o : Bool) → ((a && o) || (b && o)) ≡ ((a || b) && o)
or_shared true true true = refl
or_shared true true false = refl
or_shared true false true = refl
or_shared true false false = refl
or_shared false b o = refl

-- a queen aims as a rook and as a bishop
pub queen_of : (c : Color) (s : ℕ) (occupied : List Bool) → set_joined (aimed White Rook s occupied) (aimed White Bishop s occupied) ≡ aimed c Queen s occupied
unfolding set_joined aimed aims_over aims_at is_line
queen_of c s occupied =
    same_set (λ t. has_square (aimed White Rook s occupied) t || has_square (aimed White Bishop s occupied) t) (aims_over c Queen s occupied) (λ t small.
    rw (has-set_of (aims_over White Rook s occupied) t small, has-set_of (aims_over White Bishop s occupied) t small) (or_shared (aims_at White Rook s t) (aims_at White Bishop s t) (is_open occupied s t)))

on_open : (a b : Bool) → (a ≡ true → b ≡ true) → a ≡ (a && b)
on_open true b implied = sym (implied refl)
on_open false b implied = refl

open_leap : (occupied : List Bool) (s t : ℕ) → s < 64 → t < 64 → between_bits s t ≡ 0 → is_open occupied s t ≡ true
open_leap occupied s t small small' none =
    sym (open_on occupied s t 0 0 (λ _. false) small small' none (λ u _. ap (λ x. x == 1) (bit_at-zero u))) ∙ ap not (no_square (λ u. false) (λ u _. refl))

-- a man that leaps aims over any squares
leaper : (c : Color) (k : Kind) (s : ℕ) (occupied : List Bool) → s < 64 → ((t : ℕ) → t < 64 → aims_at c k s t ≡ true → between_bits s t ≡ 0) → set_of (aims_at c k s) ≡ aimed c k s occupied
unfolding aimed aims_over
leaper c k s occupied small leap =
    same_set (aims_at c k s) (aims_over c k s occupied) (λ t small'. on_open (aims_at c k s t) (is_open occupied s t) (λ on. open_leap occupied s t small small' (leap t small' on)))

pub pawn_aims : (c : Color) (s : ℕ) (occupied : List Bool) → s < 64 → set_of (aims_at c Pawn s) ≡ aimed c Pawn s occupied
pawn_aims c s occupied small = leaper c Pawn s occupied small (λ t small' on. pawn_leap c s t small small' on)

pub knight_aims : (c : Color) (s : ℕ) (occupied : List Bool) → s < 64 → set_of (aims_at c Knight s) ≡ aimed c Knight s occupied
knight_aims c s occupied small = leaper c Knight s occupied small (λ t small' on. knight_leap c s t small small' on)

pub king_aims : (c : Color) (s : ℕ) (occupied : List Bool) → s < 64 → set_of (aims_at c King s) ≡ aimed c King s occupied
king_aims c s occupied small = leaper c King s occupied small (λ t small' on. king_leap c s t small small' on)

not_twice : (b : Bool) → not (not b) ≡ b
not_twice true = refl
not_twice false = refl

-- two sets meet where some square passes both tests
meets : (p q : ℕ → Bool) → not (has_no_square (set_common (set_of p) (set_of q))) ≡ list_any (λ s. p s && q s) squares
unfolding has_no_square set_common
meets p q =
    not_twice _ ∙ any_alike (has_square (set_of (λ s. has_square (set_of p) s && has_square (set_of q) s))) (λ s. p s && q s) (λ s small.
    has-set_of (λ s. has_square (set_of p) s && has_square (set_of q) s) s small ∙ rw (has-set_of p s small, has-set_of q s small) refl)

implied_step : (a b : Bool) (x y : Bool) → (a ≡ true → b ≡ true) → (x ≡ true → y ≡ true) → (a || x) ≡ true → (b || y) ≡ true
implied_step true b x y first rest h = rw (first refl) refl
implied_step false true x y first rest h = refl
implied_step false false x y first rest h = rest h

any_implied : (p q : ℕ → Bool) (xs : List ℕ) → ((x : ℕ) → p x ≡ true → q x ≡ true) → list_any p xs ≡ true → list_any q xs ≡ true
any_implied p q [] implied h = cc
any_implied p q (x ∷ xs) implied h = implied_step (p x) (q x) (list_any p xs) (list_any q xs) (implied x) (any_implied p q xs implied) h

both_or_last : (a b : Bool) → (b ≡ true → a ≡ true) → (a && b) ≡ b
both_or_last true b implied = refl
both_or_last false true implied = implied refl
both_or_last false false implied = refl

near_first : (a b m : Bool) → ((a && b) && m) ≡ true → (a && m) ≡ true
near_first true true m h = h
near_first true false m h = cc
near_first false b m h = cc

pub clear_turned : (men : List (Option Man)) (s t : ℕ) → s < 64 → t < 64 → is_open (set_of (λ u. not (is_empty men u))) t s ≡ is_clear men s t
unfolding is_open is_clear between
clear_turned men s t small small' =
    let occupied = set_of (λ u. not (is_empty men u)) in
    all_kept (lies_between t s) (λ u. not (has_square occupied u)) squares
    ∙ ap not (any_alike (λ u. lies_between t s u && not (not (has_square occupied u))) (λ u. lies_between s t u && not (is_empty men u)) (λ u inside.
    ap (λ b. b && not (not (has_square occupied u))) (lies_turned s t u) ∙ ap (λ b. lies_between s t u && b) (not_twice (has_square occupied u) ∙ has-set_of (λ u. not (is_empty men u)) u inside)))
    ∙ sym (all_kept (lies_between s t) (λ u. is_empty men u) squares)

last_first : (a b m : Bool) → ((a && b) && m) ≡ (m && (a && b))
last_first true true true = refl
last_first true true false = refl
last_first true false true = refl
last_first true false false = refl
last_first false b true = refl
last_first false b false = refl

-- men of a kind attack a square where one of the other side there aims at one of them
pub struck : (men : List (Option Man)) (c : Color) (k : Kind) (t : ℕ) → t < 64
    → (not (has_no_square (set_common (set_of (aims_at (other_color c) k t)) (set_of (λ s. is_man c k (man_at men s)))))
    && not (has_no_square (set_common (aimed (other_color c) k t (set_of (λ u. not (is_empty men u)))) (set_of (λ s. is_man c k (man_at men s)))))) ≡ struck_by men c k t
unfolding aimed aims_over struck_by
struck men c k t small =
    let occupied = set_of (λ u. not (is_empty men u)) in
    let man = λ (s : ℕ). is_man c k (man_at men s) in
    rw (meets (aims_at (other_color c) k t) man, meets (λ s. aims_at (other_color c) k t s && is_open occupied t s) man)
    (both_or_last (list_any (λ s. aims_at (other_color c) k t s && man s) squares) (list_any (λ s. (aims_at (other_color c) k t s && is_open occupied t s) && man s) squares)
    (any_implied (λ s. (aims_at (other_color c) k t s && is_open occupied t s) && man s) (λ s. aims_at (other_color c) k t s && man s) squares (λ s h. near_first (aims_at (other_color c) k t s) (is_open occupied t s) (man s) h))
    ∙ any_alike (λ s. (aims_at (other_color c) k t s && is_open occupied t s) && man s) (strikes_from men c k t) (λ s small'.
    rw (aims_from_there c k s t small' small, clear_turned men s t small' small) (last_first (aims_at c k s t) (is_clear men s t) (man s))))

pub far_counts : (n m a b r : Bool) → (not a && not b) ≡ r → n ≡ a → m ≡ b → n ≡ false → not m ≡ r
far_counts n m false b r e f g h = ap not g ∙ e
far_counts n m true b r e f g h = cc

pub near_none : (n a b r : Bool) → (not a && not b) ≡ r → n ≡ a → n ≡ true → not n ≡ r
near_none n true b r e f h = ap not h ∙ e
near_none n false b r e f h = cc

either_step : (a b x y z : Bool) → z ≡ (x || y) → ((a || b) || z) ≡ ((a || x) || (b || y))
either_step true b x y z e = refl
either_step false true true y z e = refl
either_step false true false y z e = refl
either_step false false x y z e = e

any_either : (p q : ℕ → Bool) (xs : List ℕ) → list_any (λ s. p s || q s) xs ≡ (list_any p xs || list_any q xs)
any_either p q [] = refl
any_either p q (x ∷ xs) = either_step (p x) (q x) (list_any p xs) (list_any q xs) (list_any (λ s. p s || q s) xs) (any_either p q xs)

or_none : (x : Bool) → x ≡ (x || false)
or_none true = refl
or_none false = refl

-- a man is of one of the six kinds
pub one_of_six : (k : Kind) (b : Bool) (f : Kind → Bool)
    → (b && f k) ≡ ((((((b && same_kind k Pawn) && f Pawn) || ((b && same_kind k Knight) && f Knight)) || ((b && same_kind k King) && f King)) || ((b && same_kind k Bishop) && f Bishop))
    || ((b && same_kind k Rook) && f Rook)) || ((b && same_kind k Queen) && f Queen)
one_of_six Pawn true f = or_none (f Pawn) ∙ or_none _ ∙ or_none _ ∙ or_none _ ∙ or_none _
one_of_six Knight true f = or_none (f Knight) ∙ or_none _ ∙ or_none _ ∙ or_none _
one_of_six King true f = or_none (f King) ∙ or_none _ ∙ or_none _
one_of_six Bishop true f = or_none (f Bishop) ∙ or_none _
one_of_six Rook true f = or_none (f Rook)
one_of_six Queen true f = refl
one_of_six Pawn false f = refl
one_of_six Knight false f = refl
one_of_six King false f = refl
one_of_six Bishop false f = refl
one_of_six Rook false f = refl
one_of_six Queen false f = refl

grouped : (a b o : Bool) → (a && b && o) ≡ (a && (b && o))
grouped true b o = refl
grouped false b o = refl

strikes_as : (men : List (Option Man)) (c : Color) (t s : ℕ) (found : Option Man) → Kind → Bool
strikes_as men c t s found k = is_man c k found && (aims_at c k s t && is_clear men s t)

attacks_split : (men : List (Option Man)) (c : Color) (t s : ℕ) (found : Option Man)
    → attacks_as men c t s found
    ≡ (((((strikes_as men c t s found Pawn || strikes_as men c t s found Knight) || strikes_as men c t s found King) || strikes_as men c t s found Bishop) || strikes_as men c t s found Rook) || strikes_as men c t s found Queen)
unfolding attacks_as strikes_as
attacks_split men c t s None = refl
attacks_split men c t s (Some man) =
    grouped (same_color man.color c) (aims_at c man.kind s t) (is_clear men s t) ∙ one_of_six man.kind (same_color man.color c) (λ k. aims_at c k s t && is_clear men s t)

-- a side attacks a square where its men of some kind do
pub attacked_by_kinds : (men : List (Option Man)) (c : Color) (t : ℕ) → struck_somehow men c t ≡ attacked men c t
unfolding struck_somehow struck_by attacked strikes_as
attacked_by_kinds men c t =
    let f = strikes_from men c in
    sym (any_alike (λ s. attacks_as men c t s (man_at men s)) (λ s. ((((f Pawn t s || f Knight t s) || f King t s) || f Bishop t s) || f Rook t s) || f Queen t s) (λ s _. attacks_split men c t s (man_at men s))
    ∙ any_either (λ s. (((f Pawn t s || f Knight t s) || f King t s) || f Bishop t s) || f Rook t s) (f Queen t) squares
    ∙ ap (λ b. b || list_any (f Queen t) squares) (any_either (λ s. ((f Pawn t s || f Knight t s) || f King t s) || f Bishop t s) (f Rook t) squares
    ∙ ap (λ b. b || list_any (f Rook t) squares) (any_either (λ s. (f Pawn t s || f Knight t s) || f King t s) (f Bishop t) squares
    ∙ ap (λ b. b || list_any (f Bishop t) squares) (any_either (λ s. f Pawn t s || f Knight t s) (f King t) squares
    ∙ ap (λ b. b || list_any (f King t) squares) (any_either (f Pawn t) (f Knight t) squares)))))
