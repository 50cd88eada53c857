-- Four sets show men: what they show of each side and of each kind.
use Rattle.std.proofs.Common.{◌≡◌, ℕ, ◌<◌, Bool, true, not, ◌&&◌, ◌||◌, List, Option, Some, None, refl, ◌∙◌}
use Rattle.cha_board.specs.declared.men.Color.{Color}
use Rattle.cha_board.specs.declared.men.Color.TheVariants.{White, Black}
use Rattle.cha_board.specs.declared.men.Kind.{Kind}
use Rattle.cha_board.specs.declared.men.Kind.TheVariants.{Pawn, Knight, Bishop, Rook, Queen, King}
use Rattle.cha_board.specs.declared.men.Man.{Man}
use Rattle.cha_board.specs.declared.placement.Men.TheInside.{Inside}
use Rattle.cha_board.specs.Men.{same_color, same_kind, is_of, is_kind}
use Rattle.cha_board.specs.Board.{man_at}
use Rattle.cha_board.specs.SquareSets.{set_of, has_square, set_joined, set_common, set_minus}
use Rattle.cha_board.specs.MenSets.{sets_of}
use Rattle.cha_board.specs.Packing.{is_of_three, AreShown}
use Rattle.cha_board.proofs.SetLaws.{same_set, has-set_of}
use Rattle.cha_board.proofs.Tidiness.{same_inside}

in_joined : (p q : ℕ → Bool) (s : ℕ) → s < 64 → has_square (set_joined (set_of p) (set_of q)) s ≡ (p s || q s)
unfolding set_joined
in_joined p q s small =
    has-set_of (λ s. has_square (set_of p) s || has_square (set_of q) s) s small ∙ (λ i. has-set_of p s small i || has-set_of q s small i)

-- the squares of one set that are in neither of two others
only : (p q r t : ℕ → Bool) → ((s : ℕ) → (p s && not (q s || r s)) ≡ t s) → set_minus (set_of p) (set_joined (set_of q) (set_of r)) ≡ set_of t
unfolding set_minus
only p q r t same =
    same_set (λ s. has_square (set_of p) s && not (has_square (set_joined (set_of q) (set_of r)) s)) t (λ s small.
    (λ i. has-set_of p s small i && not (in_joined q r s small i)) ∙ same s)

-- the squares of two sets
both : (p q t : ℕ → Bool) → ((s : ℕ) → (p s && q s) ≡ t s) → set_common (set_of p) (set_of q) ≡ set_of t
unfolding set_common
both p q t same =
    same_set (λ s. has_square (set_of p) s && has_square (set_of q) s) t (λ s small. (λ i. has-set_of p s small i && has-set_of q s small i) ∙ same s)

-- the squares of any of three sets that are not in a fourth
any_but : (p q r b t : ℕ → Bool) → ((s : ℕ) → ((p s || q s) || r s) && not (b s) ≡ t s)
    → set_minus (set_joined (set_joined (set_of p) (set_of q)) (set_of r)) (set_of b) ≡ set_of t
unfolding set_minus set_joined
any_but p q r b t same =
    let two = λ (s : ℕ). has_square (set_of p) s || has_square (set_of q) s in
    same_set (λ s. has_square (set_of (λ s. has_square (set_of two) s || has_square (set_of r) s)) s && not (has_square (set_of b) s)) t (λ s small.
    (λ i. has-set_of (λ s. has_square (set_of two) s || has_square (set_of r) s) s small i && not (has-set_of b s small i))
    ∙ (λ i. (has-set_of two s small i || has-set_of r s small i) && not (b s))
    ∙ (λ i. ((has-set_of p s small i || has-set_of q s small i) || r s) && not (b s))
    ∙ same s)

-- the three bits of a kind's number
abbrev one : Kind → Bool
one k = same_kind k Pawn || same_kind k Bishop || same_kind k Queen

abbrev two : Kind → Bool
two k = same_kind k Knight || same_kind k Bishop || same_kind k King

abbrev three : Kind → Bool
three k = same_kind k Rook || same_kind k Queen || same_kind k King

pawn_bits : (k : Kind) → (one k && not (two k || three k)) ≡ same_kind k Pawn
pawn_bits Pawn = refl
pawn_bits Knight = refl
pawn_bits Bishop = refl
pawn_bits Rook = refl
pawn_bits Queen = refl
pawn_bits King = refl

knight_bits : (k : Kind) → (two k && not (one k || three k)) ≡ same_kind k Knight
knight_bits Pawn = refl
knight_bits Knight = refl
knight_bits Bishop = refl
knight_bits Rook = refl
knight_bits Queen = refl
knight_bits King = refl

bishop_bits : (k : Kind) → (one k && two k) ≡ same_kind k Bishop
bishop_bits Pawn = refl
bishop_bits Knight = refl
bishop_bits Bishop = refl
bishop_bits Rook = refl
bishop_bits Queen = refl
bishop_bits King = refl

rook_bits : (k : Kind) → (three k && not (one k || two k)) ≡ same_kind k Rook
rook_bits Pawn = refl
rook_bits Knight = refl
rook_bits Bishop = refl
rook_bits Rook = refl
rook_bits Queen = refl
rook_bits King = refl

queen_bits : (k : Kind) → (one k && three k) ≡ same_kind k Queen
queen_bits Pawn = refl
queen_bits Knight = refl
queen_bits Bishop = refl
queen_bits Rook = refl
queen_bits Queen = refl
queen_bits King = refl

king_bits : (k : Kind) → (two k && three k) ≡ same_kind k King
king_bits Pawn = refl
king_bits Knight = refl
king_bits Bishop = refl
king_bits Rook = refl
king_bits Queen = refl
king_bits King = refl

some_bit : (k : Kind) → ((one k || two k) || three k) ≡ true
some_bit Pawn = refl
some_bit Knight = refl
some_bit Bishop = refl
some_bit Rook = refl
some_bit Queen = refl
some_bit King = refl

white_bits : (c : Color) (b : Bool) → b ≡ true → (b && not (same_color c Black)) ≡ same_color c White
white_bits White b e = rw e refl
white_bits Black b e = rw e refl

abbrev first_of : Option Man → Bool
first_of o = is_of_three Pawn Bishop Queen o

abbrev second_of : Option Man → Bool
second_of o = is_of_three Knight Bishop King o

abbrev third_of : Option Man → Bool
third_of o = is_of_three Rook Queen King o

pawn_told : (o : Option Man) → (first_of o && not (second_of o || third_of o)) ≡ is_kind Pawn o
pawn_told None = refl
pawn_told (Some man) = pawn_bits man.kind

knight_told : (o : Option Man) → (second_of o && not (first_of o || third_of o)) ≡ is_kind Knight o
knight_told None = refl
knight_told (Some man) = knight_bits man.kind

bishop_told : (o : Option Man) → (first_of o && second_of o) ≡ is_kind Bishop o
bishop_told None = refl
bishop_told (Some man) = bishop_bits man.kind

rook_told : (o : Option Man) → (third_of o && not (first_of o || second_of o)) ≡ is_kind Rook o
rook_told None = refl
rook_told (Some man) = rook_bits man.kind

queen_told : (o : Option Man) → (first_of o && third_of o) ≡ is_kind Queen o
queen_told None = refl
queen_told (Some man) = queen_bits man.kind

king_told : (o : Option Man) → (second_of o && third_of o) ≡ is_kind King o
king_told None = refl
king_told (Some man) = king_bits man.kind

white_told : (o : Option Man) → (((first_of o || second_of o) || third_of o) && not (is_of Black o)) ≡ is_of White o
white_told None = refl
white_told (Some man) = white_bits man.color _ (some_bit man.kind)

-- The sets of men that four sets show.
abbrev pub shown_sets : List Bool → List Bool → List Bool → List Bool → Inside
shown_sets black first second third = record {
  white = set_minus (set_joined (set_joined first second) third) black;
  black = black;
  pawns = set_minus first (set_joined second third);
  knights = set_minus second (set_joined first third);
  bishops = set_common first second;
  rooks = set_minus third (set_joined first second);
  queens = set_common first third;
  kings = set_common second third;
}

pub sets_shown : (black first second third : List Bool) (men : List (Option Man)) → AreShown black first second third men
    → shown_sets black first second third ≡ sets_of men
sets_shown black first second third men shown =
    let b = λ (s : ℕ). is_of Black (man_at men s) in
    let x = λ (s : ℕ). first_of (man_at men s) in
    let y = λ (s : ℕ). second_of (man_at men s) in
    let z = λ (s : ℕ). third_of (man_at men s) in
    (λ i. shown_sets (shown.black_men i) (shown.first_bit i) (shown.second_bit i) (shown.third_bit i))
    ∙ same_inside (shown_sets (set_of b) (set_of x) (set_of y) (set_of z)) (sets_of men)
    (any_but x y z b _ (λ s. white_told (man_at men s)))
    refl
    (only x y z _ (λ s. pawn_told (man_at men s)))
    (only y x z _ (λ s. knight_told (man_at men s)))
    (both x y _ (λ s. bishop_told (man_at men s)))
    (only z x y _ (λ s. rook_told (man_at men s)))
    (both x z _ (λ s. queen_told (man_at men s)))
    (both y z _ (λ s. king_told (man_at men s)))
