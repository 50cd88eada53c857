-- The men of a side are its men of each kind, and so are the moves from their squares: whatever adds up over lists of moves is the
-- sum over the kinds.
use Rattle.std.proofs.Common.{◌≡◌, ℕ, ◌+◌, ◌≤◌, Bool, true, false, ◌&&◌, List, [], ◌∷◌, ◌++◌, length, Option, Some, None, refl, sym, ◌∙◌, ap, arith}
use Rattle.std.specs.List.{Contains, filter, flat_map}
use Rattle.std.proofs.lemmas.List.{length-append}
use Rattle.std.proofs.lemmas.List.Elements.{filter-append}
use Rattle.cha_board.specs.declared.men.Color.{Color}
use Rattle.cha_board.specs.declared.men.Kind.{Kind}
use Rattle.cha_board.specs.declared.men.Kind.TheVariants.{Pawn, Knight, Bishop, Rook, Queen, King}
use Rattle.cha_board.specs.declared.men.Man.{Man}
use Rattle.cha_board.specs.Men.{same_color, same_kind, is_of, is_man}
use Rattle.cha_board.specs.Squares.{squares}
use Rattle.cha_board.specs.Board.{Board, man_at}
use Rattle.cha_board.specs.SquareSets.{set_of, has_square, squares_in}
use Rattle.cha_board.proofs.SetLaws.{has-set_of, kept_alike}
use Rattle.cha_board.proofs.Identity.{man_of}
use Rattle.cha_moves.specs.Step.{Move}
use Rattle.cha_moves.specs.Moves.{is_legal_in, moves_from, legal}
use Rattle.cha_moves.proofs.Contained.{Contains-filter_parts, Contains-squares_small}
use Rattle.cha_moves.proofs.WayLaws.{legal_by_men}
use Rattle.cha_moves.proofs.LegalApart.{few_legal}

-- a number that adds up over lists of moves
pub record Adds (f : List Move → ℕ) : Type 0 where
  pub none : f [] ≡ 0
  pub both : (a b : List Move) → f (a ++ b) ≡ f a + f b

-- the legal moves from some squares
abbrev pub legal_from : Board → List ℕ → List Move
legal_from q xs = filter (is_legal_in q) (flat_map moves_from xs)

-- the squares of the men of a side and a kind
abbrev pub men_of : Board → Color → Kind → List Bool
men_of q c k = set_of (λ s. is_man c k (man_at q.men s))

abbrev pub where_so : Bool → ℕ → ℕ
where_so true n = n
where_so false n = 0

nothing_more : (n : ℕ) → n ≡ 0 + n
nothing_more n = omega arith

-- one square more among those that pass a test
one_square : (q : Board) (f : List Move → ℕ) (r : ℕ → Bool) (b : Bool) (x : ℕ) (xs : List ℕ) → Adds f → r x ≡ b
    → f (legal_from q (filter r (x ∷ xs))) ≡ where_so b (f (filter (is_legal_in q) (moves_from x))) + f (legal_from q (filter r xs))
one_square q f r true x xs adds e =
    rw e (ap f (filter-append (is_legal_in q) (moves_from x) (flat_map moves_from (filter r xs))) ∙ adds.both (filter (is_legal_in q) (moves_from x)) (legal_from q (filter r xs)))
one_square q f r false x xs adds e = rw e (nothing_more (f (legal_from q (filter r xs))))

-- a man of a side is of one kind
one_kind : (c : Color) (o : Option Man) (n : ℕ)
    → where_so (is_of c o) n ≡ where_so (is_man c Pawn o) n + where_so (is_man c Knight o) n + where_so (is_man c Bishop o) n + where_so (is_man c Rook o) n + where_so (is_man c Queen o) n + where_so (is_man c King o) n
one_kind c None n = refl
one_kind c (Some man) n = kind_alone (same_color man.color c) man.kind n
  where
    kind_alone : (b : Bool) (k : Kind) (n : ℕ)
        → where_so b n ≡ where_so (b && same_kind k Pawn) n + where_so (b && same_kind k Knight) n + where_so (b && same_kind k Bishop) n + where_so (b && same_kind k Rook) n + where_so (b && same_kind k Queen) n + where_so (b && same_kind k King) n
    kind_alone false k n = refl
    kind_alone true Pawn n = omega arith
    kind_alone true Knight n = omega arith
    kind_alone true Bishop n = omega arith
    kind_alone true Rook n = omega arith
    kind_alone true Queen n = omega arith
    kind_alone true King n = omega arith

-- the number of the legal moves from those of some squares where men of a kind stand
abbrev pub kind_among : (q : Board) (f : List Move → ℕ) (c : Color) (k : Kind) (xs : List ℕ) → ℕ
kind_among q f c k xs = f (legal_from q (filter (λ s. is_man c k (man_at q.men s)) xs))

kinds_among : (q : Board) (f : List Move → ℕ) (c : Color) (xs : List ℕ) → Adds f
    → f (legal_from q (filter (λ s. is_of c (man_at q.men s)) xs))
    ≡ kind_among q f c Pawn xs + kind_among q f c Knight xs + kind_among q f c Bishop xs + kind_among q f c Rook xs + kind_among q f c Queen xs + kind_among q f c King xs
kinds_among q f c [] adds = (let none = adds.none in omega arith)
kinds_among q f c (x ∷ xs) adds =
    let one = λ (k : Kind). one_square q f (λ s. is_man c k (man_at q.men s)) (is_man c k (man_at q.men x)) x xs adds refl in
    let all = one_square q f (λ s. is_of c (man_at q.men s)) (is_of c (man_at q.men x)) x xs adds refl in
    let here = one_kind c (man_at q.men x) (f (filter (is_legal_in q) (moves_from x))) in
    let rest = kinds_among q f c xs adds in
    let p = one Pawn in
    let n = one Knight in
    let b = one Bishop in
    let r = one Rook in
    let d = one Queen in
    let k = one King in
    omega arith

squares_that : (p : ℕ → Bool) → squares_in (set_of p) ≡ filter p squares
unfolding squares
squares_that p = kept_alike (has_square (set_of p)) p 0 64 (λ s low small. has-set_of p s small)

kind_all : (q : Board) (f : List Move → ℕ) (c : Color) (k : Kind) → kind_among q f c k squares ≡ f (legal_from q (squares_in (men_of q c k)))
kind_all q f c k = ap (λ xs. f (legal_from q xs)) (sym (squares_that (λ s. is_man c k (man_at q.men s))))

-- the legal moves, by the kinds of the men of the side to move
pub by_kinds : (q : Board) (f : List Move → ℕ) (c : Color) → c ≡ q.side → Adds f
    → f (legal q)
    ≡ f (legal_from q (squares_in (men_of q c Pawn))) + f (legal_from q (squares_in (men_of q c Knight))) + f (legal_from q (squares_in (men_of q c Bishop))) + f (legal_from q (squares_in (men_of q c Rook)))
    + f (legal_from q (squares_in (men_of q c Queen))) + f (legal_from q (squares_in (men_of q c King)))
by_kinds q f c own adds =
    let whole : f (legal q) ≡ f (legal_from q (filter (λ s. is_of c (man_at q.men s)) squares)) =
    ap f (sym (legal_by_men q)) ∙ ap (λ (x : Color). f (legal_from q (squares_in (set_of (λ s. is_of x (man_at q.men s)))))) (sym own) ∙ ap (λ xs. f (legal_from q xs)) (squares_that (λ s. is_of c (man_at q.men s))) in
    let among = kinds_among q f c squares adds in
    let p = kind_all q f c Pawn in
    let n = kind_all q f c Knight in
    let b = kind_all q f c Bishop in
    let r = kind_all q f c Rook in
    let d = kind_all q f c Queen in
    let k = kind_all q f c King in
    omega arith

pub length_adds : Adds (λ ms. length ms)
length_adds = record { none = refl; both = λ a b. length-append a b }

-- a man of a side and a kind, as a man
pub man_here : (c : Color) (k : Kind) (o : Option Man) → is_man c k o ≡ true → o ≡ Some (record { color = c; kind = k })
man_here c k o h =
    let m = man_of o c k h in
    let color = m.color in
    let kind = m.kind in
    m.found ∙ (λ i. Some (record { color = color i; kind = kind i }))

-- on each square of such men one stands
pub each_man : (q : Board) (c : Color) (k : Kind) (t : ℕ) (set : List Bool) → set ≡ men_of q c k → Contains (squares_in set) t → man_at q.men t ≡ Some (record { color = c; kind = k })
each_man q c k t set e inside =
    let parts = Contains-filter_parts (has_square set) squares t inside in
    man_here c k (man_at q.men t) (sym (has-set_of (λ s. is_man c k (man_at q.men s)) t (Contains-squares_small t parts.0)) ∙ ap (λ (x : List Bool). has_square x t) (sym e) ∙ parts.1)

-- the legal moves of the men of one kind are not many
pub few_of_kind : (q : Board) (c : Color) (k : Kind) → c ≡ q.side → length (legal_from q (squares_in (men_of q c k))) ≤ 20480
few_of_kind q c k own =
    let all = by_kinds q (λ ms. length ms) c own length_adds in
    let few = few_legal q in
    one_of k all few
  where
    one_of : (k : Kind) → length (legal q) ≡ length (legal_from q (squares_in (men_of q c Pawn))) + length (legal_from q (squares_in (men_of q c Knight))) + length (legal_from q (squares_in (men_of q c Bishop))) + length (legal_from q (squares_in (men_of q c Rook)))
        + length (legal_from q (squares_in (men_of q c Queen))) + length (legal_from q (squares_in (men_of q c King))) → length (legal q) ≤ 20480 → length (legal_from q (squares_in (men_of q c k))) ≤ 20480
    one_of Pawn all few = omega (arith, all, few)
    one_of Knight all few = omega (arith, all, few)
    one_of Bishop all few = omega (arith, all, few)
    one_of Rook all few = omega (arith, all, few)
    one_of Queen all few = omega (arith, all, few)
    one_of King all few = omega (arith, all, few)
