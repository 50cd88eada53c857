-- Sets without a mate: wherever the two kings may stand, no mate of the loser is in reach (this project; Laws of Chess,
-- Article 5.1.1, says what a mate is).
use Rattle.std.specs.Prelude.{◌≡◌, ◌≢◌, ℕ, ◌<◌, Bool, true, false, not, ◌&&◌, ◌||◌, Option, Some}
use Rattle.std.specs.List.{list_any}
use Rattle.cha_board.specs.declared.men.Color.{Color}
use Rattle.cha_board.specs.declared.men.Kind.{Kind}
use Rattle.cha_board.specs.declared.men.Kind.TheVariants.{Pawn, King}
use Rattle.cha_board.specs.Men.{other_color, same_kind, is_man, is_non_king}
use Rattle.cha_board.specs.Squares.{squares, aims_at, steps_apart, lies_between}
use Rattle.cha_board.specs.Board.{Board, man_at}
use Rattle.mob_law.specs.Reach.{steps_to, is_open, is_open_through}
use Rattle.mob_sets.specs.Mobility.{Sets}

-- the king of c is in reach on u
pub record KingOn (p : Board) (s : Sets) (c : Color) (u : ℕ) : Type 0 where
  pub origin : ℕ
  pub stood : is_man c King (man_at p.men origin) ≡ true
  pub reach : s.has origin King u ≡ true
  pub small : u < 64

-- some man of c other than the king is in reach on u as a k
pub record NonKingOn (p : Board) (s : Sets) (c : Color) (k : Kind) (u : ℕ) : Type 0 where
  pub origin : ℕ
  pub stood : is_non_king c (man_at p.men origin) ≡ true
  pub reach : s.has origin k u ≡ true
  pub small : u < 64

-- c has at most one man beside its king: any two squares with such a man are one
abbrev pub HasAtMostOneMan : Board → Color → Type 0
HasAtMostOneMan p c =
    (u v : ℕ) → is_non_king c (man_at p.men u) ≡ true → is_non_king c (man_at p.men v) ≡ true → u ≡ v

-- a man of the winner w, as a k on u, may give check to the king on ks (Laws of Chess, Article 3.9.1)
pub record Checks (p : Board) (s : Sets) (w : Color) (ks : ℕ) (k : Kind) (u : ℕ) : Type 0 where
  pub checker : NonKingOn p s w k u
  pub other : u ≢ ks
  pub aims : aims_at w k u ks ≡ true
  pub open_way : is_open p s u ks ≡ true

-- a man of the winner w, as a k on u, may attack n, a square next to the king on ks, and the king itself is not in its way
pub record Attacks (p : Board) (s : Sets) (w : Color) (ks n : ℕ) (k : Kind) (u : ℕ) : Type 0 where
  pub attacker : NonKingOn p s w k u
  pub not_there : u ≢ n
  pub other : u ≢ ks
  pub aims : aims_at w k u n ≡ true
  pub open_way : is_open_through p s ks u n ≡ true

-- A man of c, as a j on n, could at once end a check from u to the king on ks, by one step or a jump: it takes the man on u, or,
-- if it is no pawn, goes between.
unfoldable pub ends_check : Color → ℕ → ℕ → Kind → ℕ → Bool
ends_check c ks u j n =
    steps_to c j n u || (not (same_kind j Pawn) && list_any (λ t. lies_between u ks t && steps_to c j n t) squares)

-- the man of o, one of c other than the king, is in reach on some square next to ks
pub record MayStandNear (p : Board) (s : Sets) (c : Color) (ks o : ℕ) : Type 0 where
  pub stood : is_non_king c (man_at p.men o) ≡ true
  pub kind : Kind
  pub square : ℕ
  pub small : square < 64
  pub next : steps_apart ks square ≡ 1
  pub reach : s.has o kind square ≡ true

-- The king on ks may be kept from n, a square next to it, while a k on u gives check:
pub data Covered (p : Board) (s : Sets) (w : Color) (ks wk n : ℕ) (k : Kind) (u : ℕ) (counted : Option ℕ) : Type 0 where
  -- a man of its own may stand there, and a man is counted for n; where the winner has one man beside its king, the man on n is
  -- none that could end the check at once, since nothing can pin it,
  Blocked : (j : Kind) → NonKingOn p s (other_color w) j n → (HasAtMostOneMan p w → ends_check (other_color w) ks u j n ≡ false)
      → (o : ℕ) → counted ≡ Some o → Covered p s w ks wk n k u counted
  -- or the winner's king on wk is next to n,
  NextToKing : steps_apart wk n ≡ 1 → Covered p s w ks wk n k u counted
  -- or a man of the winner may attack n; where the winner has one man beside its king, that is the one that gives check
  Attacked : (j : Kind) (v : ℕ) → Attacks p s w ks n j v → (HasAtMostOneMan p w → (j ≡ k) × (v ≡ u))
      → Covered p s w ks wk n k u counted

-- A mate is not excluded with the loser's king on ks and the winner's on wk: some man may give check, and the king may be
-- kept from each square next to it. There are men enough for the squares on which its own men have to stand: for each of them
-- another man of the loser is counted that may stand on some square next to the king.
pub record Threat (p : Board) (s : Sets) (w : Color) (ks wk : ℕ) : Type 0 where
  pub loser : KingOn p s (other_color w) ks
  pub winner : KingOn p s w wk
  pub distinct : wk ≢ ks
  pub far : steps_apart ks wk ≢ 1
  pub kind : Kind
  pub square : ℕ
  pub checks : Checks p s w ks kind square
  pub counted : ℕ → Option ℕ
  pub covered : (n : ℕ) → n < 64 → steps_apart ks n ≡ 1 → Covered p s w ks wk n kind square (counted n)
  pub near : (n o : ℕ) → counted n ≡ Some o → MayStandNear p s (other_color w) ks o
  pub once : (n m o : ℕ) → counted n ≡ Some o → counted m ≡ Some o → n ≡ m

-- no squares of the two kings are a threat
abbrev pub HasNoMate : Board → Sets → Color → Type 0
HasNoMate p s w = (ks wk : ℕ) → Threat p s w ks wk → ⊥
