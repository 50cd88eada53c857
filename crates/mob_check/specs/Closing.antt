-- The rules of closed sets on a ground as tests of sets of squares, for each man and each kind.
use Rattle.std.specs.Prelude.{ℕ, Bool, true, ◌&&◌, List, Option, Some, None}
use Rattle.std.specs.List.{list_all}
use Rattle.cha_board.specs.declared.men.Color.{Color}
use Rattle.cha_board.specs.declared.men.Kind.{Kind}
use Rattle.cha_board.specs.declared.men.Kind.TheVariants.{Knight, Bishop, Rook, Queen}
use Rattle.cha_board.specs.declared.men.Man.{Man}
use Rattle.cha_board.specs.Board.{Board, man_at}
use Rattle.cha_board.specs.SquareSets.{set_of, set_common, is_subset}
use Rattle.mob_sets.specs.Mobility.{Sets}
use Rattle.mob_sets.specs.Rows.{SetRows, kinds, sets_of}
use Rattle.mob_check.specs.declared.ground.Ground.{Ground}
use Rattle.mob_check.specs.Rules.{comes_on, ends_on, is_freed}

-- the squares on which the man of o is in reach as a k, and as each kind that a pawn may become
abbrev pub row_of : Sets → ℕ → Kind → List Bool
row_of s o k = set_of (s.has o k)

abbrev pub promoted : Sets → ℕ → List Bool
promoted s o = set_common (set_common (set_common (row_of s o Queen) (row_of s o Rook)) (row_of s o Bishop)) (row_of s o Knight)

-- the rules for the man of o, of colour c, as a k
unfoldable pub row_holds : Ground → SetRows → ℕ → Color → Kind → Bool
row_holds g r o c k =
    let row = row_of (sets_of r) o k in
    is_subset (set_of (comes_on g c k row)) row
    && is_subset (set_of (ends_on g c k row)) (promoted (sets_of r) o)
    && is_subset (set_of (is_freed g o c k row)) r.loose

-- the rules for what stands on o
unfoldable pub man_holds : Ground → SetRows → ℕ → Option Man → Bool
man_holds g r o None = true
man_holds g r o (Some man) = (sets_of r).has o man.kind o && list_all (row_holds g r o man.color) kinds

unfoldable pub holds_at : Board → Ground → SetRows → ℕ → Bool
holds_at p g r o = man_holds g r o (man_at p.men o)
