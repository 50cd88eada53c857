-- The squares on which some man of a group is in reach.
use Rattle.std.specs.Prelude.{ℕ, ◌==◌, Bool, not, ◌&&◌, List}
use Rattle.std.specs.List.{list_any}
use Rattle.cha_board.specs.declared.men.Color.{Color}
use Rattle.cha_board.specs.declared.men.Kind.TheVariants.{King}
use Rattle.cha_board.specs.Men.{same_kind, is_man, is_non_king}
use Rattle.cha_board.specs.Board.{Board, man_at}
use Rattle.cha_board.specs.SquareSets.{set_of, has_square, set_common, has_no_square}
use Rattle.mob_sets.specs.Rows.{Row}
use Rattle.mob_check.specs.declared.groups.Group.{Group}
use Rattle.mob_check.specs.declared.groups.Group.TheVariants.{KingOf, MenOf, MenAs}

-- a row is of a group
unfoldable pub is_row_of : Board → Group → Row → Bool
is_row_of p (KingOf c) row = same_kind row.kind King && is_man c King (man_at p.men row.origin)
is_row_of p (MenOf c) row = is_non_king c (man_at p.men row.origin)
is_row_of p (MenAs c k) row = same_kind row.kind k && is_non_king c (man_at p.men row.origin)

-- a row of the group has the square
unfoldable pub reaches_by : Board → Group → ℕ → Row → Bool
reaches_by p group u row = is_row_of p group row && has_square row.squares u

-- some man of the group is in reach on u
unfoldable pub reaches : Board → List Row → Group → ℕ → Bool
reaches p rows group u = list_any (reaches_by p group u) rows

unfoldable pub reach_of : Board → List Row → Group → List Bool
reach_of p rows group = set_of (reaches p rows group)

-- a row of a man of c other than the king has one of these squares
unfoldable pub is_row_on : Board → Color → List Bool → Row → Bool
is_row_on p c on row = is_row_of p (MenOf c) row && not (has_no_square (set_common row.squares on))

-- it is a row of the man of o
unfoldable pub originates : Board → Color → List Bool → ℕ → Row → Bool
originates p c on o row = (o == row.origin) && is_row_on p c on row

-- the men of c, other than the king, that are in reach on one of these squares, by their origins
unfoldable pub origins_of : Board → List Row → Color → List Bool → List Bool
origins_of p rows c on = set_of (λ o. list_any (originates p c on o) rows)
