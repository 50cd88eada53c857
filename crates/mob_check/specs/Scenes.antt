-- What a search for a mate looks at, once for all squares of the two kings.
use Rattle.std.specs.Prelude.{Bool, List, length, ltb}
use Rattle.cha_board.specs.declared.men.Color.{Color}
use Rattle.cha_board.specs.declared.men.Kind.{Kind}
use Rattle.cha_board.specs.declared.men.Kind.TheVariants.{Pawn, Knight, Bishop, Rook, Queen, King}
use Rattle.cha_board.specs.Men.{other_color}
use Rattle.cha_board.specs.Board.{Board}
use Rattle.cha_board.specs.SquareSets.{set_of, squares_in, empty_set, set_joined}
use Rattle.mob_law.specs.Reach.{is_fixed}
use Rattle.mob_check.specs.Grounds.{has_own}
use Rattle.mob_sets.specs.Rows.{Row, SetRows, sets_of}
use Rattle.mob_check.specs.declared.groups.Group.TheVariants.{KingOf, MenOf, MenAs}
use Rattle.mob_check.specs.declared.scene.ByKind.{ByKind}
use Rattle.mob_check.specs.declared.scene.Scene.{Scene}
use Rattle.mob_check.specs.Reaches.{reach_of}

-- the squares on which men are in reach as a kind
abbrev pub squares_as : ByKind → Kind → List Bool
squares_as r Pawn = r.pawns
squares_as r Knight = r.knights
squares_as r Bishop = r.bishops
squares_as r Rook = r.rooks
squares_as r Queen = r.queens
squares_as r King = r.kings

-- the squares on which men are in reach, whatever they may be there
unfoldable pub all_in_reach : ByKind → List Bool
all_in_reach r = set_joined (set_joined (set_joined (set_joined (set_joined r.pawns r.knights) r.bishops) r.rooks) r.queens) r.kings

-- no man is in reach anywhere
abbrev pub reach_nowhere : ByKind
reach_nowhere = record { pawns = empty_set; knights = empty_set; bishops = empty_set; rooks = empty_set; queens = empty_set; kings = empty_set }

-- on more squares a man is in reach as a kind
abbrev pub reach_with : ByKind → Kind → List Bool → ByKind
reach_with r Pawn more = record { pawns = set_joined r.pawns more; knights = r.knights; bishops = r.bishops; rooks = r.rooks; queens = r.queens; kings = r.kings }
reach_with r Knight more = record { pawns = r.pawns; knights = set_joined r.knights more; bishops = r.bishops; rooks = r.rooks; queens = r.queens; kings = r.kings }
reach_with r Bishop more = record { pawns = r.pawns; knights = r.knights; bishops = set_joined r.bishops more; rooks = r.rooks; queens = r.queens; kings = r.kings }
reach_with r Rook more = record { pawns = r.pawns; knights = r.knights; bishops = r.bishops; rooks = set_joined r.rooks more; queens = r.queens; kings = r.kings }
reach_with r Queen more = record { pawns = r.pawns; knights = r.knights; bishops = r.bishops; rooks = r.rooks; queens = set_joined r.queens more; kings = r.kings }
reach_with r King more = record { pawns = r.pawns; knights = r.knights; bishops = r.bishops; rooks = r.rooks; queens = r.queens; kings = set_joined r.kings more }

unfoldable pub reach_by_kind : Board → List Row → Color → ByKind
reach_by_kind p rows c = record {
  pawns = reach_of p rows (MenAs c Pawn);
  knights = reach_of p rows (MenAs c Knight);
  bishops = reach_of p rows (MenAs c Bishop);
  rooks = reach_of p rows (MenAs c Rook);
  queens = reach_of p rows (MenAs c Queen);
  kings = reach_of p rows (MenAs c King);
}

-- a set has at most one square
unfoldable pub has_at_most_one : List Bool → Bool
has_at_most_one set = ltb (length (squares_in set)) 2

unfoldable pub scene_of : Board → SetRows → Color → Scene
scene_of p r w = record {
  fixed = set_of (is_fixed p (sets_of r));
  winner = w;
  one_man = has_at_most_one (set_of (has_own p w));
  men = reach_by_kind p r.rows w;
  winner_king = reach_of p r.rows (KingOf w);
  loser_king = reach_of p r.rows (KingOf (other_color w));
  loser_men = reach_of p r.rows (MenOf (other_color w));
  losers = reach_by_kind p r.rows (other_color w);
}
