-- Steps of one square and jumps. A piece that goes further along a line goes there step by step.
use Rattle.std.specs.Prelude.{ℕ, ◌==◌, Bool, not, ◌&&◌, List}
use Rattle.std.specs.List.{list_any}
use Rattle.cha_board.specs.declared.men.Color.{Color}
use Rattle.cha_board.specs.declared.men.Kind.{Kind}
use Rattle.cha_board.specs.declared.men.Kind.TheVariants.{Pawn}
use Rattle.cha_board.specs.Men.{same_kind}
use Rattle.cha_board.specs.Squares.{squares, rank_of, last_rank}
use Rattle.cha_board.specs.SquareSets.{set_of, has_square}
use Rattle.mob_law.specs.Reach.{steps_to}

-- from some square of a set a k of c aims at t by one step or a jump
unfoldable pub is_stepped_to : Color → Kind → List Bool → ℕ → Bool
is_stepped_to c k set t = list_any (λ u. has_square set u && steps_to c k u t) squares

-- the squares at which it aims so
abbrev pub spread_of : Color → Kind → List Bool → List Bool
spread_of c k set = set_of (is_stepped_to c k set)

-- a man that enters t as a k stays a k there: it is no pawn on its last rank
unfoldable pub stays : Color → Kind → ℕ → Bool
stays c k t = not (same_kind k Pawn && (rank_of t == last_rank c))
