-- Whether a mate is in reach, as tests. `ks` is the loser's king's square, `wk` the winner's, and `seen` the fixed squares
-- without ks, so that the king is not in the way of what attacks the squares behind it.
use Rattle.std.specs.Prelude.{ℕ, ◌==◌, Bool, not, ◌&&◌, ◌||◌, if◌then◌else◌, List, length, leb}
use Rattle.std.specs.List.{list_any}
use Rattle.cha_board.specs.declared.men.Color.{Color}
use Rattle.cha_board.specs.declared.men.Kind.{Kind}
use Rattle.cha_board.specs.declared.men.Kind.TheVariants.{Pawn}
use Rattle.cha_board.specs.Men.{other_color, same_kind}
use Rattle.cha_board.specs.Squares.{squares, steps_apart, lies_between}
use Rattle.cha_board.specs.Board.{Board}
use Rattle.cha_board.specs.Aims.{aims_over}
use Rattle.cha_board.specs.SquareSets.{set_of, has_square, squares_in, set_without, is_subset}
use Rattle.mob_law.specs.Threats.{ends_check}
use Rattle.mob_sets.specs.Rows.{Row, kinds}
use Rattle.mob_check.specs.declared.ring.Ring.{Ring}
use Rattle.mob_check.specs.declared.scene.Scene.{Scene}
use Rattle.mob_check.specs.Nearness.{next_to}
use Rattle.mob_check.specs.Reaches.{origins_of}
use Rattle.mob_check.specs.Scenes.{squares_as}

-- a man of the winner, as a k on u, may give check to the king on ks
unfoldable pub checks_as : Scene → ℕ → ℕ → Kind → Bool
checks_as scene ks u k = has_square (squares_as scene.men k) u && aims_over scene.winner k u scene.fixed ks

unfoldable pub checks_from : Scene → ℕ → ℕ → Bool
checks_from scene ks u = list_any (checks_as scene ks u) kinds

unfoldable pub has_check : Scene → ℕ → Bool
has_check scene ks = list_any (checks_from scene ks) squares

abbrev pub seen_through : Scene → ℕ → List Bool
seen_through scene ks = set_without scene.fixed ks

-- a k of w on u attacks n, a square next to ks
unfoldable pub strikes : Color → List Bool → ℕ → ℕ → Kind → ℕ → Bool
strikes w seen ks u k n = (steps_apart ks n == 1) && aims_over w k u seen n

-- the squares that it attacks
unfoldable pub struck_by : Color → List Bool → ℕ → ℕ → Kind → List Bool
struck_by w seen ks u k = set_of (strikes w seen ks u k)

-- a man of the winner, as a k on u, may do so
unfoldable pub strikes_as : Scene → List Bool → ℕ → ℕ → ℕ → Kind → Bool
strikes_as scene seen ks n u k = has_square (squares_as scene.men k) u && strikes scene.winner seen ks u k n

-- a man of the winner that is not on ks may
unfoldable pub strikes_from : Scene → List Bool → ℕ → ℕ → ℕ → Bool
strikes_from scene seen ks n u = not (u == ks) && list_any (strikes_as scene seen ks n u) kinds

-- the squares that some man may attack
unfoldable pub struck : Scene → List Bool → ℕ → List Bool
struck scene seen ks = set_of (λ n. list_any (strikes_from scene seen ks n) squares)

-- the squares next to ks that are left to its king: they are neither struck nor next to the king on wk
unfoldable pub is_left : List Bool → ℕ → ℕ → ℕ → Bool
is_left struck ks wk n = (steps_apart ks n == 1) && not (has_square struck n || (steps_apart wk n == 1))

abbrev pub left_squares : List Bool → ℕ → ℕ → List Bool
left_squares struck ks wk = set_of (is_left struck ks wk)

-- the loser's men may stand on all of these squares, and are as many
unfoldable pub is_filled : Ring → List Bool → Bool
is_filled ring left = is_subset left ring.blockers && leb (length (squares_in left)) ring.men

-- the winner's king may stand on wk and shut in the king on ks
unfoldable pub shuts_from : Scene → Ring → ℕ → ℕ → Bool
shuts_from scene ring ks wk =
    has_square scene.winner_king wk && not (wk == ks) && not (steps_apart ks wk == 1) && is_filled ring (left_squares ring.struck ks wk)

unfoldable pub may_shut : Scene → Ring → ℕ → Bool
may_shut scene ring ks = list_any (shuts_from scene ring ks) squares

-- a mate with several men: one gives check, and all of them keep the king in
unfoldable pub mates_with_all : Scene → List Bool → ℕ → ℕ → Bool
mates_with_all scene seen men ks =
    has_check scene ks && may_shut scene (record { struck = struck scene seen ks; blockers = scene.loser_men; men = men }) ks

-- a check from u to the king on ks is ended on t by a man of kind k: on u, or between, if it is no pawn
unfoldable pub ends_at : Kind → ℕ → ℕ → ℕ → Bool
ends_at k ks u t = (t == u) || (not (same_kind k Pawn) && lies_between u ks t)

unfoldable pub check_ends : Kind → ℕ → ℕ → List Bool
check_ends k ks u = set_of (ends_at k ks u)

-- a man of the loser's, as a j on n, could not at once end a check from u
unfoldable pub stays_as : Scene → ℕ → ℕ → ℕ → Kind → Bool
stays_as scene ks u n j = has_square (squares_as scene.losers j) n && not (ends_check (other_color scene.winner) ks u j n)

-- the squares on which such a man may stand
unfoldable pub stays_on : Scene → ℕ → ℕ → List Bool
stays_on scene ks u = set_of (λ n. list_any (stays_as scene ks u n) kinds)

-- what keeps the king on ks in while the winner's only man, a k on u, gives check
unfoldable pub ring_of_one : Scene → List Bool → ℕ → ℕ → ℕ → Kind → Ring
ring_of_one scene seen men ks u k = record { struck = struck_by scene.winner seen ks u k; blockers = stays_on scene ks u; men = men }

-- a mate with one man: the same entry of it gives check and keeps the king in
unfoldable pub mates_as : Scene → List Bool → ℕ → ℕ → ℕ → Kind → Bool
mates_as scene seen men ks u k = checks_as scene ks u k && may_shut scene (ring_of_one scene seen men ks u k) ks

unfoldable pub mates_from : Scene → List Bool → ℕ → ℕ → ℕ → Bool
mates_from scene seen men ks u = list_any (mates_as scene seen men ks u) kinds

unfoldable pub mates_with_one : Scene → List Bool → ℕ → ℕ → Bool
mates_with_one scene seen men ks = list_any (mates_from scene seen men ks) squares

-- how many men of the loser may stand next to ks
unfoldable pub men_near : Board → List Row → Color → ℕ → ℕ
men_near p rows w ks = length (squares_in (origins_of p rows (other_color w) (next_to ks)))

-- a mate on ks is in reach, with so many men of the loser's next to it
unfoldable pub mates_among : Scene → List Bool → ℕ → ℕ → Bool
mates_among scene seen men ks = if scene.one_man then mates_with_one scene seen men ks else mates_with_all scene seen men ks

unfoldable pub may_mate_on : Board → List Row → Scene → ℕ → Bool
may_mate_on p rows scene ks =
    has_square scene.loser_king ks && mates_among scene (seen_through scene ks) (men_near p rows scene.winner ks) ks

unfoldable pub may_mate : Board → List Row → Scene → Bool
may_mate p rows scene = list_any (may_mate_on p rows scene) squares
