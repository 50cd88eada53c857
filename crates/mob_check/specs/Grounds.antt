-- What the rules look at besides the entry at hand: what is fixed, guarded and reached in some sets.
use Rattle.std.specs.Prelude.{ℕ, Bool, ◌&&◌}
use Rattle.std.specs.List.{list_any}
use Rattle.cha_board.specs.declared.men.Color.{Color}
use Rattle.cha_board.specs.declared.men.Color.TheVariants.{White, Black}
use Rattle.cha_board.specs.declared.men.Kind.{Kind}
use Rattle.cha_board.specs.Men.{same_color, is_man, is_non_king}
use Rattle.cha_board.specs.Squares.{squares}
use Rattle.cha_board.specs.SquareSets.{set_of}
use Rattle.cha_board.specs.Board.{Board, man_at}
use Rattle.cha_moves.specs.Moves.{is_target}
use Rattle.mob_law.specs.Reach.{is_fixed, steps_to, is_guarded}
use Rattle.mob_sets.specs.Mobility.{Sets}
use Rattle.mob_sets.specs.Rows.{kinds}
use Rattle.mob_check.specs.declared.ground.Ground.{Ground}
use Rattle.mob_check.specs.declared.ground.SideGround.{SideGround}

-- the man of o, one of c other than the king, is in reach on t
unfoldable pub reaches_from : Board → Sets → Color → ℕ → ℕ → Bool
reaches_from p s c t o = is_non_king c (man_at p.men o) && list_any (λ k. s.has o k t) kinds

unfoldable pub is_reached : Board → Sets → Color → ℕ → Bool
is_reached p s c t = list_any (reaches_from p s c t) squares

-- a man of c other than the king stands on t
unfoldable pub has_own : Board → Color → ℕ → Bool
has_own p c t = is_non_king c (man_at p.men t)

-- c may capture en passant onto t at once
unfoldable pub is_target_for : Board → Color → ℕ → Bool
is_target_for p c t = is_target p.target t && same_color c p.side

-- a fixed man of c and kind k attacks t, whatever stands elsewhere
unfoldable pub guards_with : Board → Sets → Color → Kind → ℕ → Bool
guards_with p s c k t = list_any (λ f. is_man c k (man_at p.men f) && is_fixed p s f && steps_to c k f t) squares

unfoldable pub side_ground_of : Board → Sets → Color → SideGround
side_ground_of p s c = record {
  men = set_of (has_own p c);
  reach = set_of (is_reached p s c);
  guards = set_of (is_guarded p s c);
  target = set_of (is_target_for p c);
}

unfoldable pub ground_of : Board → Sets → Ground
ground_of p s = record {
  fixed = set_of (is_fixed p s);
  white = side_ground_of p s White;
  black = side_ground_of p s Black;
}

-- the part of a side
abbrev pub side_in : Ground → Color → SideGround
side_in g White = g.white
side_in g Black = g.black
