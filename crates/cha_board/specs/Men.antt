-- Men: what a square may show.
use Rattle.std.specs.Prelude.{Bool, true, false, not, ◌&&◌, ◌||◌, Option, Some, None}
use Rattle.cha_board.specs.declared.men.Color.{Color}
use Rattle.cha_board.specs.declared.men.Color.TheVariants.{White, Black}
use Rattle.cha_board.specs.declared.men.Kind.{Kind}
use Rattle.cha_board.specs.declared.men.Kind.TheVariants.{Pawn, Knight, Bishop, Rook, Queen, King}
use Rattle.cha_board.specs.declared.men.Man.{Man}

-- the other side
abbrev pub other_color : Color → Color
other_color White = Black
other_color Black = White

abbrev pub same_color : Color → Color → Bool
same_color White White = true
same_color White Black = false
same_color Black White = false
same_color Black Black = true

abbrev pub same_kind : Kind → Kind → Bool
same_kind Pawn Pawn = true
same_kind Knight Knight = true
same_kind Bishop Bishop = true
same_kind Rook Rook = true
same_kind Queen Queen = true
same_kind King King = true
same_kind _ _ = false

-- nothing stands there
abbrev pub is_vacant : Option Man → Bool
is_vacant None = true
is_vacant (Some man) = false

-- a man of c stands there
abbrev pub is_of : Color → Option Man → Bool
is_of c None = false
is_of c (Some man) = same_color man.color c

-- a man of c and kind k stands there
abbrev pub is_man : Color → Kind → Option Man → Bool
is_man c k None = false
is_man c k (Some man) = same_color man.color c && same_kind man.kind k

-- a man of kind k stands there
abbrev pub is_kind : Kind → Option Man → Bool
is_kind k None = false
is_kind k (Some man) = same_kind man.kind k

-- a pawn stands there
abbrev pub is_pawn : Option Man → Bool
is_pawn man = is_man White Pawn man || is_man Black Pawn man

-- a man of c other than a king stands there
abbrev pub is_non_king : Color → Option Man → Bool
is_non_king c None = false
is_non_king c (Some man) = same_color man.color c && not (same_kind man.kind King)
