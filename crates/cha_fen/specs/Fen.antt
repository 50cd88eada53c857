-- The position of a text (PGN standard, 16.1).
use Rattle.std.specs.Prelude.{ℕ, ◌+◌, ◌==◌, Bool, true, false, ◌&&◌, if◌then◌else◌, List, [], ◌∷◌, length, Option, Some, None, Result, Ok, Err, nat_le}
use Rattle.std.specs.List.{list_all, count_by}
use Rattle.cha_list.specs.declared.classes.Class.TheVariants.{Digit}
use Rattle.cha_list.specs.Bytes.{in_class}
use Rattle.cha_board.specs.declared.men.Color.{Color}
use Rattle.cha_board.specs.declared.men.Color.TheVariants.{White, Black}
use Rattle.cha_board.specs.declared.men.Man.{Man}
use Rattle.cha_board.specs.declared.position.Rights.{Rights}
use Rattle.cha_board.specs.declared.build.BuildFault.{BuildFault}
use Rattle.cha_board.specs.declared.build.BuildFault.TheVariants as breaks
use Rattle.cha_board.specs.Board.{Board, no_rights}
use Rattle.cha_board.specs.Letters.{square_of}
use Rattle.cha_board.specs.Build.{build_fault, built}
use Rattle.cha_fen.specs.declared.faults.FenFault.{FenFault}
use Rattle.cha_fen.specs.declared.faults.FenFault.TheVariants.{Shape, Kings, PawnRank, OpponentInCheck}
use Rattle.cha_fen.specs.Fields.{fields}
use Rattle.cha_fen.specs.Placement.{placement_of}

-- the side to move: w or b (PGN standard, 16.1.3.2)
unfoldable pub side_of : List ℕ → Option Color
side_of (b ∷ []) = if b == 119 then Some White else (if b == 98 then Some Black else None)
side_of _ = None

-- how often a byte stands in a list
abbrev pub count_of : ℕ → List ℕ → ℕ
count_of wanted bytes = count_by (λ byte. byte == wanted) bytes

-- each byte is one of KQkq, and none stands twice
unfoldable pub are_rights : List ℕ → Bool
are_rights bytes =
    nat_le (count_of 75 bytes) 1 && nat_le (count_of 81 bytes) 1 && nat_le (count_of 107 bytes) 1 && nat_le (count_of 113 bytes) 1
    && (count_of 75 bytes + count_of 81 bytes + count_of 107 bytes + count_of 113 bytes == length bytes)

-- a single -
abbrev pub is_dash : List ℕ → Bool
is_dash (b ∷ []) = b == 45
is_dash _ = false

-- the castlings that are left: -, or letters of KQkq (PGN standard, 16.1.3.3; in any order: this project)
unfoldable pub rights_of : List ℕ → Option Rights
rights_of bytes =
    if is_dash bytes then Some no_rights
    else (if are_rights bytes then Some (record {
      white_king = count_of 75 bytes == 1;
      white_queen = count_of 81 bytes == 1;
      black_king = count_of 107 bytes == 1;
      black_queen = count_of 113 bytes == 1;
    }) else None)

-- a square as a target, if there is one
abbrev pub target_on : Option ℕ → Option (Option ℕ)
target_on None = None
target_on (Some s) = Some (Some s)

-- the square that a pawn has passed over: -, or a file's letter and a rank's digit (PGN standard, 16.1.3.4)
unfoldable pub target_of : List ℕ → Option (Option ℕ)
target_of (b ∷ []) = if b == 45 then Some None else None
target_of (b ∷ c ∷ []) = target_on (square_of b c)
target_of _ = None

-- none, one or two clocks, of digits (PGN standard, 16.1.3.5 and 16.1.3.6; that they may be left out: this project)
unfoldable pub are_clocks : List (List ℕ) → Bool
are_clocks [] = true
are_clocks (a ∷ []) = list_all (in_class Digit) a
are_clocks (a ∷ b ∷ []) = list_all (in_class Digit) a && list_all (in_class Digit) b
are_clocks _ = false

-- what the first four fields say
pub record Parts : Type 0 where
  pub men : List (Option Man)
  pub side : Color
  pub rights : Rights
  pub target : Option ℕ

-- the parts, if each field says one
abbrev pub parts_if : Option (List (Option Man)) → Option Color → Option Rights → Option (Option ℕ) → Option Parts
parts_if (Some men) (Some side) (Some rights) (Some target) = Some (record { men = men; side = side; rights = rights; target = target })
parts_if _ _ _ _ = None

-- the parts of four to six fields
unfoldable pub parts_of : List (List ℕ) → Option Parts
parts_of (men ∷ side ∷ rights ∷ target ∷ clocks) =
    if are_clocks clocks then parts_if (placement_of men) (side_of side) (rights_of rights) (target_of target) else None
parts_of _ = None

-- the fault of a text whose men and side to move are no valid position
abbrev pub fault_of : BuildFault → FenFault
fault_of breaks.Kings = Kings
fault_of breaks.PawnRank = PawnRank
fault_of breaks.OpponentInCheck = OpponentInCheck

-- a position, unless there is a fault
abbrev pub position_unless : Option BuildFault → Board → Result Board FenFault
position_unless None q = Ok q
position_unless (Some fault) q = Err (fault_of fault)

-- the position that is built of parts; Shape, if there are none
abbrev pub position_of : Option Parts → Result Board FenFault
position_of None = Err Shape
position_of (Some p) = position_unless (build_fault p.men p.side) (built p.men p.side p.rights p.target)

-- the position of a text, or its first fault: first the form, then kings, pawns and the king that may not be in check
unfoldable pub fen : List ℕ → Result Board FenFault
fen bytes = position_of (parts_of (fields bytes))
