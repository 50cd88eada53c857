-- How a position is made from its parts (this project; PGN standard, 16.1.3, gives the parts).
use Rattle.std.specs.Prelude.{ℕ, not, ◌&&◌, if◌then◌else◌, List, Option, Some, None}
use Rattle.cha_board.specs.declared.men.Color.{Color}
use Rattle.cha_board.specs.declared.men.Color.TheVariants.{White, Black}
use Rattle.cha_board.specs.declared.men.Man.{Man}
use Rattle.cha_board.specs.declared.position.Rights.{Rights}
use Rattle.cha_board.specs.declared.build.BuildFault.{BuildFault}
use Rattle.cha_board.specs.declared.build.BuildFault.TheVariants.{Kings, PawnRank, OpponentInCheck}
use Rattle.cha_board.specs.Men.{other_color}
use Rattle.cha_board.specs.Board.{Board, has_one_king, has_pawn_at_end, in_check, has_right, rights_where, are_at_home, target_fits}

-- the first rule that men and a side to move break
unfoldable pub build_fault : List (Option Man) → Color → Option BuildFault
build_fault men side =
    if not (has_one_king men White && has_one_king men Black) then Some Kings
    else (if has_pawn_at_end men then Some PawnRank
    else (if in_check men (other_color side) then Some OpponentInCheck else None))

-- the rights whose king and rook are at home
unfoldable pub kept_rights : List (Option Man) → Rights → Rights
kept_rights men r = rights_where (λ c w. has_right r c w && are_at_home men c w)

-- the target, where a pawn may just have passed over it
unfoldable pub kept_target : List (Option Man) → Color → Option ℕ → Option ℕ
kept_target men side None = None
kept_target men side (Some s) = if target_fits men side s then Some s else None

-- the position that is built
unfoldable pub built : List (Option Man) → Color → Rights → Option ℕ → Board
built men side rights target = record {
  men = men;
  side = side;
  rights = kept_rights men rights;
  target = kept_target men side target;
}
