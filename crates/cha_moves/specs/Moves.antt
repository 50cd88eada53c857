-- How men move, which moves are legal, and the position after a move (Laws of Chess, Article 3).
use Rattle.std.specs.Prelude.{ℕ, ◌+◌, ◌/◌, ◌==◌, Bool, true, false, not, ◌&&◌, ◌||◌, if◌then◌else◌, List, [], ◌∷◌, map, filter, Option, Some, None, is_none, slice_set}
use Rattle.std.specs.List.{flat_map}
use Rattle.cha_board.specs.declared.men.Color.{Color}
use Rattle.cha_board.specs.declared.men.Color.TheVariants.{White, Black}
use Rattle.cha_board.specs.declared.men.Kind.{Kind}
use Rattle.cha_board.specs.declared.men.Kind.TheVariants.{Pawn, Knight, Bishop, Rook, Queen, King}
use Rattle.cha_board.specs.declared.men.Man.{Man}
use Rattle.cha_board.specs.declared.position.Rights.{Rights}
use Rattle.cha_board.specs.declared.castling.Wing.{Wing}
use Rattle.cha_board.specs.declared.castling.Wing.TheVariants.{Kingside, Queenside}
use Rattle.cha_board.specs.Men.{other_color, same_color, same_kind, is_man}
use Rattle.cha_board.specs.Squares.{squares, rank_of, last_rank, ahead_of, files_apart, is_rank_ahead, aims_at}
use Rattle.cha_board.specs.Board.{Board, man_at, is_empty, is_clear, attacked, in_check, home_of, corner_of, crossing_of, goal_of, has_right, rights_where}
use Rattle.cha_moves.specs.Step.{Move}

-- the rank on which c's pawns begin, and the rank that a double step reaches
abbrev pub second_rank : Color → ℕ
second_rank White = 1
second_rank Black = 6

abbrev pub fourth_rank : Color → ℕ
fourth_rank White = 3
fourth_rank Black = 4

-- the square that a double step passes over
abbrev pub middle : ℕ → ℕ → ℕ
middle s t = (s + t) / 2

-- a pawn's step to the empty square in front of it (Article 3.7.1)
unfoldable pub is_step : Board → ℕ → ℕ → Bool
is_step q s t = (files_apart s t == 0) && is_rank_ahead q.side s t && is_empty q.men t

-- a pawn's double step from its second rank over empty squares (Article 3.7.2)
unfoldable pub is_double_step : Board → ℕ → ℕ → Bool
is_double_step q s t =
    (files_apart s t == 0) && (rank_of s == second_rank q.side) && (rank_of t == fourth_rank q.side)
    && is_empty q.men (middle s t) && is_empty q.men t

-- a pawn's capture, diagonally in front of it (Article 3.7.3)
unfoldable pub is_pawn_capture : Board → ℕ → ℕ → Bool
is_pawn_capture q s t = aims_at q.side Pawn s t && not (is_empty q.men t)

abbrev pub is_target : Option ℕ → ℕ → Bool
is_target None t = false
is_target (Some u) t = u == t

-- a pawn's capture en passant, onto the square that was passed over (Article 3.7.3.1)
unfoldable pub is_en_passant : Board → ℕ → ℕ → Bool
is_en_passant q s t = aims_at q.side Pawn s t && is_target q.target t

-- castling on a wing: the squares between king and rook are empty, and the king is not attacked where it stands, crosses and
-- arrives (Article 3.8.2)
unfoldable pub castles : Board → Wing → ℕ → ℕ → Bool
castles q w s t =
    let home = home_of q.side in
    let goal = goal_of q.side w in
    let enemy = other_color q.side in
    (s == home) && (t == goal) && has_right q.rights q.side w && is_clear q.men home (corner_of q.side w)
    && not (attacked q.men enemy home) && not (attacked q.men enemy (crossing_of q.side w)) && not (attacked q.men enemy goal)

-- a man of the side to move, of kind k on s, may go to t, as far as the way there is concerned (Articles 3.2 to 3.8)
unfoldable pub goes : Board → Kind → ℕ → ℕ → Bool
goes q Pawn s t = is_step q s t || is_double_step q s t || is_pawn_capture q s t || is_en_passant q s t
goes q King s t = aims_at q.side King s t || castles q Kingside s t || castles q Queenside s t
goes q k s t = aims_at q.side k s t && is_clear q.men s t

-- what stands on s is of the side to move and may go to t, whatever it becomes there
unfoldable pub goes_as : Board → ℕ → ℕ → Option Man → Bool
goes_as q s t None = false
goes_as q s t (Some man) = same_color man.color q.side && goes q man.kind s t

-- what a pawn may become (Article 3.7.3.3), in the order of the list of moves
abbrev pub promotions : List (Option Kind)
promotions = Some Queen ∷ Some Rook ∷ Some Bishop ∷ Some Knight ∷ []

abbrev pub is_promotion : Option Kind → Bool
is_promotion None = false
is_promotion (Some Pawn) = false
is_promotion (Some King) = false
is_promotion (Some k) = true

-- a pawn that reaches the last rank becomes another man, and nothing else does
unfoldable pub promotes_well : Color → Kind → ℕ → Option Kind → Bool
promotes_well c k t promotion =
    if same_kind k Pawn && (rank_of t == last_rank c) then is_promotion promotion else is_none promotion

-- no man of the mover (Article 3.1) and no king stands there
abbrev pub may_enter : Color → Option Man → Bool
may_enter c None = true
may_enter c (Some man) = not (same_color man.color c) && not (same_kind man.kind King)

-- the man on m.from, which is of the side to move, may make the move, whether or not its king is attacked afterwards
unfoldable pub is_pseudo_legal_as : Board → Move → Option Man → Bool
is_pseudo_legal_as q m None = false
is_pseudo_legal_as q m (Some man) =
    same_color man.color q.side && may_enter q.side (man_at q.men m.to)
    && goes q man.kind m.from m.to && promotes_well q.side man.kind m.to m.promotion

abbrev pub is_pseudo_legal : Board → Move → Bool
is_pseudo_legal q m = is_pseudo_legal_as q m (man_at q.men m.from)

-- the man that arrives
abbrev pub arriving : Option Man → Option Kind → Option Man
arriving man None = man
arriving None (Some k) = None
arriving (Some man) (Some k) = Some (record { color = man.color; kind = k })

-- the square of the pawn that a capture en passant onto t by c removes: the one ahead of t, as that pawn's side sees it
abbrev pub victim_of : Color → ℕ → ℕ
victim_of c t = ahead_of (other_color c) t

-- the men once the man on s has gone to t, where it shows as man
abbrev pub moved : List (Option Man) → ℕ → ℕ → Option Man → List (Option Man)
moved men s t man = slice_set (slice_set men s None) t man

-- the king of the side to move castles on a wing
abbrev pub king_castles : Board → Wing → Option Man → ℕ → ℕ → Bool
king_castles q w man s t = is_man q.side King man && castles q w s t

-- a pawn of the side to move captures en passant
abbrev pub captures_en_passant : Board → Option Man → ℕ → ℕ → Bool
captures_en_passant q man s t = is_man q.side Pawn man && is_en_passant q s t

abbrev pub rook_of : Color → Option Man
rook_of c = Some (record { color = c; kind = Rook })

-- the men once the rook of c has castled on a wing
abbrev pub rook_castled : List (Option Man) → Color → Wing → List (Option Man)
rook_castled men c w = moved men (corner_of c w) (crossing_of c w) (rook_of c)

-- the men after a move
unfoldable pub men_after : Board → Move → List (Option Man)
men_after q m =
    let man = man_at q.men m.from in
    let men = moved q.men m.from m.to (arriving man m.promotion) in
    if captures_en_passant q man m.from m.to then slice_set men (victim_of q.side m.to) None
    else (if king_castles q Kingside man m.from m.to then rook_castled men q.side Kingside
    else (if king_castles q Queenside man m.from m.to then rook_castled men q.side Queenside
    else men))

-- a move leaves or enters a square
abbrev pub touches : Move → ℕ → Bool
touches m s = (m.from == s) || (m.to == s)

-- a right stays until its king moves, or a move leaves or enters its rook's home (Article 3.8.2.1)
abbrev pub keeps_right : Rights → Move → Color → Wing → Bool
keeps_right r m c w = has_right r c w && not (touches m (home_of c)) && not (touches m (corner_of c w))

unfoldable pub rights_after : Rights → Move → Rights
rights_after r m = rights_where (keeps_right r m)

-- a double step sets the target to the square passed over, and every other move clears it
unfoldable pub target_after : Board → Move → Option ℕ
target_after q m =
    if is_man q.side Pawn (man_at q.men m.from) && is_double_step q m.from m.to then Some (middle m.from m.to) else None

-- the position after a move
unfoldable pub after : Board → Move → Board
after q m = record {
  men = men_after q m;
  side = other_color q.side;
  rights = rights_after q.rights m;
  target = target_after q m;
}

-- the man may go so, and its king is not attacked afterwards (Article 3.9.2)
unfoldable pub is_legal_in : Board → Move → Bool
is_legal_in q m = is_pseudo_legal q m && not (in_check (men_after q m) q.side)

-- all moves from s to t, by promotion: none, queen, rook, bishop, knight
abbrev pub moves_between : ℕ → ℕ → List Move
moves_between s t = map (λ k. record { from = s; to = t; promotion = k }) (None ∷ promotions)

-- all moves from s, by to
unfoldable pub moves_from : ℕ → List Move
moves_from s = flat_map (λ t. moves_between s t) squares

-- all moves, by from, then to, then promotion
unfoldable pub all_moves : List Move
all_moves = flat_map moves_from squares

-- the legal moves, in that order (Article 3.10.1)
unfoldable pub legal : Board → List Move
legal q = filter (is_legal_in q) all_moves

-- a capture or a pawn's move, en passant among them: men stand then as they never did before
abbrev pub is_zeroing : Board → Move → Bool
is_zeroing q m = is_man q.side Pawn (man_at q.men m.from) || not (is_empty q.men m.to)
