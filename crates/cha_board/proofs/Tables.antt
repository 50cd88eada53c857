-- The tables of what men aim at on an empty board, and of rays, as computation shows them.
use Rattle.std.proofs.Common.{◌≡◌, ℕ, ◌<◌, ◌-◌, ◌+◌, ◌^◌, Bool, true, false, not, ◌==◌, ◌||◌, List, slice_index, bit_and, bit_or, refl, sym, ap, ◌∙◌}
use Rattle.std.specs.List.{list_all}
use Rattle.std.specs.Int.{bit_at}
use Rattle.std.proofs.lemmas.Bool.{eqb-true}
use Rattle.cha_board.specs.declared.men.Color.{Color}
use Rattle.cha_board.specs.declared.men.Color.TheVariants.{White, Black}
use Rattle.cha_board.specs.declared.men.Kind.{Kind}
use Rattle.cha_board.specs.declared.men.Kind.TheVariants.{Pawn, Knight, Bishop, Rook, Queen, King}
use Rattle.cha_board.specs.declared.leaps.TheConstants.{KNIGHT, KING, WHITE_PAWN, BLACK_PAWN, BISHOP, ROOK}
use Rattle.cha_board.specs.declared.rays.TheConstants.{NORTH, EAST, NORTH_EAST, NORTH_WEST, SOUTH, WEST, SOUTH_EAST, SOUTH_WEST}
use Rattle.cha_board.specs.Squares.{squares, files_apart, ranks_apart, steps_apart, is_straight, is_diagonal, is_line, is_rank_ahead, aims_at, is_within, lies_between}
use Rattle.cha_board.specs.SquareSets.{set_of, has_square, set_of_bits, bits_of_set, set_joined}
use Rattle.cha_board.proofs.SetLaws.{set_of_bits-bits_of_set, same_set, has-set_of}
use Rattle.cha_board.specs.Men.{other_color}
use Rattle.cha_board.proofs.Scans.{all_squares_at, pair_at}
use Rattle.cha_board.proofs.SetBits.{shown_at}
use Rattle.cha_board.proofs.Betweens.{between_bits}

-- what a table has for a square is the number of the squares at which a man aims
aim_test : List ℕ → Color → Kind → ℕ → Bool
aim_test table c k s = slice_index table s == bits_of_set (set_of (aims_at c k s))

aim_entry : (table : List ℕ) (c : Color) (k : Kind) → list_all (aim_test table c k) squares ≡ true → (s : ℕ) → s < 64 → slice_index table s ≡ bits_of_set (set_of (aims_at c k s))
unfolding aim_test
aim_entry table c k right s small = eqb-true _ _ (all_squares_at (aim_test table c k) s right small)

aim_shown : (table : List ℕ) (c : Color) (k : Kind) → list_all (aim_test table c k) squares ≡ true → (s : ℕ) → s < 64 → set_of_bits (slice_index table s) ≡ set_of (aims_at c k s)
aim_shown table c k right s small = ap set_of_bits (aim_entry table c k right s small) ∙ set_of_bits-bits_of_set (aims_at c k s)

knight_table : list_all (aim_test KNIGHT White Knight) squares ≡ true
unfolding aim_test bits_of_set aims_at files_apart ranks_apart squares
knight_table = refl

king_table : list_all (aim_test KING White King) squares ≡ true
unfolding aim_test bits_of_set aims_at steps_apart files_apart ranks_apart squares
king_table = refl

white_pawn_table : list_all (aim_test WHITE_PAWN White Pawn) squares ≡ true
unfolding aim_test bits_of_set aims_at is_rank_ahead files_apart ranks_apart squares
white_pawn_table = refl

black_pawn_table : list_all (aim_test BLACK_PAWN Black Pawn) squares ≡ true
unfolding aim_test bits_of_set aims_at is_rank_ahead files_apart ranks_apart squares
black_pawn_table = refl

bishop_table : list_all (aim_test BISHOP White Bishop) squares ≡ true
unfolding aim_test bits_of_set aims_at is_diagonal files_apart ranks_apart squares
bishop_table = refl

rook_table : list_all (aim_test ROOK White Rook) squares ≡ true
unfolding aim_test bits_of_set aims_at is_straight files_apart ranks_apart squares
rook_table = refl

pub knight_shown : (c : Color) (s : ℕ) → s < 64 → set_of_bits (slice_index KNIGHT s) ≡ set_of (aims_at c Knight s)
unfolding aims_at
knight_shown c s small = aim_shown KNIGHT White Knight knight_table s small

pub king_shown : (c : Color) (s : ℕ) → s < 64 → set_of_bits (slice_index KING s) ≡ set_of (aims_at c King s)
unfolding aims_at
king_shown c s small = aim_shown KING White King king_table s small

pub white_pawn_shown : (s : ℕ) → s < 64 → set_of_bits (slice_index WHITE_PAWN s) ≡ set_of (aims_at White Pawn s)
white_pawn_shown s small = aim_shown WHITE_PAWN White Pawn white_pawn_table s small

pub black_pawn_shown : (s : ℕ) → s < 64 → set_of_bits (slice_index BLACK_PAWN s) ≡ set_of (aims_at Black Pawn s)
black_pawn_shown s small = aim_shown BLACK_PAWN Black Pawn black_pawn_table s small

pub bishop_shown : (c : Color) (s : ℕ) → s < 64 → set_of_bits (slice_index BISHOP s) ≡ set_of (aims_at c Bishop s)
unfolding aims_at
bishop_shown c s small = aim_shown BISHOP White Bishop bishop_table s small

pub rook_shown : (c : Color) (s : ℕ) → s < 64 → set_of_bits (slice_index ROOK s) ≡ set_of (aims_at c Rook s)
unfolding aims_at
rook_shown c s small = aim_shown ROOK White Rook rook_table s small

-- the four rays of a line of two directions are what a man aims at
rays_test : List ℕ → List ℕ → List ℕ → List ℕ → Kind → ℕ → Bool
rays_test a b c d k s = bit_or (bit_or (slice_index a s) (slice_index b s)) (bit_or (slice_index c s) (slice_index d s)) == bits_of_set (set_of (aims_at White k s))

rook_rays : list_all (rays_test NORTH EAST SOUTH WEST Rook) squares ≡ true
unfolding rays_test bits_of_set aims_at is_straight files_apart ranks_apart squares
rook_rays = refl

bishop_rays : list_all (rays_test NORTH_EAST NORTH_WEST SOUTH_EAST SOUTH_WEST Bishop) squares ≡ true
unfolding rays_test bits_of_set aims_at is_diagonal files_apart ranks_apart squares
bishop_rays = refl

pub rook_from_rays : (s : ℕ) → s < 64 → bit_or (bit_or (slice_index NORTH s) (slice_index EAST s)) (bit_or (slice_index SOUTH s) (slice_index WEST s)) ≡ bits_of_set (set_of (aims_at White Rook s))
unfolding rays_test
rook_from_rays s small = eqb-true _ _ (all_squares_at (rays_test NORTH EAST SOUTH WEST Rook) s rook_rays small)

pub bishop_from_rays : (s : ℕ) → s < 64
    → bit_or (bit_or (slice_index NORTH_EAST s) (slice_index NORTH_WEST s)) (bit_or (slice_index SOUTH_EAST s) (slice_index SOUTH_WEST s)) ≡ bits_of_set (set_of (aims_at White Bishop s))
unfolding rays_test
bishop_from_rays s small = eqb-true _ _ (all_squares_at (rays_test NORTH_EAST NORTH_WEST SOUTH_EAST SOUTH_WEST Bishop) s bishop_rays small)

-- on a ray that goes up, what lies between its square and t are its squares before t
pub up_test : List ℕ → ℕ → ℕ → Bool
up_test ray s t = not (bit_at (slice_index ray s) t == 1) || (between_bits s t == bit_and (slice_index ray s) (2 ^ t - 1))

pub down_test : List ℕ → ℕ → ℕ → Bool
down_test ray s t = not (bit_at (slice_index ray s) t == 1) || (between_bits s t == bit_and (slice_index ray s) (2 ^ 64 - 2 ^ (t + 1)))

-- a table whose rays go up, and one whose rays go down
abbrev pub GoesUp : List ℕ → Type 0
GoesUp ray = list_all (λ s. list_all (λ t. up_test ray s t) squares) squares ≡ true

abbrev pub GoesDown : List ℕ → Type 0
GoesDown ray = list_all (λ s. list_all (λ t. down_test ray s t) squares) squares ≡ true

pub north_up : GoesUp NORTH
unfolding up_test between_bits bits_of_set lies_between is_within is_straight is_diagonal files_apart ranks_apart squares
north_up = refl

pub east_up : GoesUp EAST
unfolding up_test between_bits bits_of_set lies_between is_within is_straight is_diagonal files_apart ranks_apart squares
east_up = refl

pub north_east_up : GoesUp NORTH_EAST
unfolding up_test between_bits bits_of_set lies_between is_within is_straight is_diagonal files_apart ranks_apart squares
north_east_up = refl

pub north_west_up : GoesUp NORTH_WEST
unfolding up_test between_bits bits_of_set lies_between is_within is_straight is_diagonal files_apart ranks_apart squares
north_west_up = refl

pub south_down : GoesDown SOUTH
unfolding down_test between_bits bits_of_set lies_between is_within is_straight is_diagonal files_apart ranks_apart squares
south_down = refl

pub west_down : GoesDown WEST
unfolding down_test between_bits bits_of_set lies_between is_within is_straight is_diagonal files_apart ranks_apart squares
west_down = refl

pub south_east_down : GoesDown SOUTH_EAST
unfolding down_test between_bits bits_of_set lies_between is_within is_straight is_diagonal files_apart ranks_apart squares
south_east_down = refl

pub south_west_down : GoesDown SOUTH_WEST
unfolding down_test between_bits bits_of_set lies_between is_within is_straight is_diagonal files_apart ranks_apart squares
south_west_down = refl

or_first : (a b : Bool) → (not a || b) ≡ true → a ≡ true → b ≡ true
or_first true b h e = h
or_first false b h e = cc

pub before_on_ray : (ray : List ℕ) → GoesUp ray → (s t : ℕ) → s < 64 → t < 64 → (bit_at (slice_index ray s) t == 1) ≡ true → between_bits s t ≡ bit_and (slice_index ray s) (2 ^ t - 1)
unfolding up_test
before_on_ray ray right s t small small' on =
    eqb-true _ _ (or_first _ _ (pair_at (up_test ray) right s t small small') on)

pub behind_on_ray : (ray : List ℕ) → GoesDown ray → (s t : ℕ) → s < 64 → t < 64 → (bit_at (slice_index ray s) t == 1) ≡ true → between_bits s t ≡ bit_and (slice_index ray s) (2 ^ 64 - 2 ^ (t + 1))
unfolding down_test
behind_on_ray ray right s t small small' on =
    eqb-true _ _ (or_first _ _ (pair_at (down_test ray) right s t small small') on)

pub queen_shown : (c : Color) (s : ℕ) → set_joined (set_of (aims_at c Rook s)) (set_of (aims_at c Bishop s)) ≡ set_of (aims_at c Queen s)
unfolding set_joined aims_at is_line
queen_shown c s =
    same_set (λ t. has_square (set_of (aims_at c Rook s)) t || has_square (set_of (aims_at c Bishop s)) t) (aims_at c Queen s) (λ t small.
    rw (has-set_of (aims_at c Rook s) t small, has-set_of (aims_at c Bishop s) t small) refl)

-- no square lies between those of a man that leaps
leap_test : Color → Kind → ℕ → ℕ → Bool
leap_test c k s t = not (aims_at c k s t) || (between_bits s t == 0)

leaps : Color → Kind → Bool
leaps c k = list_all (λ s. list_all (λ t. leap_test c k s t) squares) squares

leap_of : (c : Color) (k : Kind) → leaps c k ≡ true → (s t : ℕ) → s < 64 → t < 64 → aims_at c k s t ≡ true → between_bits s t ≡ 0
unfolding leaps leap_test
leap_of c k right s t small small' on =
    eqb-true _ _ (or_first _ _ (pair_at (leap_test c k) right s t small small') on)

white_pawn_leaps : leaps White Pawn ≡ true
unfolding leaps leap_test aims_at between_bits bits_of_set lies_between is_within is_straight is_diagonal is_rank_ahead files_apart ranks_apart squares
white_pawn_leaps = refl

black_pawn_leaps : leaps Black Pawn ≡ true
unfolding leaps leap_test aims_at between_bits bits_of_set lies_between is_within is_straight is_diagonal is_rank_ahead files_apart ranks_apart squares
black_pawn_leaps = refl

knight_leaps : leaps White Knight ≡ true
unfolding leaps leap_test aims_at between_bits bits_of_set lies_between is_within is_straight is_diagonal files_apart ranks_apart squares
knight_leaps = refl

king_leaps : leaps White King ≡ true
unfolding leaps leap_test aims_at between_bits bits_of_set lies_between is_within is_straight is_diagonal steps_apart files_apart ranks_apart squares
king_leaps = refl

pub pawn_leap : (c : Color) (s t : ℕ) → s < 64 → t < 64 → aims_at c Pawn s t ≡ true → between_bits s t ≡ 0
pawn_leap White s t small small' on = leap_of White Pawn white_pawn_leaps s t small small' on
pawn_leap Black s t small small' on = leap_of Black Pawn black_pawn_leaps s t small small' on

pub knight_leap : (c : Color) (s t : ℕ) → s < 64 → t < 64 → aims_at c Knight s t ≡ true → between_bits s t ≡ 0
unfolding aims_at
knight_leap c s t small small' on = leap_of White Knight knight_leaps s t small small' on

pub king_leap : (c : Color) (s t : ℕ) → s < 64 → t < 64 → aims_at c King s t ≡ true → between_bits s t ≡ 0
unfolding aims_at
king_leap c s t small small' on = leap_of White King king_leaps s t small small' on

-- two tables of which one has t for s where the other has s for t
mirror_test : List ℕ → List ℕ → ℕ → ℕ → Bool
mirror_test a b s t = bit_at (slice_index a s) t == bit_at (slice_index b t) s

mirrored : List ℕ → List ℕ → Bool
mirrored a b = list_all (λ s. list_all (λ t. mirror_test a b s t) squares) squares

mirror_of : (a b : List ℕ) → mirrored a b ≡ true → (s t : ℕ) → s < 64 → t < 64 → has_square (set_of_bits (slice_index a s)) t ≡ has_square (set_of_bits (slice_index b t)) s
unfolding mirrored mirror_test
mirror_of a b right s t small small' =
    shown_at (slice_index a s) t small' ∙ ap (λ x. x == 1) (eqb-true _ _ (pair_at (mirror_test a b) right s t small small'))
    ∙ sym (shown_at (slice_index b t) s small)

pawn_mirror : mirrored WHITE_PAWN BLACK_PAWN ≡ true
unfolding mirrored mirror_test squares
pawn_mirror = refl

knight_mirror : mirrored KNIGHT KNIGHT ≡ true
unfolding mirrored mirror_test squares
knight_mirror = refl

king_mirror : mirrored KING KING ≡ true
unfolding mirrored mirror_test squares
king_mirror = refl

bishop_mirror : mirrored BISHOP BISHOP ≡ true
unfolding mirrored mirror_test squares
bishop_mirror = refl

rook_mirror : mirrored ROOK ROOK ≡ true
unfolding mirrored mirror_test squares
rook_mirror = refl

aims_back : (a b : List ℕ) (c d : Color) (k : Kind) (s t : ℕ) → mirrored a b ≡ true → s < 64 → t < 64 → set_of_bits (slice_index a s) ≡ set_of (aims_at c k s) → set_of_bits (slice_index b t) ≡ set_of (aims_at d k t)
    → aims_at d k t s ≡ aims_at c k s t
aims_back a b c d k s t right small small' shown shown' =
    sym (has-set_of (aims_at d k t) s small) ∙ ap (λ set. has_square set s) (sym shown') ∙ sym (mirror_of a b right s t small small') ∙ ap (λ set. has_square set t) shown ∙ has-set_of (aims_at c k s) t small'

bishop_back : (c d : Color) (s t : ℕ) → s < 64 → t < 64 → aims_at d Bishop t s ≡ aims_at c Bishop s t
bishop_back c d s t small small' = aims_back BISHOP BISHOP c d Bishop s t bishop_mirror small small' (bishop_shown c s small) (bishop_shown d t small')

rook_back : (c d : Color) (s t : ℕ) → s < 64 → t < 64 → aims_at d Rook t s ≡ aims_at c Rook s t
rook_back c d s t small small' = aims_back ROOK ROOK c d Rook s t rook_mirror small small' (rook_shown c s small) (rook_shown d t small')

either_at : (c : Color) (s t : ℕ) → t < 64 → has_square (set_joined (set_of (aims_at c Rook s)) (set_of (aims_at c Bishop s))) t ≡ (aims_at c Rook s t || aims_at c Bishop s t)
unfolding set_joined
either_at c s t small =
    has-set_of (λ t. has_square (set_of (aims_at c Rook s)) t || has_square (set_of (aims_at c Bishop s)) t) t small ∙ rw (has-set_of (aims_at c Rook s) t small, has-set_of (aims_at c Bishop s) t small) refl

queen_back : (c d : Color) (s t : ℕ) → s < 64 → t < 64 → aims_at d Queen t s ≡ aims_at c Queen s t
queen_back c d s t small small' =
    sym (has-set_of (aims_at d Queen t) s small) ∙ ap (λ set. has_square set s) (sym (queen_shown d t)) ∙ either_at d t s small ∙ ap (λ b. b || aims_at d Bishop t s) (rook_back c d s t small small')
    ∙ ap (λ b. aims_at c Rook s t || b) (bishop_back c d s t small small') ∙ sym (either_at c s t small') ∙ ap (λ set. has_square set t) (queen_shown c s) ∙ has-set_of (aims_at c Queen s) t small'

-- a man aims at a square where one of the other side aims back from there
pub aims_from_there : (c : Color) (k : Kind) (s t : ℕ) → s < 64 → t < 64 → aims_at (other_color c) k t s ≡ aims_at c k s t
aims_from_there White Pawn s t small small' = aims_back WHITE_PAWN BLACK_PAWN White Black Pawn s t pawn_mirror small small' (white_pawn_shown s small) (black_pawn_shown t small')
aims_from_there Black Pawn s t small small' =
    sym (aims_back WHITE_PAWN BLACK_PAWN White Black Pawn t s pawn_mirror small' small (white_pawn_shown t small') (black_pawn_shown s small))
aims_from_there c Knight s t small small' = aims_back KNIGHT KNIGHT c (other_color c) Knight s t knight_mirror small small' (knight_shown c s small) (knight_shown (other_color c) t small')
aims_from_there c Bishop s t small small' = bishop_back c (other_color c) s t small small'
aims_from_there c Rook s t small small' = rook_back c (other_color c) s t small small'
aims_from_there c Queen s t small small' = queen_back c (other_color c) s t small small'
aims_from_there c King s t small small' = aims_back KING KING c (other_color c) King s t king_mirror small small' (king_shown c s small) (king_shown (other_color c) t small')
