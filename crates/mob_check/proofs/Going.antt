-- To which squares men go, as sets.
use Rattle.std.proofs.Common.{◌≡◌, ℕ, ◌<◌, Bool, true, false, not, ◌&&◌, ◌||◌, ◌==◌, if◌then◌else◌, List, length, refl, sym, ap, ◌∙◌}
use Rattle.std.proofs.Math.Bool.{and_comm, not-not}
use Rattle.cha_board.specs.declared.men.Color.{Color}
use Rattle.cha_board.specs.declared.men.Color.TheVariants.{White, Black}
use Rattle.cha_board.specs.declared.men.Kind.{Kind}
use Rattle.cha_board.specs.declared.men.Kind.TheVariants.{Pawn, King}
use Rattle.cha_board.specs.Men.{other_color, same_kind}
use Rattle.cha_board.specs.Squares.{squares, rank_of, last_rank, files_apart, is_rank_ahead}
use Rattle.cha_board.specs.SquareSets.{set_of, has_square, set_joined}
use Rattle.cha_board.proofs.SetLaws.{has-set_of, same_set}
use Rattle.mob_law.specs.Reach.{steps_to}
use Rattle.mob_check.specs.declared.ground.Ground.{Ground}
use Rattle.mob_check.specs.SingleSteps.{is_stepped_to, spread_of, stays}
use Rattle.cha_board.specs.Shifts.{is_ahead}
use Rattle.mob_check.specs.Grounds.{side_in}
use Rattle.mob_check.specs.Rules.{is_barred, piece_goes, pawn_steps, is_capturable, pawn_captures, pawn_goes, goes_on, is_entered, entered_from}
use Rattle.cha_board.proofs.Pulls.{Pulls, here, up, down, pull_here, pull_up, pull_down, pull_joined, pull_kept, pull_is, pulled, pulls_of, agree, pairs, from_pairs}

-- where a pawn does not stay one, and that others stay
pub pawn_changes : (c : Color) (k : Kind) (set : List Bool) → same_kind k Pawn ≡ true → ((t : ℕ) → t < 64 → has_square set t ≡ (rank_of t == last_rank c)) → (t : ℕ) → t < 64 → has_square set t ≡ not (stays c k t)
unfolding stays
pawn_changes c k set pawn last t small = last t small ∙ sym (not-not (rank_of t == last_rank c)) ∙ sym (ap (λ b. not (not (b && (rank_of t == last_rank c)))) pawn)

pub piece_stays_on : (c : Color) (k : Kind) (set : List Bool) → same_kind k Pawn ≡ false → ((t : ℕ) → has_square set t ≡ false) → (t : ℕ) → t < 64 → has_square set t ≡ not (stays c k t)
unfolding stays
piece_stays_on c k set other none t small = none t ∙ sym (ap (λ b. not (not (b && (rank_of t == last_rank c)))) other)

-- a set of which squares are taken out or kept by another
pub kept_by : (set mask : List Bool) (test : ℕ → Bool) → ((t : ℕ) → t < 64 → has_square mask t ≡ test t) → set_of (λ s. has_square set s && has_square mask s) ≡ set_of (λ t. has_square set t && test t)
kept_by set mask test same = same_set (λ s. has_square set s && has_square mask s) (λ t. has_square set t && test t) (λ t small. ap (λ b. has_square set t && b) (same t small))

pub out_by : (set mask : List Bool) (test : ℕ → Bool) → ((t : ℕ) → t < 64 → has_square mask t ≡ not (test t)) → set_of (λ s. has_square set s && not (has_square mask s)) ≡ set_of (λ t. has_square set t && test t)
out_by set mask test same =
    same_set (λ s. has_square set s && not (has_square mask s)) (λ t. has_square set t && test t) (λ t small. ap (λ b. has_square set t && not b) (same t small) ∙ ap (λ b. has_square set t && b) (not-not (test t)))

-- a king is barred where the other side guards, and others are not
pub barred_king : (g : Ground) (c : Color) (k : Kind) (set : List Bool) → same_kind k King ≡ true → set ≡ (side_in g (other_color c)).guards → (t : ℕ) → has_square set t ≡ is_barred g c k t
unfolding is_barred
barred_king g c k set king is t = ap (λ x. has_square x t) is ∙ sym (ap (λ b. b && has_square (side_in g (other_color c)).guards t) king)

pub barred_other : (g : Ground) (c : Color) (k : Kind) (set : List Bool) → same_kind k King ≡ false → ((t : ℕ) → has_square set t ≡ false) → (t : ℕ) → has_square set t ≡ is_barred g c k t
unfolding is_barred
barred_other g c k set other none t = none t ∙ sym (ap (λ b. b && has_square (side_in g (other_color c)).guards t) other)

-- what pawns may capture
pub capturable_at : (g : Ground) (c : Color) (reach enemies target set : List Bool) → reach ≡ (side_in g (other_color c)).reach → enemies ≡ set_of (λ s. has_square reach s && not (has_square g.fixed s))
    → target ≡ (side_in g c).target → set ≡ set_joined enemies target → (t : ℕ) → t < 64 → has_square set t ≡ is_capturable g c t
unfolding is_capturable set_joined
capturable_at g c reach enemies target set reach_is enemies_is target_is is t small =
    let there = has_square (side_in g (other_color c)).reach t in
    let free = not (has_square g.fixed t) in
    let a : has_square enemies t ≡ (free && there) = ap (λ x. has_square x t) enemies_is ∙ has-set_of (λ s. has_square reach s && not (has_square g.fixed s)) t small ∙ ap (λ x. has_square x t && free) reach_is ∙ and_comm there free in
    ap (λ x. has_square x t) is ∙ has-set_of (λ s. has_square enemies s || has_square target s) t small
    ∙ ap (λ b. b || has_square target t) a ∙ ap (λ x. (free && there) || has_square x t) target_is

piece_way : (g : Ground) (c : Color) (k : Kind) (u t : ℕ) → same_kind k Pawn ≡ false → ((steps_to c k u t && not (is_barred g c k t)) && not (has_square g.fixed t)) ≡ goes_on g c k u t
unfolding goes_on piece_goes
piece_way g c k u t other = sym (ap (λ b. if b then pawn_goes g c u t else ((steps_to c k u t && not (is_barred g c k t)) && not (has_square g.fixed t))) other)

-- pieces
pub pieces_enter : (g : Ground) (c : Color) (k : Kind) (a spread barred near set : List Bool) → same_kind k Pawn ≡ false → spread ≡ spread_of c k a → ((t : ℕ) → t < 64 → has_square barred t ≡ is_barred g c k t)
    → near ≡ set_of (λ s. has_square spread s && not (has_square barred s)) → set ≡ set_of (λ s. has_square near s && not (has_square g.fixed s)) → set ≡ entered_from g c k a
unfolding is_entered is_stepped_to
pieces_enter g c k a spread barred near set other spread_is barred_is near_is set_is =
    let free = λ (t : ℕ). not (has_square g.fixed t) in
    let open_to = λ (t : ℕ). not (is_barred g c k t) in
    let first = pulls_of a spread (steps_to c k) spread_is in
    let same = λ (t : ℕ) (small : t < 64). ap not (barred_is t small) in
    let near_too : near ≡ set_of (λ s. has_square spread s && open_to s) = near_is ∙ same_set (λ s. has_square spread s && not (has_square barred s)) (λ s. has_square spread s && open_to s) (λ t small. ap (λ b. has_square spread t && b) (same t small)) in
    let second = pull_kept a spread near (steps_to c k) open_to first near_too in
    let third = pull_kept a near set (λ u t. steps_to c k u t && open_to t) free second set_is in
    pulled a set (goes_on g c k) (pull_is a set (λ u t. (steps_to c k u t && open_to t) && free t) (goes_on g c k) (λ u t small small'. piece_way g c k u t other) third)

-- pawns: steps and captures
ahead_way : Color → (ℕ → ℕ → Bool) → ℕ → ℕ → Bool
ahead_way White = up
ahead_way Black = down

pull_ahead : (c : Color) (a x y : List Bool) (leads : ℕ → ℕ → Bool) → Pulls a x leads → y ≡ set_of (is_ahead c x) → Pulls a y (ahead_way c leads)
unfolding ahead_way
pull_ahead White a x y leads p is = pull_up a x y leads p is
pull_ahead Black a x y leads p is = pull_down a x y leads p is

abbrev one_is : Color → ℕ → ℕ → Bool
one_is c u t = (files_apart u t == 0) && is_rank_ahead c u t

one_table : (c : Color) → pairs (ahead_way c here) (one_is c) ≡ true
unfolding pairs agree ahead_way is_rank_ahead files_apart squares
one_table White = refl
one_table Black = refl

one_steps : (g : Ground) (c : Color) (u t : ℕ) → u < 64 → t < 64 → (ahead_way c here u t && not (has_square g.fixed t)) ≡ pawn_steps g c u t
unfolding pawn_steps
one_steps g c u t small small' = ap (λ b. b && not (has_square g.fixed t)) (from_pairs (ahead_way c here) (one_is c) (one_table c) u t small small')

-- how pawns go: the sets of steps and of captures, joined
pub record PawnSets (g : Ground) (c : Color) (a steps captures set : List Bool) : Type 0 where
  pub first : List Bool
  pub first_is : first ≡ set_of (is_ahead c a)
  pub steps_is : steps ≡ set_of (λ s. has_square first s && not (has_square g.fixed s))
  pub spread : List Bool
  pub spread_is : spread ≡ spread_of c Pawn a
  pub prey : List Bool
  pub prey_is : (t : ℕ) → t < 64 → has_square prey t ≡ is_capturable g c t
  pub captures_is : captures ≡ set_of (λ s. has_square spread s && has_square prey s)
  pub set_is : set ≡ set_joined steps captures

pub pawns_enter : (g : Ground) (c : Color) (a steps captures set : List Bool) → length a ≡ 64 → PawnSets g c a steps captures set → set ≡ entered_from g c Pawn a
unfolding is_entered is_stepped_to goes_on pawn_goes pawn_captures
pawns_enter g c a steps captures set long s =
    let free = λ (x : ℕ). not (has_square g.fixed x) in
    let one_pulls = pull_kept a s.first steps (ahead_way c here) free (pull_ahead c a a s.first here (pull_here a long) s.first_is) s.steps_is in
    let one_right = pull_is a steps (λ u t. ahead_way c here u t && free t) (pawn_steps g c) (one_steps g c) one_pulls in
    let spread = pulls_of a s.spread (steps_to c Pawn) s.spread_is in
    let prey = s.captures_is ∙ kept_by s.spread s.prey (is_capturable g c) s.prey_is in
    let captures_right = pull_kept a s.spread captures (steps_to c Pawn) (is_capturable g c) spread prey in
    pulled a set (goes_on g c Pawn) (pull_joined a steps captures set (pawn_steps g c) (λ u t. steps_to c Pawn u t && is_capturable g c t) one_right captures_right s.set_is)
