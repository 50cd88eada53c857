use Rattle.std.proofs.Common.{◌≡◌, ◌<◌, ◌==◌, false, ◌||◌, not, sym, ap, ◌∙◌, arith}
use Rattle.std.proofs.lemmas.Bool.{eq-eqb, ne_eqb, and_left, and_right}
use Rattle.cha_board.specs.Squares.{rank_of, last_rank, ahead_of}
use Rattle.cha_board.specs.Board.{is_empty}
use Rattle.cha_board.specs.SquareSets.{set_of}
use Rattle.cha_moves.specs.Moves.{second_rank}
use Rattle.cha_moves.proofs.Goings.{stands_at, with_of}
use Rattle.cha_moves.proofs.Pushes.{pushes_at_end, pushes_blocked, pushes_one, pushes_two, ahead_small, two_small}
use Rattle.cha_moves.proofs.ways.pawn_steps.Goals as goal

pub returns-then-rank-promotion_rank : goal.returns-then-rank-promotion_rank
returns-then-rank-promotion_rank c =
    let q = c.args.position.now in
    let small : c.args.s < 64 = omega arith in
    let last : rank_of c.args.s ≡ last_rank q.side = sym c.rank.ensures.value ∙ c.if-rank-promotion_rank.true ∙ c.promotion_rank.ensures ∙ ap last_rank c.requires in
    c.empty.ensures ∙ pushes_at_end q c.args.s small (eq-eqb (rank_of c.args.s) (last_rank q.side) last)

pub returns-then-has : goal.returns-then-has
returns-then-has c =
    let q = c.args.position.now in
    let s = c.args.s in
    let small : s < 64 = omega arith in
    let inner = ne_eqb (rank_of s) (last_rank q.side) (λ e. c.if-rank-promotion_rank.false (c.rank.ensures.value ∙ e ∙ sym (c.promotion_rank.ensures ∙ ap last_rank c.requires))) in
    let one = c.ahead-one.ensures ∙ ap (λ x. ahead_of x s) c.requires in
    let stands = stands_at q.men c.occupied-occupied.result c.ahead-one.result (ahead_of q.side s) c.has.result c.occupied-occupied.ensures one (ahead_small q.side s small inner) c.has.ensures ∙ ap not c.if-has.true in
    c.empty-then-has.ensures ∙ pushes_blocked q s small inner stands

pub returns-then-rank-first_pawn_rank : goal.returns-then-rank-first_pawn_rank
returns-then-rank-first_pawn_rank c =
    let q = c.args.position.now in
    let s = c.args.s in
    let small : s < 64 = omega arith in
    let inner = ne_eqb (rank_of s) (last_rank q.side) (λ e. c.if-rank-promotion_rank.false (c.rank.ensures.value ∙ e ∙ sym (c.promotion_rank.ensures ∙ ap last_rank c.requires))) in
    let one = c.ahead-one.ensures ∙ ap (λ x. ahead_of x s) c.requires in
    let free = stands_at q.men c.occupied-occupied.result c.ahead-one.result (ahead_of q.side s) c.has.result c.occupied-occupied.ensures one (ahead_small q.side s small inner) c.has.ensures ∙ ap not c.if-has.false in
    let late = ne_eqb (rank_of s) (second_rank q.side) (λ e. c.if-rank-first_pawn_rank.true (c.rank-2.ensures.value ∙ e ∙ sym (c.first_pawn_rank.ensures ∙ ap second_rank c.requires))) in
    c.single-steps.ensures ∙ rw one (with_of (λ _. false) (ahead_of q.side s))
    ∙ pushes_one q s small inner free (and_left (rank_of s == second_rank q.side) (is_empty q.men (ahead_of q.side (ahead_of q.side s))) late)

pub returns-then-has-2 : goal.returns-then-has-2
returns-then-has-2 c =
    let q = c.args.position.now in
    let s = c.args.s in
    let small : s < 64 = omega arith in
    let inner = ne_eqb (rank_of s) (last_rank q.side) (λ e. c.if-rank-promotion_rank.false (c.rank.ensures.value ∙ e ∙ sym (c.promotion_rank.ensures ∙ ap last_rank c.requires))) in
    let one = c.ahead-one.ensures ∙ ap (λ x. ahead_of x s) c.requires in
    let free = stands_at q.men c.occupied-occupied.result c.ahead-one.result (ahead_of q.side s) c.has.result c.occupied-occupied.ensures one (ahead_small q.side s small inner) c.has.ensures ∙ ap not c.if-has.false in
    let begins = eq-eqb (rank_of s) (second_rank q.side) (sym c.rank-2.ensures.value ∙ c.if-rank-first_pawn_rank.false ∙ c.first_pawn_rank.ensures ∙ ap second_rank c.requires) in
    let two = c.ahead-two.ensures ∙ ap (λ x. ahead_of x c.ahead-one.result) c.requires ∙ ap (ahead_of q.side) one in
    let stands = stands_at q.men c.occupied-occupied.result c.ahead-two.result (ahead_of q.side (ahead_of q.side s)) c.has-2.result c.occupied-occupied.ensures two (two_small q.side s small begins) c.has-2.ensures ∙ ap not c.if-has-2.true in
    c.single-steps.ensures ∙ rw one (with_of (λ _. false) (ahead_of q.side s))
    ∙ pushes_one q s small inner free (and_right (rank_of s == second_rank q.side) (is_empty q.men (ahead_of q.side (ahead_of q.side s))) stands)

pub returns : goal.returns
returns c =
    let q = c.args.position.now in
    let s = c.args.s in
    let small : s < 64 = omega arith in
    let inner = ne_eqb (rank_of s) (last_rank q.side) (λ e. c.if-rank-promotion_rank.false (c.rank.ensures.value ∙ e ∙ sym (c.promotion_rank.ensures ∙ ap last_rank c.requires))) in
    let one = c.ahead-one.ensures ∙ ap (λ x. ahead_of x s) c.requires in
    let free = stands_at q.men c.occupied-occupied.result c.ahead-one.result (ahead_of q.side s) c.has.result c.occupied-occupied.ensures one (ahead_small q.side s small inner) c.has.ensures ∙ ap not c.if-has.false in
    let begins = eq-eqb (rank_of s) (second_rank q.side) (sym c.rank-2.ensures.value ∙ c.if-rank-first_pawn_rank.false ∙ c.first_pawn_rank.ensures ∙ ap second_rank c.requires) in
    let two = c.ahead-two.ensures ∙ ap (λ x. ahead_of x c.ahead-one.result) c.requires ∙ ap (ahead_of q.side) one in
    let free' = stands_at q.men c.occupied-occupied.result c.ahead-two.result (ahead_of q.side (ahead_of q.side s)) c.has-2.result c.occupied-occupied.ensures two (two_small q.side s small begins) c.has-2.ensures ∙ ap not c.if-has-2.false in
    let steps : c.single-steps.result ≡ set_of (λ t. (t == ahead_of q.side s) || false) = c.single-steps.ensures ∙ rw one (with_of (λ _. false) (ahead_of q.side s)) in
    c.with.ensures ∙ rw (steps, two) (with_of (λ t. (t == ahead_of q.side s) || false) (ahead_of q.side (ahead_of q.side s))) ∙ pushes_two q s small inner free begins free'
