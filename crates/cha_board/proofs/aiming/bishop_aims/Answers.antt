use Rattle.std.proofs.Common.{◌≡◌, ◌<◌, slice_index, ap, ◌∙◌, arith}
use Rattle.cha_board.specs.declared.men.Kind.TheVariants.{Bishop}
use Rattle.cha_board.specs.declared.rays.TheConstants.{NORTH_EAST, NORTH_WEST, SOUTH_EAST, SOUTH_WEST}
use Rattle.cha_board.specs.SquareSets.{set_of_bits, set_joined}
use Rattle.cha_board.specs.Aims.{seen_up, seen_down}
use Rattle.cha_board.proofs.Tables.{north_east_up, north_west_up, south_east_down, south_west_down, bishop_from_rays}
use Rattle.cha_board.proofs.Sliding.{four_rays}
use Rattle.cha_board.proofs.aiming.bishop_aims.Goals as goal

pub returns : goal.returns
returns c =
    let at : c.from-at.result ≡ c.args.from = c.from-at.ensures ∙ c.index.ensures.value in
    let small : c.args.from < 64 = omega arith in
    let first = c.seen_upwards-north_east.ensures ∙ ap (λ ray. seen_up ray c.args.occupied) (c.from_bits.ensures ∙ ap (λ s. set_of_bits (slice_index NORTH_EAST s)) at) in
    let second = c.seen_upwards-north_west.ensures ∙ ap (λ ray. seen_up ray c.args.occupied) (c.from_bits-2.ensures ∙ ap (λ s. set_of_bits (slice_index NORTH_WEST s)) at) in
    let third = c.seen_downwards-south_east.ensures ∙ ap (λ ray. seen_down ray c.args.occupied) (c.from_bits-3.ensures ∙ ap (λ s. set_of_bits (slice_index SOUTH_EAST s)) at) in
    let fourth = c.seen_downwards-south_west.ensures ∙ ap (λ ray. seen_down ray c.args.occupied) (c.from_bits-4.ensures ∙ ap (λ s. set_of_bits (slice_index SOUTH_WEST s)) at) in
    let up = c.joined.ensures ∙ ap (λ x. set_joined x c.seen_upwards-north_west.result) first ∙ ap (set_joined (seen_up (set_of_bits (slice_index NORTH_EAST c.args.from)) c.args.occupied)) second in
    let down = c.joined-2.ensures ∙ ap (λ x. set_joined x c.seen_downwards-south_west.result) third ∙ ap (set_joined (seen_down (set_of_bits (slice_index SOUTH_EAST c.args.from)) c.args.occupied)) fourth in
    c.joined-3.ensures ∙ ap (λ x. set_joined x c.joined-2.result) up ∙ ap (set_joined (set_joined (seen_up (set_of_bits (slice_index NORTH_EAST c.args.from)) c.args.occupied) (seen_up (set_of_bits (slice_index NORTH_WEST c.args.from)) c.args.occupied))) down
    ∙ four_rays Bishop NORTH_EAST NORTH_WEST SOUTH_EAST SOUTH_WEST north_east_up north_west_up south_east_down south_west_down c.args.occupied c.args.from small (bishop_from_rays c.args.from small)
