use Rattle.std.proofs.Common.{◌≡◌, ◌<◌, slice_index, sym, ap, ◌∙◌, arith}
use Rattle.cha_board.specs.declared.men.Kind.TheVariants.{Pawn, Rook}
use Rattle.cha_board.specs.declared.leaps.TheConstants.{KNIGHT, KING, WHITE_PAWN, BLACK_PAWN, BISHOP, ROOK}
use Rattle.cha_board.specs.Squares.{aims_at}
use Rattle.cha_board.specs.SquareSets.{set_of, set_of_bits, set_joined}
use Rattle.cha_board.proofs.Tables.{knight_shown, king_shown, white_pawn_shown, black_pawn_shown, bishop_shown, rook_shown, queen_shown}
use Rattle.cha_board.proofs.aiming.aims_alone.Goals as goal

pub returns-in-Knight : goal.returns-in-Knight
returns-in-Knight c =
    let at : c.from-at.result ≡ c.args.from = c.from-at.ensures ∙ c.index.ensures.value in
    let small : c.args.from < 64 = omega arith in
    c.from_bits-in-Knight.ensures ∙ ap (λ s. set_of_bits (slice_index KNIGHT s)) at ∙ knight_shown c.args.of c.args.from small
    ∙ ap (λ k. set_of (aims_at c.args.of k c.args.from)) (sym c.in-Knight.is)

pub returns-in-Bishop : goal.returns-in-Bishop
returns-in-Bishop c =
    let at : c.from-at.result ≡ c.args.from = c.from-at.ensures ∙ c.index.ensures.value in
    let small : c.args.from < 64 = omega arith in
    c.from_bits-in-Bishop.ensures ∙ ap (λ s. set_of_bits (slice_index BISHOP s)) at ∙ bishop_shown c.args.of c.args.from small
    ∙ ap (λ k. set_of (aims_at c.args.of k c.args.from)) (sym c.in-Bishop.is)

pub returns-in-Rook : goal.returns-in-Rook
returns-in-Rook c =
    let at : c.from-at.result ≡ c.args.from = c.from-at.ensures ∙ c.index.ensures.value in
    let small : c.args.from < 64 = omega arith in
    c.from_bits-in-Rook.ensures ∙ ap (λ s. set_of_bits (slice_index ROOK s)) at ∙ rook_shown c.args.of c.args.from small
    ∙ ap (λ k. set_of (aims_at c.args.of k c.args.from)) (sym c.in-Rook.is)

pub returns-in-King : goal.returns-in-King
returns-in-King c =
    let at : c.from-at.result ≡ c.args.from = c.from-at.ensures ∙ c.index.ensures.value in
    let small : c.args.from < 64 = omega arith in
    c.from_bits-in-King.ensures ∙ ap (λ s. set_of_bits (slice_index KING s)) at ∙ king_shown c.args.of c.args.from small
    ∙ ap (λ k. set_of (aims_at c.args.of k c.args.from)) (sym c.in-King.is)

pub returns-in-Queen : goal.returns-in-Queen
returns-in-Queen c =
    let at : c.from-at.result ≡ c.args.from = c.from-at.ensures ∙ c.index.ensures.value in
    let small : c.args.from < 64 = omega arith in
    let rook = c.from_bits-in-Queen.ensures ∙ ap (λ s. set_of_bits (slice_index ROOK s)) at ∙ rook_shown c.args.of c.args.from small in
    let bishop = c.from_bits-in-Queen-2.ensures ∙ ap (λ s. set_of_bits (slice_index BISHOP s)) at ∙ bishop_shown c.args.of c.args.from small in
    c.joined.ensures ∙ ap (λ a. set_joined a c.from_bits-in-Queen-2.result) rook ∙ ap (set_joined (set_of (aims_at c.args.of Rook c.args.from))) bishop
    ∙ queen_shown c.args.of c.args.from ∙ ap (λ k. set_of (aims_at c.args.of k c.args.from)) (sym c.in-Queen.is)

pub returns-in-White : goal.returns-in-White
returns-in-White c =
    let at : c.from-at.result ≡ c.args.from = c.from-at.ensures ∙ c.index.ensures.value in
    let small : c.args.from < 64 = omega arith in
    c.from_bits.ensures ∙ ap (λ s. set_of_bits (slice_index WHITE_PAWN s)) at ∙ white_pawn_shown c.args.from small
    ∙ ap (λ d. set_of (aims_at d Pawn c.args.from)) (sym c.in-White.is) ∙ ap (λ k. set_of (aims_at c.args.of k c.args.from)) (sym c.in-Pawn.is)

pub returns-in-Black : goal.returns-in-Black
returns-in-Black c =
    let at : c.from-at.result ≡ c.args.from = c.from-at.ensures ∙ c.index.ensures.value in
    let small : c.args.from < 64 = omega arith in
    c.from_bits-in-Black.ensures ∙ ap (λ s. set_of_bits (slice_index BLACK_PAWN s)) at ∙ black_pawn_shown c.args.from small
    ∙ ap (λ d. set_of (aims_at d Pawn c.args.from)) (sym c.in-Black.is) ∙ ap (λ k. set_of (aims_at c.args.of k c.args.from)) (sym c.in-Pawn.is)
