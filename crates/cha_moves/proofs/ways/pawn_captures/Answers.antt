use Rattle.std.proofs.Common.{◌≡◌, ◌<◌, not, ◌&&◌, refl, sym, ◌∙◌, arith}
use Rattle.cha_board.specs.declared.men.Kind.TheVariants.{Pawn}
use Rattle.cha_board.specs.Squares.{aims_at}
use Rattle.cha_board.specs.Board.{is_empty}
use Rattle.cha_board.specs.SquareSets.{set_of}
use Rattle.cha_board.proofs.SetLaws.{has-set_of}
use Rattle.cha_moves.proofs.Goings.{pawn_aimed, common_of, captures_plain, captures_passing, where_is}
use Rattle.cha_moves.proofs.ways.pawn_captures.Goals as goal

pub returns-in-None : goal.returns-in-None
returns-in-None c =
    let q = c.args.position.now in
    let s = c.args.s in
    let small : s < 64 = omega arith in
    let aimed : c.aims-aimed.result ≡ set_of (aims_at q.side Pawn s) = c.aims-aimed.ensures ∙ rw (c.requires, c.occupied-occupied.ensures) (pawn_aimed q.men q.side s small) in
    let captures : c.common-captures.result ≡ set_of (λ t. aims_at q.side Pawn s t && not (is_empty q.men t)) = c.common-captures.ensures ∙ rw (aimed, c.occupied-occupied.ensures) (common_of (aims_at q.side Pawn s) (λ t. not (is_empty q.men t))) in
    captures ∙ captures_plain q s (sym c.target.ensures ∙ c.in-None.is)

pub returns-in-Some : goal.returns-in-Some
returns-in-Some c =
    let q = c.args.position.now in
    let s = c.args.s in
    let u = c.in-Some.target in
    let small : s < 64 = omega arith in
    let small' : u < 64 = omega arith in
    let aimed : c.aims-aimed.result ≡ set_of (aims_at q.side Pawn s) = c.aims-aimed.ensures ∙ rw (c.requires, c.occupied-occupied.ensures) (pawn_aimed q.men q.side s small) in
    let captures : c.common-captures.result ≡ set_of (λ t. aims_at q.side Pawn s t && not (is_empty q.men t)) = c.common-captures.ensures ∙ rw (aimed, c.occupied-occupied.ensures) (common_of (aims_at q.side Pawn s) (λ t. not (is_empty q.men t))) in
    let at : c.has.result ≡ aims_at q.side Pawn s u = c.has.ensures ∙ rw aimed (has-set_of (aims_at q.side Pawn s) u small') in
    where_is (λ t. aims_at q.side Pawn s t && not (is_empty q.men t)) c.common-captures.result c.with_where.result u u c.has.result (aims_at q.side Pawn s u) c.with_where.ensures captures at refl
    ∙ captures_passing q s u (aims_at q.side Pawn s u) (sym c.target.ensures ∙ c.in-Some.is) refl
