use Rattle.std.proofs.Common.{◌≡◌, ◌<◌, true, false, not, sym, ap, ◌∙◌, arith}
use Rattle.cha_board.specs.declared.men.Kind.TheVariants.{King}
use Rattle.cha_board.specs.Men.{other_color}
use Rattle.cha_board.specs.Squares.{aims_at}
use Rattle.cha_board.specs.Board.{attacked}
use Rattle.cha_moves.specs.Shields.{men_less}
use Rattle.cha_board.proofs.Identity.{same_kind_equal}
use Rattle.cha_moves.proofs.Arriving.{Going}
use Rattle.cha_moves.proofs.GoingLegally.{king_goes}
use Rattle.cha_moves.proofs.SafeCastling.{castling_goes}
use Rattle.cha_moves.proofs.legally.goes_well.Goals as goal

pub returns-then-aims_at : goal.returns-then-aims_at
returns-then-aims_at c =
    let q = c.args.position.now in
    let from : c.args.from < 64 = omega arith in
    let to : c.args.to < 64 = omega arith in
    let going : Going q c.args.from c.args.to c.args.man = record { valid = c.known.ensures; from = from; to = to; found = c.requires.man; way = c.requires.way } in
    let king = same_kind_equal c.args.man.kind King (sym c.is.ensures ∙ c.if-not-is.false) in
    let aims : aims_at q.side King c.args.from c.args.to ≡ true = ap (λ x. aims_at x King c.args.from c.args.to) (sym c.side-side.ensures) ∙ sym c.aims_at.ensures ∙ c.if-aims_at.true in
    let enemy = c.other.ensures ∙ ap other_color c.side-side.ensures in
    ap not (c.attacks.ensures ∙ ap (λ x. attacked x c.other.result c.args.to) c.requires.less ∙ ap (λ x. attacked (men_less q c.args.from) x c.args.to) enemy)
    ∙ sym (king_goes q c.args.from c.args.to c.args.man going king aims)

pub returns-else-aims_at : goal.returns-else-aims_at
returns-else-aims_at c =
    let q = c.args.position.now in
    let from : c.args.from < 64 = omega arith in
    let to : c.args.to < 64 = omega arith in
    let going : Going q c.args.from c.args.to c.args.man = record { valid = c.known.ensures; from = from; to = to; found = c.requires.man; way = c.requires.way } in
    let king = same_kind_equal c.args.man.kind King (sym c.is.ensures ∙ c.if-not-is.false) in
    let far : aims_at q.side King c.args.from c.args.to ≡ false = ap (λ x. aims_at x King c.args.from c.args.to) (sym c.side-side.ensures) ∙ sym c.aims_at.ensures ∙ c.if-aims_at.false in
    sym (castling_goes q c.args.from c.args.to c.args.man going king far)
