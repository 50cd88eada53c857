use Rattle.std.proofs.Common.{◌<◌, ap, ◌∙◌, arith}
use Rattle.std.proofs.lemmas.Bool.{OnFalse_at}
use Rattle.cha_board.specs.SquareSets.{set_common}
use Rattle.cha_moves.proofs.GoingLegally.{free_ways}
use Rattle.cha_moves.proofs.legally.legal_among.Goals as goal

pub returns-else-has_to_ask : goal.returns-else-has_to_ask
returns-else-has_to_ask c =
    let q = c.args.position.now in
    let small : c.args.from < 64 = omega arith in
    let free = OnFalse_at c.if-has_to_ask.false c.has_to_ask.ensures in
    c.common.ensures ∙ ap (λ x. set_common x c.args.shields.now.answers) c.requires.ways
    ∙ free_ways q c.args.from c.args.man c.args.shields.now.answers c.args.shields.now.screens c.known.ensures small c.requires.man c.requires.shields free
