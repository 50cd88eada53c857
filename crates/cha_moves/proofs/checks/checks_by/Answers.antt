use Rattle.std.proofs.Common.{◌≡◌, ap, ◌∙◌}
use Rattle.cha_board.specs.Men.{other_color}
use Rattle.cha_board.specs.Aims.{aimed}
use Rattle.cha_board.specs.SquareSets.{set_without}
use Rattle.cha_moves.specs.Checks.{others}
use Rattle.cha_moves.proofs.SpecialChecks.{checks_are}
use Rattle.cha_moves.proofs.checks.checks_by.Goals as goal

pub returns : goal.returns
returns c =
    let q = c.args.position.now in
    let side : c.other-enemy.result ≡ other_color q.side = c.other-enemy.ensures ∙ ap other_color c.side.ensures in
    let men : c.without-others.result ≡ others q c.args.from = c.without-others.ensures ∙ ap (λ set. set_without set c.args.from) c.occupied.ensures in
    let near : c.aims-near.result ≡ aimed c.other-enemy.result c.args.kind c.king.result (others q c.args.from) = c.aims-near.ensures ∙ ap (aimed c.other-enemy.result c.args.kind c.king.result) men in
    checks_are q c.args.from c.args.kind c.king.result c.other-enemy.result c.aims-near.result c.special_checks.result c.joined.result side c.king.ensures near c.special_checks.ensures c.joined.ensures
