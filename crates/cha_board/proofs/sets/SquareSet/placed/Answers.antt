use Rattle.std.proofs.Common.{sym, ap, ◌∙◌}
use Rattle.cha_board.specs.SquareSets.{set_placed}
use Rattle.cha_board.proofs.SetBits.{put_in, put_out}
use Rattle.cha_board.proofs.sets.SquareSet.placed.Goals as goal

pub returns-then-inside : goal.returns-then-inside
returns-then-inside c = c.with.ensures ∙ put_in c.args.self c.args.at ∙ ap (set_placed c.args.self c.args.at) (sym c.if-inside.true)

pub returns-else-inside : goal.returns-else-inside
returns-else-inside c = c.without.ensures ∙ put_out c.args.self c.args.at ∙ ap (set_placed c.args.self c.args.at) (sym c.if-inside.false)
