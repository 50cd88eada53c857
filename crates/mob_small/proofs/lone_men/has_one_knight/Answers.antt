-- One knight beside the king.
use Rattle.std.proofs.Common.{sym, ◌∙◌}
use Rattle.cha_board.specs.declared.men.Kind.TheVariants.{Knight}
use Rattle.mob_small.proofs.SetsOfMen.{no_one, one_alone}
use Rattle.mob_small.proofs.lone_men.has_one_knight.Goals as goal

pub returns-in-None : goal.returns-in-None
returns-in-None c = no_one c.args.position.now.men c.args.of Knight c.known.ensures.size (λ e. cc) c.men.result c.men.ensures (sym c.first.ensures ∙ c.in-None.is)

pub returns-in-Some : goal.returns-in-Some
returns-in-Some c =
    one_alone c.args.position.now.men c.args.of Knight c.known.ensures.size (λ e. cc) c.men.result c.men.ensures c.non_kings.result c.non_kings.ensures c.in-Some.at (sym c.first.ensures ∙ c.in-Some.is)
    c.is_empty.result (rw (← c.without.ensures) c.is_empty.ensures)
