use Rattle.turn_cell.proofs.Knowing.{knows_of}
use Rattle.turn_cell.proofs.law.a_pass_knows_one_history.Goals as goal

pub returns : goal.returns
returns g c = knows_of c.args.cell.now c.args.pass.now c.requires
