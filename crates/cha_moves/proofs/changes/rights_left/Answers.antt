use Rattle.cha_moves.proofs.Touched.{rights_lacking}
use Rattle.cha_moves.proofs.changes.rights_left.Goals as goal

pub returns : goal.returns
returns c = λ m are. rw (c.right_left.ensures, c.right_left-2.ensures, c.right_left-3.ensures, c.right_left-4.ensures) (rights_lacking c.args.rights m c.args.touched are)
