use Rattle.cha_san.proofs.PartsInOrder.{in_order}
use Rattle.cha_san.proofs.ReadInOrder.{read_in_order}
use Rattle.cha_san.proofs.order.parts_stand_in_order.Goals as goal

pub returns : goal.returns
returns c = λ word p. (in_order word p, read_in_order word p)
