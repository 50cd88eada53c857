use Rattle.std.proofs.Common.{ap}
use Rattle.cha_moves.specs.Step.{Move}
use Rattle.cha_moves.proofs.Alone.{kind_told}
use Rattle.cha_moves.proofs.afterwards.after.Goals as goal

pub after_of-requires-clause-kind : goal.after_of-requires-clause-kind
after_of-requires-clause-kind c = kind_told c.args.position.now c.args.m _ _ _ c.placement.ensures.value (ap (λ (m : Move). m.from) c.m.view_is) c.kind_at.ensures
