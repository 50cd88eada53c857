use Rattle.std.proofs.Common.{◌≡◌, ap, is_some, arith, true}
use Rattle.atomic_table.specs.Table.{step as step_of}
use mathlib.Core.Option.{none}
use Rattle.turn_cell.specs.Rule.{lives}
use Rattle.turn_cell.proofs.SlotTaken.{goes, tells}
use Rattle.turn_cell.proofs.taking.take_or_mark.Goals as goal

pub swap-requires : goal.swap-requires
swap-requires g c =
    let live : lives c.args.seat.now.me.0 ≡ true = ap (λ o. is_some o) c.requires.lives in (
      c.requires.table.0,
      omega (arith, c.requires.table.1),
      λ s k len at lt. goes g.V.Object.step c.args.shared.now.key.value s k c.args.seat.now.id (step_of 0 0 0 0 none) c.args.seat.now.me at live 2 (λ e. omega (arith, e)),
    )

pub returns-clause-turn : goal.returns-clause-turn
returns-clause-turn g c = tells g.V.Object.step (step_of 0 0 0 0 none) _ _ _ c.requires.empty c.swap.ensures.2
