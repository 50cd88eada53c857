use Rattle.std.proofs.Common.{◌≡◌, ap, is_some, arith, true, get_or}
use Rattle.atomic_table.specs.Table.{step as step_of}
use Rattle.atomic_table.proofs.Lists.{exchanged}
use mathlib.Core.Option.{none}
use Rattle.turn_cell.specs.Rule.{lives}
use Rattle.turn_cell.proofs.SlotTaken.{Goes, hit_goes, miss_goes, tells}
use Rattle.turn_cell.proofs.taking.take.Goals as goal

pub compare_exchange-requires : goal.compare_exchange-requires
compare_exchange-requires g c =
    let live : lives c.args.seat.now.me.0 ≡ true = ap (λ o. is_some o) c.requires.lives in
    let key = c.args.shared.now.key.value in
    let id = c.args.seat.now.id in
    let me = c.args.seat.now.me in (
      c.requires.table.0,
      omega (arith, c.requires.table.1),
      λ s k len at lt. exchanged (get_or s.words 0 0) 0 1 (λ n. Goes g.V.Object.step key s k id (step_of 0 0 0 0 none) me at live n)
          (hit_goes g.V.Object.step key s k id (step_of 0 0 0 0 none) me at live 1 (λ e. omega (arith, e)))
          (λ miss. miss_goes g.V.Object.step key s k id (step_of 0 0 0 0 none) me at live (get_or s.words 0 0) miss miss),
    )

pub returns-clause-turn : goal.returns-clause-turn
returns-clause-turn g c = tells g.V.Object.step (step_of 0 0 0 0 none) _ _ _ c.requires.empty c.compare_exchange.ensures.2
