use Rattle.std.proofs.Common.{◌-◌, ◌%◌, length, refl, ◌∙◌, arith}
use Rattle.cha_moves.specs.Moves.{after}
use Rattle.helpmate_list.proofs.Taking.{not_over}
use Rattle.helpmate_list.proofs.Mating.{led_more, led_all}
use Rattle.helpmate_list.proofs.Dealing.{found_at, has_root, lines_behind}
use Rattle.helpmate_list.proofs.gather.gathered.Goals as goal

pub of_root-behind-requires : goal.of_root-behind-requires
of_root-behind-requires c =
    has_root c.args.task.now c.args.moves.now c.args.parts.now c.loop-root_move.root_move c.as_slice.result.now c.loop-root_move-test.true
    (found_at c.args.task.now c.args.moves.now c.args.parts.now c.loop-root_move.root_move c.index-parts-root_move.result c.in-Ok.found c.as_slice.result.now c.requires.parts c.requires.a_worker c.index-parts-root_move.is c.in-Ok.is c.as_slice.ensures.value)

pub add_led-requires : goal.add_led-requires
add_led-requires c = not_over 201 c.loop-root_move.lines _ c.loop-root_move.invariant

pub loop-root_move-preserved : goal.loop-root_move-preserved
loop-root_move-preserved c =
    let task = c.args.task.now in
    let m = c.index-moves-root_move.result in
    let i = c.loop-root_move.root_move in
    let parts = c.args.parts.now in
    let part = found_at task c.args.moves.now parts i c.index-parts-root_move.result c.in-Ok.found c.as_slice.result.now c.requires.parts c.requires.a_worker c.index-parts-root_move.is c.in-Ok.is c.as_slice.ensures.value in
    let kept = lines_behind task c.args.moves.now c.as_slice.result.now c.of_root-behind.result.now (i % length parts) (length parts) i m part c.of_root-behind.ensures.among c.of_root-behind.ensures.named c.loop-root_move-test.true c.index-moves-root_move.is in
    led_more task.position (after task.position m) task.winner (task.plies - 1) 201 i c.loop-root_move.lines c.add_led.new.lines c.items.result.now c.args.moves.now m c.loop-root_move.invariant (c.items.ensures ∙ kept) refl c.in_ok-add_led-in-Ok.ensures c.loop-root_move-test.true c.index-moves-root_move.is

pub returns : goal.returns
returns c =
    led_all c.args.task.now.position c.args.task.now.winner c.args.task.now.plies 201 c.loop-root_move.root_move c.loop-root_move.lines c.args.moves.now c.loop-root_move.invariant (let end = c.loop-root_move-test.false in omega arith) c.requires.listed c.requires.some
