use denote.Param.Send.{sendable}
use Rattle.std.proofs.Crossing.{crosses}
use Rattle.turn_cell.proofs.Sending.{pass_send, cell_sync}
use Rattle.finding_tests.proofs.cells.two_threads_take_turns_beside_busy_ones.Goals as goal

pub join-first-requires-send-F : goal.join-first-requires-send-F
join-first-requires-send-F g c κs within = search (sendable, crosses, pass_send, cell_sync) depth 20

pub join-first-requires-send-A : goal.join-first-requires-send-A
join-first-requires-send-A g c κs within = search (sendable, crosses, pass_send) depth 20
