use denote.Param.Send.{sendable}
use Rattle.std.proofs.Crossing.{crosses}
use Rattle.turn_cell.proofs.Sending.{pass_send, cell_sync}
use Rattle.shard_table.proofs.Sending.{shard_send}
use Rattle.finding_tests.proofs.tables.two_threads_fill_a_table.Goals as goal

pub join-one-requires-send-F : goal.join-one-requires-send-F
join-one-requires-send-F g c κs within = search (sendable, crosses, pass_send, cell_sync, shard_send) depth 20

pub join-one-requires-send-A : goal.join-one-requires-send-A
join-one-requires-send-A g c κs within = search (sendable, crosses, pass_send, shard_send) depth 20
