-- What the workers share may be shared by threads, and a worker may go to another.
use denote.Param.Send.{IsSend, IsSync, sendable}
use Rattle.std.proofs.Crossing.{crosses}
use Rattle.shard_table.proofs.Sending.{call_send, reply_send, shard_send, table_pass_send}
use Rattle.turn_cell.below.atomic_table.proofs.shared.Seat.TheSendSync.{the_send as seat_send}
use Rattle.cha_moves.specs.contracts.chess_move.Move.{the_row as move_row}
use Rattle.root_workers.proofs.work.Work.TheSendSync.{the_send as work_send}
use Rattle.root_workers.specs.contracts.open_moves.OpenMoves.{the_row as open_row}
use Rattle.root_workers.specs.contracts.task.RoundTask.{the_row as task_row}
use Rattle.root_workers.specs.contracts.work.Worker.{the_row as worker_row}

pub move_sync : IsSync move_row
move_sync = search (sendable, crosses) depth 20

pub task_sync : IsSync task_row
task_sync = search (sendable, crosses) depth 30

pub open_sync : IsSync open_row
open_sync = search (sendable, crosses) depth 30

pub worker_send : IsSend worker_row
worker_send = search (sendable, crosses, seat_send, shard_send, call_send, reply_send, work_send, table_pass_send) depth 60 fits 20000
