-- Passes and cells may go to other threads where the value may.
use denote.RattleType.{RattleType}
use denote.Param.Send.{IsSend, IsSync, sendable}
use Rattle.std.proofs.Crossing.{crosses}
use Rattle.turn_cell.specs.declared.object.Object.{Ghosts}
use Rattle.turn_cell.specs.contracts.cells.Pass.{the_row}
use Rattle.turn_cell.specs.contracts.views.Held.{the_row as held_row}
use Rattle.turn_cell.specs.contracts.views.Said.{the_row as said_row}
use Rattle.turn_cell.specs.contracts.views.View.{the_row as view_row}
use Rattle.atomic_table.specs.contracts.shared.Seat.{the_row as seat_row}
use Rattle.turn_cell.specs.contracts.cells.TurnCell.{the_row as cell_row}
use Rattle.atomic_table.proofs.shared.Shared.TheSendSync.{the_sync as shared_sync}
use Rattle.atomic_table.proofs.send_lease.SendLease.TheSendSync.{the_sync as lease_sync}
use Rattle.atomic_table.proofs.shared.Seat.TheSendSync.{the_send as seat_send}

pub said_send : (C R : RattleType) → IsSend (said_row C R)
said_send C R = search (sendable, crosses) depth 20

pub held_send : (V C R : RattleType) → IsSend V → IsSend (held_row V C R)
held_send V C R v = search (sendable, said_send) depth 20

pub chair_send : (V C R : RattleType) → IsSend V → IsSend (seat_row (held_row V C R) (view_row V C R))
chair_send V C R v = search (seat_send, held_send)

pub pass_send : (V C R : RattleType) (G : Ghosts V.Denot C.Denot R.Denot) → IsSend V → IsSend (the_row V C R G)
pass_send V C R G v = search (sendable, chair_send) depth 20

pub cell_sync : (V C R : RattleType) (G : Ghosts V.Denot C.Denot R.Denot) → IsSend V → IsSync (cell_row V C R G)
cell_sync V C R G v = search (sendable, crosses, shared_sync, lease_sync, held_send) depth 20
