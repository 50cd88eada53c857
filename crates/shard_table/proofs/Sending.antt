-- A table may be shared by threads, and a pass may go to another.
use denote.Struct.Declared.{shape}
use denote.Param.Send.{IsSend, IsSync, AllSend, sendable, struct_send, recorded_send}
use Rattle.std.proofs.Crossing.{crosses}
use Rattle.turn_cell.proofs.Sending.{pass_send, cell_sync}
use Rattle.lru.proofs.cache.LruCache.TheSendSync.{the_send as cache_send}
use Rattle.cha_board.specs.contracts.kept.Kept.{the_row as kept_row}
use Rattle.cha_fact.proofs.key.Key.TheSendSync.{the_send as key_send, the_sync as key_sync}
use Rattle.cha_fact.proofs.kept_line.KeptLine.TheSendSync.{the_send as line_send}
use Rattle.cha_fact.specs.contracts.proved.Proved.{the_row as proved_row}
use Rattle.cha_fact.specs.contracts.proved.Proved.TheInside.{the_row as inside_row, the_type as inside}
use Rattle.cha_fact.specs.contracts.calls.FactCall.{the_row as call_row}
use Rattle.cha_fact.specs.contracts.calls.FactReply.{the_row as reply_row}
use Rattle.shard_table.specs.contracts.shard.Shard.{the_row as shard_row}
use Rattle.shard_table.specs.contracts.table.Table.{the_row as table_row}
use Rattle.shard_table.specs.contracts.table.TablePass.{the_row as pass_row}

kept_send : IsSend kept_row
kept_send = search (sendable, crosses) depth 20

-- what is kept, what is known of it, and the side between them
fields_send : AllSend (shape inside).fields
fields_send = (kept_send, (search (sendable, crosses) depth 20, (search (sendable, crosses, line_send) depth 20, tt)))

inside_send : IsSend inside_row
inside_send = search (recorded_send, struct_send, fields_send) depth 20

proved_send : IsSend proved_row
proved_send = search (sendable, inside_send) depth 20

pub call_send : IsSend call_row
call_send = search (sendable, crosses, proved_send) depth 20

pub reply_send : IsSend reply_row
reply_send = search (sendable, crosses, proved_send) depth 20

pub shard_send : IsSend shard_row
shard_send = search (sendable, crosses, cache_send, key_send, key_sync, proved_send) depth 20

pub table_pass_send : IsSend pass_row
table_pass_send = search (sendable, pass_send, shard_send) depth 20

pub table_sync : IsSync table_row
table_sync = search (sendable, cell_sync, shard_send) depth 20
