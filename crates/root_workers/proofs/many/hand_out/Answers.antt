use denote.Param.Send.{IsSync, given_sync, shr_slice_sync, cell_keyless, sendable}
use denote.Param.{param}
use mir.Raw.{raw}
use mir.Syntax.{ty_int, w32, named}
use Rattle.std.proofs.Common.{[], ◌∷◌, rules}
use Rattle.std.proofs.Crossing as std_crossing
use Rattle.shard_table.proofs.Sending.{table_sync}
use Rattle.root_workers.proofs.Crossing.{move_sync, task_sync, open_sync, worker_send}
use Rattle.cha_moves.specs.contracts.chess_move.Move.{the_row as move_row}
use Rattle.root_workers.proofs.many.hand_out.Goals as goal

pub each_mut-requires-send-T : goal.each_mut-requires-send-T
each_mut-requires-send-T g c κs within = search (sendable, worker_send) depth 10

pub each_mut-requires-sync-F : goal.each_mut-requires-sync-F
each_mut-requires-sync-F g c κs within =
    let h : IsSync (param 0 g.row.R) = c.type_bounds.sync-R in
    let r : IsSync g.row.R = given_sync 0 g.row.R h in
    record {
      shared = λ x b o κ. (
        (
          ((λ q. tt), r.shared x.0.now x.0.ref_ptr.0 x.0.ref_ptr.1 κs.1.1.1.1.1.1.0),
          (
            ((λ q. tt), std_crossing.sync.shared x.1.now x.1.ref_ptr.0 x.1.ref_ptr.1 κ),
            (
              ((λ q. tt), table_sync.shared x.2.now x.2.ref_ptr.0 x.2.ref_ptr.1 _),
              (
                ((λ q. tt), task_sync.shared x.3.now x.3.ref_ptr.0 x.3.ref_ptr.1 _),
                (
                  (shr_slice_sync (named 0) _ move_row move_sync).shared x.4 b o κ,
                  (
                    ((λ q. tt), (λ vs. ((tt, tt), (λ q. cell_keyless q (raw (ty_int w32) ∷ []) vs x.5.ref_ptr.0 x.5.ref_ptr.1)))),
                    (((λ q. tt), open_sync.shared x.6.now x.6.ref_ptr.0 x.6.ref_ptr.1 _), tt),
                  ),
                ),
              ),
            ),
          ),
        ),
        (λ q. tt),
      );
    }

pub returns-clause-done : goal.returns-clause-done
returns-clause-done g c = λ i d less.
    let e = c.each_mut.ensures i d less in
    search rules
