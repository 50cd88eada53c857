use Rattle.std.proofs.Common.{◌≤◌, length, None, refl, arith}
use Rattle.adjudicate.proofs.RunEndings.{unread, written_run}
use Rattle.adjudicate.proofs.checking.check_cert.Goals as goal

pub returns-in-Ok : goal.returns-in-Ok
returns-in-Ok g c =
    let all = c.in-Ok.ensures.all in
    let few : length c.in-Ok.bytes.items ≤ 268435456 = let short = all.2 in omega (arith, short, c.in-Ok.bytes.ok) in
    written_run None refl (λ _. refl) c.in-Ok.bytes.items _ _ _ _ _ _ _ _ all.0 all.1 _ few c.read_all.ensures.later c.write_answer.ensures

pub returns-in-Err : goal.returns-in-Err
returns-in-Err g c =
    let e = c.read_all.ensures in
    unread None refl (λ _. refl) c.read_all.result _ _ _ _ _ _ e.later e.read_fault e.too_long e.no_memory e.cause e.within_limit c.in-Err.end _ c.in-Err.is c.from.ensures
