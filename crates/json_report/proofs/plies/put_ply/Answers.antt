use Rattle.json_report.proofs.Stepping.{◌then◌, next, whole}
use Rattle.json_report.proofs.plies.put_ply.Goals as goal

pub returns : goal.returns
returns c =
    let word = rw (c.items.ensures, c.in_ok-word.ensures) at c.in_ok-put_text.ensures in
    let fen = rw (c.items-2.ensures, c.in_ok-fen.ensures.text, c.after.ensures) at c.in_ok-put_text-2.ensures in
    whole _ _ _ _ _ c.in_ok-begin_object.ensures (next _ _ _ _ _ c.in_ok-put_count.ensures then next _ _ _ _ _ c.in_ok-put_squares.ensures then next _ _ _ _ _ word then next _ _ _ _ _ fen) c.in_ok-end_object.ensures
