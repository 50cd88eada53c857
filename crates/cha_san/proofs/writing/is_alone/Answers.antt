use Rattle.std.proofs.Common.{◌≡◌, ap, ◌∙◌}
use Rattle.cha_board.specs.Squares.{file_of, rank_of}
use Rattle.cha_moves.specs.Step.{Move}
use Rattle.cha_san.specs.Writing.{named_if, parts_of}
use Rattle.cha_san.proofs.Written.{found_alone}
use Rattle.cha_san.proofs.writing.is_alone.Goals as goal

pub returns : goal.returns
returns c =
    let file : c.named.result ≡ named_if c.args.marks.file (file_of c.m.inside.from) = c.named.ensures ∙ ap (λ n. named_if c.args.marks.file n) c.file.ensures.value in
    let rank : c.named-2.result ≡ named_if c.args.marks.rank (rank_of c.m.inside.from) = c.named-2.ensures ∙ ap (λ n. named_if c.args.marks.rank n) c.rank.ensures.value in
    let found = rw (file, rank) at c.found_for.ensures in
    let m : Move = record { from = c.m.inside.from; to = c.m.inside.to; promotion = c.m.inside.promotion } in
    let view = c.m.view_is in
    rw (← view) (c.is_ok.ensures.value ∙ found_alone c.args.position.now (parts_of c.args.kind m c.args.marks.file c.args.marks.rank) c.found_for.result c.only.result found c.only.ensures)
