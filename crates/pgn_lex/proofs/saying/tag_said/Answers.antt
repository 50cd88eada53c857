use Rattle.std.proofs.Common.{refl}
use Rattle.pgn_lex.proofs.Kept.{few_kept}
use Rattle.pgn_lex.proofs.saying.tag_said.Goals as goal

pub returns : goal.returns
returns c =
    let text = few_kept c.min.result _ c.args.value.now c.split_at.result.0.now refl c.min.ensures c.split_at.ensures.front in
    rw (c.in_ok-name.ensures, c.in_ok-text.ensures, text) refl
