use Rattle.pgn_lex.proofs.TagParts.{tag_from}
use Rattle.pgn_lex.proofs.tags.tag.Goals as goal

pub returns-clause-value : goal.returns-clause-value
returns-clause-value c =
    let v = rw c.in-Some-2.is at c.in_ok-value.ensures in
    tag_from c.args.rest.now _ _ _ _ c.in-Some-after_byte.opened.now v.0 _ _ _ _ _ _ _ c.in-Some-2.value.size _ _ c.after_blanks.ensures.value c.in-Some.ensures.some c.after_blanks-2.ensures.value c.in-Some-after_byte.ensures.some
    v.1 c.split_at.ensures.back c.after_blanks-3.ensures.value c.in-Some-after_byte-2.ensures.some c.min.ensures c.split_at-2.ensures.front c.in_ok-name.ensures v.3 c.spoken.ensures
