use Rattle.std.proofs.Common.{[], ◌∷◌, ◌++◌, take, ap, ◌∙◌, append_assoc}
use Rattle.pgn_lex.specs.Stages.{value_from}
use Rattle.pgn_lex.proofs.Keeping.{neither}
use Rattle.pgn_lex.proofs.machine.keep_in_value.Goals as goal

pub returns-else-byte-eq92-clause-kept : goal.returns-else-byte-eq92-clause-kept
unfolding value_from
returns-else-byte-eq92-clause-kept c = λ full e.
    rw (c.in-AfterBackslash.is, neither c.args.byte c.if-byte-eq34.false c.if-byte-eq92.false)
    (c.keep-in-AfterBackslash-2.ensures.kept (full ++ 92 ∷ []) (c.keep-in-AfterBackslash.ensures.kept full e) ∙ ap (take 4097) (append_assoc full (92 ∷ []) (c.args.byte ∷ [])))
