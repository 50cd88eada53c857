use Rattle.std.proofs.Common.{◌++◌, ◌∷◌, [], ◌∙◌, sym}
use Rattle.pgn_lex.proofs.Keeping.{step_escaped, step_backslash, step_plain, keeps_twice, quote_or_slash, neither, differs}
use Rattle.pgn_lex.proofs.tag_values.value_step.Goals as goal

pub returns-then-byte-eq34 : goal.returns-then-byte-eq34
returns-then-byte-eq34 c = (c.args.byte ∷ [], λ bs. step_escaped c.args.escaped c.args.byte bs c.if-escaped.true (quote_or_slash c.args.byte c.then-byte-eq34.either), c.in_ok-keep.ensures)

pub returns-then-escaped : goal.returns-then-escaped
returns-then-escaped c = (
  92 ∷ c.args.byte ∷ [],
  λ bs. step_backslash c.args.escaped c.args.byte bs c.if-escaped.true (neither c.args.byte c.if-byte-eq34.false c.if-byte-eq92.false) (sym c.is_of.ensures ∙ c.if-not-is_of.false),
  λ front h. keeps_twice _ _ front 92 c.args.byte (c.in_ok-keep-3.ensures (front ++ 92 ∷ []) (c.in_ok-keep-2.ensures front h)),
)

pub returns : goal.returns
returns c = (
  c.args.byte ∷ [],
  λ bs. step_plain c.args.escaped c.args.byte bs c.if-escaped.false (differs c.args.byte 34 c.if-byte-eq34-2.false) (sym c.is_of-2.ensures ∙ c.if-not-is_of-2.false) (differs c.args.byte 92 c.if-byte-eq92-2.false),
  c.in_ok-keep-4.ensures,
)
