use Rattle.std.proofs.Common.{sym, ◌∙◌}
use Rattle.std.proofs.lemmas.Bool.{OnFalse_from}
use Rattle.cha_moves.proofs.Goings.{never_passing, passing_at_target}
use Rattle.cha_moves.proofs.safety.may_pass.Goals as goal

pub returns-in-None : goal.returns-in-None
returns-in-None c = λ t. never_passing c.args.position.now c.args.s t (sym c.target.ensures ∙ c.in-None.is)

pub returns-in-Some : goal.returns-in-Some
returns-in-Some c =
    OnFalse_from c.goes_en_passant.result _ (λ h t. passing_at_target c.args.position.now c.args.s c.in-Some.target t (sym c.target.ensures ∙ c.in-Some.is) (sym c.goes_en_passant.ensures ∙ h))
