use Rattle.std.proofs.Common.{◌≡◌, ◌-◌, ◌++◌, Some, replicate, length, take, drop, subst, ap, ◌∙◌, arith}
use Rattle.std.proofs.lemmas.List.{length-take-le}
use Rattle.std.proofs.lemmas.Grind.{common_steps}
use Rattle.cha_outside.specs.Reading.{Gives}
use Rattle.cha_outside.specs.RepeatState.{RepeatState}
use Rattle.cha_outside.proofs.Giving.{gives_copies}
use Rattle.cha_outside.proofs.repeat_source.RepeatSource.read.Goals as goal

pub returns-clause-bytes : goal.returns-clause-bytes
returns-clause-bytes c =
    let size : length (take c.min-n.result c.args.into.now) ≡ c.min-n.result = length-take-le _ _ (grind (arith, common_steps)) in
    let filled : c.fill.new.self ≡ replicate c.min-n.result c.self.inside.byte =
    c.fill.ensures.after (λ y h. h) ∙ ap (λ k. replicate k c.self.inside.byte) size in
    subst
    (λ (s : RepeatState). Gives (Some (replicate s.count s.byte)) (Some (replicate (c.self.inside.count - c.min-n.result) c.self.inside.byte)) c.got.result
    (c.fill.new.self ++ drop c.min-n.result c.args.into.now))
    c.self.view_is
    (gives_copies c.fill.new.self _ c.min-n.result c.self.inside.count c.self.inside.byte _ c.got.ensures (λ e. grind (arith, common_steps))
    (grind (arith, common_steps)) filled)
