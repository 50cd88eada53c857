use Rattle.std.proofs.Common.{◌≡◌, ◌+◌, Some, sym, ap, ◌∙◌}
use Rattle.cha_board.specs.declared.men.Color.TheVariants.{White, Black}
use Rattle.cha_moves.specs.Step.{Move}
use Rattle.cha_moves.proofs.Alone.{over_midway}
use Rattle.cha_moves.proofs.afterwards.passed_by.Goals as goal

pub returns-in-White : goal.returns-in-White
returns-in-White c = λ q own legal man.
    let from : c.m.inside.from ≡ c.args.m.from = ap (λ (m : Move). m.from) c.m.view_is in
    let to : c.m.inside.to ≡ c.args.m.to = ap (λ (m : Move). m.to) c.m.view_is in
    over_midway q c.args.m White c.midway.result (sym c.in-White.is ∙ own) legal man
    (λ e. c.midway.ensures.far (ap (λ n. n + 16) from ∙ e ∙ sym to) ∙ ap (λ n. Some (n + 8)) from)
    (λ ne. c.midway.ensures.near (λ e. ne (ap (λ n. n + 16) (sym from) ∙ e ∙ to)))

pub returns-in-Black : goal.returns-in-Black
returns-in-Black c = λ q own legal man.
    let from : c.m.inside.from ≡ c.args.m.from = ap (λ (m : Move). m.from) c.m.view_is in
    let to : c.m.inside.to ≡ c.args.m.to = ap (λ (m : Move). m.to) c.m.view_is in
    over_midway q c.args.m Black c.midway-in-Black.result (sym c.in-Black.is ∙ own) legal man
    (λ e. c.midway-in-Black.ensures.far (ap (λ n. n + 16) to ∙ e ∙ sym from) ∙ ap (λ n. Some (n + 8)) to)
    (λ ne. c.midway-in-Black.ensures.near (λ e. ne (ap (λ n. n + 16) (sym to) ∙ e ∙ from)))
