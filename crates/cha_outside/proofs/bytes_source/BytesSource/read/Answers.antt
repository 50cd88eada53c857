use Rattle.std.proofs.Common.{drop, sym, ap, ◌∙◌, arith}
use Rattle.std.proofs.lemmas.List.{drop-drop}
use Rattle.std.proofs.lemmas.Grind.{common_steps}
use Rattle.cha_outside.proofs.Giving.{gives_front}
use Rattle.cha_outside.proofs.bytes_source.BytesSource.read.Goals as goal

pub returns-clause-bytes : goal.returns-clause-bytes
returns-clause-bytes c =
    gives_front _ _ _ c.copy_front-n.result _ c.got.ensures (λ e. grind (arith, common_steps)) (grind (arith, common_steps))
    (sym (drop-drop c.copy_front-n.result c.self.inside.at c.self.inside.bytes.items) ∙ ap (λ xs. drop c.copy_front-n.result xs) c.self.view_is)
