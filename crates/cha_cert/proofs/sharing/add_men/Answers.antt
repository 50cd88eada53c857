-- A node whose men show it alone is shared.
use Rattle.cha_cert.proofs.OnceWritten.{men_added}
use Rattle.cha_cert.proofs.sharing.add_men.Goals as goal

pub returns-clause-shares : goal.returns-clause-shares
returns-clause-shares c = λ nodes shares. men_added c.args.shared.now c.push.new.self nodes c.args.position c.args.reason c.in_ok-push.ensures.ok shares
