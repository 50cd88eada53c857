use Rattle.std.proofs.Common.{◌≡◌, None, rules}
use Rattle.root_workers.specs.Hirings.{staff_none}
use Rattle.root_workers.proofs.Staffing.{just_hired}
use Rattle.root_workers.proofs.staff.Staff.hire.Goals as goal

pub returns-in-Ok-clause-nothing : goal.returns-in-Ok-clause-nothing
returns-in-Ok-clause-nothing c = λ i. (
    let none : c.args.self.now.hired ≡ None = search rules in
    just_hired c.args.self.now c.in-Ok.hired none c.in-Ok.ensures.hired c.in-Ok.ensures.fresh i)

pub returns-else-is_none-clause-nothing : goal.returns-else-is_none-clause-nothing
returns-else-is_none-clause-nothing c = λ i. staff_none i c.args.self.now
