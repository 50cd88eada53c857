use Rattle.root_workers.proofs.Staffing.{crew_of, hired_count_stays, hired_shares, hired_calls, hired_grow, idle_share, idle_calls, all_idle}
use Rattle.root_workers.proofs.staff.Staff.share_out.Goals as goal

pub returns-in-Some-clause-count : goal.returns-in-Some-clause-count
returns-in-Some-clause-count g c = hired_count_stays c.args.task.now c.args.moves.now c.args.self.now c.hire.new.self c.in-Some.hired c.share_out.new.self c.hire.ensures.nothing c.in-Some.is (crew_of c.hire.new.self c.in-Some.hired c.hire.ensures.staff c.in-Some.is) c.share_out.ensures.table c.share_out.ensures.pass c.share_out.ensures.count c.share_out.ensures.done

pub returns-in-Some-clause-shares : goal.returns-in-Some-clause-shares
returns-in-Some-clause-shares g c = hired_shares c.args.task.now c.args.moves.now c.args.self.now c.hire.new.self c.in-Some.hired c.share_out.new.self c.hire.ensures.nothing c.in-Some.is (crew_of c.hire.new.self c.in-Some.hired c.hire.ensures.staff c.in-Some.is) c.share_out.ensures.table c.share_out.ensures.pass c.share_out.ensures.count c.share_out.ensures.done

pub returns-in-Some-clause-calls : goal.returns-in-Some-clause-calls
returns-in-Some-clause-calls g c = hired_calls c.args.task.now c.args.moves.now c.args.self.now c.hire.new.self c.in-Some.hired c.share_out.new.self c.hire.ensures.nothing c.in-Some.is (crew_of c.hire.new.self c.in-Some.hired c.hire.ensures.staff c.in-Some.is) c.share_out.ensures.table c.share_out.ensures.pass c.share_out.ensures.count c.share_out.ensures.done

pub returns-in-Some-clause-grow : goal.returns-in-Some-clause-grow
returns-in-Some-clause-grow g c = hired_grow c.args.task.now c.args.moves.now c.args.self.now c.hire.new.self c.in-Some.hired c.share_out.new.self c.hire.ensures.nothing c.in-Some.is (crew_of c.hire.new.self c.in-Some.hired c.hire.ensures.staff c.in-Some.is) c.share_out.ensures.table c.share_out.ensures.pass c.share_out.ensures.count c.share_out.ensures.done

pub returns-in-None-clause-count : goal.returns-in-None-clause-count
returns-in-None-clause-count g c = (c.hire.ensures.nothing 0).count

pub returns-in-None-clause-shares : goal.returns-in-None-clause-shares
returns-in-None-clause-shares g c = λ i work less left. idle_share c.hire.new.self c.hire.ensures.staff c.in-None.is (c.hire.ensures.hired c.in-None.is) c.args.task.now c.args.moves.now i _ work left

pub returns-in-None-clause-calls : goal.returns-in-None-clause-calls
returns-in-None-clause-calls g c = λ i work less left. idle_calls c.args.self.now c.hire.new.self i (c.hire.ensures.nothing i) c.in-None.is (c.hire.ensures.hired c.in-None.is) c.args.task.now c.args.moves.now _ work left

pub returns-in-None-clause-grow : goal.returns-in-None-clause-grow
returns-in-None-clause-grow g c = all_idle c.args.self.now c.hire.new.self c.args.task.now.depth _ c.hire.ensures.nothing
