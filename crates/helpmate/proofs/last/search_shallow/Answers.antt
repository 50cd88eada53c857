use Rattle.std.proofs.Common.{◌≡◌, ℕ, ◌-◌, [], subst, arith}
use Rattle.helpmate.specs.Rounds.{AreExpandedBy}
use Rattle.helpmate.proofs.Expanding.{no_ply_to_go}
use Rattle.helpmate.proofs.last.search_shallow.Goals as goal

pub returns-then-depth-eq0-clause-counted : goal.returns-then-depth-eq0-clause-counted
returns-then-depth-eq0-clause-counted c = no_ply_to_go c.args.position.now c.args.winner c.args.depth (c.args.left.now - c.args.left.now) c.look.result c.if-depth-eq0.true (omega arith)

pub returns-clause-counted : goal.returns-clause-counted
returns-clause-counted c =
    let few = c.requires in
    let some = c.if-depth-eq0.false in
    let one : 1 ≡ c.args.depth = omega arith in
    let P : ℕ → Type 0 = λ d. AreExpandedBy [] c.args.position.now c.args.winner d c.search_last_ply.result (c.args.left.now - c.search_last_ply.new.left) in
    subst P one c.search_last_ply.ensures.counted
