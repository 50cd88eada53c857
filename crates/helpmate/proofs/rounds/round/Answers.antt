use Rattle.std.proofs.Common.{◌-◌, Ok, ap, refl, arith}
use Rattle.helpmate.proofs.FewLines.{few_positions}
use Rattle.helpmate.proofs.Saying.{spent_all, none_is, no_answer}
use Rattle.helpmate.proofs.Trying.{round_of_search, round_ends}
use Rattle.helpmate.proofs.rounds.round.Goals as goal
use Rattle.helpmate.proofs.rounds.round.Goals.{in-Some, in-None}

pub returns-in_err-round-clause-calls : goal.returns-in_err-round-clause-calls
returns-in_err-round-clause-calls g c =
    round_of_search g.F.Facts.made c.args.facts.now c.search_root.new.facts c.args.position.now c.args.winner c.args.depth (c.match-allowance.most - c.search_root.new.left) c.search_root.result c.from_residual.result c.search_root.ensures.calls (λ done same. absurd (no_answer c.from_residual.result done c.from_residual.ensures.0 same))

pub returns-clause-spent : goal.returns-clause-spent
returns-clause-spent g c = λ e.
    let spent = c.in_ok-round.ensures.spent (ap Ok e) in
    elim c.match-allowance.branch [
      | in-Some w ↦ spent_all c.args.allowance _ c.match-allowance.most c.search_root.new.left w.in-Some.is w.most-is spent
      | in-None w ↦
          (let small = c.requires.bounded (none_is c.args.allowance w.in-None.is) in
          let few = few_positions c.args.position.now c.args.depth (c.match-allowance.most - c.search_root.new.left) small c.in_ok-round.ensures.positions in
          let most = w.most-is in
          absurd (omega arith))
    ]

pub returns-clause-calls : goal.returns-clause-calls
returns-clause-calls g c =
    let positions = c.match-allowance.most - c.search_root.new.left in
    round_of_search g.F.Facts.made c.args.facts.now c.search_root.new.facts c.args.position.now c.args.winner c.args.depth positions c.search_root.result (Ok (record { round = c.in_ok-round.round; positions = positions })) c.search_root.ensures.calls (λ done same.
    round_ends c.search_root.result c.in_ok-round.round positions (Ok (record { round = c.in_ok-round.round; positions = positions })) done c.in_ok-round.was refl same)
