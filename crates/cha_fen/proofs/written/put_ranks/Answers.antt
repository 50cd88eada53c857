use Rattle.std.proofs.Common.{◌≡◌, ◌+◌, ◌-◌, ◌*◌, ◌∙◌, arith}
use Rattle.cha_fen.proofs.Writing.{one_more_rank, last_rank, no_rank}
use Rattle.cha_fen.proofs.written.put_ranks.Goals as goal

pub loop-rank-preserved-in-Continue-branch-2 : goal.loop-rank-preserved-in-Continue-branch-2
loop-rank-preserved-in-Continue-branch-2 c =
    let rank = c.loop-rank.rank in
    let less = rank - 1 in
    let before : less + 1 ≡ rank = omega (arith, c.loop-rank-test.true) in
    let size : 8 * less + 8 - 8 * less ≡ 8 = omega arith in
    record {
      text = one_more_rank c.loop-rank.text c.put_row.new.text c.push.new.self rank less (8 * less + 8 - 8 * less) c.args.men.now before c.if-rank-gt0.true size c.in_ok-put_row.ensures c.in_ok-push.ensures.ok ∙ c.loop-rank.invariant.text;
      few = omega (arith, c.loop-rank.invariant.few);
    }

pub loop-rank-preserved : goal.loop-rank-preserved
loop-rank-preserved c =
    let rank = c.loop-rank.rank in
    let less = rank - 1 in
    let before : less + 1 ≡ rank = omega (arith, c.loop-rank-test.true) in
    let none : less ≡ 0 = omega (arith, c.if-rank-gt0.false) in
    let size : 8 * less + 8 - 8 * less ≡ 8 = omega arith in
    record {
      text = last_rank c.loop-rank.text c.put_row.new.text rank less (8 * less + 8 - 8 * less) c.args.men.now before none size c.in_ok-put_row.ensures ∙ c.loop-rank.invariant.text;
      few = omega (arith, c.loop-rank.invariant.few);
    }

pub returns : goal.returns
returns c =
    let done : c.loop-rank.rank ≡ 0 = omega (arith, c.loop-rank-test.false) in
    no_rank c.loop-rank.text _ c.loop-rank.rank c.args.men.now done c.loop-rank.invariant.text
