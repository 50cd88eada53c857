use Rattle.std.proofs.Common.{sym, ◌∙◌}
use Rattle.std.proofs.lemmas.Bool.{true≢false}
use Rattle.cha_board.proofs.Contents.{subset_at}
use Rattle.mob_solve.proofs.Reaches.{loosened_within, loosened_total}
use Rattle.mob_solve.proofs.reach.Reach.loosen.Goals as goal

pub returns-then-within-clause-there : goal.returns-then-within-clause-there
returns-then-within-clause-there c = λ still o small h.
    subset_at c.args.origins c.args.self.now.loose (sym c.within.ensures ∙ c.if-within.true) o small h

pub returns-clause-change : goal.returns-clause-change
returns-clause-change c = record {
  still = λ e. absurd (true≢false e);
  more = λ e. loosened_total c.args.self.now.rows c.args.self.now.loose c.args.origins c.joined-self.result c.joined-self.ensures (sym c.within.ensures ∙ c.if-within.false);
}

pub returns-clause-inside : goal.returns-clause-inside
returns-clause-inside c = λ r given within.
    loosened_within c.args.self.now.rows c.args.self.now.loose c.args.origins c.joined-self.result r c.joined-self.ensures given within
