use Rattle.std.proofs.Common.{refl, Some, [], inr, arith, map, string_bytes, ap, ◌∙◌}
use Rattle.adjudicate.specs.declared.endings.Status.TheVariants.{NoMemory}
use Rattle.adjudicate.specs.Corrections.{noted}
use Rattle.adjudicate.proofs.OrderRuns.{not_begun}
use Rattle.cha_c.proofs.Ordered.{answered}
use Rattle.cha_c.proofs.exports.cha_run.Goals as goal

pub returns-in-Ok-clause-answers : goal.returns-in-Ok-clause-answers
returns-in-Ok-clause-answers c =
    answered _ c.args.words.now c.args.input.now c.hand_out.result c.hand_out.new.used c.hand_out.new.out c.report_on.result.status c.report_on.result.text
    (ap (map string_bytes) c.as_slice.ensures.value ∙ c.in-Ok.ensures.words) c.in-Ok.ensures.text c.report_on.ensures.ran c.report_on.ensures.usage c.report_on.ensures.untouched c.hand_out.ensures.handed

pub returns-in-Err-NoMemory-clause-answers : goal.returns-in-Err-NoMemory-clause-answers
returns-in-Err-NoMemory-clause-answers c = record {
  ran = λ order orders. (
    NoMemory,
    record { bytes = []; faults = 0 },
    (Some c.args.input.now, record { bytes = []; faults = 0 }, not_begun order (Some c.args.input.now) (Some []) 0 0 (noted (Some []) 0)),
    record {
      size = refl;
      told = λ fits. refl;
      text = λ fits. refl;
      no_room = λ short. absurd (omega arith);
    },
  );
  usage = λ e. cc;
  other = λ none. (refl, inr refl);
}
