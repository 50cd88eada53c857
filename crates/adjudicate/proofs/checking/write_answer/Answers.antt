use Rattle.adjudicate.proofs.Answering.{cut_answer}
use Rattle.adjudicate.proofs.checking.write_answer.Goals as goal

pub returns : goal.returns
returns g c = record {
  done = λ e. cc;
  not_accepted = λ e. cc;
  cut = λ _. (c.in-Failed.ensures.cause.1, cut_answer c.args.bytes.items c.in-Ok.answer.line _ _ _ c.in-Failed.field-0 c.in-Ok.ensures.line c.items.ensures c.in-Failed.ensures.bytes);
  no_memory = λ e. cc;
  no_other = ((λ e. cc), (λ e. cc), (λ e. cc));
  later = c.in-Failed.ensures.cause.0;
}
