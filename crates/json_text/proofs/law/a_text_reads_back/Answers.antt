-- What is written reads back.
use Rattle.json_text.proofs.law.a_text_reads_back.Goals as goal
use Rattle.json_text.proofs.Reading.{reads_back}

pub returns : goal.returns
returns c = reads_back
