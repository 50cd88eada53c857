use Rattle.std.proofs.Common.{◌-◌, length, take, drop, map, string_bytes, sym, ◌∙◌, arith, add-one}
use Rattle.cha_words.proofs.Behind.{first_text, no_texts, order_whole, fault_whole, no_command, no_words}
use Rattle.cha_words.proofs.reading.read.Goals as goal

pub returns-in_default-clause-fault : goal.returns-in_default-clause-fault
returns-in_default-clause-fault c = rw (no_texts c.args.words.now (omega (arith, c.in_default.len_below))) no_words

pub returns-in-Ok-clause-order : goal.returns-in-Ok-clause-order
returns-in-Ok-clause-order c =
    let cut = first_text c.args.words.now c.word-item.result c.as_str.result.now c.in-len1-up.len_at_least c.word-item.is c.as_str.ensures.value in
    rw cut (order_whole c.in-Some.command c.as_str.result.now (map string_bytes (take (length c.args.words.now - 1) (drop 1 c.args.words.now))) c.in-Ok.order (sym c.command_of.ensures ∙ c.in-Some.is) c.in-Ok.ensures.order)

pub returns-in-Err-clause-fault : goal.returns-in-Err-clause-fault
returns-in-Err-clause-fault c =
    let cut = first_text c.args.words.now c.word-item.result c.as_str.result.now c.in-len1-up.len_at_least c.word-item.is c.as_str.ensures.value in
    rw (cut, add-one) (fault_whole c.in-Some.command c.as_str.result.now (map string_bytes (take (length c.args.words.now - 1) (drop 1 c.args.words.now))) c.in-Err.fault.index c.in-Err.fault.expected (sym c.command_of.ensures ∙ c.in-Some.is) c.in-Err.ensures.fault)

pub returns-in-None-clause-fault : goal.returns-in-None-clause-fault
returns-in-None-clause-fault c =
    let cut = first_text c.args.words.now c.word-item.result c.as_str.result.now c.in-len1-up.len_at_least c.word-item.is c.as_str.ensures.value in
    rw cut (no_command c.as_str.result.now (map string_bytes (take (length c.args.words.now - 1) (drop 1 c.args.words.now))) (sym c.command_of.ensures ∙ c.in-None.is))
