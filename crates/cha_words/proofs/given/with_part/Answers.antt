use Rattle.std.proofs.Common.{sym, ◌∙◌, lit<}
use Rattle.std.proofs.lemmas.Str.Pattern.{split_once_first}
use Rattle.cha_words.proofs.Cutting.{value_part, flag_part, plain_part, whole_part}
use Rattle.cha_words.proofs.given.with_part.Goals as goal

pub returns-then-is_flag : goal.returns-then-is_flag
returns-then-is_flag c =
    let cut = split_once_first 61 c.args.word.now c.split_once.result c.split_once.ensures.cases (lit< tt) in
    let parts = rw c.in-Some.is at cut in
    let e = flag_part c.args.word.now c.in-Some.name.now c.in-Some-setting_of.setting parts.1 (sym c.setting_of.ensures ∙ c.in-Some-setting_of.is) (sym c.is_flag.ensures ∙ c.if-is_flag.true) in
    rw e c.with_plain.ensures

pub returns-else-is_flag : goal.returns-else-is_flag
returns-else-is_flag c =
    let cut = split_once_first 61 c.args.word.now c.split_once.result c.split_once.ensures.cases (lit< tt) in
    let parts = rw c.in-Some.is at cut in
    let e = value_part c.args.word.now c.in-Some.name.now c.in-Some.value.now c.in-Some-setting_of.setting parts.1 parts.2 (sym c.setting_of.ensures ∙ c.in-Some-setting_of.is) (sym c.is_flag.ensures ∙ c.if-is_flag.false) in
    rw e c.with_value.ensures

pub returns-in-None-setting_of : goal.returns-in-None-setting_of
returns-in-None-setting_of c =
    let cut = split_once_first 61 c.args.word.now c.split_once.result c.split_once.ensures.cases (lit< tt) in
    let parts = rw c.in-Some.is at cut in
    let e = plain_part c.args.word.now c.in-Some.name.now parts.1 (sym c.setting_of.ensures ∙ c.in-None-setting_of.is) in
    rw e c.with_plain-in-None-setting_of.ensures

pub returns-in-None : goal.returns-in-None
returns-in-None c =
    let cut = split_once_first 61 c.args.word.now c.split_once.result c.split_once.ensures.cases (lit< tt) in
    let at_end = rw c.in-None.is at cut in
    let e = whole_part c.args.word.now at_end c.requires.unnamed in
    rw e c.with_plain-in-None.ensures
