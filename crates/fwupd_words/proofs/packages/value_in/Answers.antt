use Rattle.std.proofs.Common.{◌∙◌, None, ap, arith, sym}
use Rattle.std.proofs.lemmas.Str.Pattern.{split_parts}
use Rattle.clap.proofs.LexerLemmas.{name_and_value-without}
use Rattle.fwupd_words.specs.Packages.{common_value, value_of_parts}
use Rattle.fwupd_words.proofs.packages.value_in.Goals as goal

pub returns-in-Some-number_in : goal.returns-in-Some-number_in
returns-in-Some-number_in c =
    let lacks = split_parts 61 c.args.text.now None c.in-None.ensures.cases (omega arith) in
    ap common_value (sym c.in-Some-number_in.is ∙ c.number_in-in-None.ensures) ∙ sym (ap value_of_parts (name_and_value-without c.args.text.now lacks))

pub returns-in-None-number_in : goal.returns-in-None-number_in
returns-in-None-number_in c =
    let lacks = split_parts 61 c.args.text.now None c.in-None.ensures.cases (omega arith) in
    ap common_value (sym c.in-None-number_in.is ∙ c.number_in-in-None.ensures) ∙ sym (ap value_of_parts (name_and_value-without c.args.text.now lacks))
