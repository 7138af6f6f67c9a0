use Rattle.std.proofs.Common.{arith}
use Rattle.fwupd_words.proofs.Chosen.{number_other, number_read}
use Rattle.fwupd_words.proofs.packages.eid_in.Goals as goal

pub returns-in_default : goal.returns-in_default
returns-in_default c = number_other 8 254 c.args.text.now (λ numeral least most. c.in_default.ensures.value.0 (numeral, omega arith))

pub returns : goal.returns
returns c =
    let read = c.in-Ok.ensures.value.0 in
    number_read 8 254 c.args.text.now c.in-Ok.eid read.0.0 read.1 (omega arith) (omega arith)
