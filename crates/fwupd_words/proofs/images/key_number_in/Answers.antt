use Rattle.std.proofs.Common.{arith}
use Rattle.fwupd_words.proofs.Chosen.{number_other, number_read}
use Rattle.fwupd_words.proofs.images.key_number_in.Goals as goal

pub returns-in_default : goal.returns-in_default
returns-in_default c = number_other 0 65535 c.args.text.now (λ numeral least most. c.in_default.ensures.value.0 (numeral, omega arith))

pub returns : goal.returns
returns c =
    let read = c.in-Ok.ensures.value.0 in
    let fits = read.0.1 in
    let is = read.1 in
    number_read 0 65535 c.args.text.now c.in-Ok.number read.0.0 is (omega arith) (omega arith)
