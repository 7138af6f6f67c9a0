use Rattle.std.proofs.Common.{◌∙◌, arith, subst, sym}
use Rattle.json.specs.Print.{IsNumber}
use Rattle.fw_json.proofs.Numbers.{next_number}
use Rattle.fw_json.proofs.fields.push_next.Goals as goal

pub number-requires : goal.number-requires
number-requires c = subst IsNumber (sym (c.deref.ensures ∙ c.in_ok-digits.ensures.ok)) (next_number c.args.place (omega arith))
