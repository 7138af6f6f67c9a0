use Rattle.std.proofs.Common.{◌≡◌, get_or, sym, ◌∙◌, arith}
use Rattle.std.proofs.lemmas.Bool.Decides.{nat_tests}
use Rattle.std.proofs.lemmas.Int.Digits.{digits_value_more}
use Rattle.std.specs.Char.{digit_value}
use Rattle.fw_store.proofs.Decimals.{more_digits, too_large}
use Rattle.fw_store.proofs.reading.digits.Goals as goal

pub returns-in_err-checked_mul : goal.returns-in_err-checked_mul
returns-in_err-checked_mul c =
    c.from_residual.ensures ∙ sym (too_large _ _ c.loop-byte-test.true (omega (arith, c.in_err-checked_mul.ensures, c.loop-byte.invariant.written)))

pub returns-in_err-value : goal.returns-in_err-value
returns-in_err-value c =
    let digit : digit_value (get_or c.args.word.now c.loop-byte.byte-index 0) ≡ c.from.result = grind (arith, nat_tests) in
    c.from_residual-in_err-value.ensures ∙ sym (too_large _ _ c.loop-byte-test.true (omega (arith, c.in_err-value.ensures, c.in_ok-checked_mul.ensures.1, c.loop-byte.invariant.written)))

pub loop-byte-preserved : goal.loop-byte-preserved
loop-byte-preserved c =
    let digit : digit_value (get_or c.args.word.now c.loop-byte.byte-index 0) ≡ c.from.result = grind (arith, nat_tests) in
    record {
      written = omega (arith, digits_value_more 10 c.args.word.now _ c.loop-byte-test.true, c.in_ok-value.ensures.1, c.in_ok-checked_mul.ensures.1, c.loop-byte.invariant.written);
      digits = more_digits _ _ c.loop-byte-test.true c.loop-byte.invariant.digits (sym c.if-not-is_ascii_digit.ensures.value);
      fits = omega (arith, c.in_ok-value.ensures.0, c.in_ok-value.ensures.1);
    }
