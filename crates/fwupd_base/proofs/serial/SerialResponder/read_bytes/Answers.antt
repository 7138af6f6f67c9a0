use Rattle.std.proofs.Common.{◌∙◌}
use Rattle.fwupd_base.proofs.SerialLines.{after_more, text_more}
use Rattle.fwupd_base.proofs.serial.SerialResponder.read_bytes.Goals as goal

pub loop-byte-preserved : goal.loop-byte-preserved
loop-byte-preserved c = record {
  text =
      text_more c.loop-byte.self c.read_byte.new.self c.args.bytes.now c.loop-byte.text.items c.read_byte.new.text.items c.loop-byte.byte-index 0 c.loop-byte-test.true c.in-Ok.ensures
      ∙ c.loop-byte.invariant.text;
  after =
      after_more c.loop-byte.self c.read_byte.new.self c.args.bytes.now c.loop-byte.text.items c.read_byte.new.text.items c.loop-byte.byte-index 0 c.loop-byte-test.true c.in-Ok.ensures
      ∙ c.loop-byte.invariant.after;
}
