use Rattle.std.proofs.Common.{ap, arith, length}
use Rattle.fwupd_words.proofs.Devices.{named_more}
use Rattle.fwupd_words.proofs.choosing.devices_among.Goals as goal

pub loop-text-preserved : goal.loop-text-preserved
loop-text-preserved c = (
  λ none. let no = ap length none in absurd (omega arith),
  named_more c.args.texts.now c.loop-text.text-index c.byte_in.result _ c.loop-text.devices c.with_device.result (omega arith) c.byte_in.ensures c.with_device.ensures c.loop-text.invariant.1,
)
