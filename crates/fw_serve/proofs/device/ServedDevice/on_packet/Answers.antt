use Rattle.std.proofs.Common.{map, subst}
use Rattle.fw_message.specs.Entries.{entry_of}
use Rattle.fw_serve.specs.Serving.{IsReceipt, TakesSuch}
use Rattle.fw_serve.proofs.Calls.{receives}
use Rattle.fw_serve.proofs.device.ServedDevice.on_packet.Goals as goal

pub returns-clause-taken : goal.returns-clause-taken
returns-clause-taken g c =
    subst (λ s. TakesSuch s (IsReceipt c.args.bytes.now) (record { node = c.deliver.new.self; history = map entry_of c.deliver.new.history.items }) c.deliver.new.outbox) c.self.view_is
    (receives (record { node = c.self.inside.device; history = map entry_of c.self.inside.history.items }) (record { node = c.deliver.new.self; history = map entry_of c.deliver.new.history.items })
    c.args.bytes.now c.deliver.new.outbox c.in-Ok.ensures.heard)
