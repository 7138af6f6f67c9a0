use Rattle.std.proofs.Common.{map, subst, sym, ◌∙◌}
use Rattle.fw_message.specs.Entries.{entry_of}
use Rattle.fw_serve.specs.Noting.{NotesPacket}
use Rattle.fw_serve.proofs.Notes.{nothing_ready}
use Rattle.fw_serve.proofs.noting.NotingDevice.deliver.Goals as goal

pub returns-then-not-is_ready-clause-heard : goal.returns-then-not-is_ready-clause-heard
returns-then-not-is_ready-clause-heard g c =
    subst (λ s. NotesPacket s c.args.bytes.now c.go_on.new.self c.go_on.new.outbox (map entry_of c.args.history.now.items) (map entry_of c.reserve.new.self.items)) c.ready_images.ensures.same
    (subst (λ es. NotesPacket c.ready_images.new.self c.args.bytes.now c.go_on.new.self c.go_on.new.outbox (map entry_of es) (map entry_of c.reserve.new.self.items)) c.reserve.ensures.items
    (nothing_ready c.ready_images.new.self c.go_on.new.self c.args.bytes.now c.go_on.new.outbox (map entry_of c.reserve.new.self.items) c.go_on.ensures.heard c.go_on.ensures.endpoint
    (sym c.is_ready.ensures ∙ c.if-not-is_ready.true)))
