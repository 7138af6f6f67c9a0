use Rattle.std.proofs.Common.{◌∙◌, ◌++◌, map, ap, subst, sym}
use Rattle.fd_core.specs.Images.{applied_keyed_images}
use Rattle.fw_message.specs.Entries.{entry_of, keyed_image_of}
use Rattle.fw_message.specs.Headline.{EntryOf}
use Rattle.fw_message.specs.Worlds.{noted_of}
use Rattle.fw_serve.specs.Noting.{NotesPacket}
use Rattle.fw_serve.proofs.Notes.{activation_noted, nothing_active, still_ready}
use Rattle.fw_serve.proofs.noting.NotingDevice.deliver_ready.Goals as goal

pub returns-then-is_activated : goal.returns-then-is_activated
returns-then-is_activated g c = record {
  heard = activation_noted c.args.self.now c.go_on.new.self c.args.bytes.now c.go_on.new.outbox (map entry_of c.args.history.now.items) _ (map keyed_image_of c.args.images.items)
      c.go_on.ensures.heard
      c.go_on.ensures.endpoint
      c.requires.ready
      (sym c.is_activated.ensures ∙ c.if-is_activated.true)
      c.requires.images
      (c.note_activated.ensures
      ∙ ap (λ d. map entry_of c.args.history.now.items ++ map (λ p. noted_of d (EntryOf.Activated p)) (map keyed_image_of c.args.images.items))
      (c.eid.ensures ∙ ap (λ e. e.eid) c.go_on.ensures.endpoint));
}

pub keep-requires-clause-images : goal.keep-requires-clause-images
keep-requires-clause-images g c =
    c.requires.images
    ∙ ap applied_keyed_images (sym (still_ready c.args.self.now c.go_on.new.self c.args.bytes.now c.go_on.new.outbox c.go_on.ensures.heard c.go_on.ensures.endpoint c.requires.ready (sym c.is_ready.ensures ∙ c.if-is_ready.true)))

pub returns-then-is_ready : goal.returns-then-is_ready
returns-then-is_ready g c = record {
  heard = subst (λ s. NotesPacket c.args.self.now c.args.bytes.now s c.go_on.new.outbox (map entry_of c.args.history.now.items) (map entry_of c.args.history.now.items)) (sym c.keep.ensures)
      (nothing_active c.args.self.now c.go_on.new.self c.args.bytes.now c.go_on.new.outbox (map entry_of c.args.history.now.items) c.go_on.ensures.heard c.go_on.ensures.endpoint (sym c.is_activated.ensures ∙ c.if-is_activated.false));
}

pub returns-else-is_ready : goal.returns-else-is_ready
returns-else-is_ready g c = record {
  heard = nothing_active c.args.self.now c.go_on.new.self c.args.bytes.now c.go_on.new.outbox (map entry_of c.args.history.now.items) c.go_on.ensures.heard c.go_on.ensures.endpoint (sym c.is_activated.ensures ∙ c.if-is_activated.false);
}
