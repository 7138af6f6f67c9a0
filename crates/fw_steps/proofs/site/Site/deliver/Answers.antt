use Rattle.std.proofs.Common.{◌∙◌, map, ap, subst, sym}
use Rattle.fw_message.specs.Entries.{entry_of}
use Rattle.fw_steps.specs.Sites.{NotesPacketAtSite}
use Rattle.fw_steps.proofs.Noting.{nothing_ready}
use Rattle.fw_steps.proofs.site.Site.deliver.Goals as goal

pub returns-then-not-is_ready-clause-heard : goal.returns-then-not-is_ready-clause-heard
returns-then-not-is_ready-clause-heard g c =
    subst (λ s. NotesPacketAtSite c.args.now s c.args.bytes.now c.go_on.new.self.site (map entry_of c.args.history.now.items) (map entry_of c.reserve.new.self.items))
    (c.make_room.ensures.same ∙ ap (λ s. s.site) c.ready_images.ensures.site)
    (subst (λ es. NotesPacketAtSite c.args.now c.make_room.new.self.site c.args.bytes.now c.go_on.new.self.site (map entry_of es) (map entry_of c.reserve.new.self.items)) c.reserve.ensures.items
    (nothing_ready c.args.now c.make_room.new.self.site c.go_on.new.self.site c.args.bytes.now (map entry_of c.reserve.new.self.items) c.go_on.ensures.heard
    (sym c.is_ready.ensures ∙ c.if-not-is_ready.true)))
