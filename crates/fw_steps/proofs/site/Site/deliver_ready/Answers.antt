use Rattle.std.proofs.Common.{◌∙◌, ◌++◌, map, ap, subst, sym}
use Rattle.fd_core.specs.Images.{applied_keyed_images}
use Rattle.fw_message.specs.Entries.{entry_of, keyed_image_of}
use Rattle.fw_message.specs.Headline.{EntryOf}
use Rattle.fw_message.specs.Worlds.{noted_of}
use Rattle.fw_steps.specs.Sites.{NotesPacketAtSite}
use Rattle.fw_steps.proofs.Noting.{activation_noted, nothing_active, still_ready}
use Rattle.fw_steps.proofs.site.Site.deliver_ready.Goals as goal

pub returns-then-is_activated-clause-heard : goal.returns-then-is_activated-clause-heard
returns-then-is_activated-clause-heard g c =
    activation_noted c.args.now c.args.self.now.site c.go_on.new.self.site c.args.bytes.now (map entry_of c.args.history.now.items) _ (map keyed_image_of c.args.images.items)
    c.go_on.ensures.heard
    c.requires.ready
    (sym c.is_activated.ensures ∙ c.if-is_activated.true)
    c.requires.images
    (c.note_activated.ensures
    ∙ ap (λ d. map entry_of c.args.history.now.items ++ map (λ p. noted_of d (EntryOf.Activated p)) (map keyed_image_of c.args.images.items))
    (c.eid.ensures ∙ ap (λ e. e.eid) c.go_on.ensures.endpoint))

pub keep-requires-clause-images : goal.keep-requires-clause-images
keep-requires-clause-images g c =
    c.requires.images
    ∙ ap applied_keyed_images (sym (still_ready c.args.now c.args.self.now.site c.go_on.new.self.site c.args.bytes.now c.go_on.ensures.heard c.requires.ready (sym c.is_ready.ensures ∙ c.if-is_ready.true)))

pub returns-then-is_ready-clause-heard : goal.returns-then-is_ready-clause-heard
returns-then-is_ready-clause-heard g c =
    subst (λ s. NotesPacketAtSite c.args.now c.args.self.now.site c.args.bytes.now s.site (map entry_of c.args.history.now.items) (map entry_of c.args.history.now.items)) (sym c.keep.ensures)
    (nothing_active c.args.now c.args.self.now.site c.go_on.new.self.site c.args.bytes.now (map entry_of c.args.history.now.items) c.go_on.ensures.heard (sym c.is_activated.ensures ∙ c.if-is_activated.false))

pub returns-else-is_ready-clause-heard : goal.returns-else-is_ready-clause-heard
returns-else-is_ready-clause-heard g c =
    nothing_active c.args.now c.args.self.now.site c.go_on.new.self.site c.args.bytes.now (map entry_of c.args.history.now.items) c.go_on.ensures.heard (sym c.is_activated.ensures ∙ c.if-is_activated.false)
