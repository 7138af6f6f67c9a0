use Rattle.std.proofs.Common.{◌≡◌, ◌≢◌, ◌∷◌, [], ap, map, sym}
use Rattle.std.proofs.lemmas.List.{map-append}
use Rattle.fw_message.specs.Entries.{entry_of}
use Rattle.fw_message.specs.WorldLaws.{new_node}
use Rattle.fw_message.specs.Worlds.{MessageWorldOf}
use Rattle.fw_message.proofs.Apart.{absent_more}
use Rattle.fw_message.proofs.Openings.{opens_more}
use Rattle.fw_message.proofs.messages.MessageWorld.add.Goals as goal

pub returns-clause-opens : goal.returns-clause-opens
returns-clause-opens g c =
    let w : MessageWorldOf = record { agent = c.self.inside.agent; packages = c.self.inside.packages.now; nodes = map (λ p. p.node) c.self.inside.pairs.items; history = map entry_of c.self.inside.history.items } in
    rw (sym c.self.view_is, c.in-Ok.ensures.items, map-append (λ p. p.node) c.self.inside.pairs.items (c.new-pair.result ∷ []), c.new-pair.ensures.node)
    (opens_more w c.args.eid c.args.device.device)

-- no device has the agent's identifier
pub invariant_of-self-2 : goal.invariant_of-self-2
invariant_of-self-2 g c =
    let agent : c.self.inside.agent ≡ c.args.self.now.world.agent = ap (λ w. w.world.agent) c.self.view_is in
    let apart : c.args.eid ≢ c.self.inside.agent = rw agent c.requires.apart in
    rw (c.in-Ok.ensures.items, map-append (λ p. p.node) c.self.inside.pairs.items (c.new-pair.result ∷ []), c.new-pair.ensures.node)
    (absent_more (map (λ p. p.node) c.self.inside.pairs.items) (new_node c.args.eid c.args.device.device) c.self.inside.agent c.self.invariant apart)
