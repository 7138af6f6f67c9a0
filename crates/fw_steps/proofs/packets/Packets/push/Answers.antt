use Rattle.std.proofs.Common.{◌≡◌, ◌≤◌, ◌++◌, ◌∷◌, ◌∙◌, [], arith, length, ap, subst, sym}
use Rattle.exch_lane.specs.Steps.{sent_at}
use Rattle.fw_steps.specs.declared.packets.Place.{Place}
use Rattle.fw_steps.proofs.Spans.{pushed, pushed_ends, room_pushed, worked}
use Rattle.fw_steps.proofs.packets.Packets.push.Goals as goal

bytes_behind : (c : goal.After-push) → c.extend_from_slice.new.self.items ≡ c.self.inside.bytes.items ++ c.args.bytes.now
bytes_behind c =
    let room = room_pushed _ _ (subst (λ r. 1 ≤ r.room) (sym c.self.view_is) c.requires.room) in
    c.extend_from_slice.ensures.items ∙ worked c.extend_from_slice.result _ _ (c.extend_from_slice.ensures.succeeds (omega (arith, room.1, c.requires.short)))

abbrev place_of : (c : goal.After-push) → Place
place_of c = record { date = c.args.date; end = length c.as_slice-end.result.now }

place_behind : (c : goal.After-push) → c.push.new.self.items ≡ c.self.inside.places.items ++ place_of c ∷ []
place_behind c =
    let room = room_pushed _ _ (subst (λ r. 1 ≤ r.room) (sym c.self.view_is) c.requires.room) in
    c.push.ensures.items ∙ worked c.push.result _ _ (c.push.ensures.succeeds (omega (arith, room.0)))

pub invariant_of-self : goal.invariant_of-self
invariant_of-self c =
    pushed_ends c.self.inside.places.items c.push.new.self.items c.self.inside.bytes.items c.args.bytes.now c.extend_from_slice.new.self.items (place_of c) c.self.invariant
    (place_behind c) (bytes_behind c) (ap length c.as_slice-end.ensures.value) c.requires.short

pub returns-clause-packets : goal.returns-clause-packets
returns-clause-packets c =
    pushed c.self.inside.places.items c.push.new.self.items c.self.inside.bytes.items c.args.bytes.now c.extend_from_slice.new.self.items (place_of c) c.self.invariant
    (place_behind c) (bytes_behind c) (ap length c.as_slice-end.ensures.value)
    ∙ ap (λ v. v.packets ++ sent_at c.args.date c.args.bytes.now ∷ []) c.self.view_is
