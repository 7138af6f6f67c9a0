use Rattle.std.proofs.Common.{Some, inl, inr, refl, rules, subst, sym, ◌==◌, ◌≡◌, ◌∙◌}
use Rattle.std.specs.Prelude.{IsSome}
use Rattle.std.specs.List.{position}
use Rattle.fwupd_nodes.proofs.Lone.{only_one, place_same, whole_one}
use Rattle.fwupd_nodes.proofs.alone.only_device.Goals as goal

pub returns-in_default-clause-fault : goal.returns-in_default-clause-fault
returns-in_default-clause-fault c = inr (refl, place_same c.args.eid c.args.devices.items ∙ search rules)

pub returns-in_default-push-clause-fault : goal.returns-in_default-push-clause-fault
returns-in_default-push-clause-fault c =
    let found : position (λ d. d.endpoint.eid == c.args.eid) c.args.devices.items ≡ Some c.in-Some.place = search rules in
    inl (refl, subst IsSome (sym (place_same c.args.eid c.args.devices.items ∙ found)) refl)

pub returns-clause-only : goal.returns-clause-only
returns-clause-only c = rw (c.in-Ok.ensures.items, c.new-only.ensures.items) (only_one c.args.eid c.args.devices.items c.in-Some.place c.swap_remove.result (search rules) (search rules) c.swap_remove.ensures.value)

pub returns-clause-whole : goal.returns-clause-whole
returns-clause-whole c agent whole = rw (c.in-Ok.ensures.items, c.new-only.ensures.items) (whole_one agent c.args.devices.items c.in-Some.place c.swap_remove.result (search rules) c.swap_remove.ensures.value whole)
