use Rattle.std.proofs.Common.{ap, length, map, subst, sym, ◌∙◌}
use Rattle.fw_script.specs.Seen.{device_of}
use Rattle.fw_script.specs.Whole.{AreWhole}
use Rattle.fwupd_nodes.proofs.Packed.{all_written}
use Rattle.fwupd_nodes.proofs.setups.open_kept.Goals as goal

pub returns-in-Ok-clause-whole : goal.returns-in-Ok-clause-whole
returns-in-Ok-clause-whole g c agent whole =
    subst (λ ds. AreWhole agent (map device_of ds))
    (sym (all_written c.args.devices.now.len c.args.devices.now.items c.open_stores.new.devices (c.open_stores.auto.devices ∙ ap length c.as_mut_slice.ensures.value) c.args.devices.now.ok.0))
    (c.in-Ok.ensures.whole agent (subst (λ ds. AreWhole agent (map device_of ds)) (sym c.as_mut_slice.ensures.value) whole))
