use Rattle.std.proofs.Common.{◌≤◌, length, subst}
use Rattle.std.specs.List.{AllByRecursion}
use Rattle.fw_steps.specs.Widths.{HasDescriptorListWidths, HasKeyAndLabelWidths}
use Rattle.fw_steps.proofs.Fit.{has_widths_as_new}
use Rattle.fw_steps.proofs.fitting.device_fits.Goals as goal

pub returns : goal.returns
returns g c =
    has_widths_as_new c.args.device.now.device (subst HasDescriptorListWidths c.descriptors.ensures c.descriptor_list_fits.ensures)
    (subst (AllByRecursion (HasKeyAndLabelWidths c.args.device.now.device.rows)) c.keys.ensures.keys (subst (λ rows. AllByRecursion (HasKeyAndLabelWidths rows) c.keys.result.now) c.bank.ensures.rows c.component_keys_fit.ensures))
    (subst (λ cs. length cs ≤ 3) c.keys.ensures.keys c.keys.ensures.few)
