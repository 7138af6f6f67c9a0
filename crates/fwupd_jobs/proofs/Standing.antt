-- What runs on a configuration's devices.
use Rattle.std.proofs.Common.{◌≡◌, ◌∙◌, ◌⊎◌, ℕ, List, inl, inr, map, ap, refl}
use Rattle.std.specs.Prelude.{IsSomeAnd}
use Rattle.fw_script.specs.Seen.{config_seen, device_of}
use Rattle.fw_script.specs.declared.config.Config.{Config}
use Rattle.fw_script.specs.declared.config.DeviceConfig.{DeviceConfig}
use Rattle.fw_json.specs.Statuses.{status_in}
use Rattle.fwupd_base.specs.declared.forms.Form.{Form}
use Rattle.fwupd_watch.specs.Outputs.{FailsToWriteOutput, OutputOf}
use Rattle.fwupd_jobs.specs.Statuses.{IsStatus, StatusEnds}
use Rattle.fwupd_nodes.specs.Setups.{AreDevices, ConfigFails, IsConfigured, SourceOf, TellsUnopened}
use Rattle.fwupd_watch.specs.Files.{FileOf}
use Rattle.fwupd_watch.specs.declared.faults.JobFault.{JobFault}
use Rattle.fwupd_watch.specs.declared.faults.JobFault.TheVariants as faults

-- The text for the devices with their stored images.
pub stands : (files : List ℕ → FileOf) (source : SourceOf) (form : Form) (config : Config) (stocked devices : List DeviceConfig) (text : List ℕ) → IsConfigured files source.config (config_seen config)
    → AreDevices source.stores (map device_of config.devices.items) (map device_of stocked) → devices ≡ stocked → text ≡ status_in form (map device_of devices) → IsStatus files source form text
stands files source form config stocked devices text says images all told = record {
  config = config_seen config;
  devices = map device_of stocked;
  says = says;
  stocked = images;
  is = told ∙ ap (λ xs. status_in form (map device_of xs)) all;
}

-- The store of a device can't be read.
pub lacks_stock : (files : List ℕ → FileOf) (source : SourceOf) (form : Form) (config : Config) (told : JobFault) (before : OutputOf) → IsConfigured files source.config (config_seen config)
    → (told ≡ faults.Memory) ⊎ IsSomeAnd source.stores (λ s. TellsUnopened s (map device_of config.devices.items) told) → StatusEnds files source form told before before
lacks_stock files source form config told before says (inl e) = inr (inl e, refl)
lacks_stock files source form config told before says (inr u) = inr (inr (inr (record { config = config_seen config; says = says; unopened = u })), refl)

-- The configuration can't be read.
pub lacks_config : (files : List ℕ → FileOf) (source : SourceOf) (form : Form) (told : JobFault) (before : OutputOf) → (told ≡ faults.Memory) ⊎ ConfigFails files source.config told
    → StatusEnds files source form told before before
lacks_config files source form told before (inl e) = inr (inl e, refl)
lacks_config files source form told before (inr f) = inr (inr (inl f), refl)

-- The text isn't written as a whole.
pub status_breaks : (files : List ℕ → FileOf) (source : SourceOf) (form : Form) (text : List ℕ) (told : JobFault) (before now : OutputOf) → told ≡ faults.Output → IsStatus files source form text
    → FailsToWriteOutput before now text → StatusEnds files source form told before now
status_breaks files source form text told before now is status begun = inl (record { is = is; text = text; status = status; begun = begun })
