-- The output of what runs on devices.
use Rattle.std.specs.Prelude.{ℕ, ◌≡◌, ◌⊎◌, IsSomeAnd, List}
use Rattle.fw_script.specs.Configs.{ConfigOf, DeviceConfigOf}
use Rattle.fw_json.specs.Statuses.{status_in}
use Rattle.fwupd_base.specs.declared.forms.Form.{Form}
use Rattle.fwupd_watch.specs.Outputs.{FailsToWriteOutput, OutputOf, WritesOutput}
use Rattle.fwupd_nodes.specs.Setups.{AreDevices, ConfigFails, IsConfigured, SourceOf, TellsUnopened}
use Rattle.fwupd_watch.specs.Files.{FileOf}
use Rattle.fwupd_watch.specs.declared.faults.JobFault.{JobFault}
use Rattle.fwupd_watch.specs.declared.faults.JobFault.TheVariants as faults

-- A text says what runs on the devices of the configuration in a file. They have the images in
-- their stores, if they have some.
pub record IsStatus (files : List ℕ → FileOf) (source : SourceOf) (form : Form) (text : List ℕ) : Type 0 where
  pub config : ConfigOf
  pub devices : List DeviceConfigOf
  pub says : IsConfigured files source.config config
  pub stocked : AreDevices source.stores config.devices devices
  pub is : text ≡ status_in form devices

-- The text is written.
pub record PrintsStatus (files : List ℕ → FileOf) (source : SourceOf) (form : Form) (before now : OutputOf) : Type 0 where
  pub text : List ℕ
  pub status : IsStatus files source form text
  pub written : WritesOutput before now text

-- A beginning of the text is written.
pub record BreaksStatus (files : List ℕ → FileOf) (source : SourceOf) (form : Form) (told : JobFault) (before now : OutputOf) : Type 0 where
  pub is : told ≡ faults.Output
  pub text : List ℕ
  pub status : IsStatus files source form text
  pub begun : FailsToWriteOutput before now text

-- The configuration is right, and the store of a device can't be read.
pub record LacksStock (files : List ℕ → FileOf) (source : SourceOf) (told : JobFault) : Type 0 where
  pub config : ConfigOf
  pub says : IsConfigured files source.config config
  pub unopened : IsSomeAnd source.stores (λ s. TellsUnopened s config.devices told)

-- The result if that failed. If writing didn't fail, nothing is written, and memory was refused, or
-- the configuration or the store of a device can't be read.
abbrev pub StatusEnds : (files : List ℕ → FileOf) (source : SourceOf) (form : Form) (told : JobFault) (before now : OutputOf) → Type 0
StatusEnds files source form told before now =
    BreaksStatus files source form told before now
    ⊎ (((told ≡ faults.Memory) ⊎ (ConfigFails files source.config told ⊎ LacksStock files source told)) × (now ≡ before))
