-- A session's pending command.
use Rattle.std.specs.Prelude.{None, Option, Some, true, if◌then◌else◌, length, ◌+◌, ◌==◌, ℕ}
use Rattle.fw_package.specs.Choice.{component_at, record_at}
use Rattle.fw_package.specs.Package.{PackageText}
use Rattle.fwup_wire.specs.Transfers.{transfer_size}
use Rattle.fwup_wire.specs.Values.{CommandOf}
use Rattle.fwup_wire.specs.declared.values.TransferFlag.{TransferFlag}
use Rattle.fwup_wire.specs.declared.values.TransferFlag.TheVariants as flags
use Rattle.mctp_wire.specs.declared.unit.Unit.{«Unit»}
use Rattle.ua_core.specs.Lent.{is_forced, key_of, sent_size, sent_text, sent_version}
use Rattle.ua_core.specs.Session.{JobOf, SessionOf, Stage}
use Rattle.ua_core.specs.declared.planned.Planned.{Planned}

-- the flag of an entry in a table of `count` entries, `left` of which come after it
abbrev pub flag_at : (left count : ℕ) → TransferFlag
flag_at left count =
    if count == 1 then flags.StartAndEnd
    else if left + 1 == count then flags.Start
    else if left == 0 then flags.End
    else flags.Middle

-- RequestUpdate: pieces of the unit's transfer size, one request outstanding, no package data
abbrev pub request_wish : «Unit» → PackageText → JobOf → CommandOf
request_wish unit p j =
    CommandOf.RequestUpdate (record {
      transfer_size = transfer_size unit;
      components = length j.plan;
      outstanding = 1;
      package_data_length = 0;
      image_set = sent_text (record_at p j.chosen).set_text;
    })

-- PassComponentTable of a component of the plan, after which the given number is left
abbrev pub entry_wish : PackageText → JobOf → Planned → ℕ → CommandOf
entry_wish p j i left =
    CommandOf.PassComponentTable (record {
      flag = flag_at left (length j.plan);
      key = key_of (component_at p i.component);
      index = i.index;
      version = sent_version (component_at p i.component);
    })

-- UpdateComponent of a component
abbrev pub offer_wish : PackageText → Planned → CommandOf
offer_wish p i =
    CommandOf.UpdateComponent (record {
      key = key_of (component_at p i.component);
      index = i.index;
      version = sent_version (component_at p i.component);
      size = sent_size (component_at p i.component);
      force = is_forced (component_at p i.component);
    })

-- the pending command of each stage
abbrev pub stage_wish : «Unit» → PackageText → Stage → Option CommandOf
stage_wish unit p Stage.Query = Some CommandOf.QueryDeviceIdentifiers
stage_wish unit p (Stage.Params _) = Some CommandOf.GetFirmwareParameters
stage_wish unit p (Stage.ClearOld _) = Some CommandOf.CancelUpdate
stage_wish unit p (Stage.Request j) = Some (request_wish unit p j)
stage_wish unit p (Stage.Pass j i left _) = Some (entry_wish p j i (length left))
stage_wish unit p (Stage.Update t) = Some (offer_wish p t.at_hand)
stage_wish unit p (Stage.Activate _) = Some (CommandOf.ActivateFirmware true)
stage_wish unit p Stage.Cancelling = Some CommandOf.CancelUpdate
stage_wish unit p _ = None

-- the pending command of a session
abbrev pub agent_wish : PackageText → SessionOf → Option CommandOf
agent_wish p s = stage_wish s.unit p s.stage
