-- The image that a device loads, by the packets of its update, and its text.
use Rattle.std.specs.Prelude.{ℕ, ◌+◌, ◌-◌, ◌^◌, ◌==◌, ◌&&◌, ◌++◌, if◌then◌else◌, Bool, false, List, [], ◌∷◌, Option, None, Some, Result, Ok, Err, codes, min}
use Rattle.fwup_wire.specs.Values.{CommandOf}
use Rattle.fwup_wire.specs.Commands.{command_read}
use Rattle.fw_text.specs.Printing.{word_and_number}
use Rattle.fwupd_watch.specs.declared.loads.Event.{Event}
use Rattle.fwupd_watch.specs.declared.loads.Event.TheVariants as events
use Rattle.fwupd_watch.specs.declared.loads.Load.{Load}
use Rattle.mctp_wire.specs.declared.fault.WireFault.{WireFault}
use Rattle.mctp_wire.specs.declared.layout.Head.{Head}
use Rattle.pldm_base.specs.Header.{pldm_of}
use Rattle.pldm_base.specs.declared.header.PldmFault.{PldmFault}
use Rattle.pldm_base.specs.declared.header.PldmHead.{PldmHead}

-- what a request says of an update: the agent has a device load an image (UpdateComponent), or a
-- device requests bytes of it (RequestFirmwareData)
abbrev pub event_of_request : Head → Result CommandOf ℕ → Option Event
event_of_request h (Ok (CommandOf.UpdateComponent o)) = Some (events.Offers (record { device = h.dest; key = o.key; asked = 0; size = o.size }))
event_of_request h (Ok (CommandOf.RequestFirmwareData offset size)) = Some (events.Asks h.source (min (offset + size) (2 ^ 32 - 1)))
event_of_request h other = None

-- an answer begins with the completion code of success
abbrev pub is_success : (fields : List ℕ) → Bool
is_success [] = false
is_success (code ∷ rest) = code == 0

-- what a message of PLDM for Firmware Update says of an update: a request, or the good answer of a
-- device to ActivateFirmware
abbrev pub event_of_message : Head → PldmHead → (fields : List ℕ) → Option Event
event_of_message h m fields =
    if m.pldm_type == 5
    then (if m.rq then event_of_request h (command_read m.command fields) else if m.command == 0x1A && is_success fields then Some (events.Activates h.source) else None)
    else None

abbrev pub event_in : Head → Result (PldmHead × List ℕ) PldmFault → Option Event
event_in h (Err fault) = None
event_in h (Ok m) = event_of_message h m.0 m.1

-- and what a packet says of it
abbrev pub event_of : Result (Head × List ℕ) WireFault → Option Event
event_of (Err fault) = None
event_of (Ok p) = event_in p.0 (pldm_of p.1)

-- the number of the image's bytes that are requested: what is requested past its end doesn't count
abbrev pub loaded : Load → ℕ
loaded load = min load.asked load.size

-- the device, the component for which it loads an image, and the requested bytes of all
abbrev pub load_text : Load → List ℕ
load_text load =
    word_and_number (codes "device ") load.device ++ word_and_number (codes " component ") load.key.classification ++ word_and_number (codes " ") load.key.identifier
    ++ word_and_number (codes ": ") (loaded load) ++ word_and_number (codes " of ") load.size ++ codes " bytes"
