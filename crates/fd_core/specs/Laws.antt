-- Laws of every device, for each command.
use Rattle.std.specs.Prelude.{[], ◌==◌, ◌≡◌, Bool, false, true, ℕ}
use Rattle.fd_core.specs.Codes.{cannot_be_updated}
use Rattle.fd_core.specs.Commands.{activated_by, device_after, device_answer, idle_after}
use Rattle.fd_core.specs.States.{DeviceState}
use Rattle.fwup_wire.specs.Values.{AnswerOf, CommandOf}

-- whether an answer refuses: it is a code alone, or declines the component of an UpdateComponent
abbrev pub is_refusal : AnswerOf → Bool
is_refusal (AnswerOf.Refused code) = true
is_refusal (AnswerOf.UpdateComponent response) = response.compatibility == cannot_be_updated
is_refusal a = false

-- a command that the device refuses
abbrev pub IsRefusedByDevice : DeviceState → CommandOf → Bool → Bool → Type 0
IsRefusedByDevice v c quiet works = is_refusal (device_answer v c quiet works) ≡ true

-- a command that is refused leaves the device as it is
abbrev pub RefusalsKeepTheDevice : Type 0
RefusalsKeepTheDevice = (v : DeviceState) (c : CommandOf) (quiet works : Bool) → IsRefusedByDevice v c quiet works
    → device_after v c quiet works ≡ v

-- it activates nothing
abbrev pub RefusalsActivateNothing : Type 0
RefusalsActivateNothing = (v : DeviceState) (c : CommandOf) (quiet works : Bool) → IsRefusedByDevice v c quiet works
    → activated_by v c quiet works ≡ []

-- and the count of ticks without a change continues
abbrev pub RefusalsKeepDeviceIdle : Type 0
RefusalsKeepDeviceIdle = (idle : ℕ) (v : DeviceState) (c : CommandOf) (quiet works : Bool)
    → IsRefusedByDevice v c quiet works → idle_after idle v c quiet works ≡ idle
