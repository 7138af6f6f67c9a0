-- The components of a device and its bank: no event changes them.
use Rattle.std.specs.Prelude.{◌≡◌, Bool, List, Option, map, true}
use Rattle.fd_core.specs.Banks.{HaveKeysOnce, has_key}
use Rattle.fd_core.specs.Commands.{device_after}
use Rattle.fd_core.specs.Images.{key_of}
use Rattle.fd_core.specs.States.{DeviceState, Phase}
use Rattle.fd_core.specs.Steps.{device_restart, device_timeout, verdict_after}
use Rattle.fd_core.specs.Wishes.{device_learn}
use Rattle.fd_core.specs.declared.states.Verdict.{Verdict}
use Rattle.fwup_wire.specs.Values.{AnswerOf, CommandOf}
use Rattle.fwup_wire.specs.declared.values.Key.{Key}

-- the component that is being updated has one of these keys
abbrev pub IsOneOf : List Key → Phase → Type 0
IsOneOf keys (Phase.Download u w p) = has_key keys w.key ≡ true
IsOneOf keys (Phase.Verify u w p) = has_key keys w.key ≡ true
IsOneOf keys (Phase.Apply u w p) = has_key keys w.key ≡ true
IsOneOf keys p = Unit {0}

-- The bank has the device's components, in the same order; each key occurs once; and the component
-- that is being updated is one of them.
pub record HasComponents (v : DeviceState) : Type 0 where
  pub keys : map key_of v.rows ≡ map (λ c. c.key) v.components
  pub apart : HaveKeysOnce (map key_of v.rows)
  pub known : IsOneOf (map key_of v.rows) v.phase

abbrev pub CommandsKeepComponents : Type 0
CommandsKeepComponents = (v : DeviceState) (c : CommandOf) (quiet works : Bool) → HasComponents v → HasComponents (device_after v c quiet works)

abbrev pub AnswersKeepComponents : Type 0
AnswersKeepComponents = (v : DeviceState) (a : Option AnswerOf) (works : Bool) → HasComponents v → HasComponents (device_learn v a works)

abbrev pub VerdictsKeepComponents : Type 0
VerdictsKeepComponents = (v : DeviceState) (verdict : Verdict) (works : Bool) → HasComponents v → HasComponents (verdict_after v verdict works)

abbrev pub TimeOutsKeepComponents : Type 0
TimeOutsKeepComponents = (v : DeviceState) → HasComponents v → HasComponents (device_timeout v)

abbrev pub RestartsKeepComponents : Type 0
RestartsKeepComponents = (v : DeviceState) → HasComponents v → HasComponents (device_restart v)
