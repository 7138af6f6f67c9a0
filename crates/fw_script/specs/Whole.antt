-- Facts about every configuration: its limits, and that no node's identifier occurs twice, nor a
-- component's key in a device.
use Rattle.std.specs.Prelude.{ℕ, ◌≡◌, ◌≤◌, ◌++◌, List, [], ◌∷◌, false, length, map}
use Rattle.std.specs.List.{AllByRecursion}
use Rattle.exch_lane.specs.Lanes.{IsEid}
use Rattle.fd_core.specs.Banks.{has_key}
use Rattle.fw_script.specs.Configs.{ComponentConfigOf, DeviceConfigOf}
use Rattle.fw_steps.specs.Opening.{AreDifferent}
use Rattle.fwup_wire.specs.declared.values.Key.{Key}

-- each key differs from the keys before it
abbrev pub AreNew : (before : List Key) → List Key → Type 0
AreNew before [] = Unit {0}
AreNew before (key ∷ keys) = (has_key before key ≡ false) × AreNew (before ++ key ∷ []) keys

abbrev pub keys_of : List ComponentConfigOf → List Key
keys_of components = map (λ c. c.component.key) components

pub record IsDevice (x : DeviceConfigOf) : Type 0 where
  pub eid : IsEid x.endpoint.eid
  pub few : length x.components ≤ 3
  pub new : AreNew [] (keys_of x.components)

abbrev pub eids_of : List DeviceConfigOf → List ℕ
eids_of devices = map (λ x. x.endpoint.eid) devices

pub record AreWhole (agent : ℕ) (devices : List DeviceConfigOf) : Type 0 where
  pub agent_eid : IsEid agent
  pub some : 1 ≤ length devices
  pub few : length devices ≤ 16
  pub each : AllByRecursion IsDevice devices
  pub apart : AreDifferent (agent ∷ eids_of devices)
