-- The values that a configuration and a schedule of the program represent.
use Rattle.std.specs.Prelude.{ℕ, List, map, Result, string_bytes}
use Rattle.std.specs.Result.{result_map_both}
use Rattle.arrayvec.specs.declared.array_vec.ArrayVec.{ArrayVec}
use Rattle.fw_script.specs.declared.faults.ScriptCause.{ScriptCause}
use Rattle.fw_script.specs.Configs.{ComponentConfigOf, ConfigOf, DeviceConfigOf}
use Rattle.fw_script.specs.declared.config.ComponentConfig.{ComponentConfig}
use Rattle.fw_script.specs.declared.config.Config.{Config}
use Rattle.fw_script.specs.declared.config.DeviceConfig.{DeviceConfig}

abbrev pub component_of : ComponentConfig → ComponentConfigOf
component_of c = record { component = c.component; label = c.label; image = c.image.items }

abbrev pub device_of : DeviceConfig → DeviceConfigOf
device_of d = record { endpoint = d.endpoint; descriptors = d.descriptors; components = map component_of d.components.items }

abbrev pub config_seen : Config → ConfigOf
config_seen c = record { agent = c.agent; unit = c.unit; devices = map device_of c.devices.items; packages = map (λ p. string_bytes p) c.packages.items }

-- the identifiers of a line, or its fault
abbrev pub seen_eids : Result (ArrayVec ℕ 17 (Unit {0})) ScriptCause → Result (List ℕ) ScriptCause
seen_eids eids = result_map_both (λ e. e.items) (λ cause. cause) eids
