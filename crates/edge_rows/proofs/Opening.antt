-- The nodes of the tests' worlds.
use Rattle.std.proofs.Common.{◌≡◌, ℕ, refl}
use Rattle.std.specs.List.{AllByRecursion}
use Rattle.std.proofs.lemmas.List.Elements.{All-from_recursion}
use Rattle.mctp_wire.specs.declared.unit.Unit.{«Unit»}
use Rattle.mctp_ctl.specs.declared.answers.Endpoint.{Endpoint}
use Rattle.exch_lane.specs.Lanes.{IsEid}
use Rattle.fd_core.specs.Components.{HasComponents}
use Rattle.fd_core.specs.States.{DeviceOf, Phase}
use Rattle.fw_message.specs.Laws.{IsUnapplied}
use Rattle.fw_node.specs.Nodes.{new_device_node}
use Rattle.fw_steps.specs.Opening.{IsNewNode}

pub new_node : (u : «Unit») (endpoint : Endpoint) (agent : ℕ) (d : DeviceOf) → d.device.unit ≡ u → HasComponents d.device → d.device.phase ≡ Phase.Idle → AllByRecursion IsUnapplied d.device.rows → IsEid endpoint.eid
    → IsNewNode u agent (new_device_node endpoint agent d)
new_node u endpoint agent d unit components idle unapplied eid =
    record { device = d; is = refl; unit = unit; idle = idle; unapplied = All-from_recursion IsUnapplied d.device.rows unapplied; components = components; eid = eid }
