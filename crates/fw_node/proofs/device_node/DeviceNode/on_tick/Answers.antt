use Rattle.std.proofs.Common.{ap, arith, length, refl}
use Rattle.pldm_exch.specs.Caller.{caller_tick}
use Rattle.fw_node.specs.Cores.{device_core, timed_device}
use Rattle.fw_node.specs.Halves.{half_with_ticked_core}
use Rattle.fw_node.specs.Nodes.{half_of}
use Rattle.fw_node.proofs.OneATick.{one_last, one_sent}
use Rattle.fw_node.proofs.device_node.DeviceNode.on_tick.Goals as goal

pub wait-requires : goal.wait-requires
wait-requires g c k =
    let empty = ap length c.requires in
    let again = one_sent (caller_tick c.self.inside.half.ends.asking.caller).1 in
    let last = one_last device_core (half_with_ticked_core device_core (half_of 0 (timed_device c.grow.new.self.core) c.grow.new.self.ends)) in
    ((refl, tt), omega (arith, empty, again, last, c.grow.ensures.few))
