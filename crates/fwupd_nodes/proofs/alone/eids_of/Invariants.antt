use Rattle.std.proofs.Common.{◌≡◌, map, take}
use Rattle.fw_script.specs.Seen.{device_of}
use Rattle.fwupd_nodes.proofs.alone.eids_of.Given as goal

-- the identifiers of the devices so far
abbrev pub invariant-loop-device : goal.invariant-loop-device
invariant-loop-device l = l.eids.items ≡ map (λ d. d.endpoint.eid) (map device_of (take l.device-index l.devices))
