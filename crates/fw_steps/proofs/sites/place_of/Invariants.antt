use Rattle.std.proofs.Common.{◌≡◌, drop}
use Rattle.fw_steps.specs.Sites.{sites_of}
use Rattle.fw_steps.specs.Worlds.{place_from}
use Rattle.fw_steps.proofs.sites.place_of.Given as goal

-- the device is among those that are left
abbrev pub invariant-loop-place : goal.invariant-loop-place
invariant-loop-place g l = place_from 0 (sites_of l.sites) l.eid ≡ place_from l.place (sites_of (drop l.place l.sites)) l.eid
