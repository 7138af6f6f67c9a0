use Rattle.std.proofs.Common.{◌≡◌, ◌++◌, [], drop, length, map, take}
use Rattle.fw_steps.specs.Sites.{HaveRoom, sites_of}
use Rattle.fw_steps.specs.Worlds.{site_after_tick}
use Rattle.fw_steps.proofs.sites.pass_all.Given as goal

-- the tick has passed for the nodes so far, and the others have room
abbrev pub invariant-loop-site : goal.invariant-loop-site
invariant-loop-site g l =
    record {
      sites : sites_of l.sites ≡ map (site_after_tick l.missed l.now) (take l.site-index (sites_of l.fn.sites)) ++ drop l.site-index (sites_of l.fn.sites);
      room : HaveRoom 64 (drop l.site-index l.sites);
      outbox : l.outbox ≡ [];
      count : length l.sites ≡ length l.fn.sites;
    }
