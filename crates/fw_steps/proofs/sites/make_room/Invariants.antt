use Rattle.std.proofs.Common.{◌≡◌, drop, length, take}
use Rattle.fw_steps.specs.Sites.{HaveRoom, HasFullSite, sites_of}
use Rattle.fw_steps.proofs.sites.make_room.Given as goal

-- the nodes so far have room; the others are unchanged
abbrev pub invariant-loop-site : goal.invariant-loop-site
invariant-loop-site g l =
    record {
      room : HaveRoom l.count (take l.site-index l.sites);
      same : sites_of l.sites ≡ sites_of l.fn.sites;
      count : length l.sites ≡ length l.fn.sites;
      lacks : HasFullSite l.count (drop l.site-index l.sites) → HasFullSite l.count l.fn.sites;
    }
