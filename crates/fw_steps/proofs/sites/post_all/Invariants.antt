use Rattle.std.proofs.Common.{◌≡◌, ◌+◌, length}
use Rattle.fw_steps.specs.Sites.{HaveRoom, sites_of}
use Rattle.fw_steps.specs.Worlds.{posts}
use Rattle.fw_steps.proofs.sites.post_all.Given as goal

-- posting the packets that are left gives the result of posting all of them, and there is room for
-- them
abbrev pub invariant-loop-packet : goal.invariant-loop-packet
invariant-loop-packet g l =
    record {
      sites : posts l.now (sites_of l.sites) l.outbox ≡ posts l.now (sites_of l.fn.sites) l.fn.outbox;
      room : HaveRoom (64 + length l.outbox) l.sites;
      count : length l.sites ≡ length l.fn.sites;
    }

abbrev pub decreases-loop-packet : goal.decreases-loop-packet
decreases-loop-packet g l = length l.outbox
