use Rattle.std.proofs.Common.{◌≡◌, drop}
use Rattle.std.specs.List.{list_all}
use Rattle.fw_steps.specs.Steps.{may_site_beat}
use Rattle.fw_steps.specs.Sites.{sites_of}
use Rattle.fw_steps.proofs.sites.may_all_beat.Given as goal

-- the result is that of the nodes that are left
abbrev pub invariant-loop-site : goal.invariant-loop-site
invariant-loop-site g l = list_all (may_site_beat l.missed) (sites_of l.sites) ≡ list_all (may_site_beat l.missed) (sites_of (drop l.site-index l.sites))
