use Rattle.std.proofs.Common.{◌≡◌, ◌++◌, length, map}
use Rattle.std.specs.List.{AllByRecursion}
use Rattle.fd_core.specs.Components.{HasComponents}
use Rattle.fw_steps.specs.Opening.{new_site}
use Rattle.fw_steps.specs.Sites.{sites_of}
use Rattle.fw_steps.proofs.sites.new_sites.Given as goal

-- the nodes so far, and those that are left
abbrev pub invariant-loop-alloc : goal.invariant-loop-alloc
invariant-loop-alloc g l =
    record {
      sites : sites_of l.sites.items ++ map new_site l.nodes.items ≡ map new_site l.fn.nodes.items;
      components : AllByRecursion (λ n. HasComponents n.half.core.device) l.nodes.items;
    }

abbrev pub decreases-loop-alloc : goal.decreases-loop-alloc
decreases-loop-alloc g l = length l.nodes.items
