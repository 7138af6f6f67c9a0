use Rattle.std.proofs.Common.{◌≡◌, ◌++◌, drop, map, take}
use Rattle.fw_script.specs.Seen.{component_of}
use Rattle.fw_setup.specs.Stocks.{component_with_kept}
use Rattle.fw_setup.proofs.stocks.stock_all.Given as goal

-- the components so far have the images that are kept for them
abbrev pub invariant-loop-config : goal.invariant-loop-config
invariant-loop-config l =
    map component_of l.components ≡ map (component_with_kept l.images) (take l.config-index (map component_of l.fn.components)) ++ drop l.config-index (map component_of l.fn.components)
