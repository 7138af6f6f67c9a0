use Rattle.std.proofs.Common.{◌≡◌, map, take}
use Rattle.fw_script.specs.Seen.{component_of}
use Rattle.fw_setup.specs.Stocks.{images_configured}
use Rattle.fw_setup.proofs.stocks.configured_images.Given as goal

-- the images so far are there
abbrev pub invariant-loop-config : goal.invariant-loop-config
invariant-loop-config l = l.images.items ≡ images_configured (map component_of (take l.config-index l.components))
