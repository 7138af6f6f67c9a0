use Rattle.std.proofs.Common.{◌≡◌, map, take}
use Rattle.fw_script.specs.Seen.{component_of}
use Rattle.fw_setup.specs.Stocks.{images_configured}
use Rattle.fw_setup.proofs.store_banks.are_configured.Given as goal

-- the images so far are the configured ones
abbrev pub invariant-loop-place : goal.invariant-loop-place
invariant-loop-place l = take l.place l.images ≡ images_configured (map component_of (take l.place l.components))
