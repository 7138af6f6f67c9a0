use Rattle.std.proofs.Common.{map}
use Rattle.fw_package.specs.Asked.{asked_component_of}
use Rattle.fw_package.proofs.Puts.{Placing}
use Rattle.fw_package.proofs.writing.put_components.Given as goal

-- the components so far
abbrev pub invariant-loop-asked : goal.invariant-loop-asked
invariant-loop-asked l = Placing l.fn.header.items l.start (map asked_component_of l.components) l.asked-index l.offset l.header.items
