use Rattle.fd_core.proofs.Places.{changed_element}
use Rattle.fd_core.specs.Areas.{applied_spare}
use Rattle.fd_core.proofs.memory.apply_at.Goals as goal

pub returns : goal.returns
returns c =
    changed_element applied_spare c.args.key c.args.places.now c.in-Some.i c.index-places-i.result c.apply.new.self c.requires.shaped c.in-Some.ensures.within
    c.in-Some.ensures.found c.apply.ensures
