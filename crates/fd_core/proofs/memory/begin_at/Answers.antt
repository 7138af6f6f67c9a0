use Rattle.fd_core.proofs.Places.{changed_element}
use Rattle.fd_core.specs.Areas.{place_after_begin}
use Rattle.fd_core.proofs.memory.begin_at.Goals as goal

pub returns-clause-ok : goal.returns-clause-ok
returns-clause-ok c =
    changed_element (place_after_begin c.args.size c.args.label.now) c.args.key c.args.places.now c.in-Some.i c.index-places-i.result c.begin.new.self c.requires.shaped c.in-Some.ensures.within
    c.in-Some.ensures.found c.in-Ok.ensures.ok
