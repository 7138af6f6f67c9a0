use Rattle.fd_core.proofs.Places.{changed_element}
use Rattle.fd_core.specs.Areas.{place_after_put}
use Rattle.fd_core.proofs.memory.append_at.Goals as goal

pub returns : goal.returns
returns c =
    changed_element (place_after_put c.args.piece.now) c.args.key c.args.places.now c.in-Some.i c.index-places-i.result c.append.new.self c.requires.shaped c.in-Some.ensures.within
    c.in-Some.ensures.found c.append.ensures
