use Rattle.std.proofs.Common.{rules}
use Rattle.fw_store.proofs.Swept.{settled_same}
use Rattle.fw_store.proofs.opening.open_store.Goals as goal

pub returns-clause-stored : goal.returns-clause-stored
returns-clause-stored g c = λ same.
    rw (c.new.ensures.folder, c.new.ensures.sure, c.new.ensures.next, c.new.ensures.lines)
    (settled_same (g.F.Folder.is_known c.args.folder) c.next_after-next.result (g.F.Folder.files c.args.folder) (g.F.Folder.stored c.args.folder) c.in-Ok.found.0.items (search rules) (search rules) c.in-Ok.ensures.lines c.in-Ok.ensures.there same)
