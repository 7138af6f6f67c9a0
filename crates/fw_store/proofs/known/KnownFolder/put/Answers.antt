use Rattle.fw_store.proofs.Changes.{put_wrote}
use Rattle.fw_store.proofs.known.KnownFolder.put.Goals as goal

pub returns-in-Ok-clause-ok : goal.returns-in-Ok-clause-ok
returns-in-Ok-clause-ok c = put_wrote c.args.self.now.changes.items c.note.new.self.changes.items c.args.name.now c.args.bytes.now c.in-Ok.ensures.ok
