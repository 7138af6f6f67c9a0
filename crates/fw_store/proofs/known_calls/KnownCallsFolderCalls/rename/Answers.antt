use Rattle.fw_store.proofs.Changes.{moved_renamed}
use Rattle.fw_store.proofs.known_calls.KnownCallsFolderCalls.rename.Goals as goal

pub returns-in-Some-clause-ok : goal.returns-in-Some-clause-ok
returns-in-Some-clause-ok c = λ k. (
  moved_renamed c.args.self.now.files.changes.items c.note.new.self.files.changes.items c.args.name.now c.args.place.now c.in-Ok.ensures.files,
  moved_renamed c.args.self.now.stored.changes.items c.note.new.self.stored.changes.items c.args.name.now c.args.place.now c.in-Ok.ensures.stored,
)

pub returns-else-self-clause-ok : goal.returns-else-self-clause-ok
returns-else-self-clause-ok c = λ k. (
  moved_renamed c.args.self.now.files.changes.items c.note.new.self.files.changes.items c.args.name.now c.args.place.now c.in-Ok.ensures.files,
  moved_renamed c.args.self.now.stored.changes.items c.note.new.self.stored.changes.items c.args.name.now c.args.place.now c.in-Ok.ensures.stored,
)
