use Rattle.std.proofs.Common.{[]}
use Rattle.fw_store.proofs.Changes.{gone_removed}
use Rattle.fw_store.proofs.known_calls.KnownCallsFolderCalls.remove.Goals as goal

pub returns-in-Ok-clause-ok : goal.returns-in-Ok-clause-ok
returns-in-Ok-clause-ok c = λ k. gone_removed c.args.self.now.files.changes.items c.note.new.self.files.changes.items c.args.name.now [] c.in-Ok.ensures.files
