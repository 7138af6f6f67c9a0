use Rattle.std.proofs.Common.{◌∙◌, ap}
use Rattle.fw_store.specs.Changes.{files_of, name_after}
use Rattle.fw_store.proofs.Listing.{lists_end, lists_next}
use Rattle.fw_store.proofs.known.KnownFolderFolder.names.Goals as goal

pub loop-change-preserved : goal.loop-change-preserved
loop-change-preserved c =
    lists_next (files_of c.args.self.now.changes.items) c.args.self.now.changes.items c.loop-change.change-index c.change-item.result _ _ (rw c.deref-change-items.ensures.value at c.loop-change-test.true) c.loop-change.invariant
    (rw (c.new_name.ensures ∙ ap name_after (rw c.deref-change-items.ensures.value at c.change-item.is)) at c.in-Ok.ensures)

pub returns-clause-names : goal.returns-clause-names
returns-clause-names c = λ k. lists_end c.args.self.now.changes.items c.loop-change.change-index _ (rw c.deref-change-items.ensures.value at c.loop-change-test.false) c.loop-change.invariant
