use Rattle.std.proofs.Common.{rules, ◌-◌, Some, None, length, take, sym}
use Rattle.fw_store.specs.Changes.{files_of}
use Rattle.fw_store.proofs.Changes.{at_back, seen_before, seen_on}
use Rattle.fw_store.proofs.known.KnownFolder.bytes.Goals as goal

pub returns-in-Bytes : goal.returns-in-Bytes
returns-in-Bytes c =
    seen_on c.args.self.now.changes.items c.loop-back.back (c.len.result - 1 - c.loop-back.back) c.index.result.now c.index.result.now c.loop-back.wanted.now (Some c.in-Bytes.bytes.now) _
    (at_back (length c.args.self.now.changes.items) c.len.result c.len-back-end.result c.loop-back.back (search rules) (search rules) c.loop-back-test.true) (sym c.index.ensures) c.loop-back.invariant
    (c.in-Bytes.ensures (files_of (take (c.len.result - 1 - c.loop-back.back) c.args.self.now.changes.items)))

pub returns-in-Nothing : goal.returns-in-Nothing
returns-in-Nothing c =
    seen_on c.args.self.now.changes.items c.loop-back.back (c.len.result - 1 - c.loop-back.back) c.index.result.now c.index.result.now c.loop-back.wanted.now None _
    (at_back (length c.args.self.now.changes.items) c.len.result c.len-back-end.result c.loop-back.back (search rules) (search rules) c.loop-back-test.true) (sym c.index.ensures) c.loop-back.invariant
    (c.in-Nothing.ensures (files_of (take (c.len.result - 1 - c.loop-back.back) c.args.self.now.changes.items)))

pub loop-back-preserved : goal.loop-back-preserved
loop-back-preserved c =
    seen_before c.args.self.now.changes.items c.loop-back.back (c.len.result - 1 - c.loop-back.back) c.in-Before.name.now _
    (at_back (length c.args.self.now.changes.items) c.len.result c.len-back-end.result c.loop-back.back (search rules) (search rules) c.loop-back-test.true)
    (seen_on c.args.self.now.changes.items c.loop-back.back (c.len.result - 1 - c.loop-back.back) c.index.result.now c.index.result.now c.loop-back.wanted.now
    (files_of (take (c.len.result - 1 - c.loop-back.back) c.args.self.now.changes.items) c.in-Before.name.now) _
    (at_back (length c.args.self.now.changes.items) c.len.result c.len-back-end.result c.loop-back.back (search rules) (search rules) c.loop-back-test.true) (sym c.index.ensures) c.loop-back.invariant
    (c.in-Before.ensures (files_of (take (c.len.result - 1 - c.loop-back.back) c.args.self.now.changes.items))))
