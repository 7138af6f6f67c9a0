use Rattle.std.proofs.Common.{arith, subst}
use Rattle.fwupd_watch.specs.Files.{MayBegin, any_file}
use Rattle.fwupd_watch.proofs.Begun.{may_begin_longer, may_begin_whole}
use Rattle.fwupd_watch.proofs.beginnings.Beginning.said.Goals as goal

pub returns-then-len-lt-BEGINNING-clause-begins : goal.returns-then-len-lt-BEGINNING-clause-begins
returns-then-len-lt-BEGINNING-clause-begins c =
    subst (MayBegin any_file c.args.bytes.items) (omega (arith, c.args.bytes.ok, c.len-file_length.ensures)) (may_begin_whole c.args.bytes.items c.requires.first)

pub returns-clause-begins : goal.returns-clause-begins
returns-clause-begins c = may_begin_longer c.args.bytes.items c.args.size (omega (arith, c.requires.first, c.len.ensures, c.if-len-lt-BEGINNING.false)) c.requires.longer
