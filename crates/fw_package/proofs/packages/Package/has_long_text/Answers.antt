use Rattle.std.proofs.Common.{length}
use Rattle.fw_package.proofs.Walked.{long_either}
use Rattle.fw_package.proofs.packages.Package.has_long_text.Goals as goal

pub returns-else-record-gt-TEXT_LIMIT : goal.returns-else-record-gt-TEXT_LIMIT
returns-else-record-gt-TEXT_LIMIT c =
    long_either c.args.self.now c.args.«record».now.uses c.used.result c.has_text_over.result (length c.args.«record».now.set_text.bytes.now) c.if-record-gt-TEXT_LIMIT.false c.used.ensures.value c.has_text_over.ensures
