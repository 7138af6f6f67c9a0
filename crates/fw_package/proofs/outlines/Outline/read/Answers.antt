use Rattle.std.proofs.Common.{◌∙◌}
use Rattle.fw_package.proofs.Outlined.{outline_is}
use Rattle.fw_package.proofs.outlines.Outline.read.Goals as goal

pub returns-clause-whole : goal.returns-clause-whole
returns-clause-whole c = λ file is. c.read_parts.ensures ∙ outline_is c.args.beginning.now c.args.file_length c.are_bytes.ensures file is
