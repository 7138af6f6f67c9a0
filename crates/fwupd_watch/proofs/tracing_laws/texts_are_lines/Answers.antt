use Rattle.fwupd_watch.proofs.Turns.{texts_are_lines}
use Rattle.fwupd_watch.proofs.tracing_laws.texts_are_lines.Goals as goal

pub returns : goal.returns
returns c = texts_are_lines
