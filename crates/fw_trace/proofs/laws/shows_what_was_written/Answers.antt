use Rattle.fw_trace.proofs.Shows.{shows_answers_law, shows_commands_law}
use Rattle.fw_trace.proofs.laws.shows_what_was_written.Goals as goal

pub returns-clause-commands : goal.returns-clause-commands
returns-clause-commands c =
    shows_commands_law c.reads_back.ensures.written c.reads_back.ensures.read c.commands_read_back.ensures.written

pub returns-clause-answers : goal.returns-clause-answers
returns-clause-answers c =
    shows_answers_law c.reads_back.ensures.written c.reads_back.ensures.read c.answers_read_back.ensures.written
