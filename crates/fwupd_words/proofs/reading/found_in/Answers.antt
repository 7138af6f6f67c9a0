use Rattle.clap.specs.Words.{app_of}
use Rattle.fwupd_words.proofs.Closed.{finds, finds_no_memory}
use Rattle.fwupd_words.proofs.reading.found_in.Goals as goal

pub returns-in_err-command : goal.returns-in_err-command
returns-in_err-command c = finds_no_memory _ c.from_residual.result c.from_residual.ensures.1

pub returns : goal.returns
returns c =
    let command = c.in_ok-command.field-0 in
    let line = c.in_ok-command.ensures in
    let parse = c.try_get_matches_from in
    (app_of command, line, finds command _ parse.result line parse.ensures.parsed parse.ensures.matches parse.ensures.kinds)
