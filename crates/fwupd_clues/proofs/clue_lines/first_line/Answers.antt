use Rattle.std.proofs.Common.{arith}
use Rattle.fwupd_clues.proofs.Lines.{line_cut, line_whole}
use Rattle.fwupd_clues.proofs.clue_lines.first_line.Goals as goal

pub returns-in-Some-clause-lines : goal.returns-in-Some-clause-lines
returns-in-Some-clause-lines c =
    let parts = c.in-Some.ensures.byte (omega arith) (λ w o found. found) in line_cut c.args.text.now c.in-Some.line.now c.in-Some.rest.now parts.0 parts.1 parts.2

pub returns-in-None-clause-lines : goal.returns-in-None-clause-lines
returns-in-None-clause-lines c = line_whole c.args.text.now (c.in-None.ensures.byte (omega arith) (λ w o found. found))
