use Rattle.std.proofs.Common.{refl}
use Rattle.fw_script.proofs.ReadBack.{read_written}
use Rattle.fw_script.proofs.schedule_text.write_schedule.Goals as goal

pub returns-clause-reads : goal.returns-clause-reads
returns-clause-reads c =
    read_written c.end.new.text.items c.args.steps.now
    (rw (c.in_ok-end.ensures.written.is, c.in_ok-push_all.ensures.written.is, c.in_ok-push_all.ensures.held, c.new-writer.ensures, c.new-text.ensures.items) refl)
