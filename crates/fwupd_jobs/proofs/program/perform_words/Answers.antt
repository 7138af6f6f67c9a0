use Rattle.std.proofs.Common.{ap, map, ◌∙◌}
use Rattle.std.specs.Prelude.{string_bytes}
use Rattle.std.specs.Process.{exit_status}
use Rattle.fwupd_jobs.specs.Failures.{status_of}
use Rattle.fwupd_jobs.proofs.Performed.{lacks_job, lacks_output, performs_job}
use Rattle.fwupd_jobs.proofs.program.perform_words.Goals as goal

pub returns-in-Err-clause-performs : goal.returns-in-Err-clause-performs
returns-in-Err-clause-performs c =
    lacks_job (map (λ w. string_bytes w) c.args.words.now) c.parse.result c.in-Err.error (exit_status c.no_job.result) c.parse.ensures c.in-Err.is c.no_job.ensures.memory c.no_job.ensures.shown c.no_job.ensures.mistake

pub returns-in-Err-new-clause-performs : goal.returns-in-Err-new-clause-performs
returns-in-Err-new-clause-performs c = lacks_output (map (λ w. string_bytes w) c.args.words.now) c.parse.result c.in-Ok.job (exit_status c.failed.result) c.parse.ensures c.in-Ok.is (c.failed.ensures.is ∙ ap status_of c.in-Err-new.ensures.fault)

pub returns-clause-performs : goal.returns-clause-performs
returns-clause-performs c = performs_job (map (λ w. string_bytes w) c.args.words.now) c.parse.result c.in-Ok.job _ _ _ c.parse.ensures c.in-Ok.is c.run.ensures.says
