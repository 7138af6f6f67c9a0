use Rattle.std.proofs.Common.{inl}
use Rattle.fwupd_words.proofs.Given.{reads}
use Rattle.fwupd_words.proofs.reading.parse.Goals as goal

pub returns-in-Err : goal.returns-in-Err
returns-in-Err c =
    let found = c.in-Err.ensures in
    (found.0, found.1, inl found.2)

pub returns : goal.returns
returns c =
    let found = c.in-Ok.ensures in
    let given = c.in-Some.ensures in (
      found.0,
      found.1,
      reads found.0 _ c.in-Ok.matches c.in-Some.matches.now c.in-Some.name.now c.asked_job.result found.1 found.2 given.name given.rows c.asked_job.ensures.job c.asked_job.ensures.fits c.asked_job.ensures.refused,
    )
