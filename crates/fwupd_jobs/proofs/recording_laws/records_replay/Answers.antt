use Rattle.fwupd_jobs.proofs.Recorded.{records_replay}
use Rattle.fwupd_jobs.proofs.recording_laws.records_replay.Goals as goal

pub returns : goal.returns
returns c = records_replay
