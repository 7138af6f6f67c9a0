use Rattle.fw_trace.proofs.Captured.{capture_read}
use Rattle.fw_trace.proofs.capture.capture_reads_back.Goals as goal

pub returns : goal.returns
returns c = capture_read
