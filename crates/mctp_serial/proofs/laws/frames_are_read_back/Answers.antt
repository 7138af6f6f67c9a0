use Rattle.mctp_serial.proofs.Reading.{reads_frame_law}
use Rattle.mctp_serial.proofs.laws.frames_are_read_back.Goals as goal

pub returns : goal.returns
returns c = record { read = reads_frame_law }
