use Rattle.mctp_serial.proofs.Framing.{one_frame_law, writes_frames_law}
use Rattle.mctp_serial.proofs.laws.frames_are_unique.Goals as goal

pub returns-clause-written : goal.returns-clause-written
returns-clause-written c = writes_frames_law

pub returns-clause-only : goal.returns-clause-only
returns-clause-only c = one_frame_law
