-- The answers of an endpoint without a device on a serial line.
use Rattle.std.specs.Prelude.{◌≡◌, true}
use Rattle.mctp_ctl.specs.declared.answers.Endpoint.{Endpoint}
use Rattle.mctp_serial.specs.Reader.{new_reader}
use Rattle.mctp_wire.specs.declared.unit.Unit.TheVariants.{U64}
use Rattle.fwupd_base.specs.Serial.{AnswersSerialLine, SerialResponderOf}
use Rattle.fwupd_base.specs.declared.stream.AnswerFault.{AnswerFault}
use Rattle.fwupd_watch.specs.Serving.{ServesAll, ServingEnds, StreamsOf}
use Rattle.fwupd_watch.specs.declared.faults.JobFault.{JobFault}
use Rattle.fwupd_watch.specs.declared.faults.JobFault.TheVariants as faults

-- the endpoint before the first byte: its terminus identifier isn't set, and it is between frames
abbrev pub new_serial : Endpoint → SerialResponderOf
new_serial e = record { endpoint = e; tid = 0; reader = new_reader U64 }

-- Each line of the input is answered.
pub record AnswersSerial (e : Endpoint) (before now : StreamsOf) : Type 0 where
  pub last : SerialResponderOf
  pub served : ServesAll AnswersSerialLine (new_serial e) last before now

-- Reading or writing failed, or memory was refused, before the end of the input.
pub record SerialEnds (e : Endpoint) (told : JobFault) (before now : StreamsOf) : Type 0 where
  pub fault : AnswerFault
  pub is : told ≡ faults.Answer fault
  pub last : SerialResponderOf
  pub ends : ServingEnds AnswersSerialLine true (new_serial e) last fault before now
