use Rattle.std.proofs.Common.{sym}
use Rattle.mctp_wire.proofs.Packets.{packet_of-packet}
use Rattle.mctp_wire.proofs.Spelled.{spelled_alike}
use Rattle.mctp_wire.proofs.laws.reads_back.Goals as goal

pub returns-clause-read : goal.returns-clause-read
returns-clause-read c = packet_of-packet

pub returns-clause-alike : goal.returns-clause-alike
returns-clause-alike c u v bytes p reads = sym (spelled_alike u v bytes p (sym reads))
