-- The laws of the crates below.
use Rattle.mctp_wire.specs.Packet.{ReadsPackets, WritesPackets}
use Rattle.mctp_reasm.specs.Laws.{FeedsNext, FeedsOther, PiecesOfAMessage}
use Rattle.pldm_base.specs.Header.{ReadsMessages, WritesMessages}
use Rattle.pldm_exch.specs.Laws.{CallersStayLawful, RestsChange}

-- the laws of the crates below
pub record Laws : Type 0 where
  pub packets_written : WritesPackets
  pub packets_read : ReadsPackets
  pub messages_written : WritesMessages
  pub messages_read : ReadsMessages
  pub pieces : PiecesOfAMessage
  pub feeds_next : FeedsNext
  pub feeds_other : FeedsOther
  pub callers : CallersStayLawful
  pub rests : RestsChange
