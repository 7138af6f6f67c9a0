-- The content of a packet, from the code's type and the message that it refers to.
use Rattle.mctp_reasm.specs.Pieces.{MessageOf}
use Rattle.pldm_base.specs.Header.{IsPldmHead}
use Rattle.pldm_exch.specs.Sides.{received_of, reply_in_message}
use Rattle.pldm_exch.specs.declared.request.Received.TheVariants as brings
use Rattle.fw_node.specs.Halves.{IncomingOf, incoming_from}
use Rattle.fw_node.specs.declared.incoming.Incoming.{Incoming}
use Rattle.fw_node.specs.declared.incoming.Incoming.TheVariants as incomings

abbrev pub incoming_of : Incoming → MessageOf → IncomingOf
incoming_of (incomings.Learnt command) m = IncomingOf.Learnt (reply_in_message command m)
incoming_of (incomings.Brought brought) m = incoming_from (received_of brought m)

-- the head of a new request is that of a PLDM message
abbrev pub HasHead : Incoming → Type 0
HasHead (incomings.Brought (brings.New head)) = IsPldmHead head
HasHead _ = Prim.Unit {0}
