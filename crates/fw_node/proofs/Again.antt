-- The message that a tick sends again, from the message of the open request.
use Rattle.std.proofs.Common.{◌≡◌, [], ◌∷◌, Option, Some, None, refl}
use Rattle.std.specs.Option.{option_map}
use Rattle.mctp_reasm.specs.Pieces.{MessageOf}
use Rattle.pldm_exch.specs.Caller.{Open, tick_of}
use Rattle.pldm_exch.specs.declared.caller.CallTick.TheVariants as ticks
use Rattle.fw_node.specs.Packets.{sent_by}

pub open_again : (o : Option Open) (m : MessageOf) → Some m ≡ option_map (λ o. o.message) o → sent_by (tick_of ticks.Send o) ≡ m ∷ []
open_again None m e = absurd (cc)
open_again (Some o) m e = let same : o.message ≡ m = cc in rw same refl

pub none_again : (o : Option Open) → None ≡ option_map (λ o. o.message) o → sent_by (tick_of ticks.Send o) ≡ []
none_again None e = refl
none_again (Some o) e = absurd (cc)

pub ruleset again = (open_again, none_again)
