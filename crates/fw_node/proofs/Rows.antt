-- The content of a packet, from the rows of both ends.
use Rattle.std.proofs.Common.{◌≡◌, Some, None, refl}
use Rattle.pldm_exch.specs.Caller.{ReplyInOf}
use Rattle.pldm_exch.specs.Ends.{AnsweringOf, AskingOf}
use Rattle.pldm_exch.specs.Sides.{AskerRow, TakerRow, asking_after, received_in, reply_in_row, requests_in}
use Rattle.fw_node.specs.Halves.{IncomingOf, answering_after, incoming_from, incoming}

pub brings_learnt : (asker : AskerRow) (taker : TakerRow) (heard : ReplyInOf) → Some heard ≡ reply_in_row asker → incoming asker taker ≡ IncomingOf.Learnt heard
brings_learnt (AskerRow.Ignores replies) taker heard e = absurd (cc)
brings_learnt (AskerRow.Learns replies caller h) taker heard e = let same : h ≡ heard = cc in rw same refl

pub keeps_learnt : (asker : AskerRow) (t : AnsweringOf) (taker : TakerRow) (heard : ReplyInOf) → Some heard ≡ reply_in_row asker → answering_after asker t taker ≡ t
keeps_learnt (AskerRow.Ignores replies) t taker heard e = absurd (cc)
keeps_learnt (AskerRow.Learns replies caller h) t taker heard e = refl

pub brings_else : (asker : AskerRow) (taker : TakerRow) → None ≡ reply_in_row asker → incoming asker taker ≡ incoming_from (received_in taker)
brings_else (AskerRow.Ignores replies) taker e = refl
brings_else (AskerRow.Learns replies caller h) taker e = absurd (cc)

pub keeps_else : (asker : AskerRow) (t : AnsweringOf) (taker : TakerRow) → None ≡ reply_in_row asker
    → answering_after asker t taker ≡ record t { requests = requests_in taker }
keeps_else (AskerRow.Ignores replies) t taker e = refl
keeps_else (AskerRow.Learns replies caller h) t taker e = absurd (cc)

pub asking_stays : (a : AskingOf) (row : AskerRow) → ((asking_after a row).unit ≡ a.unit) × ((asking_after a row).own ≡ a.own) × ((asking_after a row).peer ≡ a.peer)
asking_stays a (AskerRow.Ignores replies) = (refl, refl, refl)
asking_stays a (AskerRow.Learns replies caller heard) = (refl, refl, refl)

pub ruleset rows = (asking_stays, brings_learnt, keeps_learnt, brings_else, keeps_else)
