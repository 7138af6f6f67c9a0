-- The end of the bytes that a device requested last, packet by packet.
use Rattle.std.proofs.Common.{◌≡◌, ◌+◌, ◌∙◌, ℕ, zero, suc, List, [], ◌∷◌, Some, arith, ap, drop, sym}
use Rattle.std.specs.Option.{unwrap_or}
use Rattle.std.specs.Prelude.{slice_get}
use Rattle.exch_lane.specs.Lanes.{Sent}
use Rattle.mctp_wire.specs.Packet.{packet_of}
use Rattle.mctp_wire.specs.declared.unit.Unit.TheVariants.{U128}
use Rattle.fwupd_watch.specs.Progress.{end_asked, last_end}

-- a packet at a place is the first of those after the earlier ones
end_next : (device before place : ℕ) (ps : List Sent) (p : Sent) → slice_get ps place ≡ Some p
    → last_end device before (drop place ps) ≡ last_end device (unwrap_or (end_asked device (packet_of U128 p.bytes)) before) (drop (suc place) ps)
end_next device before place [] p at = absurd (cc)
end_next device before zero (q ∷ qs) p at = let same : q ≡ p = cc in ap (λ z. last_end device (unwrap_or (end_asked device (packet_of U128 z.bytes)) before) qs) same
end_next device before (suc place) (q ∷ qs) p at = end_next device before place qs p at

-- one more packet
pub end_more : (device before after place : ℕ) (ps : List Sent) (p : Sent) (all : ℕ) → slice_get ps place ≡ Some p → last_end device before (drop place ps) ≡ all
    → after ≡ unwrap_or (end_asked device (packet_of U128 p.bytes)) before → last_end device after (drop (place + 1) ps) ≡ all
end_more device before after place ps p all at h is =
    let further : place + 1 ≡ suc place = omega arith in rw (is, further) (sym (end_next device before place ps p at) ∙ h)
