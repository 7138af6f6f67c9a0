-- The outcome of a message's packets.
use Rattle.std.proofs.Common.{◌≡◌, ◌∙◌, ◌+◌, ◌++◌, ◌==◌, ℕ, Bool, List, Option, ap, append-nil, codes, false, if◌then◌else◌, inl, inr, length, refl, sym, true}
use Rattle.std.proofs.lemmas.Bool.Decides.{eqb_tells}
use Rattle.mctp_wire.specs.Packet.{ReadsPackets, WritesPackets, packet_bytes}
use Rattle.mctp_wire.specs.declared.layout.Head.{Head}
use Rattle.mctp_wire.specs.declared.unit.Unit.{«Unit»}
use Rattle.mctp_reasm.specs.Held.{Held, feed_outcome}
use Rattle.mctp_reasm.specs.Inboxes.{feed_outcome_at, held_at}
use Rattle.mctp_reasm.specs.Laws.{FeedsNext}
use Rattle.mctp_reasm.specs.Pieces.{MessageOf, PacketOf, packet_of, pieces}
use Rattle.mctp_reasm.specs.declared.outcomes.Fed.TheVariants as outcomes
use Rattle.fw_trace.specs.Hearings.{Assemblies}
use Rattle.fw_trace.specs.Laws.{IsBetween, ShowsParts, ShowsWhole, held_for}
use Rattle.fw_trace.specs.Lines.{ReaderOf, head_text, outcome_of_packet, packet_line, packet_text, part_text}
use Rattle.fw_trace.specs.Messages.{message_text}
use Rattle.fw_trace.specs.declared.hearing.PacketOutcome.TheVariants as heards

is_same : (a b : ℕ) → a ≡ b → (a == b) ≡ true
is_same a b e = elim (eqb_tells a b) [ inl equal ↦ equal.0 | inr other ↦ absurd (other.1 e) ]

-- an end feeds a packet to the assembly of its kind and tag
by_kind : (to : Bool) (u : «Unit») (a : Assemblies) (p : PacketOf)
    → (if to then feed_outcome_at u a.requests p else feed_outcome_at u a.replies p)
    ≡ feed_outcome u (if to then held_at a.requests p.head.tag else held_at a.replies p.head.tag) p
by_kind true u a p = refl
by_kind false u a p = refl

-- so does the destination of a packet between the two
heard_there : (r : ReaderOf) (p : PacketOf) → IsBetween r p.head → outcome_of_packet r p ≡ heards.Fed (feed_outcome r.unit (held_for r p.head) p)
unfolding outcome_of_packet
heard_there r p (inl way) =
    rw (is_same p.head.dest r.device way.1, is_same p.head.source r.agent way.0) (ap heards.Fed (by_kind p.head.to r.unit r.at_device p))
heard_there r p (inr way) =
    elim (eqb_tells p.head.dest r.device) [
      | inl end ↦ rw (end.0, is_same p.head.source r.agent (way.0 ∙ sym end.1 ∙ way.1)) (ap heards.Fed (by_kind p.head.to r.unit r.at_device p))
      | inr end ↦
          rw (end.0, is_same p.head.dest r.agent way.1, is_same p.head.source r.device way.0)
          (ap heards.Fed (by_kind p.head.to r.unit r.at_agent p))
    ]

-- the message of a single packet
abbrev alone : Head → List ℕ → MessageOf
alone h body = record { dest = h.dest; source = h.source; to = h.to; tag = h.tag; bytes = body }

-- an assembly completes it, whatever it holds
fed_whole : (u : «Unit») (held : Option Held) (h : Head) (body : List ℕ) → h.som ≡ true → h.eom ≡ true → h.seq ≡ 0
    → feed_outcome u held (packet_of h body) ≡ outcomes.Whole (alone h body)
fed_whole u held h body som eom seq = rw (som, seq, eom, append-nil body) refl

heard_whole : (r : ReaderOf) (h : Head) (body : List ℕ) → IsBetween r h → h.som ≡ true → h.eom ≡ true → h.seq ≡ 0
    → outcome_of_packet r (packet_of h body) ≡ heards.Fed (outcomes.Whole (alone h body))
heard_whole r h body way som eom seq =
    heard_there r (packet_of h body) way ∙ ap heards.Fed (fed_whole r.unit (held_for r h) h body som eom seq)

pub shows_whole_law : WritesPackets → ReadsPackets → ShowsWhole
unfolding packet_line packet_text
shows_whole_law writes reads r turn number h body fits way som eom seq some few =
    rw (reads r.unit (packet_bytes h body) h body (writes r.unit h body fits some few), heard_whole r h body way som eom seq) refl

-- a part, or the message that is completed
by_end : (last : Bool) (m : MessageOf) (p : PacketOf)
    → packet_text p (heards.Fed (if last then outcomes.Whole m else outcomes.Open))
    ≡ head_text p.head ++ (if last then codes " " ++ message_text m.bytes else part_text p)
unfolding packet_text
by_end true m p = refl
by_end false m p = refl

pub shows_parts_law : FeedsNext → ShowsParts
shows_parts_law feeds r m k age p is way lt at held =
    rw (heard_there r p way, held, (feeds r.unit m k k age p is lt at (inr refl)).0) (by_end (k + 1 == length (pieces r.unit m)) m p)
