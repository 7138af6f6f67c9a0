-- Bytes of a serial stream, one at a time.
use Rattle.std.proofs.Common.{◌≡◌, ◌∙◌, ◌≤◌, ◌+◌, ◌<◌, ◌==◌, ℕ, suc, add-one, Bool, not, ◌&&◌, if◌then◌else◌, List, [], ◌∷◌, ◌++◌, length, get_or, drop, drop-cons, Option, Some, None, Result, Ok, Err, IfOk, refl, sym, ap, append_assoc, append-nil, arith}
use Rattle.std.proofs.lemmas.Bool.{cond_both}
use Rattle.std.proofs.lemmas.List.{drop_all}
use Rattle.mctp_wire.specs.declared.fault.WireFault.{WireFault}
use Rattle.mctp_wire.specs.declared.layout.Head.{Head}
use Rattle.mctp_ctl.specs.declared.answers.Endpoint.{Endpoint}
use Rattle.mctp_ctl.specs.Control.{answer_of}
use Rattle.mctp_serial.specs.Reader.{ReaderOf, packet_after_byte, packets_in, packets_with, reader_after, reader_after_byte}
use Rattle.pldm_base.specs.Header.{pldm_of}
use Rattle.pldm_base.specs.declared.header.PldmFault.{PldmFault}
use Rattle.pldm_base.specs.declared.header.PldmHead.{PldmHead}
use Rattle.fwupd_base.specs.Answers.{LineOutcome, body_reply, control_reply, packet_reply, pldm_reply, wire_reply}
use Rattle.fwupd_base.specs.Serial.{ReadsSerial, SerialResponderOf, packet_outcome, packet_text, packets_text, serial_after, serial_text, tid_after_packets}
use Rattle.fwupd_base.specs.declared.drops.LineDropCause.{LineDropCause}

-- an answer isn't empty
abbrev pub IsSomeReply : Result (List ℕ) LineDropCause → Type 0
IsSomeReply reply = IfOk reply (λ packet. 1 ≤ length packet)

either : (c : Bool) (a b : LineOutcome) → IsSomeReply a.reply → IsSomeReply b.reply → IsSomeReply (if c then a else b).reply
either c a b first second = cond_both c a b (λ o. IsSomeReply o.reply) (λ _. first) (λ _. second)

control_some : (e : Endpoint) (h : Head) (tid : ℕ) (m : Option (List ℕ)) → IsSomeReply (control_reply e h tid m).reply
control_some e h tid None = tt
control_some e h tid (Some m) = omega arith

pldm_some : (e : Endpoint) (h : Head) (tid : ℕ) (m : Result (PldmHead × List ℕ) PldmFault) → IsSomeReply (pldm_reply e h tid m).reply
pldm_some e h tid (Err fault) = tt
pldm_some e h tid (Ok (m, fields)) = either (not m.rq) _ _ tt (omega arith)

body_some : (e : Endpoint) (h : Head) (tid : ℕ) (body : List ℕ) → IsSomeReply (body_reply e h tid body).reply
body_some e h tid [] = tt
body_some e h tid (kind ∷ rest) =
    either (kind == 0) _ _ (control_some e h tid (answer_of e (kind ∷ rest))) (either (kind == 1) _ _ (pldm_some e h tid (pldm_of (kind ∷ rest))) tt)

pub wire_some : (e : Endpoint) (tid : ℕ) (p : Result (Head × List ℕ) WireFault) → IsSomeReply (wire_reply e tid p).reply
wire_some e tid (Err fault) = tt
wire_some e tid (Ok (h, body)) =
    either (not (h.dest == e.eid)) _ _ tt (either (not (h.som && h.eom)) _ _ tt
    (either (not (h.seq == 0)) _ _ tt (either (not h.to) _ _ tt (body_some e h tid body))))

-- a byte with which no frame ends
pub byte_quiet : (s : SerialResponderOf) (b : ℕ) (q : ReaderOf) (text : List ℕ) → q ≡ reader_after_byte s.reader b → packet_after_byte s.reader b ≡ None
    → ReadsSerial s (b ∷ []) (record s { reader = q }) text text
unfolding packets_in reader_after packets_text tid_after_packets
byte_quiet s b q text is none = record { printed = rw none (sym (append-nil text)); after = rw (none, is) refl }

-- a byte with which a frame ends
pub byte_given : (s : SerialResponderOf) (b : ℕ) (q : ReaderOf) (packet before now : List ℕ) → q ≡ reader_after_byte s.reader b → packet_after_byte s.reader b ≡ Some packet
    → now ≡ before ++ packet_text s.endpoint s.tid packet
    → ReadsSerial s (b ∷ []) (record s { tid = (packet_outcome s.endpoint s.tid packet).tid; reader = q }) before now
unfolding packets_in reader_after packets_text tid_after_packets
byte_given s b q packet before now is some text = record {
  printed = rw (some, append-nil (packet_text s.endpoint s.tid packet)) text;
  after = rw (some, is) refl;
}

-- the packets of a byte, and then those of the bytes after it
text_with : (e : Endpoint) (tid : ℕ) (first : Option (List ℕ)) (rest : List (List ℕ))
    → packets_text e tid (packets_with first rest) ≡ packets_text e tid (packets_with first []) ++ packets_text e (tid_after_packets e tid (packets_with first [])) rest
unfolding packets_text tid_after_packets
text_with e tid None rest = refl
text_with e tid (Some packet) rest = rw (append-nil (packet_text e tid packet)) refl

tid_with : (e : Endpoint) (tid : ℕ) (first : Option (List ℕ)) (rest : List (List ℕ))
    → tid_after_packets e tid (packets_with first rest) ≡ tid_after_packets e (tid_after_packets e tid (packets_with first [])) rest
unfolding tid_after_packets
tid_with e tid None rest = refl
tid_with e tid (Some packet) rest = refl

text_cons : (s : SerialResponderOf) (b : ℕ) (bytes : List ℕ) → serial_text s (b ∷ bytes) ≡ serial_text s (b ∷ []) ++ serial_text (serial_after s (b ∷ [])) bytes
unfolding packets_in reader_after
text_cons s b bytes = text_with s.endpoint s.tid (packet_after_byte s.reader b) (packets_in (reader_after_byte s.reader b) bytes)

after_cons : (s : SerialResponderOf) (b : ℕ) (bytes : List ℕ) → serial_after s (b ∷ bytes) ≡ serial_after (serial_after s (b ∷ [])) bytes
unfolding packets_in reader_after
after_cons s b bytes =
    ap (λ t. record s { tid = t; reader = reader_after (reader_after_byte s.reader b) bytes })
    (tid_with s.endpoint s.tid (packet_after_byte s.reader b) (packets_in (reader_after_byte s.reader b) bytes))

text_nil : (s : SerialResponderOf) → serial_text s [] ≡ []
unfolding packets_in packets_text
text_nil s = refl

after_nil : (s : SerialResponderOf) → serial_after s [] ≡ s
unfolding packets_in reader_after tid_after_packets
after_nil s = refl

-- a byte more of those that are read
pub text_more : (s t : SerialResponderOf) (bytes before now : List ℕ) (i d : ℕ) → i < length bytes → ReadsSerial s (get_or bytes i d ∷ []) t before now
    → now ++ serial_text t (drop (i + 1) bytes) ≡ before ++ serial_text s (drop i bytes)
text_more s t bytes before now i d lt h =
    rw (add-one i, drop-cons bytes i d lt, text_cons s (get_or bytes i d) (drop (suc i) bytes), h.printed, h.after) (append_assoc before (serial_text s (get_or bytes i d ∷ [])) _)

pub after_more : (s t : SerialResponderOf) (bytes before now : List ℕ) (i d : ℕ) → i < length bytes → ReadsSerial s (get_or bytes i d ∷ []) t before now
    → serial_after t (drop (i + 1) bytes) ≡ serial_after s (drop i bytes)
after_more s t bytes before now i d lt h =
    rw (add-one i, drop-cons bytes i d lt, after_cons s (get_or bytes i d) (drop (suc i) bytes), h.after) refl

-- all bytes are read
pub reads_all : (s t : SerialResponderOf) (bytes before now : List ℕ) (i : ℕ) → length bytes ≤ i → now ++ serial_text t (drop i bytes) ≡ before ++ serial_text s bytes
    → serial_after t (drop i bytes) ≡ serial_after s bytes → ReadsSerial s bytes t before now
reads_all s t bytes before now i end text after =
    let none = drop_all i bytes end in
    record {
      printed = sym (append-nil now) ∙ (rw (none, text_nil t) at text);
      after = sym (after_nil t) ∙ (rw none at after);
    }
