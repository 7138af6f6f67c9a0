-- The calls of a device's node by itself.
use Rattle.std.proofs.Common.{◌≡◌, ◌∙◌, ◌++◌, ℕ, true, List, [], ◌∷◌, map, None, append-nil, ap, refl, sym}
use Rattle.fd_core.specs.Images.{KeyedImage}
use Rattle.fd_core.specs.declared.states.Verdict.{Verdict}
use Rattle.fw_message.specs.Headline.{EntryOf}
use Rattle.fw_message.specs.Worlds.{NotedOf, noted_of}
use Rattle.fw_node.specs.Cores.{device_core}
use Rattle.fw_node.specs.Halves.{half_ticks}
use Rattle.fw_node.specs.Nodes.{DeviceNodeOf, device_on_packet, device_on_verdict, device_restarts}
use Rattle.fw_node.specs.Packets.{all_packets}
use Rattle.fw_steps.specs.Alone.{DeviceCall, device_after_call, device_call_entries, device_call_packets}
use Rattle.fw_serve.proofs.Notes.{node_is}
use Rattle.fw_serve.specs.Noting.{NotesPacket, NotesVerdict}
use Rattle.fw_serve.specs.Serving.{AreDue, IsReceipt, IsRestart, IsTick, IsVerdict, MayCall, ServedDeviceOf, TakesSuch}

-- one call
one_call : (s t : ServedDeviceOf) (call : DeviceCall) (such : List DeviceCall → Type 0) (sent : List (List ℕ)) → such (call ∷ []) → MayCall s.node call
    → t.node ≡ device_after_call s.node call → t.history ≡ s.history ++ map (noted_of s.node.endpoint.eid) (device_call_entries s.node call) → sent ≡ device_call_packets s.node call
    → TakesSuch s such t sent
one_call s t call such sent is may node history packets = record {
  calls = call ∷ [];
  such = is;
  takes = (
    [],
    may,
    (
      ap (λ (n : DeviceNodeOf). record { node = n; history = t.history }) node
          ∙ ap (λ (h : List NotedOf). record { node = device_after_call s.node call; history = h }) history,
      refl,
    ),
    packets ∙ sym (append-nil (device_call_packets s.node call)),
  );
}

activated_entries : (eid : ℕ) (ps : List KeyedImage) → map (λ p. noted_of eid (EntryOf.Activated p)) ps ≡ map (noted_of eid) (map EntryOf.Activated ps)
activated_entries eid [] = refl
activated_entries eid (p ∷ ps) = ap (λ es. noted_of eid (EntryOf.Activated p) ∷ es) (activated_entries eid ps)

applied_entries : (eid : ℕ) (ps : List KeyedImage) → map (λ p. noted_of eid (EntryOf.Applied p)) ps ≡ map (noted_of eid) (map EntryOf.Applied ps)
applied_entries eid [] = refl
applied_entries eid (p ∷ ps) = ap (λ es. noted_of eid (EntryOf.Applied p) ∷ es) (applied_entries eid ps)

pub receives : (s t : ServedDeviceOf) (bytes : List ℕ) (sent : List (List ℕ)) → NotesPacket s.node bytes t.node sent s.history t.history → TakesSuch s (IsReceipt bytes) t sent
receives s t bytes sent k =
    one_call s t (DeviceCall.Receives k.heard.works t.node.faults bytes) (IsReceipt bytes) sent refl
    (record { worked = k.heard.worked; failed = k.heard.failed; called = k.heard.called })
    (node_is s.node t.node (device_on_packet k.heard.works s.node bytes).tid (device_on_packet k.heard.works s.node bytes).half k.endpoint k.heard.tid k.heard.half)
    (k.history ∙ ap (λ es. s.history ++ es) (activated_entries s.node.endpoint.eid _))
    k.heard.packets

pub judges : (s t : ServedDeviceOf) (verdict : Verdict) → NotesVerdict s.node verdict t.node s.history t.history → TakesSuch s (IsVerdict verdict) t []
judges s t verdict k =
    one_call s t (DeviceCall.Judges k.judged.works t.node.faults verdict) (IsVerdict verdict) [] refl
    (k.judged.counts, record { worked = k.judged.worked; failed = k.judged.failed; called = k.judged.called })
    (node_is s.node t.node s.node.tid (device_on_verdict k.judged.works s.node verdict) k.endpoint k.tid k.judged.half)
    (k.history ∙ ap (λ es. s.history ++ es) (applied_entries s.node.endpoint.eid _))
    refl

pub ticks : (s t : ServedDeviceOf) (sent : List (List ℕ)) → t.node ≡ record s.node { half = (half_ticks device_core true s.node.half).half }
    → sent ≡ all_packets s.node.half.unit (half_ticks device_core true s.node.half).sent → t.history ≡ s.history → TakesSuch s IsTick t sent
ticks s t sent node packets history = one_call s t DeviceCall.Ticks IsTick sent refl tt node (history ∙ sym (append-nil s.history)) packets

pub restarts : (s t : ServedDeviceOf) → t.node ≡ device_restarts s.node → t.history ≡ s.history → TakesSuch s IsRestart t []
restarts s t node history = one_call s t DeviceCall.Restarts IsRestart [] refl tt node (history ∙ sym (append-nil s.history)) refl

-- no call
pub due_none : (s : ServedDeviceOf) → TakesSuch s (AreDue None) s []
due_none s = record { calls = []; such = refl; takes = (refl, refl) }
