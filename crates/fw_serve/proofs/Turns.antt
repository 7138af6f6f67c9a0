-- Turns of a device, and of the agent.
use Rattle.std.proofs.Common.{◌≡◌, ◌+◌, ◌∙◌, ◌++◌, ℕ, Bool, true, false, suc, if◌then◌else◌, is_some, List, [], ◌∷◌, ap, arith, refl, sym}
use Rattle.std.proofs.lemmas.Grind.{flat_map-append}
use Rattle.hex.specs.Hex.{encode_upper}
use Rattle.fw_node.specs.Agents.{ready_for}
use Rattle.fw_script.specs.declared.reports.SentCount.{SentCount}
use Rattle.fw_steps.specs.Alone.{AgentCall}
use Rattle.fw_serve.specs.Agents.{ServedAgentOf, activated_if_ready, agent_served, all_activated, counts_after, turn_ended, turn_packets, turn_taken, turns_packets, turns_taken}
use Rattle.fw_serve.specs.Serving.{ServedDeviceOf, TakesTurn, TakesTurns}
use Rattle.fw_serve.specs.Texts.{packets_spaced}

spaced_append : (ps qs : List (List ℕ)) → packets_spaced (ps ++ qs) ≡ packets_spaced ps ++ packets_spaced qs
spaced_append ps qs = flat_map-append (λ p. encode_upper p ++ 32 ∷ []) ps qs

plus_one : (n : ℕ) → n + 1 ≡ suc n
plus_one n = omega arith

-- a device took turns, and its packets are written
pub record TurnsSoFar (auto : Bool) (count : ℕ) (s t : ServedDeviceOf) (text : List ℕ) : Type 0 where
  pub sent : List (List ℕ)
  pub takes : TakesTurns auto count s t sent
  pub written : text ≡ packets_spaced sent

pub no_turns : (auto : Bool) (s : ServedDeviceOf) (text : List ℕ) → text ≡ [] → TurnsSoFar auto 0 s s text
no_turns auto s text none = record { sent = []; takes = (refl, refl); written = none }

pub one_more : (auto : Bool) (count : ℕ) (s t u : ServedDeviceOf) (text next : List ℕ) (out : List (List ℕ)) → TurnsSoFar auto count s t text → TakesTurn auto t u out → next ≡ text ++ packets_spaced out
    → TurnsSoFar auto (count + 1) s u next
one_more auto count s t u text next out h k is = record {
  sent = h.sent ++ out;
  takes = rw (plus_one count) (t, h.sent, out, h.takes, k, refl);
  written = is ∙ ap (λ x. x ++ packets_spaced out) h.written ∙ sym (spaced_append h.sent out);
}

-- THE AGENT

-- What is due at the end of a turn sends nothing, and takes no time.
pub record KeepsCounts (s t : ServedAgentOf) : Type 0 where
  pub counts : t.counts ≡ s.counts
  pub now : t.now ≡ s.now

activation_keeps : (ready : Bool) (s : ServedAgentOf) (device : ℕ) → KeepsCounts s (if ready then agent_served s (AgentCall.Activates s.now device) else s)
activation_keeps true s device = record { counts = refl; now = refl }
activation_keeps false s device = record { counts = refl; now = refl }

all_keep : (s : ServedAgentOf) (cs : List SentCount) → KeepsCounts s (all_activated s cs)
all_keep s [] = record { counts = refl; now = refl }
all_keep s (c ∷ cs) =
    let first = activation_keeps (is_some (ready_for s.agent c.device)) s c.device in
    let rest = all_keep (activated_if_ready s c.device) cs in
    record { counts = rest.counts ∙ first.counts; now = rest.now ∙ first.now }

pub end_keeps : (auto : Bool) (s : ServedAgentOf) → KeepsCounts s (turn_ended auto s)
end_keeps true s = all_keep s s.counts
end_keeps false s = record { counts = refl; now = refl }

-- one more turn
pub record MoreTurned (auto : Bool) (count : ℕ) (s v : ServedAgentOf) (text : List ℕ) (now : ℕ) : Type 0 where
  pub agent : v ≡ turns_taken auto (count + 1) s
  pub printed : text ≡ packets_spaced (turns_packets auto (count + 1) s)
  pub clock : v.now ≡ now + 1

pub agent_more : (auto : Bool) (count : ℕ) (s t u v : ServedAgentOf) (out : List (List ℕ)) (text next : List ℕ) → t ≡ turns_taken auto count s → u ≡ record (turn_taken auto t) { counts = t.counts }
    → out ≡ turn_packets auto t → v ≡ record u { counts = counts_after u.counts out } → next ≡ text ++ packets_spaced out → text ≡ packets_spaced (turns_packets auto count s)
    → MoreTurned auto count s v next t.now
agent_more auto count s t u v out text next before turned sent counted written so_far =
    let keeps = end_keeps auto t in
    let turn : v ≡ turn_taken auto t =
    counted ∙ ap (λ (x : ServedAgentOf). record x { counts = counts_after x.counts out }) turned
    ∙ ap (λ (cs : List SentCount). record (turn_taken auto t) { counts = cs }) (ap (λ o. counts_after t.counts o) sent ∙ ap (λ (cs : List SentCount). counts_after cs (turn_packets auto t)) (sym keeps.counts)) in
    record {
      agent = turn ∙ ap (turn_taken auto) before ∙ ap (λ k. turns_taken auto k s) (sym (plus_one count));
      printed =
          written ∙ ap (λ x. x ++ packets_spaced out) so_far
          ∙ ap (λ o. packets_spaced (turns_packets auto count s) ++ packets_spaced o) (sent ∙ ap (turn_packets auto) before)
          ∙ sym (spaced_append (turns_packets auto count s) (turn_packets auto (turns_taken auto count s)))
          ∙ ap (λ k. packets_spaced (turns_packets auto k s)) (sym (plus_one count));
      clock = ap (λ (x : ServedAgentOf). x.now) turn ∙ ap (λ n. n + 1) keeps.now;
    }
