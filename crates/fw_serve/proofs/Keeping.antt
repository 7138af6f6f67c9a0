-- The agent as a process with a keeper of what it keeps over a restart.
use Rattle.std.proofs.Common.{◌≡◌, ◌∙◌, ◌+◌, ◌++◌, ◌⊎◌, inl, inr, ℕ, true, List, [], ◌∷◌, ap, flat_map, map, refl, subst, sym}
use Rattle.agent_store.specs.Kept.{half_lines, kept_lines, log_lines}
use Rattle.exch_lane.specs.Lanes.{Sent}
use Rattle.fw_node.specs.Agents.{AgentOf, agent_restarts}
use Rattle.fw_node.specs.Cores.{session_core}
use Rattle.fw_node.specs.Halves.{HalfOf, half_restarts}
use Rattle.fw_package.specs.Package.{PackageText}
use Rattle.fw_process.specs.Processes.{AroundOf, Deed, Does, DoesAll, FailsAt, LineOf, Serves, ServesRounds, ServesUntil, line_with, rounds_calls, rounds_deeds}
use Rattle.fw_process.proofs.Rounds.{serves_one}
use Rattle.fw_script.specs.declared.reports.SentCount.{SentCount}
use Rattle.fw_steps.specs.Alone.{AgentCall}
use Rattle.fw_steps.specs.Worlds.{sent_now}
use Rattle.fw_store.specs.declared.kept_line.KeptLine.{KeptLine}
use Rattle.ua_core.specs.Session.{TimedOf}
use Rattle.fw_serve.specs.Agents.{ServedAgentOf, agent_served, counts_after, served_packets, turn_packets, turn_taken}
use Rattle.fw_serve.specs.Keeping.{DoesKept, FailsKept, IsKept, KeepingAgentOf, ServesKept, keeping_unit}
use Rattle.fw_serve.specs.Processes.{AgentDoes, agent_after_missing}
use Rattle.fw_serve.proofs.Turns.{end_keeps}

abbrev pub agent_unit : ServedAgentOf → ℕ
agent_unit s = s.now

-- DEEDS

-- what a call left; then it is kept; and then the counts of what it sent
pub receives : {K : Type 0} (keeps : K → List KeptLine → Type 0) (s v : KeepingAgentOf K) (t : ServedAgentOf) (p : Sent) (out : List (List ℕ)) (l m : LineOf)
    → t ≡ record (agent_served s.agent (AgentCall.Receives s.agent.now p.bytes)) { counts = s.agent.counts }
    → out ≡ served_packets s.agent (AgentCall.Receives s.agent.now p.bytes)
    → v.agent ≡ record t { counts = counts_after t.counts out } → m ≡ line_with l [] (sent_now t.now out)
    → keeps v.keeper (kept_lines t.agent) → v.fault ≡ s.fault
    → Serves (DoesKept keeps) keeping_unit [] (Deed.Receives p ∷ []) s l v m
receives keeps s v t p out l m taken sent counted line kept fault =
    let after : v.agent ≡ agent_served s.agent (AgentCall.Receives s.agent.now p.bytes) = counted ∙ ap (λ (x : ServedAgentOf). record x { counts = counts_after x.counts out }) taken
    ∙ ap (λ o. record (agent_served s.agent (AgentCall.Receives s.agent.now p.bytes)) { counts = counts_after s.agent.counts o }) sent in
    serves_one (DoesKept keeps) keeping_unit s v (Deed.Receives p) (sent_now s.agent.now out) l m
    (record {
      does = (after, ap (sent_now s.agent.now) sent);
      kept = subst (λ (x : ServedAgentOf). keeps v.keeper (kept_lines x.agent)) (sym counted) kept;
      fault = fault;
    })
    (ap agent_unit after)
    (line ∙ ap (λ u. line_with l [] (sent_now u out)) (ap agent_unit taken))

pub turns_kept : {K : Type 0} (keeps : K → List KeptLine → Type 0) (s v : KeepingAgentOf K) (t : ServedAgentOf) (out : List (List ℕ)) (l m : LineOf)
    → t ≡ record (turn_taken true s.agent) { counts = s.agent.counts } → out ≡ turn_packets true s.agent
    → v.agent ≡ record t { counts = counts_after t.counts out } → m ≡ line_with l [] (sent_now t.now out)
    → keeps v.keeper (kept_lines t.agent) → v.fault ≡ s.fault
    → Serves (DoesKept keeps) keeping_unit [] (Deed.Turns ∷ []) s l v m
turns_kept keeps s v t out l m taken sent counted line kept fault =
    let ends = end_keeps true s.agent in
    let after : v.agent ≡ turn_taken true s.agent = counted ∙ ap (λ (x : ServedAgentOf). record x { counts = counts_after x.counts out }) taken
    ∙ ap (λ (cs : List SentCount). record (turn_taken true s.agent) { counts = cs })
    (ap (λ o. counts_after s.agent.counts o) sent ∙ ap (λ (cs : List SentCount). counts_after cs (turn_packets true s.agent)) (sym ends.counts)) in
    let unit : v.agent.now ≡ s.agent.now + 1 = ap agent_unit after ∙ ap (λ n. n + 1) ends.now in
    serves_one (DoesKept keeps) keeping_unit s v Deed.Turns (sent_now (s.agent.now + 1) out) l m
    (record {
      does = (after, ap (sent_now (s.agent.now + 1)) sent);
      kept = subst (λ (x : ServedAgentOf). keeps v.keeper (kept_lines x.agent)) (sym counted) kept;
      fault = fault;
    })
    unit
    (line ∙ ap (λ u. line_with l [] (sent_now u out)) (ap agent_unit taken ∙ ap (λ n. n + 1) ends.now))

-- A deed fails before the agent is called, or after it.
pub fails_before : {K : Type 0} (keeps : K → List KeptLine → Type 0) (s v : KeepingAgentOf K) (d : Deed) (l : LineOf) → v.agent ≡ s.agent → v.keeper ≡ s.keeper → FailsAt (FailsKept keeps) d s l v l
fails_before keeps s v d l agent keeper = record {
  leaves = record { node = inl (ap (λ (x : ServedAgentOf). x.agent) agent); either = λ ls h. inl (subst (λ k. keeps k ls) (sym keeper) h) };
  silent = refl;
}

either_after : {K : Type 0} (keeps : K → List KeptLine → Type 0) (before : K) (v : KeepingAgentOf K) (t : ServedAgentOf) → v.agent ≡ t
    → ((ls : List KeptLine) → keeps before ls → keeps v.keeper ls ⊎ keeps v.keeper (kept_lines t.agent)) → (ls : List KeptLine) → keeps before ls → keeps v.keeper ls ⊎ IsKept keeps v
either_after keeps before v t same either ls h = subst (λ (x : ServedAgentOf). keeps v.keeper ls ⊎ keeps v.keeper (kept_lines x.agent)) (sym same) (either ls h)

pub fails_received : {K : Type 0} (keeps : K → List KeptLine → Type 0) (s v : KeepingAgentOf K) (t : ServedAgentOf) (p : Sent) (l m : LineOf)
    → t ≡ record (agent_served s.agent (AgentCall.Receives s.agent.now p.bytes)) { counts = s.agent.counts }
    → ((ls : List KeptLine) → keeps s.keeper ls → keeps v.keeper ls ⊎ keeps v.keeper (kept_lines t.agent)) → v.agent ≡ t → m ≡ l
    → FailsAt (FailsKept keeps) (Deed.Receives p) s l v m
fails_received keeps s v t p l m taken either same silent = record {
  leaves = record {
    node = inr (record { after = agent_served s.agent (AgentCall.Receives s.agent.now p.bytes); sent = _; does = (refl, refl); node = ap (λ (x : ServedAgentOf). x.agent) (same ∙ taken) });
    either = either_after keeps s.keeper v t same either;
  };
  silent = silent;
}

pub fails_turned : {K : Type 0} (keeps : K → List KeptLine → Type 0) (s v : KeepingAgentOf K) (t : ServedAgentOf) (l m : LineOf)
    → t ≡ record (turn_taken true s.agent) { counts = s.agent.counts }
    → ((ls : List KeptLine) → keeps s.keeper ls → keeps v.keeper ls ⊎ keeps v.keeper (kept_lines t.agent)) → v.agent ≡ t → m ≡ l
    → FailsAt (FailsKept keeps) Deed.Turns s l v m
fails_turned keeps s v t l m taken either same silent = record {
  leaves = record {
    node = inr (record { after = turn_taken true s.agent; sent = _; does = (refl, refl); node = ap (λ (x : ServedAgentOf). x.agent) (same ∙ taken) });
    either = either_after keeps s.keeper v t same either;
  };
  silent = silent;
}

-- A RESTART

halves_restarted : (packages : List PackageText) (hs : List (HalfOf TimedOf)) → flat_map half_lines (map (half_restarts (session_core packages)) hs) ≡ flat_map half_lines hs
halves_restarted packages [] = refl
halves_restarted packages (h ∷ hs) = ap (λ ls. half_lines h ++ ls) (halves_restarted packages hs)

-- A restart changes nothing of what the agent keeps.
pub restart_keeps : (packages : List PackageText) (n : AgentOf) → kept_lines (agent_restarts packages n) ≡ kept_lines n
restart_keeps packages n = ap (λ ls. ls ++ log_lines n.log) (halves_restarted packages n.halves)

pub misses_kept : {K : Type 0} (keeps : K → List KeptLine → Type 0) (s v : KeepingAgentOf K) (units : ℕ) → v.agent ≡ agent_after_missing s.agent units → v.keeper ≡ s.keeper → v.fault ≡ s.fault
    → DoesKept keeps s (Deed.Misses units) v []
misses_kept keeps s v units is keeper fault =
    let same : kept_lines v.agent.agent ≡ kept_lines s.agent.agent = ap (λ (x : ServedAgentOf). kept_lines x.agent) is ∙ restart_keeps s.agent.packages s.agent.agent in
    record {
      does = (is, refl);
      kept = λ h. subst (λ ls. keeps v.keeper ls) (sym same) (subst (λ k. keeps k (kept_lines s.agent.agent)) (sym keeper) h);
      fault = fault;
    }

-- THE DEEDS OF THE AGENT

agent_deed : {K : Type 0} (keeps : K → List KeptLine → Type 0) (s t : KeepingAgentOf K) (d : Deed) (a : List Sent) → Does (DoesKept keeps) s d t a → Does AgentDoes s.agent d t.agent a
agent_deed keeps s t (Deed.Receives p) a h = h.does
agent_deed {K} keeps s t (Deed.Drops p) a h = (ap (λ (x : KeepingAgentOf K). x.agent) h.0, h.1)
agent_deed keeps s t Deed.Turns a h = h.does
agent_deed keeps s t (Deed.Misses units) a h = h.does

pub agent_deeds : {K : Type 0} (keeps : K → List KeptLine → Type 0) (s t : KeepingAgentOf K) (ds : List Deed) (a : List Sent) → DoesAll (DoesKept keeps) s ds t a → DoesAll AgentDoes s.agent ds t.agent a
agent_deeds {K} keeps s t [] a h = (ap (λ (x : KeepingAgentOf K). x.agent) h.0, h.1)
agent_deeds keeps s t (d ∷ ds) a (mid, first, rest, h, more, is) = (mid.agent, first, rest, agent_deed keeps s mid d first h, agent_deeds keeps mid t ds rest more, is)

pub agent_rounds : {K : Type 0} (keeps : K → List KeptLine → Type 0) (s t : KeepingAgentOf K) (a b : AroundOf) → ServesRounds (DoesKept keeps) keeping_unit s a t b → ServesRounds AgentDoes agent_unit s.agent a t.agent b
agent_rounds keeps s t a b h = record {
  rounds = h.rounds;
  are = h.are;
  shown = h.shown;
  serves = record {
    sent = h.serves.sent;
    done = agent_deeds keeps s t (rounds_deeds s.agent.now h.rounds) h.serves.sent h.serves.done;
    counted = h.serves.counted;
    line = h.serves.line;
  };
}

-- SERVICE

pub rounds_kept : {K : Type 0} (keeps : K → List KeptLine → Type 0) (s t : KeepingAgentOf K) (a b : AroundOf) → ServesRounds (DoesKept keeps) keeping_unit s a t b → ServesKept keeps s a.line b.line
rounds_kept keeps s t a b h =
    record { calls = rounds_calls s.agent.now h.rounds; deeds = rounds_deeds s.agent.now h.rounds; last = t; sent = h.serves.sent; done = h.serves.done; line = h.serves.line }

pub until_kept : {K : Type 0} (keeps : K → List KeptLine → Type 0) (s t : KeepingAgentOf K) (l m : LineOf) → ServesUntil (DoesKept keeps) (FailsKept keeps) s l t m → ServesKept keeps s l m
until_kept keeps s t l m h = record { calls = h.calls; deeds = h.deeds; last = h.last; sent = h.sent; done = h.done; line = h.line }
