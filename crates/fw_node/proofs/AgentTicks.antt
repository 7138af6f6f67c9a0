-- A tick of the agent, in the order of the code.
use Rattle.std.proofs.Common.{◌≡◌, ◌∙◌, ◌-◌, ◌+◌, ◌<◌, ◌≤◌, ℕ, true, List, [], ◌∷◌, ◌++◌, flat_map, map, take, length, get_or, inl, inr, refl, sym, ap, arith}
use Rattle.std.proofs.lemmas.Bool.{cases_lt, le-leb, lt-leb, ne_eqb}
use Rattle.std.proofs.lemmas.List.{take_more}
use Rattle.std.specs.Borrow.{Bor}
use Rattle.std.specs.List.{AllByRecursion}
use Rattle.pldm_exch.specs.Caller.{caller_tick}
use Rattle.fw_package.specs.Package.{PackageText}
use Rattle.sel_core.specs.Log.{LogOf, sel_restart}
use Rattle.ua_core.specs.Session.{TimedOf}
use Rattle.fw_node.specs.Agents.{AgentOf, IsAddressed, again_packets, agent_restarts, agent_tick_sends, agent_ticks, session_half_after, ended_packets, session_half_aged, log_after_part, session_half_idle}
use Rattle.fw_node.specs.AgentViews.{agent_of, half_in, half_restarted}
use Rattle.fw_node.specs.BothEnds.{EndsOf}
use Rattle.fw_node.specs.Cores.{session_core}
use Rattle.fw_node.specs.Halves.{HalfOf, half_grows, half_restarts, half_ticks, half_waits}
use Rattle.fw_node.specs.Notes.{log_with_event}
use Rattle.fw_node.specs.Packets.{all_packets, sent_by}
use Rattle.fw_node.proofs.NodeTicks.{hearing_tick, packets_behind}
use Rattle.fw_node.specs.declared.identity.Identity.{Identity}
use Rattle.fw_node.specs.declared.half.Half.{Half}

-- the log after one more half
notes_append : (part : HalfOf TimedOf → HalfOf TimedOf) (now : ℕ) (log : LogOf) (hs : List (HalfOf TimedOf)) (h : HalfOf TimedOf)
    → log_after_part part now log (hs ++ h ∷ []) ≡ log_with_event (log_after_part part now log hs) now h.peer h.core (part h).core
notes_append part now log [] h = refl
notes_append part now log (g ∷ gs) h = notes_append part now (log_with_event log now g.peer g.core (part g).core) gs h

pub notes_more : (part : HalfOf TimedOf → HalfOf TimedOf) (now : ℕ) (log before after : LogOf) (hs : List (HalfOf TimedOf)) (i : ℕ) (h : HalfOf TimedOf) → i < length hs
    → h ≡ get_or hs i h → before ≡ log_after_part part now log (take i hs) → after ≡ log_with_event before now h.peer h.core (part h).core → after ≡ log_after_part part now log (take (i + 1) hs)
notes_more part now log before after hs i h lt is was e =
    e ∙ ap (λ l. log_with_event l now h.peer h.core (part h).core) was
    ∙ sym (notes_append part now log (take i hs) h)
    ∙ ap (λ x. log_after_part part now log (take i hs ++ x ∷ [])) is
    ∙ ap (log_after_part part now log) (sym (take_more hs i h lt))

-- aging doesn't depend on for how long the agent was deaf
pub grown_any : (packages : List PackageText) (a b : ℕ) (ps : List (Half TimedOf)) → map (session_half_aged packages) (map (half_in a) ps) ≡ map (session_half_aged packages) (map (half_in b) ps)
grown_any packages a b [] = refl
grown_any packages a b (p ∷ ps) = ap (λ hs. session_half_aged packages (half_in a p) ∷ hs) (grown_any packages a b ps)

pub again_any : (a b : ℕ) (ps : List (Half TimedOf)) → flat_map again_packets (map (half_in a) ps) ≡ flat_map again_packets (map (half_in b) ps)
again_any a b [] = refl
again_any a b (p ∷ ps) = ap (λ xs. again_packets (half_in a p) ++ xs) (again_any a b ps)

pub notes_any : (packages : List PackageText) (now a b : ℕ) (log : LogOf) (ps : List (Half TimedOf))
    → log_after_part (session_half_aged packages) now log (map (half_in a) ps) ≡ log_after_part (session_half_aged packages) now log (map (half_in b) ps)
notes_any packages now a b log [] = refl
notes_any packages now a b log (p ∷ ps) =
    notes_any packages now a b (log_with_event log now p.ends.asking.peer p.core (session_half_aged packages (half_in a p)).core) ps

-- a deaf agent only counts the tick
deaf_half : (packages : List PackageText) (deaf : ℕ) (p : Half TimedOf) → 1 < deaf → half_in (deaf - 1) p ≡ (half_ticks (session_core packages) true (half_in deaf p)).half
deaf_half packages deaf p more = rw (lt-leb deaf 1 more, ne_eqb (deaf - 1) 0 (λ e. absurd (omega (arith, e, more)))) refl

pub deaf_halves : (packages : List PackageText) (deaf : ℕ) (ps : List (Half TimedOf)) → 1 < deaf
    → map (half_in (deaf - 1)) ps ≡ map (λ h. (half_ticks (session_core packages) true h).half) (map (half_in deaf) ps)
deaf_halves packages deaf [] more = refl
deaf_halves packages deaf (p ∷ ps) more =
    ap (λ h. h ∷ map (half_in (deaf - 1)) ps) (deaf_half packages deaf p more)
    ∙ ap (λ hs. (half_ticks (session_core packages) true (half_in deaf p)).half ∷ hs) (deaf_halves packages deaf ps more)

-- all halves restart
halves_made : (e f : EndsOf) (c d : TimedOf) → e ≡ f → c ≡ d → ◌≡◌ {A = Half TimedOf} (record { ends = e; core = c }) (record { ends = f; core = d })
halves_made e f c d p q = rw (p, q) refl

pub anew : (h g : Half TimedOf) → g.ends ≡ (half_restarted h).ends → ((packages : Bor (List PackageText)) → g.core ≡ (session_core packages.now).restarted h.core) → g ≡ half_restarted h
anew h g e c = halves_made g.ends (half_restarted h).ends g.core (half_restarted h).core e (c (record { ref_ptr = (0, 0); now = [] }))

pub restarted_halves : (packages : List PackageText) (deaf : ℕ) (ps : List (Half TimedOf))
    → map (half_in 40) (map half_restarted ps) ≡ map (half_restarts (session_core packages)) (map (half_in deaf) ps)
restarted_halves packages deaf [] = refl
restarted_halves packages deaf (p ∷ ps) = ap (λ hs. half_in 40 (half_restarted p) ∷ hs) (restarted_halves packages deaf ps)

pub restart_made : (packages : List PackageText) (deaf tid : ℕ) (d : Identity) (l log : LogOf) (ps qs : List (Half TimedOf)) → tid ≡ 0 → log ≡ sel_restart l → qs ≡ map half_restarted ps
    → ◌≡◌ {A = AgentOf} (record { endpoint = d.endpoint; tid = tid; deaf = 40; halves = map (half_in 40) qs; log = log }) (agent_restarts packages (agent_of deaf d l ps))
restart_made packages deaf tid d l log ps qs t k q =
    rw (t, k, q)
    (ap (λ hs. record { endpoint = d.endpoint; tid = 0; deaf = 40; halves = hs; log = sel_restart l }) (restarted_halves packages deaf ps))

-- a tick of a deaf agent
pub deaf_ticks : (packages : List PackageText) (now deaf : ℕ) (d : Identity) (l : LogOf) (ps : List (Half TimedOf)) → 1 < deaf
    → agent_of (deaf - 1) d l ps ≡ agent_ticks packages now (agent_of deaf d l ps)
deaf_ticks packages now deaf d l ps more =
    rw (lt-leb deaf 1 more)
    (ap (λ hs. record { endpoint = d.endpoint; tid = d.tid; deaf = deaf - 1; halves = hs; log = l }) (deaf_halves packages deaf ps more))

-- a tick of an agent that hears, from the results of both loops
pub hearing_ticks : (packages : List PackageText) (now deaf : ℕ) (d : Identity) (l log last : LogOf) (ps qs rs : List (Half TimedOf)) → deaf ≤ 1
    → map (half_in 0) qs ≡ map (session_half_aged packages) (map (half_in 0) ps) → map (half_in 0) rs ≡ map (session_half_after packages) (map (half_in 0) qs)
    → log ≡ log_after_part (session_half_aged packages) now l (map (half_in 0) ps) → last ≡ log_after_part (session_half_idle packages) now log (map (half_in 0) qs)
    → ◌≡◌ {A = AgentOf} (record { endpoint = d.endpoint; tid = d.tid; deaf = 0; halves = map (half_in 0) rs; log = last }) (agent_ticks packages now (agent_of deaf d l ps))
hearing_ticks packages now deaf d l log last ps qs rs few grows ends first second =
    let all : map (half_in 0) qs ≡ map (session_half_aged packages) (map (half_in deaf) ps) = grows ∙ grown_any packages 0 deaf ps in
    let noted_first : log ≡ log_after_part (session_half_aged packages) now l (map (half_in deaf) ps) = first ∙ notes_any packages now 0 deaf l ps in
    rw (le-leb deaf 1 few, ends, second, all, noted_first) refl

pub hearing_sends : (packages : List PackageText) (deaf : ℕ) (d : Identity) (l : LogOf) (sent last : List (List ℕ)) (ps qs : List (Half TimedOf)) → deaf ≤ 1
    → map (half_in 0) qs ≡ map (session_half_aged packages) (map (half_in 0) ps)
    → sent ≡ [] ++ flat_map again_packets (map (half_in 0) ps) → last ≡ sent ++ flat_map (ended_packets packages) (map (half_in 0) qs)
    → last ≡ agent_tick_sends packages (agent_of deaf d l ps)
hearing_sends packages deaf d l sent last ps qs few grows first second =
    let all : map (half_in 0) qs ≡ map (session_half_aged packages) (map (half_in deaf) ps) = grows ∙ grown_any packages 0 deaf ps in
    let again : sent ≡ flat_map again_packets (map (half_in deaf) ps) = first ∙ again_any 0 deaf ps in
    rw (le-leb deaf 1 few, second, all, again) refl

-- The parts of a tick, in order, are the tick of each half.
ticked_half : (packages : List PackageText) (deaf : ℕ) (p : Half TimedOf) → deaf ≤ 1
    → session_half_after packages (session_half_aged packages (half_in deaf p)) ≡ (half_ticks (session_core packages) true (half_in deaf p)).half
ticked_half packages deaf p few = ap (λ t. t.half) (sym (hearing_tick (session_core packages) (half_in deaf p) few few))

ticked_halves : (packages : List PackageText) (deaf : ℕ) (ps : List (Half TimedOf)) → deaf ≤ 1
    → map (session_half_after packages) (map (session_half_aged packages) (map (half_in deaf) ps)) ≡ map (λ h. (half_ticks (session_core packages) true h).half) (map (half_in deaf) ps)
ticked_halves packages deaf [] few = refl
ticked_halves packages deaf (p ∷ ps) few =
    ap (λ h. h ∷ map (session_half_after packages) (map (session_half_aged packages) (map (half_in deaf) ps))) (ticked_half packages deaf p few)
    ∙ ap (λ hs. (half_ticks (session_core packages) true (half_in deaf p)).half ∷ hs) (ticked_halves packages deaf ps few)

pub ticks_halves : (packages : List PackageText) (now deaf : ℕ) (d : Identity) (l : LogOf) (ps : List (Half TimedOf))
    → (agent_ticks packages now (agent_of deaf d l ps)).halves ≡ map (λ h. (half_ticks (session_core packages) true h).half) (map (half_in deaf) ps)
ticks_halves packages now deaf d l ps = elim (cases_lt 1 deaf) [
  | inl more ↦ ap (λ n. n.halves) (sym (deaf_ticks packages now deaf d l ps more)) ∙ deaf_halves packages deaf ps more
  | inr few ↦ rw (le-leb deaf 1 few) (ticked_halves packages deaf ps few)
]

pub ticked_sent : (packages : List PackageText) (deaf : ℕ) (p : Half TimedOf) → deaf ≤ 1
    → all_packets p.ends.asking.unit (half_ticks (session_core packages) true (half_in deaf p)).sent ≡ again_packets (half_in deaf p) ++ ended_packets packages (session_half_aged packages (half_in deaf p))
ticked_sent packages deaf p few =
    ap (λ t. all_packets p.ends.asking.unit t.sent) (hearing_tick (session_core packages) (half_in deaf p) few few)
    ∙ packets_behind p.ends.asking.unit (sent_by (caller_tick p.ends.asking.caller).1) (half_waits (session_core packages) (half_grows (session_core packages) (half_in deaf p))).sent

-- the packets sent don't depend on for how long the agent was deaf
pub addressed_any : (packages : List PackageText) (deaf : ℕ) (ps : List (Half TimedOf)) → deaf ≤ 1 → AllByRecursion (IsAddressed packages) (map (half_in 0) ps)
    → AllByRecursion (IsAddressed packages) (map (half_in deaf) ps)
addressed_any packages deaf [] few all = tt
addressed_any packages deaf (p ∷ ps) few all =
    (record { sent = ticked_sent packages deaf p few; again = all.0.again; begun = all.0.begun }, addressed_any packages deaf ps few all.1)
