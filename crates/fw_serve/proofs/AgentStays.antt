-- What no call changes of the agent: its endpoint, its devices, and the transmission unit of its
-- halves and sessions.
use Rattle.std.proofs.Common.{◌≡◌, ◌≢◌, ◌∙◌, ◌==◌, ℕ, zero, suc, Bool, true, false, nat_le, if◌then◌else◌, List, [], ◌∷◌, map, slice_get, slice_set, Option, Some, None, IfSome, ap, refl, sym, subst}
use Rattle.std.specs.List.{AllByRecursion}
use Rattle.agent_store.specs.Kept.{HaveDevicesOnce}
use Rattle.fw_node.specs.Agents.{AgentOf, AgentOutcome, agent_on_packet_at, agent_unmoved, all_grown, any_packet, becomes_at, half_after_activate, half_after_cancel, half_after_start, half_at, half_for, new_half, place_of, place_of_sender, ready_for, ready_in, session_half_aged, session_half_after}
use Rattle.fw_node.specs.Cores.{session_core}
use Rattle.fw_node.specs.Halves.{HalfOf, HalfOutcome, core_after_give_up, half_on_packet, half_restarts, half_ticks, half_with_ticked_core, unwished_abandoned, with_caller}
use Rattle.fw_node.specs.Nodes.{node_outcome_of}
use Rattle.fw_node.specs.Resumed.{IsHalfIn}
use Rattle.fw_package.specs.Package.{PackageText}
use Rattle.fw_steps.specs.Alone.{AgentCall, agent_after_activation, agent_after_call, agent_after_log_request}
use Rattle.fw_steps.specs.Opening.{AreDifferent}
use Rattle.fw_steps.specs.Plays.{AgentProcess}
use Rattle.fw_steps.specs.Traces.{AgentAct, agent_act_call, agent_process_after_act}
use Rattle.fw_steps.proofs.LinksAreLanes.Hears.{half_in}
use Rattle.fw_steps.proofs.LinksAreLanes.Listed.{every}
use Rattle.fw_steps.proofs.LinksAreLanes.Ticks.{core_stays, same_ticks}
use Rattle.fw_steps.proofs.LinksAreLanes.Units.{activated_keeps, cancelled_keeps, hears_keeps, session_keeps, ticks_keep}
use Rattle.mctp_ctl.specs.declared.answers.Endpoint.{Endpoint}
use Rattle.mctp_wire.specs.declared.unit.Unit.{«Unit»}
use Rattle.pldm_base.specs.declared.terminus.Role.{Role}
use Rattle.pldm_base.specs.declared.terminus.Role.TheVariants as roles
use Rattle.pldm_exch.specs.Caller.{CallTickOf, caller_tick}
use Rattle.ua_core.specs.Session.{SessionOf, TimedOf}
use Rattle.fw_serve.specs.Lives.{AgentSetupOf, agent_of_setup}
use Rattle.fw_serve.specs.Traced.{agent_process_after_acts}
use Rattle.fw_serve.proofs.HalvesStay.{packet_between, wish_between}

-- HALVES

-- one half after another, between the same nodes
pub record IsSameHalf (h g : HalfOf TimedOf) : Type 0 where
  pub unit : g.unit ≡ h.unit
  pub own : g.own ≡ h.own
  pub peer : g.peer ≡ h.peer
  pub session : g.core.session.unit ≡ h.core.session.unit

abbrev pub AreSameHalves : List (HalfOf TimedOf) → List (HalfOf TimedOf) → Type 0
AreSameHalves [] [] = Prim.Unit {0}
AreSameHalves (h ∷ hs) (g ∷ gs) = IsSameHalf h g × AreSameHalves hs gs
AreSameHalves hs gs = ⊥

same_one : (h : HalfOf TimedOf) → IsSameHalf h h
same_one h = record { unit = refl; own = refl; peer = refl; session = refl }

same_on : (h g f : HalfOf TimedOf) → IsSameHalf h g → IsSameHalf g f → IsSameHalf h f
same_on h g f a b = record { unit = b.unit ∙ a.unit; own = b.own ∙ a.own; peer = b.peer ∙ a.peer; session = b.session ∙ a.session }

same_all : (hs : List (HalfOf TimedOf)) → AreSameHalves hs hs
same_all [] = tt
same_all (h ∷ hs) = (same_one h, same_all hs)

same_mapped : (f : HalfOf TimedOf → HalfOf TimedOf) → ((h : HalfOf TimedOf) → IsSameHalf h (f h)) → (hs : List (HalfOf TimedOf)) → AreSameHalves hs (map f hs)
same_mapped f same [] = tt
same_mapped f same (h ∷ hs) = (same h, same_mapped f same hs)

same_then : (hs gs fs : List (HalfOf TimedOf)) → AreSameHalves hs gs → AreSameHalves gs fs → AreSameHalves hs fs
same_then [] [] fs a b = b
same_then [] (g ∷ gs) fs a b = absurd a
same_then (h ∷ hs) [] fs a b = absurd a
same_then (h ∷ hs) (g ∷ gs) [] a b = absurd b
same_then (h ∷ hs) (g ∷ gs) (f ∷ fs) a b = (same_on h g f a.0 b.0, same_then hs gs fs a.1 b.1)

same_set : (hs : List (HalfOf TimedOf)) (i : ℕ) (h g : HalfOf TimedOf) → slice_get hs i ≡ Some h → IsSameHalf h g → AreSameHalves hs (slice_set hs i g)
same_set [] i h g at same = tt
same_set (x ∷ hs) zero h g at same = let is : x ≡ h = cc in (subst (λ y. IsSameHalf y g) (sym is) same, same_all hs)
same_set (x ∷ hs) (suc i) h g at same = (same_one x, same_set hs i h g at same)

pub same_in : (u : «Unit») (e : ℕ) (hs gs : List (HalfOf TimedOf)) → AreSameHalves hs gs → AllByRecursion (IsHalfIn u e) hs → AllByRecursion (IsHalfIn u e) gs
same_in u e [] [] same are = tt
same_in u e [] (g ∷ gs) same are = absurd same
same_in u e (h ∷ hs) [] same are = absurd same
same_in u e (h ∷ hs) (g ∷ gs) same are =
    (record { unit = same.0.unit ∙ are.0.unit; own = same.0.own ∙ are.0.own; session = same.0.session ∙ are.0.session }, same_in u e hs gs same.1 are.1)

same_peers : (hs gs : List (HalfOf TimedOf)) → AreSameHalves hs gs → map (λ (h : HalfOf TimedOf). h.peer) gs ≡ map (λ (h : HalfOf TimedOf). h.peer) hs
same_peers [] [] same = refl
same_peers [] (g ∷ gs) same = absurd same
same_peers (h ∷ hs) [] same = absurd same
same_peers (h ∷ hs) (g ∷ gs) same = rw (same.0.peer, same_peers hs gs same.1) refl

-- A PACKET

heard_same : (packages : List PackageText) (h : HalfOf TimedOf) (bytes : List ℕ) → IsSameHalf h (half_in (half_on_packet (session_core packages) true h bytes))
heard_same packages h bytes =
    let b = packet_between (session_core packages) true h bytes in
    record { unit = b.unit; own = b.own; peer = b.peer; session = hears_keeps (session_core packages) (session_keeps packages) true h bytes }

outcome_same : (h : HalfOf TimedOf) (role : Role) (endpoint : Endpoint) (tid : ℕ) (heard : HalfOutcome TimedOf) → IsSameHalf h (half_in heard)
    → IsSameHalf h (node_outcome_of role endpoint tid heard).half
outcome_same h role endpoint tid (HalfOutcome.Went half sent) same = same
outcome_same h role endpoint tid (HalfOutcome.Took half sent command answer) same = same
outcome_same h role endpoint tid (HalfOutcome.Asks half m head body) same = record { unit = same.unit; own = same.own; peer = same.peer; session = same.session }
outcome_same h role endpoint tid (HalfOutcome.Strayed half m) same = same

-- A TICK

gave_up : (packages : List PackageText) (call : CallTickOf) (s : TimedOf) → (core_after_give_up (session_core packages) call s).session.unit ≡ s.session.unit
gave_up packages CallTickOf.Nothing s = refl
gave_up packages (CallTickOf.Send message) s = refl
gave_up packages CallTickOf.GaveUp s = refl

aged_same : (packages : List PackageText) (h : HalfOf TimedOf) → IsSameHalf h (session_half_aged packages h)
aged_same packages h = record { unit = refl; own = refl; peer = refl; session = gave_up packages (caller_tick h.asker.caller).1 h.core }

after_same : (packages : List PackageText) (h : HalfOf TimedOf) → IsSameHalf h (session_half_after packages h)
after_same packages h =
    let core = session_core packages in
    let ticked = half_with_ticked_core core h in
    let settled = with_caller ticked (unwished_abandoned (core.wish ticked.core) ticked.asker.caller) in
    let b = wish_between (core.wish ticked.core) settled [] in
    record {
      unit = b.unit;
      own = b.own;
      peer = b.peer;
      session = ap core.unit (core_stays (core.wish ticked.core) settled []) ∙ (session_keeps packages).ticked h.core;
    }

ticked_same : (packages : List PackageText) (h : HalfOf TimedOf) → IsSameHalf h (half_ticks (session_core packages) true h).half
ticked_same packages h =
    let b = same_ticks (session_core packages) true h in
    record { unit = b.0; own = b.1; peer = b.2; session = ticks_keep (session_core packages) (session_keeps packages) true h }

-- CALLS OF THE OPERATOR

becomes_same : (n : AgentOf) (now : ℕ) (call : HalfOf TimedOf → HalfOf TimedOf) (o : Option ℕ) (s : Option (HalfOf TimedOf)) → half_at n.halves o ≡ s
    → IfSome s (λ h. IsSameHalf h (call h)) → AreSameHalves n.halves (becomes_at n now call o s).halves
becomes_same n now call None None at same = same_all n.halves
becomes_same n now call None (Some h) at same = same_all n.halves
becomes_same n now call (Some i) None at same = same_all n.halves
becomes_same n now call (Some i) (Some h) at same = same_set n.halves i h (call h) at same

any_half : (call : HalfOf TimedOf → HalfOf TimedOf) → ((h : HalfOf TimedOf) → IsSameHalf h (call h)) → (s : Option (HalfOf TimedOf)) → IfSome s (λ h. IsSameHalf h (call h))
any_half call same None = tt
any_half call same (Some h) = same h

cancels_same : (packages : List PackageText) (h : HalfOf TimedOf) → IsSameHalf h (half_after_cancel packages h)
cancels_same packages h = record { unit = refl; own = refl; peer = refl; session = cancelled_keeps h.core.session }

starts_same : (packages : List PackageText) (number : ℕ) (h : HalfOf TimedOf) → IsSameHalf h (half_after_start packages h number)
starts_same packages number h = record { unit = refl; own = refl; peer = refl; session = refl }

-- the session of a half has the device activate
ready_same : (packages : List PackageText) (s : SessionOf) (o : Option (HalfOf TimedOf)) → ready_in o ≡ Some s → IfSome o (λ h. IsSameHalf h (half_after_activate packages h s))
ready_same packages s None ready = tt
ready_same packages s (Some h) ready =
    let keeps : s.unit ≡ h.core.session.unit = subst (λ r. IfSome r (λ t. t.unit ≡ h.core.session.unit)) ready (activated_keeps h.core.session) in
    record { unit = refl; own = refl; peer = refl; session = keeps }

activates_same : (packages : List PackageText) (now device : ℕ) (n : AgentOf) (r : Option SessionOf) → ready_for n device ≡ r
    → AreSameHalves n.halves (agent_after_activation packages now device n r).halves
activates_same packages now device n None ready = same_all n.halves
activates_same packages now device n (Some s) ready =
    becomes_same n now (λ h. half_after_activate packages h s) (place_of n.halves device) (half_for n device) refl (ready_same packages s (half_for n device) ready)

-- THE AGENT

-- one agent after another: of the same endpoint and devices
pub record IsSameAgent (n m : AgentOf) : Type 0 where
  pub endpoint : m.endpoint ≡ n.endpoint
  pub halves : AreSameHalves n.halves m.halves

same_agent : (n : AgentOf) → IsSameAgent n n
same_agent n = record { endpoint = refl; halves = same_all n.halves }

packet_at : (packages : List PackageText) (n : AgentOf) (bytes : List ℕ) (now : ℕ) (o : Option ℕ) (s : Option (HalfOf TimedOf)) → half_at n.halves o ≡ s
    → IsSameAgent n (agent_on_packet_at packages n bytes now o s).agent
packet_at packages n bytes now None None at = same_agent n
packet_at packages n bytes now None (Some h) at = same_agent n
packet_at packages n bytes now (Some i) None at = same_agent n
packet_at packages n bytes now (Some i) (Some h) at = record {
  endpoint = refl;
  halves = same_set n.halves i h _ at (outcome_same h roles.Agent n.endpoint n.tid (half_on_packet (session_core packages) true h bytes) (heard_same packages h bytes));
}

packet_if : (b : Bool) (n : AgentOf) (o : AgentOutcome) → IsSameAgent n o.agent → IsSameAgent n (if b then o else agent_unmoved n).agent
packet_if true n o same = same
packet_if false n o same = same_agent n

tick_if_soon : (b : Bool) (n x y : AgentOf) → IsSameAgent n x → IsSameAgent n y → IsSameAgent n (if b then x else y)
tick_if_soon true n x y a c = a
tick_if_soon false n x y a c = c

logs_same : (now : ℕ) (bytes : List ℕ) (n : AgentOf) → IsSameAgent n (agent_after_log_request now bytes n)
logs_same now [] n = same_agent n
logs_same now (command ∷ bytes) n = record { endpoint = refl; halves = same_all n.halves }

becomes_endpoint : (n : AgentOf) (now : ℕ) (call : HalfOf TimedOf → HalfOf TimedOf) (o : Option ℕ) (s : Option (HalfOf TimedOf)) → (becomes_at n now call o s).endpoint ≡ n.endpoint
becomes_endpoint n now call None None = refl
becomes_endpoint n now call None (Some h) = refl
becomes_endpoint n now call (Some i) None = refl
becomes_endpoint n now call (Some i) (Some h) = refl

activates_endpoint : (packages : List PackageText) (now device : ℕ) (n : AgentOf) (r : Option SessionOf) → (agent_after_activation packages now device n r).endpoint ≡ n.endpoint
activates_endpoint packages now device n None = refl
activates_endpoint packages now device n (Some s) = becomes_endpoint n now (λ h. half_after_activate packages h s) (place_of n.halves device) (half_for n device)

call_same : (packages : List PackageText) (n : AgentOf) (c : AgentCall) → IsSameAgent n (agent_after_call packages n c)
call_same packages n (AgentCall.Receives now bytes) =
    let o = place_of_sender n.halves (any_packet bytes) in
    packet_if (n.deaf == 0) n (agent_on_packet_at packages n bytes now o (half_at n.halves o)) (packet_at packages n bytes now o (half_at n.halves o) refl)
call_same packages n (AgentCall.Ticks now) =
    tick_if_soon (nat_le n.deaf 1) n _ _
    (record {
      endpoint = refl;
      halves = same_then n.halves (all_grown packages n) (map (session_half_after packages) (all_grown packages n))
          (same_mapped (session_half_aged packages) (aged_same packages) n.halves) (same_mapped (session_half_after packages) (after_same packages) (all_grown packages n));
    })
    (record { endpoint = refl; halves = same_mapped (λ h. (half_ticks (session_core packages) true h).half) (ticked_same packages) n.halves })
call_same packages n (AgentCall.Starts now device number) = record {
  endpoint = becomes_endpoint n now (λ h. half_after_start packages h number) (place_of n.halves device) (half_for n device);
  halves = becomes_same n now (λ h. half_after_start packages h number) (place_of n.halves device) (half_for n device) refl
      (any_half (λ h. half_after_start packages h number) (starts_same packages number) (half_for n device));
}
call_same packages n (AgentCall.Cancels now device) = record {
  endpoint = becomes_endpoint n now (half_after_cancel packages) (place_of n.halves device) (half_for n device);
  halves = becomes_same n now (half_after_cancel packages) (place_of n.halves device) (half_for n device) refl (any_half (half_after_cancel packages) (cancels_same packages) (half_for n device));
}
call_same packages n (AgentCall.Activates now device) = record {
  endpoint = activates_endpoint packages now device n (ready_for n device);
  halves = activates_same packages now device n (ready_for n device) refl;
}
call_same packages n AgentCall.Restarts = record {
  endpoint = refl;
  halves = same_mapped (half_restarts (session_core packages)) (λ h. record { unit = refl; own = refl; peer = refl; session = refl }) n.halves;
}
call_same packages n (AgentCall.AsksLog now bytes) = logs_same now bytes n

pub acts_same : (packages : List PackageText) (p : AgentProcess) (acts : List AgentAct) → IsSameAgent p.node (agent_process_after_acts packages p acts).node
acts_same packages p [] = same_agent p.node
acts_same packages p (d ∷ acts) =
    let one = call_same packages p.node (agent_act_call p.unit d) in
    let more = acts_same packages (agent_process_after_act packages p d) acts in
    record {
      endpoint = more.endpoint ∙ one.endpoint;
      halves = same_then p.node.halves _ _ one.halves more.halves;
    }

-- THE AGENT OF A CONFIGURATION

-- a node of the agent of a configuration
pub record IsAgentOf (c : AgentSetupOf) (n : AgentOf) : Type 0 where
  pub endpoint : n.endpoint ≡ c.endpoint
  pub halves : AllByRecursion (IsHalfIn c.unit c.endpoint.eid) n.halves
  pub devices : map (λ (h : HalfOf TimedOf). h.peer) n.halves ≡ c.devices

pub stays_agent : (c : AgentSetupOf) (n m : AgentOf) → IsSameAgent n m → IsAgentOf c n → IsAgentOf c m
stays_agent c n m same is = record {
  endpoint = same.endpoint ∙ is.endpoint;
  halves = same_in c.unit c.endpoint.eid n.halves m.halves same.halves is.halves;
  devices = same_peers n.halves m.halves same.halves ∙ is.devices;
}

new_halves : (u : «Unit») (own : ℕ) (devices : List ℕ) → AllByRecursion (IsHalfIn u own) (map (new_half u own) devices)
new_halves u own [] = tt
new_halves u own (d ∷ ds) = (record { unit = refl; own = refl; session = refl }, new_halves u own ds)

new_peers : (u : «Unit») (own : ℕ) (devices : List ℕ) → map (λ (h : HalfOf TimedOf). h.peer) (map (new_half u own) devices) ≡ devices
new_peers u own [] = refl
new_peers u own (d ∷ ds) = ap (λ (xs : List ℕ). d ∷ xs) (new_peers u own ds)

pub new_agent_of : (c : AgentSetupOf) → IsAgentOf c (agent_of_setup c)
new_agent_of c = record { endpoint = refl; halves = new_halves c.unit c.endpoint.eid c.devices; devices = new_peers c.unit c.endpoint.eid c.devices }

-- each device once
differs : (n : ℕ) (hs : List (HalfOf TimedOf)) → AllByRecursion (λ y. n ≢ y) (map (λ (h : HalfOf TimedOf). h.peer) hs) → AllByRecursion (λ (other : HalfOf TimedOf). other.peer ≢ n) hs
differs n [] k = tt
differs n (h ∷ hs) k = (λ is. k.0 (sym is), differs n hs k.1)

devices_once : (hs : List (HalfOf TimedOf)) → AreDifferent (map (λ (h : HalfOf TimedOf). h.peer) hs) → HaveDevicesOnce hs
devices_once [] k = tt
devices_once (h ∷ hs) k = (differs h.peer hs (every (λ y. h.peer ≢ y) (map (λ (g : HalfOf TimedOf). g.peer) hs) k.0), devices_once hs k.1)

pub agent_devices_once : (c : AgentSetupOf) (n : AgentOf) → IsAgentOf c n → AreDifferent c.devices → HaveDevicesOnce n.halves
agent_devices_once c n is k = devices_once n.halves (subst AreDifferent (sym is.devices) k)
