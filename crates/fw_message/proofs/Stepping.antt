-- A step of a world, from the device that takes it.
use Rattle.std.proofs.Common.{◌≡◌, ◌∷◌, ◌⊎◌, inl, inr, ℕ, zero, suc, Bool, true, false, List, [], Some, None, ap, map, refl, set, sym, get_or}
use Rattle.std.specs.Prelude.{option_map, slice_get}
use Rattle.std.proofs.lemmas.List.{map-set}
use Rattle.fw_package.specs.Package.{PackageText}
use Rattle.fw_message.specs.Nodes.{CountedOf}
use Rattle.fd_core.specs.Banks.{CountsFailure}
use Rattle.fw_message.specs.BankCalls.{pair_step_calls_bank, message_step_calls_bank}
use Rattle.fw_message.specs.Pairs.{pair_after}
use Rattle.fw_message.specs.Replays.{BankFailed, HasNode, RefusesMessageStep, counted_restarted, place_at}
use Rattle.fw_message.specs.Worlds.{IsPairRefusal, NodeOf, NotedOf, MessageWorldOf, agent_restarted, device_of, named_step, node_at, noted_on, pair_step, refusal_of, restarts_agent, message_world_after}
use Rattle.fw_message.specs.declared.step.MessageStep.{MessageStep}
use Rattle.fw_message.specs.declared.step.MessageStep.TheVariants as steps
use Rattle.fw_message.specs.declared.step.MessageStepFault.{MessageStepFault}
use Rattle.fw_message.specs.declared.step.MessageStepFault.TheVariants as faults
use Rattle.fw_message.proofs.Places.{IsAt, at_node, is_at, world_allows, world_refuses, world_step}

abbrev pub node_in : CountedOf → NodeOf
node_in p = p.node

pub nodes_restarted : (packages : List PackageText) (pairs : List CountedOf) → map node_in (map (counted_restarted packages) pairs) ≡ map (agent_restarted packages) (map node_in pairs)
nodes_restarted packages [] = refl
nodes_restarted packages (p ∷ pairs) = ap (λ ns. agent_restarted packages p.node ∷ ns) (nodes_restarted packages pairs)

-- a restart of the agent
pub agent_restarts : (w : MessageWorldOf) (pairs : List CountedOf) (s : MessageStep) (works : Bool) → w.nodes ≡ map node_in pairs → restarts_agent w.agent s ≡ true
    → message_world_after w (named_step w.agent works s) ≡ Some (record w { nodes = map node_in (map (counted_restarted w.packages) pairs) })
unfolding message_world_after
agent_restarts w pairs s works nodes is = rw (is, nodes_restarted w.packages pairs, sym nodes) refl

pub get_map : (pairs : List CountedOf) (place : ℕ) (p : CountedOf) → slice_get pairs place ≡ Some p → slice_get (map node_in pairs) place ≡ Some p.node
get_map [] place p e = absurd (cc)
get_map (q ∷ pairs) zero p e = let same : q ≡ p = cc in rw same refl
get_map (q ∷ pairs) (suc place) p e = get_map pairs place p e

-- a step that the device at a place takes
pub device_steps : (w : MessageWorldOf) (pairs : List CountedOf) (p after : CountedOf) (place : ℕ) (s : MessageStep) (works : Bool) (later : List NotedOf)
    → w.nodes ≡ map node_in pairs → restarts_agent w.agent s ≡ false → place_at w.nodes (device_of s) ≡ Some place → slice_get pairs place ≡ Some p → after.node.eid ≡ p.node.eid
    → option_map (noted_on p.node.eid w.history) (pair_after w.packages p.node.pair (pair_step works s)) ≡ Some (record { pair = after.node.pair; history = later })
    → message_world_after w (named_step w.agent works s) ≡ Some (record w { nodes = map node_in (set pairs place after); history = later })
device_steps w pairs p after place s works later nodes is at found eid e =
    let same : record p.node { pair = after.node.pair } ≡ after.node = rw (sym eid) refl in
    let put : set w.nodes place (record p.node { pair = after.node.pair }) ≡ map node_in (set pairs place after) =
    rw (nodes, same) (sym (map-set node_in pairs place after)) in
    rw (is, sym put) (world_step w (device_of s) place (pair_step works s) p.node after.node.pair later (is_at w.nodes (device_of s) place at) (rw nodes (get_map pairs place p found)) e)

-- the cause of a refusal
cause_of : (s : MessageStep) → (refusal_of s ≡ faults.NotNow) ⊎ (refusal_of s ≡ faults.Refused)
cause_of (steps.Start device number) = inr refl
cause_of (steps.Activate device) = inr refl
cause_of (steps.Verdict device verdict) = inr refl
cause_of s = inl refl

refused_as : (w : MessageWorldOf) (s : MessageStep) → HasNode w s → ((works : Bool) → message_world_after w (named_step w.agent works s) ≡ None) → RefusesMessageStep w s (refusal_of s)
refused_as w s has none =
    elim (cause_of s) [
      | inl now ↦ rw now (sym now, has, none)
      | inr refused ↦ rw refused (sym refused, has, none)
    ]

-- a step that the device at a place doesn't take
pub device_refuses : (w : MessageWorldOf) (pairs : List CountedOf) (p : CountedOf) (place : ℕ) (s : MessageStep) (e : MessageStepFault)
    → w.nodes ≡ map node_in pairs → restarts_agent w.agent s ≡ false → place_at w.nodes (device_of s) ≡ Some place → slice_get pairs place ≡ Some p
    → IsPairRefusal s e (λ works. pair_after w.packages p.node.pair (pair_step works s)) → RefusesMessageStep w s e
device_refuses w pairs p place s e nodes is at found h =
    let at' : IsAt w.nodes (device_of s) place = is_at w.nodes (device_of s) place at in
    let here : slice_get w.nodes place ≡ Some p.node = rw nodes (get_map pairs place p found) in
    let node : node_at w.nodes (device_of s) ≡ Some p.node = at_node w.nodes (device_of s) place p.node at' here in
    let has : HasNode w s = rw (is, node) refl in
    elim h [
      | inl r ↦ rw r.0 (rw node r.1, has, λ works. rw is (world_allows w (device_of s) place (pair_step works s) p.node at' here (r.2 works)))
      | inr r ↦ rw r.0 (refused_as w s has (λ works. rw is (world_refuses w (device_of s) place (pair_step works s) p.node at' here (r.1 works))))
    ]

faults_at : (pairs : List CountedOf) (p : CountedOf) (place : ℕ) → slice_get pairs place ≡ Some p → get_or (map (λ q. q.faults) pairs) place 0 ≡ p.faults
faults_at [] p place e = absurd (cc)
faults_at (q ∷ pairs) p zero e = let same : q ≡ p = cc in rw same refl
faults_at (q ∷ pairs) p (suc place) e = faults_at pairs p place e

faults_put : (pairs : List CountedOf) (p after : CountedOf) (place : ℕ) → slice_get pairs place ≡ Some p → get_or (map (λ q. q.faults) (set pairs place after)) place 0 ≡ after.faults
faults_put [] p after place e = absurd (cc)
faults_put (q ∷ pairs) p after zero e = refl
faults_put (q ∷ pairs) p after (suc place) e = faults_put pairs p after place e

-- the bank of the device at a place worked
pub faults_same : (pairs : List CountedOf) (p after : CountedOf) (place : ℕ) → slice_get pairs place ≡ Some p → after.faults ≡ p.faults → map (λ q. q.faults) (set pairs place after) ≡ map (λ q. q.faults) pairs
faults_same [] p after place e s = absurd (cc)
faults_same (q ∷ pairs) p after zero e s = let same : q ≡ p = cc in rw (s, sym same) refl
faults_same (q ∷ pairs) p after (suc place) e s = ap (λ fs. q.faults ∷ fs) (faults_same pairs p after place e s)

-- the agent restarted
pub faults_restarted : (packages : List PackageText) (pairs : List CountedOf) → map (λ q. q.faults) (map (counted_restarted packages) pairs) ≡ map (λ q. q.faults) pairs
faults_restarted packages [] = refl
faults_restarted packages (p ∷ pairs) = ap (λ fs. p.faults ∷ fs) (faults_restarted packages pairs)

-- the bank of the device at a place failed
pub bank_failed : (w : MessageWorldOf) (new : MessageWorldOf) (pairs : List CountedOf) (p after : CountedOf) (place eid : ℕ) → place_at w.nodes eid ≡ Some place → slice_get pairs place ≡ Some p → CountsFailure p.faults after.faults
    → BankFailed (record { world = w; faults = map (λ q. q.faults) pairs }) (record { world = new; faults = map (λ q. q.faults) (set pairs place after) }) eid
bank_failed w new pairs p after place eid at found rose = rw at (rw (faults_at pairs p place found, faults_put pairs p after place found) (rose, map-set (λ q. q.faults) pairs place after))

-- the bank of the device at a place was called
pub bank_called : (w : MessageWorldOf) (pairs : List CountedOf) (p : CountedOf) (place : ℕ) (s : MessageStep)
    → w.nodes ≡ map node_in pairs → place_at w.nodes (device_of s) ≡ Some place → slice_get pairs place ≡ Some p
    → pair_step_calls_bank p.node.pair (pair_step true s) ≡ true → message_step_calls_bank w s ≡ true
bank_called w pairs p place s nodes at found called =
    rw (at_node w.nodes (device_of s) place p.node (is_at w.nodes (device_of s) place at) (rw nodes (get_map pairs place p found))) called
