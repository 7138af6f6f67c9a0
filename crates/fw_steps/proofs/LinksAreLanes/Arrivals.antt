-- A packet that is delivered to a node of the world, on the link of each device.
use Rattle.std.proofs.Common.{◌≡◌, ◌∙◌, ◌==◌, ℕ, Bool, true, false, if◌then◌else◌, List, ◌++◌, Option, Some, None, IfSome, Ok, refl, sym, ap}
use Rattle.std.specs.Option.{option_map}
use Rattle.mctp_ctl.specs.declared.answers.Endpoint.{Endpoint}
use Rattle.pldm_base.specs.declared.terminus.Role.{Role}
use Rattle.pldm_base.specs.declared.terminus.Role.TheVariants as roles
use Rattle.fwup_wire.specs.Values.{CommandOf}
use Rattle.mctp_reasm.specs.Held.{Held}
use Rattle.mctp_reasm.specs.Pieces.{MessageOf}
use Rattle.pldm_base.specs.declared.header.PldmHead.{PldmHead}
use Rattle.pldm_exch.specs.Caller.{is_quiet}
use Rattle.pldm_exch.specs.Sides.{AskerRow, TakerRow}
use Rattle.std.specs.Prelude.{Result, Err}
use Rattle.ua_core.specs.Session.{TimedOf}
use Rattle.fw_node.specs.Agents.{half_for}
use Rattle.fw_node.specs.Cores.{device_core}
use Rattle.fw_node.specs.Halves.{CoreOf, HalfOutcome, HalfOf, half_on_packet, half_on_rows, half_takes, read_by, takes_if, takes_read}
use Rattle.fw_node.specs.Nodes.{device_on_packet, node_outcome_of}
use Rattle.fw_node.specs.Packets.{all_packets}
use Rattle.fw_steps.specs.Links.{LinkOf, packets_with_messages}
use Rattle.fw_steps.specs.Worlds.{SiteOf, WorldOf, at_device, node_becomes, place_of, sent_now, site_for}
use Rattle.fw_steps.proofs.LinksAreLanes.Firsts.{put_at}
use Rattle.fw_steps.proofs.LinksAreLanes.Hears.{IsPassed, half_in, sent_in}
use Rattle.fw_steps.proofs.LinksAreLanes.Posting.{site_put}
use Rattle.fw_steps.proofs.LinksAreLanes.Projection.{link_at, link_from}
use Rattle.fw_steps.proofs.LinksAreLanes.Sorted.{posted_behind}

-- a node after an outcome that went through its half
pub finished_half : {C : Type 0} (role : Role) (endpoint : Endpoint) (tid : ℕ) (heard : HalfOutcome C) → IsPassed heard → (node_outcome_of role endpoint tid heard).half ≡ half_in heard
finished_half role endpoint tid (HalfOutcome.Went h sent) k = refl
finished_half role endpoint tid (HalfOutcome.Took h sent c answer) k = refl
finished_half role endpoint tid (HalfOutcome.Asks h m head body) k = absurd k
finished_half role endpoint tid (HalfOutcome.Strayed h m) k = absurd k

pub finished_sent : {C : Type 0} (role : Role) (endpoint : Endpoint) (tid : ℕ) (heard : HalfOutcome C) → IsPassed heard → (node_outcome_of role endpoint tid heard).sent ≡ sent_in heard
finished_sent role endpoint tid (HalfOutcome.Went h sent) k = refl
finished_sent role endpoint tid (HalfOutcome.Took h sent c answer) k = refl
finished_sent role endpoint tid (HalfOutcome.Asks h m head body) k = absurd k
finished_sent role endpoint tid (HalfOutcome.Strayed h m) k = absurd k

-- it stays the half for its peer
pub finished_peer : {C : Type 0} (role : Role) (endpoint : Endpoint) (tid : ℕ) (heard : HalfOutcome C) → (node_outcome_of role endpoint tid heard).half.peer ≡ (half_in heard).peer
finished_peer role endpoint tid (HalfOutcome.Went h sent) = refl
finished_peer role endpoint tid (HalfOutcome.Took h sent c answer) = refl
finished_peer role endpoint tid (HalfOutcome.Asks h m head body) = refl
finished_peer role endpoint tid (HalfOutcome.Strayed h m) = refl

read_peer : {C : Type 0} (core : CoreOf C) (quiet works : Bool) (h : HalfOf C) (requests : List (Option Held)) (m : MessageOf) (head : PldmHead) (r : Result CommandOf ℕ)
    → (half_in (takes_read core quiet works h requests m head r)).peer ≡ h.peer
read_peer core quiet works h requests m head (Ok c) = refl
read_peer core quiet works h requests m head (Err code) = refl

taken_peer : {C : Type 0} (five : Bool) (core : CoreOf C) (works : Bool) (h : HalfOf C) (requests : List (Option Held)) (m : MessageOf) (head : PldmHead) (body : List ℕ)
    → (half_in (takes_if five core works h requests m head body)).peer ≡ h.peer
taken_peer true core works h requests m head body = read_peer core (is_quiet h.asker.caller) works h requests m head (read_by core head.command body)
taken_peer false core works h requests m head body = refl

takes_peer : {C : Type 0} (core : CoreOf C) (works : Bool) (h : HalfOf C) (row : TakerRow) → (half_in (half_takes core works h row)).peer ≡ h.peer
takes_peer core works h (TakerRow.Silent requests) = refl
takes_peer core works h (TakerRow.Repeats requests answer) = refl
takes_peer core works h (TakerRow.TakesUp requests m head body) = taken_peer (head.pldm_type == 5) core works h requests m head body
takes_peer core works h (TakerRow.Strays requests m) = refl

pub rows_peer : {C : Type 0} (core : CoreOf C) (works : Bool) (h : HalfOf C) (asks : AskerRow) (answers : TakerRow) → (half_in (half_on_rows core works h asks answers)).peer ≡ h.peer
rows_peer core works h (AskerRow.Ignores replies) answers = takes_peer core works (record h { asker = record h.asker { replies = replies } }) answers
rows_peer core works h (AskerRow.Learns replies caller heard) answers = refl

-- A packet at a device.
abbrev pub heard_site : Bool → (faults now : ℕ) → List ℕ → SiteOf → SiteOf
heard_site works faults now bytes x = record x {
  node = node_becomes x.node faults (device_on_packet works x.node bytes).tid (device_on_packet works x.node bytes).half;
  packets = x.packets ++ sent_now now (all_packets x.node.half.unit (device_on_packet works x.node bytes).sent);
}

abbrev pub heard_on_device : Bool → (now : ℕ) → List ℕ → LinkOf → LinkOf
heard_on_device works now bytes l = record l {
  device = half_in (half_on_packet device_core works l.device bytes);
  packets = packets_with_messages l.device.unit now l.packets (sent_in (half_on_packet device_core works l.device bytes));
}

pub device_put : (works : Bool) (faults : ℕ) (w : WorldOf) (bytes : List ℕ) (o : Option ℕ) (s : Option SiteOf)
    → (at_device works faults w bytes o s).sites ≡ put_at (heard_site works faults w.now bytes) w.sites o s
device_put works faults w bytes None s = refl
device_put works faults w bytes (Some p) None = refl
device_put works faults w bytes (Some p) (Some x) = refl

pub device_agent : (works : Bool) (faults : ℕ) (w : WorldOf) (bytes : List ℕ) (o : Option ℕ) (s : Option SiteOf) → (at_device works faults w bytes o s).agent ≡ w.agent
device_agent works faults w bytes None s = refl
device_agent works faults w bytes (Some p) None = refl
device_agent works faults w bytes (Some p) (Some x) = refl

device_since : (works : Bool) (faults : ℕ) (w : WorldOf) (bytes : List ℕ) (o : Option ℕ) (s : Option SiteOf) → (at_device works faults w bytes o s).since_miss ≡ w.since_miss
device_since works faults w bytes None s = refl
device_since works faults w bytes (Some p) None = refl
device_since works faults w bytes (Some p) (Some x) = refl

heard_device : (since : ℕ) (works : Bool) (faults now : ℕ) (bytes : List ℕ) (o : Option (HalfOf TimedOf)) (s : Option SiteOf)
    → IfSome (link_from since o s) (λ l. IsPassed (half_on_packet device_core works l.device bytes))
    → link_from since o (option_map (heard_site works faults now bytes) s) ≡ option_map (heard_on_device works now bytes) (link_from since o s)
heard_device since works faults now bytes None s k = refl
heard_device since works faults now bytes (Some h) None k = refl
heard_device since works faults now bytes (Some h) (Some x) k =
    let heard = half_on_packet device_core works x.node.half bytes in
    ap (λ d. Some (record { agent = h; device = d; packets = x.packets ++ sent_now now (all_packets x.node.half.unit (device_on_packet works x.node bytes).sent); agent_since_miss = since; device_since_miss = x.since_miss }))
    (finished_half roles.Device x.node.endpoint x.node.tid heard k)
    ∙ ap (λ ps. Some (record { agent = h; device = half_in heard; packets = ps; agent_since_miss = since; device_since_miss = x.since_miss }))
    (ap (λ ms. x.packets ++ sent_now now (all_packets x.node.half.unit ms)) (finished_sent roles.Device x.node.endpoint x.node.tid heard k) ∙ sym (posted_behind x.node.half.unit now x.packets (sent_in heard)))

heard_device_if : (since : ℕ) (here : Bool) (works : Bool) (faults now : ℕ) (bytes : List ℕ) (o : Option (HalfOf TimedOf)) (s : Option SiteOf)
    → (here ≡ true → IfSome (link_from since o s) (λ l. IsPassed (half_on_packet device_core works l.device bytes)))
    → link_from since o (if here then option_map (heard_site works faults now bytes) s else s) ≡ (if here then option_map (heard_on_device works now bytes) (link_from since o s) else link_from since o s)
heard_device_if since true works faults now bytes o s k = heard_device _ works faults now bytes o s (k refl)
heard_device_if since false works faults now bytes o s k = refl

-- A packet that is delivered to a device, and goes through its half, is delivered on the device's
-- link, and on no other.
pub device_hears_at : (works : Bool) (faults : ℕ) (w : WorldOf) (bytes : List ℕ) (node eid : ℕ)
    → ((node == eid) ≡ true → IfSome (link_at w eid) (λ l. IsPassed (half_on_packet device_core works l.device bytes)))
    → link_at (at_device works faults w bytes (place_of w.sites node) (site_for w.sites node)) eid
    ≡ (if node == eid then option_map (heard_on_device works w.now bytes) (link_at w eid) else link_at w eid)
device_hears_at works faults w bytes node eid k =
    ap (λ k. link_from k (half_for (at_device works faults w bytes (place_of w.sites node) (site_for w.sites node)).agent eid) (site_for (at_device works faults w bytes (place_of w.sites node) (site_for w.sites node)).sites eid))
    (device_since works faults w bytes (place_of w.sites node) (site_for w.sites node))
    ∙ ap (λ n. link_from w.since_miss (half_for n eid) (site_for (at_device works faults w bytes (place_of w.sites node) (site_for w.sites node)).sites eid))
    (device_agent works faults w bytes (place_of w.sites node) (site_for w.sites node))
    ∙ ap (λ xs. link_from w.since_miss (half_for w.agent eid) (site_for xs eid)) (device_put works faults w bytes (place_of w.sites node) (site_for w.sites node))
    ∙ ap (link_from w.since_miss (half_for w.agent eid)) (site_put (heard_site works faults w.now bytes) (λ x. refl) w.sites node eid)
    ∙ heard_device_if _ (node == eid) works faults w.now bytes (half_for w.agent eid) (site_for w.sites eid) k
