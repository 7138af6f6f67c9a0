-- If a tick may be taken, each node of a link may count it, or miss it.
use Rattle.std.proofs.Common.{◌≡◌, ◌-◌, ◌^◌, ◌&&◌, ℕ, Bool, true, false, nat_lt, List, [], ◌∷◌, Option, Some, None, IfSome, refl, sym, subst}
use Rattle.std.specs.List.{AllByRecursion, list_all}
use Rattle.arrayvec.specs.declared.array_vec.ArrayVec.{ArrayVec}
use Rattle.exch_lane.specs.Clocks.{may_beat}
use Rattle.ua_core.specs.Session.{TimedOf}
use Rattle.fw_node.specs.Agents.{half_for}
use Rattle.fw_node.specs.Halves.{HalfOf}
use Rattle.fw_steps.specs.Steps.{is_node, may_all_beat, may_site_beat, may_step, tick_fault}
use Rattle.fw_steps.specs.Links.{LinkOf}
use Rattle.fw_steps.specs.Worlds.{SiteOf, WorldOf, counts, site_for}
use Rattle.fw_steps.specs.declared.step.Step.TheVariants as steps
use Rattle.fw_steps.proofs.LinksAreLanes.Firsts.{first_fact}
use Rattle.fw_steps.proofs.LinksAreLanes.Posting.{site_eid, site_is_first, site_of}
use Rattle.fw_steps.proofs.LinksAreLanes.Projection.{link_at, link_from}
use Rattle.fw_steps.proofs.LinksAreLanes.Routes.{both_hold}

-- the conditions of a tick
tick_allowed : (known soon may : Bool) → tick_fault known soon may ≡ None → (soon ≡ true) × (may ≡ true)
tick_allowed false soon may e = absurd (cc)
tick_allowed true false may e = absurd (cc)
tick_allowed true true false e = absurd (cc)
tick_allowed true true true e = (refl, refl)

each_passes : {A : Type 0} (f : A → Bool) (xs : List A) → list_all f xs ≡ true → AllByRecursion (λ x. f x ≡ true) xs
each_passes f [] e = tt
each_passes f (x ∷ xs) e = let both = both_hold (f x) (list_all f xs) e in (both.0, each_passes f xs both.1)

-- the device with an identifier may
site_may : (missed : List ℕ) (xs : List SiteOf) (eid : ℕ) → list_all (may_site_beat missed) xs ≡ true → IfSome (site_for xs eid) (λ x. may_site_beat missed x ≡ true)
site_may missed xs eid e =
    subst (λ o. IfSome o (λ x. may_site_beat missed x ≡ true)) (sym (site_is_first xs eid))
    (first_fact site_eid (λ x. may_site_beat missed x ≡ true) xs eid (each_passes (may_site_beat missed) xs e))

all_true : (a b c : Bool) → a ≡ true → b ≡ true → c ≡ true → (a && (b && c)) ≡ true
all_true a b c e f g = rw (e, f, g) refl

-- so both may
both_may : (missed : List ℕ) (agent soon : Bool) (since eid : ℕ) (o : Option (HalfOf TimedOf)) (s : Option SiteOf) (l : LinkOf) → link_from since o s ≡ Some l
    → soon ≡ true → may_beat agent since ≡ true → IfSome s (λ x. may_site_beat missed x ≡ true) → IfSome s (λ x. site_eid x ≡ eid)
    → (soon && (may_beat agent l.agent_since_miss && may_beat (counts missed eid) l.device_since_miss)) ≡ true
both_may missed agent soon since eid None s l e now a d is = absurd (cc)
both_may missed agent soon since eid (Some h) None l e now a d is = absurd (cc)
both_may missed agent soon since eid (Some h) (Some x) l e now a d is =
    let same : ◌≡◌ {A = LinkOf} (record { agent = h; device = x.node.half; packets = x.packets; agent_since_miss = since; device_since_miss = x.since_miss }) l = cc in
    all_true soon (may_beat agent l.agent_since_miss) (may_beat (counts missed eid) l.device_since_miss) now
    (subst (λ z. may_beat agent z.agent_since_miss ≡ true) same a)
    (subst (λ z. may_beat (counts missed eid) z.device_since_miss ≡ true) same (subst (λ n. may_beat (counts missed n) x.since_miss ≡ true) is d))

-- A tick that may be taken may be taken on the link of each device.
pub tick_may : (missed : ArrayVec ℕ 17 (Unit {0})) (w : WorldOf) (eid : ℕ) (l : LinkOf) → may_step w (steps.Tick missed) ≡ None → link_at w eid ≡ Some l
    → (nat_lt w.now (2 ^ 32 - 1) && (may_beat (counts missed.items w.agent.endpoint.eid) l.agent_since_miss && may_beat (counts missed.items eid) l.device_since_miss)) ≡ true
tick_may missed w eid l may is =
    let allowed = tick_allowed (list_all (is_node w) missed.items) (nat_lt w.now (2 ^ 32 - 1)) (may_all_beat missed.items w) may in
    let both = both_hold (may_beat (counts missed.items w.agent.endpoint.eid) w.since_miss) (list_all (may_site_beat missed.items) w.sites) allowed.1 in
    both_may missed.items (counts missed.items w.agent.endpoint.eid) (nat_lt w.now (2 ^ 32 - 1)) w.since_miss eid (half_for w.agent eid) (site_for w.sites eid) l is
    allowed.0 both.0 (site_may missed.items w.sites eid both.1) (site_of w.sites eid)

-- and the agent and each device may count it, or miss it
pub agent_may : (missed : ArrayVec ℕ 17 (Unit {0})) (w : WorldOf) → may_step w (steps.Tick missed) ≡ None → may_beat (counts missed.items w.agent.endpoint.eid) w.since_miss ≡ true
agent_may missed w may =
    let allowed = tick_allowed (list_all (is_node w) missed.items) (nat_lt w.now (2 ^ 32 - 1)) (may_all_beat missed.items w) may in
    (both_hold (may_beat (counts missed.items w.agent.endpoint.eid) w.since_miss) (list_all (may_site_beat missed.items) w.sites) allowed.1).0

pub device_may : (missed : ArrayVec ℕ 17 (Unit {0})) (w : WorldOf) (eid : ℕ) (l : LinkOf) → may_step w (steps.Tick missed) ≡ None → link_at w eid ≡ Some l
    → may_beat (counts missed.items eid) l.device_since_miss ≡ true
device_may missed w eid l may is =
    let all = both_hold (nat_lt w.now (2 ^ 32 - 1)) (may_beat (counts missed.items w.agent.endpoint.eid) l.agent_since_miss && may_beat (counts missed.items eid) l.device_since_miss) (tick_may missed w eid l may is) in
    (both_hold (may_beat (counts missed.items w.agent.endpoint.eid) l.agent_since_miss) (may_beat (counts missed.items eid) l.device_since_miss) all.1).1
