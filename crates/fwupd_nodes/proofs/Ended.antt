-- Sessions that are Done, one after the other.
use Rattle.std.proofs.Common.{◌≡◌, ◌+◌, ◌++◌, ◌∙◌, ℕ, zero, suc, List, [], ◌∷◌, Some, None, Bool, false, true, if◌then◌else◌, refl, sym, ap, arith}
use Rattle.std.specs.Prelude.{Option, decimal, drop, option_map, slice_get}
use Rattle.fw_node.specs.Agents.{AgentOf}
use Rattle.fw_node.specs.Nodes.{DeviceNodeOf}
use Rattle.fw_script.specs.Reports.{session_of}
use Rattle.fw_steps.specs.Worlds.{SiteOf}
use Rattle.ua_core.specs.declared.state.SessionState.{SessionState}
use Rattle.ua_core.specs.declared.state.SessionState.TheVariants as sessions
use Rattle.fwupd_nodes.specs.Sessions.{AreDone, UndoneOf, devices_at, is_done, named_after, none_undone, undone_after, undone_of, undone_word, with_session}

-- the sessions of the devices from a place on, after others
abbrev undone_at : UndoneOf → AgentOf → List SiteOf → UndoneOf
undone_at u a xs = undone_after u a (devices_at xs)

abbrev from_one : UndoneOf → AgentOf → (device : ℕ) → List SiteOf → UndoneOf
from_one u a device xs = undone_at (with_session u device (session_of a device)) a xs

undone_from : (u : UndoneOf) (a : AgentOf) (xs : List SiteOf) (place : ℕ) (n : DeviceNodeOf) → option_map (λ x. x.node) (slice_get xs place) ≡ Some n
    → undone_at u a (drop place xs) ≡ from_one u a n.endpoint.eid (drop (suc place) xs)
undone_from u a [] place n e = absurd cc
undone_from u a (x ∷ xs) zero n e =
    let same : Some x.node ≡ Some n = e in
    let node : x.node ≡ n = cc in
    ap (λ (m : DeviceNodeOf). from_one u a m.endpoint.eid xs) node
undone_from u a (x ∷ xs) (suc place) n e = undone_from u a xs place n e

pub undone_next : (u v : UndoneOf) (a : AgentOf) (xs : List SiteOf) (place device : ℕ) (n : DeviceNodeOf) (all : UndoneOf) → option_map (λ x. x.node) (slice_get xs place) ≡ Some n → device ≡ n.endpoint.eid
    → v ≡ with_session u device (session_of a device) → undone_at u a (drop place xs) ≡ all → undone_at v a (drop (place + 1) xs) ≡ all
undone_next u v a xs place device n all at is told before =
    let next : suc place ≡ place + 1 = omega arith in
    ap (λ k. undone_at v a (drop k xs)) (sym next)
    ∙ ap (λ t. undone_at t a (drop (suc place) xs)) told
    ∙ ap (λ d. from_one u a d (drop (suc place) xs)) is
    ∙ sym (undone_from u a xs place n at) ∙ before

-- a text in which a device is named isn't empty
never_empty : (xs : List ℕ) (c : ℕ) (ys : List ℕ) → xs ++ c ∷ ys ≡ [] → ⊥
never_empty [] c ys e = absurd cc
never_empty (x ∷ xs) c ys e = absurd cc

named_some : (text : List ℕ) (device : ℕ) (state : Option SessionState) → named_after text device state ≡ [] → ⊥
named_some [] device state e = never_empty (decimal device) 58 (32 ∷ undone_word state) e
named_some (c ∷ text) device state e = absurd cc

-- If no session is named, each is Done.
done_so : (s : Option SessionState) → is_done s ≡ true → s ≡ Some sessions.Done
done_so None h = absurd (let bad : false ≡ true = h in cc)
done_so (Some sessions.Idle) h = absurd (let bad : false ≡ true = h in cc)
done_so (Some sessions.Query) h = absurd (let bad : false ≡ true = h in cc)
done_so (Some sessions.Params) h = absurd (let bad : false ≡ true = h in cc)
done_so (Some sessions.ClearOld) h = absurd (let bad : false ≡ true = h in cc)
done_so (Some sessions.Request) h = absurd (let bad : false ≡ true = h in cc)
done_so (Some sessions.Pass) h = absurd (let bad : false ≡ true = h in cc)
done_so (Some sessions.Update) h = absurd (let bad : false ≡ true = h in cc)
done_so (Some sessions.Download) h = absurd (let bad : false ≡ true = h in cc)
done_so (Some sessions.Verify) h = absurd (let bad : false ≡ true = h in cc)
done_so (Some sessions.Apply) h = absurd (let bad : false ≡ true = h in cc)
done_so (Some sessions.AllApplied) h = absurd (let bad : false ≡ true = h in cc)
done_so (Some sessions.Activate) h = absurd (let bad : false ≡ true = h in cc)
done_so (Some sessions.Done) h = refl
done_so (Some sessions.Cancelling) h = absurd (let bad : false ≡ true = h in cc)
done_so (Some (sessions.Failed cause)) h = absurd (let bad : false ≡ true = h in cc)

silent_so : (d : Bool) (u told : UndoneOf) → (told.text ≡ [] → ⊥) → (if d then u else told).text ≡ [] → (d ≡ true) × (u.text ≡ [])
silent_so true u told named h = (refl, h)
silent_so false u told named h = absurd (named h)

done_after : (u : UndoneOf) (a : AgentOf) (devices : List ℕ) → (undone_after u a devices).text ≡ [] → (u.text ≡ []) × AreDone a devices
done_after u a [] h = (h, tt)
done_after u a (device ∷ devices) h =
    let later = done_after (with_session u device (session_of a device)) a devices h in
    let here = silent_so (is_done (session_of a device)) u _ (named_some u.text device (session_of a device)) later.0 in
    (here.1, (done_so (session_of a device) here.0, later.1))

pub all_done : (a : AgentOf) (devices : List ℕ) → (undone_of a devices).text ≡ [] → AreDone a devices
all_done a devices h = (done_after none_undone a devices h).1
