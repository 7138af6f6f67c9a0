-- The entries of a link's step, and their place in the history of a world.
use Rattle.std.proofs.Common.{◌≡◌, ◌∙◌, ◌++◌, ℕ, Bool, true, false, if◌then◌else◌, List, [], ◌∷◌, map, Option, Some, None, append-nil, refl, sym, ap}
use Rattle.ua_core.specs.Session.{SessionOf}
use Rattle.fw_message.specs.Headline.{EntryOf}
use Rattle.fw_message.specs.Worlds.{NotedOf, noted_of}
use Rattle.fw_message.specs.Pairs.{may_start}
use Rattle.fw_package.specs.Package.{PackageText}
use Rattle.ua_core.specs.Calls.{agent_activated}
use Rattle.fw_steps.specs.Links.{LinkOf, LinkStep, LinkStepped, activates_on, link_after, link_step_without_entries}
use Rattle.fw_message.specs.declared.side.Side.TheVariants as sides
use Rattle.fw_steps.proofs.LinksAreMessages.Each.{AllAfter, notes_of}

-- the entries of a step that may or may not be taken
abbrev pub noted_in : Option LinkStepped → List EntryOf
noted_in None = []
noted_in (Some t) = t.noted

pub taken_notes : (o : Option LinkStepped) (t : LinkStepped) → o ≡ Some t → noted_in o ≡ t.noted
taken_notes o t e = ap noted_in e

-- the entries of a device, one by one
pub noted_each : {A : Type 0} (device : ℕ) (entry : A → EntryOf) (xs : List A) → map (λ x. noted_of device (entry x)) xs ≡ map (noted_of device) (map entry xs)
noted_each device entry [] = refl
noted_each device entry (x ∷ xs) = ap (λ ns. noted_of device (entry x) ∷ ns) (noted_each device entry xs)

-- nothing was noted
pub nothing_more : (history : List NotedOf) (device : ℕ) (es : List EntryOf) → es ≡ [] → history ≡ history ++ map (noted_of device) es
nothing_more history device es e = rw e (sym (append-nil history))

-- The steps without entries.
unnoted_if : (may : Bool) (l : LinkOf) → noted_in (if may then Some (link_step_without_entries l) else None) ≡ []
unnoted_if true l = refl
unnoted_if false l = refl

unnoted_ready : (packages : List PackageText) (l : LinkOf) (o : Option SessionOf) → noted_in (activates_on packages l o) ≡ []
unnoted_ready packages l None = refl
unnoted_ready packages l (Some s) = refl

abbrev pub IsUnnoted : LinkStep → Type 0
IsUnnoted (LinkStep.Deliver number to works) = ⊥
IsUnnoted (LinkStep.Judge verdict works) = ⊥
IsUnnoted s = Unit {0}

pub unnoted_step : (now : ℕ) (packages : List PackageText) (l : LinkOf) (s : LinkStep) → IsUnnoted s → noted_in (link_after now packages l s) ≡ []
unnoted_step now packages l (LinkStep.Deliver number to works) k = absurd k
unnoted_step now packages l (LinkStep.Tick agent device) k = unnoted_if _ _
unnoted_step now packages l (LinkStep.Start number) k = unnoted_if (may_start packages l.agent.core.session number) _
unnoted_step now packages l LinkStep.Cancel k = refl
unnoted_step now packages l LinkStep.Activate k = unnoted_ready packages l (agent_activated l.agent.core.session)
unnoted_step now packages l (LinkStep.Judge verdict works) k = absurd k
unnoted_step now packages l (LinkStep.Restart sides.Agent) k = refl
unnoted_step now packages l (LinkStep.Restart sides.Device) k = refl

-- If all links take such a step, nothing is noted.
pub all_unnoted : (now : ℕ) (packages : List PackageText) (s : LinkOf → LinkStep) (eids : List ℕ) (ls : List LinkOf) (ts : List LinkStepped) → ((l : LinkOf) → IsUnnoted (s l)) → AllAfter packages now s ls ts
    → notes_of eids ts ≡ []
all_unnoted now packages s [] ls ts k after = refl
all_unnoted now packages s (eid ∷ eids) ls [] k after = refl
all_unnoted now packages s (eid ∷ eids) [] (t ∷ ts) k after = absurd after
all_unnoted now packages s (eid ∷ eids) (l ∷ ls) (t ∷ ts) k after =
    let none : t.noted ≡ [] = sym (taken_notes (link_after now packages l (s l)) t after.0) ∙ unnoted_step now packages l (s l) (k l) in
    rw none (all_unnoted now packages s eids ls ts k after.1)
