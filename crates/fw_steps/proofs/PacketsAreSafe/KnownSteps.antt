-- Facts about the links' steps in a step of the world.
use Rattle.std.proofs.Common.{◌≡◌, ◌≤◌, ◌+◌, ℕ, Bool, if◌then◌else◌, is_some, nat_lt, List, Option, Some, None, IsSomeAnd, inl, inr, refl, ap}
use Rattle.std.proofs.lemmas.Bool.{cases_lt, lt-ltb}
use Rattle.exch_lane.specs.Lanes.{Sent, item_numbered}
use Rattle.fw_package.specs.Package.{PackageText}
use Rattle.fw_message.specs.declared.side.Side.{Side}
use Rattle.fw_steps.specs.LinksAreLanes.{MayHappen}
use Rattle.fw_steps.specs.Links.{LinkOf, LinkStep, LinkStepped, delivers_on, link_step_of_packet, link_after}
use Rattle.fw_steps.proofs.LinksAreLanes.Projected.{LinkStepsTo}

-- a packet that was delivered was alive
alive : (now : ℕ) (p : Sent) (o : Option LinkStepped) (t : LinkStepped) → (if nat_lt (p.date + 8) now then None else o) ≡ Some t → now ≤ p.date + 8
alive now p o t e = elim (cases_lt (p.date + 8) now) [
  | inl dead ↦ let no : None ≡ Some t = rw (lt-ltb (p.date + 8) now dead) at e in absurd (cc)
  | inr lives ↦ lives
]

came : (now : ℕ) (packages : List PackageText) (l : LinkOf) (to : Side) (works : Bool) (o : Option Sent) (t : LinkStepped) → delivers_on now packages l to works o ≡ Some t → IsSomeAnd o (λ p. now ≤ p.date + 8)
came now packages l to works None t e = absurd (cc)
came now packages l to works (Some p) t e = alive now p (link_step_of_packet now packages l to works p.bytes) t e

-- A step that a link takes may happen.
pub may_happen : (now : ℕ) (packages : List PackageText) (l : LinkOf) (s : LinkStep) (t : LinkStepped) → link_after now packages l s ≡ Some t → MayHappen now packages l s
may_happen now packages l (LinkStep.Deliver number to works) t e = came now packages l to works (item_numbered l.packets number) t e
may_happen now packages l (LinkStep.Tick agent device) t e = ap is_some e
may_happen now packages l (LinkStep.Start number) t e = ap is_some e
may_happen now packages l LinkStep.Cancel t e = ap is_some e
may_happen now packages l LinkStep.Activate t e = ap is_some e
may_happen now packages l (LinkStep.Judge verdict works) t e = ap is_some e
may_happen now packages l (LinkStep.Restart side) t e = ap is_some e

-- a link after its step
pub record GoneTo (now : ℕ) (packages : List PackageText) (l : LinkOf) (s : LinkStep) (after : Option LinkOf) : Type 0 where
  pub stepped : LinkStepped
  pub goes : link_after now packages l s ≡ Some stepped
  pub is : after ≡ Some stepped.after

gone_by : (now : ℕ) (packages : List PackageText) (l : LinkOf) (s : LinkStep) (after : Option LinkOf) (o : Option LinkStepped) → link_after now packages l s ≡ o → IsSomeAnd o (λ t. after ≡ Some t.after) → GoneTo now packages l s after
gone_by now packages l s after None e k = absurd k
gone_by now packages l s after (Some t) e k = record { stepped = t; goes = e; is = k }

pub gone_to : (now : ℕ) (packages : List PackageText) (l : LinkOf) (s : LinkStep) (after : Option LinkOf) → LinkStepsTo now packages l (Some s) after → GoneTo now packages l s after
gone_to now packages l s after k = gone_by now packages l s after (link_after now packages l s) refl k
