-- The sessions that aren't Done, and the fault that names them.
use Rattle.std.specs.Prelude.{◌≡◌, ◌≢◌, ◌++◌, ◌||◌, Bool, false, true, if◌then◌else◌, not, List, [], ◌∷◌, Option, None, Some, codes, decimal, map, string_bytes, ℕ}
use Rattle.std.specs.List.{AllByRecursion}
use Rattle.fw_node.specs.Agents.{AgentOf}
use Rattle.fw_script.specs.Reports.{cause_name, session_name, session_of}
use Rattle.fw_steps.specs.Worlds.{SiteOf, WorldOf}
use Rattle.ua_core.specs.declared.state.Cause.TheVariants as causes
use Rattle.ua_core.specs.declared.state.SessionState.{SessionState}
use Rattle.ua_core.specs.declared.state.SessionState.TheVariants as sessions
use Rattle.fwupd_watch.specs.declared.faults.JobFault.{JobFault}
use Rattle.fwupd_watch.specs.declared.faults.JobFault.TheVariants as faults

-- the session with each of these devices is Done
abbrev pub AreDone : AgentOf → (devices : List ℕ) → Type 0
AreDone a devices = AllByRecursion (λ device. session_of a device ≡ Some sessions.Done) devices

-- the devices of a world, in configured order; and each session of it is Done
abbrev pub devices_at : List SiteOf → List ℕ
devices_at sites = map (λ x. x.node.endpoint.eid) sites

abbrev pub AllDone : WorldOf → Type 0
AllDone w = AreDone w.agent (devices_at w.sites)

abbrev pub is_done : Option SessionState → Bool
is_done (Some sessions.Done) = true
is_done state = false

-- The session ended since nothing was to be updated on its device: the package has no record for
-- it, or no component that it accepts.
abbrev pub is_skipped : Option SessionState → Bool
is_skipped (Some (sessions.Failed causes.NoRecord)) = true
is_skipped (Some (sessions.Failed causes.NothingToUpdate)) = true
is_skipped state = false

-- The sessions of some devices that aren't Done: the device of each and what became of it, with
-- commas between them; and whether something was to be updated on one of them.
pub record UndoneOf : Type 0 where
  pub text : List ℕ
  pub has_failed : Bool

abbrev pub none_undone : UndoneOf
none_undone = record { text = []; has_failed = false }

-- the name of the cause of a failed session, or of the state of another one; each device has a
-- session
abbrev pub undone_word : Option SessionState → List ℕ
undone_word None = codes "-"
undone_word (Some (sessions.Failed cause)) = cause_name cause
undone_word (Some state) = session_name state

-- what is between a device and those before it
abbrev pub separator_after : List ℕ → List ℕ
separator_after [] = []
separator_after (c ∷ text) = codes ", "

abbrev pub named_after : (text : List ℕ) → (device : ℕ) → Option SessionState → List ℕ
named_after text device state = text ++ (separator_after text ++ (decimal device ++ (codes ": " ++ undone_word state)))

-- a session after others, if it isn't Done
abbrev pub with_session : UndoneOf → (device : ℕ) → Option SessionState → UndoneOf
with_session u device state =
    if is_done state then u else record { text = named_after u.text device state; has_failed = u.has_failed || not (is_skipped state) }

-- the sessions of these devices, after others
abbrev pub undone_after : UndoneOf → AgentOf → (devices : List ℕ) → UndoneOf
undone_after u a [] = u
undone_after u a (device ∷ devices) = undone_after (with_session u device (session_of a device)) a devices

abbrev pub undone_of : AgentOf → (devices : List ℕ) → UndoneOf
undone_of a devices = undone_after none_undone a devices

-- those of a world
abbrev pub undone_in : WorldOf → UndoneOf
undone_in w = undone_of w.agent (devices_at w.sites)

-- The fault names each session that isn't Done, of which there is one. It says whether something
-- was to be updated on one of their devices.
abbrev pub TellsUndone : UndoneOf → JobFault → Type 0
TellsUndone u (faults.Undone text) = (string_bytes text ≡ u.text) × (u.text ≢ []) × (u.has_failed ≡ true)
TellsUndone u (faults.Skipped text) = (string_bytes text ≡ u.text) × (u.text ≢ []) × (u.has_failed ≡ false)
TellsUndone u fault = ⊥
