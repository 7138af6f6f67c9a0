-- The views of the agent and its halves, from the code's types.
use Rattle.std.specs.Prelude.{ℕ, List, map, slice_get, slice_set, Option, Some, None, Bool, if◌then◌else◌}
use Rattle.fw_package.specs.Package.{PackageText}
use Rattle.sel_core.specs.Log.{LogOf}
use Rattle.ua_core.specs.Calls.{agent_activated, agent_cancelled, agent_restart, agent_started, is_free, may_cancel}
use Rattle.ua_core.specs.Session.{SessionOf, TimedOf}
use Rattle.fw_node.specs.Agents.{AgentOf}
use Rattle.fw_node.specs.BothEnds.{ends_new}
use Rattle.fw_node.specs.Cores.{session_core}
use Rattle.fw_node.specs.Halves.{HalfOf, unwished_abandoned}
use Rattle.fw_node.specs.Nodes.{half_of}
use Rattle.fw_node.specs.Notes.{log_with_event}
use Rattle.fw_node.specs.declared.half.Half.{Half}
use Rattle.fw_node.specs.declared.identity.Identity.{Identity}

-- a half of a node that is deaf for `deaf` ticks
abbrev pub half_in : {C : Type 0} → (deaf : ℕ) → Half C → HalfOf C
half_in deaf h = half_of deaf h.core h.ends

abbrev pub agent_of : (deaf : ℕ) → Identity → LogOf → List (Half TimedOf) → AgentOf
agent_of deaf id log halves =
    record { endpoint = id.endpoint; tid = id.tid; deaf = deaf; halves = map (half_in deaf) halves; log = log }

-- a half after a request that is no longer the pending command is given up
abbrev pub half_settled : List PackageText → Half TimedOf → Half TimedOf
half_settled packages p =
    record p {
      ends = record p.ends {
        asking = record p.ends.asking {
          caller = unwished_abandoned ((session_core packages).wish p.core) p.ends.asking.caller;
        };
      };
    }

-- a half with this session after a call
abbrev pub half_recast : List PackageText → Half TimedOf → TimedOf → Half TimedOf
half_recast packages p s = half_settled packages (record p { core = s })

-- a half after a restart
abbrev pub half_restarted : Half TimedOf → Half TimedOf
half_restarted p =
    record {
      ends = ends_new p.ends.asking.unit p.ends.asking.own p.ends.asking.peer;
      core = record { session = agent_restart p.core.session; idle = 0 };
    }

-- a half after each of the operator's calls
abbrev pub half_started : List PackageText → (number : ℕ) → Half TimedOf → Half TimedOf
half_started packages number p =
    half_recast packages p (record { session = agent_started p.core.session number; idle = 0 })

abbrev pub half_cancelled : List PackageText → Half TimedOf → Half TimedOf
half_cancelled packages p =
    half_recast
    packages
    p
    (record { session = agent_cancelled p.core.session; idle = if may_cancel p.core.session.stage then 0 else p.core.idle })

abbrev pub half_activated : List PackageText → SessionOf → Half TimedOf → Half TimedOf
half_activated packages s p = half_recast packages p (record { session = s; idle = 0 })

-- the halves after a call of the half at a place
abbrev pub half_put : List (Half TimedOf) → (place : ℕ) → (Half TimedOf → Half TimedOf) → Option (Half TimedOf) → List (Half TimedOf)
half_put ps place call None = ps
half_put ps place call (Some p) = slice_set ps place (call p)

abbrev pub halves_called : List (Half TimedOf) → (place : ℕ) → (Half TimedOf → Half TimedOf) → List (Half TimedOf)
halves_called ps place call = half_put ps place call (slice_get ps place)

-- the log after that call: the event of that session is noted
abbrev pub half_noted : LogOf → (now : ℕ) → (Half TimedOf → Half TimedOf) → Option (Half TimedOf) → LogOf
half_noted log now call None = log
half_noted log now call (Some p) = log_with_event log now p.ends.asking.peer p.core (call p).core

abbrev pub halves_noted : LogOf → (now : ℕ) → List (Half TimedOf) → (place : ℕ) → (Half TimedOf → Half TimedOf) → LogOf
halves_noted log now ps place call = half_noted log now call (slice_get ps place)

-- whether the session there is free, and the session after an activation, if it is ready for one
abbrev pub half_free : Option (Half TimedOf) → Option Bool
half_free None = None
half_free (Some p) = Some (is_free p.core.session)

abbrev pub half_ready : Option (Half TimedOf) → Option SessionOf
half_ready None = None
half_ready (Some p) = agent_activated p.core.session
