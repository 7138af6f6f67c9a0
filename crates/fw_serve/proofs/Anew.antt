-- An agent that is started anew from what was kept is the agent that was absent.
use Rattle.std.proofs.Common.{◌≡◌, ◌∙◌, ◌+◌, Option, Some, ap, arith, map, refl, sym}
use Rattle.agent_store.specs.Kept.{GiveBack, WhatIsKeptIsResumed, kept_lines, records_in, settings_in}
use Rattle.fw_node.specs.Agents.{AgentOf, agent_restarts}
use Rattle.fw_node.specs.Resumed.{RestartsKeepNoMore, agent_resumed_from, resumed_agent, session_of_half}
use Rattle.mctp_wire.specs.declared.unit.Unit.{«Unit»}
use Rattle.sel_core.specs.Resumed.{resumed_log, settings_of}
use Rattle.sel_core.specs.declared.log.resuming.LogSettings.{LogSettings}
use Rattle.fw_serve.specs.Anew.{StartedAnewIsAbsence, node_anew}
use Rattle.fw_serve.proofs.TracedAgent.{absence_after, absence_may, same_process}

settings_one : (o : Option LogSettings) (a b : LogSettings) → o ≡ Some a → o ≡ Some b → a ≡ b
settings_one o a b e f = let same : Some a ≡ Some b = sym e ∙ f in cc

-- the node that is resumed from what is kept
resumed_back : (u : «Unit») (n : AgentOf) (settings : LogSettings) → GiveBack n (kept_lines n) → settings_in (kept_lines n) ≡ Some settings
    → node_anew u n.endpoint (map (λ h. h.peer) n.halves) settings (kept_lines n) ≡ agent_resumed_from u n
resumed_back u n settings back is =
    ap (λ ks. resumed_agent u n.endpoint ks (resumed_log settings (records_in (kept_lines n)))) back.sessions
    ∙ ap (λ rs. resumed_agent u n.endpoint (map session_of_half n.halves) (resumed_log settings rs)) back.records
    ∙ ap (λ s. resumed_agent u n.endpoint (map session_of_half n.halves) (resumed_log s n.log.records)) (settings_one _ settings (settings_of n.log) is back.settings)

pub started_anew : WhatIsKeptIsResumed → RestartsKeepNoMore → StartedAnewIsAbsence
started_anew given_back restart_keeps packages u p units settings once are is =
    let anew = node_anew u p.node.endpoint (map (λ h. h.peer) p.node.halves) settings (kept_lines p.node) in
    let node : agent_restarts packages anew ≡ agent_restarts packages p.node =
    ap (agent_restarts packages) (resumed_back u p.node settings (given_back p.node once) is) ∙ restart_keeps packages u p.node are in
    record {
      ends = absence_after packages units p
          ∙ same_process (p.unit + units) (0 + (p.unit + units)) (agent_restarts packages p.node) (agent_restarts packages anew) p.sent p.sent (omega arith) (sym node) refl;
      may = absence_may packages units p;
    }
