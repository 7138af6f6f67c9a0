use Rattle.std.proofs.Common.{ap, map, sym, ◌∙◌}
use Rattle.std.proofs.lemmas.Result.{IfOk-weaker}
use Rattle.fw_script.specs.declared.reports.SentCount.{SentCount}
use Rattle.fwupd_nodes.specs.Sessions.{UndoneOf}
use Rattle.fwupd_nodes.proofs.Ended.{all_done}
use Rattle.fwupd_nodes.proofs.agent_serving.end_agent.Goals as goal

pub returns-clause-ended : goal.returns-clause-ended
returns-clause-ended g c =
    IfOk-weaker c.check.result _ _ (λ done none. record {
      reports = record { written = c.in-Ok-write_report.ensures.written; logged = c.in-Ok.ensures.logged };
      checked = λ asked.
          all_done c.args.agent.now.agent (map (λ (x : SentCount). x.device) c.args.agent.now.counts)
          (ap (λ (u : UndoneOf). u.text) (sym c.in-Ok-write_report.ensures.undone) ∙ none);
    }) c.check.ensures.none
