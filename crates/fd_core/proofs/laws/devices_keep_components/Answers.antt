use Rattle.fd_core.proofs.Components.{judge_components, learn_components, restart_components, take_components, timeout_components}
use Rattle.fd_core.proofs.laws.devices_keep_components.Goals as goal

pub returns : goal.returns
returns c = record {
  commands = take_components;
  answers = learn_components;
  verdicts = judge_components;
  timeouts = timeout_components;
  restarts = restart_components;
}
