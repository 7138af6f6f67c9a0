use Rattle.std.proofs.Common.{◌∙◌, ap, ap₂, refl}
use Rattle.std.proofs.lemmas.Result.{IfOk-weaker}
use Rattle.fwupd_words.specs.CommandLine.{agent, answer, build, decode, device, inspect, is_plain, plan, replay, run, sel, soak, with_one}
use Rattle.fwupd_words.proofs.Lines.{then_one}
use Rattle.fwupd_words.proofs.commands.command_with.Goals as goal

pub returns : goal.returns
returns c =
    let to_answer = then_one c.program.result c.in_ok-answer_command.field-0 c.in_ok-command.command _ answer c.in_ok-command.ensures c.program.ensures c.in_ok-answer_command.ensures refl in
    let to_inspect = then_one c.in_ok-command.command c.in_ok-inspect_command.field-0 c.in_ok-command-2.command _ inspect c.in_ok-command-2.ensures to_answer c.in_ok-inspect_command.ensures refl in
    let to_replay = then_one c.in_ok-command-2.command c.in_ok-replay_command.field-0 c.in_ok-command-3.command _ (replay c.args.names) c.in_ok-command-3.ensures to_inspect c.in_ok-replay_command.ensures refl in
    let to_plan = then_one c.in_ok-command-3.command c.in_ok-plan_command.field-0 c.in_ok-command-4.command _ plan c.in_ok-command-4.ensures to_replay c.in_ok-plan_command.ensures refl in
    let to_run = then_one c.in_ok-command-4.command c.in_ok-run_command.field-0 c.in_ok-command-5.command _ (run c.args.names) c.in_ok-command-5.ensures to_plan c.in_ok-run_command.ensures refl in
    let to_soak = then_one c.in_ok-command-5.command c.in_ok-soak_command.field-0 c.in_ok-command-6.command _ soak c.in_ok-command-6.ensures to_run c.in_ok-soak_command.ensures refl in
    let to_sel = then_one c.in_ok-command-6.command c.in_ok-sel_command.field-0 c.in_ok-command-7.command _ sel c.in_ok-command-7.ensures to_soak c.in_ok-sel_command.ensures refl in
    let to_build = then_one c.in_ok-command-7.command c.in_ok-build_command.field-0 c.in_ok-command-8.command _ build c.in_ok-command-8.ensures to_sel c.in_ok-build_command.ensures refl in
    let to_device = then_one c.in_ok-command-8.command c.in_ok-device_command.field-0 c.in_ok-command-9.command _ (device c.args.names) c.in_ok-command-9.ensures to_build c.in_ok-device_command.ensures refl in
    let to_agent = then_one c.in_ok-command-9.command c.in_ok-agent_command.field-0 c.in_ok-command-10.command _ (agent c.args.names) c.in_ok-command-10.ensures to_device c.in_ok-agent_command.ensures refl in
    let to_decode = then_one c.in_ok-command-10.command c.in_ok-decode_command.field-0 c.in_ok-command-11.command _ (decode c.args.names) c.in_ok-command-11.ensures to_agent c.in_ok-decode_command.ensures refl in
    let plain = ap is_plain c.in_ok-status_command.ensures in
    IfOk-weaker c.with_one-12.result _ _ (λ whole is. is ∙ ap₂ with_one to_decode c.in_ok-status_command.ensures) (c.with_one-12.ensures plain)
