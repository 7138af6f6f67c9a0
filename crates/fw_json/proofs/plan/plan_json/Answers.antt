use Rattle.std.proofs.Common.{◌∙◌, ◌++◌, ap, map}
use Rattle.json.specs.Tree.{json_tokens}
use Rattle.fw_script.specs.Seen.{device_of}
use Rattle.fw_json.specs.Plans.{plan_value}
use Rattle.fw_json.proofs.Planned.{plan_shallow}
use Rattle.fw_json.proofs.Reading.{on_ok, read_back}
use Rattle.fw_json.proofs.plan.plan_json.Goals as goal

pub returns-clause-reads_back : goal.returns-clause-reads_back
returns-clause-reads_back c =
    let p = c.args.contents.now in
    let ds = map device_of c.args.devices.now in
    let told = c.in_ok-push_plan.ensures.tokens ∙ ap (λ ts. ts ++ json_tokens (plan_value c.args.number p ds)) c.new-writer.ensures.tokens in
    on_ok c.line.result (read_back (plan_value c.args.number p ds) c.push_plan.new.writer.tokens told c.line.ensures.reads_back (plan_shallow c.args.number p ds))
