use Rattle.std.proofs.Common.{◌∙◌, ◌++◌, ap, map}
use Rattle.json.specs.Tree.{json_tokens}
use Rattle.fw_script.specs.Seen.{device_of}
use Rattle.fw_json.specs.Statuses.{status_value}
use Rattle.fw_json.proofs.Reading.{on_ok, read_back}
use Rattle.fw_json.proofs.StatusDepths.{status_shallow}
use Rattle.fw_json.proofs.status.status_json.Goals as goal

pub returns-clause-reads_back : goal.returns-clause-reads_back
returns-clause-reads_back c =
    let ds = map device_of c.args.devices.now in
    let told = c.in_ok-push_status.ensures.tokens ∙ ap (λ ts. ts ++ json_tokens (status_value ds)) c.new-writer.ensures.tokens in
    on_ok c.line.result (read_back (status_value ds) c.push_status.new.writer.tokens told c.line.ensures.reads_back (status_shallow ds))
