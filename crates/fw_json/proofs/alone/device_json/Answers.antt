use Rattle.std.proofs.Common.{◌∙◌, ◌++◌, ap, map}
use Rattle.json.specs.Tree.{json_tokens}
use Rattle.fw_message.specs.Entries.{entry_of}
use Rattle.fw_json.specs.Alone.{device_alone_value}
use Rattle.fw_json.proofs.Reading.{on_ok, read_back}
use Rattle.fw_json.proofs.NodesAlone.{device_alone_shallow}
use Rattle.fw_json.proofs.alone.device_json.Goals as goal

pub returns-clause-reads_back : goal.returns-clause-reads_back
returns-clause-reads_back g c =
    let value = device_alone_value c.args.node.now (map entry_of c.args.history.now) in
    let told = c.in_ok-push_device_alone.ensures.tokens ∙ ap (λ ts. ts ++ json_tokens value) c.new-writer.ensures.tokens in
    on_ok c.line.result (read_back value c.push_device_alone.new.writer.tokens told c.line.ensures.reads_back (device_alone_shallow c.args.node.now (map entry_of c.args.history.now)))
