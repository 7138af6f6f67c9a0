use Rattle.std.proofs.Common.{◌∙◌, ◌++◌, ap, map, option_map}
use Rattle.json.specs.Tree.{json_tokens}
use Rattle.fw_message.specs.Entries.{entry_of}
use Rattle.fw_json.specs.Alone.{agent_alone_value}
use Rattle.fw_json.proofs.Reading.{on_ok, read_back}
use Rattle.fw_json.proofs.NodesAlone.{agent_alone_shallow}
use Rattle.fw_json.proofs.alone.agent_json.Goals as goal

pub returns-clause-reads_back : goal.returns-clause-reads_back
returns-clause-reads_back c =
    let answer = option_map (λ a. a.now) c.args.answer in
    let value = agent_alone_value c.args.now c.args.agent.now c.args.counts.now answer (map entry_of c.args.history.now) in
    let told = c.in_ok-push_agent_alone.ensures.tokens ∙ ap (λ ts. ts ++ json_tokens value) c.new-writer.ensures.tokens in
    on_ok c.line.result
    (read_back value c.push_agent_alone.new.writer.tokens told c.line.ensures.reads_back
    (agent_alone_shallow c.args.now c.args.agent.now c.args.counts.now answer (map entry_of c.args.history.now)))
