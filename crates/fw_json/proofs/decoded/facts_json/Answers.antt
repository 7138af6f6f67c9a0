use Rattle.std.proofs.Common.{◌∙◌, ◌++◌, ap}
use Rattle.json.specs.Tree.{json_tokens}
use Rattle.fw_json.specs.Decoded.{facts_value}
use Rattle.fw_json.proofs.DecodedDepths.{facts_shallow}
use Rattle.fw_json.proofs.Reading.{on_ok, read_back}
use Rattle.fw_json.proofs.decoded.facts_json.Goals as goal

pub returns-clause-reads_back : goal.returns-clause-reads_back
returns-clause-reads_back c =
    let f = c.args.facts.now in
    let said = c.args.said.now in
    let told = c.in_ok-push_facts.ensures.tokens ∙ ap (λ ts. ts ++ json_tokens (facts_value f said)) c.new-writer.ensures.tokens in
    on_ok c.line.result (read_back (facts_value f said) c.push_facts.new.writer.tokens told c.line.ensures.reads_back (facts_shallow f said))
