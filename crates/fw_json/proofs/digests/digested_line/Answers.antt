use Rattle.std.proofs.Common.{◌∙◌, ◌++◌, ap}
use Rattle.json.specs.Tree.{json_tokens}
use Rattle.fw_json.specs.Digests.{digested_value}
use Rattle.fw_json.proofs.Digested.{digested_shallow}
use Rattle.fw_json.proofs.Reading.{on_ok, read_back}
use Rattle.fw_json.proofs.digests.digested_line.Goals as goal

pub returns-clause-reads_back : goal.returns-clause-reads_back
returns-clause-reads_back c =
    let p = c.args.contents.now in
    let told = c.in_ok-push_package.ensures.tokens ∙ ap (λ ts. ts ++ json_tokens (digested_value p)) c.new-writer.ensures.tokens in
    on_ok c.line.result (read_back (digested_value p) c.push_package.new.writer.tokens told c.line.ensures.reads_back (digested_shallow p))
