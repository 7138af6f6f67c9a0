use Rattle.std.proofs.Common.{rules, ◌≡◌, ◌∙◌, ◌≤◌, ◌++◌, length}
use Rattle.fw_trace.specs.Decoding.{decoded_lines}
use Rattle.fw_trace.specs.Inputs.{all_record_inputs}
use Rattle.fw_trace.proofs.RecordInputs.{cut_told_ok, none_told, record_told}
use Rattle.fw_trace.proofs.decoding.FileLines.push_records.Goals as goal

pub returns-in_default : goal.returns-in_default
returns-in_default g c = record {
  lines =
      let some : 1 ≤ length c.loop-left.left.now = search rules in
      cut_told_ok c.push.result (g.P.LineForm.line c.args.self.now.form.now) c.args.order c.loop-left.left.now
      (decoded_lines (g.P.LineForm.line c.args.self.now.form.now) c.args.self.now.decoder (all_record_inputs c.args.order c.args.records.now))
      c.args.self.now.text.items c.loop-left.self.text.items c.push.new.self.text.items c.loop-left.self.decoder some c.in_default.ensures c.loop-left.invariant.told
      (rw c.loop-left.invariant.form at c.push.ensures.line);
}

pub loop-left-preserved : goal.loop-left-preserved
loop-left-preserved g c = record {
  form = c.in_ok-push_record.ensures.form ∙ c.loop-left.invariant.form;
  told =
      let some : 1 ≤ length c.loop-left.left.now = search rules in
      rw c.in_ok-push_record.ensures.decoder
      (record_told (g.P.LineForm.line c.args.self.now.form.now) c.args.order c.loop-left.left.now
      (c.args.self.now.text.items ++ decoded_lines (g.P.LineForm.line c.args.self.now.form.now) c.args.self.now.decoder (all_record_inputs c.args.order c.args.records.now))
      c.loop-left.self.text.items c.push_record.new.self.text.items c.loop-left.self.decoder c.in-Some.size some c.in-Some.ensures c.loop-left.invariant.told
      (rw c.loop-left.invariant.form at c.in_ok-push_record.ensures.line));
}

pub returns : goal.returns
returns g c = record {
  lines =
      let none : length c.loop-left.left.now ≡ 0 = search rules in
      none_told (g.P.LineForm.line c.args.self.now.form.now) c.args.order c.loop-left.left.now
      (decoded_lines (g.P.LineForm.line c.args.self.now.form.now) c.args.self.now.decoder (all_record_inputs c.args.order c.args.records.now))
      c.args.self.now.text.items c.loop-left.self.text.items c.loop-left.self.decoder none c.loop-left.invariant.told;
}
