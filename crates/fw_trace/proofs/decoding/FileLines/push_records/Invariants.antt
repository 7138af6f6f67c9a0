use Rattle.std.proofs.Common.{◌≡◌, ◌++◌, length}
use Rattle.fw_trace.specs.Decoding.{decoded_lines}
use Rattle.fw_trace.specs.Inputs.{all_record_inputs}
use Rattle.fw_trace.proofs.decoding.FileLines.push_records.Given as goal

-- the lines so far, then those of the remaining records
abbrev pub invariant-loop-left : goal.invariant-loop-left
invariant-loop-left g l = record {
  form : l.self.form ≡ l.fn.self.form;
  told : l.self.text.items ++ decoded_lines (g.P.LineForm.line l.fn.self.form.now) l.self.decoder (all_record_inputs l.order l.left)
      ≡ l.fn.self.text.items ++ decoded_lines (g.P.LineForm.line l.fn.self.form.now) l.fn.self.decoder (all_record_inputs l.order l.records);
}

abbrev pub decreases-loop-left : goal.decreases-loop-left
decreases-loop-left g l = length l.left
