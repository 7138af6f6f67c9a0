use Rattle.std.proofs.Common.{◌≡◌, ◌++◌, length, map}
use Rattle.fw_trace.specs.Decoding.{decoded_lines}
use Rattle.fw_trace.specs.Inputs.{line_input, lines_of_text}
use Rattle.fw_trace.proofs.decoding.FileLines.push_text.Given as goal

-- the lines so far, then those of the remaining text
abbrev pub invariant-loop-left : goal.invariant-loop-left
invariant-loop-left g l = record {
  form : l.self.form ≡ l.fn.self.form;
  told : l.self.text.items ++ decoded_lines (g.P.LineForm.line l.fn.self.form.now) l.self.decoder (map line_input (lines_of_text l.left))
      ≡ l.fn.self.text.items ++ decoded_lines (g.P.LineForm.line l.fn.self.form.now) l.fn.self.decoder (map line_input (lines_of_text l.lines));
}

abbrev pub decreases-loop-left : goal.decreases-loop-left
decreases-loop-left g l = length l.left
