use Rattle.std.proofs.Common.{◌≡◌, ◌+◌, ◌++◌, drop}
use Rattle.fwupd_watch.specs.Traces.{reader_past, trace_text}
use Rattle.fwupd_watch.proofs.tracing.lines.Given as goal

-- the text so far, then the rest to append, and to read
abbrev pub invariant-loop-place : goal.invariant-loop-place
invariant-loop-place l = record {
  text : l.text.items ++ trace_text l.form l.reader l.device (l.written + l.place + 1) (drop l.place l.packets) ≡ trace_text l.form l.fn.reader l.device (l.written + 1) l.packets;
  reader : reader_past l.form l.reader (drop l.place l.packets) ≡ reader_past l.form l.fn.reader l.packets;
}
