use Rattle.std.proofs.Common.{◌≡◌, ◌≤◌, ◌+◌, ◌-◌, false, length, vec_capacity}
use Rattle.fwupd_base.specs.Serving.{ServesPart}
use Rattle.fwupd_base.proofs.serving.serve_stream.Given as goal

-- each whole line so far is served, and the bytes after them are held
abbrev pub invariant-loop-count : goal.invariant-loop-count
invariant-loop-count g l = record {
  small : l.count ≤ l.limit + 1;
  buffer : length l.buffer ≡ 65536;
  room : g.S.LineServer.may_lack ≡ false → 512 ≤ vec_capacity l.buffers.text;
  reads : ServesPart g.S.LineServer.serves l.fn.limit l.fn.server l.server l.count (g.R.Read.remaining l.fn.reader) (g.R.Read.remaining l.reader) (g.W.Write.contents l.fn.writer) (g.W.Write.contents l.writer) l.held.items;
}

abbrev pub decreases-loop-count : goal.decreases-loop-count
decreases-loop-count g l = l.limit + 1 - l.count
