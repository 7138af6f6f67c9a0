use Rattle.std.proofs.Common.{◌≡◌, ◌≤◌, ◌-◌, ◌+◌, ◌*◌, ◌++◌, List, ℕ, Option, length, take, vec_capacity, false}
use Rattle.fwupd_base.specs.Serving.{HasServedLines}
use Rattle.fwupd_base.proofs.serving.serve_piece.Given as goal

-- each whole line so far is served, the bytes after them are held, and there is room for the rest
abbrev pub invariant-loop-count : goal.invariant-loop-count
invariant-loop-count g l = record {
  within : l.from ≤ length l.piece;
  holds : length l.held.items + length l.piece ≤ vec_capacity l.held + l.from;
  digits : g.S.LineServer.may_lack ≡ false → length l.held.items + length l.piece ≤ 2 * vec_capacity l.buffers.bytes + l.from;
  room : g.S.LineServer.may_lack ≡ false → 512 ≤ vec_capacity l.buffers.text;
  text_room : g.S.LineServer.may_lack ≡ false → vec_capacity l.fn.buffers.text ≤ vec_capacity l.buffers.text;
  stands : (s : g.row.S.Denot) (all : List ℕ) (before : Option (List ℕ)) → HasServedLines g.S.LineServer.serves s l.fn.server all before (g.W.Write.contents l.fn.writer) l.fn.held.items
      → HasServedLines g.S.LineServer.serves s l.server (all ++ take l.from l.piece) before (g.W.Write.contents l.writer) l.held.items;
}

abbrev pub decreases-loop-count : goal.decreases-loop-count
decreases-loop-count g l = length l.piece - l.from
