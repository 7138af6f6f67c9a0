use Rattle.std.proofs.Common.{arith, drop, length, take, Some, ◌-◌}
use Rattle.std.proofs.lemmas.List.{length-drop}
use Rattle.memchr.specs.Find.{IsFirstByte, is_byte}
use Rattle.fwupd_base.proofs.Servers.{piece_broken, piece_line, piece_part, piece_stopped}
use Rattle.fwupd_base.proofs.Streams.{found_within, joined, slice_rest, span}
use Rattle.fwupd_base.proofs.serving.serve_piece.Goals as goal

pub loop-count-preserved : goal.loop-count-preserved
loop-count-preserved g c =
    let found : IsFirstByte (is_byte 10) (drop c.loop-count.from c.args.piece.now) (Some c.in-Some.count) = rw (slice_rest c.loop-count.from c.args.piece.now) at c.in-Some.ensures in
    let within = found_within c.loop-count.from c.in-Some.count c.args.piece.now c.loop-count.invariant.within found in
    rw c.in-Ok.ensures.none (record {
      within = within;
      holds = omega (arith, within, c.loop-count.invariant.holds, c.in-Ok.ensures.held_room);
      digits = λ lack. (let before = c.loop-count.invariant.digits lack in let more = c.in-Ok.ensures.digits_room lack in omega (arith, within, before, more));
      room = λ lack. (let before = c.loop-count.invariant.room lack in let more = c.in-Ok.ensures.text_room lack in omega (arith, before, more));
      text_room = λ lack. (let before = c.loop-count.invariant.text_room lack in let more = c.in-Ok.ensures.text_room lack in omega (arith, before, more));
      stands = λ s all before h.
          piece_line _ _ _ _ all c.args.piece.now c.loop-count.from c.in-Some.count before _ _ _ (c.loop-count.invariant.stands s all before h) found
          (rw (span c.loop-count.from c.in-Some.count c.args.piece.now) at c.in-Ok.ensures.ok);
    })

pub returns-in-Err-clause-stopped : goal.returns-in-Err-clause-stopped
returns-in-Err-clause-stopped g c = λ s all before h not. (
  (c.in-Err.ensures.memory not).1,
  piece_stopped _ _ _ all c.args.piece.now c.loop-count.from before _ _ _ (c.loop-count.invariant.stands s all before h) (c.in-Err.ensures.memory not).2,
)

pub returns-in-Err-clause-broken : goal.returns-in-Err-clause-broken
returns-in-Err-clause-broken g c = λ s all before h is.
    piece_broken _ _ _ _ all c.args.piece.now c.loop-count.from c.in-Some.count before _ _ _ (c.loop-count.invariant.stands s all before h)
    (rw (slice_rest c.loop-count.from c.args.piece.now) at c.in-Some.ensures)
    (rw (span c.loop-count.from c.in-Some.count c.args.piece.now) at c.in-Err.ensures.broken is)

pub returns-clause-ok : goal.returns-clause-ok
returns-clause-ok g c = λ s all before h.
    let rest = slice_rest c.loop-count.from c.args.piece.now in
    let room = c.extend_from_slice.ensures.succeeds (rw (rest, length-drop c.loop-count.from c.args.piece.now) (omega (arith, c.loop-count.invariant.holds, c.loop-count.invariant.within))) in
    let items = joined c.extend_from_slice.result c.loop-count.held.items c.extend_from_slice.new.self.items (take (length c.args.piece.now - c.loop-count.from) (drop c.loop-count.from c.args.piece.now)) room
    c.extend_from_slice.ensures.items in
    rw (items, rest)
    (piece_part _ _ _ all c.args.piece.now c.loop-count.from before _ _ (c.loop-count.invariant.stands s all before h) (rw rest at c.in_default.ensures))
