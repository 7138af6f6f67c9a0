use Rattle.std.proofs.Common.{map, arith}
use Rattle.mctp_reasm.specs.Pieces.{message_route, pieces, spelling_of}
use Rattle.mctp_reasm.proofs.Cuts.{cut_done, cut_last, cut_more, seen_push}
use Rattle.mctp_reasm.proofs.cutting.split.Goals as goal

pub returns-then-rest-size : goal.returns-then-rest-size
returns-then-rest-size c =
    cut_last c.args.unit (map (λ p. p.items) c.loop-number.out.items) _ c.piece_of.result.items (map spelling_of (pieces c.args.unit c.args.message.now)) c.loop-number.number (message_route c.args.message.now) c.loop-number.rest.now
    c.loop-number-test.true (rw c.bytes-size.ensures.value at c.if-rest-size.true) c.loop-number.invariant.cut (seen_push _ _ _ c.push.ensures.items) c.piece_of.ensures

pub loop-number-preserved : goal.loop-number-preserved
loop-number-preserved c =
    let back = c.split_at.ensures.back_len in
    let long = rw c.bytes-size.ensures.value at c.if-rest-size.false in
    let size = c.bytes-size.ensures.value in
    record {
      count = omega (arith, c.push-in-loop-number.ensures.len, c.loop-number.invariant.count);
      some = omega arith;
      cut = rw (c.split_at.ensures.back, c.bytes-size.ensures.value) (cut_more c.args.unit (map (λ p. p.items) c.loop-number.out.items) _ c.piece_of-in-loop-number.result.items (map spelling_of (pieces c.args.unit c.args.message.now)) c.loop-number.number (message_route c.args.message.now) c.loop-number.rest.now
          c.loop-number-test.true long c.loop-number.invariant.cut (seen_push _ _ _ c.push-in-loop-number.ensures.items) (rw (c.split_at.ensures.front, c.bytes-size.ensures.value) at c.piece_of-in-loop-number.ensures));
    }

pub returns : goal.returns
returns c =
    cut_done c.args.unit (map (λ p. p.items) c.loop-number.out.items) (map spelling_of (pieces c.args.unit c.args.message.now)) c.loop-number.number (message_route c.args.message.now) c.loop-number.rest.now
    (omega (arith, c.loop-number-test.false)) c.loop-number.invariant.cut
