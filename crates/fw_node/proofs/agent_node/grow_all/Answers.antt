use Rattle.std.proofs.Common.{◌∙◌, ap, arith, get_or, length, map}
use Rattle.std.proofs.lemmas.List.{length-map, length-set}
use Rattle.fw_node.specs.AgentViews.{half_in}
use Rattle.fw_node.specs.Agents.{IsAddressed, again_packets, begin_messages, session_half_aged}
use Rattle.fw_node.proofs.AgentTicks.{notes_more}
use Rattle.fw_node.proofs.Loops.{done_more, fits_all, fits_more, half_was, holds_next, holds_of_all, sends_more}
use Rattle.fw_node.proofs.agent_node.grow_all.Goals as goal

pub loop-half-preserved : goal.loop-half-preserved
loop-half-preserved c =
    let i = c.loop-half.half-index in
    let x = get_or c.loop-half.halves i c.half-item.result in
    let is = ap (get_or c.loop-half.halves i) c.half-item.is in
    let xs = map (half_in 0) c.args.halves.now in
    let long = length-map c.args.halves.now (half_in 0) in
    let was = half_was (half_in 0) (session_half_aged c.args.packages.now) c.args.halves.now c.loop-half.halves i x (omega arith) is c.loop-half.invariant.halves in
    record {
      halves = done_more (half_in 0) (session_half_aged c.args.packages.now) c.args.halves.now c.loop-half.halves i x c.grow.new.half (omega arith) is c.loop-half.invariant.halves c.grow.ensures.half;
      sent = sends_more again_packets xs i (half_in 0 x) c.args.outbox.now c.loop-half.outbox c.grow.new.outbox (omega (arith, long)) was c.loop-half.invariant.sent c.grow.ensures.packets;
      log = notes_more (session_half_aged c.args.packages.now) c.args.now c.args.log.now c.loop-half.log c.grow.new.log xs i (half_in 0 x) (omega (arith, long)) was c.loop-half.invariant.log c.grow.ensures.log;
      room = fits_more (begin_messages c.args.packages.now) (session_half_aged c.args.packages.now) xs i (half_in 0 x) (length c.args.outbox.now) (length c.loop-half.outbox) (length c.grow.new.outbox) (omega (arith, long)) was c.loop-half.invariant.room c.grow.ensures.few;
      addressed = holds_next (IsAddressed c.args.packages.now) xs i (half_in 0 x) (omega (arith, long)) was c.loop-half.invariant.addressed c.grow.ensures.addressed;
      count = length-set c.loop-half.halves i c.grow.new.half ∙ c.loop-half.invariant.count;
    }

pub returns-clause-few : goal.returns-clause-few
returns-clause-few c =
    let xs = map (half_in 0) c.args.halves.now in
    let long = length-map c.args.halves.now (half_in 0) in
    let fits = fits_all (begin_messages c.args.packages.now) (session_half_aged c.args.packages.now) xs c.loop-half.half-index (length c.args.outbox.now) (length c.loop-half.outbox)
    (omega (arith, long, c.loop-half-test.false)) (omega (arith, long)) c.loop-half.invariant.room in
    omega (arith, fits, long)

pub returns-clause-addressed : goal.returns-clause-addressed
returns-clause-addressed c =
    let long = length-map c.args.halves.now (half_in 0) in
    holds_of_all (IsAddressed c.args.packages.now) (map (half_in 0) c.args.halves.now) c.loop-half.half-index (omega (arith, long, c.loop-half-test.false)) c.loop-half.invariant.addressed
