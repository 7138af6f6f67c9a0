use Rattle.std.proofs.Common.{◌∙◌, ap, arith, get_or, length, map}
use Rattle.std.proofs.lemmas.List.{length-map, length-set}
use Rattle.fw_node.specs.AgentViews.{half_in}
use Rattle.fw_node.specs.Agents.{begin_messages, session_half_after, ended_packets, session_half_idle}
use Rattle.fw_node.proofs.AgentTicks.{notes_more}
use Rattle.fw_node.proofs.Loops.{done_more, half_was, room_for, room_more, sends_more}
use Rattle.fw_node.proofs.agent_node.wait_all.Goals as goal

pub wait-requires : goal.wait-requires
wait-requires c =
    let i = c.loop-half.half-index in
    let x = get_or c.loop-half.halves i c.half-item.result in
    let is = ap (get_or c.loop-half.halves i) c.half-item.is in
    let long = length-map c.args.halves.now (half_in 0) in
    let was = half_was (half_in 0) (session_half_after c.args.packages.now) c.args.halves.now c.loop-half.halves i x (omega arith) is c.loop-half.invariant.halves in
    room_for (begin_messages c.args.packages.now) (map (half_in 0) c.args.halves.now) i (half_in 0 x) (length c.args.outbox.now) (length c.loop-half.outbox) 64
    (omega (arith, long)) was c.loop-half.invariant.room c.requires

pub loop-half-preserved : goal.loop-half-preserved
loop-half-preserved c =
    let i = c.loop-half.half-index in
    let x = get_or c.loop-half.halves i c.half-item.result in
    let is = ap (get_or c.loop-half.halves i) c.half-item.is in
    let xs = map (half_in 0) c.args.halves.now in
    let long = length-map c.args.halves.now (half_in 0) in
    let was = half_was (half_in 0) (session_half_after c.args.packages.now) c.args.halves.now c.loop-half.halves i x (omega arith) is c.loop-half.invariant.halves in
    record {
      halves = done_more (half_in 0) (session_half_after c.args.packages.now) c.args.halves.now c.loop-half.halves i x c.wait.new.half (omega arith) is c.loop-half.invariant.halves c.wait.ensures.half;
      sent = sends_more (ended_packets c.args.packages.now) xs i (half_in 0 x) c.args.outbox.now c.loop-half.outbox c.wait.new.outbox (omega (arith, long)) was c.loop-half.invariant.sent c.wait.ensures.packets;
      log = notes_more (session_half_idle c.args.packages.now) c.args.now c.args.log.now c.loop-half.log c.wait.new.log xs i (half_in 0 x) (omega (arith, long)) was c.loop-half.invariant.log c.wait.ensures.log;
      room = room_more (begin_messages c.args.packages.now) xs i (half_in 0 x) (length c.args.outbox.now) (length c.loop-half.outbox) (length c.wait.new.outbox) (omega (arith, long)) was c.loop-half.invariant.room c.wait.ensures.few;
      count = length-set c.loop-half.halves i c.wait.new.half ∙ c.loop-half.invariant.count;
    }
