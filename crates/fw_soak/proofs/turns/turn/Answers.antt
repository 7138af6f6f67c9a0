use Rattle.std.proofs.Common.{refl}
use Rattle.fw_soak.specs.Turns.{soaking}
use Rattle.fw_soak.proofs.turns.turn.Goals as goal

pub returns-clause-turn : goal.returns-clause-turn
returns-clause-turn c = record {
  ticked = c.tick.new.course;
  tick = c.in-Ok.ensures.tried;
  exchanged = soaking c.exchange.new.course c.exchange.new.self c.exchange.new.chances;
  exchanges = c.in-Ok-exchange.ensures.packets;
  attended = soaking c.attend.new.course c.exchange.new.self c.attend.new.chances;
  attends = record { does = c.in-Ok-attend.ensures.attends; roughness = refl; met = refl; late = refl };
  left = c.upset_if.ensures.left;
  among = c.upset_if.ensures.among;
  upset = record { does = c.in-Ok-upset_if.ensures.upset; roughness = refl; met = refl; late = refl };
}
