use Rattle.std.proofs.Common.{ap, refl}
use Rattle.fw_soak.specs.Turns.{soaking}
use Rattle.fw_soak.proofs.traffic.Traffic.exchange.Goals as goal

pub returns-clause-packets : goal.returns-clause-packets
returns-clause-packets c = record {
  released = soaking c.release.new.course c.release.new.self c.args.chances.now;
  releases = record {
    delivers = c.in-Ok.ensures.due;
    held = c.in-Ok.ensures.held;
    roughness = c.release.ensures.roughness;
    met = ap (λ v. v.items) c.release.ensures.met;
    drawn = refl;
  };
  rounds = c.in-Ok-meet_rounds.ensures.rounds;
}
