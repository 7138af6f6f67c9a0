use Rattle.std.proofs.Common.{arith}
use Rattle.fw_steps.proofs.Places.{less_room}
use Rattle.fw_steps.proofs.state.pass_agent.Goals as goal

pub returns-then-not-counts-clause-room : goal.returns-then-not-counts-clause-room
returns-then-not-counts-clause-room g c = less_room 64 128 (c.args.sites.now) (omega arith) c.requires.room
