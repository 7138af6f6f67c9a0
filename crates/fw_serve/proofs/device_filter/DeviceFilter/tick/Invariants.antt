use Rattle.std.proofs.Common.{[], ◌≡◌}
use Rattle.fw_serve.proofs.Turns.{TurnsSoFar}
use Rattle.fw_serve.proofs.device_filter.DeviceFilter.tick.Given as goal

-- the turns so far are taken, and their packets are written
abbrev pub invariant-loop-taken : goal.invariant-loop-taken
invariant-loop-taken g l = record {
  options : l.self-inside.options ≡ l.fn.self.options;
  outbox : l.self-inside.outbox ≡ [];
  turns : TurnsSoFar l.fn.self.options.auto l._taken l.fn.self.device l.self-inside.device l.text.items;
}
