use Rattle.std.proofs.Common.{◌≡◌, ◌+◌, ◌<◌}
use Rattle.fw_message.proofs.pair.waiting.wait_for_session.Given as goal

-- only the count of ticks changed
abbrev pub invariant-loop : goal.invariant-loop
invariant-loop l =
    (l.session.session ≡ l.fn.session.session) × (l.session.idle ≡ l.fn.session.idle + l.counter)
    × (0 < l.counter → l.session.idle < 240)
