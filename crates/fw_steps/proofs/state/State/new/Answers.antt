use Rattle.std.proofs.Common.{◌≡◌, arith, length}
use Rattle.fw_steps.proofs.Opening.{as_many}
use Rattle.fw_steps.proofs.state.State.new.Goals as goal

pub invariant_of-result : goal.invariant_of-result
invariant_of-result g c =
    let many : length c.in_ok-sites.sites.items ≡ length c.args.devices.items = as_many c.in_ok-sites.sites.items c.args.devices.items c.in_ok-sites.ensures in
    (c.in_ok-outbox.ensures, omega (arith, c.requires.some, many), omega (arith, c.requires.few, many))
