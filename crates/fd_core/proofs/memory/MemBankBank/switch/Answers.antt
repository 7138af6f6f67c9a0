use Rattle.std.proofs.Common.{None, arith}
use Rattle.fd_core.proofs.MemBanks.{bank_activated, bank_kept}
use Rattle.fd_core.proofs.Places.{shapes_activated}
use Rattle.fd_core.proofs.memory.MemBankBank.switch.Goals as goal

pub invariant_of-self : goal.invariant_of-self
invariant_of-self c =
    bank_kept c.self.inside.places.len c.self.inside.places.items c.as_mut_slice.result.now c.activate_all.new.places c.self.inside.staged None c.self.invariant
    c.as_mut_slice.ensures.value (rw c.activate_all.ensures (shapes_activated c.as_mut_slice.result.now)) (omega arith) tt

pub returns-clause-bank : goal.returns-clause-bank
returns-clause-bank c =
    bank_activated c.self.inside.places.len c.self.inside.places.items c.as_mut_slice.result.now c.activate_all.new.places c.self.inside.staged c.self.inside.faults c.args.self.now
    c.self.view_is c.as_mut_slice.ensures.value c.activate_all.ensures (omega arith)
