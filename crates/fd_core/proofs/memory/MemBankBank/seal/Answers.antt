use Rattle.std.proofs.Common.{None, arith, rules}
use Rattle.fd_core.proofs.MemBanks.{bank_kept, bank_sealed}
use Rattle.fd_core.proofs.Places.{shapes_applied}
use Rattle.fd_core.proofs.memory.MemBankBank.seal.Goals as goal

pub invariant_of-self : goal.invariant_of-self
invariant_of-self c =
    bank_kept c.self.inside.places.len c.self.inside.places.items c.as_mut_slice.result.now c.apply_at.new.places c.self.inside.staged None c.self.invariant
    c.as_mut_slice.ensures.value (rw c.apply_at.ensures (shapes_applied c.in-Some.key c.as_mut_slice.result.now)) (omega arith) tt

pub returns-clause-bank : goal.returns-clause-bank
returns-clause-bank c =
    bank_sealed c.self.inside.places.len c.self.inside.places.items c.as_mut_slice.result.now c.apply_at.new.places c.self.inside.staged c.self.inside.faults c.args.self.now c.in-Some.key
    c.self.invariant c.self.view_is c.as_mut_slice.ensures.value c.in-Some.is c.apply_at.ensures (omega arith) (search rules)
