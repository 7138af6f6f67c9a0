use Rattle.std.proofs.Common.{None, arith}
use Rattle.fd_core.proofs.MemBanks.{bank_forgotten, bank_kept}
use Rattle.fd_core.proofs.Places.{shapes_forgotten}
use Rattle.fd_core.proofs.memory.MemBankBank.drop_pending.Goals as goal

pub invariant_of-self : goal.invariant_of-self
invariant_of-self c =
    bank_kept c.self.inside.places.len c.self.inside.places.items c.as_mut_slice.result.now c.forget_all.new.places c.self.inside.staged None c.self.invariant
    c.as_mut_slice.ensures.value (rw c.forget_all.ensures (shapes_forgotten c.as_mut_slice.result.now)) (omega arith) tt

pub returns : goal.returns
returns c = record {
  bank = bank_forgotten c.self.inside.places.len c.self.inside.places.items c.as_mut_slice.result.now c.forget_all.new.places c.self.inside.staged c.self.inside.faults c.args.self.now
      c.self.view_is c.as_mut_slice.ensures.value c.forget_all.ensures (omega arith);
}
