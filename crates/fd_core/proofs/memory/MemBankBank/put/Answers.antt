use Rattle.std.proofs.Common.{arith}
use Rattle.fd_core.proofs.MemBanks.{bank_appended, bank_kept}
use Rattle.fd_core.proofs.Places.{shapes_rewritten}
use Rattle.fd_core.specs.Areas.{area_with_bytes}
use Rattle.fd_core.proofs.memory.MemBankBank.put.Goals as goal

pub invariant_of-self : goal.invariant_of-self
invariant_of-self c =
    bank_kept c.self.inside.places.len c.self.inside.places.items c.as_mut_slice.result.now c.append_at.new.places c.self.inside.staged c.self.inside.staged c.self.invariant
    c.as_mut_slice.ensures.value (rw c.append_at.ensures (shapes_rewritten (area_with_bytes c.args.piece.now) c.in-Some.key c.as_mut_slice.result.now)) (omega arith) c.self.invariant.1

pub returns-clause-bank : goal.returns-clause-bank
returns-clause-bank c =
    bank_appended c.self.inside.places.len c.self.inside.places.items c.as_mut_slice.result.now c.append_at.new.places c.self.inside.staged c.self.inside.faults c.args.self.now c.in-Some.key c.args.piece.now
    c.self.invariant c.self.view_is c.as_mut_slice.ensures.value c.in-Some.is c.append_at.ensures (omega arith)
