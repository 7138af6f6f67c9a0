use Rattle.std.proofs.Common.{Some, arith}
use Rattle.fd_core.proofs.MemBanks.{bank_begun, bank_kept, known_in, staged_known}
use Rattle.fd_core.proofs.Places.{shapes_rewritten}
use Rattle.fd_core.specs.Areas.{new_area}
use Rattle.fd_core.proofs.memory.MemBankBank.begin.Goals as goal

pub begin_at-requires-clause-known : goal.begin_at-requires-clause-known
begin_at-requires-clause-known c =
    known_in c.self.inside.places.items c.as_mut_slice.result.now c.self.inside.staged c.self.inside.faults c.args.self.now c.args.key
    c.self.view_is c.as_mut_slice.ensures.value c.requires.known

pub invariant_of-self-2 : goal.invariant_of-self-2
invariant_of-self-2 c =
    let there = known_in c.self.inside.places.items c.as_mut_slice.result.now c.self.inside.staged c.self.inside.faults c.args.self.now c.args.key
    c.self.view_is c.as_mut_slice.ensures.value c.requires.known in
    let known = staged_known c.self.inside.places.items c.as_mut_slice.result.now c.args.key c.as_mut_slice.ensures.value there in
    bank_kept c.self.inside.places.len c.self.inside.places.items c.as_mut_slice.result.now c.begin_at.new.places c.self.inside.staged (Some c.args.key) c.self.invariant
    c.as_mut_slice.ensures.value (rw c.in-Ok.ensures.ok (shapes_rewritten (new_area c.args.size c.args.label.now) c.args.key c.as_mut_slice.result.now)) (omega arith) known

pub returns-clause-ok : goal.returns-clause-ok
returns-clause-ok c =
    let there = known_in c.self.inside.places.items c.as_mut_slice.result.now c.self.inside.staged c.self.inside.faults c.args.self.now c.args.key
    c.self.view_is c.as_mut_slice.ensures.value c.requires.known in
    bank_begun c.self.inside.places.len c.self.inside.places.items c.as_mut_slice.result.now c.begin_at.new.places c.self.inside.staged c.self.inside.faults c.args.self.now c.args.key c.args.size c.args.label.now
    c.self.invariant c.self.view_is c.as_mut_slice.ensures.value c.in-Ok.ensures.ok (omega arith) there
