use Rattle.std.proofs.Common.{◌≡◌, ap, false, map, subst, sym}
use Rattle.fd_core.proofs.MemBanks.{bank_more}
use Rattle.fd_core.specs.Banks.{has_key}
use Rattle.fd_core.specs.Images.{key_of}
use Rattle.fd_core.proofs.memory.MemBank.add.Goals as goal

pub invariant_of-self-2 : goal.invariant_of-self-2
invariant_of-self-2 c =
    let shape = c.in-Ok.ensures.shape in
    rw c.in-Ok-push.ensures.items (bank_more c.self.inside.places.items c.in-Ok.place c.self.inside.staged c.self.invariant (ap (λ s. s.areas) shape)
    (subst (λ b. has_key (map key_of b.rows) c.in-Ok.place.key ≡ false) (sym c.self.view_is) (rw (ap (λ s. s.key) shape) c.requires)))
