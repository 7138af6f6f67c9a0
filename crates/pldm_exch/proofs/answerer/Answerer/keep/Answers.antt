use Rattle.std.proofs.Common.{Some, ap, sym}
use Rattle.pldm_exch.specs.Kept.{identifier_in}
use Rattle.pldm_exch.proofs.Keeping.{put_are}
use Rattle.pldm_exch.proofs.answerer.Answerer.keep.Goals as goal

pub invariant_of-self : goal.invariant_of-self
invariant_of-self c =
    let read = rw c.bytes.ensures.value at c.in-Ok.ensures.value in
    rw (c.again.ensures, c.tag.ensures.value)
    (put_are c.self.inside.places c.args.answer.now (Some c.in-Ok.head.instance) (ap identifier_in (sym read)) c.self.invariant)
