use Rattle.std.proofs.Common.{◌≤◌, arith, ap, length, refl}
use Rattle.fwupd_base.proofs.Servers.{never_err}
use Rattle.fwupd_base.proofs.stream.AnswerServerLineServer.serve.Goals as goal

pub returns-clause-err : goal.returns-clause-err
returns-clause-err c =
    let none = ap length c.requires.empty in
    let room = c.requires.room refl in
    let short : length c.as_slice.result.now ≤ 265 = rw c.as_slice.ensures.value c.answer_line.ensures.short in
    never_err c.extend_from_slice.result _ (c.extend_from_slice.ensures.succeeds (omega (arith, none, room, short)))
