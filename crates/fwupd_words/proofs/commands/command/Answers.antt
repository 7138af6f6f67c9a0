use Rattle.std.proofs.Common.{refl}
use Rattle.std.proofs.lemmas.Result.{IfOk-weaker}
use Rattle.fwupd_words.proofs.commands.command.Goals as goal

pub returns : goal.returns
returns c =
    IfOk-weaker c.command_with.result _ _ (λ line is. record { forms = _; words = (refl, refl); is = is }) c.command_with.ensures
