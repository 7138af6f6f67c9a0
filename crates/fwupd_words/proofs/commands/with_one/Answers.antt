use Rattle.std.proofs.lemmas.Result.{IfOk-weaker}
use Rattle.fwupd_words.proofs.Lines.{adds_one}
use Rattle.fwupd_words.proofs.commands.with_one.Goals as goal

pub returns : goal.returns
returns c plain = IfOk-weaker c.subcommand.result _ _ (λ new added. adds_one c.args.command c.args.one new added plain) c.subcommand.ensures
