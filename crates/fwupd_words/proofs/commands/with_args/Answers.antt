use Rattle.std.proofs.lemmas.Result.{IfOk-weaker}
use Rattle.fwupd_words.proofs.Lines.{adds_rules}
use Rattle.fwupd_words.proofs.commands.with_args.Goals as goal

pub returns : goal.returns
returns c simple = IfOk-weaker c.args-2.result _ _ (λ new added. adds_rules c.args.command new c.args.args.items added simple) c.args-2.ensures
