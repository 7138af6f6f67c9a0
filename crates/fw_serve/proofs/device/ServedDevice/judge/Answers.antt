use Rattle.std.proofs.Common.{[], map, subst}
use Rattle.fw_message.specs.Entries.{entry_of}
use Rattle.fw_serve.specs.Serving.{IsVerdict, TakesSuch}
use Rattle.fw_serve.proofs.Calls.{judges}
use Rattle.fw_serve.proofs.device.ServedDevice.judge.Goals as goal

pub returns-clause-taken : goal.returns-clause-taken
returns-clause-taken g c =
    subst (λ s. TakesSuch s (IsVerdict c.args.verdict) (record { node = c.judge.new.self; history = map entry_of c.judge.new.history.items }) []) c.self.view_is
    (judges (record { node = c.self.inside.device; history = map entry_of c.self.inside.history.items }) (record { node = c.judge.new.self; history = map entry_of c.judge.new.history.items })
    c.args.verdict c.in-Ok.ensures.judged)
