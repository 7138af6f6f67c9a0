use Rattle.std.proofs.Common.{rules}
use Rattle.std.proofs.lemmas.Fn.{filter_same}
use Rattle.fw_soak.specs.Turns.{is_held}
use Rattle.fw_soak.proofs.traffic.keep_held.Goals as goal

pub returns : goal.returns
returns c = filter_same _ (is_held c.args.now) _ (λ x b f' k. search rules) _ _ c.retain.ensures.filtered
