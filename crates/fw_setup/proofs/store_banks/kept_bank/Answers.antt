use Rattle.std.proofs.Common.{ap, map, sym, ◌∙◌}
use Rattle.fw_script.specs.Seen.{component_of}
use Rattle.fw_store.specs.Kept.{all_running}
use Rattle.fw_setup.proofs.Stocking.{running_made}
use Rattle.fw_setup.proofs.store_banks.kept_bank.Goals as goal

pub new-requires-clause-kept : goal.new-requires-clause-kept
new-requires-clause-kept g c = c.requires.kept ∙ sym (ap all_running c.in_ok-bank.ensures.rows ∙ running_made (map component_of c.args.components.now))
