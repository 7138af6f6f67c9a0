use Rattle.fw_script.proofs.Whole.{config_whole}
use Rattle.fw_script.specs.Seen.{config_seen}
use Rattle.fw_script.proofs.draft.read_config.Goals as goal

pub returns-in-Ok-clause-whole : goal.returns-in-Ok-clause-whole
returns-in-Ok-clause-whole c = config_whole c.args.text.now (config_seen c.in-Ok.config) c.in-Ok.ensures
