use Rattle.fw_package.proofs.Chosen.{plans_keys_once, plans_named_images}
use Rattle.fw_package.proofs.laws.plans_named_images.Goals as goal

pub returns : goal.returns
returns c = record { keys = plans_keys_once; images = plans_named_images }
