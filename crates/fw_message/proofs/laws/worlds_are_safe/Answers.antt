use Rattle.fw_message.proofs.Safety.Runs.{Laws}
use Rattle.fw_message.proofs.Safety.Worlds.{worlds_are_safe, worlds_stay_safe}
use Rattle.fw_message.proofs.laws.worlds_are_safe.Goals as goal

pub returns : goal.returns
returns c =
    let laws : Laws = record {
      serves = c.stays_in_plan.ensures.serves;
      learns = c.stays_in_plan.ensures.learns;
      images = c.plans_named_images.ensures.images;
      pieces = c.pieces_continue.ensures;
    } in
    record { law = worlds_are_safe laws; on = worlds_stay_safe laws }
