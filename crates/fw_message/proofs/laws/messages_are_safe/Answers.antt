use Rattle.fw_message.proofs.Safety.Runs.{messages_are_safe}
use Rattle.fw_message.proofs.laws.messages_are_safe.Goals as goal

pub returns : goal.returns
returns c =
    record {
      law = messages_are_safe (record {
        serves = c.stays_in_plan.ensures.serves;
        learns = c.stays_in_plan.ensures.learns;
        images = c.plans_named_images.ensures.images;
        pieces = c.pieces_continue.ensures;
      });
    }
