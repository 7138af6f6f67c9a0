use Rattle.std.proofs.Common.{ap}
use Rattle.ua_core.proofs.InPlan.{chooses_record, learns_in_plan, serves_in_plan}
use Rattle.ua_core.specs.Laws.{number_of}
use Rattle.std.specs.Prelude.{map}
use Rattle.ua_core.proofs.laws.stays_in_plan.Goals as goal

pub returns : goal.returns
returns c =
    record {
      serves = serves_in_plan;
      learns = learns_in_plan;
      chosen = chooses_record;
      keys = λ p j n m h cn cm e. c.plans_named_images.ensures.keys p j.chosen n m (map number_of j.plan) h cn cm (ap (λ k. k.classification) e) (ap (λ k. k.identifier) e);
    }
