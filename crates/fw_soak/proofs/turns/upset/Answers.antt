use Rattle.std.proofs.Common.{◌∙◌, ◌%◌, ap, length}
use Rattle.fw_edge.specs.Fates.{word_after, word_of}
use Rattle.fw_soak.specs.Chances.{drawn_upset}
use Rattle.fw_soak.specs.Turns.{drawn_run}
use Rattle.fw_soak.proofs.Upsetting.{upsets_one}
use Rattle.fw_soak.proofs.turns.upset.Goals as goal

pub returns-clause-upset : goal.returns-clause-upset
returns-clause-upset c =
    upsets_one c.args.traffic.now.met.items (drawn_run c.args.course.now c.args.chances.now) (drawn_run c.upset_by.new.course c.upset_by.new.chances) (c.below.result % c.device_count.result)
    c.upset_drawn-kind.result c.upset_drawn-kind.new.chances.generator
    (ap (λ n. n % c.device_count.result) c.below.ensures.number ∙ ap (λ n. word_of c.args.chances.now.generator % 16 % n) (c.device_count.ensures.count ∙ ap (λ w. length w.sites) c.world.ensures))
    (c.upset_drawn-kind.ensures.value ∙ ap drawn_upset c.below.ensures.after) (c.upset_drawn-kind.ensures.after ∙ ap word_after c.below.ensures.after)
    c.in-Ok.ensures.tried c.in-Ok.ensures.after
