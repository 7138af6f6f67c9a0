use Rattle.std.proofs.Common.{◌*◌, ◌∙◌, ap, length, sym}
use Rattle.std.proofs.lemmas.List.{length-map}
use Rattle.fw_script.specs.Seen.{device_of}
use Rattle.fw_soak.specs.Chances.{generator_of, generator_past}
use Rattle.fw_soak.specs.Setups.{setup_of}
use Rattle.fw_soak.specs.Turns.{soaking}
use Rattle.fw_soak.proofs.Openings.{run_is}
use Rattle.fw_soak.proofs.turns.run.Goals as goal

pub returns-clause-run : goal.returns-clause-run
returns-clause-run c =
    run_is (setup_of c.args.setup.now) c.args.roughness c.args.number (length c.args.setup.now.devices.now) c.package_count-packages.result c.in_ok-course.course c.in_ok-traffic.traffic
    c.begin.new.chances (soaking c.take_turns.new.course c.take_turns.new.traffic c.take_turns.new.chances) (sym (length-map c.args.setup.now.devices.now device_of)) c.package_count-packages.ensures c.in_ok-course.ensures.is
    c.in_ok-traffic.ensures.met c.in_ok-traffic.ensures.late c.in_ok-traffic.ensures.roughness
    (c.in_ok-course.ensures.after ∙ ap (generator_past (2 * length c.args.setup.now.devices.now)) (c.new-chances.ensures ∙ ap (generator_of c.args.roughness.seed) c.from.ensures)) c.in-Ok.ensures.turns
