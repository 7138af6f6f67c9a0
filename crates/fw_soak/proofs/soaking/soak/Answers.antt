use Rattle.std.proofs.Common.{ap, arith}
use Rattle.std.specs.Prelude.{option_map}
use Rattle.fw_soak.proofs.Soaks.{soaks_all, soaks_init, soaks_next}
use Rattle.fw_soak.proofs.Summing.{soaked_clean}
use Rattle.fw_soak.specs.Setups.{setup_of}
use Rattle.fw_soak.proofs.soaking.soak.Goals as goal

pub loop-number-init : goal.loop-number-init
loop-number-init g c =
    soaks_init (setup_of c.args.setup.now) c.args.roughness c.new-soaked.result.summary (option_map (λ k. k.items) c.new-soaked.result.kept) (g.V.SoakObserver.seen c.args.observer.now) c.new-soaked.ensures.summary
    (ap (option_map (λ k. k.items)) c.new-soaked.ensures.kept)

pub loop-number-preserved : goal.loop-number-preserved
loop-number-preserved g c =
    soaks_next (setup_of c.args.setup.now) c.args.roughness c.loop-number.number c.loop-number.soaked.summary c.add.new.self.summary (option_map (λ k. k.items) c.loop-number.soaked.kept)
    (option_map (λ k. k.items) c.add.new.self.kept) (g.V.SoakObserver.seen c.args.observer.now) (g.V.SoakObserver.seen c.loop-number.observer) (g.V.SoakObserver.seen c.see.new.self)
    c.in_ok-course.course c.in_ok-clean.clean c.loop-number.invariant c.in_ok-course.ensures.course c.in_ok-course.ensures.run
    (rw c.world.ensures at c.in_ok-clean.ensures.answer) c.in_ok-add.ensures.summary c.in_ok-add.ensures.kept c.see.ensures

pub returns-clause-soaked : goal.returns-clause-soaked
returns-clause-soaked g c =
    (soaks_all (setup_of c.args.setup.now) c.args.roughness c.loop-number.number c.args.runs c.loop-number.soaked.summary (option_map (λ k. k.items) c.loop-number.soaked.kept)
    (g.V.SoakObserver.seen c.args.observer.now) (g.V.SoakObserver.seen c.loop-number.observer) (omega (arith, c.loop-number-test.false, c.loop-number.auto.number-end)) c.loop-number.invariant).ok

pub returns-clause-none : goal.returns-clause-none
returns-clause-none g c = λ e. soaked_clean (setup_of c.args.setup.now) c.loop-number.number c.loop-number.soaked.summary (option_map (λ k. k.items) c.loop-number.soaked.kept) c.loop-number.invariant.ok (ap (option_map (λ k. k.items)) e)

pub returns-clause-runs : goal.returns-clause-runs
returns-clause-runs g c =
    soaks_all (setup_of c.args.setup.now) c.args.roughness c.loop-number.number c.args.runs c.loop-number.soaked.summary (option_map (λ k. k.items) c.loop-number.soaked.kept)
    (g.V.SoakObserver.seen c.args.observer.now) (g.V.SoakObserver.seen c.loop-number.observer) (omega (arith, c.loop-number-test.false, c.loop-number.auto.number-end)) c.loop-number.invariant
