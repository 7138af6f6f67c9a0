use Rattle.std.specs.Prelude.{option_map}
use Rattle.fw_soak.specs.Setups.{setup_of}
use Rattle.fw_soak.specs.Summaries.{SoaksRuns}
use Rattle.fw_soak.proofs.soaking.soak.Given as goal

-- the runs so far
abbrev pub invariant-loop-number : goal.invariant-loop-number
invariant-loop-number g l =
    SoaksRuns (setup_of l.setup) l.roughness l.number l.soaked.summary (option_map (λ k. k.items) l.soaked.kept) (g.V.SoakObserver.seen l.fn.observer) (g.V.SoakObserver.seen l.observer)
