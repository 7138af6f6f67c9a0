use Rattle.exch_lane.proofs.Elapsed.{beat_clock, elapsed_counted, elapsed_late, elapsed_missed, ticks_late, time_starts, within_assembly, within_keeping, within_repeats}
use Rattle.exch_lane.proofs.laws.time_adds_up.Goals as goal

pub returns : goal.returns
returns c = record {
  clocks = beat_clock;
  starts = time_starts;
  counted = elapsed_counted;
  missed = elapsed_missed;
  late = elapsed_late;
  law = ticks_late;
  assembly = within_assembly;
  repeats = within_repeats;
  keeping = within_keeping;
}
