use Rattle.exch_lane.proofs.Runs.{lane_refinement}
use Rattle.exch_lane.proofs.laws.lane_is_a_cell.Goals as goal

pub returns : goal.returns
returns c = record {
  law = lane_refinement (record {
    packets_written = c.reads_back.ensures.written;
    packets_read = c.reads_back.ensures.read;
    messages_written = c.reads_back-2.ensures.written;
    messages_read = c.reads_back-2.ensures.read;
    pieces = c.pieces_of_a_message.ensures;
    feeds_next = c.feeds_next.ensures;
    feeds_other = c.feeds_other.ensures;
    callers = c.callers_stay_lawful.ensures;
    rests = c.rests_change.ensures;
  });
}
