use Rattle.fw_steps.proofs.Reaching.{promised_since}
use Rattle.fw_steps.proofs.headline.runs_are_promised.Goals as goal

pub returns : goal.returns
returns c = record {
  law = promised_since (record {
    safe = c.packets_are_safe.ensures.law;
    grow = c.moments_are_tied.ensures.grow;
    tied = c.moments_are_tied.ensures.tied;
    messages = c.packets_are_messages.ensures.law;
    time = c.clocks_keep_time.ensures.law;
  });
}
