use Rattle.std.proofs.Common.{◌∙◌, ap, sym}
use Rattle.std.specs.Option.{unwrap_or}
use Rattle.fw_steps.specs.Packets.{sent_of}
use Rattle.fwupd_watch.specs.Progress.{last_end}
use Rattle.fwupd_watch.proofs.Ends.{end_more}
use Rattle.fwupd_watch.proofs.progress.asked.Goals as goal

pub loop-place-preserved : goal.loop-place-preserved
loop-place-preserved c =
    end_more c.args.device c.loop-place.end c.unwrap_or-end.result c.loop-place.place c.behind-latest.result (sent_of c.in-Some.packet) (last_end c.args.device 0 c.behind-latest.result) (sym c.in-Some.ensures.packet)
    c.loop-place.invariant (c.unwrap_or-end.ensures ∙ ap (λ o. unwrap_or o c.loop-place.end) c.asked_by.ensures)
