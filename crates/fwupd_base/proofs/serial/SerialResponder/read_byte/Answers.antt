use Rattle.fwupd_base.proofs.SerialLines.{byte_given, byte_quiet}
use Rattle.fwupd_base.proofs.serial.SerialResponder.read_byte.Goals as goal

pub returns-then-not-feed : goal.returns-then-not-feed
returns-then-not-feed c =
    rw (← c.self.view_is) (byte_quiet _ c.args.byte c.feed.new.self c.args.text.now.items c.if-not-feed.ensures.reader c.if-not-feed.ensures.given)

pub returns-in-Ok : goal.returns-in-Ok
returns-in-Ok c =
    rw (← c.self.view_is, c.in-Ok.ensures.after)
    (byte_given _ c.args.byte c.feed.new.self c.feed.new.self.packet _ _ c.if-not-feed.ensures.reader c.if-not-feed.ensures.given c.in-Ok.ensures.text)
