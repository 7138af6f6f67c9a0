-- Closing cells keeps the invariant.
use Rattle.std.specs.Prelude.{◌&&◌, ◌≡◌, true, List, Option, Some, None}
use Rattle.std.proofs.Common.{refl}
use Rattle.fw_package.specs.Package.{DescriptorOf, PackageText}
use Rattle.fwup_wire.specs.Values.{CommandOf}
use Rattle.fd_core.specs.Images.{RowOf}
use Rattle.fd_core.specs.Wishes.{device_wish}
use Rattle.ua_core.specs.Session.{Stage}
use Rattle.fw_message.specs.Headline.{EntryOf}
use Rattle.fw_message.specs.Pairs.{CellContentOf, PairOf, closed_unless, down_wish, is_wished, unwished_closed, with_down, with_up}
use Rattle.fw_message.proofs.Safety.Agreement.{CommandStands, IsStanding, StandsOpen}
use Rattle.fw_message.proofs.Safety.Cells.{closed_up}
use Rattle.fwup_wire.proofs.SameCommands.{same_self}

wished_self : (c : CommandOf) (wish : Option CommandOf) → wish ≡ Some c → is_wished c wish ≡ true
wished_self c wish e = rw e (same_self c)

stands_closes : (wish : Option CommandOf) (cell : Option CellContentOf) → StandsOpen wish cell → StandsOpen wish (closed_unless wish cell)
stands_closes wish None s = tt
stands_closes wish (Some h) s = (rw (s.0, wished_self h.command wish s.1) refl, s.1)

command_closes : (g : Stage) (wish : Option CommandOf) (cell : Option CellContentOf) → CommandStands g wish cell
    → CommandStands g wish (closed_unless wish cell)
command_closes Stage.Idle wish cell s = tt
command_closes Stage.Query wish cell s = tt
command_closes Stage.Done wish cell s = tt
command_closes Stage.Cancelling wish cell s = tt
command_closes (Stage.Failed c) wish cell s = tt
command_closes g wish cell s = stands_closes wish cell s

down_closes : (ps : List PackageText) (ds : List DescriptorOf) (first : List RowOf) (es : List EntryOf) (m : PairOf) (d : Option CellContentOf)
    → IsStanding ps ds first es (with_down m d) → IsStanding ps ds first es (with_down m (closed_unless (down_wish ps m.session) d))
down_closes ps ds first es m None s = s
down_closes ps ds first es m (Some h) s =
    record {
      own = s.own;
      command = command_closes m.session.stage (down_wish ps m.session) (Some h) s.command;
      form = s.form;
      together = s.together;
      pending = s.pending;
      stray = s.stray;
      plan = s.plan;
      chosen = s.chosen;
      identified = s.identified;
      told = s.told;
      history = s.history;
    }

up_closes : (ps : List PackageText) (ds : List DescriptorOf) (first : List RowOf) (es : List EntryOf) (m : PairOf) (u : Option CellContentOf) (wish : Option CommandOf)
    → IsStanding ps ds first es (with_up m u) → IsStanding ps ds first es (with_up m (closed_unless wish u))
up_closes ps ds first es m None wish s = s
up_closes ps ds first es m (Some h) wish s = closed_up ps ds first es m h (h.live && is_wished h.command wish) s

-- the invariant holds after the closing
pub closes : (ps : List PackageText) (ds : List DescriptorOf) (first : List RowOf) (es : List EntryOf) (m : PairOf)
    → IsStanding ps ds first es m → IsStanding ps ds first es (unwished_closed ps m)
unfolding unwished_closed
closes ps ds first es m s =
    up_closes ps ds first es (with_down m (closed_unless (down_wish ps m.session) m.down)) m.up (device_wish m.device) (down_closes ps ds first es m m.down s)
