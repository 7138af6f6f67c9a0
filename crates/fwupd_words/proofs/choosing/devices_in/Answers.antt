use Rattle.std.proofs.Common.{sym, subst}
use Rattle.fwupd_words.specs.Words.{given_in}
use Rattle.fwupd_words.proofs.Devices.{AreNamed, asks_named, asks_own, named_none, named_some}
use Rattle.fwupd_words.proofs.choosing.devices_in.Goals as goal
use Rattle.fwupd_words.proofs.choosing.devices_in.Goals.{in-Some, in-None}

pub returns-in-Some-get_raw : goal.returns-in-Some-get_raw
returns-in-Some-get_raw c =
    let words = given_in c.args.matches.now in
    let named : AreNamed words c.match-get_raw.devices = elim c.match-get_raw.branch [
      | in-Some w ↦ subst (AreNamed words) (sym w.devices-is)
          (named_some words w.in-Some.texts.now w.devices_among-devices.result (rw w.in-Some.is at c.get_raw.ensures) w.devices_among-devices.ensures.none w.devices_among-devices.ensures.named)
      | in-None w ↦ subst (AreNamed words) (sym w.devices-is) (named_none words (rw w.in-None.is at c.get_raw.ensures))
    ] in
    asks_own words c.in-Some-get_raw.values.now c.match-get_raw.devices c.with_own.result named (rw c.in-Some-get_raw.is at c.get_raw-2.ensures) c.with_own.ensures.some c.with_own.ensures.named

pub returns-in-None-get_raw : goal.returns-in-None-get_raw
returns-in-None-get_raw c =
    let words = given_in c.args.matches.now in
    let named : AreNamed words c.match-get_raw.devices = elim c.match-get_raw.branch [
      | in-Some w ↦ subst (AreNamed words) (sym w.devices-is)
          (named_some words w.in-Some.texts.now w.devices_among-devices.result (rw w.in-Some.is at c.get_raw.ensures) w.devices_among-devices.ensures.none w.devices_among-devices.ensures.named)
      | in-None w ↦ subst (AreNamed words) (sym w.devices-is) (named_none words (rw w.in-None.is at c.get_raw.ensures))
    ] in
    asks_named words c.match-get_raw.devices named (rw c.in-None-get_raw.is at c.get_raw-2.ensures)
