-- The world after each call of its code.
use Rattle.std.specs.Prelude.{ℕ, ◌≡◌, List, Some}
use Rattle.fd_core.specs.declared.states.Verdict.{Verdict}
use Rattle.fw_steps.specs.Sites.{NotesPacketAtPlace, NotesVerdictAtPlace}
use Rattle.fw_steps.specs.Worlds.{WorldOf, place_of}

-- A packet is delivered to a device.
pub record DeliversToDevice (w : WorldOf) (node : ℕ) (bytes : List ℕ) (v : WorldOf) : Type 0 where
  pub place : ℕ
  pub at : place_of w.sites node ≡ Some place
  pub heard : NotesPacketAtPlace w.now w.sites place bytes v.sites w.history v.history
  pub rest : v ≡ record w { sites = v.sites; history = v.history }

-- A device handles a verdict.
pub record GivesVerdict (w : WorldOf) (device : ℕ) (verdict : Verdict) (v : WorldOf) : Type 0 where
  pub place : ℕ
  pub at : place_of w.sites device ≡ Some place
  pub judged : NotesVerdictAtPlace w.sites place verdict v.sites w.history v.history
  pub rest : v ≡ record w { sites = v.sites; history = v.history }
