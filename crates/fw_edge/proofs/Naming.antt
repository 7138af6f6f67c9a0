-- Devices keep their places and identifiers.
use Rattle.std.proofs.Common.{◌≡◌, ◌<◌, ℕ, zero, suc, List, ◌∷◌, [], Some, length, slice_get, refl, arith}
use Rattle.fw_steps.specs.Worlds.{SiteOf, WorldOf, eids_of}
use Rattle.fw_steps.specs.declared.step.Step.{Step}
use Rattle.fw_steps.proofs.Reaching.{run_eids}
use Rattle.fw_edge.specs.Drives.{Drives}
use Rattle.fw_edge.specs.Turns.{eid_in}

-- steps are taken
pub drives_eids : (w : WorldOf) (before : List Step) (v : WorldOf) (after : List Step) → Drives w before v after → eids_of v.sites ≡ eids_of w.sites
drives_eids w before v after h = run_eids w v h.steps h.run

-- the device at a place
pub eid_there : (xs : List SiteOf) (i : ℕ) → i < length xs → slice_get (eids_of xs) i ≡ Some (eid_in (slice_get xs i))
eid_there [] i lt = absurd (omega arith)
eid_there (x ∷ xs) zero lt = refl
eid_there (x ∷ xs) (suc i) lt = eid_there xs i (omega arith)
