-- The numbers of packages of devices.
use Rattle.std.proofs.Common.{◌≡◌, ◌<◌, ℕ}
use Rattle.std.specs.Prelude.{replicate, slice_index_or}
use Rattle.std.proofs.lemmas.List.{get_or-replicate}

pub same_for_all : (number eid : ℕ) → eid < 256 → slice_index_or (replicate 256 number) eid 0 ≡ number
same_for_all number eid within = get_or-replicate 256 eid number 0 within
