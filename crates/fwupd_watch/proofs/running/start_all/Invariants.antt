use Rattle.std.proofs.Common.{◌≡◌, ◌≤◌, ◌+◌, ◌-◌, length, take}
use Rattle.std.specs.Vec.{vec_capacity, vec_len}
use Rattle.fwupd_base.specs.PackageChoices.{number_for}
use Rattle.fwupd_watch.specs.Running.{starts_of}
use Rattle.fwupd_watch.proofs.Started.{Begun}
use Rattle.fwupd_watch.proofs.running.start_all.Given as goal

-- the updates of the devices before the place are started, and listed
abbrev pub invariant-loop-place : goal.invariant-loop-place
invariant-loop-place g l = record {
  begun : Begun (number_for l.packages) l.fn.world l.place l.world;
  listed : l.steps.items ≡ starts_of (number_for l.packages) (take l.place l.fn.world.sites);
  room : vec_len l.steps + (length l.fn.world.sites - l.place) ≤ vec_capacity l.steps;
}
