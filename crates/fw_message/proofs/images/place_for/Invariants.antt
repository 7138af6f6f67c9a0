use Rattle.std.proofs.Common.{◌≡◌, ◌+◌, drop, map}
use Rattle.fw_message.specs.Entries.{place_in, keyed_image_of}
use Rattle.fw_message.proofs.images.place_for.Given as goal

-- all keys before this place are less than the key
abbrev pub invariant-loop-place : goal.invariant-loop-place
invariant-loop-place l =
    place_in (map keyed_image_of l.images) l.key ≡ l.place + place_in (map keyed_image_of (drop l.place l.images)) l.key
