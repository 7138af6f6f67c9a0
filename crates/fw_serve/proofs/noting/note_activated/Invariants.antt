use Rattle.std.proofs.Common.{◌≡◌, ◌+◌, ◌++◌, ◌≤◌, length, map}
use Rattle.std.specs.Prelude.{vec_capacity, vec_len}
use Rattle.fw_message.specs.Entries.{entry_of, keyed_image_of}
use Rattle.fw_message.specs.Headline.{EntryOf}
use Rattle.fw_message.specs.Worlds.{noted_of}
use Rattle.fw_serve.proofs.noting.note_activated.Given as goal

-- the images so far are noted, and there is room for the others
abbrev pub invariant-loop-image : goal.invariant-loop-image
invariant-loop-image l =
    (map entry_of l.history.items ≡ map entry_of l.fn.history.items ++ map (λ p. noted_of l.device (EntryOf.Activated p)) (map keyed_image_of l.yielded))
    × (vec_len l.history ≡ vec_len l.fn.history + length l.yielded) × (vec_len l.fn.history + vec_len l.fn.images ≤ vec_capacity l.history)
