use Rattle.std.proofs.Common.{◌≡◌, ℕ, [], All, None, take}
use Rattle.fwupd_words.specs.Words.{IsByte, is_named}
use Rattle.fwupd_words.proofs.Devices.{is_number_behind}
use Rattle.fwupd_words.proofs.choosing.devices_among.Given as goal

-- the set of the texts so far
abbrev pub invariant-loop-text : goal.invariant-loop-text
invariant-loop-text l =
    (l.texts ≡ [] → l.devices ≡ None)
    × (All (λ t. IsByte t.now) l.texts → (eid : ℕ) → is_named l.devices eid ≡ is_number_behind (take l.text-index l.texts) eid)
