-- The worlds by hand, judged.
use Rattle.std.specs.Prelude.{ℕ, ◌≡◌, ◌+◌, ◌∷◌, [], IfSome, IsSomeAnd, List, None, Some, length, map, take}
use Rattle.std.proofs.Common.{ap, arith, refl, sym, subst, inl, inr}
use Rattle.std.proofs.lemmas.Bool.Decides.{eqb_tells}
use Rattle.fw_package.specs.Package.{DescriptorOf}
use Rattle.fd_core.specs.Images.{RowOf}
use Rattle.fd_core.specs.States.{DeviceState}
use Rattle.ua_core.specs.Lent.{package_descriptor}
use Rattle.ua_core.specs.Session.{SessionOf}
use Rattle.ua_core.specs.declared.planned.Recorded.{Recorded}
use Rattle.fw_message.specs.Cases.{activates, applies, bank, boot, image, keyed_image, new_boot, old_boot, packages, recorded_component, worked_update}
use Rattle.fw_message.specs.Headline.{IsSafe, read_along}
use Rattle.fw_message.specs.Worlds.{NotedOf, noted_of}
use Rattle.fw_message.specs.WorldLaws.{history_of}
use Rattle.fw_message.proofs.Cases.{accepts, applied_before as unapplied, first_image, wrong_bytes}
use Rattle.fw_steps.specs.Moments.{IsTiedBetween, IsTiedFrom, entries_between}
use Rattle.fw_steps.specs.WorldCases.{PartsOf, SameWorlds, TiedMoments, UnfailedBanks, UnpromisedWorlds, UntiedMoments, WorldsAreJudged, after_update, half_with, site_with, world_of}
use Rattle.fw_steps.specs.Worlds.{pair_for}

-- a world of one device is tied with another if this device is
one_tied : (p : PartsOf) (rows later : List RowOf) (made more : List Recorded) (es xs : List NotedOf)
    → IsTiedFrom (record { device = (site_with p.site 9 0 rows).node.half.core.device; session = (half_with p.half 9 made).core.session; down = None; up = None })
    (record { device = (site_with p.site 9 0 later).node.half.core.device; session = (half_with p.half 9 more).core.session; down = None; up = None })
    (history_of 9 xs) (history_of 9 (entries_between (world_of p rows made es) (world_of p later more xs)))
    → IsTiedBetween (world_of p rows made es) (world_of p later more xs)
one_tied p rows later made more es xs h eid =
    elim (eqb_tells 9 eid) [
      | inl same ↦ subst (λ n. IfSome (pair_for (world_of p rows made es) n) (λ k. IsSomeAnd (pair_for (world_of p later more xs) n) (λ j. IsTiedFrom k j (history_of n xs) (history_of n (entries_between (world_of p rows made es) (world_of p later more xs)))))) same.1 h
      | inr other ↦ rw other.0 tt
    ]

tied : TiedMoments
tied = record {
  whole = λ p. one_tied p (bank old_boot None) (bank new_boot None) [] (recorded_component 1 0 ∷ []) [] (map (noted_of 9) worked_update) (record { active = refl; applied = accepts.when_activated.applied; records = refl; recorded = refl });
  first = λ p. one_tied p (bank old_boot None) (bank old_boot (Some (image new_boot))) [] (recorded_component 1 0 ∷ []) [] (map (noted_of 9) (take 2 worked_update)) (record { active = refl; applied = accepts.when_recorded.applied; records = refl; recorded = refl });
  rest = λ p. one_tied p (bank old_boot (Some (image new_boot))) (bank new_boot None) (recorded_component 1 0 ∷ []) (recorded_component 1 0 ∷ []) (map (noted_of 9) (take 2 worked_update)) (map (noted_of 9) worked_update) (record { active = refl; applied = accepts.when_activated.applied; records = refl; recorded = refl });
  same = λ p. one_tied p (bank new_boot None) (bank new_boot None) (recorded_component 1 0 ∷ []) (recorded_component 1 0 ∷ []) (map (noted_of 9) worked_update) (map (noted_of 9) worked_update) (record { active = refl; applied = accepts.when_activated.applied; records = refl; recorded = refl });
}

untied : UntiedMoments
untied = record {
  old_runs = λ p h. wrong_bytes (h 9).active;
  runs_too_soon = λ p h. wrong_bytes (sym (h 9).active);
  applied_before = λ p h. unapplied (record { active = refl; applied = (h 9).applied; records = refl });
  not_there = λ p h. absurd (let e = (h 9).recorded in cc);
  not_made = λ p h. absurd (let e = (h 9).recorded in cc);
  of_another = λ p h. wrong_bytes (sym (h 9).active);
  gone = λ p h. h 9;
}

-- the differences in a list: an identifier, the first running image of a device's bank, the number
-- of a session's records
abbrev head_or : List ℕ → ℕ
head_or [] = 0
head_or (n ∷ ns) = n

abbrev image_in : List DeviceState → List ℕ
image_in [] = []
image_in (v ∷ vs) = bytes_in v.rows
  where
    bytes_in : List RowOf → List ℕ
    bytes_in [] = []
    bytes_in (row ∷ rows) = row.active.bytes

abbrev records_in : List SessionOf → ℕ
records_in [] = 0
records_in (s ∷ ss) = length s.records

messages : SameWorlds
messages = record {
  same = λ p. record { packages = refl; agent = refl; eids = refl; devices = refl; peers = refl; sessions = refl; history = refl };
  packages = λ p h. absurd (let e = h.packages in cc);
  agent = λ p h. absurd (let e : 9 ≡ 8 = h.agent in cc);
  eid = λ p h. absurd (let e : 10 ≡ 9 = ap head_or h.eids in cc);
  device = λ p h. absurd (let e : old_boot ≡ new_boot = ap image_in h.devices in cc);
  session = λ p h. absurd (let e : 0 ≡ 1 = ap records_in h.sessions in cc);
  history = λ p h. absurd (let e : 2 ≡ 3 = ap length h.history in cc);
  none = λ p h. absurd (let e : 0 ≡ 9 = ap head_or h.eids in cc);
}

-- an image was activated that wasn't recorded, whatever the device is
unsafe : (device : List DescriptorOf) → IsSafe packages device (applies boot new_boot ∷ activates boot new_boot ∷ []) → ⊥
unfolding read_along
unsafe device h = (first_image device (keyed_image boot new_boot) [] [] [] h.activated).1.recorded

banks : UnfailedBanks
banks = record {
  same = λ p. record { unrisen = omega arith; counted = λ e. absurd (omega (arith, e)) };
  other_rose = λ p. record { unrisen = omega arith; counted = λ e. absurd (omega (arith, e)) };
  rose = λ p h. absurd (omega (arith, h.unrisen));
  last = λ p h. h.counted refl;
  second_rose = λ p h. absurd (omega (arith, h.unrisen));
}

unpromised : UnpromisedWorlds
unpromised = record {
  gone = λ p ss h. absurd (let e : 0 ≡ 1 = ap length h.devices in cc);
  unrecorded = λ p ss h. unsafe (map package_descriptor p.site.node.half.core.device.descriptors) (h.safe 9).safe;
  old_runs = λ p ss h. wrong_bytes (h.tied 9).active;
  lost = λ p ss h. absurd (let e : 0 ≡ length (after_update p).history + length (entries_between (after_update p) (world_of p (bank new_boot None) (recorded_component 1 0 ∷ []) [])) = ap length h.grown in cc);
  device_late = λ p w h. absurd (omega (arith, (h.clocks 9 refl).1));
  agent_late = λ p w h. absurd (omega (arith, (h.clocks 8 refl).1));
}

pub worlds_are_judged : WorldsAreJudged
worlds_are_judged = record { tied = tied; untied = untied; messages = messages; banks = banks; unpromised = unpromised }
