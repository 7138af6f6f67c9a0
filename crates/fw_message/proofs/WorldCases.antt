-- The worlds by hand, judged.
use Rattle.std.specs.Prelude.{ℕ, ◌≡◌, ◌∷◌, [], IfSome, IsSomeAnd, List, None, Option, Some, map, take}
use Rattle.std.proofs.Common.{ap, refl, sym, subst, inl, inr}
use Rattle.std.proofs.lemmas.Bool.Decides.{eqb_tells}
use Rattle.fd_core.specs.Images.{ImageOf, RowOf}
use Rattle.ua_core.specs.declared.planned.Recorded.{Recorded}
use Rattle.fw_message.specs.Cases.{bank, boot, image, new_boot, old_boot, recorded_component, worked_update}
use Rattle.fw_message.specs.Pairs.{PairOf}
use Rattle.fw_message.specs.RunLaws.{IsMessageWorldTiedBetween, IsPairTiedFrom, message_entries_added}
use Rattle.fw_message.specs.WorldCases.{CallsBank, CallsNoBank, NeedsMemory, NeedsNoMemory, TiedMoments, UntiedMoments, MessageWorldsAreJudged, after_update, before_activation, before_update, board_node, world_of, world_with}
use Rattle.fw_message.specs.WorldLaws.{history_of}
use Rattle.fw_message.specs.Worlds.{NotedOf, MessageWorldOf, node_at, noted_of}
use Rattle.fw_message.proofs.Cases.{wrong_bytes}

-- a world of one device is tied with another if this device is
one_tied : (m : PairOf) (rows later : List RowOf) (made more : List Recorded) (es xs : List NotedOf)
    → IsPairTiedFrom (board_node m rows made) (board_node m later more) (history_of 9 (message_entries_added (world_of m rows made es) (world_of m later more xs)))
    → IsMessageWorldTiedBetween (world_of m rows made es) (world_of m later more xs)
one_tied m rows later made more es xs h eid =
    elim (eqb_tells 9 eid) [
      | inl same ↦ subst (λ n. IfSome (node_at (world_of m rows made es).nodes n) (λ k. IsSomeAnd (node_at (world_of m later more xs).nodes n) (λ j. IsPairTiedFrom k j (history_of n (message_entries_added (world_of m rows made es) (world_of m later more xs)))))) same.1 h
      | inr other ↦ rw other.0 tt
    ]

tied : TiedMoments
tied = record {
  whole = λ m. one_tied m (bank old_boot None) (bank new_boot None) [] (recorded_component 1 0 ∷ []) [] (map (noted_of 9) worked_update) (record { active = refl; records = refl });
  first = λ m. one_tied m (bank old_boot None) (bank old_boot (Some (image new_boot))) [] (recorded_component 1 0 ∷ []) [] (map (noted_of 9) (take 2 worked_update)) (record { active = refl; records = refl });
  rest = λ m. one_tied m (bank old_boot (Some (image new_boot))) (bank new_boot None) (recorded_component 1 0 ∷ []) (recorded_component 1 0 ∷ []) (map (noted_of 9) (take 2 worked_update)) (map (noted_of 9) worked_update) (record { active = refl; records = refl });
  same = λ m. one_tied m (bank new_boot None) (bank new_boot None) (recorded_component 1 0 ∷ []) (recorded_component 1 0 ∷ []) (map (noted_of 9) worked_update) (map (noted_of 9) worked_update) (record { active = refl; records = refl });
}

untied : UntiedMoments
untied = record {
  old_runs = λ m h. wrong_bytes (h 9).active;
  runs_too_soon = λ m h. wrong_bytes (sym (h 9).active);
  not_there = λ m h. absurd (let e = (h 9).records in cc);
  not_made = λ m h. absurd (let e = (h 9).records in cc);
  of_another = λ m h. wrong_bytes (sym (h 9).active);
  gone = λ m h. h 9;
}

needing : NeedsMemory
needing = record { start = refl; activation = λ m. refl; recording = λ m. refl }

unneeding : NeedsNoMemory
unneeding = record { take = λ m. refl; untaken = refl; cancel = λ m. refl }

calling : CallsBank
calling = record { activation = λ m. refl; application = λ m. refl }

uncalling : CallsNoBank
uncalling = record {
  lacking = λ m. refl;
  idle = λ m. refl;
  status = λ m. refl;
  failing = λ m. refl;
  applied = λ m. refl;
  elsewhere = λ m. refl;
  asking = λ m. refl;
}

pub message_worlds_are_judged : MessageWorldsAreJudged
message_worlds_are_judged = record { tied = tied; untied = untied; needing = needing; unneeding = unneeding; calling = calling; uncalling = uncalling }
