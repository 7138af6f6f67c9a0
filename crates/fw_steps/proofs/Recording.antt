-- The entries of the agent's records after a packet.
use Rattle.std.proofs.Common.{◌≡◌, ◌∙◌, ◌++◌, ℕ, IfSome, List, map, Option, Some, None, ap, refl, sym}
use Rattle.std.specs.Prelude.{option_to_list}
use Rattle.ua_core.specs.declared.planned.Recorded.{Recorded}
use Rattle.fw_message.specs.Headline.{EntryOf}
use Rattle.fw_message.specs.Worlds.{NotedOf, noted_of}
use Rattle.fw_node.specs.Agents.{AgentOf, half_for}
use Rattle.fw_steps.specs.Worlds.{record_count_of, record_after, recorded_from}
use Rattle.fw_steps.proofs.Noting.{append_nil}

pub noted_behind : (sender : Option ℕ) (before after : AgentOf) (entries now : List NotedOf) (made : ℕ) (recorded : Option Recorded)
    → IfSome sender (λ d. made ≡ record_count_of (half_for before d)) → IfSome sender (λ d. recorded ≡ record_after made (half_for after d))
    → IfSome sender (λ d. now ≡ entries ++ map (λ r. noted_of d (EntryOf.Recording r)) (option_to_list recorded)) → (sender ≡ None → now ≡ entries)
    → now ≡ entries ++ recorded_from before after sender
noted_behind None before after entries now made recorded had has some none = none refl ∙ sym (append_nil entries)
noted_behind (Some d) before after entries now made recorded had has some none =
    some ∙ ap (λ r. entries ++ map (λ r. noted_of d (EntryOf.Recording r)) (option_to_list r)) (has ∙ ap (λ n. record_after n (half_for after d)) had)
