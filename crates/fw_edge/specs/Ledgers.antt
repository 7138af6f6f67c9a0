-- The counts of links in a run.
use Rattle.std.specs.Prelude.{ℕ, ◌≡◌, ◌≢◌, ◌≤◌, ◌<◌, ◌+◌, ◌-◌, ◌^◌, ◌⊎◌, List, [], ◌∷◌, length, map}
use Rattle.fw_edge.specs.declared.driving.EdgeFault.{EdgeFault}
use Rattle.fw_edge.specs.declared.driving.EdgeFault.TheVariants as faults
use Rattle.fw_edge.specs.Links.{CountsOne}
use Rattle.fw_edge.specs.declared.tally.Tally.{Tally}
use Rattle.fw_steps.specs.Worlds.{SiteOf}

-- one of the failure counts was incremented, or is at its last value, and no other changed
abbrev pub OneFailed : List ℕ → List ℕ → Type 0
OneFailed (o ∷ os) (n ∷ ns) = (CountsOne o n × (ns ≡ os)) ⊎ ((n ≡ o) × OneFailed os ns)
OneFailed os ns = ⊥

-- The fault is `Frame` exactly if a link failed, once.
abbrev pub ReportsLinkFault : EdgeFault → ℕ → ℕ → Type 0
ReportsLinkFault fault old new = (fault ≡ faults.Frame → CountsOne old new) × (fault ≢ faults.Frame → new ≡ old)

-- This holds for one of the links. The counts of the links before it didn't change, and the links
-- after it are unchanged.
abbrev pub StopsAt : {A : Type 0} → EdgeFault → (A → ℕ) → List A → List A → Type 0
StopsAt fault count (o ∷ os) (n ∷ ns) = (ReportsLinkFault fault (count o) (count n) × (ns ≡ os)) ⊎ ((count n ≡ count o) × StopsAt fault count os ns)
StopsAt fault count os ns = ⊥

-- The fault is `Frame` exactly if one of the links failed, once.
abbrev pub ReportsFaultOfLinks : EdgeFault → List ℕ → List ℕ → Type 0
ReportsFaultOfLinks fault os ns = (fault ≡ faults.Frame → OneFailed os ns) × (fault ≢ faults.Frame → ns ≡ os)

-- `packets` packets were taken
pub record TakesPackets (packets : ℕ) (old new : Tally) : Type 0 where
  pub failures : new.failures ≡ old.failures
  pub sent_rise : new.sent < 2 ^ 64 - 1 → new.sent ≡ old.sent + packets
  pub asked : new.asked ≡ old.asked
  pub given : new.given ≡ old.given

-- `packets` packets were taken, and then one was refused and counted
pub record RefusesPacket (packets : ℕ) (old new : Tally) : Type 0 where
  pub failures : CountsOne old.failures new.failures
  pub sent_rise : new.sent < 2 ^ 64 - 1 → new.sent ≡ old.sent + packets
  pub asked : new.asked ≡ old.asked
  pub given : new.given ≡ old.given

-- `asked` calls asked for a frame, and `given` frames were given
pub record GivesFrames (asked given : ℕ) (old new : Tally) : Type 0 where
  pub failures : new.failures ≡ old.failures
  pub sent : new.sent ≡ old.sent
  pub asked_rise : new.asked < 2 ^ 64 - 1 → new.asked ≡ old.asked + asked
  pub given_rise : new.given < 2 ^ 64 - 1 → new.given ≡ old.given + given

-- Each count rose by `least` or more, unless it is at its last value.
abbrev pub EachCountGrows : ℕ → List ℕ → List ℕ → Type 0
EachCountGrows least [] [] = Unit {0}
EachCountGrows least (o ∷ os) (n ∷ ns) = (n < 2 ^ 64 - 1 → o + least ≤ n) × EachCountGrows least os ns
EachCountGrows least os ns = ⊥

-- no count is at its last value
abbrev pub AreBelow : List ℕ → Type 0
AreBelow [] = Unit {0}
AreBelow (n ∷ ns) = (n < 2 ^ 64 - 1) × AreBelow ns

abbrev pub total : List ℕ → ℕ
total [] = 0
total (n ∷ ns) = n + total ns

-- If no count is at its last value now, none was before, and the sum of all counts rose by `sum`.
abbrev pub CountsGrowTogether : ℕ → List ℕ → List ℕ → Type 0
CountsGrowTogether sum os ns = AreBelow ns → AreBelow os × (total ns ≡ total os + sum)

-- If no count of given frames is at its last value now, none was before. The links gave as many
-- frames as were delivered, by the deliveries `before` and `after`, plus the foreign ones.
abbrev pub AreGiven : (before after foreign : ℕ) → List ℕ → List ℕ → Type 0
AreGiven before after foreign os ns = AreBelow ns → AreBelow os × (total ns + before ≡ total os + (after + foreign))

-- the number of packets sent in each pair
abbrev pub packet_counts : List SiteOf → List ℕ
packet_counts xs = map (λ x. length x.packets) xs

-- no count decreased
abbrev pub NoCountFalls : List ℕ → List ℕ → Type 0
NoCountFalls [] [] = Unit {0}
NoCountFalls (o ∷ os) (n ∷ ns) = (o ≤ n) × NoCountFalls os ns
NoCountFalls os ns = ⊥

-- No pair's number of packets decreased. The count of packets that its link took rose by the same
-- number, unless it is at its last value.
abbrev pub AllSent : (before after : List ℕ) → List ℕ → List ℕ → Type 0
AllSent [] [] [] [] = Unit {0}
AllSent (b ∷ bs) (a ∷ cs) (o ∷ os) (n ∷ ns) = (b ≤ a) × (n < 2 ^ 64 - 1 → n ≡ o + (a - b)) × AllSent bs cs os ns
AllSent bs cs os ns = ⊥
