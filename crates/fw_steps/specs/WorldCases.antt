-- Worlds by hand, to test four definitions: two tied moments, the same world over whole messages, a
-- bank that didn't fail, and what is promised of a run.
use Rattle.std.specs.Prelude.{ℕ, ◌-◌, ◌^◌, ◌∷◌, [], List, None, Some, map, take}
use Rattle.fd_core.specs.Images.{RowOf}
use Rattle.fd_core.specs.States.{Phase}
use Rattle.ua_core.specs.Session.{TimedOf}
use Rattle.ua_core.specs.declared.planned.Recorded.{Recorded}
use Rattle.fw_message.specs.Cases.{activates, applies, bank, boot, image, new_boot, old_boot, packages, recorded_component, worked_update}
use Rattle.fw_message.specs.Worlds.{NodeOf, NotedOf, MessageWorldOf as MessageWorldOf, noted_of}
use Rattle.fw_node.specs.Halves.{HalfOf}
use Rattle.fw_steps.specs.Isolation.{IsUnfailed}
use Rattle.fw_steps.specs.Messages.{IsSameWorld}
use Rattle.fw_steps.specs.Moments.{IsTiedBetween}
use Rattle.fw_steps.specs.Promises.{IsPromisedSince}
use Rattle.fw_steps.specs.StepCases.{missed_by, with_agent}
use Rattle.fw_steps.specs.Worlds.{SiteOf, WorldOf}
use Rattle.fw_steps.specs.declared.step.Step.{Step}

-- any parts of a world
pub record PartsOf : Type 0 where
  pub world : WorldOf
  pub site : SiteOf
  pub half : HalfOf TimedOf

-- a device's node with this identifier, whose bank has these images and this count of failures
abbrev pub site_with : SiteOf → (eid faults : ℕ) → List RowOf → SiteOf
site_with x eid faults rows =
    record x {
      node = record x.node {
        endpoint = record x.node.endpoint { eid = eid };
        half = record x.node.half {
          core = record x.node.half.core { device = record x.node.half.core.device { rows = rows; phase = Phase.Idle } };
        };
        faults = faults;
      };
    }

-- the agent's half for a device, whose session has these records
abbrev pub half_with : HalfOf TimedOf → (peer : ℕ) → List Recorded → HalfOf TimedOf
half_with h peer made = record h { peer = peer; core = record h.core { session = record h.core.session { records = made } } }

-- a world of agent 8, with these nodes and this history
abbrev pub world_with : PartsOf → List (HalfOf TimedOf) → List SiteOf → List NotedOf → WorldOf
world_with p halves sites history =
    record (with_agent p.world 8) {
      packages = packages;
      agent = record (with_agent p.world 8).agent { halves = halves };
      sites = sites;
      history = history;
    }

-- the same with only device 9
abbrev pub world_of : PartsOf → List RowOf → List Recorded → List NotedOf → WorldOf
world_of p rows made history = world_with p (half_with p.half 9 made ∷ []) (site_with p.site 9 0 rows ∷ []) history

-- TWO MOMENTS

-- the worlds of the worked update: before it, before its activation, and after it
abbrev pub before_update : PartsOf → WorldOf
before_update p = world_of p (bank old_boot None) [] []

abbrev pub before_activation : PartsOf → WorldOf
before_activation p = world_of p (bank old_boot (Some (image new_boot))) (recorded_component 1 0 ∷ []) (map (noted_of 9) (take 2 worked_update))

abbrev pub after_update : PartsOf → WorldOf
after_update p = world_of p (bank new_boot None) (recorded_component 1 0 ∷ []) (map (noted_of 9) worked_update)

-- any two of these worlds are tied, in order, and each with itself
pub record TiedMoments : Type 0 where
  pub whole : (p : PartsOf) → IsTiedBetween (before_update p) (after_update p)
  pub first : (p : PartsOf) → IsTiedBetween (before_update p) (before_activation p)
  pub rest : (p : PartsOf) → IsTiedBetween (before_activation p) (after_update p)
  pub same : (p : PartsOf) → IsTiedBetween (after_update p) (after_update p)

-- Worlds that aren't tied: the old image still runs, an image runs that wasn't activated since, an
-- applied image is of before the activation, a record is missing, a record wasn't made since, the
-- activation was of another device, or a device is gone.
pub record UntiedMoments : Type 0 where
  pub old_runs : (p : PartsOf) →
      IsTiedBetween (before_update p) (world_of p (bank old_boot None) (recorded_component 1 0 ∷ []) (map (noted_of 9) worked_update)) → ⊥
  pub runs_too_soon : (p : PartsOf) →
      IsTiedBetween (before_update p) (world_of p (bank new_boot None) (recorded_component 1 0 ∷ []) (map (noted_of 9) (take 2 worked_update))) → ⊥
  pub applied_before : (p : PartsOf) →
      IsTiedBetween (before_update p)
      (world_of p (bank new_boot (Some (image new_boot))) (recorded_component 1 0 ∷ []) (map (noted_of 9) worked_update)) → ⊥
  pub not_there : (p : PartsOf) →
      IsTiedBetween (before_update p) (world_of p (bank new_boot None) [] (map (noted_of 9) worked_update)) → ⊥
  pub not_made : (p : PartsOf) →
      IsTiedBetween (after_update p)
      (world_of p (bank new_boot None) (recorded_component 1 0 ∷ recorded_component 1 0 ∷ []) (map (noted_of 9) worked_update)) → ⊥
  pub of_another : (p : PartsOf) →
      IsTiedBetween (before_update p) (world_of p (bank new_boot None) [] (noted_of 10 (activates boot new_boot) ∷ [])) → ⊥
  pub gone : (p : PartsOf) → IsTiedBetween (before_update p) (world_with p [] [] []) → ⊥

-- THE SAME WORLD OVER WHOLE MESSAGES

-- the device of a world by hand, and the agent's session for it, in a world of messages
abbrev pub message_node : PartsOf → (eid : ℕ) → List RowOf → List Recorded → NodeOf
message_node p eid rows made =
    record {
      eid = eid;
      pair = record {
        device = (site_with p.site 9 0 rows).node.half.core.device;
        session = (half_with p.half 9 made).core.session;
        down = None;
        up = None;
      };
    }

abbrev pub messages_of : (agent : ℕ) → List NodeOf → List NotedOf → MessageWorldOf
messages_of agent nodes history = record { agent = agent; packages = packages; nodes = nodes; history = history }

abbrev pub message_world : PartsOf → MessageWorldOf
message_world p = messages_of 8 (message_node p 9 (bank new_boot None) (recorded_component 1 0 ∷ []) ∷ []) (map (noted_of 9) worked_update)

-- the same world, and worlds that differ from it in the packages, the agent, an identifier, a
-- device, a session, the history, or the number of devices
pub record SameWorlds : Type 0 where
  pub same : (p : PartsOf) → IsSameWorld (after_update p) (message_world p)
  pub packages : (p : PartsOf) → IsSameWorld (after_update p) (record (message_world p) { packages = [] }) → ⊥
  pub agent : (p : PartsOf) → IsSameWorld (after_update p) (record (message_world p) { agent = 9 }) → ⊥
  pub eid : (p : PartsOf) →
      IsSameWorld (after_update p)
      (record (message_world p) { nodes = message_node p 10 (bank new_boot None) (recorded_component 1 0 ∷ []) ∷ [] }) → ⊥
  pub device : (p : PartsOf) →
      IsSameWorld (after_update p)
      (record (message_world p) { nodes = message_node p 9 (bank old_boot None) (recorded_component 1 0 ∷ []) ∷ [] }) → ⊥
  pub session : (p : PartsOf) →
      IsSameWorld (after_update p) (record (message_world p) { nodes = message_node p 9 (bank new_boot None) [] ∷ [] }) → ⊥
  pub history : (p : PartsOf) →
      IsSameWorld (after_update p) (record (message_world p) { history = map (noted_of 9) (take 2 worked_update) }) → ⊥
  pub none : (p : PartsOf) → IsSameWorld (after_update p) (record (message_world p) { nodes = [] }) → ⊥

-- A BANK THAT DIDN'T FAIL

-- devices 9 and 10, whose banks have these counts of failures
abbrev pub banks_failed : PartsOf → (first second : ℕ) → WorldOf
banks_failed p first second = world_with p [] (site_with p.site 9 first [] ∷ site_with p.site 10 second [] ∷ []) []

-- Only the count of the device's own bank matters, and it may not be at its last value.
pub record UnfailedBanks : Type 0 where
  pub same : (p : PartsOf) → IsUnfailed 9 (banks_failed p 3 0) (banks_failed p 3 0)
  pub other_rose : (p : PartsOf) → IsUnfailed 9 (banks_failed p 3 0) (banks_failed p 3 1)
  pub rose : (p : PartsOf) → IsUnfailed 9 (banks_failed p 3 0) (banks_failed p 4 0) → ⊥
  pub last : (p : PartsOf) → IsUnfailed 9 (banks_failed p (2 ^ 64 - 1) 0) (banks_failed p (2 ^ 64 - 1) 0) → ⊥
  pub second_rose : (p : PartsOf) → IsUnfailed 10 (banks_failed p 3 0) (banks_failed p 3 1) → ⊥

-- WHAT IS PROMISED

-- What is promised since a world, by whatever steps, doesn't hold where a device is gone, an image
-- was activated that wasn't recorded, the old image still runs, or an entry of the history is lost;
-- nor, of whatever world, where a device missed two ticks in a row, or the agent did.
pub record UnpromisedWorlds : Type 0 where
  pub gone : (p : PartsOf) (ss : List Step) → IsPromisedSince (before_update p) ss (world_with p [] [] []) → ⊥
  pub unrecorded : (p : PartsOf) (ss : List Step) →
      IsPromisedSince (before_update p) ss
      (world_of p (bank new_boot None) [] (map (noted_of 9) (applies boot new_boot ∷ activates boot new_boot ∷ []))) → ⊥
  pub old_runs : (p : PartsOf) (ss : List Step) →
      IsPromisedSince (before_update p) ss (world_of p (bank old_boot None) (recorded_component 1 0 ∷ []) (map (noted_of 9) worked_update)) → ⊥
  pub lost : (p : PartsOf) (ss : List Step) →
      IsPromisedSince (after_update p) ss (world_of p (bank new_boot None) (recorded_component 1 0 ∷ []) []) → ⊥
  pub device_late : (p : PartsOf) (w : WorldOf) → IsPromisedSince (before_update p) (missed_by (9 ∷ []) ∷ missed_by (9 ∷ []) ∷ []) w → ⊥
  pub agent_late : (p : PartsOf) (w : WorldOf) → IsPromisedSince (before_update p) (missed_by (8 ∷ []) ∷ missed_by (8 ∷ []) ∷ []) w → ⊥

-- The definitions accept and refuse as they should.
pub record WorldsAreJudged : Type 0 where
  pub tied : TiedMoments
  pub untied : UntiedMoments
  pub messages : SameWorlds
  pub banks : UnfailedBanks
  pub unpromised : UnpromisedWorlds
