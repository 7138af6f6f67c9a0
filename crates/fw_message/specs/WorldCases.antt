-- Worlds by hand, to test the definitions of two tied moments, of a step that needs memory and of a
-- step that calls a bank.
use Rattle.std.specs.Prelude.{◌≡◌, ◌∷◌, [], List, None, Option, Some, false, map, take, true}
use Rattle.fwup_wire.specs.Values.{CommandOf}
use Rattle.fd_core.specs.Images.{RowOf}
use Rattle.fd_core.specs.States.{Phase, UpdateOf, WorkOf}
use Rattle.fd_core.specs.declared.states.Progress.TheVariants as progress
use Rattle.fd_core.specs.declared.states.Verdict.TheVariants as verdicts
use Rattle.ua_core.specs.declared.planned.Recorded.{Recorded}
use Rattle.fw_message.specs.BankCalls.{message_step_calls_bank}
use Rattle.fw_message.specs.Cases.{activates, bank, boot, image, new_boot, old_boot, packages, recorded_component, records, worked_update}
use Rattle.fw_message.specs.Headline.{EntryOf}
use Rattle.fw_message.specs.Pairs.{PairOf, Stepped, step_without_entries}
use Rattle.fw_message.specs.RunLaws.{IsMessageWorldTiedBetween}
use Rattle.fw_message.specs.Worlds.{NodeOf, NotedOf, MessageWorldOf, needs_memory, noted_of}
use Rattle.fw_message.specs.declared.side.Way.TheVariants as ways
use Rattle.fw_message.specs.declared.step.MessageStep.TheVariants as steps

-- TWO MOMENTS

-- any pair, with these images in the bank and these records
abbrev pub pair_with : PairOf → List RowOf → List Recorded → PairOf
pair_with m rows made = record m { device = record m.device { rows = rows }; session = record m.session { records = made } }

-- device 9 of agent 8
abbrev pub board_node : PairOf → List RowOf → List Recorded → NodeOf
board_node m rows made = record { eid = 9; pair = pair_with m rows made }

abbrev pub world_with : List NodeOf → List NotedOf → MessageWorldOf
world_with nodes history = record { agent = 8; packages = packages; nodes = nodes; history = history }

abbrev pub world_of : PairOf → List RowOf → List Recorded → List NotedOf → MessageWorldOf
world_of m rows made history = world_with (board_node m rows made ∷ []) history

-- the worlds of the worked update: before it, before its activation, and after it
abbrev pub before_update : PairOf → MessageWorldOf
before_update m = world_of m (bank old_boot None) [] []

abbrev pub before_activation : PairOf → MessageWorldOf
before_activation m =
    world_of m (bank old_boot (Some (image new_boot))) (recorded_component 1 0 ∷ []) (map (noted_of 9) (take 2 worked_update))

abbrev pub after_update : PairOf → MessageWorldOf
after_update m = world_of m (bank new_boot None) (recorded_component 1 0 ∷ []) (map (noted_of 9) worked_update)

-- any two of these worlds are tied, in order, and each with itself
pub record TiedMoments : Type 0 where
  pub whole : (m : PairOf) → IsMessageWorldTiedBetween (before_update m) (after_update m)
  pub first : (m : PairOf) → IsMessageWorldTiedBetween (before_update m) (before_activation m)
  pub rest : (m : PairOf) → IsMessageWorldTiedBetween (before_activation m) (after_update m)
  pub same : (m : PairOf) → IsMessageWorldTiedBetween (after_update m) (after_update m)

-- Worlds that aren't tied: the old image still runs, an image runs that wasn't activated since, a
-- record is missing, a record wasn't made since, the activation was of another device, or a device
-- is gone.
pub record UntiedMoments : Type 0 where
  pub old_runs : (m : PairOf) →
      IsMessageWorldTiedBetween (before_update m) (world_of m (bank old_boot None) (recorded_component 1 0 ∷ []) (map (noted_of 9) worked_update)) → ⊥
  pub runs_too_soon : (m : PairOf) →
      IsMessageWorldTiedBetween (before_update m) (world_of m (bank new_boot None) (recorded_component 1 0 ∷ []) (map (noted_of 9) (take 2 worked_update))) → ⊥
  pub not_there : (m : PairOf) →
      IsMessageWorldTiedBetween (before_update m) (world_of m (bank new_boot None) [] (map (noted_of 9) worked_update)) → ⊥
  pub not_made : (m : PairOf) →
      IsMessageWorldTiedBetween (after_update m)
      (world_of m (bank new_boot None) (recorded_component 1 0 ∷ recorded_component 1 0 ∷ []) (map (noted_of 9) worked_update)) → ⊥
  pub of_another : (m : PairOf) →
      IsMessageWorldTiedBetween (before_update m) (world_of m (bank new_boot None) [] (noted_of 10 (activates boot new_boot) ∷ [])) → ⊥
  pub gone : (m : PairOf) → IsMessageWorldTiedBetween (before_update m) (world_with [] []) → ⊥

-- STEPS THAT NEED MEMORY

-- a step that adds these entries to the history
abbrev pub adding : PairOf → List EntryOf → Option Stepped
adding m es = Some (record { after = m; noted = es })

pub record NeedsMemory : Type 0 where
  pub start : needs_memory (steps.Start 9 1) None ≡ true
  pub activation : (m : PairOf) →
      needs_memory (steps.Take 9 ways.Down true) (adding m (activates boot new_boot ∷ [])) ≡ true
  pub recording : (m : PairOf) → needs_memory (steps.Take 9 ways.Up false) (adding m (records 1 0 ∷ [])) ≡ true

pub record NeedsNoMemory : Type 0 where
  pub take : (m : PairOf) → needs_memory (steps.Take 9 ways.Down true) (Some (step_without_entries m)) ≡ false
  pub untaken : needs_memory (steps.Take 9 ways.Down true) None ≡ false
  pub cancel : (m : PairOf) → needs_memory (steps.Cancel 9) (Some (step_without_entries m)) ≡ false

-- STEPS THAT CALL A BANK

-- a world whose device is in this phase, with these rows in its bank, and with this command of the
-- agent in its cell
abbrev pub world_in : PairOf → Phase → List RowOf → CommandOf → MessageWorldOf
world_in m phase rows command =
    world_with (record {
      eid = 9;
      pair = record m {
        device = record m.device { phase = phase; rows = rows; components = record { key = boot; index = 0 } ∷ [] };
        down = Some (record { command = command; reply = None; live = true });
      };
    } ∷ []) []

abbrev pub update : UpdateOf
update = record { transfer_size = 32; components = 1; table = record { key = boot; code = 0 } ∷ [] }

abbrev pub work : WorkOf
work = record { key = boot; size = 3; label = record { stamp = 2; text_type = 1; text = [] }; force = false }

-- a bank with the image applied
abbrev pub all_applied : List RowOf
all_applied = bank old_boot (Some (image new_boot))

-- ActivateFirmware with everything applied, and ApplyOk for an image that is written
pub record CallsBank : Type 0 where
  pub activation : (m : PairOf) →
      message_step_calls_bank (world_in m (Phase.Ready update) all_applied (CommandOf.ActivateFirmware true))
      (steps.Take 9 ways.Down true) ≡ true
  pub application : (m : PairOf) →
      message_step_calls_bank (world_in m (Phase.Apply update work progress.InProgress) (bank old_boot None) CommandOf.GetStatus)
      (steps.Verdict 9 verdicts.ApplyOk) ≡ true

-- ActivateFirmware with nothing applied, or in another state; another command; another verdict, or
-- ApplyOk for an image that is applied already; the verdict of another node; and a step that is no
-- Take.
pub record CallsNoBank : Type 0 where
  pub lacking : (m : PairOf) →
      message_step_calls_bank (world_in m (Phase.Ready update) (bank old_boot None) (CommandOf.ActivateFirmware true))
      (steps.Take 9 ways.Down true) ≡ false
  pub idle : (m : PairOf) →
      message_step_calls_bank (world_in m Phase.Idle all_applied (CommandOf.ActivateFirmware true))
      (steps.Take 9 ways.Down true) ≡ false
  pub status : (m : PairOf) →
      message_step_calls_bank (world_in m (Phase.Ready update) all_applied CommandOf.GetStatus)
      (steps.Take 9 ways.Down true) ≡ false
  pub failing : (m : PairOf) →
      message_step_calls_bank (world_in m (Phase.Apply update work progress.InProgress) (bank old_boot None) CommandOf.GetStatus)
      (steps.Verdict 9 verdicts.ApplyFail) ≡ false
  pub applied : (m : PairOf) →
      message_step_calls_bank (world_in m (Phase.Apply update work progress.Succeeded) (bank old_boot None) CommandOf.GetStatus)
      (steps.Verdict 9 verdicts.ApplyOk) ≡ false
  pub elsewhere : (m : PairOf) →
      message_step_calls_bank (world_in m (Phase.Apply update work progress.InProgress) (bank old_boot None) CommandOf.GetStatus)
      (steps.Verdict 10 verdicts.ApplyOk) ≡ false
  pub asking : (m : PairOf) →
      message_step_calls_bank (world_in m (Phase.Ready update) all_applied (CommandOf.ActivateFirmware true))
      (steps.Ask 9 ways.Down) ≡ false

-- The definitions accept and refuse as they should.
pub record MessageWorldsAreJudged : Type 0 where
  pub tied : TiedMoments
  pub untied : UntiedMoments
  pub needing : NeedsMemory
  pub unneeding : NeedsNoMemory
  pub calling : CallsBank
  pub uncalling : CallsNoBank
