-- Packets and steps by hand, to test the definition of the calls of a bank.
use Rattle.std.specs.Prelude.{ℕ, ◌≡◌, ◌∷◌, [], Bool, List, None, false, replicate, true}
use Rattle.mctp_wire.specs.declared.unit.Unit.TheVariants.{U64}
use Rattle.mctp_reasm.specs.Pieces.{MessageOf}
use Rattle.fd_core.specs.Images.{RowOf}
use Rattle.fd_core.specs.States.{Phase}
use Rattle.fd_core.specs.declared.states.Progress.TheVariants as progress
use Rattle.fd_core.specs.declared.states.Verdict.TheVariants as verdicts
use Rattle.fw_message.specs.Cases.{bank, boot, old_boot}
use Rattle.fw_message.specs.WorldCases.{all_applied, update, work}
use Rattle.fw_node.specs.BankCalls.{incoming_calls_bank}
use Rattle.fw_node.specs.Cores.{TimedDevice, device_core}
use Rattle.fw_node.specs.Halves.{HalfOf, IncomingOf}
use Rattle.fw_steps.specs.BankCalls.{step_calls_bank}
use Rattle.fw_steps.specs.StepCases.{log_request}
use Rattle.fw_steps.specs.WorldCases.{PartsOf, site_with, world_with}
use Rattle.fw_steps.specs.Worlds.{WorldOf, full_tick}
use Rattle.fw_steps.specs.declared.step.Step.TheVariants as steps

-- PACKETS

-- any half of a device with one component, in this phase and with these rows in its bank
abbrev pub half_in : PartsOf → Phase → List RowOf → HalfOf TimedDevice
half_in p phase rows =
    record p.site.node.half {
      core = record p.site.node.half.core {
        device = record p.site.node.half.core.device {
          unit = U64;
          components = record { key = boot; index = 0 } ∷ [];
          rows = rows;
          stage = [];
          phase = phase;
        };
      };
    }

abbrev pub calls : PartsOf → Phase → List RowOf → IncomingOf → Bool
calls p phase rows incoming = incoming_calls_bank device_core (half_in p phase rows) incoming

-- rows without an applied image
abbrev pub none_applied : List RowOf
none_applied = bank old_boot None

abbrev pub downloading : Phase
downloading = Phase.Download update work progress.InProgress

-- an answer to RequestFirmwareData
abbrev pub piece : List ℕ → IncomingOf
piece reply = IncomingOf.Learnt (record { command = 0x15; reply = reply })

-- a request without data, and a request with these data
abbrev pub any_message : MessageOf
any_message = record { dest = 9; source = 8; to = true; tag = 1; bytes = [] }

abbrev pub request : (pldm_type command : ℕ) → List ℕ → IncomingOf
request pldm_type command body =
    IncomingOf.New (record {
      message = any_message;
      head = record { rq = true; instance = 1; pldm_type = pldm_type; command = command };
      body = body;
    })

-- the bytes that were requested, 32 with padding; and ActivateFirmware with everything applied
pub record CallingPackets : Type 0 where
  pub bytes : (p : PartsOf) → calls p downloading none_applied (piece (0 ∷ replicate 32 7)) ≡ true
  pub activation : (p : PartsOf) → calls p (Phase.Ready update) all_applied (request 5 0x1A (1 ∷ [])) ≡ true

-- A byte too few; a refusal; bytes after all were written; and bytes in another state.
-- ActivateFirmware with nothing applied, in another state, with invalid data, or of another PLDM
-- type; another command; and no content, a repeated request or a stray message.
pub record UncallingPackets : Type 0 where
  pub too_few : (p : PartsOf) → calls p downloading none_applied (piece (0 ∷ replicate 31 7)) ≡ false
  pub refused : (p : PartsOf) → calls p downloading none_applied (piece (1 ∷ [])) ≡ false
  pub whole : (p : PartsOf) →
      calls p (Phase.Download update work progress.Succeeded) none_applied (piece (0 ∷ replicate 32 7)) ≡ false
  pub verifying : (p : PartsOf) →
      calls p (Phase.Verify update work progress.InProgress) none_applied (piece (0 ∷ replicate 32 7)) ≡ false
  pub lacking : (p : PartsOf) → calls p (Phase.Ready update) none_applied (request 5 0x1A (1 ∷ [])) ≡ false
  pub idle : (p : PartsOf) → calls p Phase.Idle all_applied (request 5 0x1A (1 ∷ [])) ≡ false
  pub malformed : (p : PartsOf) → calls p (Phase.Ready update) all_applied (request 5 0x1A (2 ∷ [])) ≡ false
  pub base : (p : PartsOf) → calls p (Phase.Ready update) all_applied (request 0 0x1A (1 ∷ [])) ≡ false
  pub status : (p : PartsOf) → calls p (Phase.Ready update) all_applied (request 5 0x1B []) ≡ false
  pub nothing : (p : PartsOf) → calls p (Phase.Ready update) all_applied IncomingOf.Nothing ≡ false
  pub again : (p : PartsOf) → calls p (Phase.Ready update) all_applied (IncomingOf.Again any_message) ≡ false
  pub stray : (p : PartsOf) → calls p (Phase.Ready update) all_applied (IncomingOf.Strays any_message) ≡ false

-- STEPS

-- a world whose device 9 is in this phase, with a packet
abbrev pub world_in : PartsOf → Phase → WorldOf
world_in p phase =
    world_with p [] (record (site_with p.site 9 0 (bank old_boot None)) {
      node = record (site_with p.site 9 0 (bank old_boot None)).node {
        half = record p.site.node.half {
          core = record p.site.node.half.core { device = record p.site.node.half.core.device { phase = phase } };
        };
      };
      packets = record { date = 0; bytes = 1 ∷ 8 ∷ 9 ∷ [] } ∷ [];
    } ∷ []) []

abbrev pub applying : PartsOf → WorldOf
applying p = world_in p (Phase.Apply update work progress.InProgress)

-- ApplyOk calls the bank if the device waits for it. No other verdict does, nor ApplyOk for an
-- image that is applied, or for another node; nor a packet at the agent, a packet that isn't there,
-- a tick, a call of the operator, a restart and a request to the log.
pub record CalledBanks : Type 0 where
  pub apply : (p : PartsOf) → step_calls_bank (applying p) (steps.Verdict 9 verdicts.ApplyOk) ≡ true
  pub apply_fails : (p : PartsOf) → step_calls_bank (applying p) (steps.Verdict 9 verdicts.ApplyFail) ≡ false
  pub applied : (p : PartsOf) →
      step_calls_bank (world_in p (Phase.Apply update work progress.Succeeded)) (steps.Verdict 9 verdicts.ApplyOk) ≡ false
  pub verify : (p : PartsOf) →
      step_calls_bank (world_in p (Phase.Verify update work progress.InProgress)) (steps.Verdict 9 verdicts.VerifyOk) ≡ false
  pub another : (p : PartsOf) → step_calls_bank (applying p) (steps.Verdict 10 verdicts.ApplyOk) ≡ false
  pub at_agent : (p : PartsOf) → step_calls_bank (applying p) (steps.Deliver 9 1 8) ≡ false
  pub no_packet : (p : PartsOf) → step_calls_bank (applying p) (steps.Deliver 9 2 9) ≡ false
  pub tick : (p : PartsOf) → step_calls_bank (applying p) full_tick ≡ false
  pub activate : (p : PartsOf) → step_calls_bank (applying p) (steps.Activate 9) ≡ false
  pub restart : (p : PartsOf) → step_calls_bank (applying p) (steps.Restart 9) ≡ false
  pub log : (p : PartsOf) → step_calls_bank (applying p) log_request ≡ false
