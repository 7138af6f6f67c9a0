-- The two kinds of core: the agent's session with a device, which gets the package of its number,
-- and a device.
use Rattle.std.specs.Prelude.{ℕ, false, not, List, Option, Some, None, Result, Ok, Err}
use Rattle.mctp_wire.specs.declared.unit.Unit.TheVariants.{U64}
use Rattle.fwup_wire.specs.Commands.{is_asked_of_agent}
use Rattle.fwup_wire.specs.Values.{AnswerOf}
use Rattle.fwup_wire.specs.declared.answer.Malformed.{Malformed}
use Rattle.fw_package.specs.Package.{PackageText}
use Rattle.fd_core.specs.BankCalls.{answer_calls_bank, command_calls_bank}
use Rattle.fd_core.specs.Commands.{device_take, idle_after}
use Rattle.fd_core.specs.States.{DeviceOf, DeviceState}
use Rattle.fd_core.specs.Steps.{device_restart, device_tick}
use Rattle.fd_core.specs.Wishes.{device_learn, device_wish, idle_learnt}
use Rattle.ua_core.specs.Calls.{agent_restart, agent_silent, idle_ticked}
use Rattle.ua_core.specs.Learn.{agent_learn, learn_idle}
use Rattle.ua_core.specs.Lent.{package_at}
use Rattle.ua_core.specs.Serve.{agent_after, agent_answer, agent_idle}
use Rattle.ua_core.specs.Session.{SessionOf, TimedOf}
use Rattle.ua_core.specs.Wish.{agent_wish}
use Rattle.fw_node.specs.Halves.{CoreOf}

-- a device, and the ticks since its last progress
pub record TimedDevice : Type 0 where
  pub device : DeviceState
  pub idle : ℕ

-- the device without its bank's count of failures
abbrev pub timed_device : DeviceOf → TimedDevice
timed_device d = record { device = d.device; idle = d.idle }

-- an answer, or none if it was malformed
abbrev pub answer_or : Result AnswerOf Malformed → Option AnswerOf
answer_or (Ok a) = Some a
answer_or (Err e) = None

-- A device: its answers fit each transmission unit, it answers each command that isn't asked of an
-- agent, and a request that is given up changes nothing.
abbrev pub device_core : CoreOf TimedDevice
device_core = record {
  unit = λ d. U64;
  wish = λ d. device_wish d.device;
  serves = λ command. not (is_asked_of_agent command);
  take = λ d c quiet works. record {
    core = record { device = (device_take d.device c quiet works).after; idle = idle_after d.idle d.device c quiet works };
    answer = (device_take d.device c quiet works).answer;
  };
  learn = λ d a works. record {
    device = device_learn d.device (answer_or a) works;
    idle = idle_learnt d.idle d.device (answer_or a) works;
  };
  take_calls_bank = λ d c quiet. command_calls_bank d.device c quiet;
  learn_calls_bank = λ d a. answer_calls_bank d.device (answer_or a);
  silent = λ d. d;
  ticked = λ d. record { device = (device_tick d.device d.idle).0; idle = (device_tick d.device d.idle).1 };
  restarted = λ d. record { device = device_restart d.device; idle = 0 };
}

-- the package of a session
abbrev pub package_of : List PackageText → SessionOf → PackageText
package_of packages s = package_at packages s.number

-- A session: it answers the commands that are asked of an agent, it ignores `quiet`, and it has no
-- bank.
abbrev pub session_core : List PackageText → CoreOf TimedOf
session_core packages = record {
  unit = λ s. s.session.unit;
  wish = λ s. agent_wish (package_of packages s.session) s.session;
  serves = is_asked_of_agent;
  take = λ s c quiet works. record {
    core = record {
      session = agent_after (package_of packages s.session) s.session c;
      idle = agent_idle (package_of packages s.session) s.session s.idle c;
    };
    answer = agent_answer (package_of packages s.session) s.session c;
  };
  learn = λ s a works. record {
    session = agent_learn (package_of packages s.session) s.session a;
    idle = learn_idle (package_of packages s.session) s.session s.idle a;
  };
  take_calls_bank = λ s c quiet. false;
  learn_calls_bank = λ s a. false;
  silent = λ s. record { session = agent_silent s.session; idle = 0 };
  ticked = idle_ticked;
  restarted = λ s. record { session = agent_restart s.session; idle = 0 };
}
