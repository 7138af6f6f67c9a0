-- The calls of a bank, judged by hand.
use Rattle.std.proofs.Common.{refl}
use Rattle.fw_steps.specs.CallCases.{CalledBanks, CallingPackets, UncallingPackets}

pub calling_packets : CallingPackets
calling_packets = record { bytes = λ p. refl; activation = λ p. refl }

pub uncalling_packets : UncallingPackets
uncalling_packets = record {
  too_few = λ p. refl;
  refused = λ p. refl;
  whole = λ p. refl;
  verifying = λ p. refl;
  lacking = λ p. refl;
  idle = λ p. refl;
  malformed = λ p. refl;
  base = λ p. refl;
  status = λ p. refl;
  nothing = λ p. refl;
  again = λ p. refl;
  stray = λ p. refl;
}

pub called_banks : CalledBanks
called_banks = record {
  apply = λ p. refl;
  apply_fails = λ p. refl;
  applied = λ p. refl;
  verify = λ p. refl;
  another = λ p. refl;
  at_agent = λ p. refl;
  no_packet = λ p. refl;
  tick = λ p. refl;
  activate = λ p. refl;
  restart = λ p. refl;
  log = λ p. refl;
}
