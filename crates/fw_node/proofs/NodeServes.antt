-- A node's answer to a firmware update request.
use Rattle.std.proofs.Common.{◌≡◌, ◌∷◌, [], ℕ, Bool, List, Result, Ok, Err, refl}
use Rattle.std.proofs.lemmas.Bool.{eq-eqb}
use Rattle.mctp_ctl.specs.declared.answers.Endpoint.{Endpoint}
use Rattle.pldm_base.specs.declared.terminus.Role.{Role}
use Rattle.pldm_exch.specs.Caller.{is_quiet}
use Rattle.pldm_exch.specs.Requests.{RequestOf, reply_message}
use Rattle.fwup_wire.specs.Values.{CommandOf}
use Rattle.fw_node.specs.Halves.{CoreOf, HalfOf, IncomingOf, half_on_incoming, read_by, reply_read, half_after_settle, takes_read}
use Rattle.fw_node.specs.Nodes.{node_outcome_of, half_after_reply}

-- a half whose core took the decoded command, and answered it
abbrev pub answered_half : {C : Type 0} → CoreOf C → HalfOf C → RequestOf → C → List ℕ → HalfOf C
answered_half core h r c reply = half_after_settle core (half_after_reply (record h { core = c }) (reply_message r.message r.head reply))

taken_read : {C : Type 0} (core : CoreOf C) (role : Role) (e : Endpoint) (tid : ℕ) (quiet works : Bool) (h : HalfOf C) (r : RequestOf) (read : Result CommandOf ℕ)
    → node_outcome_of role e tid (takes_read core quiet works h h.taker.requests r.message r.head read)
    ≡ record {
      half = answered_half core h r (reply_read core quiet works h.core read).core (reply_read core quiet works h.core read).reply;
      tid = tid;
      sent = reply_message r.message r.head (reply_read core quiet works h.core read).reply ∷ [];
    }
taken_read core role e tid quiet works h r (Ok c) = refl
taken_read core role e tid quiet works h r (Err code) = refl

pub taken : {C : Type 0} (core : CoreOf C) (role : Role) (e : Endpoint) (tid : ℕ) (works : Bool) (h : HalfOf C) (r : RequestOf) → r.head.pldm_type ≡ 5
    → node_outcome_of role e tid (half_on_incoming core works h (IncomingOf.New r))
    ≡ record {
      half = answered_half core h r (reply_read core (is_quiet h.asker.caller) works h.core (read_by core r.head.command r.body)).core (reply_read core (is_quiet h.asker.caller) works h.core (read_by core r.head.command r.body)).reply;
      tid = tid;
      sent = reply_message r.message r.head (reply_read core (is_quiet h.asker.caller) works h.core (read_by core r.head.command r.body)).reply ∷ [];
    }
taken core role e tid works h r five =
    rw (eq-eqb r.head.pldm_type 5 five) (taken_read core role e tid (is_quiet h.asker.caller) works h r (read_by core r.head.command r.body))

pub ruleset node_serves = (taken)
