-- A request as it arrived, and its reply.
use Rattle.std.specs.Prelude.{ℕ, false, List, [], Result, Ok, Err}
use Rattle.mctp_reasm.specs.Pieces.{MessageOf}
use Rattle.pldm_base.specs.Header.{pldm_bytes}
use Rattle.pldm_base.specs.declared.header.PldmFault.{PldmFault}
use Rattle.pldm_base.specs.declared.header.PldmHead.{PldmHead}

-- The reply to a request: destination and source are exchanged, TO and Rq are clear, and tag,
-- identifier, type and command are the request's.
abbrev pub reply_message : MessageOf → PldmHead → List ℕ → MessageOf
reply_message m head reply =
    record {
      dest = m.source;
      source = m.dest;
      to = false;
      tag = m.tag;
      bytes = pldm_bytes (record { rq = false; instance = head.instance; pldm_type = head.pldm_type; command = head.command }) reply;
    }

-- a request as it arrived: the message, its head and its request data
pub record RequestOf : Type 0 where
  pub message : MessageOf
  pub head : PldmHead
  pub body : List ℕ

-- the body of what was read; bytes that are no PLDM message have none
abbrev pub body_in : Result (PldmHead × List ℕ) PldmFault → List ℕ
body_in (Ok r) = r.1
body_in (Err fault) = []
