-- The packets that a front never answers. A packet reads as a head and a message.
use Rattle.std.specs.Prelude.{◌≡◌, ◌≢◌, ℕ, ◌==◌, ◌&&◌, false, List, None, Ok}
use Rattle.mctp_wire.specs.declared.layout.Head.{Head}
use Rattle.mctp_wire.specs.declared.unit.Unit.{«Unit»}
use Rattle.mctp_wire.specs.Packet.{packet_of}
use Rattle.mctp_ctl.specs.declared.answers.Endpoint.{Endpoint}
use Rattle.pldm_base.specs.declared.header.PldmHead.{PldmHead}
use Rattle.pldm_base.specs.Header.{pldm_of}
use Rattle.mctp_front.specs.Front.{front_of}

-- A packet to neither the own nor the null identifier passes, such as a broadcast (255).
abbrev pub PassesOthers : Type 0
PassesOthers = (u : «Unit») (e : Endpoint) (bytes : List ℕ) (h : Head) (message : List ℕ)
    → packet_of u bytes ≡ Ok (h, message) → h.dest ≢ e.eid → h.dest ≢ 0 → front_of u e bytes ≡ None

-- A packet of a longer message and an answer pass: SOM, EOM or TO is clear.
abbrev pub PassesParts : Type 0
PassesParts = (u : «Unit») (e : Endpoint) (bytes : List ℕ) (h : Head) (message : List ℕ)
    → packet_of u bytes ≡ Ok (h, message) → (h.som && (h.eom && h.to)) ≡ false → front_of u e bytes ≡ None

-- A PLDM message of another type than base (0) passes, such as firmware update (5), and an answer
-- passes.
abbrev pub PassesUpdates : Type 0
PassesUpdates = (u : «Unit») (e : Endpoint) (bytes : List ℕ) (h : Head) (message : List ℕ) (p : PldmHead) (fields : List ℕ)
    → packet_of u bytes ≡ Ok (h, message) → pldm_of message ≡ Ok (p, fields) → (p.rq && (p.pldm_type == 0)) ≡ false
    → front_of u e bytes ≡ None
