-- The PLDM message grammar (DSP0240, "PLDM message fields"), as it is carried over MCTP (DSP0241):
-- the message type, three bytes of header and a body.
use Rattle.std.specs.Prelude.{◌%◌, ◌*◌, ◌+◌, ◌/◌, ◌<◌, ◌==◌, ◌∷◌, ◌≡◌, ◌≢◌, ◌≤◌, Bool, Err, List, Ok, Result, false, if◌then◌else◌, length, not, slice_index, true, ℕ}
use Rattle.pldm_base.specs.declared.header.PldmFault.{PldmFault}
use Rattle.pldm_base.specs.declared.header.PldmFault.TheVariants.{Datagram, HeaderVersion, NotPldm, Short}
use Rattle.pldm_base.specs.declared.header.PldmHead.{PldmHead}
use Rattle.pldm_base.specs.declared.header.TheConstants.{HEADER_SIZE}

-- a truth value as a bit
abbrev pub bit : Bool → ℕ
bit true = 1
bit false = 0

-- the ranges of a head's small fields: five bits of instance identifier, six bits of PLDM type
abbrev pub IsPldmHead : PldmHead → Type 0
IsPldmHead h = (h.instance ≤ 31) × (h.pldm_type ≤ 63)

-- The bytes are a PLDM message with this head and body. The first byte is the message type of PLDM.
-- The second holds Rq in bit 7, D in bit 6, which is clear, a reserved bit with any value, and the
-- instance identifier. The third holds the header version in bits 7 and 6, which is 0, and the PLDM
-- type.
abbrev pub IsPldm : List ℕ → PldmHead → List ℕ → Type 0
IsPldm (kind ∷ flags ∷ version_and_type ∷ command ∷ rest) h body =
    (kind ≡ 1)
    × (flags / 128 ≡ bit h.rq) × (flags / 64 % 2 ≡ 0) × (flags % 32 ≡ h.instance)
    × (version_and_type / 64 ≡ 0) × (version_and_type % 64 ≡ h.pldm_type)
    × (command ≡ h.command) × (rest ≡ body)
IsPldm _ h body = ⊥

-- the result of reading: the head and the body of a PLDM message, or the first fault
abbrev pub pldm_of : List ℕ → Result (PldmHead × List ℕ) PldmFault
pldm_of (kind ∷ flags ∷ version_and_type ∷ command ∷ body) =
    if not (kind == 1) then Err NotPldm
    else if flags / 64 % 2 == 1 then Err Datagram
    else if not (version_and_type / 64 == 0) then Err HeaderVersion
    else Ok (
      record {
        rq = flags / 128 == 1;
        instance = flags % 32;
        pldm_type = version_and_type % 64;
        command = command;
      },
      body,
    )
pldm_of _ = Err Short

-- the first fault of bytes that are no PLDM message: none before it holds, and it does
abbrev pub IsFirstPldmFault : List ℕ → PldmFault → Type 0
IsFirstPldmFault bytes Short = length bytes < HEADER_SIZE
IsFirstPldmFault bytes NotPldm = (HEADER_SIZE ≤ length bytes) × (slice_index bytes 0 ≢ 1)
IsFirstPldmFault bytes Datagram =
    (HEADER_SIZE ≤ length bytes) × (slice_index bytes 0 ≡ 1) × (slice_index bytes 1 / 64 % 2 ≡ 1)
IsFirstPldmFault bytes HeaderVersion =
    (HEADER_SIZE ≤ length bytes) × (slice_index bytes 0 ≡ 1) × (slice_index bytes 1 / 64 % 2 ≡ 0)
    × (slice_index bytes 2 / 64 ≢ 0)

-- the encoded form, whose reserved bit is 0
abbrev pub pldm_bytes : PldmHead → List ℕ → List ℕ
pldm_bytes h body = 1 ∷ (128 * bit h.rq + h.instance) ∷ h.pldm_type ∷ h.command ∷ body

-- an encoded message is a PLDM message with that head and that body
abbrev pub WritesMessages : Type 0
WritesMessages = (h : PldmHead) (body : List ℕ) → IsPldmHead h → IsPldm (pldm_bytes h body) h body

-- bytes are a PLDM message with at most one head and body, which reading returns
abbrev pub ReadsMessages : Type 0
ReadsMessages = (bytes : List ℕ) (h : PldmHead) (body : List ℕ) → IsPldm bytes h body → pldm_of bytes ≡ Ok (h, body)
