-- The answers of one direction that the node that answers keeps for repeated requests: at most one
-- for each tag.
use Rattle.std.specs.Prelude.{◌≡◌, ◌≤◌, ℕ, ◌+◌, ◌==◌, nat_lt, if◌then◌else◌, List, [], ◌∷◌, length, map, replicate, get_or, slice_set, Option, Some, None, IfSome, Result, Ok, Err}
use Rattle.mctp_reasm.specs.Pieces.{MessageOf}
use Rattle.pldm_base.specs.Header.{pldm_of}
use Rattle.pldm_base.specs.declared.header.PldmFault.{PldmFault}
use Rattle.pldm_base.specs.declared.header.PldmHead.{PldmHead}
use Rattle.pldm_exch.specs.declared.answerer.Asked.{Asked}
use Rattle.pldm_exch.specs.declared.answerer.Asked.TheVariants as asks

-- an answer that is kept: the identifier of its request, the whole message, and the ticks since it
-- was given
pub record KeptAnswer : Type 0 where
  pub identifier : ℕ
  pub reply : MessageOf
  pub age : ℕ

-- whether a request is new, or its kept answer
pub data AskedOf : Type 0 where
  New : AskedOf
  Again : (answer : MessageOf) → AskedOf

-- the same for the code's type
abbrev pub asked_of : Asked → AskedOf
asked_of asks.New = AskedOf.New
asked_of (asks.Again answer) = AskedOf.Again answer.now

-- eight tags without an answer
abbrev pub none_kept : List (Option KeptAnswer)
none_kept = replicate 8 None

-- the answer that a tag keeps
abbrev pub kept_at : List (Option KeptAnswer) → ℕ → Option KeptAnswer
kept_at kept tag = get_or kept tag None

abbrev pub identifier_in : Result (PldmHead × List ℕ) PldmFault → Option ℕ
identifier_in (Ok m) = Some m.0.instance
identifier_in (Err fault) = None

-- the instance identifier of a message, if it is a PLDM message
abbrev pub identifier_of : MessageOf → Option ℕ
identifier_of m = identifier_in (pldm_of m.bytes)

-- a kept answer for a request with this identifier
abbrev pub asked_by_kept : Option KeptAnswer → Option ℕ → AskedOf
asked_by_kept (Some k) (Some identifier) = if k.identifier == identifier then AskedOf.Again k.reply else AskedOf.New
asked_by_kept _ _ = AskedOf.New

-- A request arrives: it is repeated if its tag keeps an answer with its identifier, otherwise it is
-- new.
abbrev pub asked_for : List (Option KeptAnswer) → MessageOf → AskedOf
asked_for kept m = asked_by_kept (kept_at kept m.tag) (identifier_of m)

abbrev pub kept_as : List (Option KeptAnswer) → MessageOf → Option ℕ → List (Option KeptAnswer)
kept_as kept m None = kept
kept_as kept m (Some identifier) =
    slice_set kept m.tag (Some (record { identifier = identifier; reply = m; age = 0 }))

-- An answer is kept, and replaces the one that its tag kept. A message that is no PLDM message has
-- no identifier and isn't kept.
abbrev pub kept_with : List (Option KeptAnswer) → MessageOf → List (Option KeptAnswer)
kept_with kept m = kept_as kept m (identifier_of m)

-- one tick older, or forgotten in the tick after the 24th
abbrev pub kept_tick : Option KeptAnswer → Option KeptAnswer
kept_tick None = None
kept_tick (Some k) =
    if nat_lt k.age 24 then Some (record { identifier = k.identifier; reply = k.reply; age = k.age + 1 }) else None

-- A tick: all kept answers grow older.
abbrev pub answerer_tick : List (Option KeptAnswer) → List (Option KeptAnswer)
answerer_tick kept = map kept_tick kept

-- the invariant of an answer under a tag: it has that tag and its identifier, and is at most 24
-- ticks old
pub record IsKeptAnswer (place : ℕ) (k : KeptAnswer) : Type 0 where
  pub tag : k.reply.tag ≡ place
  pub identifier : identifier_of k.reply ≡ Some k.identifier
  pub age : k.age ≤ 24

abbrev pub AreKeptFrom : ℕ → List (Option KeptAnswer) → Type 0
AreKeptFrom tag [] = Unit {0}
AreKeptFrom tag (k ∷ ks) = IfSome k (IsKeptAnswer tag) × AreKeptFrom (tag + 1) ks

-- the invariant of all kept answers: there are eight places, one for each tag
pub record AreKeptAnswers (kept : List (Option KeptAnswer)) : Type 0 where
  pub places : length kept ≡ 8
  pub each : AreKeptFrom 0 kept
