-- What may be there.
use Rattle.std.specs.Prelude.{◌≡◌, Err, IsSomeAnd, Ok, Option, None, Result, Some}
use Rattle.fwupd_traces.specs.Records.{EndsRecord, NodeRecordOf}
use Rattle.fwupd_traces.specs.Traces.{EndsTrace, PacketTraceOf}
use Rattle.fwupd_traces.specs.declared.process_watch.WatchFault.{WatchFault}

-- A call leads from one thing to another, if there is a thing; none stays none.
abbrev pub Optional : {A B : Type 0} → (A → B → A → Type 0) → Option A → B → Option A → Type 0
Optional call None b t = t ≡ None
Optional call (Some s) b t = IsSomeAnd t (call s b)

-- ENDS

-- the result of an end
abbrev pub Ended : Type 0
Ended = Result (Prim.Unit {0}) WatchFault

-- An end leads from one thing to another, with a result, if there is a thing.
abbrev pub OptionalEnd : {A : Type 0} → (A → Ended → A → Type 0) → Option A → Ended → Option A → Type 0
OptionalEnd ends None result t = (t ≡ None) × (result ≡ Ok tt)
OptionalEnd ends (Some s) result t = IsSomeAnd t (ends s result)

-- the first of two faults, if there is one
abbrev pub first_fault : Ended → Ended → Ended
first_fault (Ok u) other = other
first_fault (Err e) other = Err e

-- all that observes a process
pub record WatchOf (P : Type 0) : Type 0 where
  pub trace : Option PacketTraceOf
  pub recorded : Option NodeRecordOf
  pub progress : Option P

-- Each part ends, also if another one has a fault. The result is the first fault, in the order of
-- the parts.
pub record EndsAll {P : Type 0} (ends : P → Ended → P → Type 0) (s : WatchOf P) (result : Ended) (t : WatchOf P) : Type 0 where
  pub traced : Ended
  pub recorded : Ended
  pub shown : Ended
  pub trace : OptionalEnd EndsTrace s.trace traced t.trace
  pub node : OptionalEnd EndsRecord s.recorded recorded t.recorded
  pub progress : OptionalEnd ends s.progress shown t.progress
  pub first : result ≡ first_fault traced (first_fault recorded shown)
