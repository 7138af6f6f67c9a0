-- A node as a process of its own. It counts the units of a clock that all processes of a machine
-- share. What it does is a function of the units that the clock showed it, and of the packets that
-- came over its line, each with a stamp: the unit in which it was sent.
use Rattle.std.specs.Prelude.{ℕ, suc, zero, ◌≡◌, ◌≤◌, ◌+◌, ◌-◌, ◌^◌, ◌++◌, ◌∷◌, [], length, map, nat_le, if◌then◌else◌, List, Option, Some, None}
use Rattle.std.specs.List.{AllByRecursion}
use Rattle.std.specs.Option.{option_map}
use Rattle.exch_lane.specs.Lanes.{Sent}
use Rattle.exch_lane.specs.Steps.{sent_at}

-- DEEDS

-- A deed of a process. It receives a packet, or drops it. Or it turns: it does what is due at the
-- end of its unit, and begins the next unit with a tick. Or it misses this number of units: it
-- restarts, and goes on after them.
pub data Deed : Type 0 where
  Receives : (packet : Sent) → Deed
  Drops : (packet : Sent) → Deed
  Turns : Deed
  Misses : (units : ℕ) → Deed

-- the unit after a deed, and after deeds
abbrev pub unit_after_deed : ℕ → Deed → ℕ
unit_after_deed unit Deed.Turns = unit + 1
unit_after_deed unit (Deed.Misses units) = unit + units
unit_after_deed unit d = unit

abbrev pub unit_after_deeds : ℕ → List Deed → ℕ
unit_after_deeds unit [] = unit
unit_after_deeds unit (d ∷ ds) = unit_after_deeds (unit_after_deed unit d) ds

-- THE RULES

-- A process counts every unit. If it is behind by at most 40 units, it turns once for each. If it
-- is behind by more, its peers have given it up: it misses them.
abbrev pub turns : (units : ℕ) → List Deed
turns zero = []
turns (suc units) = Deed.Turns ∷ turns units

abbrev pub deeds_behind : (units : ℕ) → List Deed
deeds_behind units = if nat_le units 40 then turns units else Deed.Misses units ∷ []

-- from a unit to another; nothing, if it is there
abbrev pub deeds_to : (unit to : ℕ) → List Deed
deeds_to unit to = deeds_behind (to - unit)

-- A packet is received in the unit of its stamp or in one of the 8 after it.
abbrev pub deed_with : (unit : ℕ) → Sent → Deed
deed_with unit p = if nat_le (unit - p.date) 8 then Deed.Receives p else Deed.Drops p

-- A packet that came. A process receives nothing before its own unit is that of the stamp: it goes
-- on to it first. A stamp that is more than 2^20 units ahead isn't followed: the packet is dropped.
abbrev pub deeds_for : (unit : ℕ) → Sent → List Deed
deeds_for unit p =
    if nat_le p.date (unit + 2 ^ 20) then deeds_to unit p.date ++ deed_with (unit_after_deeds unit (deeds_to unit p.date)) p ∷ [] else Deed.Drops p ∷ []

-- packets that came, in order
abbrev pub deeds_for_all : (unit : ℕ) → List Sent → List Deed
deeds_for_all unit [] = []
deeds_for_all unit (p ∷ ps) = deeds_for unit p ++ deeds_for_all (unit_after_deeds unit (deeds_for unit p)) ps

-- A round: the clock shows a unit, and then packets come.
pub record RoundOf : Type 0 where
  pub shown : ℕ
  pub came : List Sent

abbrev pub round_deeds : (unit : ℕ) → RoundOf → List Deed
round_deeds unit r = deeds_to unit r.shown ++ deeds_for_all (unit_after_deeds unit (deeds_to unit r.shown)) r.came

abbrev pub rounds_deeds : (unit : ℕ) → List RoundOf → List Deed
rounds_deeds unit [] = []
rounds_deeds unit (r ∷ rs) = round_deeds unit r ++ rounds_deeds (unit_after_deeds unit (round_deeds unit r)) rs

-- PROCESSES

-- `does s d t sent`: a process `s` does a deed, is `t` afterwards, and sends packets. A packet that
-- is dropped does nothing.
abbrev pub Does : {P : Type 0} → (does : P → Deed → P → List Sent → Type 0) → P → Deed → P → (sent : List Sent) → Type 0
Does does s (Deed.Drops p) t sent = (t ≡ s) × (sent ≡ [])
Does does s d t sent = does s d t sent

-- deeds, one after another
abbrev pub DoesAll : {P : Type 0} → (does : P → Deed → P → List Sent → Type 0) → P → List Deed → P → (sent : List Sent) → Type 0
DoesAll does s [] t sent = (t ≡ s) × (sent ≡ [])
DoesAll {P} does s (d ∷ ds) t sent =
    (mid : P) × (first : List Sent) × (rest : List Sent) × Does does s d mid first × DoesAll does mid ds t rest × (sent ≡ first ++ rest)

-- THE LINE

-- What a process does with its line besides sending: it begins a round in a unit, takes a packet
-- that came, or finds that none is left.
pub data LineCall : Type 0 where
  Begins : (unit : ℕ) → LineCall
  Takes : (packet : Sent) → LineCall
  FindsNone : LineCall

-- All such calls of a line, and all packets that were sent over it, if the line knows them. What is
-- sent may be lost.
pub record LineOf : Type 0 where
  pub calls : Option (List LineCall)
  pub sent : Option (List Sent)

abbrev pub none_known : LineOf
none_known = record { calls = None; sent = None }

abbrev pub line_with : LineOf → (calls : List LineCall) → (sent : List Sent) → LineOf
line_with l calls sent = record { calls = option_map (λ cs. cs ++ calls) l.calls; sent = option_map (λ ps. ps ++ sent) l.sent }

-- a call that receives: the packet that came has a stamp
abbrev pub receive_call : (stamp : Option ℕ) → (bytes : List ℕ) → LineCall
receive_call None bytes = LineCall.FindsNone
receive_call (Some stamp) bytes = LineCall.Takes (sent_at stamp bytes)

-- A round takes at most 1,024 packets. If it takes fewer, it finds that none is left.
abbrev pub taking : List Sent → List LineCall
taking ps = map (λ p. LineCall.Takes p) ps ++ (if nat_le 1024 (length ps) then [] else LineCall.FindsNone ∷ [])

-- A round begins once the process is in the unit that the clock shows, and then takes packets.
abbrev pub round_calls : (unit : ℕ) → RoundOf → List LineCall
round_calls unit r = LineCall.Begins (unit_after_deeds unit (deeds_to unit r.shown)) ∷ taking r.came

abbrev pub rounds_calls : (unit : ℕ) → List RoundOf → List LineCall
rounds_calls unit [] = []
rounds_calls unit (r ∷ rs) = round_calls unit r ++ rounds_calls (unit_after_deeds unit (round_deeds unit r)) rs

-- THE CLOCK

-- all units that a clock showed, if it knows them, and more
abbrev pub shows : Option (List ℕ) → (units : List ℕ) → Option (List ℕ)
shows shown units = option_map (λ us. us ++ units) shown

-- What surrounds a process: its line, and what the clock showed.
pub record AroundOf : Type 0 where
  pub line : LineOf
  pub shown : Option (List ℕ)

-- SERVICE

-- A process makes these calls of its line, does deeds, and sends over the line what they send, in
-- order. `unit` is the unit of a process.
pub record Serves {P : Type 0} (does : P → Deed → P → List Sent → Type 0) (unit : P → ℕ) (calls : List LineCall) (deeds : List Deed) (s : P) (before : LineOf) (t : P) (after : LineOf) : Type 0 where
  pub sent : List Sent
  pub done : DoesAll does s deeds t sent
  pub counted : unit t ≡ unit_after_deeds (unit s) deeds
  pub line : after ≡ line_with before calls sent

-- It takes at most 1,024 packets. Its calls and its deeds follow from those that come.
pub record ServesCome {P : Type 0} (does : P → Deed → P → List Sent → Type 0) (unit : P → ℕ) (calls : List Sent → List LineCall) (deeds : List Sent → List Deed) (s : P) (before : LineOf) (t : P) (after : LineOf) : Type 0 where
  pub came : List Sent
  pub most : length came ≤ 1024
  pub serves : Serves does unit (calls came) (deeds came) s before t after

-- a round of at most 1,024 packets
abbrev pub IsRound : RoundOf → Type 0
IsRound r = length r.came ≤ 1024

-- It serves rounds, each in a unit that the clock shows.
pub record ServesRounds {P : Type 0} (does : P → Deed → P → List Sent → Type 0) (unit : P → ℕ) (s : P) (before : AroundOf) (t : P) (after : AroundOf) : Type 0 where
  pub rounds : List RoundOf
  pub are : AllByRecursion IsRound rounds
  pub shown : after.shown ≡ shows before.shown (map (λ r. r.shown) rounds)
  pub serves : Serves does unit (rounds_calls (unit s) rounds) (rounds_deeds (unit s) rounds) s before.line t after.line

-- FAILURE

-- A deed fails, and nothing of it is sent. `fails s d t`: what it leaves of a process `s` is `t`.
pub record FailsAt {P : Type 0} (fails : P → Deed → P → Type 0) (deed : Deed) (s : P) (before : LineOf) (t : P) (after : LineOf) : Type 0 where
  pub leaves : fails s deed t
  pub silent : after ≡ before

-- A process does deeds, and sends over the line what they send, in order. Then a deed fails, and
-- nothing of it is sent.
pub record ServesUntil {P : Type 0} (does : P → Deed → P → List Sent → Type 0) (fails : P → Deed → P → Type 0) (s : P) (before : LineOf) (t : P) (after : LineOf) : Type 0 where
  pub calls : List LineCall
  pub deeds : List Deed
  pub last : P
  pub sent : List Sent
  pub done : DoesAll does s deeds last sent
  pub line : after ≡ line_with before calls sent
  pub failed : Deed
  pub leaves : fails last failed t
