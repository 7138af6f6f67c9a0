-- The steps of a turn of a run.
use Rattle.std.specs.Prelude.{ℕ, zero, suc, ◌≡◌, ◌≢◌, ◌≤◌, ◌<◌, ◌+◌, ◌-◌, ◌^◌, ◌++◌, ◌⊎◌, true, false, if◌then◌else◌, is_some, List, [], ◌∷◌, length, map, option_map, option_to_list, take, Option, Some, None}
use Rattle.fd_core.specs.States.{DeviceState}
use Rattle.fd_core.specs.Steps.{device_verdict}
use Rattle.fd_core.specs.declared.states.Verdict.{Verdict}
use Rattle.fd_core.specs.declared.states.Verdict.TheVariants as verdicts
use Rattle.fw_message.specs.declared.side.Side.{Side}
use Rattle.fw_message.specs.declared.side.Side.TheVariants as sides
use Rattle.fw_node.specs.Agents.{ready_for}
use Rattle.fw_steps.specs.Steps.{StepsTo, Run}
use Rattle.fw_steps.specs.Worlds.{SiteOf, WorldOf, eids_of, full_tick, site_for}
use Rattle.fw_steps.specs.declared.step.Step.{Step}
use Rattle.fw_steps.specs.declared.step.Step.TheVariants as steps
use Rattle.fw_edge.specs.Drives.{all_over, delivers_in}
use Rattle.fw_edge.specs.declared.driving.EdgeFault.{EdgeFault}
use Rattle.fw_edge.specs.declared.driving.EdgeFault.TheVariants as faults
use Rattle.fw_edge.specs.Frames.{frames_of}
use Rattle.fw_edge.specs.Hearing.{IsHeard, IsKnown}
use Rattle.fw_edge.specs.Links.{LinkBytes, GrowsAt, LinksOf}
use Rattle.fw_edge.specs.Outgoing.{WritesOut}

-- the identifier of the device at a place
abbrev pub eid_in : Option SiteOf → ℕ
eid_in None = 0
eid_in (Some x) = x.node.endpoint.eid

-- the node at an end of a device's link
abbrev pub node_at : WorldOf → (device : ℕ) → Side → ℕ
node_at w device sides.Agent = w.agent.endpoint.eid
node_at w device sides.Device = device

-- a step is taken and listed, if there is one
abbrev pub TakesIf : WorldOf → List Step → Option Step → WorldOf → List Step → Type 0
TakesIf w before None v after = (v ≡ w) × (after ≡ before)
TakesIf w before (Some s) v after = StepsTo w s v × (after ≡ before ++ s ∷ [])

-- the verdict that a device waits for, always a success
abbrev pub awaited_by : DeviceState → Option Verdict
awaited_by d =
    if is_some (device_verdict d verdicts.VerifyOk true) then Some verdicts.VerifyOk
    else (if is_some (device_verdict d verdicts.ApplyOk true) then Some verdicts.ApplyOk else None)

abbrev pub awaited_in : Option SiteOf → Option Verdict
awaited_in None = None
awaited_in (Some x) = awaited_by x.node.half.core.device

-- the step that is due for a device: the verdict that it waits for, or the activation that its
-- session waits for
abbrev pub verdict_for : WorldOf → (device : ℕ) → Option Step
verdict_for w device = option_map (λ v. steps.Verdict device v) (awaited_in (site_for w.sites device))

abbrev pub activation_for : WorldOf → (device : ℕ) → Option Step
activation_for w device = if is_some (ready_for w.agent device) then Some (steps.Activate device) else None

-- the step that is due for the device at a place
abbrev pub due_at : (WorldOf → ℕ → Option Step) → WorldOf → Option SiteOf → Option Step
due_at due w None = None
due_at due w (Some x) = due w x.node.endpoint.eid

-- the steps that are due for these devices, one after the other
abbrev pub all_due : (WorldOf → ℕ → Option Step) → WorldOf → List ℕ → List Step
all_due due w [] = []
all_due due w (e ∷ es) = option_to_list (due w e) ++ all_due due w es

-- these steps are taken, and listed
abbrev pub TakesAll : WorldOf → List Step → List Step → WorldOf → List Step → Type 0
TakesAll w before ss v after = Run w ss v × (after ≡ before ++ ss)

-- A frame was received at an end of a device's link. If it is a living packet of the pair, it is
-- delivered to the node at that end; if not, it is dropped.
pub record HandsOver (w : WorldOf) (before : List Step) (device : ℕ) (side : Side) (bytes : List ℕ) (v : WorldOf) (after : List Step) : Type 0 where
  pub number : Option ℕ
  pub heard : IsHeard w device bytes number
  pub takes : TakesIf w before (option_map (λ n. steps.Deliver device n (node_at w device side)) number) v after

-- an end of a device's link that was asked for a frame, and the frame, if any
pub record Ask : Type 0 where
  pub device : ℕ
  pub side : Side
  pub frame : Option (List ℕ)

abbrev pub HandlesFrame : WorldOf → List Step → (device : ℕ) → Side → Option (List ℕ) → WorldOf → List Step → Type 0
HandlesFrame w before device side None v after = (v ≡ w) × (after ≡ before)
HandlesFrame w before device side (Some bytes) v after = HandsOver w before device side bytes v after

-- the frames are handled one after the other
abbrev pub HandlesFrames : WorldOf → List Step → List Ask → WorldOf → List Step → Type 0
HandlesFrames w before [] v after = (v ≡ w) × (after ≡ before)
HandlesFrames w before (a ∷ rest) v after =
    (mid : WorldOf) × (steps : List Step) × HandlesFrame w before a.device a.side a.frame mid steps × HandlesFrames mid steps rest v after

-- the number of frames received
abbrev pub frame_in : Option (List ℕ) → ℕ
frame_in None = 0
frame_in (Some bytes) = 1

abbrev pub frames_in : List Ask → ℕ
frames_in [] = 0
frames_in (a ∷ rest) = frame_in a.frame + frames_in rest

-- the bytes that a link gave when its ends were asked, one after the other
abbrev pub LinkGives : LinkBytes → List Ask → LinkBytes → Type 0
LinkGives old [] new = new ≡ old
LinkGives old (a ∷ rest) new = (mid : LinkBytes) × GrowsAt a.side (frames_of (option_to_list a.frame)) old mid × LinkGives mid rest new

-- the bytes that the first links gave when both ends of each were asked; the others gave nothing
abbrev pub LinksGive : ℕ → List LinkBytes → List Ask → List LinkBytes → Type 0
LinksGive zero olds [] news = news ≡ olds
LinksGive (suc n) (old ∷ olds) (first ∷ second ∷ rest) (new ∷ news) = LinkGives old (first ∷ second ∷ []) new × LinksGive n olds rest news
LinksGive n olds asks news = ⊥

-- These ends of a link were asked, in this order, and `count` frames were received, which the link
-- gave.
pub record ReadsEnds (w : WorldOf) (before : List Step) (old : LinkBytes) (ends : List (ℕ × Side)) (v : WorldOf) (after : List Step) (new : LinkBytes) (count : ℕ) : Type 0 where
  pub asks : List Ask
  pub ends_are : map (λ a. (a.device, a.side)) asks ≡ ends
  pub hears : HandlesFrames w before asks v after
  pub gave : LinkGives old asks new
  pub count_is : count ≡ frames_in asks

-- the ends of a device's link, the device's first; and of each link, in configured order
abbrev pub both_ends : ℕ → List (ℕ × Side)
both_ends device = (device, sides.Device) ∷ (device, sides.Agent) ∷ []

abbrev pub round_ends : List ℕ → List (ℕ × Side)
round_ends [] = []
round_ends (e ∷ es) = both_ends e ++ round_ends es

-- The ends of the links of the first `devices` devices were asked, in this order, and `count`
-- frames were received, which the links gave.
pub record ReadsAllEnds (devices : ℕ) (es : List ℕ) (w : WorldOf) (before : List Step) (old : LinksOf) (v : WorldOf) (after : List Step) (new : LinksOf) (count : ℕ) : Type 0 where
  pub asks : List Ask
  pub ends_are : map (λ a. (a.device, a.side)) asks ≡ round_ends (take devices es)
  pub hears : HandlesFrames w before asks v after
  pub gave : LinksGive devices old.gave asks new.gave
  pub took_none : new.took ≡ old.took
  pub count_is : count ≡ frames_in asks

-- A round: the unwritten packets are written, and each end of each link is asked.
pub record RoundOf (es : List ℕ) (w : WorldOf) (before : List Step) (old : LinksOf) (v : WorldOf) (after : List Step) (new : LinksOf) (count : ℕ) : Type 0 where
  pub out : LinksOf
  pub writes : WritesOut w old out
  pub came : ReadsAllEnds (length es) es w before out v after new count
  pub wrote_none : new.written ≡ out.written

-- Rounds in each of which a frame was received, with fewer than 1,024 frames in all.
abbrev pub RoundsOn : List ℕ → ℕ → WorldOf → List Step → LinksOf → WorldOf → List Step → LinksOf → (count : ℕ) → Type 0
RoundsOn es zero w before old v after new count = (v ≡ w) × (after ≡ before) × (new ≡ old) × (count ≡ 0)
RoundsOn es (suc n) w before old v after new count =
    (mid : WorldOf) × (steps : List Step) × (links : LinksOf) × (read : ℕ) × (more : ℕ) × RoundsOn es n w before old mid steps links read
    × RoundOf es mid steps links v after new more × (1 ≤ more) × (count ≡ read + more) × (count < 1024)

-- The rounds of a turn: no frame was received in the last one, or the turn has then read 1,024
-- frames or more.
pub record TakesRounds (es : List ℕ) (w : WorldOf) (before : List Step) (old : LinksOf) (v : WorldOf) (after : List Step) (new : LinksOf) (count : ℕ) : Type 0 where
  pub rounds : ℕ
  pub mid : WorldOf
  pub steps : List Step
  pub links : LinksOf
  pub read : ℕ
  pub more : ℕ
  pub earlier : RoundsOn es rounds w before old mid steps links read
  pub last : RoundOf es mid steps links v after new more
  pub all : count ≡ read + more
  pub ended : (more ≡ 0) ⊎ (1024 ≤ count)

-- The rounds of a turn, and then the unwritten packets are written.
pub record TakesExchange (es : List ℕ) (w : WorldOf) (before : List Step) (old : LinksOf) (v : WorldOf) (after : List Step) (new : LinksOf) (count : ℕ) : Type 0 where
  pub links : LinksOf
  pub rounds : TakesRounds es w before old v after links count
  pub out : WritesOut v links new

-- A turn: a tick; the rounds; the verdict that each device then waits for, in configured order; and
-- the activation that each session then waits for.
pub record TakesTurn (w : WorldOf) (before : List Step) (old : LinksOf) (v : WorldOf) (after : List Step) (new : LinksOf) (count : ℕ) : Type 0 where
  pub ticked : WorldOf
  pub ticked_steps : List Step
  pub tick : TakesIf w before (Some full_tick) ticked ticked_steps
  pub heard : WorldOf
  pub heard_steps : List Step
  pub exchanged : TakesExchange (eids_of ticked.sites) ticked ticked_steps old heard heard_steps new count
  pub judged : WorldOf
  pub judged_steps : List Step
  pub verdicts : TakesAll heard heard_steps (all_due verdict_for heard (eids_of heard.sites)) judged judged_steps
  pub activations : TakesAll judged judged_steps (all_due activation_for judged (eids_of judged.sites)) v after

-- Some of the steps are taken and listed, up to one that isn't.
pub record TakesSome (w : WorldOf) (before : List Step) (ss : List Step) (v : WorldOf) (after : List Step) : Type 0 where
  pub taken : List Step
  pub refused : Step
  pub rest : List Step
  pub are : ss ≡ taken ++ refused ∷ rest
  pub takes : TakesAll w before taken v after

-- Some of the ends of links are asked, in this order. The next end gives no answer, or its frame, a
-- living packet of the pair, can't be delivered.
pub record AsksSome (told : EdgeFault) (ends : List (ℕ × Side)) (w : WorldOf) (before : List Step) (v : WorldOf) (after : List Step) : Type 0 where
  pub asks : List Ask
  pub failed : ℕ × Side
  pub rest : List (ℕ × Side)
  pub are : ends ≡ map (λ a. (a.device, a.side)) asks ++ failed ∷ rest
  pub hears : HandlesFrames w before asks v after
  pub known : told ≢ faults.Frame → (bytes : List ℕ) × IsKnown v failed.0 bytes

-- A round stops: a packet isn't taken, so no end is asked; or it stops at one of the ends.
abbrev pub RoundStops : EdgeFault → List ℕ → WorldOf → List Step → LinksOf → WorldOf → List Step → Type 0
RoundStops told es w before old v after = ((told ≡ faults.Frame) × (v ≡ w) × (after ≡ before)) ⊎ AsksSome told (round_ends es) w before v after

-- The rounds of a turn stop within a round, after complete rounds.
pub record RoundsStop (told : EdgeFault) (es : List ℕ) (w : WorldOf) (before : List Step) (old : LinksOf) (v : WorldOf) (after : List Step) : Type 0 where
  pub rounds : ℕ
  pub mid : WorldOf
  pub steps : List Step
  pub links : LinksOf
  pub read : ℕ
  pub earlier : RoundsOn es rounds w before old mid steps links read
  pub last : RoundStops told es mid steps links v after

-- The rounds of a turn are over, and an unwritten packet isn't taken.
pub record RoundsOver (es : List ℕ) (w : WorldOf) (before : List Step) (old : LinksOf) (v : WorldOf) (after : List Step) : Type 0 where
  pub links : LinksOf
  pub count : ℕ
  pub rounds : TakesRounds es w before old v after links count

abbrev pub ExchangeStops : EdgeFault → List ℕ → WorldOf → List Step → LinksOf → WorldOf → List Step → Type 0
ExchangeStops told es w before old v after = RoundsStop told es w before old v after ⊎ ((told ≡ faults.Frame) × RoundsOver es w before old v after)

-- A turn stops in its rounds.
pub record StopsInRounds (told : EdgeFault) (w : WorldOf) (before : List Step) (old : LinksOf) (v : WorldOf) (after : List Step) : Type 0 where
  pub ticked : WorldOf
  pub ticked_steps : List Step
  pub tick : TakesIf w before (Some full_tick) ticked ticked_steps
  pub stops : ExchangeStops told (eids_of ticked.sites) ticked ticked_steps old v after

-- The rounds of a turn are over.
pub record TakesTurnRounds (w : WorldOf) (before : List Step) (old : LinksOf) (heard : WorldOf) (heard_steps : List Step) : Type 0 where
  pub ticked : WorldOf
  pub ticked_steps : List Step
  pub tick : TakesIf w before (Some full_tick) ticked ticked_steps
  pub links : LinksOf
  pub count : ℕ
  pub exchanged : TakesExchange (eids_of ticked.sites) ticked ticked_steps old heard heard_steps links count

-- A turn stops at a verdict that is due.
pub record StopsInVerdicts (w : WorldOf) (before : List Step) (old : LinksOf) (v : WorldOf) (after : List Step) : Type 0 where
  pub heard : WorldOf
  pub heard_steps : List Step
  pub hears : TakesTurnRounds w before old heard heard_steps
  pub some : TakesSome heard heard_steps (all_due verdict_for heard (eids_of heard.sites)) v after

-- A turn stops at an activation that is due.
pub record StopsInActivations (w : WorldOf) (before : List Step) (old : LinksOf) (v : WorldOf) (after : List Step) : Type 0 where
  pub heard : WorldOf
  pub heard_steps : List Step
  pub hears : TakesTurnRounds w before old heard heard_steps
  pub judged : WorldOf
  pub judged_steps : List Step
  pub verdicts : TakesAll heard heard_steps (all_due verdict_for heard (eids_of heard.sites)) judged judged_steps
  pub some : TakesSome judged judged_steps (all_due activation_for judged (eids_of judged.sites)) v after

-- A turn stops at its tick, so that nothing is done; or in one of its parts, of which only the
-- steps before are taken.
abbrev pub TurnStops : EdgeFault → WorldOf → List Step → LinksOf → WorldOf → List Step → Type 0
TurnStops told w before old v after =
    ((told ≢ faults.Frame) × (v ≡ w) × (after ≡ before))
    ⊎ (StopsInRounds told w before old v after
    ⊎ ((told ≡ faults.Memory) × (StopsInVerdicts w before old v after ⊎ StopsInActivations w before old v after)))

-- A turn stops for this reason. If the clock is at its last tick, it is `Step`; that is tested
-- first, so nothing is done. If not, it is another fault.
abbrev pub StopsTurn : EdgeFault → WorldOf → List Step → WorldOf → List Step → Type 0
StopsTurn fault w before v after =
    (fault ≡ faults.Step → (w.now ≡ 2 ^ 32 - 1) × (v ≡ w) × (after ≡ before)) × (fault ≢ faults.Step → w.now ≢ 2 ^ 32 - 1)

-- Turns, and the number of frames received in them. Before each turn some session was neither Done
-- nor Failed.
abbrev pub Turns : ℕ → WorldOf → List Step → LinksOf → WorldOf → List Step → LinksOf → (count : ℕ) → Type 0
Turns zero w before old v after new count = (v ≡ w) × (after ≡ before) × (new ≡ old) × (count ≡ 0)
Turns (suc n) w before old v after new count =
    (mid : WorldOf) × (steps : List Step) × (links : LinksOf) × (read : ℕ) × (more : ℕ) × Turns n w before old mid steps links read × (all_over mid ≡ false)
    × TakesTurn mid steps links v after new more × (count ≡ read + more)

-- The turns of a run. The frames that the links gave are those that were delivered, and `foreign`
-- others.
pub record DrivesTurns (turns : ℕ) (w : WorldOf) (before : List Step) (old : LinksOf) (v : WorldOf) (after : List Step) (new : LinksOf) (foreign : ℕ) : Type 0 where
  pub count : ℕ
  pub turned : Turns turns w before old v after new count
  pub frames : delivers_in before + count ≡ delivers_in after + foreign

-- A run stopped for this reason in the turn after `turns` complete ones. Before each of them, and
-- before that turn, some session was neither Done nor Failed.
pub record StopsDrive (fault : EdgeFault) (w : WorldOf) (before : List Step) (old : LinksOf) (v : WorldOf) (after : List Step) : Type 0 where
  pub turns : ℕ
  pub mid : WorldOf
  pub steps : List Step
  pub links : LinksOf
  pub count : ℕ
  pub turned : Turns turns w before old mid steps links count
  pub on : all_over mid ≡ false
  pub stops : StopsTurn fault mid steps v after
  pub last : TurnStops fault mid steps links v after
