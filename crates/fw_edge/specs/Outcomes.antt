-- The results of the parts of a run: the links, steps and world after a success, and after a fault.
-- Of a link only its counts and its taken and given bytes are used.
use Rattle.std.specs.Prelude.{ℕ, ◌≡◌, ◌≢◌, ◌≤◌, ◌<◌, ◌+◌, ◌-◌, ◌*◌, ◌^◌, ◌⊎◌, true, List, [], length, map}
use Rattle.fw_message.specs.declared.side.Side.{Side}
use Rattle.fw_steps.specs.Replays.{needs_memory}
use Rattle.fw_steps.specs.Worlds.{WorldOf, eids_of}
use Rattle.fw_steps.specs.declared.step.Step.{Step}
use Rattle.fw_edge.specs.Drives.{Drives, DrivesCounted, all_over, delivers_in, ticks_in}
use Rattle.fw_edge.specs.Ledgers.{EachCountGrows, AllSent, AreGiven, ReportsFaultOfLinks, ReportsLinkFault, GivesFrames, RefusesPacket, CountsGrowTogether, StopsAt, TakesPackets, packet_counts}
use Rattle.fw_edge.specs.Links.{LinkBytes, LinksOf, links_at}
use Rattle.fw_edge.specs.Turns.{AsksSome, ReadsAllEnds, ReadsEnds, DrivesTurns, StopsDrive, StopsTurn, TakesSome, TurnStops, round_ends}
use Rattle.fw_edge.specs.declared.driving.EdgeFault.{EdgeFault}
use Rattle.fw_edge.specs.declared.driving.EdgeFault.TheVariants as faults
use Rattle.fw_edge.specs.declared.tally.Tally.{Tally}

-- what a link counts, and the bytes that it took and gave
pub record LinkView (A : Type 0) : Type 0 where
  pub tally : A → Tally
  pub taken : A → LinkBytes
  pub gave : A → LinkBytes

abbrev pub link_view : {A : Type 0} (tally : A → Tally) (taken gave : A → LinkBytes) → LinkView A
link_view tally taken gave = record { tally = tally; taken = taken; gave = gave }

-- a moment of a run: the world, the steps taken so far, and the link or the links that are read
pub record ReadOf (A : Type 0) : Type 0 where
  pub world : WorldOf
  pub steps : List Step
  pub links : A

abbrev pub read_at : {A : Type 0} (world : WorldOf) (steps : List Step) (links : A) → ReadOf A
read_at world steps links = record { world = world; steps = steps; links = links }

-- and the number of written packets of each pair
pub record DriveOf (A : Type 0) : Type 0 where
  pub world : WorldOf
  pub steps : List Step
  pub written : List ℕ
  pub links : List A

abbrev pub drive_at : {A : Type 0} (world : WorldOf) (steps : List Step) (written : List ℕ) (links : List A) → DriveOf A
drive_at world steps written links = record { world = world; steps = steps; written = written; links = links }

-- the bytes that its links took and gave
abbrev pub links_in : {A : Type 0} (view : LinkView A) (drive : DriveOf A) → LinksOf
links_in view drive = links_at drive.written (map view.taken drive.links) (map view.gave drive.links)

-- A link took `packets` packets, and gave nothing.
pub record LinkWriteOk {A : Type 0} (tally : A → Tally) (gave : A → LinkBytes) (packets : ℕ) (old new : A) : Type 0 where
  pub counts : TakesPackets packets (tally old) (tally new)
  pub gave_none : gave new ≡ gave old

-- A link took fewer packets, and refused the next. The fault is that refusal, which the link
-- counts; nothing follows it.
pub record LinkWriteErr {A : Type 0} (tally : A → Tally) (told : EdgeFault) (packets : ℕ) (old new : A) : Type 0 where
  pub is : told ≡ faults.Frame
  pub taken : ℕ
  pub fewer : taken < packets
  pub counts : RefusesPacket taken (tally old) (tally new)

-- Ends of a link were asked for a frame each, in this order. `known` of the received frames are
-- living packets of its pair, and were delivered; `foreign` are others. The link took nothing.
pub record LinkReadOk {A : Type 0} (view : LinkView A) (ends : List (ℕ × Side)) (asked : ℕ) (old new : ReadOf A) (known foreign : ℕ) : Type 0 where
  pub goes : DrivesCounted old.world old.steps new.world new.steps 0 known
  pub few : known + foreign ≤ asked
  pub came : ReadsEnds old.world old.steps (view.gave old.links) ends new.world new.steps (view.gave new.links) (known + foreign)
  pub took_none : view.taken new.links ≡ view.taken old.links
  pub reads : GivesFrames asked (known + foreign) (view.tally old.links) (view.tally new.links)

-- A fault ended this at one of the ends. The ends before it were asked, and none after it. If the
-- fault is the link's, that end gave no answer; else its frame wasn't delivered. The steps taken
-- are listed. The fault isn't the clock's, and it is the link's exactly if the link failed, once.
pub record LinkReadErr {A : Type 0} (tally : A → Tally) (told : EdgeFault) (ends : List (ℕ × Side)) (old new : ReadOf A) : Type 0 where
  pub drives : Drives old.world old.steps new.world new.steps
  pub no_tick : ticks_in new.steps ≡ ticks_in old.steps
  pub fault : told ≢ faults.Step
  pub failed : ReportsLinkFault told (tally old.links).failures (tally new.links).failures
  pub some : AsksSome told ends old.world old.steps new.world new.steps
  pub sent : (tally new.links).sent ≡ (tally old.links).sent
  pub answered : ℕ
  pub fewer : told ≡ faults.Frame → answered < length ends
  pub few : answered ≤ length ends
  pub asked_rise : (tally new.links).asked < 2 ^ 64 - 1 → (tally new.links).asked ≡ (tally old.links).asked + answered
  pub unanswered : told ≡ faults.Frame → answered ≡ length some.asks
  pub unhanded : told ≢ faults.Frame → answered ≡ length some.asks + 1

-- No link failed, was asked for a frame, or gave one. Each took the packets by which its pair's
-- count rose.
pub record LinksWriteOk {A : Type 0} (tally : A → Tally) (before after : List ℕ) (olds news : List A) : Type 0 where
  pub kept : map (λ l. (tally l).failures) news ≡ map (λ l. (tally l).failures) olds
  pub asked : map (λ l. (tally l).asked) news ≡ map (λ l. (tally l).asked) olds
  pub given : map (λ l. (tally l).given) news ≡ map (λ l. (tally l).given) olds
  pub sent : AllSent before after (map (λ l. (tally l).sent) olds) (map (λ l. (tally l).sent) news)

-- One link refused a packet. That is the fault, and the link counts it. The links after it are
-- unchanged.
pub record LinksWriteErr {A : Type 0} (tally : A → Tally) (told : EdgeFault) (olds news : List A) : Type 0 where
  pub is : told ≡ faults.Frame
  pub failed : StopsAt told (λ l. (tally l).failures) olds news

-- No link failed or took a packet. Each was asked at least `least` times, and all gave `frames`
-- frames together.
pub record LinksReadOk {A : Type 0} (tally : A → Tally) (least frames : ℕ) (olds news : List A) : Type 0 where
  pub kept : map (λ l. (tally l).failures) news ≡ map (λ l. (tally l).failures) olds
  pub asked : EachCountGrows least (map (λ l. (tally l).asked) olds) (map (λ l. (tally l).asked) news)
  pub given : CountsGrowTogether frames (map (λ l. (tally l).given) olds) (map (λ l. (tally l).given) news)
  pub sent : map (λ l. (tally l).sent) news ≡ map (λ l. (tally l).sent) olds

-- No link failed. Each was asked at least `least` times, all gave `frames` frames together, and
-- each took the packets by which its pair's count rose.
pub record LinksExchangeOk {A : Type 0} (tally : A → Tally) (least frames : ℕ) (before after : List ℕ) (olds news : List A) : Type 0 where
  pub kept : map (λ l. (tally l).failures) news ≡ map (λ l. (tally l).failures) olds
  pub asked : EachCountGrows least (map (λ l. (tally l).asked) olds) (map (λ l. (tally l).asked) news)
  pub given : CountsGrowTogether frames (map (λ l. (tally l).given) olds) (map (λ l. (tally l).given) news)
  pub sent : AllSent before after (map (λ l. (tally l).sent) olds) (map (λ l. (tally l).sent) news)

-- Each end of each link was asked for a frame. `known` of the received frames are living packets,
-- and were delivered; `foreign` are others.
pub record RoundOk {A : Type 0} (view : LinkView A) (old new : ReadOf (List A)) (known foreign : ℕ) : Type 0 where
  pub came : ReadsAllEnds (length (eids_of old.world.sites)) (eids_of old.world.sites) old.world old.steps (links_at [] (map view.taken old.links) (map view.gave old.links))
      new.world new.steps (links_at [] (map view.taken new.links) (map view.gave new.links)) (known + foreign)
  pub goes : DrivesCounted old.world old.steps new.world new.steps 0 known
  pub few : known + foreign ≤ 32
  pub counts : LinksReadOk view.tally 2 (known + foreign) old.links new.links

-- A fault ended this at one of the ends. The ends before it were asked, and none after it; the
-- links after its link are unchanged. The steps taken are listed. The fault isn't the clock's, and
-- it is a link's exactly if one failed, once.
pub record RoundErr {A : Type 0} (tally : A → Tally) (told : EdgeFault) (old new : ReadOf (List A)) : Type 0 where
  pub drives : Drives old.world old.steps new.world new.steps
  pub no_tick : ticks_in new.steps ≡ ticks_in old.steps
  pub fault : told ≢ faults.Step
  pub failed : StopsAt told (λ l. (tally l).failures) old.links new.links
  pub some : AsksSome told (round_ends (eids_of old.world.sites)) old.world old.steps new.world new.steps

-- A part of a turn succeeded. The written packets of each pair are counted before and after it.
-- `known` of the received frames are living packets, and were delivered; `foreign` are others.
pub record PartOk {A : Type 0} (view : LinkView A) (does : WorldOf → List Step → LinksOf → WorldOf → List Step → LinksOf → (count : ℕ) → Type 0) (ticks most : ℕ) (old new : DriveOf A) (known foreign : ℕ) : Type 0 where
  pub does_so : does old.world old.steps (links_in view old) new.world new.steps (links_in view new) (known + foreign)
  pub goes : DrivesCounted old.world old.steps new.world new.steps ticks known
  pub few : known + foreign ≤ most
  pub counts : LinksExchangeOk view.tally 2 (known + foreign) old.written new.written old.links new.links

-- A fault ended a part of a turn, as `stops` says. The steps taken are listed, none of them a tick.
-- The fault isn't the clock's, and it is a link's exactly if one failed, once.
pub record PartErr {A : Type 0} (view : LinkView A) (stops : WorldOf → List Step → LinksOf → WorldOf → List Step → Type 0) (told : EdgeFault) (old : DriveOf A) (new : ReadOf (List A)) : Type 0 where
  pub drives : Drives old.world old.steps new.world new.steps
  pub no_tick : ticks_in new.steps ≡ ticks_in old.steps
  pub stops_so : stops old.world old.steps (links_in view old) new.world new.steps
  pub fault : told ≢ faults.Step
  pub failed : ReportsFaultOfLinks told (map (λ l. (view.tally l).failures) old.links) (map (λ l. (view.tally l).failures) new.links)

-- A fault ended a turn in one of its parts. The steps taken are listed, at most one of them a tick.
-- The fault is the clock's exactly if the clock was at its last tick before the turn, and a link's
-- exactly if one failed, once.
pub record TurnErr {A : Type 0} (view : LinkView A) (told : EdgeFault) (old : DriveOf A) (new : ReadOf (List A)) : Type 0 where
  pub drives : Drives old.world old.steps new.world new.steps
  pub few : ticks_in new.steps ≤ ticks_in old.steps + 1
  pub last : TurnStops told old.world old.steps (links_in view old) new.world new.steps
  pub failed : ReportsFaultOfLinks told (map (λ l. (view.tally l).failures) old.links) (map (λ l. (view.tally l).failures) new.links)
  pub stops : StopsTurn told old.world old.steps new.world new.steps

-- In `turns` turns no link failed, and each was asked at least twice a turn. The frames given are
-- those delivered and the foreign ones. Each link took the packets that its pair gained.
pub record LinksDriveOk {A : Type 0} (tally : A → Tally) (turns : ℕ) (old new : ReadOf (List A)) (foreign : ℕ) : Type 0 where
  pub kept : map (λ l. (tally l).failures) new.links ≡ map (λ l. (tally l).failures) old.links
  pub asked : EachCountGrows (2 * turns) (map (λ l. (tally l).asked) old.links) (map (λ l. (tally l).asked) new.links)
  pub given : AreGiven (delivers_in old.steps) (delivers_in new.steps) foreign (map (λ l. (tally l).given) old.links) (map (λ l. (tally l).given) new.links)
  pub sent : AllSent (packet_counts old.world.sites) (packet_counts new.world.sites) (map (λ l. (tally l).sent) old.links) (map (λ l. (tally l).sent) new.links)

-- A run took `turns` of the `asked_for` turns, with a tick each: all of them, or fewer with each
-- session Done or Failed.
pub record DriveOk {A : Type 0} (view : LinkView A) (asked_for : ℕ) (old new : DriveOf A) (turns foreign : ℕ) : Type 0 where
  pub drove : DrivesTurns turns old.world old.steps (links_in view old) new.world new.steps (links_in view new) foreign
  pub ticks : ticks_in new.steps ≡ ticks_in old.steps + turns
  pub within : turns ≤ asked_for
  pub ended : turns < asked_for → all_over new.world ≡ true
  pub counts : LinksDriveOk view.tally turns (read_at old.world old.steps old.links) (read_at new.world new.steps new.links) foreign

-- A fault ended a run in one of the turns asked for. It is a link's exactly if one failed, once,
-- and the clock's exactly if the clock was at its last tick before that turn.
pub record DriveErr {A : Type 0} (view : LinkView A) (asked_for : ℕ) (told : EdgeFault) (old : DriveOf A) (new : ReadOf (List A)) : Type 0 where
  pub failed : ReportsFaultOfLinks told (map (λ l. (view.tally l).failures) old.links) (map (λ l. (view.tally l).failures) new.links)
  pub step : told ≡ faults.Step → new.world.now ≡ 2 ^ 32 - 1
  pub stopped : StopsDrive told old.world old.steps (links_in view old) new.world new.steps
  pub within : stopped.turns < asked_for
  pub ticks : ticks_in new.steps ≤ ticks_in old.steps + (stopped.turns + 1)

-- Steps other than ticks and deliveries were taken, and nothing was sent.
pub record SentNone (w : WorldOf) (before : List Step) (v : WorldOf) (after : List Step) : Type 0 where
  pub goes : DrivesCounted w before v after 0 0
  pub sent : packet_counts v.sites ≡ packet_counts w.sites

-- Memory was refused, and nothing has changed.
pub record StepErr (told : EdgeFault) (w : WorldOf) (before : List Step) (v : WorldOf) (after : List Step) : Type 0 where
  pub fault : told ≡ faults.Memory
  pub same : v ≡ w
  pub unlisted : after ≡ before

-- Memory was refused for one of the steps, none of which is a tick. The steps before it were taken
-- and listed.
pub record StepsErr (told : EdgeFault) (ss : List Step) (w : WorldOf) (before : List Step) (v : WorldOf) (after : List Step) : Type 0 where
  pub drives : Drives w before v after
  pub no_tick : ticks_in after ≡ ticks_in before
  pub fault : told ≡ faults.Memory
  pub some : TakesSome w before ss v after

-- A step may fail for lack of memory: the list had no room for one more step, or it has room now,
-- and the step itself needs memory.
abbrev pub LacksMemory : Step → (listed room_before room_now : ℕ) → Type 0
LacksMemory step listed room_before room_now = (room_before < listed + 1) ⊎ ((listed + 1 ≤ room_now) × (needs_memory step ≡ true))
