-- The turns of a run: an exact relation of the generator's numbers.
use Rattle.std.specs.Prelude.{ℕ, zero, suc, ◌≡◌, ◌≢◌, ◌<◌, ◌+◌, ◌-◌, ◌%◌, ◌*◌, ◌^◌, ◌==◌, ◌||◌, ◌++◌, ◌⊎◌, Bool, true, false, if◌then◌else◌, not, nat_lt, List, [], ◌∷◌, filter, length, min, option_map, replicate, slice_get, slice_set, Option, Some, None}
use Rattle.fwupd_base.specs.declared.roughness.Roughness.{Roughness}
use Rattle.rand_pcg.specs.Lcg.{Lcg}
use Rattle.fw_steps.specs.Worlds.{SiteOf, WorldOf, full_tick}
use Rattle.fw_steps.specs.declared.step.Step.{Step}
use Rattle.fw_steps.specs.declared.step.Step.TheVariants as steps
use Rattle.fw_edge.specs.Drives.{all_over}
use Rattle.fw_edge.specs.Fates.{word_after, word_of}
use Rattle.fw_edge.specs.Turns.{activation_for, due_at}
use Rattle.fw_soak.specs.Chances.{comes_now, delays_of, drawn_fate, drawn_package, drawn_rareness, drawn_upset, drawn_upsets, generator_after_fate, generator_of, generator_past}
use Rattle.fw_soak.specs.Courses.{CourseOf, SetupOf, TriesStep, opening_of}
use Rattle.fw_soak.specs.Looks.{generator_after_verdict, is_idle_at, next_arrival, verdict_at}
use Rattle.fw_soak.specs.declared.chances.Chances.{Chances}
use Rattle.fw_soak.specs.declared.decisions.Upset.{Upset}
use Rattle.fw_soak.specs.declared.decisions.Upset.TheVariants as upsets
use Rattle.fw_soak.specs.declared.decisions.Upsets.{Upsets}
use Rattle.fw_soak.specs.declared.traffic.Arrival.{Arrival}
use Rattle.fw_soak.specs.declared.traffic.Late.{Late}
use Rattle.fw_soak.specs.declared.traffic.Traffic.{Traffic}

-- STATES

-- a run and its generator
pub record DrawnOf : Type 0 where
  pub course : CourseOf
  pub drawn : Lcg

-- a run, its links and its generator: `met` is the number of packets of each pair that have a fate,
-- and `late` are the packets held back
pub record SoakingOf : Type 0 where
  pub course : CourseOf
  pub roughness : Roughness
  pub met : List ℕ
  pub late : List Late
  pub drawn : Lcg

-- the same with the upsets that are left
pub record UpsettingOf : Type 0 where
  pub upsets : Upsets
  pub soaking : SoakingOf

-- the same with whether a packet was given its fate in the round
pub record RoundOf : Type 0 where
  pub any : Bool
  pub soaking : SoakingOf

abbrev pub drawn_run : CourseOf → Chances → DrawnOf
drawn_run c g = record { course = c; drawn = g.generator }

abbrev pub soaking : CourseOf → Traffic → Chances → SoakingOf
soaking c t g = record { course = c; roughness = t.roughness; met = t.met.items; late = t.late.items; drawn = g.generator }

abbrev pub drawn_in : SoakingOf → DrawnOf
drawn_in a = record { course = a.course; drawn = a.drawn }

abbrev pub upsetting : Upsets → CourseOf → Traffic → Chances → UpsettingOf
upsetting u c t g = record { upsets = u; soaking = soaking c t g }

-- SEQUENCES

-- this happens at each place below `count`, in order
abbrev pub EachPlace : {S : Type 0} → (ℕ → S → S → Type 0) → (count : ℕ) → S → S → Type 0
EachPlace P zero a b = b ≡ a
EachPlace {S} P (suc n) a b = (mid : S) × EachPlace P n a mid × P n mid b

-- this happens for each element of a list, in order
abbrev pub EachIn : {A S : Type 0} → (A → S → S → Type 0) → List A → S → S → Type 0
EachIn P [] a b = b ≡ a
EachIn {A} {S} P (x ∷ xs) a b = (mid : S) × P x a mid × EachIn P xs mid b

-- The first happens as often as the second doesn't, at most `most` times.
pub record RepeatsUpTo {S : Type 0} (most : ℕ) (On : S → S → Type 0) (Off : S → S → Type 0) (a b : S) : Type 0 where
  pub times : ℕ
  pub mid : S
  pub on : EachPlace (λ i. On) times a mid
  pub ends : ((times < most) × Off mid b) ⊎ ((times ≡ most) × (b ≡ mid))

-- a part of a run that leaves its links unchanged
pub record OnDrawn (P : DrawnOf → DrawnOf → Type 0) (a b : SoakingOf) : Type 0 where
  pub does : P (drawn_in a) (drawn_in b)
  pub roughness : b.roughness ≡ a.roughness
  pub met : b.met ≡ a.met
  pub late : b.late ≡ a.late

-- a step is tried, if there is one
abbrev pub TriesIf : Option Step → CourseOf → CourseOf → Type 0
TriesIf None c d = d ≡ c
TriesIf (Some s) c d = TriesStep s c d

-- PACKETS

abbrev pub arrival_step : Arrival → Step
arrival_step p = steps.Deliver p.pair p.number p.node

-- A copy of a packet is delivered at once, or is held back for `wait` turns.
pub record Sends (p : Arrival) (wait : ℕ) (a b : SoakingOf) : Type 0 where
  pub at_once : wait ≡ 0 → TriesStep (arrival_step p) a.course b.course × (b.late ≡ a.late)
  pub later : wait ≢ 0
      → (b.course ≡ a.course) × (b.late ≡ a.late ++ record { arrival = p; due = min (a.course.world.now + wait) (2 ^ 32 - 1) } ∷ [])
  pub roughness : b.roughness ≡ a.roughness
  pub met : b.met ≡ a.met
  pub drawn : b.drawn ≡ a.drawn

-- before the copies of a packet are sent: the fate is drawn
abbrev pub fate_drawn : SoakingOf → SoakingOf
fate_drawn a = record a { drawn = generator_after_fate a.roughness a.drawn }

-- a packet is given its fate
abbrev pub MeetsPacket : Arrival → SoakingOf → SoakingOf → Type 0
MeetsPacket p a b = EachIn (Sends p) (delays_of (drawn_fate a.roughness a.drawn)) (fate_drawn a) b

-- the next packet of a pair, if its number of packets with a fate is known
abbrev pub next_met : WorldOf → (place : ℕ) → (met : Option ℕ) → Option Arrival
next_met w place None = None
next_met w place (Some met) = next_arrival w place met

-- with one more packet of the pair that has a fate
abbrev pub met_at : SoakingOf → (place number : ℕ) → SoakingOf
met_at a place number = record a { met = slice_set a.met place number }

abbrev pub MeetsIf : (place : ℕ) → Option Arrival → SoakingOf → SoakingOf → (any : Bool) → Type 0
MeetsIf place None a b any = (b ≡ a) × (any ≡ false)
MeetsIf place (Some p) a b any = MeetsPacket p (met_at a place p.number) b × (any ≡ true)

-- the next packet of the pair at a place is given its fate, if there is one
abbrev pub MeetsNext : (place : ℕ) → SoakingOf → SoakingOf → (any : Bool) → Type 0
MeetsNext place a b any = MeetsIf place (next_met a.course.world place (slice_get a.met place)) a b any

pub record MeetsPlace (place : ℕ) (a b : RoundOf) : Type 0 where
  pub here : Bool
  pub meets : MeetsNext place a.soaking b.soaking here
  pub any : b.any ≡ (a.any || here)

-- a round: the next packet of each pair, in configured order; whether there was one
abbrev pub MeetsRound : SoakingOf → SoakingOf → (any : Bool) → Type 0
MeetsRound a b any = EachPlace MeetsPlace (length a.met) (record { any = false; soaking = a }) (record { any = any; soaking = b })

-- the packets held back that are due, and the others
abbrev pub is_held : (now : ℕ) → Late → Bool
is_held now p = nat_lt now p.due

abbrev pub is_due : (now : ℕ) → Late → Bool
is_due now p = not (is_held now p)

abbrev pub TriesLate : Late → CourseOf → CourseOf → Type 0
TriesLate p c d = TriesStep (arrival_step p.arrival) c d

-- The packets that are due are delivered, in order; the others stay held back.
pub record Releases (a b : SoakingOf) : Type 0 where
  pub delivers : EachIn TriesLate (filter (is_due a.course.world.now) a.late) a.course b.course
  pub held : b.late ≡ filter (is_held a.course.world.now) a.late
  pub roughness : b.roughness ≡ a.roughness
  pub met : b.met ≡ a.met
  pub drawn : b.drawn ≡ a.drawn

-- rounds while a packet was sent, at most 1,024
abbrev pub MeetsRounds : SoakingOf → SoakingOf → Type 0
MeetsRounds a b = RepeatsUpTo 1024 (λ x y. MeetsRound x y true) (λ x y. MeetsRound x y false) a b

-- The packets of a turn: those that are due, and then the rounds.
pub record Exchanges (a b : SoakingOf) : Type 0 where
  pub released : SoakingOf
  pub releases : Releases a released
  pub rounds : MeetsRounds released b

-- STARTS, VERDICTS AND ACTIVATIONS

abbrev pub draws : DrawnOf → DrawnOf
draws a = record { course = a.course; drawn = word_after a.drawn }

-- the start of the device at a place with a drawn package
abbrev pub start_at : (packages : ℕ) → Option SiteOf → Lcg → Option Step
start_at packages None g = None
start_at packages (Some x) g = Some (steps.Start x.node.endpoint.eid (drawn_package packages g))

pub record Starts (packages place : ℕ) (a b : DrawnOf) : Type 0 where
  pub tries : TriesIf (start_at packages (slice_get a.course.world.sites place) a.drawn) a.course b.course
  pub drawn : b.drawn ≡ word_after a.drawn

abbrev pub StartsIf : Bool → (packages place : ℕ) → DrawnOf → DrawnOf → Type 0
StartsIf true packages place a b = Starts packages place a b
StartsIf false packages place a b = b ≡ a

-- the device at a place is started with a probability of 1 in `times`
abbrev pub StartsOne : (packages times place : ℕ) → DrawnOf → DrawnOf → Type 0
StartsOne packages times place a b = StartsIf (word_of a.drawn % times == 0) packages place (draws a) b

-- so is each device, in configured order
abbrev pub StartsSome : (packages times : ℕ) → DrawnOf → DrawnOf → Type 0
StartsSome packages times a b = EachPlace (StartsOne packages times) (length a.course.world.sites) a b

-- a device whose session is idle is started with a probability of 1 in 8
abbrev pub StartsIdleIf : Bool → (packages place : ℕ) → DrawnOf → DrawnOf → Type 0
StartsIdleIf true packages place a b = StartsOne packages 8 place a b
StartsIdleIf false packages place a b = b ≡ a

abbrev pub StartsIdleOne : (packages place : ℕ) → DrawnOf → DrawnOf → Type 0
StartsIdleOne packages place a b = StartsIdleIf (is_idle_at a.course.world (slice_get a.course.world.sites place)) packages place a b

abbrev pub StartsIdle : (packages : ℕ) → DrawnOf → DrawnOf → Type 0
StartsIdle packages a b = EachPlace (StartsIdleOne packages) (length a.course.world.sites) a b

-- The device at a place is given the verdict that it waits for, and then its session the activation
-- that it waits for.
pub record AttendsOne (place : ℕ) (a b : DrawnOf) : Type 0 where
  pub judged : CourseOf
  pub verdict : TriesIf (verdict_at (slice_get a.course.world.sites place) a.drawn) a.course judged
  pub activation : TriesIf (due_at activation_for judged.world (slice_get judged.world.sites place)) judged b.course
  pub drawn : b.drawn ≡ generator_after_verdict (slice_get a.course.world.sites place) a.drawn

abbrev pub Attends : DrawnOf → DrawnOf → Type 0
Attends a b = EachPlace AttendsOne (length a.course.world.sites) a b

-- UPSETS

-- a recent packet of a pair, once more: one of the last 16 that have a fate, or the next
abbrev pub repeat_at : WorldOf → (place : ℕ) → (met : Option ℕ) → Lcg → Option Step
repeat_at w place None g = None
repeat_at w place (Some met) g = option_map arrival_step (next_arrival w place (met - word_of g % 16))

abbrev pub generator_after_repeat : (met : Option ℕ) → Lcg → Lcg
generator_after_repeat None g = g
generator_after_repeat (Some met) g = word_after g

-- the restart, and the end of the update, of the device at a place
abbrev pub restart_at : Option SiteOf → Option Step
restart_at None = None
restart_at (Some x) = Some (steps.Restart x.node.endpoint.eid)

abbrev pub cancel_at : Option SiteOf → Option Step
cancel_at None = None
cancel_at (Some x) = Some (steps.Cancel x.node.endpoint.eid)

-- the step of an upset at a place, and the generator after it
abbrev pub upset_step : Upset → WorldOf → (place : ℕ) → (met : Option ℕ) → Lcg → Option Step
upset_step upsets.RestartAgent w place met g = Some (steps.Restart w.agent.endpoint.eid)
upset_step upsets.RestartDevice w place met g = restart_at (slice_get w.sites place)
upset_step upsets.Cancel w place met g = cancel_at (slice_get w.sites place)
upset_step upsets.Repeat w place met g = repeat_at w place met g

abbrev pub generator_after_kind : Upset → (met : Option ℕ) → Lcg → Lcg
generator_after_kind upsets.RestartAgent met g = g
generator_after_kind upsets.RestartDevice met g = g
generator_after_kind upsets.Cancel met g = g
generator_after_kind upsets.Repeat met g = generator_after_repeat met g

-- the place of an upset
abbrev pub upset_place : WorldOf → Lcg → ℕ
upset_place w g = word_of g % 16 % length w.sites

-- An upset: its place and its kind are drawn.
pub record UpsetsOne (met : List ℕ) (a b : DrawnOf) : Type 0 where
  pub tries :
      TriesIf
      (upset_step (drawn_upset (word_after a.drawn)) a.course.world (upset_place a.course.world a.drawn) (slice_get met (upset_place a.course.world a.drawn)) (generator_past 2 a.drawn))
      a.course b.course
  pub drawn : b.drawn ≡ generator_after_kind (drawn_upset (word_after a.drawn)) (slice_get met (upset_place a.course.world a.drawn)) (generator_past 2 a.drawn)

abbrev pub UpsetsIf : Bool → (met : List ℕ) → DrawnOf → DrawnOf → Type 0
UpsetsIf true met a b = UpsetsOne met a b
UpsetsIf false met a b = b ≡ a

-- the number of upsets that are left after it is drawn whether one comes, and the generator
abbrev pub upsets_left : Upsets → Lcg → ℕ
upsets_left u g = if comes_now u.left u.among g then u.left - 1 else u.left

abbrev pub generator_after_coming : Upsets → Lcg → Lcg
generator_after_coming u g = if u.left == 0 || u.among == 0 then g else word_after g

-- an upset, if it comes in this turn
abbrev pub UpsetsComing : Upsets → (met : List ℕ) → DrawnOf → DrawnOf → Type 0
UpsetsComing u met a b =
    UpsetsIf (comes_now u.left u.among a.drawn) met (record { course = a.course; drawn = generator_after_coming u a.drawn }) b

-- TURNS

-- A turn: a tick, the packets, the verdicts and activations of each device, and an upset if one
-- comes.
pub record TakesSoakTurn (a b : UpsettingOf) : Type 0 where
  pub ticked : CourseOf
  pub tick : TriesStep full_tick a.soaking.course ticked
  pub exchanged : SoakingOf
  pub exchanges : Exchanges (record { course = ticked; roughness = a.soaking.roughness; met = a.soaking.met; late = a.soaking.late; drawn = a.soaking.drawn }) exchanged
  pub attended : SoakingOf
  pub attends : OnDrawn Attends exchanged attended
  pub left : b.upsets.left ≡ upsets_left a.upsets attended.drawn
  pub among : b.upsets.among ≡ a.upsets.among
  pub upset : OnDrawn (UpsetsComing a.upsets attended.met) attended b.soaking

-- If all sessions are over, a coin ends the run, or else each device is started with a probability
-- of 1 in 2.
abbrev pub GoesOnIf : (over ends : Bool) → (packages : ℕ) → DrawnOf → DrawnOf → (on : Bool) → Type 0
GoesOnIf false ends packages a b on = (b ≡ a) × (on ≡ true)
GoesOnIf true true packages a b on = (b ≡ draws a) × (on ≡ false)
GoesOnIf true false packages a b on = StartsSome packages 2 (draws a) b × (on ≡ true)

abbrev pub GoesOnOver : (packages : ℕ) → (on : Bool) → DrawnOf → DrawnOf → Type 0
GoesOnOver packages on a b = GoesOnIf (all_over a.course.world) (word_of a.drawn % 2 == 0) packages a b on

-- The run doesn't end; each device whose session is idle may be started, and a turn is taken.
pub record TurnsOn (packages : ℕ) (a b : UpsettingOf) : Type 0 where
  pub restarted : SoakingOf
  pub restarts : OnDrawn (GoesOnOver packages true) a.soaking restarted
  pub started : SoakingOf
  pub starts : OnDrawn (StartsIdle packages) restarted started
  pub turn : TakesSoakTurn (record { upsets = a.upsets; soaking = started }) b

-- The run ends.
pub record TurnsEnd (packages : ℕ) (a b : UpsettingOf) : Type 0 where
  pub ends : OnDrawn (GoesOnOver packages false) a.soaking b.soaking
  pub upsets : b.upsets ≡ a.upsets

abbrev pub TurnsIf : (on : Bool) → (packages : ℕ) → UpsettingOf → UpsettingOf → Type 0
TurnsIf true packages a b = TurnsOn packages a b
TurnsIf false packages a b = TurnsEnd packages a b

-- turns until the run ends, at most 80,000
abbrev pub RepeatsTurns : (packages : ℕ) → UpsettingOf → UpsettingOf → Type 0
RepeatsTurns packages a b = RepeatsUpTo 80000 (TurnsOn packages) (TurnsEnd packages) a b

-- The upsets are drawn, each device is started, and turns are taken until the run ends.
pub record TakesSoakTurns (packages : ℕ) (a b : SoakingOf) : Type 0 where
  pub started : SoakingOf
  pub starts :
      OnDrawn (StartsSome packages 1)
      (record { course = a.course; roughness = a.roughness; met = a.met; late = a.late; drawn = generator_past 2 a.drawn }) started
  pub first : Upsets
  pub left : first.left ≡ drawn_upsets a.drawn
  pub among : first.among ≡ drawn_rareness a.drawn
  pub last : Upsets
  pub turns : RepeatsTurns packages (record { upsets = first; soaking = started }) (record { upsets = last; soaking = b })

-- without a package nothing happens
pub record TakesTurnsIf (packages : ℕ) (a b : SoakingOf) : Type 0 where
  pub without : packages ≡ 0 → b ≡ a
  pub some : packages ≢ 0 → TakesSoakTurns packages a b

-- RUNS

-- The state of run `number` before its first step. Two numbers of the generator were drawn for the
-- bank of each device.
abbrev pub opened : SetupOf → Roughness → (number : ℕ) → SoakingOf
opened s r number =
    record {
      course = record { steps = []; world = opening_of s };
      roughness = r;
      met = replicate (length s.devices) 0;
      late = [];
      drawn = generator_past (2 * length s.devices) (generator_of r.seed number);
    }

-- Run `number` of a setup with a roughness, which contains the seed.
pub record IsSoakRun (s : SetupOf) (r : Roughness) (number : ℕ) (c : CourseOf) : Type 0 where
  pub last : SoakingOf
  pub is : c ≡ last.course
  pub turns : TakesTurnsIf (min (length s.packages) 255) (opened s r number) last

-- the courses are runs, numbered from `from`
abbrev pub AreSoakRuns : SetupOf → Roughness → (from : ℕ) → List CourseOf → Type 0
AreSoakRuns s r from [] = Unit {0}
AreSoakRuns s r from (c ∷ cs) = IsSoakRun s r from c × AreSoakRuns s r (suc from) cs
