-- The result of an update over links, and its output.
use Rattle.std.specs.Prelude.{ℕ, suc, ◌≡◌, ◌⊎◌, Bool, true, List, [], ◌∷◌, ◌++◌, Option, None, Some, IfSome, length, slice_get, take}
use Rattle.std.specs.List.{AllByRecursion}
use Rattle.fw_edge.specs.declared.driving.EdgeFault.TheVariants as edges
use Rattle.fwupd_base.specs.declared.roughness.Roughness.{Roughness}
use Rattle.fw_json.specs.Forms.{report_in}
use Rattle.fwupd_base.specs.declared.forms.Form.{Form}
use Rattle.fw_steps.specs.Worlds.{SiteOf, WorldOf}
use Rattle.mctp_wire.specs.declared.unit.Unit.{«Unit»}
use Rattle.rand_pcg.specs.Lcg.{Lcg, increment_of, started}
use Rattle.rand_pcg.specs.Pcg.{multiplier_64}
use Rattle.fwupd_watch.specs.Histories.{HasHistoryLinesIfAny, MayHaveHistoryLines}
use Rattle.fwupd_watch.specs.Outputs.{FailsToWriteOutput, OutputOf, WritesOutput}
use Rattle.fwupd_jobs.specs.Promises.{IsPromisedRun}
use Rattle.fwupd_watch.specs.Recordings.{HasRecordedSteps}
use Rattle.fwupd_nodes.specs.Sessions.{UndoneOf, undone_in}
use Rattle.fwupd_watch.specs.Files.{FileOf}
use Rattle.fwupd_watch.specs.Inputs.{inputs_of}
use Rattle.fwupd_watch.specs.Running.{IsCaused, UpdateOk, ShowOf, RunsSteps, RunsStepsSeen, UpdatesDevices, ObserverOf, shown_of, starts_of}
use Rattle.fwupd_watch.specs.Apart.{IsApart, IsBarred}
use Rattle.fwupd_nodes.specs.Setups.{ChosenSetupFails, ChosenStoresFail, IsSetup, LacksChosen, LacksChosenPackage, SourceOf, chosen_in, have_packages}
use Rattle.fwupd_watch.specs.declared.faults.JobFault.{JobFault}
use Rattle.fwupd_watch.specs.declared.faults.JobFault.TheVariants as faults

-- A link to a device has the requested roughness, and random numbers of its own: a stream of the
-- seed.
abbrev pub IsRoughLink : Roughness → (device : ℕ) → Roughness → Lcg → Type 0
IsRoughLink asked device roughness generator = (roughness ≡ asked) × (generator ≡ started 64 multiplier_64 asked.seed (increment_of 64 device))

-- Each of the links is that of the device at its place, in a network with its transmission unit.
abbrev pub HaveLinks : {L : Type 0} → («Unit» → (device : ℕ) → L → Type 0) → List SiteOf → List L → Type 0
HaveLinks IsTo [] [] = Prim.Unit {0}
HaveLinks IsTo (x ∷ xs) (link ∷ links) = IsTo x.node.half.unit x.node.endpoint.eid link × HaveLinks IsTo xs links
HaveLinks IsTo xs links = ⊥

-- The link to a device of a world can't be opened, which may happen.
pub record IsUnlinked (w : WorldOf) (lacks : ℕ → Bool) (told : JobFault) : Type 0 where
  pub place : ℕ
  pub site : SiteOf
  pub at : slice_get w.sites place ≡ Some site
  pub is : told ≡ faults.Socket site.node.endpoint.eid
  pub lacking : lacks site.node.endpoint.eid ≡ true

-- The link at this device's place is the first that has failed.
pub record IsLost (w : WorldOf) (failures : List ℕ) (device : ℕ) : Type 0 where
  pub place : ℕ
  pub count : ℕ
  pub first : AllByRecursion (λ n. n ≡ 0) (take place failures)
  pub failed : slice_get failures place ≡ Some (suc count)
  pub site : SiteOf
  pub at : slice_get w.sites place ≡ Some site
  pub is : device ≡ site.node.endpoint.eid

-- The observer got that link's device.
pub record TellsLost (w : WorldOf) (failures : List ℕ) (lost : Option ℕ) : Type 0 where
  pub device : ℕ
  pub first : IsLost w failures device
  pub told : lost ≡ Some device

-- The observer got a device of this world.
pub record NamesLost (w : WorldOf) (lost : Option ℕ) : Type 0 where
  pub place : ℕ
  pub site : SiteOf
  pub at : slice_get w.sites place ≡ Some site
  pub is : lost ≡ Some site.node.endpoint.eid

-- The result of a run over links that failed: the report of the world that was reached is written,
-- or a beginning of it, or nothing.
abbrev pub DrivingEnds : (numbers : ℕ → ℕ) (form : Form) (lacks : ℕ → Bool) (w v : WorldOf) → JobFault → ObserverOf → (before now : OutputOf) → Type 0
DrivingEnds numbers form lacks w v told watched before now =
    (IsCaused numbers w v told watched × WritesOutput before now (report_in form v))
    ⊎ (((told ≡ faults.Output) × FailsToWriteOutput before now (report_in form v)) ⊎ (((told ≡ faults.Memory) ⊎ IsUnlinked w lacks told) × (now ≡ before)))

-- The world of the chosen devices of a configuration, each of which has a package of its number.
pub record IsNumberedSetup (files : List ℕ → FileOf) (config : SourceOf) (numbers : ℕ → ℕ) (w : WorldOf) : Type 0 where
  pub setup : IsSetup files config w
  pub numbered : have_packages numbers (length setup.config.packages) (chosen_in config.chosen setup.config.devices) ≡ true

-- The world of a configuration of which no output overwrites a file.
pub record IsObservedSetup (files : List ℕ → FileOf) (config : SourceOf) (numbers : ℕ → ℕ) (show : ShowOf) (w : WorldOf) : Type 0 where
  pub named : IsNumberedSetup files config numbers w
  pub apart : IsApart files show (inputs_of config.config named.setup.config.packages)

-- The updates of the first devices were started, the run took steps, and of the world is promised
-- what is of every run of these steps.
pub record IsPromisedUpdate (numbers : ℕ → ℕ) (w v : WorldOf) : Type 0 where
  pub reached : RunsSteps numbers w v
  pub promised : IsPromisedRun w (starts_of numbers (take reached.started w.sites) ++ reached.steps) v

-- The report of an update of the world of a configuration's file is written. The observer showed
-- the requested outputs, saw each turn, had no fault, got no failed link, and has ended. `undone`
-- are the sessions of that world that aren't Done.
pub record ReportsUpdate (files : List ℕ → FileOf) (config : SourceOf) (numbers : ℕ → ℕ) (show : ShowOf) (watched : ObserverOf) (before now : OutputOf) (undone : UndoneOf) : Type 0 where
  pub world : WorldOf
  pub begins : IsObservedSetup files config numbers show world
  pub shown : watched.shows ≡ shown_of show
  pub left : WorldOf
  pub updated : UpdateOk numbers world left
  pub promised : IsPromisedUpdate numbers world left
  pub seen : watched.fault ≡ None
  pub turns : UpdatesDevices numbers world left watched.seen
  pub none_lost : watched.lost ≡ None
  pub let_end : watched.has_ended ≡ true
  pub undone_is : undone ≡ undone_in left
  pub recorded : IfSome watched.recording (HasRecordedSteps world left)
  pub kept_up : HasHistoryLinesIfAny watched.history left.history
  pub written : WritesOutput before now (report_in show.form left)

-- The report of the world that was reached is written. If a link failed, the observer got a device
-- of that world. If the observer had no fault of its own, the steps to that world are recorded.
pub record ReportsReached (files : List ℕ → FileOf) (config : SourceOf) (numbers : ℕ → ℕ) (show : ShowOf) (told : JobFault) (watched : ObserverOf) (before now : OutputOf) : Type 0 where
  pub world : WorldOf
  pub begins : IsObservedSetup files config numbers show world
  pub shown : watched.shows ≡ shown_of show
  pub left : WorldOf
  pub promised : IsPromisedUpdate numbers world left
  pub caused : IsCaused numbers world left told watched
  pub sees : RunsStepsSeen numbers world left watched.seen
  pub lost : told ≡ faults.Edge edges.Frame → NamesLost left watched.lost
  pub recorded : watched.fault ≡ None → IfSome watched.recording (HasRecordedSteps world left)
  pub kept_up : MayHaveHistoryLines watched.history left.history
  pub written : WritesOutput before now (report_in show.form left)

-- A beginning of the report is written.
pub record BreaksReport (files : List ℕ → FileOf) (config : SourceOf) (numbers : ℕ → ℕ) (show : ShowOf) (told : JobFault) (before now : OutputOf) : Type 0 where
  pub is : told ≡ faults.Output
  pub world : WorldOf
  pub begins : IsObservedSetup files config numbers show world
  pub left : WorldOf
  pub promised : IsPromisedUpdate numbers world left
  pub begun : FailsToWriteOutput before now (report_in show.form left)

-- The observer doesn't begin, before a link is opened.
pub record LacksTrace (files : List ℕ → FileOf) (config : SourceOf) (numbers : ℕ → ℕ) (show : ShowOf) (refuses : List ℕ → Bool) (told : JobFault) (watched : ObserverOf) : Type 0 where
  pub world : WorldOf
  pub named : IsNumberedSetup files config numbers world
  pub barred : IsBarred files refuses show (inputs_of config.config named.setup.config.packages) told watched

-- A link to a device of the configuration can't be opened.
pub record LacksLink (files : List ℕ → FileOf) (config : SourceOf) (numbers : ℕ → ℕ) (show : ShowOf) (lacks : ℕ → Bool) (told : JobFault) : Type 0 where
  pub world : WorldOf
  pub begins : IsObservedSetup files config numbers show world
  pub unlinked : IsUnlinked world lacks told

-- The run doesn't begin: memory was refused, or a world, a package, a store, a trace, a link or a
-- chosen device is missing.
abbrev pub LacksUpdate : (files : List ℕ → FileOf) (config : SourceOf) (numbers : ℕ → ℕ) (show : ShowOf) (refuses : List ℕ → Bool) (lacks : ℕ → Bool) (told : JobFault) (watched : ObserverOf) → Type 0
LacksUpdate files config numbers show refuses lacks told watched =
    (told ≡ faults.Memory)
    ⊎ (ChosenSetupFails files config numbers told
    ⊎ (((told ≡ faults.NoPackage) × LacksChosenPackage files config numbers)
    ⊎ (ChosenStoresFail files config numbers told ⊎ (LacksTrace files config numbers show refuses told watched ⊎ (LacksLink files config numbers show lacks told ⊎ LacksChosen files config told)))))

-- The result of an update that failed. If the run doesn't begin, nothing is written.
abbrev pub UpdateEnds : (files : List ℕ → FileOf) (config : SourceOf) (numbers : ℕ → ℕ) (show : ShowOf) (refuses : List ℕ → Bool) (lacks : ℕ → Bool) (told : JobFault) (watched : ObserverOf) (before now : OutputOf) → Type 0
UpdateEnds files config numbers show refuses lacks told watched before now =
    ReportsReached files config numbers show told watched before now
    ⊎ (BreaksReport files config numbers show told before now ⊎ (LacksUpdate files config numbers show refuses lacks told watched × (now ≡ before)))
