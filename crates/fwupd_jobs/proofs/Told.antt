-- The faults of a job on a world.
use Rattle.std.proofs.Common.{◌++◌, ◌∷◌, arith, sym, take, true, false, ◌≡◌, ◌⊎◌, ◌<◌, ◌+◌, ℕ, Bool, Global, List, String, Option, None, Some, inl, inr, length, map, refl, ap, subst}
use Rattle.std.specs.Prelude.{IfSome, string_bytes}
use Rattle.std.proofs.lemmas.List.{take_all}
use Rattle.fw_json.specs.Forms.{report_in}
use Rattle.fwupd_base.specs.declared.forms.Form.{Form}
use Rattle.fw_script.specs.Configs.{ConfigOf, DeviceConfigOf}
use Rattle.fw_script.specs.Schedules.{script_of}
use Rattle.fw_script.specs.Seen.{config_seen, device_of}
use Rattle.fw_script.specs.declared.config.Config.{Config}
use Rattle.fw_edge.proofs.Going.{run_append}
use Rattle.fw_steps.specs.Clocks.{RunsKeepTime}
use Rattle.fw_steps.specs.Opening.{IsOpeningWorld, new_world}
use Rattle.fw_steps.specs.Promises.{RunsArePromised, RunsStayTied}
use Rattle.fw_steps.specs.Steps.{Run}
use Rattle.fw_steps.specs.Worlds.{WorldOf}
use Rattle.fw_steps.specs.declared.step.Step.{Step}
use Rattle.fw_steps.specs.declared.step.StepFault.{StepFault}
use Rattle.fwupd_jobs.specs.Replayed.{IsReplayed, IsReport, LeavesWorld, ReplayEnds, Reports, ReportsReplay, steps_taken}
use Rattle.fwupd_watch.specs.Histories.{MayHaveHistoryLines}
use Rattle.fwupd_watch.specs.Outputs.{FailsToWriteOutput, OutputOf, WritesOutput}
use Rattle.fwupd_watch.specs.Recordings.{HasRecordedSteps}
use Rattle.fwupd_watch.specs.declared.running.ObserverFault.{ObserverFault}
use Rattle.fwupd_jobs.specs.Updated.{DrivingEnds, IsPromisedUpdate, IsUnlinked, IsObservedSetup, LacksLink, LacksTrace, NamesLost, UpdateEnds}
use Rattle.fwupd_watch.specs.Apart.{IsApart, IsBarred}
use Rattle.fwupd_watch.specs.Running.{IsBrokenRun, ShowOf, RunsSteps, RunsStepsSeen, ObserverOf, shown_of, starts_of, job_fault_of_observer}
use Rattle.fwupd_watch.specs.Files.{FileOf}
use Rattle.fwupd_watch.specs.Inputs.{inputs_of}
use Rattle.fwupd_nodes.specs.Setups.{AreChosen, AreConfigured, AreDevices, ArePackages, ChoiceFails, ChosenSetupFails, ChosenStoresFail, IsConfigured, IsSetup, LacksChosen, LacksChosenPackage, PackagesFail, Says, SourceOf, StoresFail, TellsStore, TextFails, chosen_in, have_packages}
use Rattle.fw_package.specs.Package.{PackageText}
use Rattle.fw_setup.specs.Nodes.{nodes_made}
use Rattle.fwupd_jobs.proofs.Numbered.{numbered_in}
use Rattle.fw_edge.specs.declared.driving.EdgeFault.TheVariants as edges
use Rattle.fwupd_watch.specs.declared.faults.JobFault.{JobFault}
use Rattle.fwupd_watch.specs.declared.faults.JobFault.TheVariants as faults

-- the world after the steps is safe
pub safe_reached : (numbers : ℕ → ℕ) (w v : WorldOf) → RunsArePromised → IsOpeningWorld w → RunsSteps numbers w v → IsPromisedUpdate numbers w v
safe_reached numbers w v law opens h = record {
  reached = h;
  promised = record { begins = opens; promised = law w v (starts_of numbers (take h.started w.sites) ++ h.steps) opens h.run };
}

-- a replay is a run of the steps that were taken
run_left : (w v : WorldOf) (steps : List Step) (fault : Option (ℕ × StepFault)) → LeavesWorld w steps fault v → Run w (steps_taken steps fault) v
run_left w v steps None h = subst (λ ss. Run w ss v) (sym (take_all (length steps) steps (omega arith))) h
run_left w v steps (Some f) h = h.1

-- The laws of runs from an opening world.
pub record ReplayLaws : Type 0 where
  pub promised : RunsArePromised
  pub tied : RunsStayTied
  pub time : RunsKeepTime

-- the world after a replay is safe, and tied with the first
pub replayed_by : (w x v : WorldOf) (steps : List Step) (fault : Option (ℕ × StepFault)) (form : Form) (text : List ℕ) → x ≡ w → IsOpeningWorld x → ReplayLaws
    → LeavesWorld x steps fault v → text ≡ report_in form v → IsReplayed w steps fault form text
replayed_by w x v steps fault form text is opens laws left report =
    let run = run_left x v steps fault left in
    subst (λ z. IsReplayed z steps fault form text) is (record {
      world = v;
      left = left;
      promised = record { begins = opens; promised = laws.promised x v (steps_taken steps fault) opens run };
      moments = λ earlier later before between first second. (
        (laws.promised x later (before ++ between) opens (run_append x earlier later before between first second)).safe,
        laws.tied x earlier later before between opens first second,
      );
      time = λ earlier later before between first second. laws.time x earlier later before between opens first second;
      report = report;
    })

-- the observer doesn't begin
pub unbegun : (files : List ℕ → FileOf) (source : SourceOf) (numbers : ℕ → ℕ) (show : ShowOf) (refuses : List ℕ → Bool) (lacks : ℕ → Bool) (told : JobFault) (watched : ObserverOf) (before : OutputOf)
    → (told ≡ faults.Memory) ⊎ LacksTrace files source numbers show refuses told watched → UpdateEnds files source numbers show refuses lacks told watched before before
unbegun files source numbers show refuses lacks told watched before (inl e) = inr (inr (inl e, refl))
unbegun files source numbers show refuses lacks told watched before (inr h) = inr (inr (inr (inr (inr (inr (inl h)))), refl))

-- a link can't be opened
unopened : (files : List ℕ → FileOf) (source : SourceOf) (numbers : ℕ → ℕ) (show : ShowOf) (refuses : List ℕ → Bool) (lacks : ℕ → Bool) (w : WorldOf) (told : JobFault) (watched : ObserverOf) → IsObservedSetup files source numbers show w
    → (told ≡ faults.Memory) ⊎ IsUnlinked w lacks told
    → (told ≡ faults.Memory)
    ⊎ (ChosenSetupFails files source numbers told
    ⊎ (((told ≡ faults.NoPackage) × LacksChosenPackage files source numbers)
    ⊎ (ChosenStoresFail files source numbers told ⊎ (LacksTrace files source numbers show refuses told watched ⊎ (LacksLink files source numbers show lacks told ⊎ LacksChosen files source told)))))
unopened files source numbers show refuses lacks w told watched begins (inl e) = inl e
unopened files source numbers show refuses lacks w told watched begins (inr u) =
    inr (inr (inr (inr (inr (inl (record { world = w; begins = begins; unlinked = u }))))))

-- a run over links that failed
pub update_ends : (files : List ℕ → FileOf) (source : SourceOf) (numbers : ℕ → ℕ) (show : ShowOf) (refuses : List ℕ → Bool) (lacks : ℕ → Bool) (w v : WorldOf) (told : JobFault) (watched : ObserverOf) (before now : OutputOf)
    → IsObservedSetup files source numbers show w → watched.shows ≡ shown_of show → IsPromisedUpdate numbers w v → RunsStepsSeen numbers w v watched.seen → (told ≡ faults.Edge edges.Frame → NamesLost v watched.lost)
    → (IsBrokenRun told → watched.fault ≡ None → IfSome watched.recording (HasRecordedSteps w v)) → (IsBrokenRun told → MayHaveHistoryLines watched.history v.history) → DrivingEnds numbers show.form lacks w v told watched before now
    → UpdateEnds files source numbers show refuses lacks told watched before now
update_ends files source numbers show refuses lacks w v told watched before now begins shown promised sees lost recorded kept (inl h) =
    inl (record { world = w; begins = begins; shown = shown; left = v; promised = promised; caused = h.0; sees = sees; lost = lost; recorded = recorded h.0.broken; kept_up = kept h.0.broken; written = h.1 })
update_ends files source numbers show refuses lacks w v told watched before now begins shown promised sees lost recorded kept (inr (inl h)) =
    inr (inl (record { is = h.0; world = w; begins = begins; left = v; promised = promised; begun = h.1 }))
update_ends files source numbers show refuses lacks w v told watched before now begins shown promised sees lost recorded kept (inr (inr h)) =
    inr (inr (unopened files source numbers show refuses lacks w told watched begins h.0, h.1))

-- a chosen device is missing, or has no package of its number
pub choice_end : (files : List ℕ → FileOf) (source : SourceOf) (numbers : ℕ → ℕ) (show : ShowOf) (refuses : List ℕ → Bool) (lacks : ℕ → Bool) (told : JobFault) (watched : ObserverOf) (before : OutputOf) (config : Config) (count : ℕ)
    → IsConfigured files source.config (config_seen config) → count ≡ config.packages.len → ChoiceFails source.chosen numbers count (map device_of config.devices.items) told
    → UpdateEnds files source numbers show refuses lacks told watched before before
choice_end files source numbers show refuses lacks told watched before config count says is (inl missing) =
    inr (inr (inr (inr (inr (inr (inr (inr (record { config = config_seen config; says = says; missing = missing })))))), refl))
choice_end files source numbers show refuses lacks told watched before config count says is (inr (same, there, none)) =
    let pick : AreChosen source.chosen (map device_of config.devices.items) (chosen_in source.chosen (map device_of config.devices.items)) = record { there = there; are = refl } in
    inr (inr (
      inr (inr (inl (
        same,
        record {
          config = config_seen config;
          says = says;
          there = there;
          none = numbered_in source numbers config count (chosen_in source.chosen (map device_of config.devices.items)) false pick is none;
        },
      ))),
      refl,
    ))

-- a package can't be read
pub packages_end : (files : List ℕ → FileOf) (source : SourceOf) (numbers : ℕ → ℕ) (show : ShowOf) (refuses : List ℕ → Bool) (lacks : ℕ → Bool) (told : JobFault) (watched : ObserverOf) (before : OutputOf) (config : Config) (count : ℕ)
    (picked : List DeviceConfigOf) (slice : List (String Global)) → IsConfigured files source.config (config_seen config) → AreChosen source.chosen (map device_of config.devices.items) picked → count ≡ config.packages.len
    → have_packages numbers count picked ≡ true → slice ≡ config.packages.items → (told ≡ faults.Memory) ⊎ PackagesFail files (map (λ q. string_bytes q) slice) told
    → UpdateEnds files source numbers show refuses lacks told watched before before
packages_end files source numbers show refuses lacks told watched before config count picked slice says pick is numbered same (inl e) = inr (inr (inl e, refl))
packages_end files source numbers show refuses lacks told watched before config count picked slice says pick is numbered same (inr fails) =
    inr (inr (
      inr (inl (inr (record {
        config = config_seen config;
        says = says;
        there = pick.there;
        numbered = numbered_in source numbers config count picked true pick is numbered;
        fail = subst (λ xs. PackagesFail files (map (λ q. string_bytes q) xs) told) same fails;
      }))),
      refl,
    ))

-- the store of a device can't be opened
pub stores_end : (files : List ℕ → FileOf) (source : SourceOf) (numbers : ℕ → ℕ) (show : ShowOf) (refuses : List ℕ → Bool) (lacks : ℕ → Bool) (told : JobFault) (watched : ObserverOf) (before : OutputOf)
    → (told ≡ faults.Memory) ⊎ ChosenStoresFail files source numbers told → UpdateEnds files source numbers show refuses lacks told watched before before
stores_end files source numbers show refuses lacks told watched before (inl e) = inr (inr (inl e, refl))
stores_end files source numbers show refuses lacks told watched before (inr h) = inr (inr (inr (inr (inr (inl h))), refl))

pub stores_end_replay : (files : List ℕ → FileOf) (config : SourceOf) (schedule : List ℕ) (show : ShowOf) (refuses : List ℕ → Bool) (told : JobFault) (watched : ObserverOf) (before : OutputOf)
    → (told ≡ faults.Memory) ⊎ StoresFail files config told → ReplayEnds files config schedule show refuses told watched before before
stores_end_replay files config schedule show refuses told watched before (inl e) = inr (inr (inl (inl e, refl)))
stores_end_replay files config schedule show refuses told watched before (inr h) = inr (inr (inl (inr (inr (inl h)), refl)))

-- a package can't be read
pub packages_end_replay : (files : List ℕ → FileOf) (config : SourceOf) (schedule : List ℕ) (show : ShowOf) (refuses : List ℕ → Bool) (told : JobFault) (watched : ObserverOf) (before : OutputOf) (c : ConfigOf) (paths : List (List ℕ))
    → IsConfigured files config.config c → paths ≡ c.packages → (told ≡ faults.Memory) ⊎ PackagesFail files paths told → ReplayEnds files config schedule show refuses told watched before before
packages_end_replay files config schedule show refuses told watched before c paths says are (inl e) = inr (inr (inl (inl e, refl)))
packages_end_replay files config schedule show refuses told watched before c paths says are (inr h) =
    inr (inr (inl (inr (inl (inr (record { config = c; says = says; fail = subst (λ ps. PackagesFail files ps told) are h }))), refl)))

-- later faults aren't those of a store
pub barred_of_none : (files : List ℕ → FileOf) (refuses : List ℕ → Bool) (show : ShowOf) (paths : List (List ℕ)) (told : JobFault) (watched : ObserverOf)
    → (told ≡ faults.Memory) ⊎ IsBarred files refuses show paths told watched → TellsStore told → ⊥
barred_of_none files refuses show paths (faults.Store device why) watched (inl e) tells = subst TellsStore e tells
barred_of_none files refuses show paths (faults.Store device why) watched (inr (inl h)) tells = h
barred_of_none files refuses show paths (faults.Store device why) watched (inr (inr h)) tells = h.1.1
barred_of_none files refuses show paths told watched h tells = tells

broken_of_none : (told : JobFault) → IsBrokenRun told → TellsStore told → ⊥
broken_of_none (faults.Store device why) broken tells = broken
broken_of_none told broken tells = tells

nothing_of_none : (w : WorldOf) (lacks : ℕ → Bool) (told : JobFault) → (told ≡ faults.Memory) ⊎ IsUnlinked w lacks told → TellsStore told → ⊥
nothing_of_none w lacks told (inl e) tells = subst TellsStore e tells
nothing_of_none w lacks told (inr u) tells = subst TellsStore u.is tells

pub driven_of_none : (numbers : ℕ → ℕ) (form : Form) (lacks : ℕ → Bool) (w v : WorldOf) (told : JobFault) (watched : ObserverOf) (before now : OutputOf) → DrivingEnds numbers form lacks w v told watched before now
    → TellsStore told → ⊥
driven_of_none numbers form lacks w v told watched before now (inl h) tells = broken_of_none told h.0.broken tells
driven_of_none numbers form lacks w v told watched before now (inr (inl h)) tells = subst TellsStore h.0 tells
driven_of_none numbers form lacks w v told watched before now (inr (inr h)) tells = nothing_of_none w lacks told h.0 tells

-- a replay whose schedule can't be read
pub schedule_ends : (files : List ℕ → FileOf) (config : SourceOf) (schedule : List ℕ) (show : ShowOf) (refuses : List ℕ → Bool) (w : WorldOf) (told : JobFault) (watched : ObserverOf) (before : OutputOf) → IsSetup files config w
    → (told ≡ faults.Memory) ⊎ TextFails script_of files schedule told → ReplayEnds files config schedule show refuses told watched before before
schedule_ends files config schedule show refuses w told watched before setup (inl e) = inr (inr (inl (inl e, refl)))
schedule_ends files config schedule show refuses w told watched before setup (inr f) =
    inr (inr (inl (inr (inr (inr (record { world = w; setup = setup; fails = f }))), refl)))

-- a replay whose observer doesn't begin
pub unkept_ends : (files : List ℕ → FileOf) (config : SourceOf) (schedule : List ℕ) (show : ShowOf) (refuses : List ℕ → Bool) (c : ConfigOf) (packages : List PackageText) (devices : List DeviceConfigOf) (steps : List Step)
    (told : JobFault) (watched : ObserverOf) (before : OutputOf) (paths : List (List ℕ)) → IsConfigured files config.config c → ArePackages files c.packages packages → AreConfigured config.chosen c.devices
    → AreDevices config.stores (chosen_in config.chosen c.devices) devices → Says script_of (files schedule) steps → paths ≡ c.packages
    → (told ≡ faults.Memory) ⊎ IsBarred files refuses show (schedule ∷ inputs_of config.config paths) told watched → ReplayEnds files config schedule show refuses told watched before before
unkept_ends files config schedule show refuses c packages devices steps told watched before paths says are there stocked script same (inl e) = inr (inr (inl (inl e, refl)))
unkept_ends files config schedule show refuses c packages devices steps told watched before paths says are there stocked script same (inr b) = inr (inr (inr (inr (
  record {
    world = new_world c.agent (nodes_made c.unit c.agent.eid devices) packages;
    setup = record { config = c; packages = packages; devices = devices; says = says; are = are; there = there; stocked = stocked; world = refl };
    steps = steps;
    says = script;
    barred = subst (λ ps. IsBarred files refuses show (schedule ∷ inputs_of config.config ps) told watched) same b;
  },
  refl,
))))

-- a replay whose report is written, and whose observer had a fault
pub unseen_ends : (files : List ℕ → FileOf) (config : SourceOf) (schedule : List ℕ) (show : ShowOf) (refuses : List ℕ → Bool) (fault : ObserverFault) (told : JobFault) (watched : ObserverOf) (before now : OutputOf)
    → Reports files config schedule show.form None before now → told ≡ job_fault_of_observer fault → watched.fault ≡ Some fault → watched.has_ended ≡ true → ReplayEnds files config schedule show refuses told watched before now
unseen_ends files config schedule show refuses fault told watched before now reports is had ended =
    inr (inr (inr (inl (record { reports = reports; fault = fault; is = is; had = had; let_end = ended }))))

-- and one whose observer had none
pub seen_ends : (files : List ℕ → FileOf) (config : SourceOf) (schedule : List ℕ) (show : ShowOf) (watched : ObserverOf) (before now : OutputOf) (c : ConfigOf) (paths : List (List ℕ))
    → IsConfigured files config.config c → paths ≡ c.packages → IsApart files show (schedule ∷ inputs_of config.config paths) → watched.shows ≡ shown_of show → watched.fault ≡ None → watched.has_ended ≡ true
    → Reports files config schedule show.form None before now → ReportsReplay files config schedule show watched before now
seen_ends files config schedule show watched before now c paths says same apart shown seen ended reports = record {
  reports = reports;
  apart = record { says = c; is = says; apart = subst (λ ps. IsApart files show (schedule ∷ inputs_of config.config ps)) same apart };
  shown = shown;
  seen = seen;
  let_end = ended;
}

-- the report of the world after the steps
pub report_there : (files : List ℕ → FileOf) (config : SourceOf) (schedule : List ℕ) (form : Form) (w : WorldOf) (steps slice : List Step) (fault : Option (ℕ × StepFault)) (text : List ℕ)
    → IsSetup files config w → Says script_of (files schedule) steps → slice ≡ steps → IsReplayed w slice fault form text → IsReport files config schedule form fault text
report_there files config schedule form w steps slice fault text setup says same h =
    record { world = w; setup = setup; steps = steps; says = says; replayed = subst (λ ss. IsReplayed w ss fault form text) same h }

-- the report isn't written as a whole
pub breaks_off : (files : List ℕ → FileOf) (config : SourceOf) (schedule : List ℕ) (show : ShowOf) (refuses : List ℕ → Bool) (fault : Option (ℕ × StepFault)) (text : List ℕ) (watched : ObserverOf) (before now : OutputOf)
    → IsReport files config schedule show.form fault text → FailsToWriteOutput before now text → ReplayEnds files config schedule show refuses faults.Output watched before now
breaks_off files config schedule show refuses fault text watched before now report begun =
    inr (inl (record { is = refl; fault = fault; text = text; report = report; begun = begun }))

-- a step is refused
pub place_within : (w : WorldOf) (steps : List Step) (fault : Option (ℕ × StepFault)) (form : Form) (text : List ℕ) (place : ℕ) (why : StepFault) → IsReplayed w steps fault form text → fault ≡ Some (place, why)
    → place < length steps
place_within w steps fault form text place why h e = (subst (λ f. IsReplayed w steps f form text) e h).left.0

pub step_ends : (files : List ℕ → FileOf) (config : SourceOf) (schedule : List ℕ) (show : ShowOf) (refuses : List ℕ → Bool) (fault : Option (ℕ × StepFault)) (text : List ℕ) (place number : ℕ) (why : StepFault) (watched : ObserverOf) (before now : OutputOf)
    → IsReport files config schedule show.form fault text → fault ≡ Some (place, why) → number ≡ place + 1 → WritesOutput before now text
    → ReplayEnds files config schedule show refuses (faults.Step number why) watched before now
step_ends files config schedule show refuses fault text place number why watched before now report e is written = inl (record {
  place = place;
  fault = why;
  is = ap (λ n. faults.Step n why) is;
  reports = record { text = text; report = subst (λ f. IsReport files config schedule show.form f text) e report; written = written };
})

-- all steps are taken
pub replay_reports : (files : List ℕ → FileOf) (config : SourceOf) (schedule : List ℕ) (form : Form) (fault : Option (ℕ × StepFault)) (text : List ℕ) (before now : OutputOf)
    → IsReport files config schedule form fault text → fault ≡ None → WritesOutput before now text → Reports files config schedule form None before now
replay_reports files config schedule form fault text before now report e written =
    record { text = text; report = subst (λ f. IsReport files config schedule form f text) e report; written = written }
