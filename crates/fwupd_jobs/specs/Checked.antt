-- The output of a run over links, and its end if each session has to be Done.
use Rattle.std.specs.Prelude.{ℕ, ◌≡◌, ◌⊎◌, Bool, true, List}
use Rattle.fwupd_watch.specs.Outputs.{OutputOf}
use Rattle.fwupd_base.specs.PackageChoices.{number_for}
use Rattle.fwupd_jobs.specs.Updated.{ReportsUpdate, UpdateEnds}
use Rattle.fwupd_watch.specs.Running.{ShowOf, ObserverOf}
use Rattle.fwupd_nodes.specs.Sessions.{AllDone, TellsUndone, UndoneOf}
use Rattle.fwupd_watch.specs.Files.{FileOf}
use Rattle.fwupd_nodes.specs.Setups.{SourceOf, chosen_source}
use Rattle.fwupd_words.specs.declared.asked.Order.{Order}
use Rattle.fwupd_watch.specs.declared.faults.JobFault.{JobFault}

-- The report of the chosen devices of a configuration is written. If that is requested, each
-- session of its world is Done.
pub record ReportsChecked (files : List ℕ → FileOf) (config : SourceOf) (order : Order) (show : ShowOf) (watched : ObserverOf) (before now : OutputOf) : Type 0 where
  pub undone : UndoneOf
  pub reports : ReportsUpdate files (chosen_source config order.devices) (number_for order.packages) show watched before now undone
  pub all_done : order.is_checked ≡ true → AllDone reports.left

-- The report is written, and the fault names the sessions of its world that aren't Done.
pub record ReportsUndone (files : List ℕ → FileOf) (config : SourceOf) (order : Order) (show : ShowOf) (told : JobFault) (watched : ObserverOf) (before now : OutputOf) : Type 0 where
  pub asked : order.is_checked ≡ true
  pub undone : UndoneOf
  pub reports : ReportsUpdate files (chosen_source config order.devices) (number_for order.packages) show watched before now undone
  pub tells : TellsUndone undone told

-- The result of a run that failed.
abbrev pub CheckedEnds : (files : List ℕ → FileOf) (config : SourceOf) (order : Order) (show : ShowOf) (refuses : List ℕ → Bool) (lacks : ℕ → Bool) (told : JobFault) (watched : ObserverOf) (before now : OutputOf) → Type 0
CheckedEnds files config order show refuses lacks told watched before now =
    ReportsUndone files config order show told watched before now
    ⊎ UpdateEnds files (chosen_source config order.devices) (number_for order.packages) show refuses lacks told watched before now
