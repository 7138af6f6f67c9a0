-- Runs whose sessions are checked, or not.
use Rattle.std.proofs.Common.{◌≡◌, ◌∙◌, ℕ, List, [], ap, false, true, sym}
use Rattle.fwupd_base.specs.PackageChoices.{number_for}
use Rattle.fwupd_jobs.specs.Checked.{ReportsChecked}
use Rattle.fwupd_watch.specs.Outputs.{OutputOf}
use Rattle.fwupd_jobs.specs.Updated.{ReportsUpdate}
use Rattle.fwupd_watch.specs.Running.{ShowOf, ObserverOf}
use Rattle.fwupd_watch.specs.Files.{FileOf}
use Rattle.fwupd_nodes.specs.Setups.{SourceOf, chosen_source}
use Rattle.fwupd_words.specs.declared.asked.Order.{Order}
use Rattle.fwupd_nodes.specs.Sessions.{UndoneOf, devices_at}
use Rattle.fwupd_nodes.proofs.Ended.{all_done}

-- each session is Done
pub checked_all : (files : List ℕ → FileOf) (config : SourceOf) (order : Order) (show : ShowOf) (watched : ObserverOf) (before now : OutputOf) (undone : UndoneOf)
    → ReportsUpdate files (chosen_source config order.devices) (number_for order.packages) show watched before now undone → undone.text ≡ [] → ReportsChecked files config order show watched before now
checked_all files config order show watched before now undone r none =
    record { undone = undone; reports = r; all_done = λ asked. all_done r.left.agent (devices_at r.left.sites) (ap (λ (u : UndoneOf). u.text) (sym r.undone_is) ∙ none) }

-- or the check isn't requested
pub checked_none : (files : List ℕ → FileOf) (config : SourceOf) (order : Order) (show : ShowOf) (watched : ObserverOf) (before now : OutputOf) (undone : UndoneOf)
    → ReportsUpdate files (chosen_source config order.devices) (number_for order.packages) show watched before now undone → order.is_checked ≡ false → ReportsChecked files config order show watched before now
checked_none files config order show watched before now undone r free =
    record { undone = undone; reports = r; all_done = λ asked. absurd (let bad : false ≡ true = sym free ∙ asked in cc) }

pub ruleset checking = (checked_all, checked_none)
