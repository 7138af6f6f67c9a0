-- A soak of the devices of a configuration, and its result.
use Rattle.std.proofs.Common.{◌≡◌, ◌∙◌, ℕ, Bool, Err, IfErr, List, Ok, Option, Result, None, Some, ap, inl, inr, map, refl, subst, Vec, String, Global}
use Rattle.std.specs.List.{AllByRecursion}
use Rattle.std.specs.Prelude.{IfSome, IsSomeAnd, option_map, string_bytes}
use Rattle.fw_package.specs.Package.{PackageText}
use Rattle.fw_package.specs.Reading.{package_of}
use Rattle.fw_script.specs.Seen.{config_seen, device_of}
use Rattle.fw_script.specs.declared.config.Config.{Config}
use Rattle.fw_script.specs.declared.config.DeviceConfig.{DeviceConfig}
use Rattle.fw_soak.specs.Summaries.{SoakOk}
use Rattle.fw_soak.specs.SummaryTexts.{summary_in}
use Rattle.fwupd_base.specs.declared.forms.Form.{Form}
use Rattle.fw_soak.specs.declared.summary.Summary.{Summary}
use Rattle.fw_steps.specs.declared.step.Step.{Step}
use Rattle.fwupd_words.specs.declared.asked.SoakOrder.{SoakOrder}
use Rattle.fwupd_watch.specs.Outputs.{FailsToWriteOutput, OutputOf, WritesOutput}
use Rattle.fwupd_nodes.specs.Setups.{ArePacked, IsConfigured}
use Rattle.fwupd_base.specs.ImageFiles.{ConfigSourceOf}
use Rattle.fwupd_watch.specs.Files.{FileOf, IsApartFrom, IsOverOne}
use Rattle.fwupd_watch.specs.Inputs.{inputs_of}
use Rattle.fwupd_jobs.specs.Soaked.{ReportsViolation, SoakEnds, Soaks, SoaksClean, WouldWriteOver, setup_of_config}
use Rattle.fwupd_watch.specs.declared.faults.JobFault.{JobFault}
use Rattle.fwupd_watch.specs.declared.faults.JobFault.TheVariants as faults
use Rattle.fwupd_nodes.proofs.Packed.{packages_so, through}

-- both hold of a fault
pub both_of : {A E : Type 0} (r : Result A E) (P Q : E → Type 0) → IfErr r P → IfErr r Q → IfErr r (λ e. P e × Q e)
both_of (Ok x) P Q p q = tt
both_of (Err e) P Q p q = (p, q)

-- the runs of a configuration in a file
pub soaks_so : (files : List ℕ → FileOf) (source : ConfigSourceOf) (config : Config) (names : List (String Global)) (contents slice : List (Vec ℕ Global)) (ps packs : List PackageText)
    (devices : List DeviceConfig) (file : Option (List ℕ)) (runs : ℕ) (sum : Summary) (kept : Option (List Step)) → IsConfigured files source (config_seen config) → names ≡ config.packages.items
    → ArePacked files (map (λ p. string_bytes p) names) (map (λ f. f.items) contents) → IfSome file (λ p. AllByRecursion (IsApartFrom files p) (inputs_of source (map (λ s. string_bytes s) config.packages.items))) → slice ≡ contents → map (λ p. Ok p) ps ≡ map (λ f. package_of f.items) slice
    → packs ≡ ps → devices ≡ config.devices.items
    → SoakOk (record { agent = config.agent; unit = config.unit; devices = map device_of devices; packages = packs }) runs sum kept → Soaks files source file runs sum kept
soaks_so files source config names contents slice ps packs devices file runs sum kept says named packed apart same read lent all soaked = record {
  config = config_seen config;
  packages = ps;
  says = says;
  are =
      packages_so files (map (λ p. string_bytes p) config.packages.items) (map (λ f. f.items) contents) ps
      (subst (λ ns. ArePacked files (map (λ p. string_bytes p) ns) (map (λ f. f.items) contents)) named packed)
      (read ∙ ap (map (λ f. package_of f.items)) same ∙ through contents);
  apart = apart;
  soaked =
      subst (λ qs. SoakOk (setup_of_config (config_seen config) qs) runs sum kept) lent
      (subst (λ ds. SoakOk (record { agent = config.agent; unit = config.unit; devices = map device_of ds; packages = packs }) runs sum kept) all soaked);
}

-- the packages of a configuration, and the file for the steps, which overwrites an input
pub written_over : (files : List ℕ → FileOf) (source : ConfigSourceOf) (config : Config) (names : List (String Global)) (contents slice : List (Vec ℕ Global)) (ps : List PackageText) (file : Option (List ℕ)) (told : JobFault) → told ≡ faults.Record
    → IsConfigured files source (config_seen config) → names ≡ config.packages.items → ArePacked files (map (λ p. string_bytes p) names) (map (λ f. f.items) contents) → slice ≡ contents
    → map (λ p. Ok p) ps ≡ map (λ f. package_of f.items) slice → IsSomeAnd file (λ p. IsOverOne files p (inputs_of source (map (λ s. string_bytes s) config.packages.items))) → WouldWriteOver files source file told
written_over files source config names contents slice ps file told is says named packed same read over = record {
  is = is;
  config = config_seen config;
  says = says;
  packages = ps;
  are =
      packages_so files (map (λ p. string_bytes p) config.packages.items) (map (λ f. f.items) contents) ps
      (subst (λ ns. ArePacked files (map (λ p. string_bytes p) ns) (map (λ f. f.items) contents)) named packed)
      (read ∙ ap (map (λ f. package_of f.items)) same ∙ through contents);
  over = over;
}

-- an optional value is none if its image is
pub unmapped : {A B : Type 0} (f : A → B) (o : Option A) → option_map f o ≡ None → o ≡ None
unmapped f None e = refl
unmapped f (Some x) e = absurd (cc)

-- no run had a violation
pub ends_clean : (files : List ℕ → FileOf) (source : ConfigSourceOf) (order : SoakOrder) (form : Form) (file : Option (List ℕ)) (sum : Summary) (kept : Option (List Step)) (before now : OutputOf) → kept ≡ None
    → Soaks files source file order.runs sum kept → sum.violations ≡ 0 → WritesOutput before now (summary_in form sum) → SoaksClean files source order form file before now
ends_clean files source order form file sum kept before now e h none written = record {
  sum = sum;
  soaks = subst (Soaks files source file order.runs sum) e h;
  none = none;
  written = written;
}

-- a run had a violation
pub ends_wrong : (files : List ℕ → FileOf) (source : ConfigSourceOf) (order : SoakOrder) (form : Form) (file : Option (List ℕ)) (told : JobFault) (is_known : Bool) (held : List ℕ → Option (List ℕ)) (sum : Summary)
    (kept : Option (List Step)) (before now : OutputOf) → ReportsViolation kept file told is_known held → Soaks files source file order.runs sum kept → WritesOutput before now (summary_in form sum)
    → SoakEnds files source order form file told is_known held before now
ends_wrong files source order form file told is_known held sum None before now judged h written = absurd judged
ends_wrong files source order form file told is_known held sum (Some steps) before now judged h written =
    inl (record { sum = sum; steps = steps; soaks = h; written = written; judged = judged })

-- the totals aren't written as a whole
pub ends_broken : (files : List ℕ → FileOf) (source : ConfigSourceOf) (order : SoakOrder) (form : Form) (file : Option (List ℕ)) (told : JobFault) (is_known : Bool) (held : List ℕ → Option (List ℕ)) (sum : Summary)
    (kept : Option (List Step)) (before now : OutputOf) → told ≡ faults.Output → Soaks files source file order.runs sum kept → FailsToWriteOutput before now (summary_in form sum)
    → SoakEnds files source order form file told is_known held before now
ends_broken files source order form file told is_known held sum kept before now is h begun =
    inr (inl (record { is = is; sum = sum; kept = kept; soaks = h; begun = begun }))
