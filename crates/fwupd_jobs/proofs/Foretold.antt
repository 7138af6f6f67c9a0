-- The plans of the updates of a configuration's devices.
use Rattle.std.proofs.Common.{◌≡◌, ◌≤◌, ◌<◌, ◌∙◌, ◌⊎◌, ℕ, List, Ok, inl, inr, length, map, ap, arith, refl, subst, sym, Vec, String, Global}
use Rattle.std.specs.Prelude.{IsSomeAnd, string_bytes}
use Rattle.fw_package.specs.Package.{PackageText}
use Rattle.fw_package.specs.Reading.{package_of}
use Rattle.fw_script.specs.Seen.{config_seen, device_of}
use Rattle.fw_script.specs.declared.config.Config.{Config}
use Rattle.fw_script.specs.declared.config.DeviceConfig.{DeviceConfig}
use Rattle.ua_core.specs.Lent.{package_at}
use Rattle.fw_json.specs.Forms.{plan_in}
use Rattle.fwupd_base.specs.declared.forms.Form.{Form}
use Rattle.fwupd_watch.specs.Outputs.{FailsToWriteOutput, OutputOf}
use Rattle.fwupd_jobs.specs.Planned.{Forecasts, PlanEnds}
use Rattle.fwupd_nodes.specs.Setups.{AreDevices, ArePackages, ArePacked, IsConfigured, SourceOf, TellsUnopened}
use Rattle.fwupd_watch.specs.Files.{FileOf}
use Rattle.fwupd_watch.specs.declared.faults.JobFault.{JobFault}
use Rattle.fwupd_watch.specs.declared.faults.JobFault.TheVariants as faults
use Rattle.fw_edge.proofs.Rising.{map_length}
use Rattle.fwupd_nodes.proofs.Packed.{as_many, named_there, packages_so, through}

-- The text of a package among those of a configuration, for the devices with their stored images.
pub foretold : (files : List ℕ → FileOf) (source : SourceOf) (number : ℕ) (form : Form) (config : Config) (names : List (String Global)) (contents slice : List (Vec ℕ Global)) (ps lent : List PackageText)
    (p : PackageText) (stocked devices : List DeviceConfig) (text : List ℕ) → IsConfigured files source.config (config_seen config) → names ≡ config.packages.items
    → ArePacked files (map (λ q. string_bytes q) names) (map (λ f. f.items) contents) → slice ≡ contents → map (λ q. Ok q) ps ≡ map (λ f. package_of f.items) slice
    → lent ≡ ps → p ≡ package_at lent number → 1 ≤ number → number ≤ length lent → AreDevices source.stores (map device_of config.devices.items) (map device_of stocked) → devices ≡ stocked
    → text ≡ plan_in form number p (map device_of devices) → Forecasts files source number form text
foretold files source number form config names contents slice ps lent p stocked devices text says named packed same read are numbered counted there images all told = record {
  config = config_seen config;
  packages = ps;
  devices = map device_of stocked;
  says = says;
  are = named_there files config names contents slice ps named packed same read;
  counted = counted;
  there = subst (λ qs. number ≤ length qs) are there;
  stocked = images;
  is =
      told ∙ ap (λ q. plan_in form number q (map device_of devices)) (numbered ∙ ap (λ qs. package_at qs number) are)
      ∙ ap (λ xs. plan_in form number (package_at ps number) (map device_of xs)) all;
}

-- A package of a number within the configuration exists.
none_there : (n m number : ℕ) → n ≡ m → 1 ≤ number → number ≤ m → (number ≡ 0) ⊎ (n < number) → ⊥
none_there n m number same counted there (inl none) = absurd (omega arith)
none_there n m number same counted there (inr few) = absurd (omega arith)

pub package_there : (files : List ℕ → FileOf) (number count : ℕ) (names : List (String Global)) (contents slice : List (Vec ℕ Global)) (ps lent : List PackageText)
    → ArePacked files (map (λ q. string_bytes q) names) (map (λ f. f.items) contents) → slice ≡ contents → map (λ q. Ok q) ps ≡ map (λ f. package_of f.items) slice → lent ≡ ps → count ≡ length names
    → 1 ≤ number → number ≤ count → (number ≡ 0) ⊎ (length lent < number) → ⊥
package_there files number count names contents slice ps lent packed same read are all counted there none =
    none_there (length lent) count number
    (ap length are
    ∙ as_many files (map (λ q. string_bytes q) names) ps
    (packages_so files (map (λ q. string_bytes q) names) (map (λ f. f.items) contents) ps packed (read ∙ ap (map (λ f. package_of f.items)) same ∙ through contents))
    ∙ map_length (λ q. string_bytes q) names ∙ sym all)
    counted there none

-- The store of a device can't be read.
pub lacks_images : (files : List ℕ → FileOf) (source : SourceOf) (number : ℕ) (form : Form) (config : Config) (names : List (String Global)) (ps : List PackageText) (told : JobFault) (before : OutputOf)
    → IsConfigured files source.config (config_seen config) → names ≡ config.packages.items → ArePackages files (map (λ q. string_bytes q) config.packages.items) ps → 1 ≤ number → number ≤ length names
    → (told ≡ faults.Memory) ⊎ IsSomeAnd source.stores (λ s. TellsUnopened s (map device_of config.devices.items) told) → PlanEnds files source number form told before before
lacks_images files source number form config names ps told before says named are counted there (inl e) = inr (inl e, refl)
lacks_images files source number form config names ps told before says named are counted there (inr u) = inr (
  inr (inr (inr (record {
    fails = record { config = config_seen config; says = says; packages = ps; are = are; unopened = u };
    counted = counted;
    there = subst (λ n. number ≤ n) (ap length named ∙ sym (map_length (λ q. string_bytes q) config.packages.items)) there;
  }))),
  refl,
)

-- The plan isn't written as a whole.
pub plan_breaks : (files : List ℕ → FileOf) (source : SourceOf) (number : ℕ) (form : Form) (text : List ℕ) (told : JobFault) (before now : OutputOf) → told ≡ faults.Output → Forecasts files source number form text
    → FailsToWriteOutput before now text → PlanEnds files source number form told before now
plan_breaks files source number form text told before now is forecasts begun = inl (record { is = is; text = text; forecasts = forecasts; begun = begun })
