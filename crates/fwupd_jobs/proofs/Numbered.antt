-- The world of a configuration whose devices have packages, and the observer of its run.
use Rattle.std.proofs.Common.{◌≡◌, ◌⊎◌, ◌∙◌, ℕ, List, Bool, true, inl, inr, length, map, refl, sym, ap, subst}
use Rattle.std.specs.Prelude.{string_bytes}
use Rattle.fw_package.specs.Package.{PackageText}
use Rattle.fw_script.specs.Configs.{ConfigOf, DeviceConfigOf}
use Rattle.fw_script.specs.Seen.{config_seen, device_of}
use Rattle.fw_script.specs.declared.config.Config.{Config}
use Rattle.fw_setup.specs.Nodes.{nodes_made}
use Rattle.fw_steps.specs.Opening.{new_world}
use Rattle.fw_steps.specs.Worlds.{WorldOf}
use Rattle.fwupd_watch.specs.Apart.{IsApart, IsBarred}
use Rattle.fwupd_base.specs.ImageFiles.{ConfigSourceOf}
use Rattle.fwupd_watch.specs.Files.{FileOf}
use Rattle.fwupd_watch.specs.Inputs.{inputs_of}
use Rattle.fwupd_watch.specs.Running.{ObserverOf, ShowOf}
use Rattle.fwupd_watch.specs.declared.faults.JobFault.{JobFault}
use Rattle.fwupd_watch.specs.declared.faults.JobFault.TheVariants as faults
use Rattle.fwupd_nodes.specs.Setups.{AreChosen, AreConfigured, AreDevices, ArePackages, IsConfigured, IsSetup, SourceOf, chosen_in, have_packages}
use Rattle.fwupd_nodes.proofs.Packed.{as_named}
use Rattle.fwupd_jobs.specs.Updated.{IsNumberedSetup, IsObservedSetup, LacksTrace}

-- The world of a configuration with these packages, of which each device has one.
pub record NamedWith (files : List ℕ → FileOf) (source : SourceOf) (numbers : ℕ → ℕ) (w : WorldOf) (names : List (List ℕ)) : Type 0 where
  pub named : IsNumberedSetup files source numbers w
  pub is : named.setup.config.packages ≡ names

-- whether the chosen devices of a configuration have packages, by a list of these devices
pub numbered_in : (source : SourceOf) (numbers : ℕ → ℕ) (config : Config) (count : ℕ) (picked : List DeviceConfigOf) (b : Bool) → AreChosen source.chosen (map device_of config.devices.items) picked
    → count ≡ config.packages.len → have_packages numbers count picked ≡ b → have_packages numbers (length (config_seen config).packages) (chosen_in source.chosen (config_seen config).devices) ≡ b
numbered_in source numbers config count picked b pick is e =
    ap (λ n. have_packages numbers n (chosen_in source.chosen (map device_of config.devices.items))) (as_named config ∙ sym is) ∙ ap (have_packages numbers count) (sym pick.are) ∙ e

named_up : (files : List ℕ → FileOf) (source : SourceOf) (numbers : ℕ → ℕ) (config : Config) (w : WorldOf) (s : IsSetup files source w) → s.config ≡ config_seen config
    → have_packages numbers (length (config_seen config).packages) (chosen_in source.chosen (config_seen config).devices) ≡ true
    → NamedWith files source numbers w (map (λ p. string_bytes p) config.packages.items)
named_up files source numbers config w s is numbered = record {
  named = record {
    setup = s;
    numbered = subst (λ (k : ConfigOf). have_packages numbers (length k.packages) (chosen_in source.chosen k.devices) ≡ true) (sym is) numbered;
  };
  is = ap (λ k. k.packages) is;
}

-- a world of the chosen devices of a configuration with its packages, and with the images in the
-- stores of these devices
world_made : (files : List ℕ → FileOf) (source : SourceOf) (config : Config) (ps packs : List PackageText) (devices : List DeviceConfigOf) (w : WorldOf)
    → IsConfigured files source.config (config_seen config) → ArePackages files (map (λ p. string_bytes p) config.packages.items) ps
    → AreConfigured source.chosen (map device_of config.devices.items) → AreDevices source.stores (chosen_in source.chosen (map device_of config.devices.items)) devices → packs ≡ ps
    → w ≡ new_world config.agent (nodes_made config.unit config.agent.eid devices) packs → IsSetup files source w
world_made files source config ps packs devices w says are there stocked lent is = record {
  config = config_seen config;
  packages = ps;
  devices = devices;
  says = says;
  are = are;
  there = there;
  stocked = stocked;
  world = is ∙ ap (λ q. new_world config.agent (nodes_made config.unit config.agent.eid devices) q) lent;
}

pub named_with : (files : List ℕ → FileOf) (source : SourceOf) (numbers : ℕ → ℕ) (config : Config) (count : ℕ) (ps packs : List PackageText) (picked devices : List DeviceConfigOf) (w : WorldOf)
    → IsConfigured files source.config (config_seen config) → ArePackages files (map (λ p. string_bytes p) config.packages.items) ps
    → AreChosen source.chosen (map device_of config.devices.items) picked → AreDevices source.stores picked devices → packs ≡ ps
    → w ≡ new_world config.agent (nodes_made config.unit config.agent.eid devices) packs → count ≡ config.packages.len → have_packages numbers count picked ≡ true
    → NamedWith files source numbers w (map (λ p. string_bytes p) config.packages.items)
unfolding world_made
named_with files source numbers config count ps packs picked devices w says are pick stocked lent is counted numbered =
    let here = subst (λ ds. AreDevices source.stores ds devices) pick.are stocked in
    named_up files source numbers config w (world_made files source config ps packs devices w says are pick.there here lent is) refl (numbered_in source numbers config count picked true pick counted numbered)

same_paths : (files : List ℕ → FileOf) (source : SourceOf) (numbers : ℕ → ℕ) (w : WorldOf) (named : IsNumberedSetup files source numbers w) (config : ConfigSourceOf) (names : List (List ℕ)) → source.config ≡ config
    → named.setup.config.packages ≡ names → inputs_of source.config named.setup.config.packages ≡ inputs_of config names
same_paths files source numbers w named config names e same = ap (λ (c : ConfigSourceOf). inputs_of c named.setup.config.packages) e ∙ ap (inputs_of config) same

-- if the packets overwrite none of the files
pub watched_by : (files : List ℕ → FileOf) (source : SourceOf) (numbers : ℕ → ℕ) (show : ShowOf) (w : WorldOf) (named : IsNumberedSetup files source numbers w) (config : ConfigSourceOf) (names : List (List ℕ))
    → source.config ≡ config → named.setup.config.packages ≡ names → IsApart files show (inputs_of config names) → IsObservedSetup files source numbers show w
watched_by files source numbers show w named config names e same apart = record {
  named = named;
  apart = subst (IsApart files show) (sym (same_paths files source numbers w named config names e same)) apart;
}

-- if the observer doesn't begin
pub barred_by : (files : List ℕ → FileOf) (source : SourceOf) (numbers : ℕ → ℕ) (show : ShowOf) (refuses : List ℕ → Bool) (told : JobFault) (watched : ObserverOf) (w : WorldOf)
    (named : IsNumberedSetup files source numbers w) (config : ConfigSourceOf) (names : List (List ℕ)) → source.config ≡ config → named.setup.config.packages ≡ names
    → (told ≡ faults.Memory) ⊎ IsBarred files refuses show (inputs_of config names) told watched → (told ≡ faults.Memory) ⊎ LacksTrace files source numbers show refuses told watched
barred_by files source numbers show refuses told watched w named config names e same (inl memory) = inl memory
barred_by files source numbers show refuses told watched w named config names e same (inr h) = inr (record {
  world = w;
  named = named;
  barred = subst (λ qs. IsBarred files refuses show qs told watched) (sym (same_paths files source numbers w named config names e same)) h;
})
