use Rattle.std.proofs.Common.{inl, inr, map, refl, sym}
use Rattle.std.specs.Prelude.{string_bytes}
use Rattle.fw_script.specs.Seen.{config_seen}
use Rattle.fwupd_nodes.specs.Setups.{ArePacked}
use Rattle.fwupd_nodes.proofs.Lone.{agent_ends, agent_served}
use Rattle.fwupd_nodes.proofs.Packed.{packed_slice}
use Rattle.fwupd_nodes.proofs.alone.agent_file.Goals as goal

pub returns-in-Err-apart_from_read-clause-fault : goal.returns-in-Err-apart_from_read-clause-fault
returns-in-Err-apart_from_read-clause-fault g c =
    inr (inr (inr (inr (record { config = config_seen c.in-Ok.config; says = c.in-Ok.ensures.says; is = rw c.as_slice.ensures.value at c.in-Err-apart_from_read.ensures.over }))), (refl, refl, refl))

pub returns-in-Err-package_files-clause-fault : goal.returns-in-Err-package_files-clause-fault
returns-in-Err-package_files-clause-fault g c = elim (c.in-Err-package_files.ensures.fault) [
  | inl memory ↦ inr (inl memory, (refl, refl, refl))
  | inr fail ↦ inr (
    inr (inr (inl (record {
      config = config_seen c.in-Ok.config;
      says = c.in-Ok.ensures.says;
      apart = rw c.as_slice.ensures.value at c.in-Ok-apart_from_read.ensures.apart;
      fail = rw c.as_slice-2.ensures.value at fail;
    }))),
    (refl, refl, refl),
  )
]

pub serve_packages-requires-clause-packed : goal.serve_packages-requires-clause-packed
serve_packages-requires-clause-packed g c =
    packed_slice (g.H.Files.Files.holds c.args.host.now.files) (map (λ p. string_bytes p) c.as_slice-2.result.now) c.in-Ok-package_files.contents.items c.as_slice-3.result.now
    c.in-Ok-package_files.ensures.packed c.as_slice-3.ensures.value

pub returns-clause-ok : goal.returns-clause-ok
returns-clause-ok g c =
    let packed : ArePacked (g.H.Files.Files.holds c.args.host.now.files) (map (λ p. string_bytes p) c.in-Ok.config.packages.items) (map (λ f. f.items) c.as_slice-3.result.now) =
    rw (c.as_slice-3.ensures.value, sym c.as_slice-2.ensures.value) c.in-Ok-package_files.ensures.packed in
    agent_served c.serve_packages.result c.args.job (config_seen c.in-Ok.config) (map (λ f. f.items) c.as_slice-3.result.now) _ _ c.in-Ok.ensures.says
    (rw c.as_slice.ensures.value at c.in-Ok-apart_from_read.ensures.apart) packed c.serve_packages.ensures.ok

pub returns-clause-fault : goal.returns-clause-fault
returns-clause-fault g c =
    let packed : ArePacked (g.H.Files.Files.holds c.args.host.now.files) (map (λ p. string_bytes p) c.in-Ok.config.packages.items) (map (λ f. f.items) c.as_slice-3.result.now) =
    rw (c.as_slice-3.ensures.value, sym c.as_slice-2.ensures.value) c.in-Ok-package_files.ensures.packed in
    agent_ends c.serve_packages.result c.args.job (config_seen c.in-Ok.config) (map (λ f. f.items) c.as_slice-3.result.now) _ _ c.in-Ok.ensures.says
    (rw c.as_slice.ensures.value at c.in-Ok-apart_from_read.ensures.apart) packed c.serve_packages.ensures.fault
