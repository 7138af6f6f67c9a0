use Rattle.std.proofs.Common.{inr, map, refl, rules, subst}
use Rattle.std.specs.List.{AllByRecursion}
use Rattle.std.specs.Prelude.{IfSome, IsSomeAnd, option_map, string_bytes}
use Rattle.fwupd_base.specs.ImageFiles.{config_source}
use Rattle.fwupd_watch.specs.Files.{IsApartFrom, IsOverOne}
use Rattle.fwupd_nodes.proofs.Packed.{numbered_fails, or_later, packed_slice}
use Rattle.fwupd_jobs.proofs.Soakings.{ends_broken, ends_clean, ends_wrong, soaks_so, unmapped, written_over}
use Rattle.fwupd_jobs.proofs.soaking.soak_file.Goals as goal

pub packages_in-requires : goal.packages_in-requires
packages_in-requires g c =
    packed_slice (g.H.Files.Files.holds c.args.host.now.files) (map (λ p. string_bytes p) c.as_slice.result.now) c.in-Ok-package_files.contents.items c.as_slice-2.result.now c.in-Ok-package_files.ensures.packed
    c.as_slice-2.ensures.value

pub returns-then-is_over_read-clause-fault : goal.returns-then-is_over_read-clause-fault
returns-then-is_over_read-clause-fault g c =
    inr (inr (
      inr (inr (inr (
          written_over (g.H.Files.Files.holds c.args.host.now.files) (config_source c.args.job.config) c.in-Ok.config c.as_slice.result.now c.in-Ok-package_files.contents.items c.as_slice-2.result.now c.in-Ok-packages_in.packages.items
          (option_map (λ p. p.now) c.args.job.record) _ refl c.in-Ok.ensures.says c.as_slice.ensures.value c.in-Ok-package_files.ensures.packed c.as_slice-2.ensures.value c.in-Ok-packages_in.ensures.is
          (rw c.as_slice-3.ensures.value at (subst (λ ps. IsSomeAnd (option_map (λ p. p.now) c.args.job.record) (λ p. IsOverOne (g.H.Files.Files.holds c.args.host.now.files) p ps)) c.new.ensures (c.is_over_read.ensures.over c.if-is_over_read.true)))
          ))),
      refl,
    ))

pub returns-in-Err-write-clause-fault : goal.returns-in-Err-write-clause-fault
returns-in-Err-write-clause-fault g c =
    ends_broken (g.H.Files.Files.holds c.args.host.now.files) (config_source c.args.job.config) c.args.job.order c.args.job.form (option_map (λ p. p.now) c.args.job.record) c.in-Err-write.fault (g.H.Places.OutputPlaces.is_known c.args.host.now.places)
    (g.H.Places.OutputPlaces.held c.args.host.now.places) c.in-Ok-soak.soaked.summary (option_map (λ k. k.items) c.in-Ok-soak.soaked.kept) c.args.host.now.output c.write.new.self c.in-Err-write.ensures.fault
    (soaks_so (g.H.Files.Files.holds c.args.host.now.files) (config_source c.args.job.config) c.in-Ok.config c.as_slice.result.now c.in-Ok-package_files.contents.items c.as_slice-2.result.now
    c.in-Ok-packages_in.packages.items c.as_slice-5.result.now c.as_slice-4.result.now (option_map (λ p. p.now) c.args.job.record) c.args.job.order.runs c.in-Ok-soak.soaked.summary (option_map (λ k. k.items) c.in-Ok-soak.soaked.kept)
    c.in-Ok.ensures.says c.as_slice.ensures.value c.in-Ok-package_files.ensures.packed (rw c.as_slice-3.ensures.value at (subst (λ ps. IfSome (option_map (λ p. p.now) c.args.job.record) (λ p. AllByRecursion (IsApartFrom (g.H.Files.Files.holds c.args.host.now.files) p) ps)) c.new.ensures (c.is_over_read.ensures.apart c.if-is_over_read.false))) c.as_slice-2.ensures.value c.in-Ok-packages_in.ensures.is c.as_slice-5.ensures.value
    c.as_slice-4.ensures.value c.in-Ok-soak.ensures.soaked) (rw c.in-Ok-summary_in.ensures at (rw c.deref.ensures.value at c.in-Err-write.ensures.failed))

pub returns-in-Ok-judge-clause-ok : goal.returns-in-Ok-judge-clause-ok
returns-in-Ok-judge-clause-ok g c =
    ends_clean (g.H.Files.Files.holds c.args.host.now.files) (config_source c.args.job.config) c.args.job.order c.args.job.form (option_map (λ p. p.now) c.args.job.record) c.in-Ok-soak.soaked.summary (option_map (λ k. k.items) c.in-Ok-soak.soaked.kept) c.args.host.now.output c.write.new.self
    c.in-Ok-judge.ensures.ok (soaks_so (g.H.Files.Files.holds c.args.host.now.files) (config_source c.args.job.config) c.in-Ok.config c.as_slice.result.now c.in-Ok-package_files.contents.items c.as_slice-2.result.now
    c.in-Ok-packages_in.packages.items c.as_slice-5.result.now c.as_slice-4.result.now (option_map (λ p. p.now) c.args.job.record) c.args.job.order.runs c.in-Ok-soak.soaked.summary (option_map (λ k. k.items) c.in-Ok-soak.soaked.kept)
    c.in-Ok.ensures.says c.as_slice.ensures.value c.in-Ok-package_files.ensures.packed (rw c.as_slice-3.ensures.value at (subst (λ ps. IfSome (option_map (λ p. p.now) c.args.job.record) (λ p. AllByRecursion (IsApartFrom (g.H.Files.Files.holds c.args.host.now.files) p) ps)) c.new.ensures (c.is_over_read.ensures.apart c.if-is_over_read.false))) c.as_slice-2.ensures.value c.in-Ok-packages_in.ensures.is c.as_slice-5.ensures.value
    c.as_slice-4.ensures.value c.in-Ok-soak.ensures.soaked) (c.in-Ok-soak.ensures.none (unmapped (λ k. k.items) c.in-Ok-soak.soaked.kept c.in-Ok-judge.ensures.ok))
    (rw c.in-Ok-summary_in.ensures at (rw c.deref.ensures.value at c.in-Ok-write.ensures.ok))

pub returns-clause-fault : goal.returns-clause-fault
returns-clause-fault g c =
    ends_wrong (g.H.Files.Files.holds c.args.host.now.files) (config_source c.args.job.config) c.args.job.order c.args.job.form (option_map (λ p. p.now) c.args.job.record) c.in-Err-judge.fault (g.H.Places.OutputPlaces.is_known c.args.host.now.places)
    (g.H.Places.OutputPlaces.held c.judge.new.places) c.in-Ok-soak.soaked.summary (option_map (λ k. k.items) c.in-Ok-soak.soaked.kept) c.args.host.now.output c.write.new.self c.in-Err-judge.ensures.fault
    (soaks_so (g.H.Files.Files.holds c.args.host.now.files) (config_source c.args.job.config) c.in-Ok.config c.as_slice.result.now c.in-Ok-package_files.contents.items c.as_slice-2.result.now
    c.in-Ok-packages_in.packages.items c.as_slice-5.result.now c.as_slice-4.result.now (option_map (λ p. p.now) c.args.job.record) c.args.job.order.runs c.in-Ok-soak.soaked.summary (option_map (λ k. k.items) c.in-Ok-soak.soaked.kept)
    c.in-Ok.ensures.says c.as_slice.ensures.value c.in-Ok-package_files.ensures.packed (rw c.as_slice-3.ensures.value at (subst (λ ps. IfSome (option_map (λ p. p.now) c.args.job.record) (λ p. AllByRecursion (IsApartFrom (g.H.Files.Files.holds c.args.host.now.files) p) ps)) c.new.ensures (c.is_over_read.ensures.apart c.if-is_over_read.false))) c.as_slice-2.ensures.value c.in-Ok-packages_in.ensures.is c.as_slice-5.ensures.value
    c.as_slice-4.ensures.value c.in-Ok-soak.ensures.soaked) (rw c.in-Ok-summary_in.ensures at (rw c.deref.ensures.value at c.in-Ok-write.ensures.ok))

pub returns-in-Err-package_files-clause-fault : goal.returns-in-Err-package_files-clause-fault
returns-in-Err-package_files-clause-fault g c =
    inr (inr (
      or_later (
          numbered_fails (g.H.Files.Files.holds c.args.host.now.files) (config_source c.args.job.config) 1 c.in-Ok.config c.as_slice.result.now c.in-Err-package_files.fault c.in-Ok.ensures.says c.as_slice.ensures.value
          (c.if-not-is_numbered.ensures.there refl).0 (search rules) c.in-Err-package_files.ensures.fault
          ),
      refl,
    ))
