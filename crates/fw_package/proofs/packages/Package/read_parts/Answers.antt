use Rattle.std.proofs.Common.{◌≤◌, All, subst, sym}
use Rattle.fw_package.specs.Lent.{contents_seen}
use Rattle.fw_package.specs.Reading.{IsUsing}
use Rattle.fw_package.proofs.Outlined.{package_from, package_out}
use Rattle.fw_package.proofs.Using.{counted}
use Rattle.fw_package.proofs.packages.Package.read_parts.Goals as goal

pub invariant_of-result : goal.invariant_of-result
invariant_of-result c =
    let same = sym (counted c.args.bytes.now c.in_ok-contents.contents.component_count c.in_ok-contents.contents.components.now c.in-Ok.components c.in-Ok.ensures) in (
      subst (λ n. All (IsUsing n) c.in_ok-contents.contents.records) same c.in_ok-contents.ensures.using,
      subst (λ n. n ≤ 2978) same c.in_ok-contents.ensures.few,
    )

pub returns-in-Ok : goal.returns-in-Ok
returns-in-Ok c = package_from c.args.bytes.now (contents_seen c.in_ok-contents.contents) c.in-Ok.components c.in_ok-contents.ensures.value c.in-Ok.ensures

pub returns-in-Err : goal.returns-in-Err
returns-in-Err c = package_out c.args.bytes.now (contents_seen c.in_ok-contents.contents) c.in-Err.fault c.in_ok-contents.ensures.value c.in-Err.ensures
