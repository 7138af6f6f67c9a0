-- The value of a package with digests nests five levels deep.
use Rattle.std.proofs.Common.{◌≤◌, ℕ, arith}
use Rattle.json.specs.Json.{max_depth}
use Rattle.json.specs.Tree.{depth}
use Rattle.fw_package.specs.Package.{ComponentOf, PackageText}
use Rattle.fw_json.specs.Digests.{digested_component_value, digested_value}
use Rattle.fw_json.specs.Inspections.{component_members, heading_members, record_value}
use Rattle.fw_json.proofs.Inspected.{record_shallow}
use Rattle.fw_json.proofs.Reading.{counted_shallow}

component_shallow : (n : ℕ) (c : ComponentOf) → depth (digested_component_value n c) ≤ 1
unfolding digested_component_value component_members
component_shallow n c = omega arith

pub digested_shallow : (p : PackageText) → depth (digested_value p) ≤ max_depth
unfolding heading_members
digested_shallow p =
    let records = counted_shallow record_value 3 record_shallow 1 p.records in
    let components = counted_shallow digested_component_value 1 component_shallow 1 p.components in
    omega (arith, records, components)
