-- The value of a package nests five levels deep.
use Rattle.std.proofs.Common.{◌≤◌, ℕ, arith}
use Rattle.json.specs.Json.{max_depth}
use Rattle.json.specs.Tree.{depth}
use Rattle.fw_package.specs.Components.{PlaceOf}
use Rattle.fw_package.specs.Outlines.{OutlineOf}
use Rattle.fw_package.specs.Package.{DescriptorOf, RecordOf}
use Rattle.fw_json.specs.Inspections.{component_members, component_value, descriptor_value, heading_members, outline_value, record_value, use_value}
use Rattle.fw_json.proofs.Reading.{counted_shallow, items_shallow}

pub descriptor_shallow : (d : DescriptorOf) → depth (descriptor_value d) ≤ 1
unfolding descriptor_value
descriptor_shallow d = omega arith

pub record_shallow : (n : ℕ) (r : RecordOf) → depth (record_value n r) ≤ 3
unfolding record_value
record_shallow n r =
    let uses = items_shallow use_value 1 (λ k. omega arith) r.uses in
    let descriptors = items_shallow descriptor_value 1 descriptor_shallow r.descriptors in
    omega (arith, uses, descriptors)

component_shallow : (n : ℕ) (c : PlaceOf) → depth (component_value n c) ≤ 1
unfolding component_value component_members
component_shallow n c = omega arith

pub outline_shallow : (o : OutlineOf) → depth (outline_value o) ≤ max_depth
unfolding heading_members
outline_shallow o =
    let records = counted_shallow record_value 3 record_shallow 1 o.records in
    let components = counted_shallow component_value 1 component_shallow 1 o.places in
    omega (arith, records, components)
