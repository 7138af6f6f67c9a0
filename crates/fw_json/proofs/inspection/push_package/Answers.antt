use Rattle.std.proofs.Common.{ap}
use Rattle.fw_package.specs.Package.{TextOf}
use Rattle.fw_json.specs.Inspections.{heading_members}
use Rattle.fw_json.proofs.Chains.{tells_more}
use Rattle.fw_json.proofs.inspection.push_package.Goals as goal

pub returns : goal.returns
unfolding heading_members
returns c =
    let components = tells_more c.in_ok-open_array_field-2.ensures (tells_more (rw c.places.ensures at c.in_ok-push_components.ensures) c.in_ok-close_object.ensures) in
    let records = tells_more c.in_ok-open_array_field.ensures (tells_more (rw c.records.ensures at c.in_ok-push_records.ensures) components) in
    let heading = rw (c.header_size.ensures, c.release.ensures, ap (λ (v : TextOf). v.bytes) c.version.ensures) at c.in_ok-push_heading.ensures in
    tells_more heading records
