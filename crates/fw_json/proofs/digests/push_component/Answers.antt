use Rattle.std.proofs.Common.{subst, ◌∷◌}
use Rattle.json.specs.Token.{begin_object}
use Rattle.fw_json.specs.Digests.{digested_component_value}
use Rattle.fw_json.specs.Inspections.{component_members}
use Rattle.fw_json.specs.Values.{field_tokens}
use Rattle.fw_json.specs.Writing.{AppendsTokens}
use Rattle.fw_json.proofs.Chains.{tells_more}
use Rattle.fw_json.proofs.digests.push_component.Goals as goal

pub returns : goal.returns
unfolding digested_component_value component_members
returns c =
    let members = subst (λ p. AppendsTokens c.args.writer.now c.push_component_members.new.writer (begin_object ∷ field_tokens (component_members c.args.number p)))
    c.place_of-place.ensures c.in_ok-push_component_members.ensures in
    tells_more members (tells_more c.in_ok-push_digest_field.ensures c.in_ok-close_object.ensures)
