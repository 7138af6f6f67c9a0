-- The nodes of an opening world.
use Rattle.std.proofs.Common.{◌≡◌, ◌∙◌, ℕ, List, [], ◌∷◌, ap, length, map, refl, subst, sym}
use Rattle.std.specs.List.{AllByRecursion}
use Rattle.std.proofs.lemmas.List.{length-map}
use Rattle.std.proofs.lemmas.List.Elements.{All-from_recursion, recursion_from_All}
use Rattle.mctp_wire.specs.declared.unit.Unit.{«Unit»}
use Rattle.mctp_ctl.specs.declared.answers.Endpoint.{Endpoint}
use Rattle.exch_lane.specs.Lanes.{IsEid}
use Rattle.fd_core.specs.States.{DeviceOf, Phase}
use Rattle.fw_message.specs.Laws.{IsUnapplied}
use Rattle.fd_core.specs.Components.{HasComponents}
use Rattle.fw_node.specs.Nodes.{DeviceNodeOf, new_device_node}
use Rattle.fw_package.specs.Package.{PackageText}
use Rattle.fw_steps.specs.Opening.{AreNewNodes, IsNewNode, IsOpeningWorld, new_site, new_world, unit_of}
use Rattle.fw_steps.specs.Widths.{HasDeviceWidths, HavePackageWidths, HasWidthsAsNew}
use Rattle.fw_steps.specs.Sites.{SiteWithRoom, sites_of}
use Rattle.fw_steps.specs.Worlds.{WorldOf}

new_components : (u : «Unit») (agent : ℕ) (n : DeviceNodeOf) → IsNewNode u agent n → HasComponents n.half.core.device
new_components u agent n k = subst (λ (m : DeviceNodeOf). HasComponents m.half.core.device) (sym k.is) k.components

pub have_components : (u : «Unit») (agent : ℕ) (ns : List DeviceNodeOf) → AllByRecursion (IsNewNode u agent) ns → AllByRecursion (λ n. HasComponents n.half.core.device) ns
have_components u agent [] h = tt
have_components u agent (n ∷ ns) h = (new_components u agent n h.0, have_components u agent ns h.1)

pub new_node : (u : «Unit») (endpoint : Endpoint) (agent : ℕ) (d : DeviceOf) → d.device.unit ≡ u → HasComponents d.device → d.device.phase ≡ Phase.Idle → AllByRecursion IsUnapplied d.device.rows → IsEid endpoint.eid
    → IsNewNode u agent (new_device_node endpoint agent d)
new_node u endpoint agent d unit components idle unapplied eid =
    record { device = d; is = refl; unit = unit; idle = idle; unapplied = All-from_recursion IsUnapplied d.device.rows unapplied; components = components; eid = eid }

-- there are as many sites as nodes
pub as_many : (ss : List SiteWithRoom) (nodes : List DeviceNodeOf) → sites_of ss ≡ map new_site nodes → length ss ≡ length nodes
as_many ss nodes is = sym (length-map ss (λ s. s.site)) ∙ ap length is ∙ length-map nodes new_site

-- the values of new devices fit the fields of messages
one_speaks : (u : «Unit») (agent : ℕ) (n : DeviceNodeOf) → IsNewNode u agent n → HasWidthsAsNew n.half.core.device → HasDeviceWidths n.half.core.device
one_speaks u agent n k h =
    h (new_components u agent n k) (ap (λ (m : DeviceNodeOf). m.half.core.device.phase) k.is ∙ k.idle)
    (subst (λ (m : DeviceNodeOf). AllByRecursion IsUnapplied m.half.core.device.rows) (sym k.is) (recursion_from_All IsUnapplied k.device.device.rows k.unapplied))

new_speak : (u : «Unit») (agent : ℕ) (ns : List DeviceNodeOf) → AllByRecursion (IsNewNode u agent) ns → AllByRecursion (λ (n : DeviceNodeOf). HasWidthsAsNew n.half.core.device) ns
    → AllByRecursion (λ (n : DeviceNodeOf). HasDeviceWidths n.half.core.device) ns
new_speak u agent [] k h = tt
new_speak u agent (n ∷ ns) k h = (one_speaks u agent n k.0 h.0, new_speak u agent ns k.1 h.1)

-- a world of new nodes is an opening world
pub opens_so : (w : WorldOf) (agent : Endpoint) (nodes : List DeviceNodeOf) (packages : List PackageText) → AreNewNodes agent.eid nodes → HavePackageWidths packages → AllByRecursion (λ (n : DeviceNodeOf). HasWidthsAsNew n.half.core.device) nodes → w ≡ new_world agent nodes packages → IsOpeningWorld w
opens_so w agent nodes packages are speak devices is = record { agent = agent; nodes = nodes; are = are; is = is ∙ ap (λ (v : WorldOf). new_world agent nodes v.packages) (sym is); packages = subst HavePackageWidths (sym (ap (λ (v : WorldOf). v.packages) is)) speak; devices = new_speak (unit_of nodes) agent.eid nodes are.new devices }
