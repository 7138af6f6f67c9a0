-- The nodes of a configuration.
use Rattle.mctp_wire.specs.declared.unit.Unit.{«Unit»}
use Rattle.std.proofs.Common.{◌≡◌, ◌≤◌, ◌<◌, ◌+◌, ◌∙◌, ◌++◌, ℕ, List, [], ◌∷◌, drop, get_or, length, map, take, append_assoc, arith, ap, sym, subst, refl}
use Rattle.std.specs.List.{AllByRecursion}
use Rattle.std.proofs.lemmas.List.Elements.{All-from_recursion}
use Rattle.std.proofs.lemmas.List.{drop_more, length-map, map-append, take_more}
use Rattle.fd_core.proofs.Rows.{apart_more}
use Rattle.fd_core.specs.Banks.{HaveKeysOnce}
use Rattle.fd_core.specs.Components.{HasComponents}
use Rattle.fd_core.specs.Images.{RowOf, key_of}
use Rattle.fwup_wire.specs.declared.values.Key.{Key}
use Rattle.fw_message.specs.Laws.{IsUnapplied}
use Rattle.fw_node.specs.Nodes.{DeviceNodeOf}
use Rattle.fw_script.specs.Configs.{ComponentConfigOf, DeviceConfigOf}
use Rattle.fw_script.specs.Whole.{AreNew, AreWhole, IsDevice, eids_of, keys_of}
use Rattle.fw_script.specs.Seen.{component_of, device_of}
use Rattle.fw_script.specs.declared.config.ComponentConfig.{ComponentConfig}
use Rattle.fw_script.specs.declared.config.DeviceConfig.{DeviceConfig}
use Rattle.fw_steps.specs.Opening.{AreDifferent, AreNewNodes, IsNewNode, unit_of}
use Rattle.fw_setup.specs.Nodes.{device_made, node_made, nodes_made, row_made}

pub keys_made : (cs : List ComponentConfigOf) → map key_of (map row_made cs) ≡ map (λ c. c.key) (map (λ c. c.component) cs)
keys_made [] = refl
keys_made (c ∷ cs) = ap (λ ks. c.component.key ∷ ks) (keys_made cs)

unapplied : (cs : List ComponentConfigOf) → AllByRecursion IsUnapplied (map row_made cs)
unapplied [] = tt
unapplied (c ∷ cs) = (refl, unapplied cs)

pub new_made : (u : «Unit») (agent : ℕ) (x : DeviceConfigOf) → IsDevice x → HasComponents (device_made u x).device → IsNewNode u agent (node_made u agent x)
new_made u agent x h components = record {
  device = device_made u x;
  is = refl;
  unit = refl;
  idle = refl;
  unapplied = All-from_recursion IsUnapplied (map row_made x.components) (unapplied x.components);
  components = components;
  eid = h.eid;
}

eids_made : (u : «Unit») (agent : ℕ) (xs : List DeviceConfigOf) → map (λ n. n.endpoint.eid) (nodes_made u agent xs) ≡ eids_of xs
eids_made u agent [] = refl
eids_made u agent (x ∷ xs) = ap (λ es. x.endpoint.eid ∷ es) (eids_made u agent xs)

-- the first node has the transmission unit of all
first_unit : (u : «Unit») (agent : ℕ) (ns : List DeviceNodeOf) → 1 ≤ length ns → AllByRecursion (IsNewNode u agent) ns → unit_of ns ≡ u
first_unit u agent [] some new = absurd (omega (arith, some))
first_unit u agent (n ∷ ns) some new = ap (λ (m : DeviceNodeOf). m.half.unit) new.0.is ∙ new.0.unit

-- the nodes of a whole configuration are those of a world
pub nodes_new : (u : «Unit») (agent : ℕ) (xs : List DeviceConfigOf) (ns : List DeviceNodeOf) → AreWhole agent xs → ns ≡ nodes_made u agent xs
    → AllByRecursion (IsNewNode u agent) ns → AreNewNodes agent ns
nodes_new u agent xs ns h is new = record {
  some = subst (λ n. 1 ≤ n) (sym (ap length is ∙ length-map xs (node_made u agent))) h.some;
  few = subst (λ n. n ≤ 16) (sym (ap length is ∙ length-map xs (node_made u agent))) h.few;
  agent_eid = h.agent_eid;
  new = subst (λ v. AllByRecursion (IsNewNode v agent) ns) (sym (first_unit u agent ns (subst (λ n. 1 ≤ n) (sym (ap length is ∙ length-map xs (node_made u agent))) h.some) new)) new;
  apart = subst (λ es. AreDifferent (agent ∷ es)) (sym (ap (map (λ n. n.endpoint.eid)) is ∙ eids_made u agent xs)) h.apart;
}

-- the keys after one more row are still new
pub rest_new : (rows : List RowOf) (row : RowOf) (keys : List Key) → AreNew (map key_of rows) (row.key ∷ keys) → AreNew (map key_of (rows ++ row ∷ [])) keys
rest_new rows row keys h = subst (λ ks. AreNew ks keys) (sym (map-append key_of rows (row ∷ []))) h.1

-- One component moves from those that are left to the bank.
pub record Filled (total : List RowOf) (rows : List RowOf) (left : List ComponentConfigOf) : Type 0 where
  pub all : rows ++ map row_made left ≡ total
  pub new : AreNew (map key_of rows) (keys_of left)
  pub apart : HaveKeysOnce (map key_of rows)

moved : (total rows : List RowOf) (x : ComponentConfigOf) (left : List ComponentConfigOf) → Filled total rows (x ∷ left) → Filled total (rows ++ row_made x ∷ []) left
moved total rows x left h = record {
  all = append_assoc rows (row_made x ∷ []) (map row_made left) ∙ h.all;
  new = rest_new rows (row_made x) (keys_of left) h.new;
  apart = apart_more rows (row_made x) h.apart h.new.0;
}

pub filled_at : (total rows after : List RowOf) (cs : List ComponentConfig) (i : ℕ) (c : ComponentConfig) → i < length cs → c ≡ get_or cs i c
    → after ≡ rows ++ row_made (component_of c) ∷ [] → Filled total rows (map component_of (drop i cs)) → Filled total after (map component_of (drop (i + 1) cs))
filled_at total rows after cs i c lt is e h =
    subst (λ a. Filled total a (map component_of (drop (i + 1) cs))) (sym e)
    (moved total rows (component_of c) (map component_of (drop (i + 1) cs))
    (subst (λ xs. Filled total rows (map component_of xs)) (drop_more cs i c lt ∙ ap (λ x. x ∷ drop (i + 1) cs) (sym is)) h))

-- A property of each device, for one of them.
pub device_at : (ds : List DeviceConfig) (i : ℕ) (d : DeviceConfig) → i < length ds → d ≡ get_or ds i d → AllByRecursion IsDevice (map device_of (drop i ds))
    → IsDevice (device_of d) × AllByRecursion IsDevice (map device_of (drop (i + 1) ds))
device_at ds i d lt is h = subst (λ xs. AllByRecursion IsDevice (map device_of xs)) (drop_more ds i d lt ∙ ap (λ x. x ∷ drop (i + 1) ds) (sym is)) h

-- One more node is made.
pub nodes_next : (u : «Unit») (agent : ℕ) (ds : List DeviceConfig) (i : ℕ) (d : DeviceConfig) → i < length ds → d ≡ get_or ds i d
    → nodes_made u agent (map device_of (take i ds)) ++ node_made u agent (device_of d) ∷ [] ≡ nodes_made u agent (map device_of (take (i + 1) ds))
nodes_next u agent ds i d lt is =
    let more : take (i + 1) ds ≡ take i ds ++ d ∷ [] = take_more ds i d lt ∙ ap (λ x. take i ds ++ x ∷ []) (sym is) in
    sym (ap (λ xs. nodes_made u agent (map device_of xs)) more ∙ ap (nodes_made u agent) (map-append device_of (take i ds) (d ∷ []))
    ∙ map-append (node_made u agent) (map device_of (take i ds)) (device_of d ∷ []))

all_more : (u : «Unit») (agent : ℕ) (ns : List DeviceNodeOf) (n : DeviceNodeOf) → AllByRecursion (IsNewNode u agent) ns → IsNewNode u agent n
    → AllByRecursion (IsNewNode u agent) (ns ++ n ∷ [])
all_more u agent [] n all new = (new, tt)
all_more u agent (m ∷ ms) n all new = (all.0, all_more u agent ms n all.1 new)

pub new_more : (u : «Unit») (agent : ℕ) (ns after : List DeviceNodeOf) (n : DeviceNodeOf) → after ≡ ns ++ n ∷ [] → AllByRecursion (IsNewNode u agent) ns → IsNewNode u agent n
    → AllByRecursion (IsNewNode u agent) after
new_more u agent ns after n is all new = subst (AllByRecursion (IsNewNode u agent)) (sym is) (all_more u agent ns n all new)
