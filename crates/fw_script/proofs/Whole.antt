-- Every configuration that is read satisfies its limits.
use Rattle.std.proofs.Common.{◌≡◌, ◌≢◌, ◌≤◌, ◌+◌, ◌++◌, ◌∙◌, ◌∷◌, ◌||◌, ◌&&◌, ◌==◌, ℕ, Bool, true, false, List, [], Option, Some, None, Result, Ok, Err, IfSome, is_some, length, map, nat_lt, nat_le, option_to_list, if◌then◌else◌, append-nil, append_assoc, ap, sym, subst, refl, arith}
use Rattle.std.specs.List.{AllByRecursion, list_all}
use Rattle.std.specs.Char.{is_ascii_digit}
use Rattle.std.specs.Str.Parse.{digits_value}
use Rattle.std.proofs.lemmas.Bool.{leb-true}
use Rattle.std.proofs.lemmas.List.{map-append, length-append}
use Rattle.std.proofs.lemmas.List.Elements.{All-from_recursion, recursion_from_All}
use Rattle.mctp_wire.specs.declared.unit.Unit.{«Unit»}
use Rattle.mctp_ctl.specs.declared.answers.Endpoint.{Endpoint}
use Rattle.exch_lane.specs.Lanes.{IsEid}
use Rattle.fd_core.specs.Banks.{has_key}
use Rattle.fd_core.specs.Codes.{longest_image}
use Rattle.fwup_wire.specs.Descriptors.{descriptor_size, descriptors_bytes}
use Rattle.fwup_wire.specs.Values.{DeviceDescriptorOf}
use Rattle.fwup_wire.specs.declared.values.Key.{Key}
use Rattle.fw_steps.specs.Opening.{AreDifferent}
use Rattle.fw_script.specs.declared.faults.ScriptCause.{ScriptCause}
use Rattle.fw_script.specs.declared.faults.ScriptCause.TheVariants as causes
use Rattle.fw_script.specs.declared.config.Numbers.{Numbers}
use Rattle.fw_script.specs.declared.draft.Directive.{Directive}
use Rattle.fw_script.specs.declared.draft.Directive.TheVariants as directives
use Rattle.fw_script.specs.Configs as configs
use Rattle.fw_script.specs.Configs.{ComponentConfigOf, ConfigOf, DeviceConfigOf, DraftOf, has_key as has_component}
use Rattle.fw_script.specs.Faults.{both}
use Rattle.fw_script.specs.Lines.{is_skipped, fields_in, lines_of, words_of}
use Rattle.fw_script.specs.Values.{bytes_of, eid_of, kind_of, number_in, text_of, uuid_of}
use Rattle.fw_script.specs.Whole.{AreNew, AreWhole, IsDevice, eids_of, keys_of}

-- testing for a component is testing for its key
same_has : (cs : List ComponentConfigOf) (key : Key) → has_component cs key ≡ has_key (keys_of cs) key
same_has [] key = refl
same_has (c ∷ cs) key = ap (λ b. Rattle.fd_core.specs.Images.same_key c.component.key key || b) (same_has cs key)

-- a new key after others
new_more : (before keys : List Key) (key : Key) → AreNew before keys → has_key (before ++ keys) key ≡ false → AreNew before (keys ++ key ∷ [])
new_more before [] key h e = (subst (λ ks. has_key ks key ≡ false) (append-nil before) e, tt)
new_more before (k ∷ keys) key h e =
    (h.0, new_more (before ++ k ∷ []) keys key h.1 (subst (λ ks. has_key ks key ≡ false) (sym (append_assoc before (k ∷ []) keys)) e))

new_component : (cs : List ComponentConfigOf) (c : ComponentConfigOf) → AreNew [] (keys_of cs) → has_component cs c.component.key ≡ false
    → AreNew [] (keys_of (cs ++ c ∷ []))
new_component cs c h e =
    subst (AreNew []) (sym (map-append (λ (x : ComponentConfigOf). x.component.key) cs (c ∷ [])))
    (new_more [] (keys_of cs) c.component.key h (sym (same_has cs c.component.key) ∙ e))

-- a list with one more item at the end
all_more : {A : Type 0} (P : A → Type 0) (xs : List A) (x : A) → AllByRecursion P xs → P x → AllByRecursion P (xs ++ x ∷ [])
all_more P [] x h p = (p, tt)
all_more P (y ∷ xs) x h p = (h.0, all_more P xs x h.1 p)

all_front : {A : Type 0} (P : A → Type 0) (xs ys : List A) → AllByRecursion P (xs ++ ys) → AllByRecursion P xs × AllByRecursion P ys
all_front P [] ys h = (tt, h)
all_front P (x ∷ xs) ys h = let more = all_front P xs ys h.1 in ((h.0, more.0), more.1)

one_more : {A : Type 0} (xs : List A) (x : A) → length (xs ++ x ∷ []) ≡ length xs + 1
one_more xs x = length-append xs (x ∷ [])

different_more : (xs : List ℕ) (y : ℕ) → AreDifferent xs → AllByRecursion (λ x. x ≢ y) xs → AreDifferent (xs ++ y ∷ [])
different_more [] y h others = (All-from_recursion (λ z. y ≢ z) [] tt, tt)
different_more (x ∷ xs) y h others = (
  All-from_recursion (λ z. x ≢ z) (xs ++ y ∷ []) (all_more (λ z. x ≢ z) xs y (recursion_from_All (λ z. x ≢ z) xs h.0) others.0),
  different_more xs y h.1 others.1,
)

-- an identifier that is read is in its bounds
in_bounds : (digits low high : Bool) (v n : ℕ) → nat_le 8 v ≡ low → nat_le v 254 ≡ high
    → (if digits then (if low && high then Ok v else Err causes.Range) else Err causes.Number) ≡ Ok n → IsEid n
in_bounds true true true v n le ge e = subst IsEid (cc) (leb-true 8 v le, leb-true v 254 ge)
in_bounds true true false v n le ge e = absurd (cc)
in_bounds true false high v n le ge e = absurd (cc)
in_bounds false low high v n le ge e = absurd (cc)

eid_in : (word : List ℕ) (n : ℕ) → eid_of word ≡ Ok n → IsEid n
unfolding number_in
eid_in word n e =
    in_bounds (list_all is_ascii_digit word) (nat_le 8 (digits_value 10 word)) (nat_le (digits_value 10 word) 254) (digits_value 10 word) n refl refl e

node_made_in : (a : Result ℕ ScriptCause) (u : Result (List ℕ) ScriptCause) (e : Endpoint) → ((n : ℕ) → a ≡ Ok n → IsEid n)
    → configs.mapped_value configs.endpoint_made (both a u) ≡ Ok e → IsEid e.eid
node_made_in (Ok n) (Ok bytes) e known h = subst (λ (x : Endpoint). IsEid x.eid) {x = configs.endpoint_made (n, bytes)} {y = e} (cc) (known n refl)
node_made_in (Ok n) (Err cause) e known h = absurd (cc)
node_made_in (Err cause) (Ok bytes) e known h = absurd (cc)
node_made_in (Err cause) (Err other) e known h = absurd (cc)

node_in : (eid uuid : List ℕ) (e : Endpoint) → configs.node_of eid uuid ≡ Ok e → IsEid e.eid
node_in eid uuid e h = node_made_in (eid_of eid) (uuid_of uuid) e (eid_in eid) h

-- The draft satisfies the limits so far.
abbrev eids_in : DraftOf → List ℕ
eids_in d = map (λ a. a.eid) (option_to_list d.agent) ++ eids_of (configs.devices_of d)

record IsDraft (d : DraftOf) : Type 0 where
  agent : IfSome d.agent (λ a. IsEid a.eid)
  each : AllByRecursion IsDevice (configs.devices_of d)
  few : length (configs.devices_of d) ≤ 16
  apart : AreDifferent (eids_in d)
  alone : is_some d.agent ≡ false → configs.devices_of d ≡ []

nothing_whole : IsDraft configs.empty_draft
nothing_whole = record { agent = tt; each = tt; few = omega (arith); apart = tt; alone = λ e. refl }

-- the agent's line
alone_whole : (d : DraftOf) (a : Endpoint) → IsDraft d → is_some d.agent ≡ false → IsEid a.eid → IsDraft (record d { agent = Some a })
alone_whole d a h none eid = record {
  agent = eid;
  each = h.each;
  few = h.few;
  apart = subst (λ xs. AreDifferent (a.eid ∷ eids_of xs)) (sym (h.alone none)) (All-from_recursion (λ z. a.eid ≢ z) [] tt, tt);
  alone = λ e. absurd (cc);
}

agent_made : (d d2 : DraftOf) (r : Result Endpoint ScriptCause) → IsDraft d → is_some d.agent ≡ false → ((e : Endpoint) → r ≡ Ok e → IsEid e.eid)
    → configs.with_agent d r ≡ Ok d2 → IsDraft d2
agent_made d d2 (Ok a) h none known e = subst IsDraft {y = d2} (cc) (alone_whole d a h none (known a refl))
agent_made d d2 (Err cause) h none known e = absurd (cc)

agent_if : (d d2 : DraftOf) (b : Bool) (r : Result Endpoint ScriptCause) → IsDraft d → is_some d.agent ≡ b → ((e : Endpoint) → r ≡ Ok e → IsEid e.eid)
    → (if b then Err causes.Order else configs.with_agent d r) ≡ Ok d2 → IsDraft d2
agent_if d d2 true r h none known e = absurd (cc)
agent_if d d2 false r h none known e = agent_made d d2 r h none known e

agent_whole : (d d2 : DraftOf) (fields : List (List ℕ)) → IsDraft d → configs.agent_line d fields ≡ Ok d2 → IsDraft d2
agent_whole d d2 (eid ∷ uuid ∷ []) h e = agent_if d d2 (is_some d.agent) (configs.node_of eid uuid) h refl (node_in eid uuid) e
agent_whole d d2 [] h e = absurd (cc)
agent_whole d d2 (eid ∷ []) h e = absurd (cc)
agent_whole d d2 (eid ∷ uuid ∷ more ∷ fields) h e = absurd (cc)

-- the unit's line
unit_made : (d d2 : DraftOf) (r : Result «Unit» ScriptCause) → IsDraft d → configs.with_unit d r ≡ Ok d2 → IsDraft d2
unit_made d d2 (Ok u) h e =
    subst IsDraft {x = record d { unit = Some u }} {y = d2} (cc) (record { agent = h.agent; each = h.each; few = h.few; apart = h.apart; alone = h.alone })
unit_made d d2 (Err cause) h e = absurd (cc)

unit_if : (d d2 : DraftOf) (b : Bool) (r : Result «Unit» ScriptCause) → IsDraft d → (if b then configs.with_unit d r else Err causes.Order) ≡ Ok d2
    → IsDraft d2
unit_if d d2 true r h e = unit_made d d2 r h e
unit_if d d2 false r h e = absurd (cc)

unit_whole : (d d2 : DraftOf) (fields : List (List ℕ)) → IsDraft d → configs.unit_line d fields ≡ Ok d2 → IsDraft d2
unit_whole d d2 (bytes ∷ []) h e = unit_if d d2 (configs.may_choose d) (configs.unit_of bytes) h e
unit_whole d d2 [] h e = absurd (cc)
unit_whole d d2 (bytes ∷ more ∷ fields) h e = absurd (cc)

-- a device's line
not_same : (a b : ℕ) → (a == b) ≡ false → a ≡ b → ⊥
not_same a b e same = grind (arith, e, same)

at_most : (m n : ℕ) → nat_lt m n ≡ false → n ≤ m
at_most m n e = grind (arith, e)

nothing_behind : {A : Type 0} (xs : List A) (x : A) → xs ++ x ∷ [] ≡ [] → ⊥
nothing_behind [] x e = absurd (cc)
nothing_behind (y ∷ xs) x e = absurd (cc)

other_if : (a b : Bool) (x : DeviceConfigOf) (xs : List DeviceConfigOf) (eid : ℕ) → (x.endpoint.eid == eid) ≡ a → configs.is_device xs eid ≡ b → (a || b) ≡ false
    → (configs.is_device xs eid ≡ false → AllByRecursion (λ y. y ≢ eid) (eids_of xs)) → AllByRecursion (λ y. y ≢ eid) (eids_of (x ∷ xs))
other_if false false x xs eid ea eb e others = ((λ same. not_same x.endpoint.eid eid ea same), others eb)
other_if true b x xs eid ea eb e others = absurd (cc)
other_if false true x xs eid ea eb e others = absurd (cc)

others_in : (xs : List DeviceConfigOf) (eid : ℕ) → configs.is_device xs eid ≡ false → AllByRecursion (λ x. x ≢ eid) (eids_of xs)
others_in [] eid e = tt
others_in (x ∷ xs) eid e = other_if (x.endpoint.eid == eid) (configs.is_device xs eid) x xs eid refl refl e (others_in xs eid)

agent_other : (a b : Bool) (x : Endpoint) (xs : List DeviceConfigOf) (eid : ℕ) → (x.eid == eid) ≡ a → configs.is_device xs eid ≡ b → (a || b) ≡ false
    → AllByRecursion (λ y. y ≢ eid) (x.eid ∷ eids_of xs)
agent_other false false x xs eid ea eb e = ((λ same. not_same x.eid eid ea same), others_in xs eid eb)
agent_other true b x xs eid ea eb e = absurd (cc)
agent_other false true x xs eid ea eb e = absurd (cc)

others_of : (a : Option Endpoint) (xs : List DeviceConfigOf) (eid : ℕ) → (configs.is_agent a eid || configs.is_device xs eid) ≡ false
    → AllByRecursion (λ x. x ≢ eid) (map (λ x. x.eid) (option_to_list a) ++ eids_of xs)
others_of None xs eid e = others_in xs eid e
others_of (Some a) xs eid e = agent_other (a.eid == eid) (configs.is_device xs eid) a xs eid refl refl e

new_whole : (endpoint : Endpoint) → IsEid endpoint.eid → IsDevice (configs.new_device endpoint)
new_whole endpoint eid = record { eid = eid; few = omega (arith); new = tt }

begun_whole : (d : DraftOf) (x : Endpoint) → IsDraft d → is_some d.agent ≡ true → configs.uses_eid d x.eid ≡ false → length (configs.devices_of d) ≤ 15
    → IsEid x.eid → IsDraft (configs.draft_with_device d x)
begun_whole d x h some unused room eid = record {
  agent = h.agent;
  each = all_more IsDevice (configs.devices_of d) (configs.new_device x) h.each (new_whole x eid);
  few = subst (λ n. n ≤ 16) (sym (one_more (configs.devices_of d) (configs.new_device x))) (omega (arith, room));
  apart =
      subst AreDifferent (append_assoc (map (λ a. a.eid) (option_to_list d.agent)) (eids_of (configs.devices_of d)) (x.eid ∷ [])
      ∙ ap (λ xs. map (λ a. a.eid) (option_to_list d.agent) ++ xs) (sym (map-append (λ (y : DeviceConfigOf). y.endpoint.eid) (configs.devices_of d) (configs.new_device x ∷ []))))
      (different_more (eids_in d) x.eid h.apart (others_of d.agent (configs.devices_of d) x.eid unused));
  alone = λ e. absurd (cc);
}

begun_if : (d d2 : DraftOf) (used many : Bool) (x : Endpoint) → IsDraft d → is_some d.agent ≡ true → IsEid x.eid → configs.uses_eid d x.eid ≡ used
    → nat_lt 15 (length (configs.devices_of d)) ≡ many
    → (if used then Err causes.Duplicate else (if many then Err causes.Limit else Ok (configs.draft_with_device d x))) ≡ Ok d2 → IsDraft d2
begun_if d d2 true many x h some eid used room e = absurd (cc)
begun_if d d2 false true x h some eid used room e = absurd (cc)
begun_if d d2 false false x h some eid used room e =
    subst IsDraft {y = d2} (cc) (begun_whole d x h some used (at_most 15 (length (configs.devices_of d)) room) eid)

device_made : (d d2 : DraftOf) (r : Result Endpoint ScriptCause) → IsDraft d → is_some d.agent ≡ true → ((e : Endpoint) → r ≡ Ok e → IsEid e.eid)
    → configs.with_device d r ≡ Ok d2 → IsDraft d2
device_made d d2 (Ok x) h some known e =
    begun_if d d2 (configs.uses_eid d x.eid) (nat_lt 15 (length (configs.devices_of d))) x h some (known x refl) refl refl e
device_made d d2 (Err cause) h some known e = absurd (cc)

device_if : (d d2 : DraftOf) (a b : Bool) (r : Result Endpoint ScriptCause) → IsDraft d → is_some d.agent ≡ a → ((e : Endpoint) → r ≡ Ok e → IsEid e.eid)
    → (if a && b then configs.with_device d r else Err causes.Order) ≡ Ok d2 → IsDraft d2
device_if d d2 true true r h some known e = device_made d d2 r h some known e
device_if d d2 true false r h some known e = absurd (cc)
device_if d d2 false b r h some known e = absurd (cc)

device_whole : (d d2 : DraftOf) (fields : List (List ℕ)) → IsDraft d → configs.device_line d fields ≡ Ok d2 → IsDraft d2
device_whole d d2 (eid ∷ uuid ∷ []) h e =
    device_if d d2 (is_some d.agent) (configs.has_none d.packages) (configs.node_of eid uuid) h refl (node_in eid uuid) e
device_whole d d2 [] h e = absurd (cc)
device_whole d d2 (eid ∷ []) h e = absurd (cc)
device_whole d d2 (eid ∷ uuid ∷ more ∷ fields) h e = absurd (cc)

-- a line of the last device changes only that device; its endpoint and its limits are kept
record Keeps (x y : DeviceConfigOf) : Type 0 where
  endpoint : y.endpoint ≡ x.endpoint
  whole : IsDevice x → IsDevice y

changed_whole : (d : DraftOf) (x y : DeviceConfigOf) → IsDraft d → d.last ≡ Some x → Keeps x y → IsDraft (record d { last = Some y })
changed_whole d x y h last keeps =
    let parts = all_front IsDevice d.done (x ∷ []) (subst (λ o. AllByRecursion IsDevice (d.done ++ option_to_list o)) last h.each) in
    let same = map-append (λ (z : DeviceConfigOf). z.endpoint.eid) d.done (x ∷ []) ∙ ap (λ e. eids_of d.done ++ e.eid ∷ []) (sym keeps.endpoint)
    ∙ sym (map-append (λ (z : DeviceConfigOf). z.endpoint.eid) d.done (y ∷ [])) in
    record {
      agent = h.agent;
      each = all_more IsDevice d.done y parts.0 (keeps.whole parts.1.0);
      few = subst (λ n. n ≤ 16) (one_more d.done x ∙ sym (one_more d.done y)) (subst (λ o. length (d.done ++ option_to_list o) ≤ 16) last h.few);
      apart = subst (λ xs. AreDifferent (map (λ a. a.eid) (option_to_list d.agent) ++ xs)) same
          (subst (λ o. AreDifferent (map (λ a. a.eid) (option_to_list d.agent) ++ eids_of (d.done ++ option_to_list o))) last h.apart);
      alone = λ e. absurd (nothing_behind d.done x (subst (λ o. d.done ++ option_to_list o ≡ []) last (h.alone e)));
    }

changed_made : (d d2 : DraftOf) (x : DeviceConfigOf) (r : Result DeviceConfigOf ScriptCause) → IsDraft d → d.last ≡ Some x
    → ((y : DeviceConfigOf) → r ≡ Ok y → Keeps x y) → configs.draft_with_last d r ≡ Ok d2 → IsDraft d2
changed_made d d2 x (Ok y) h last keeps e = subst IsDraft {y = d2} (cc) (changed_whole d x y h last (keeps y refl))
changed_made d d2 x (Err cause) h last keeps e = absurd (cc)

of_last_whole : (d d2 : DraftOf) (o : Option DeviceConfigOf) (says : DeviceConfigOf → Result DeviceConfigOf ScriptCause) → IsDraft d → d.last ≡ o
    → ((x y : DeviceConfigOf) → says x ≡ Ok y → Keeps x y) → configs.of_last d o says ≡ Ok d2 → IsDraft d2
of_last_whole d d2 None says h last keeps e = absurd (cc)
of_last_whole d d2 (Some x) says h last keeps e = changed_made d d2 x (says x) h last (keeps x) e

in_device_if : (d d2 : DraftOf) (b : Bool) (says : DeviceConfigOf → Result DeviceConfigOf ScriptCause) → IsDraft d
    → ((x y : DeviceConfigOf) → says x ≡ Ok y → Keeps x y) → (if b then configs.of_last d d.last says else Err causes.Order) ≡ Ok d2 → IsDraft d2
in_device_if d d2 true says h keeps e = of_last_whole d d2 d.last says h refl keeps e
in_device_if d d2 false says h keeps e = absurd (cc)

in_device_whole : (d d2 : DraftOf) (says : DeviceConfigOf → Result DeviceConfigOf ScriptCause) → IsDraft d
    → ((x y : DeviceConfigOf) → says x ≡ Ok y → Keeps x y) → configs.in_device d says ≡ Ok d2 → IsDraft d2
in_device_whole d d2 says h keeps e = in_device_if d d2 (configs.has_none d.packages) says h keeps e

-- a descriptor's line
told_if : (x y : DeviceConfigOf) (b : Bool) (d : DeviceDescriptorOf)
    → (if b then Err causes.Limit else Ok (record x { descriptors = x.descriptors ++ d ∷ [] })) ≡ Ok y → Keeps x y
told_if x y true d e = absurd (cc)
told_if x y false d e =
    subst (Keeps x) {x = record x { descriptors = x.descriptors ++ d ∷ [] }} {y = y} (cc) (record { endpoint = refl; whole = λ h. record { eid = h.eid; few = h.few; new = h.new } })

described_made : (x y : DeviceConfigOf) (r : Result (ℕ × List ℕ) ScriptCause) → configs.with_descriptor x r ≡ Ok y → Keeps x y
described_made x y (Ok v) e =
    told_if x y (nat_lt 246 (length (descriptors_bytes x.descriptors) + descriptor_size (configs.descriptor_made v))) (configs.descriptor_made v) e
described_made x y (Err cause) e = absurd (cc)

described_keeps : (kind bytes : List ℕ) (x y : DeviceConfigOf) → configs.device_with_descriptor_words kind bytes x ≡ Ok y → Keeps x y
unfolding configs.device_with_descriptor_words
described_keeps kind bytes x y e = described_made x y (both (kind_of kind) (bytes_of bytes)) e

descriptor_whole : (d d2 : DraftOf) (fields : List (List ℕ)) → IsDraft d → configs.descriptor_line d fields ≡ Ok d2 → IsDraft d2
descriptor_whole d d2 (kind ∷ bytes ∷ []) h e = in_device_whole d d2 (configs.device_with_descriptor_words kind bytes) h (described_keeps kind bytes) e
descriptor_whole d d2 [] h e = absurd (cc)
descriptor_whole d d2 (kind ∷ []) h e = absurd (cc)
descriptor_whole d d2 (kind ∷ bytes ∷ more ∷ fields) h e = absurd (cc)

-- a component's line
added_whole : (x : DeviceConfigOf) (c : ComponentConfigOf) → has_component x.components c.component.key ≡ false → length x.components ≤ 2
    → Keeps x (record x { components = x.components ++ c ∷ [] })
added_whole x c new room = record {
  endpoint = refl;
  whole = λ h. record {
    eid = h.eid;
    few = subst (λ n. n ≤ 3) (sym (one_more x.components c)) (omega (arith, room));
    new = new_component x.components c h.new new;
  };
}

added_if : (x y : DeviceConfigOf) (twice many large : Bool) (c : ComponentConfigOf) → has_component x.components c.component.key ≡ twice
    → nat_lt 2 (length x.components) ≡ many
    → (if twice then Err causes.Duplicate else (if many || large then Err causes.Limit else Ok (record x { components = x.components ++ c ∷ [] }))) ≡ Ok y
    → Keeps x y
added_if x y true many large c new room e = absurd (cc)
added_if x y false true large c new room e = absurd (cc)
added_if x y false false true c new room e = absurd (cc)
added_if x y false false false c new room e = subst (Keeps x) {y = y} (cc) (added_whole x c new (at_most 2 (length x.components) room))

component_made : (text : List ℕ) (x y : DeviceConfigOf) (r : Result (Numbers × List ℕ) ScriptCause) → configs.with_component text x r ≡ Ok y → Keeps x y
component_made text x y (Ok v) e =
    let c = configs.component_made text v in
    added_if x y (has_component x.components c.component.key) (nat_lt 2 (length x.components)) (nat_lt longest_image (length c.image)) c refl refl e
component_made text x y (Err cause) e = absurd (cc)

extended_keeps : (numbers : Result Numbers ScriptCause) (label image : List ℕ) (x y : DeviceConfigOf) → configs.device_with_component_words numbers label image x ≡ Ok y
    → Keeps x y
unfolding configs.device_with_component_words
extended_keeps numbers label image x y e = component_made (text_of label) x y (both numbers (bytes_of image)) e

component_whole : (d d2 : DraftOf) (fields : List (List ℕ)) → IsDraft d → configs.component_line d fields ≡ Ok d2 → IsDraft d2
component_whole d d2 (class ∷ ident ∷ index ∷ stamp ∷ label ∷ image ∷ []) h e =
    in_device_whole d d2 (configs.device_with_component_words (configs.numbers_of class ident index stamp) label image) h
    (extended_keeps (configs.numbers_of class ident index stamp) label image) e
component_whole d d2 [] h e = absurd (cc)
component_whole d d2 (a ∷ []) h e = absurd (cc)
component_whole d d2 (a ∷ b ∷ []) h e = absurd (cc)
component_whole d d2 (a ∷ b ∷ c ∷ []) h e = absurd (cc)
component_whole d d2 (a ∷ b ∷ c ∷ s ∷ []) h e = absurd (cc)
component_whole d d2 (a ∷ b ∷ c ∷ s ∷ t ∷ []) h e = absurd (cc)
component_whole d d2 (a ∷ b ∷ c ∷ s ∷ t ∷ u ∷ more ∷ fields) h e = absurd (cc)

-- a package's line
package_made : (d d2 : DraftOf) (r : Result (List ℕ) ScriptCause) → IsDraft d → configs.with_package d r ≡ Ok d2 → IsDraft d2
package_made d d2 (Ok path) h e =
    subst IsDraft {x = record d { packages = d.packages ++ path ∷ [] }} {y = d2} (cc) (record { agent = h.agent; each = h.each; few = h.few; apart = h.apart; alone = h.alone })
package_made d d2 (Err cause) h e = absurd (cc)

package_if : (d d2 : DraftOf) (b : Bool) (r : Result (List ℕ) ScriptCause) → IsDraft d
    → (if b then configs.with_package d r else Err causes.Order) ≡ Ok d2 → IsDraft d2
package_if d d2 true r h e = package_made d d2 r h e
package_if d d2 false r h e = absurd (cc)

package_whole : (d d2 : DraftOf) (fields : List (List ℕ)) → IsDraft d → configs.package_line d fields ≡ Ok d2 → IsDraft d2
package_whole d d2 (path ∷ []) h e = package_if d d2 (is_some d.agent) (configs.path_of path) h e
package_whole d d2 [] h e = absurd (cc)
package_whole d d2 (path ∷ more ∷ fields) h e = absurd (cc)

-- any line
said_whole : (d d2 : DraftOf) (directive : Directive) (fields : List (List ℕ)) → IsDraft d → configs.draft_after_directive d directive fields ≡ Ok d2 → IsDraft d2
said_whole d d2 directives.Agent fields h e = agent_whole d d2 fields h e
said_whole d d2 directives.Unit fields h e = unit_whole d d2 fields h e
said_whole d d2 directives.Device fields h e = device_whole d d2 fields h e
said_whole d d2 directives.Descriptor fields h e = descriptor_whole d d2 fields h e
said_whole d d2 directives.Component fields h e = component_whole d d2 fields h e
said_whole d d2 directives.Package fields h e = package_whole d d2 fields h e

named_whole : (d d2 : DraftOf) (o : Option Directive) (fields : Option (List (List ℕ))) → IsDraft d → configs.line_named d o fields ≡ Ok d2 → IsDraft d2
named_whole d d2 None fields h e = absurd (cc)
named_whole d d2 (Some directive) None h e = absurd (cc)
named_whole d d2 (Some directive) (Some fields) h e = said_whole d d2 directive fields h e

words_whole : (d d2 : DraftOf) (words : List (List ℕ)) → IsDraft d → configs.draft_after_words d words ≡ Ok d2 → IsDraft d2
words_whole d d2 [] h e = absurd (cc)
words_whole d d2 (name ∷ fields) h e = named_whole d d2 (configs.directive_of name) (fields_in 6 fields) h e

line_if : (d d2 : DraftOf) (b : Bool) (words : List (List ℕ)) → IsDraft d → (if b then Ok d else configs.draft_after_words d words) ≡ Ok d2 → IsDraft d2
line_if d d2 true words h e = subst IsDraft {y = d2} (cc) h
line_if d d2 false words h e = words_whole d d2 words h e

line_whole : (d d2 : DraftOf) (line : List ℕ) → IsDraft d → configs.after_line d line ≡ Ok d2 → IsDraft d2
unfolding configs.after_line
line_whole d d2 line h e = line_if d d2 (is_skipped line) (words_of line) h e

-- after the last line
some_device : (xs : List DeviceConfigOf) → configs.has_missing xs ≡ false → 1 ≤ length xs
some_device [] e = absurd (cc)
some_device (x ∷ xs) e = omega (arith)

config_if : (d : DraftOf) (a : Endpoint) (u : «Unit») (b : Bool) (c : ConfigOf) → IsDraft d → d.agent ≡ Some a → configs.has_missing (configs.devices_of d) ≡ b
    → (if b then Err causes.Missing else Ok (record { agent = a; unit = u; devices = configs.devices_of d; packages = d.packages })) ≡ Ok c
    → AreWhole c.agent.eid c.devices
config_if d a u true c h agent some e = absurd (cc)
config_if d a u false c h agent some e =
    subst (λ (x : ConfigOf). AreWhole x.agent.eid x.devices) {x = record { agent = a; unit = u; devices = configs.devices_of d; packages = d.packages }} {y = c} (cc) (record {
      agent_eid = subst (λ o. IfSome o (λ x. IsEid x.eid)) agent h.agent;
      some = some_device (configs.devices_of d) some;
      few = h.few;
      each = h.each;
      apart = subst (λ o. AreDifferent (map (λ x. x.eid) (option_to_list o) ++ eids_of (configs.devices_of d))) agent h.apart;
    })

config_made : (d : DraftOf) (o : Option Endpoint) (u : «Unit») (c : ConfigOf) → IsDraft d → d.agent ≡ o → configs.config_of_parts o u (configs.devices_of d) d.packages ≡ Ok c
    → AreWhole c.agent.eid c.devices
config_made d None u c h agent e = absurd (cc)
config_made d (Some a) u c h agent e = config_if d a u (configs.has_missing (configs.devices_of d)) c h agent refl e

finished_at : (number : ℕ) (d : DraftOf) (r : Result ConfigOf ScriptCause) (c : ConfigOf)
    → ((x : ConfigOf) → r ≡ Ok x → AreWhole x.agent.eid x.devices) → configs.at_line number Ok r ≡ Ok c → AreWhole c.agent.eid c.devices
finished_at number d (Ok x) c known e = subst (λ (y : ConfigOf). AreWhole y.agent.eid y.devices) {x = x} {y = c} (cc) (known x refl)
finished_at number d (Err cause) c known e = absurd (cc)

finished_known : (d : DraftOf) → IsDraft d → (c : ConfigOf) → configs.config_of_draft d ≡ Ok c → AreWhole c.agent.eid c.devices
unfolding configs.config_of_draft
finished_known d h c e = config_made d d.agent (configs.unit_or d.unit) c h refl e

next_at : (lines : List (List ℕ)) (number : ℕ) (r : Result DraftOf ScriptCause) (c : ConfigOf) → ((d : DraftOf) → r ≡ Ok d → IsDraft d)
    → ((d : DraftOf) → IsDraft d → configs.config_from lines (number + 1) d ≡ Ok c → AreWhole c.agent.eid c.devices)
    → configs.at_line number (configs.config_from lines (number + 1)) r ≡ Ok c → AreWhole c.agent.eid c.devices
next_at lines number (Ok d) c known rest e = rest d (known d refl) e
next_at lines number (Err cause) c known rest e = absurd (cc)

from_whole : (lines : List (List ℕ)) (number : ℕ) (d : DraftOf) (c : ConfigOf) → IsDraft d → configs.config_from lines number d ≡ Ok c
    → AreWhole c.agent.eid c.devices
from_whole [] number d c h e = finished_at number d (configs.config_of_draft d) c (finished_known d h) e
from_whole (line ∷ lines) number d c h e =
    next_at lines number (configs.after_line d line) c (λ d2 made. line_whole d d2 line h made) (λ d2 h2 e2. from_whole lines (number + 1) d2 c h2 e2) e

-- every configuration that is read satisfies its limits
pub config_whole : (text : List ℕ) (c : ConfigOf) → configs.config_of text ≡ Ok c → AreWhole c.agent.eid c.devices
config_whole text c e = from_whole (lines_of text) 1 configs.empty_draft c nothing_whole e
