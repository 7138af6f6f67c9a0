-- A component's parameters, read and written.
use Rattle.std.proofs.Common.{Bool, List, None, Option, Some, [], ap, arith, drop, false, if◌then◌else◌, is_some, length, nat_le, refl, replicate, rules, sym, take, true, unwrap_or, ℕ, ◌%◌, ◌*◌, ◌++◌, ◌+◌, ◌-◌, ◌/◌, ◌<◌, ◌∙◌, ◌∷◌, ◌≡◌, ◌≤◌}
use Rattle.std.proofs.lemmas.Bool.{le-leb, leb-true}
use Rattle.std.proofs.lemmas.List.{append_assoc, drop-drop, length-append, length-take-le, take-append-drop}
use Rattle.std.proofs.Math.Seq.{drop-append-add, drop-append_seam, take-append_seam}
use Rattle.byteorder.specs.Endian.{little_bytes}
use Rattle.byteorder.specs.Numbers.{little_number-reads_back}
use Rattle.fwup_wire.proofs.Items.{AreBytes, are_items, bytes_behind, items_behind, items_kept, items_pushed}
use Rattle.fwup_wire.proofs.Parts.{parameters_skipped}
use Rattle.fwup_wire.specs.Fields.{component_bytes, first_bytes, first_component, first_u32, u16_of, u32_of}
use Rattle.fwup_wire.specs.Parameters.{AreParameters, HasParametersWidths, HoldsParameters, first_parameters, first_text_head, has_methods, parameters_bytes, parameters_in, parameters_size, text_head_bytes, with_part, with_texts}
use Rattle.fwup_wire.specs.Values.{ParametersOf}
use Rattle.fwup_wire.specs.declared.values.Key.{Key}

-- the first of several bytes
first_bytes_seam : (xs ys : List ℕ) → first_bytes (length xs) (xs ++ ys) ≡ Some xs
first_bytes_seam xs ys =
    let enough : nat_le (length xs) (length (xs ++ ys)) ≡ true =
    le-leb (length xs) (length (xs ++ ys)) (rw (length-append xs ys) (omega arith)) in
    rw (enough, take-append_seam xs ys) refl

texts_read_back : (key : Key) (index stamp pending kind kind' : ℕ) (xs ys rest : List ℕ)
    → with_texts key index stamp (kind, length xs) pending (kind', length ys) ((xs ++ ys) ++ rest)
    ≡ Some (record {
      key = key;
      index = index;
      active = record { stamp = stamp; text = record { text_type = kind; bytes = xs } };
      pending = record { stamp = pending; text = record { text_type = kind'; bytes = ys } };
    })
texts_read_back key index stamp pending kind kind' xs ys rest =
    rw (append_assoc xs ys rest, first_bytes_seam xs (ys ++ rest), drop-append_seam xs (ys ++ rest), first_bytes_seam ys rest) refl

-- encoded parameters are read back, with any bytes after them
pub parameters_read_back : (p : ParametersOf) (rest : List ℕ) → HasParametersWidths p
    → first_parameters (parameters_bytes p ++ rest) ≡ Some p
parameters_read_back p rest fits =
    let classification = little_number-reads_back 2 p.key.classification [] fits.0.0 in
    let identifier = little_number-reads_back 2 p.key.identifier [] fits.0.1 in
    let active = little_number-reads_back 4 p.active.stamp [] fits.0.2 in
    let pending = little_number-reads_back 4 p.pending.stamp [] fits.1 in
    rw (classification, identifier, active, pending)
    (texts_read_back p.key p.index p.active.stamp p.pending.stamp p.active.text.text_type p.pending.text.text_type
    p.active.text.bytes p.pending.text.bytes rest)

-- the part before the texts
abbrev fixed_bytes : ParametersOf → List ℕ
fixed_bytes p =
    component_bytes p.key p.index p.active.stamp ++ text_head_bytes p.active.text ++ little_bytes 4 p.pending.stamp
    ++ text_head_bytes p.pending.text ++ 2 ∷ replicate 5 0

pub parameters_skip : (p : ParametersOf) (rest : List ℕ) → drop (parameters_size p) (parameters_bytes p ++ rest) ≡ rest
parameters_skip p rest =
    drop-append-add (fixed_bytes p) ((p.active.text.bytes ++ p.pending.text.bytes) ++ rest)
    (length p.active.text.bytes + length p.pending.text.bytes)
    ∙ ap (λ n. drop n ((p.active.text.bytes ++ p.pending.text.bytes) ++ rest))
    (sym (length-append p.active.text.bytes p.pending.text.bytes))
    ∙ drop-append_seam (p.active.text.bytes ++ p.pending.text.bytes) rest

-- a part that was found
part_found : {A B R : Type 0} (part : Option A) (make : A → Option B) (b : B) → with_part part make ≡ Some b
    → ((a : A) → part ≡ Some a → make a ≡ Some b → R) → R
part_found None make b e found = absurd (cc)
part_found (Some a) make b e found = found a refl e

true_found : {B R : Type 0} (test : Bool) (made : Option B) (b : B) → (if test then made else None) ≡ Some b
    → (test ≡ true → made ≡ Some b → R) → R
true_found true made b e found = found refl e
true_found false made b e found = absurd (cc)

-- the bytes of numbers
low_of : (a b : ℕ) → a < 256 → u16_of a b % 256 ≡ a
low_of a b h = omega arith

high_of : (a b : ℕ) → a < 256 → b < 256 → u16_of a b / 256 % 256 ≡ b
high_of a b h g = omega arith

byte_0 : (a b c d : ℕ) → a < 256 → u32_of a b c d % 256 ≡ a
byte_0 a b c d f = omega arith

byte_1 : (a b c d : ℕ) → a < 256 → b < 256 → u32_of a b c d / 256 % 256 ≡ b
byte_1 a b c d f g = omega arith

byte_2 : (a b c d : ℕ) → a < 256 → b < 256 → c < 256 → u32_of a b c d / 65536 % 256 ≡ c
byte_2 a b c d f g h = omega arith

byte_3 : (a b c d : ℕ) → a < 256 → b < 256 → c < 256 → d < 256 → u32_of a b c d / 16777216 % 256 ≡ d
byte_3 a b c d f g h i = omega arith

-- bytes that come after others
bytes_in : (n : ℕ) (s t : List ℕ) → t ≡ drop n s → AreBytes s → AreBytes t
bytes_in n s t is are = rw is (bytes_behind n s are)

-- the parameters with these parts
abbrev made : Key × ℕ × ℕ → ℕ × ℕ → ℕ → ℕ × ℕ → List ℕ → List ℕ → ParametersOf
made component active pending_stamp pending active_text pending_text =
    record {
      key = component.0;
      index = component.1;
      active = record { stamp = component.2; text = record { text_type = active.0; bytes = active_text } };
      pending = record { stamp = pending_stamp; text = record { text_type = pending.0; bytes = pending_text } };
    }

-- each part is in its encoded form
component_exact : (bytes : List ℕ) (c : Key × ℕ × ℕ) → AreBytes bytes → first_component bytes ≡ Some c
    → bytes ≡ component_bytes c.0 c.1 c.2 ++ drop 9 bytes
component_exact (c0 ∷ c1 ∷ i0 ∷ i1 ∷ index ∷ s0 ∷ s1 ∷ s2 ∷ s3 ∷ rest) c are is =
    let same : c ≡ (record { classification = u16_of c0 c1; identifier = u16_of i0 i1 }, index, u32_of s0 s1 s2 s3) = cc in
    rw (same, low_of c0 c1 (are 0), high_of c0 c1 (are 0) (are 1), low_of i0 i1 (are 2), high_of i0 i1 (are 2) (are 3), byte_0 s0 s1 s2 s3 (are 5), byte_1 s0 s1 s2 s3 (are 5) (are 6), byte_2 s0 s1 s2 s3 (are 5) (are 6) (are 7), byte_3 s0 s1 s2 s3 (are 5) (are 6) (are 7) (are 8)) refl
component_exact bytes c are is = absurd (cc)

text_head_exact : (bytes : List ℕ) (h : ℕ × ℕ) → first_text_head bytes ≡ Some h
    → bytes ≡ (h.0 ∷ h.1 ∷ replicate 8 0) ++ drop 10 bytes
text_head_exact bytes h is = search rules

stamp_exact : (bytes : List ℕ) (stamp : ℕ) → AreBytes bytes → first_u32 bytes ≡ Some stamp
    → bytes ≡ little_bytes 4 stamp ++ drop 4 bytes
stamp_exact (a ∷ b ∷ c ∷ d ∷ rest) stamp are is =
    let same : stamp ≡ u32_of a b c d = cc in
    rw (same, byte_0 a b c d (are 0), byte_1 a b c d (are 0) (are 1), byte_2 a b c d (are 0) (are 1) (are 2), byte_3 a b c d (are 0) (are 1) (are 2) (are 3)) refl
stamp_exact bytes stamp are is = absurd (cc)

methods_exact : (bytes : List ℕ) → has_methods bytes ≡ true → bytes ≡ (2 ∷ replicate 5 0) ++ drop 6 bytes
methods_exact bytes is = search rules

text_exact : (size : ℕ) (bytes text : List ℕ) → first_bytes size bytes ≡ Some text
    → (bytes ≡ text ++ drop size bytes) × (length text ≡ size)
text_exact size bytes text is =
    true_found (nat_le size (length bytes)) (Some (take size bytes)) text is (λ enough taken.
    let same : text ≡ take size bytes = cc in
    rw same (sym (take-append-drop size bytes), length-take-le size bytes (leb-true size (length bytes) enough)))

-- the parts, put together
joined : (s s1 s2 s3 s4 s5 s6 s7 : List ℕ) (component : Key × ℕ × ℕ) (active : ℕ × ℕ) (pending_stamp : ℕ) (pending : ℕ × ℕ)
    (active_text pending_text : List ℕ)
    → s ≡ component_bytes component.0 component.1 component.2 ++ s1 → s1 ≡ (active.0 ∷ active.1 ∷ replicate 8 0) ++ s2
    → s2 ≡ little_bytes 4 pending_stamp ++ s3 → s3 ≡ (pending.0 ∷ pending.1 ∷ replicate 8 0) ++ s4
    → s4 ≡ (2 ∷ replicate 5 0) ++ s5 → s5 ≡ active_text ++ s6 → s6 ≡ pending_text ++ s7
    → length active_text ≡ active.1 → length pending_text ≡ pending.1
    → s ≡ parameters_bytes (made component active pending_stamp pending active_text pending_text) ++ s7
joined s s1 s2 s3 s4 s5 s6 s7 component active pending_stamp pending active_text pending_text e0 e1 e2 e3 e4 e5 e6 is_active is_pending =
    rw (is_active, is_pending, append_assoc active_text pending_text s7)
    (e0 ∙ ap (λ r. component_bytes component.0 component.1 component.2 ++ r)
    (e1 ∙ ap (λ r. (active.0 ∷ active.1 ∷ replicate 8 0) ++ r)
    (e2 ∙ ap (λ r. little_bytes 4 pending_stamp ++ r)
    (e3 ∙ ap (λ r. (pending.0 ∷ pending.1 ∷ replicate 8 0) ++ r)
    (e4 ∙ ap (λ r. (2 ∷ replicate 5 0) ++ r) (e5 ∙ ap (λ r. active_text ++ r) e6))))))

-- and so are all of them
pub parameters_spelled : (bytes : List ℕ) (p : ParametersOf) → AreBytes bytes → first_parameters bytes ≡ Some p
    → bytes ≡ parameters_bytes p ++ drop (parameters_size p) bytes
parameters_spelled s p are is =
    let s1 = drop 9 s in
    let s2 = drop 10 s1 in
    let s3 = drop 4 s2 in
    let s4 = drop 10 s3 in
    let s5 = drop 6 s4 in
    part_found (first_component s) (λ component.
    with_part (first_text_head s1) (λ active.
    with_part (first_u32 s2) (λ pending_stamp.
    with_part (first_text_head s3) (λ pending.
    if has_methods s4 then with_texts component.0 component.1 component.2 active pending_stamp pending s5 else None)))) p is (λ component is_component in_1.
    part_found (first_text_head s1) (λ active.
    with_part (first_u32 s2) (λ pending_stamp.
    with_part (first_text_head s3) (λ pending.
    if has_methods s4 then with_texts component.0 component.1 component.2 active pending_stamp pending s5 else None))) p in_1 (λ active is_active in_2.
    part_found (first_u32 s2) (λ pending_stamp.
    with_part (first_text_head s3) (λ pending.
    if has_methods s4 then with_texts component.0 component.1 component.2 active pending_stamp pending s5 else None)) p in_2 (λ pending_stamp is_stamp in_3.
    part_found (first_text_head s3) (λ pending.
    if has_methods s4 then with_texts component.0 component.1 component.2 active pending_stamp pending s5 else None) p in_3 (λ pending is_pending in_4.
    true_found (has_methods s4) (with_texts component.0 component.1 component.2 active pending_stamp pending s5) p in_4 (λ has in_5.
    part_found (first_bytes active.1 s5) (λ active_text. with_part (first_bytes pending.1 (drop active.1 s5)) (λ pending_text. Some (made component active pending_stamp pending active_text pending_text))) p in_5 (λ active_text is_text in_6.
    part_found (first_bytes pending.1 (drop active.1 s5)) (λ pending_text. Some (made component active pending_stamp pending active_text pending_text)) p in_6 (λ pending_text is_other in_7.
    let same : p ≡ made component active pending_stamp pending active_text pending_text = cc in
    let texts = text_exact active.1 s5 active_text is_text in
    let others = text_exact pending.1 (drop active.1 s5) pending_text is_other in
    rw same
    (joined s s1 s2 s3 s4 s5 (drop active.1 s5) (drop pending.1 (drop active.1 s5)) component active pending_stamp pending active_text pending_text
    (component_exact s component are is_component) (text_head_exact s1 active is_active)
    (stamp_exact s2 pending_stamp (bytes_in 19 s s2 (drop-drop 10 9 s) are) is_stamp) (text_head_exact s3 pending is_pending)
    (methods_exact s4 has) texts.0 others.0 texts.1 others.1
    ∙ ap (λ r. parameters_bytes (made component active pending_stamp pending active_text pending_text) ++ r)
    (parameters_skipped s active.1 pending.1 (length active_text) (length pending_text) texts.1 others.1)))))))))

-- bytes that read as components are their encoded form
pub are_parameters : (count : ℕ) (bytes : List ℕ) → AreBytes bytes → is_some (parameters_in count bytes) ≡ true
    → AreParameters count bytes (unwrap_or (parameters_in count bytes) [])
are_parameters count bytes are e = are_items first_parameters parameters_size parameters_bytes parameters_spelled count bytes are e

-- the other components are after the first
pub parameters_behind : (count : ℕ) (bytes : List ℕ) (p : ParametersOf) (ps : List ParametersOf) → (count ≡ 0 → ⊥)
    → first_parameters bytes ≡ Some p → AreParameters count bytes ps
    → AreParameters (count - 1) (drop (parameters_size p) bytes) (unwrap_or (parameters_in (count - 1) (drop (parameters_size p) bytes)) [])
parameters_behind count bytes p ps some is are =
    items_behind first_parameters parameters_size parameters_bytes parameters_skip count bytes p ps some is are

-- one more component
pub parameters_pushed : (count : ℕ) (bytes : List ℕ) (ps : List ParametersOf) (p : ParametersOf) → HoldsParameters count bytes ps
    → HasParametersWidths p → HoldsParameters (count + 1) (bytes ++ parameters_bytes p) (ps ++ p ∷ [])
parameters_pushed count bytes ps p holds fits =
    items_pushed first_parameters parameters_size parameters_bytes HasParametersWidths parameters_read_back parameters_skip count bytes ps p holds fits

pub parameters_kept : (count : ℕ) (bytes : List ℕ) (ps : List ParametersOf) (p : ParametersOf) → HoldsParameters count bytes ps
    → HasParametersWidths p
    → HoldsParameters (count + 1) (bytes ++ parameters_bytes p) (unwrap_or (parameters_in (count + 1) (bytes ++ parameters_bytes p)) [])
parameters_kept count bytes ps p holds fits =
    items_kept first_parameters parameters_size parameters_bytes HasParametersWidths (count + 1) (bytes ++ parameters_bytes p) (ps ++ p ∷ []) (parameters_pushed count bytes ps p holds fits)

pub parameters_seen : (count : ℕ) (bytes : List ℕ) (ps : List ParametersOf) (p : ParametersOf) → HoldsParameters count bytes ps
    → HasParametersWidths p → unwrap_or (parameters_in (count + 1) (bytes ++ parameters_bytes p)) [] ≡ ps ++ p ∷ []
parameters_seen count bytes ps p holds fits =
    let pushed = parameters_pushed count bytes ps p holds fits in let found = pushed.are.found in rw found refl

-- it gets longer by as much
pub parameters_longer : (count : ℕ) (bytes : List ℕ) (p : ParametersOf) → 39 * count ≤ length bytes
    → 39 * (count + 1) ≤ length (bytes ++ parameters_bytes p)
parameters_longer count bytes p long = rw (length-append bytes (parameters_bytes p)) (omega (arith, long))
