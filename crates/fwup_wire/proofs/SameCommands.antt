-- A command is the same as itself; keys and bytes that are the same are equal.
use Rattle.std.specs.Prelude.{ℕ, nat_eq, ◌==◌, ◌≡◌, Bool, true, false, List, [], ◌∷◌}
use Rattle.std.proofs.Common.{refl}
use Rattle.std.specs.Cmp.Lexicographic.{pointwise}
use Rattle.std.proofs.lemmas.Bool.{and_parts, eqb-true, eq-eqb}
use Rattle.fwup_wire.specs.Fields.{flag_byte}
use Rattle.fwup_wire.specs.Values.{CommandOf, TableEntryOf, OfferOf, UpdateRequestOf, TypedTextOf, VersionOf}
use Rattle.fwup_wire.specs.declared.values.Key.{Key}
use Rattle.fwup_wire.specs.Same.{same_bool, same_key, same_text, same_version, same_request, same_entry, same_offer, same_command}

pub bytes_self : (xs : List ℕ) → pointwise nat_eq xs xs ≡ true
bytes_self [] = refl
bytes_self (x ∷ xs) = rw (eq-eqb x x refl, bytes_self xs) refl

pub bytes_means : (xs ys : List ℕ) → pointwise nat_eq xs ys ≡ true → xs ≡ ys
bytes_means [] [] e = refl
bytes_means [] (y ∷ ys) e = absurd (cc)
bytes_means (x ∷ xs) [] e = absurd (cc)
bytes_means (x ∷ xs) (y ∷ ys) e =
    let p = and_parts (x == y) (pointwise nat_eq xs ys) e in
    let h : x ≡ y = eqb-true x y p.0 in
    let t : xs ≡ ys = bytes_means xs ys p.1 in
    cc

bool_self : (b : Bool) → same_bool b b ≡ true
bool_self true = refl
bool_self false = refl

pub key_self : (a : Key) → same_key a a ≡ true
key_self a = rw (eq-eqb a.classification a.classification refl, eq-eqb a.identifier a.identifier refl) refl

pub key_means : (a b : Key) → same_key a b ≡ true → a ≡ b
key_means a b e =
    let p = and_parts (a.classification == b.classification) (a.identifier == b.identifier) e in
    let x : a.classification ≡ b.classification = eqb-true a.classification b.classification p.0 in
    let y : a.identifier ≡ b.identifier = eqb-true a.identifier b.identifier p.1 in
    let P : Key → Key = λ x. x in
    let here : P (record { classification = a.classification; identifier = a.identifier }) ≡ P (record { classification = b.classification; identifier = b.identifier }) = rw (x, y) refl in
    here

text_self : (a : TypedTextOf) → same_text a a ≡ true
text_self a = rw (eq-eqb a.text_type a.text_type refl, bytes_self a.bytes) refl

version_self : (a : VersionOf) → same_version a a ≡ true
version_self a = rw (eq-eqb a.stamp a.stamp refl, text_self a.text) refl

request_self : (a : UpdateRequestOf) → same_request a a ≡ true
request_self a =
    rw (
      eq-eqb a.transfer_size a.transfer_size refl,
      eq-eqb a.components a.components refl,
      eq-eqb a.outstanding a.outstanding refl,
      eq-eqb a.package_data_length a.package_data_length refl,
      text_self a.image_set,
    ) refl

entry_self : (a : TableEntryOf) → same_entry a a ≡ true
entry_self a =
    rw (eq-eqb (flag_byte a.flag) (flag_byte a.flag) refl, key_self a.key, eq-eqb a.index a.index refl, version_self a.version) refl

offer_self : (a : OfferOf) → same_offer a a ≡ true
offer_self a = rw (key_self a.key, eq-eqb a.index a.index refl, version_self a.version, eq-eqb a.size a.size refl, bool_self a.force) refl

pub same_self : (c : CommandOf) → same_command c c ≡ true
unfolding same_command
same_self (CommandOf.RequestUpdate a) = request_self a
same_self (CommandOf.PassComponentTable a) = entry_self a
same_self (CommandOf.UpdateComponent a) = offer_self a
same_self (CommandOf.RequestFirmwareData a m) = rw (eq-eqb a a refl, eq-eqb m m refl) refl
same_self (CommandOf.TransferComplete a) = eq-eqb a a refl
same_self (CommandOf.VerifyComplete a) = eq-eqb a a refl
same_self (CommandOf.ApplyComplete a m) = rw (eq-eqb a a refl, eq-eqb m m refl) refl
same_self (CommandOf.ActivateFirmware a) = bool_self a
same_self c = refl
