-- The devices that arguments name.
use Rattle.std.proofs.Common.{◌≡◌, ◌∙◌, ◌||◌, ◌==◌, ◌∷◌, ◌+◌, ◌<◌, [], Bool, ℕ, List, Option, None, Some, All, ap, arith, codes, false, true, is_some, length, map, refl, subst, sym, take, true≢false}
use Rattle.std.specs.Borrow.{Bor}
use Rattle.std.specs.Prelude.{slice_index_or, unwrap_or}
use Rattle.std.specs.List.{list_any}
use Rattle.std.proofs.Math.ListN.{get_or-map}
use Rattle.std.proofs.lemmas.List.{length-map}
use Rattle.std.proofs.lemmas.List.Folds.{list_any_more}
use Rattle.clap.specs.Words.{Text}
use Rattle.fwupd_base.specs.DeviceSets.{has_eid}
use Rattle.fwupd_base.specs.declared.device_set.DeviceSet.{DeviceSet}
use Rattle.fwupd_words.specs.Packages.{has_any_own, has_own}
use Rattle.fwupd_words.specs.Words.{AsksDevices, Given, IsByte, is_named, is_number_in, number_of, texts_under}

-- a number is that of one of the texts behind references
abbrev pub is_number_behind : List (Bor Text) → (number : ℕ) → Bool
is_number_behind ts number = list_any (λ t. number == number_of t.now) ts

-- one more text
pub named_more : (ts : List (Bor Text)) (i number : ℕ) (d : Bor Text) (devices : Option DeviceSet) (set : DeviceSet) → i < length ts
    → (IsByte (slice_index_or ts i d).now → number ≡ number_of (slice_index_or ts i d).now)
    → ((other : ℕ) → has_eid set other ≡ (is_named devices other || (other == number)))
    → (All (λ t. IsByte t.now) ts → (eid : ℕ) → is_named devices eid ≡ is_number_behind (take i ts) eid)
    → All (λ t. IsByte t.now) ts → (eid : ℕ) → is_named (Some set) eid ≡ is_number_behind (take (i + 1) ts) eid
named_more ts i number d devices set lt reads has so bytes eid =
    has eid ∙ ap (λ b. b || (eid == number)) (so bytes eid) ∙ ap (λ n. is_number_behind (take i ts) eid || (eid == n)) (reads (bytes i d lt))
    ∙ sym (list_any_more (λ (x : Bor Text). eid == number_of x.now) ts i d lt)

bytes_behind : (ts : List (Bor Text)) → All IsByte (map (λ t. t.now) ts) → All (λ t. IsByte t.now) ts
bytes_behind ts all k d lt = subst IsByte (get_or-map (λ (t : Bor Text). t.now) ts k d) (all k d.now (subst (λ n. k < n) (sym (length-map ts (λ (t : Bor Text). t.now))) lt))

any_behind : (ts : List (Bor Text)) (eid : ℕ) → is_number_behind ts eid ≡ is_number_in (map (λ t. t.now) ts) eid
any_behind [] eid = refl
any_behind (t ∷ ts) eid = ap (λ b. (eid == number_of t.now) || b) (any_behind ts eid)

-- the devices of `--device`
pub record AreNamed (words : Given) (devices : Option DeviceSet) : Type 0 where
  pub none : texts_under words (codes "device") ≡ [] → devices ≡ None
  pub given : All IsByte (texts_under words (codes "device")) → (eid : ℕ) → is_named devices eid ≡ is_number_in (texts_under words (codes "device")) eid

-- the texts under a name
pub texts_some : (words : Given) (name : Text) (ts : List (Bor Text)) → Some (map (λ t. t.now) ts) ≡ words.all name → map (λ t. t.now) ts ≡ texts_under words name
texts_some words name ts is = ap (λ (o : Option (List Text)). unwrap_or o []) is

pub texts_none : (words : Given) (name : Text) → None ≡ words.all name → [] ≡ texts_under words name
texts_none words name is = ap (λ (o : Option (List Text)). unwrap_or o []) is

pub named_some : (words : Given) (ts : List (Bor Text)) (devices : Option DeviceSet) → Some (map (λ t. t.now) ts) ≡ words.all (codes "device")
    → (ts ≡ [] → devices ≡ None) → (All (λ t. IsByte t.now) ts → (eid : ℕ) → is_named devices eid ≡ is_number_behind ts eid) → AreNamed words devices
named_some words ts devices is none named =
    let texts = texts_some words (codes "device") ts is in
    record {
      none = λ no_text. none (no_texts ts (texts ∙ no_text));
      given = λ bytes eid.
          named (bytes_behind ts (subst (All IsByte) (sym texts) bytes)) eid ∙ any_behind ts eid ∙ ap (λ (xs : List Text). is_number_in xs eid) texts;
    }
  where
    no_texts : (xs : List (Bor Text)) → map (λ t. t.now) xs ≡ [] → xs ≡ []
    no_texts [] is = refl
    no_texts (x ∷ xs) is = let no = ap length is in absurd (omega arith)

pub named_none : (words : Given) → None ≡ words.all (codes "device") → AreNamed words None
named_none words is =
    let texts = texts_none words (codes "device") is in
    record { none = λ no_text. refl; given = λ bytes eid. ap (λ (xs : List Text). is_number_in xs eid) texts }

-- and those with packages of their own
pub asks_own : (words : Given) (ps : List (Bor Text)) (devices all : Option DeviceSet) → AreNamed words devices → Some (map (λ t. t.now) ps) ≡ words.all (codes "package")
    → is_some all ≡ (is_some devices || has_any_own (map (λ t. t.now) ps))
    → ((eid : ℕ) → is_named all eid ≡ (is_named devices eid || has_own (map (λ t. t.now) ps) eid)) → AsksDevices words all
asks_own words ps devices all are is some named =
    let values = texts_some words (codes "package") ps is in
    record {
      none = λ no_text no_value.
          is_none_of all (some ∙ ap (λ (o : Option DeviceSet). is_some o || has_any_own (map (λ t. t.now) ps)) (are.none no_text) ∙ ap has_any_own values ∙ no_value);
      given = λ bytes eid.
          named eid ∙ ap (λ b. b || has_own (map (λ t. t.now) ps) eid) (are.given bytes eid)
          ∙ ap (λ (xs : List Text). is_number_in (texts_under words (codes "device")) eid || has_own xs eid) values;
    }
  where
    is_none_of : (o : Option DeviceSet) → is_some o ≡ false → o ≡ None
    is_none_of None is = refl
    is_none_of (Some x) is = absurd (true≢false is)

pub asks_named : (words : Given) (devices : Option DeviceSet) → AreNamed words devices → None ≡ words.all (codes "package") → AsksDevices words devices
asks_named words devices are is =
    let values = texts_none words (codes "package") is in
    record {
      none = λ no_text no_value. are.none no_text;
      given = λ bytes eid.
          are.given bytes eid ∙ sym (or_false (is_number_in (texts_under words (codes "device")) eid))
          ∙ ap (λ (xs : List Text). is_number_in (texts_under words (codes "device")) eid || has_own xs eid) values;
    }
  where
    or_false : (b : Bool) → (b || false) ≡ b
    or_false true = refl
    or_false false = refl
