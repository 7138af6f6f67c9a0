-- The counts after one more entry.
use Rattle.std.specs.Prelude.{length, ℕ, ◌≡◌, ◌≤◌, ◌+◌, nat_eq, Bool, true, false, List, [], ◌∷◌, ◌++◌, take}
use Prim.Native.Nat.{suc, zero}
use Rattle.std.proofs.Common.{arith, refl, subst}
use Rattle.std.proofs.Math.Seq.{take-length}
use Rattle.std.proofs.lemmas.Bool.{and_parts}
use Rattle.std.specs.Cmp.Lexicographic.{pointwise}
use Rattle.fw_package.specs.Choice.{component_at}
use Rattle.fw_package.specs.Package.{ComponentOf, PackageText}
use Rattle.fwup_wire.specs.declared.values.Key.{Key}
use Rattle.fd_core.specs.Images.{KeyedImage, same_key}
use Rattle.ua_core.specs.Lent.{key_of, package_at}
use Rattle.ua_core.specs.declared.planned.Recorded.{Recorded}
use Rattle.fw_message.specs.Headline.{EntryOf, applied_count, recorded_count, one_if, records_image, same_image}
use Rattle.fwup_wire.proofs.SameCommands.{bytes_means, bytes_self, key_means, key_self}

-- the component of a record
abbrev pub recorded_component : List PackageText → Recorded → ComponentOf
recorded_component ps r = component_at (package_at ps r.«package») r.component

-- this key and these bytes were applied more often than recorded
unfoldable pub IsPending : List PackageText → Key → List ℕ → List EntryOf → Type 0
IsPending ps key bytes es = recorded_count ps key bytes es + 1 ≤ applied_count key bytes es

-- no key and bytes were recorded more often than applied
unfoldable pub NeverMore : List PackageText → List EntryOf → Type 0
NeverMore ps es = (key : Key) (bytes : List ℕ) → recorded_count ps key bytes es ≤ applied_count key bytes es

applied_more : (key : Key) (bytes : List ℕ) (es : List EntryOf) (p : KeyedImage)
    → applied_count key bytes (es ++ EntryOf.Applied p ∷ []) ≡ applied_count key bytes es + one_if (same_image key bytes p.key p.bytes)
unfolding applied_count
applied_more key bytes [] p = omega arith
applied_more key bytes (EntryOf.Applied x ∷ es) p = omega (arith, applied_more key bytes es p)
applied_more key bytes (EntryOf.Recording x ∷ es) p = applied_more key bytes es p
applied_more key bytes (EntryOf.Activated x ∷ es) p = applied_more key bytes es p

applied_recorded : (key : Key) (bytes : List ℕ) (es : List EntryOf) (r : Recorded)
    → applied_count key bytes (es ++ EntryOf.Recording r ∷ []) ≡ applied_count key bytes es
unfolding applied_count
applied_recorded key bytes [] r = refl
applied_recorded key bytes (EntryOf.Applied x ∷ es) r = omega (arith, applied_recorded key bytes es r)
applied_recorded key bytes (EntryOf.Recording x ∷ es) r = applied_recorded key bytes es r
applied_recorded key bytes (EntryOf.Activated x ∷ es) r = applied_recorded key bytes es r

applied_activated : (key : Key) (bytes : List ℕ) (es : List EntryOf) (p : KeyedImage)
    → applied_count key bytes (es ++ EntryOf.Activated p ∷ []) ≡ applied_count key bytes es
unfolding applied_count
applied_activated key bytes [] p = refl
applied_activated key bytes (EntryOf.Applied x ∷ es) p = omega (arith, applied_activated key bytes es p)
applied_activated key bytes (EntryOf.Recording x ∷ es) p = applied_activated key bytes es p
applied_activated key bytes (EntryOf.Activated x ∷ es) p = applied_activated key bytes es p

recorded_applied : (ps : List PackageText) (key : Key) (bytes : List ℕ) (es : List EntryOf) (p : KeyedImage)
    → recorded_count ps key bytes (es ++ EntryOf.Applied p ∷ []) ≡ recorded_count ps key bytes es
unfolding recorded_count
recorded_applied ps key bytes [] p = refl
recorded_applied ps key bytes (EntryOf.Applied x ∷ es) p = recorded_applied ps key bytes es p
recorded_applied ps key bytes (EntryOf.Recording x ∷ es) p = omega (arith, recorded_applied ps key bytes es p)
recorded_applied ps key bytes (EntryOf.Activated x ∷ es) p = recorded_applied ps key bytes es p

recorded_activated : (ps : List PackageText) (key : Key) (bytes : List ℕ) (es : List EntryOf) (p : KeyedImage)
    → recorded_count ps key bytes (es ++ EntryOf.Activated p ∷ []) ≡ recorded_count ps key bytes es
unfolding recorded_count
recorded_activated ps key bytes [] p = refl
recorded_activated ps key bytes (EntryOf.Applied x ∷ es) p = recorded_activated ps key bytes es p
recorded_activated ps key bytes (EntryOf.Recording x ∷ es) p = omega (arith, recorded_activated ps key bytes es p)
recorded_activated ps key bytes (EntryOf.Activated x ∷ es) p = recorded_activated ps key bytes es p

recorded_more : (ps : List PackageText) (key : Key) (bytes : List ℕ) (es : List EntryOf) (r : Recorded)
    → recorded_count ps key bytes (es ++ EntryOf.Recording r ∷ []) ≡ recorded_count ps key bytes es + one_if (records_image ps key bytes r)
unfolding recorded_count
recorded_more ps key bytes [] r = omega arith
recorded_more ps key bytes (EntryOf.Applied x ∷ es) r = recorded_more ps key bytes es r
recorded_more ps key bytes (EntryOf.Recording x ∷ es) r = omega (arith, recorded_more ps key bytes es r)
recorded_more ps key bytes (EntryOf.Activated x ∷ es) r = recorded_more ps key bytes es r

put_self : (p : KeyedImage) → same_image p.key p.bytes p.key p.bytes ≡ true
put_self p = rw (key_self p.key, bytes_self p.bytes) refl

-- a pending application may be recorded
pub never_recorded : (ps : List PackageText) (es : List EntryOf) (r : Recorded)
    → IsPending ps (key_of (recorded_component ps r)) (recorded_component ps r).image es → NeverMore ps es
    → NeverMore ps (es ++ EntryOf.Recording r ∷ [])
unfolding IsPending NeverMore
never_recorded ps es r p h key bytes =
    counted (key_of (recorded_component ps r)) (recorded_component ps r).image (records_image ps key bytes r) refl p (recorded_more ps key bytes es r)
  where
    counted : (k : Key) (b : List ℕ) (t : Bool) → same_image key bytes k b ≡ t → recorded_count ps k b es + 1 ≤ applied_count k b es
        → recorded_count ps key bytes (es ++ EntryOf.Recording r ∷ []) ≡ recorded_count ps key bytes es + one_if (same_image key bytes k b)
        → recorded_count ps key bytes (es ++ EntryOf.Recording r ∷ []) ≤ applied_count key bytes (es ++ EntryOf.Recording r ∷ [])
    counted k b true e p more =
        let one : one_if (same_image key bytes k b) ≡ 1 = rw e refl in
        let both = and_parts (same_key key k) (pointwise nat_eq bytes b) e in
        let x : key ≡ k = key_means key k both.0 in
        let y : bytes ≡ b = bytes_means bytes b both.1 in
        let P : Key → List ℕ → Type 0 = λ k b. recorded_count ps k b es + 1 ≤ applied_count k b es in
        let here : recorded_count ps key bytes es + 1 ≤ applied_count key bytes es = rw (x, y) p in
        let same = applied_recorded key bytes es r in
        omega arith
    counted k b false e p more =
        let none : one_if (same_image key bytes k b) ≡ 0 = rw e refl in
        let same = applied_recorded key bytes es r in
        let le = h key bytes in
        omega arith

-- an application that is noted is pending, and keeps the balance
pub pending_applied : (ps : List PackageText) (es : List EntryOf) (p : KeyedImage) → NeverMore ps es
    → IsPending ps p.key p.bytes (es ++ EntryOf.Applied p ∷ [])
unfolding IsPending NeverMore
pending_applied ps es p h =
    let one : one_if (same_image p.key p.bytes p.key p.bytes) ≡ 1 = rw (put_self p) refl in
    let more = applied_more p.key p.bytes es p in
    let same = recorded_applied ps p.key p.bytes es p in
    let le = h p.key p.bytes in
    omega arith

pub never_applied : (ps : List PackageText) (es : List EntryOf) (p : KeyedImage) → NeverMore ps es → NeverMore ps (es ++ EntryOf.Applied p ∷ [])
unfolding NeverMore
never_applied ps es p h key bytes =
    let more = applied_more key bytes es p in
    let same = recorded_applied ps key bytes es p in
    let le = h key bytes in
    omega arith

pub never_activated : (ps : List PackageText) (es : List EntryOf) (p : KeyedImage) → NeverMore ps es
    → NeverMore ps (es ++ EntryOf.Activated p ∷ [])
unfolding NeverMore
never_activated ps es p h key bytes =
    let more = applied_activated key bytes es p in
    let same = recorded_activated ps key bytes es p in
    let le = h key bytes in
    omega arith

-- a property of each prefix, and of the whole with one more element, is a property of each prefix
-- of that
pub prefix_more : {A : Type 0} (P : List A → Type 0) (es : List A) (x : A) → ((n : ℕ) → P (take n es)) → P (es ++ x ∷ []) → (n : ℕ)
    → P (take n (es ++ x ∷ []))
prefix_more P [] x h e zero = h 0
prefix_more P [] x h e (suc zero) = e
prefix_more P [] x h e (suc (suc n)) = e
prefix_more P (y ∷ es) x h e zero = h 0
prefix_more P (y ∷ es) x h e (suc n) = prefix_more (λ ys. P (y ∷ ys)) es x (λ k. h (suc k)) e n

-- at no moment was more recorded than applied
abbrev pub Balanced : List PackageText → List EntryOf → Type 0
Balanced ps es = (n : ℕ) (key : Key) (bytes : List ℕ) → recorded_count ps key bytes (take n es) ≤ applied_count key bytes (take n es)

pub balanced_never : (ps : List PackageText) (es : List EntryOf) → Balanced ps es → NeverMore ps es
unfolding NeverMore
balanced_never ps es h key bytes =
    let P : List EntryOf → Type 0 = λ xs. recorded_count ps key bytes xs ≤ applied_count key bytes xs in
    let at : P (take (length es) es) = h (length es) key bytes in
    subst P (take-length es) at

pub balanced_more : (ps : List PackageText) (es : List EntryOf) (x : EntryOf) → Balanced ps es → NeverMore ps (es ++ x ∷ [])
    → Balanced ps (es ++ x ∷ [])
unfolding NeverMore
balanced_more ps es x h more n key bytes =
    prefix_more (λ xs. recorded_count ps key bytes xs ≤ applied_count key bytes xs) es x (λ k. h k key bytes) (more key bytes) n
