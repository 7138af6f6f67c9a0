-- The state after files that no line names are removed.
use Rattle.std.proofs.Common.{◌≡◌, ◌≢◌, ◌∙◌, ◌+◌, ◌<◌, ◌++◌, ◌&&◌, ◌||◌, if◌then◌else◌, not, inl, inr, map, max, ℕ, Bool, true, false, List, [], ◌∷◌, Option, Some, None, drop, take, get_or, is_some, length, option_and_then, ap, refl, sym, subst, arith}
use Rattle.std.specs.List.{AllByRecursion}
use Rattle.std.specs.Str.{bytes_eq}
use Rattle.std.proofs.lemmas.Bool.{cases_Bool, or_parts}
use Rattle.std.proofs.lemmas.List.{drop_more, map-append, take_more}
use Rattle.fw_store.specs.Active.{ImageEntryOf, IsImageEntry, image_name, number_from}
use Rattle.fw_store.specs.Folders.{Files, IsBefore, IsMoment, ChangesOnlyFile, LeavesFiles, NamesFiles, PassesStates, RemovesFile, active_name, has_name, image_by, images_of, lines_by, stored_in, with_image}
use Rattle.fw_store.specs.Keeping.{IsSettledIfKnown}
use Rattle.fw_store.specs.Kept.{KeptOf}
use Rattle.fw_store.specs.Opening.{IsUntouched, is_ours}
use Rattle.fw_store.specs.Strays.{ChangesOnlyStrays, RemovesStrays, SweepsName, SweepsNames, is_stray, names_file}
use Rattle.fw_store.proofs.ReadBack.{bytes_equal, bytes_same}
use Rattle.fw_store.proofs.Moments.{passes_call, passes_none, passes_wider}

all_push : (P : ImageEntryOf → Type 0) (es : List ImageEntryOf) (e : ImageEntryOf) → AllByRecursion P es → P e → AllByRecursion P (es ++ e ∷ [])
all_push P [] e all here = (here, tt)
all_push P (x ∷ es) e all here = (all.0, all_push P es e all.1 here)

unequal : (xs ys : List ℕ) → bytes_eq xs ys ≡ false → xs ≢ ys
unequal xs ys differ e = let same : bytes_eq xs ys ≡ true = subst (λ (zs : List ℕ). bytes_eq xs zs ≡ true) e (bytes_same xs) in absurd (cc)

-- a file with a store's name that no line names and that isn't `active`
pub record IsUnnamedFile (es : List ImageEntryOf) (name : List ℕ) : Type 0 where
  pub ours : is_ours name ≡ true
  pub other : active_name ≢ name
  pub unnamed : AllByRecursion (λ e. image_name e.key e.number ≢ name) es

unnamed_all : (es : List ImageEntryOf) (name : List ℕ) → names_file es name ≡ false → AllByRecursion (λ e. image_name e.key e.number ≢ name) es
unnamed_all [] name none = tt
unnamed_all (e ∷ es) name none =
    let parts = or_parts (bytes_eq (image_name e.key e.number) name) (names_file es name) none in
    (unequal (image_name e.key e.number) name parts.0, unnamed_all es name parts.1)

not_parts : (a b c : Bool) → (not a && (b && not c)) ≡ true → (a ≡ false) × (b ≡ true) × (c ≡ false)
not_parts true b c h = absurd (cc)
not_parts false false c h = absurd (cc)
not_parts false true true h = absurd (cc)
not_parts false true false h = (refl, refl, refl)

pub stray_unnamed : (es : List ImageEntryOf) (name : List ℕ) → is_stray es name ≡ true → IsUnnamedFile es name
unfolding is_stray
stray_unnamed es name stray =
    let parts = not_parts (bytes_eq name active_name) (is_ours name) (names_file es name) stray in
    record { ours = parts.1; other = λ e. unequal name active_name parts.0 (sym e); unnamed = unnamed_all es name parts.2 }

-- THE STRAYS AMONG NAMES

other_stray : (es : List ImageEntryOf) (name other : List ℕ) → is_stray es name ≡ true → is_stray es other ≡ false → other ≢ name
other_stray es name other stray not e = let bad : is_stray es other ≡ is_stray es name = ap (λ n. is_stray es n) e in absurd (cc)

pub only_self : (es : List ImageEntryOf) (f : Files) → ChangesOnlyStrays es f f
only_self es f = record { others = λ name not. refl }

pub only_stray : (es : List ImageEntryOf) (name : List ℕ) (f g : Files) → is_stray es name ≡ true → ChangesOnlyFile f g name → ChangesOnlyStrays es f g
only_stray es name f g stray only = record { others = λ other not. only.others other (other_stray es name other stray not) }

pub only_more : (es : List ImageEntryOf) (f g h : Files) → ChangesOnlyStrays es f g → ChangesOnlyStrays es g h → ChangesOnlyStrays es f h
only_more es f g h before more = record { others = λ name not. more.others name not ∙ before.others name not }

pub sweeps_stray : (es : List ImageEntryOf) (name : List ℕ) (f g : Files) → is_stray es name ≡ true → RemovesFile f g name → SweepsName es name f g
sweeps_stray es name f g stray removed = record {
  each = λ other. elim (cases_Bool (bytes_eq name other)) [
    | inl same ↦
        let is : name ≡ other = bytes_equal name other same in
        let also : is_stray es other ≡ true = subst (λ n. is_stray es n ≡ true) is stray in
        rw (same, also) (subst (λ n. g n ≡ None) is removed.gone)
    | inr differs ↦ rw differs (removed.others other (λ e. unequal name other differs (sym e)))
  ];
}

pub sweeps_none : (es : List ImageEntryOf) (name : List ℕ) (f : Files) → is_stray es name ≡ false → SweepsName es name f f
sweeps_none es name f not = record {
  each = λ other. elim (cases_Bool (bytes_eq name other)) [
    | inl same ↦
        let is : name ≡ other = bytes_equal name other same in
        let also : is_stray es other ≡ false = subst (λ n. is_stray es n ≡ false) is not in
        rw (same, also) refl
    | inr differs ↦ rw differs refl
  ];
}

pub sweeps_first : (es : List ImageEntryOf) (f : Files) → SweepsNames es [] f f
sweeps_first es f = record { each = λ other. refl }

pub has_name_push : (names : List (List ℕ)) (name other : List ℕ) → has_name (names ++ name ∷ []) other ≡ (has_name names other || bytes_eq name other)
has_name_push [] name other = elim (cases_Bool (bytes_eq name other)) [
  | inl same ↦ rw same refl
  | inr differs ↦ rw differs refl
]
has_name_push (n ∷ names) name other = elim (cases_Bool (bytes_eq n other)) [
  | inl same ↦ rw same refl
  | inr differs ↦ rw differs (has_name_push names name other)
]

one_more : (a b c : Bool) (x : Option (List ℕ)) → (if b && c then None else if a && c then None else x) ≡ (if (a || b) && c then None else x)
one_more true true true x = refl
one_more true true false x = refl
one_more true false true x = refl
one_more true false false x = refl
one_more false true true x = refl
one_more false true false x = refl
one_more false false true x = refl
one_more false false false x = refl

pub sweeps_more : (es : List ImageEntryOf) (names : List (List ℕ)) (name : List ℕ) (f g h : Files) → SweepsNames es names f g → SweepsName es name g h → SweepsNames es (names ++ name ∷ []) f h
sweeps_more es names name f g h before more = record {
  each = λ other.
      more.each other
      ∙ ap (λ x. if bytes_eq name other && is_stray es other then None else x) (before.each other)
      ∙ one_more (has_name names other) (bytes_eq name other) (is_stray es other) (f other)
      ∙ ap (λ b. if b && is_stray es other then None else f other) (sym (has_name_push names name other));
}

pub sweeps_next : {A : Type 0} (to : A → List ℕ) (es : List ImageEntryOf) (names : List A) (i : ℕ) (d : A) (name : List ℕ) (f g h : Files) → i < length names → to (get_or names i d) ≡ name
    → SweepsNames es (map to (take i names)) f g → SweepsName es name g h → SweepsNames es (map to (take (i + 1) names)) f h
sweeps_next {A} to es names i d name f g h below is before more =
    let at : map to (take (i + 1) names) ≡ map to (take i names) ++ name ∷ [] =
    ap (λ ns. map to ns) (take_more names i d below) ∙ map-append to (take i names) (get_or names i d ∷ []) ∙ ap (λ n. map to (take i names) ++ n ∷ []) is in
    rw at (sweeps_more es (map to (take i names)) name f g h before more)

not_there : (o : Option (List ℕ)) → is_some o ≡ false → o ≡ None
not_there None h = refl
not_there (Some x) h = absurd (cc)

pub sweeps_all : (es : List ImageEntryOf) (names : List (List ℕ)) (f g : Files) → NamesFiles names f → SweepsNames es names f g → RemovesStrays es f g
sweeps_all es names f g all swept = record {
  each = λ name. elim (cases_Bool (has_name names name)) [
    | inl has ↦ swept.each name ∙ ap (λ b. if b && is_stray es name then None else f name) has
    | inr none ↦
        let absent : f name ≡ None = not_there (f name) (sym (all.each name) ∙ none) in
        elim (cases_Bool (is_stray es name)) [
          | inl stray ↦ rw stray (swept.each name ∙ ap (λ b. if b && is_stray es name then None else f name) none ∙ absent)
          | inr not ↦ rw not (swept.each name ∙ ap (λ b. if b && is_stray es name then None else f name) none)
        ]
  ];
}

named_same : (f : Files) (es : List ImageEntryOf) → AllByRecursion (λ e. f (image_name e.key e.number) ≡ f (image_name e.key e.number)) es
named_same f [] = tt
named_same f (e ∷ es) = (refl, named_same f es)

pub untouched_self : (es : List ImageEntryOf) (f : Files) → IsUntouched es f f
untouched_self es f = record { active = refl; named = named_same f es; others = λ name o a. refl }

named_more : (f g h : Files) (name : List ℕ) (es : List ImageEntryOf) → AllByRecursion (λ e. image_name e.key e.number ≢ name) es → ChangesOnlyFile g h name
    → AllByRecursion (λ e. g (image_name e.key e.number) ≡ f (image_name e.key e.number)) es → AllByRecursion (λ e. h (image_name e.key e.number) ≡ f (image_name e.key e.number)) es
named_more f g h name [] unnamed only named = tt
named_more f g h name (e ∷ es) unnamed only named = (only.others (image_name e.key e.number) unnamed.0 ∙ named.0, named_more f g h name es unnamed.1 only named.1)

not_ours : (name other : List ℕ) → is_ours name ≡ true → is_ours other ≡ false → other ≢ name
not_ours name other ours not e = let bad : is_ours other ≡ is_ours name = ap is_ours e in absurd (cc)

pub untouched_more : (es : List ImageEntryOf) (f g h : Files) (name : List ℕ) → IsUntouched es f g → IsUnnamedFile es name → ChangesOnlyFile g h name → IsUntouched es f h
untouched_more es f g h name before stray only = record {
  active = only.others active_name stray.other ∙ before.active;
  named = named_more f g h name es stray.unnamed only before.named;
  others = λ other not a. only.others other (not_ours name other stray.ours not) ∙ before.others other not a;
}

pub swept_more : (es : List ImageEntryOf) (f g h : Files) (name : List ℕ) (past before now : List Files) → IsUntouched es f g → IsUnnamedFile es name → ChangesOnlyFile g h name
    → PassesStates (IsUntouched es f) past before → IsMoment g h before now → PassesStates (IsUntouched es f) past now
swept_more es f g h name past before now touched stray only passes is = passes_call g h passes is (untouched_more es f g h name touched stray only)

images_untouched : (f g : Files) (es : List ImageEntryOf) → AllByRecursion (λ e. g (image_name e.key e.number) ≡ f (image_name e.key e.number)) es → images_of g es ≡ images_of f es
images_untouched f g [] named = refl
images_untouched f g (e ∷ es) named =
    ap (λ o. with_image (image_by e o) (images_of g es)) named.0 ∙ ap (λ ks. with_image (image_by e (f (image_name e.key e.number))) ks) (images_untouched f g es named.1)

pub settled_swept : (known : Bool) (next : ℕ) (f g : Files) (es : List ImageEntryOf) → AllByRecursion IsImageEntry es → AllByRecursion (λ e. e.number < next) es
    → (known ≡ true → lines_by (f active_name) ≡ Some es) → (known ≡ true → is_some (images_of f es) ≡ true) → (known ≡ true → IsUntouched es f g) → IsSettledIfKnown known true next g es
settled_swept known next f g es are below lines there touched = record {
  when = λ k sure. record {
    lines = ap lines_by (touched k).active ∙ lines k;
    entries = are;
    below = below;
    there = ap (λ (o : Option (List KeptOf)). is_some o) (images_untouched f g es (touched k).named) ∙ there k;
  };
}

pub before_swept : (f g : Files) (es : List ImageEntryOf) → lines_by (f active_name) ≡ Some es → IsUntouched es f g → IsBefore f g
unfolding stored_in
before_swept f g es lines touched = record {
  is =
      ap (λ o. option_and_then (λ es. images_of g es) o) (ap lines_by touched.active ∙ lines)
      ∙ images_untouched f g es touched.named
      ∙ sym (ap (λ o. option_and_then (λ es. images_of f es) o) lines);
}

pub before_self : (f : Files) → IsBefore f f
before_self f = record { is = refl }

pub passes_self : (f : Files) (past : List Files) → PassesStates (IsBefore f) past past
passes_self f past = passes_none past

pub passes_before : (f : Files) (es : List ImageEntryOf) (past now : List Files) → lines_by (f active_name) ≡ Some es → PassesStates (IsUntouched es f) past now → PassesStates (IsBefore f) past now
passes_before f es past now lines passes = passes_wider (λ g touched. before_swept f g es lines touched) passes

-- numbers below the next one
pub all_up : (n m : ℕ) (es : List ImageEntryOf) → n < m + 1 → AllByRecursion (λ e. e.number < n) es → AllByRecursion (λ e. e.number < m) es
all_up n m [] more below = tt
all_up n m (e ∷ es) more below = let low = below.0 in (omega arith, all_up n m es more below.1)

pub below_more : (es : List ImageEntryOf) (i : ℕ) (d : ImageEntryOf) (n m : ℕ) → i < length es → AllByRecursion (λ e. e.number < n) (take i es) → n < m + 1 → (get_or es i d).number < m
    → AllByRecursion (λ e. e.number < m) (take (i + 1) es)
below_more es i d n m below all more here = rw (take_more es i d below) (all_push (λ e. e.number < m) (take i es) (get_or es i d) (all_up n m (take i es) more all) here)

pub next_more : (es : List ImageEntryOf) (i : ℕ) (d : ImageEntryOf) (n m t : ℕ) → i < length es → m ≡ max n ((get_or es i d).number + 1) → number_from n (drop i es) ≡ t → number_from m (drop (i + 1) es) ≡ t
next_more es i d n m t below is so = ap (λ k. number_from k (drop (i + 1) es)) is ∙ ap (λ rest. number_from n rest) (sym (drop_more es i d below)) ∙ so

-- a store's folder stays settled after a file that no line names is removed
pub settled_cleaned : (known still sure : Bool) (next : ℕ) (f g : Files) (es : List ImageEntryOf) → still ≡ known → (known ≡ true → IsUntouched es f g) → IsSettledIfKnown known sure next f es
    → IsSettledIfKnown still sure next g es
settled_cleaned known still sure next f g es same touched settled = record {
  when = λ k s.
      let yes : known ≡ true = sym same ∙ k in
      let at = settled.when yes s in
      record {
        lines = ap lines_by (touched yes).active ∙ at.lines;
        entries = at.entries;
        below = at.below;
        there = ap (λ (o : Option (List KeptOf)). is_some o) (images_untouched f g es (touched yes).named) ∙ at.there;
      };
}

pub before_cleaned : (known sure : Bool) (next : ℕ) (f g : Files) (es : List ImageEntryOf) → (known ≡ true → IsUntouched es f g) → IsSettledIfKnown known sure next f es → known ≡ true → sure ≡ true
    → IsBefore f g
before_cleaned known sure next f g es touched settled k s = before_swept f g es (settled.when k s).lines (touched k)

pub passes_cleaned : (known sure : Bool) (next : ℕ) (f : Files) (es : List ImageEntryOf) (past now : List Files) → (known ≡ true → PassesStates (IsUntouched es f) past now) → IsSettledIfKnown known sure next f es
    → known ≡ true → sure ≡ true → PassesStates (IsBefore f) past now
passes_cleaned known sure next f es past now passes settled k s = passes_before f es past now (settled.when k s).lines (passes k)

-- what is settled is so wherever the files are the same
all_same : (es : List ImageEntryOf) (f g : Files) → LeavesFiles f g → AllByRecursion (λ e. g (image_name e.key e.number) ≡ f (image_name e.key e.number)) es
all_same [] f g same = tt
all_same (e ∷ es) f g same = (same.all (image_name e.key e.number), all_same es f g same)

pub untouched_same : (es : List ImageEntryOf) (f g : Files) → LeavesFiles f g → IsUntouched es f g
untouched_same es f g same = record { active = same.all active_name; named = all_same es f g same; others = λ name ours active. same.all name }

pub settled_same : (known : Bool) (next : ℕ) (f g : Files) (es : List ImageEntryOf) → AllByRecursion IsImageEntry es → AllByRecursion (λ e. e.number < next) es
    → (known ≡ true → lines_by (f active_name) ≡ Some es) → (known ≡ true → is_some (images_of f es) ≡ true) → LeavesFiles f g → IsSettledIfKnown known true next g es
settled_same known next f g es are below lines there same = settled_swept known next f g es are below lines there (λ k. untouched_same es f g same)

pub ruleset opening = (settled_swept, settled_same, untouched_self)

pub ruleset cleaning = (only_self, sweeps_all, settled_cleaned, before_cleaned, passes_cleaned, before_self, passes_self, untouched_self, passes_none)

pub ruleset sweeping = (untouched_self, passes_none, only_self, sweeps_first)

pub ruleset one_swept = (only_self, only_stray, sweeps_stray, sweeps_none)
