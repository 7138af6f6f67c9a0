-- The names of a folder's files.
use Rattle.std.proofs.Common.{◌≡◌, ◌∙◌, ◌+◌, ◌<◌, ◌++◌, ◌&&◌, ◌||◌, if◌then◌else◌, inl, inr, ℕ, Bool, true, false, List, [], ◌∷◌, Option, None, take, get_or, is_some, length, map, ◌≤◌, ap, refl, sym, subst}
use Rattle.std.specs.Str.{bytes_eq}
use Rattle.std.proofs.lemmas.Bool.{cases_Bool, or_parts}
use Rattle.std.proofs.lemmas.List.{map-append, take_all, take_more}
use Rattle.fw_store.specs.Folders.{Files, NamesFiles, has_name}
use Rattle.fw_store.specs.Changes.{ChangeOf, ListsName, changed_by, files_after_change, files_from, files_of, name_after, name_by, no_files}
use Rattle.fw_store.specs.declared.known.Kind.{Kind}
use Rattle.fw_store.specs.declared.known.Kind.TheVariants as kinds
use Rattle.fw_store.proofs.ReadBack.{bytes_equal}
use Rattle.fw_store.proofs.Swept.{has_name_push}

-- ONE NAME MORE

or_false : (b : Bool) → b ≡ (b || false)
or_false true = refl
or_false false = refl

pub lists_listed : (f : Files) (name : List ℕ) (names : List (List ℕ)) → has_name names name ≡ true → ListsName f name names names
lists_listed f name names listed = record {
  each = λ other. elim (cases_Bool (bytes_eq name other)) [
    | inl same ↦
        let also : has_name names other ≡ true = subst (λ n. has_name names n ≡ true) (bytes_equal name other same) listed in
        rw also refl
    | inr differs ↦ rw differs (or_false (has_name names other))
  ];
}

pub lists_absent : (f : Files) (name : List ℕ) (names : List (List ℕ)) → is_some (f name) ≡ false → ListsName f name names names
lists_absent f name names absent = record {
  each = λ other. elim (cases_Bool (bytes_eq name other)) [
    | inl same ↦
        let also : is_some (f other) ≡ false = subst (λ n. is_some (f n) ≡ false) (bytes_equal name other same) absent in
        rw (same, also) (or_false (has_name names other))
    | inr differs ↦ rw differs (or_false (has_name names other))
  ];
}

pub lists_more : (f : Files) (name : List ℕ) (before after : List (List ℕ)) → is_some (f name) ≡ true → after ≡ before ++ name ∷ [] → ListsName f name before after
lists_more f name before after there is = record {
  each = λ other. elim (cases_Bool (bytes_eq name other)) [
    | inl same ↦
        let also : is_some (f other) ≡ true = subst (λ n. is_some (f n) ≡ true) (bytes_equal name other same) there in
        rw is (has_name_push before name other ∙ rw (same, also) refl)
    | inr differs ↦ rw is (has_name_push before name other ∙ rw differs refl)
  ];
}

pub lists_pushed : {A : Type 0} (to : A → List ℕ) (f : Files) (name : List ℕ) (before after : List A) (d : A) → is_some (f name) ≡ true → after ≡ before ++ d ∷ [] → to d ≡ name
    → ListsName f name (map to before) (map to after)
lists_pushed {A} to f name before after d there is at =
    lists_more f name (map to before) (map to after) there (ap (λ ds. map to ds) is ∙ map-append to before (d ∷ []) ∙ ap (λ n. map to before ++ n ∷ []) at)

-- ALL NAMES

-- whether a change may have created the file with this name
abbrev pub is_new : List ChangeOf → List ℕ → Bool
is_new [] name = false
is_new (c ∷ cs) name = bytes_eq (name_after c) name || is_new cs name

-- the list has the existing files that these changes may have created
pub record ListsNew (files : Files) (cs : List ChangeOf) (names : List (List ℕ)) : Type 0 where
  pub each : (name : List ℕ) → has_name names name ≡ (is_new cs name && is_some (files name))

pub lists_first : (f : Files) → ListsNew f [] []
lists_first f = record { each = λ name. refl }

is_new_push : (cs : List ChangeOf) (c : ChangeOf) (name : List ℕ) → is_new (cs ++ c ∷ []) name ≡ (is_new cs name || bytes_eq (name_after c) name)
is_new_push [] c name = elim (cases_Bool (bytes_eq (name_after c) name)) [
  | inl same ↦ rw same refl
  | inr differs ↦ rw differs refl
]
is_new_push (x ∷ cs) c name = elim (cases_Bool (bytes_eq (name_after x) name)) [
  | inl same ↦ rw same refl
  | inr differs ↦ rw differs (is_new_push cs c name)
]

either_new : (a b c : Bool) → ((a && c) || (b && c)) ≡ ((a || b) && c)
either_new true true true = refl
either_new true true false = refl
either_new true false true = refl
either_new true false false = refl
either_new false true true = refl
either_new false true false = refl
either_new false false true = refl
either_new false false false = refl

pub lists_next : (f : Files) (cs : List ChangeOf) (i : ℕ) (d : ChangeOf) (before after : List (List ℕ)) → i < length cs → ListsNew f (take i cs) before → ListsName f (name_after (get_or cs i d)) before after
    → ListsNew f (take (i + 1) cs) after
lists_next f cs i d before after below so more = rw (take_more cs i d below) (record {
  each = λ name.
      more.each name
      ∙ ap (λ b. b || (bytes_eq (name_after (get_or cs i d)) name && is_some (f name))) (so.each name)
      ∙ either_new (is_new (take i cs) name) (bytes_eq (name_after (get_or cs i d)) name) (is_some (f name))
      ∙ ap (λ b. b && is_some (f name)) (sym (is_new_push (take i cs) (get_or cs i d) name));
})

gone_or : (b : Bool) (o : Option (List ℕ)) → is_some o ≡ false → is_some (if b then None else o) ≡ false
gone_or true o absent = refl
gone_or false o absent = absent

-- a change creates no other file
none_changed : (k : Kind) (n o : List ℕ) (f : Files) (name : List ℕ) → bytes_eq (name_by k n o) name ≡ false → is_some (f name) ≡ false → is_some (changed_by k n o f name) ≡ false
none_changed kinds.Put n o f name differs absent = rw differs absent
none_changed kinds.Moved n o f name differs absent = rw differs (gone_or (bytes_eq n name) (f name) absent)
none_changed kinds.Gone n o f name differs absent = rw differs absent

none_created : (c : ChangeOf) (f : Files) (name : List ℕ) → bytes_eq (name_after c) name ≡ false → is_some (f name) ≡ false → is_some (files_after_change c f name) ≡ false
none_created c f name differs absent = none_changed c.kind c.name c.other f name differs absent

none_new : (cs : List ChangeOf) (f : Files) (name : List ℕ) → is_new cs name ≡ false → is_some (f name) ≡ false → is_some (files_from f cs name) ≡ false
none_new [] f name none absent = absent
none_new (c ∷ cs) f name none absent =
    let parts = or_parts (bytes_eq (name_after c) name) (is_new cs name) none in
    none_new cs (files_after_change c f) name parts.1 (none_created c f name parts.0 absent)

pub lists_all : (cs : List ChangeOf) (names : List (List ℕ)) → ListsNew (files_of cs) cs names → NamesFiles names (files_of cs)
lists_all cs names all = record {
  each = λ name. elim (cases_Bool (is_new cs name)) [
    | inl new ↦ all.each name ∙ ap (λ b. b && is_some (files_of cs name)) new
    | inr none ↦
        let absent : is_some (files_of cs name) ≡ false = none_new cs no_files name none refl in
        all.each name ∙ ap (λ b. b && is_some (files_of cs name)) none ∙ sym absent
  ];
}

pub lists_end : (cs : List ChangeOf) (i : ℕ) (names : List (List ℕ)) → length cs ≤ i → ListsNew (files_of cs) (take i cs) names → NamesFiles names (files_of cs)
lists_end cs i names end all = lists_all cs names (rw (take_all i cs end) at all)

pub ruleset listing = (lists_listed, lists_absent, lists_more)
