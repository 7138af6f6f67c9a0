-- The text of packages, and claiming a folder for them.
use Rattle.std.proofs.Common.{◌≡◌, ◌≢◌, ◌∙◌, ◌<◌, ◌+◌, ◌++◌, ◌⊎◌, inl, inr, ℕ, zero, suc, List, [], ◌∷◌, None, Option, Some, append_assoc, append-nil, ap, get_or, length, map, take, refl, sym, arith}
use Rattle.std.proofs.lemmas.List.{take_all}
use Rattle.fw_store.specs.Folders.{ChangesOnlyFile, Files, LeavesFiles, RenamesFile, WritesFile}
use Rattle.agent_store.specs.Packages.{MayPutPackages, PutsPackages, new_packages_name, package_line, packages_name, packages_text}

-- THE TEXT

plus_one : (n : ℕ) → n + 1 ≡ suc n
plus_one n = omega arith

text_next : {X : Type 0} (f : X → List ℕ) (xs : List X) (i : ℕ) (d : X) → i < length xs
    → packages_text (map f (take (suc i) xs)) ≡ packages_text (map f (take i xs)) ++ package_line (f (get_or xs i d))
text_next f [] i d below = absurd (omega arith)
text_next f (x ∷ xs) zero d below = append-nil (package_line (f x))
text_next f (x ∷ xs) (suc i) d below =
    ap (λ ls. package_line (f x) ++ ls) (text_next f xs i d (omega arith))
    ∙ sym (append_assoc (package_line (f x)) (packages_text (map f (take i xs))) (package_line (f (get_or xs i d))))

pub text_more : {X : Type 0} (f : X → List ℕ) (xs : List X) (i : ℕ) (d : X) → i < length xs
    → packages_text (map f (take (i + 1) xs)) ≡ packages_text (map f (take i xs)) ++ package_line (f (get_or xs i d))
text_more f xs i d below = ap (λ n. packages_text (map f (take n xs))) (plus_one i) ∙ text_next f xs i d below

pub ruleset text = (text_more, take_all)

-- PUTTING IT

not_new : packages_name ≢ new_packages_name
not_new e = let bad : length packages_name ≡ length new_packages_name = ap (λ (xs : List ℕ). length xs) e in absurd (omega arith)

pub both : (text : List ℕ) (f g h : Files) → WritesFile f g new_packages_name text → RenamesFile g h new_packages_name packages_name → PutsPackages text f h
both text f g h wrote renamed = record {
  here = renamed.here ∙ wrote.here;
  leaves = record { others = λ name a b. renamed.others name b a ∙ wrote.others name b };
}

pub only_new : (text : List ℕ) (f g : Files) → ChangesOnlyFile f g new_packages_name → MayPutPackages text f g
only_new text f g only = record {
  either = inl (only.others packages_name not_new);
  leaves = record { others = λ name a b. only.others name b };
}

pub one_only : (text : List ℕ) (f g h : Files) → WritesFile f g new_packages_name text → LeavesFiles g h → MayPutPackages text f h
one_only text f g h wrote same = record {
  either = inl (same.all packages_name ∙ wrote.others packages_name not_new);
  leaves = record { others = λ name a b. same.all name ∙ wrote.others name b };
}

pub may_both : (text : List ℕ) (f g h : Files) → WritesFile f g new_packages_name text → RenamesFile g h new_packages_name packages_name → MayPutPackages text f h
may_both text f g h wrote renamed =
    let puts = both text f g h wrote renamed in
    record { either = inr puts.here; leaves = puts.leaves }

pub ruleset putting = (both, only_new, one_only, may_both)

-- CLAIMING

pub same_puts : (text : List ℕ) (f : Files) → f packages_name ≡ Some text → PutsPackages text f f
same_puts text f here = record { here = here; leaves = record { others = λ name a b. refl } }

pub ruleset claiming = (same_puts)
