-- The folder of a path, and the name in it.
use Rattle.std.proofs.Common.{false, inl, inr, ◌≡◌, ◌≢◌, ◌<◌, ◌∙◌, ◌++◌, ◌∷◌, ℕ, List, [], ap, arith, suc, codes, drop, take, get_or, length, refl, subst, sym, ◌==◌, take-append-drop}
use Rattle.std.specs.List.{AllByRecursion}
use Rattle.std.specs.Str.{NoCharPasses}
use Rattle.std.specs.Str.Pattern.{RFindsChar, SplitsAroundMatch}
use Rattle.std.proofs.lemmas.Bool.{both_ways}
use Rattle.std.proofs.lemmas.Str.Pattern.{NoCharPasses-char, drop_at_char}
use Rattle.fwupd_watch.specs.Paths.{IsFolderAndName, path_in}

-- bytes of which none is a slash
no_slashes : (bytes : List ℕ) → ((i : ℕ) → i < length bytes → get_or bytes i 0 ≢ 47) → AllByRecursion (λ byte. byte ≢ 47) bytes
no_slashes [] each = tt
no_slashes (byte ∷ bytes) each = (each 0 (omega arith), no_slashes bytes (λ i within. each (suc i) (omega (arith, within))))

-- a text without the character `/` has no byte of it
has_no_slash : (text : List ℕ) → NoCharPasses (λ c. c == 47) text → AllByRecursion (λ byte. byte ≢ 47) text
has_no_slash text none = no_slashes text (λ i within. NoCharPasses-char 47 text i none (omega arith) within)

-- a path is what precedes its last slash, the slash, and what follows it
joined : (path front back : List ℕ) → SplitsAroundMatch (RFindsChar 47) path front back → path ≡ path_in front back
joined path front back (i, j, found, before, after, ordered, first, second) =
    rw before (rw after (sym (take-append-drop i path) ∙ ap (λ rest. take i path ++ rest) (drop_at_char 47 path i j found.1 (omega arith))))

-- after the last slash there is none
plain_name : (path front back : List ℕ) → SplitsAroundMatch (RFindsChar 47) path front back → AllByRecursion (λ byte. byte ≢ 47) back
plain_name path front back (i, j, found, before, after, ordered, first, second) = subst (AllByRecursion (λ byte. byte ≢ 47)) (sym after) (has_no_slash (drop j path) found.0)

pub bare_name : (path : List ℕ) → NoCharPasses (λ c. c == 47) path → IsFolderAndName path (codes ".") path
bare_name path none = record { plain = has_no_slash path none; parts = inl (refl, refl) }

pub name_in_root : (path front name : List ℕ) → SplitsAroundMatch (RFindsChar 47) path front name → front ≡ [] → IsFolderAndName path (codes "/") name
name_in_root path front name at empty =
    record { plain = plain_name path front name at; parts = inr (inl (refl, joined path front name at ∙ ap (λ f. path_in f name) empty)) }

pub name_in_folder : (path folder name : List ℕ) → SplitsAroundMatch (RFindsChar 47) path folder name → (length folder == 0) ≡ false → IsFolderAndName path folder name
name_in_folder path folder name at some =
    record { plain = plain_name path folder name at; parts = inr (inr (λ none. both_ways (length folder == 0) some (ap (λ f. length f == 0) none), joined path folder name at)) }

pub ruleset folders_and_names = (bare_name, name_in_root)
