-- Outputs that may overwrite one of several files.
use Rattle.std.proofs.Common.{◌≡◌, ◌<◌, ◌∙◌, ◌++◌, ℕ, zero, suc, List, [], ◌∷◌, inl, inr, length, map, get_or, String, Global, ap, subst, arith}
use Rattle.std.specs.List.{AllByRecursion}
use Rattle.std.specs.Prelude.{IfSome, IsSomeAnd, None, Option, Some, string_bytes}
use Rattle.fwupd_base.specs.ImageFiles.{image_file}
use Rattle.fwupd_base.specs.declared.image_files.ImageFile.{ImageFile}
use Rattle.fwupd_watch.specs.Files.{FileOf, IsApartFrom, IsOver, IsOverOne}
use Rattle.fwupd_watch.specs.Inputs.{image_paths, with_first}

-- an output may overwrite the file of a path among strings
pub over_item : (files : List ℕ → FileOf) (written : List ℕ) (others : List (String Global)) (i : ℕ) (other : String Global) (name : List ℕ) → i < length others → other ≡ get_or others i other
    → name ≡ string_bytes other → IsOver files written name → IsOverOne files written (map (λ p. string_bytes p) others)
over_item files written [] i other name lt is called h = absurd (omega arith)
over_item files written (x ∷ others) zero other name lt is called h = inl (subst (IsOver files written) (called ∙ ap (λ p. string_bytes p) is) h)
over_item files written (x ∷ others) (suc i) other name lt is called h = inr (over_item files written others i other name (omega arith) is called h)

-- an output may overwrite the file of an image among others
pub over_image_item : (files : List ℕ → FileOf) (written : List ℕ) (images : List ImageFile) (i : ℕ) (none : ImageFile) → i < length images → IsOver files written (get_or images i none).path.now
    → IsOverOne files written (image_paths (map image_file images))
over_image_item files written [] i none lt h = absurd (omega arith)
over_image_item files written (x ∷ images) zero none lt h = inl h
over_image_item files written (x ∷ images) (suc i) none lt h = inr (over_image_item files written images i none (omega arith) h)

-- it overwrites one of two groups of files
pub over_image : (files : List ℕ → FileOf) (written : List ℕ) (images packages : List (List ℕ)) → IsOverOne files written images → IsOverOne files written (images ++ packages)
over_image files written [] packages h = absurd h
over_image files written (x ∷ images) packages (inl h) = inl h
over_image files written (x ∷ images) packages (inr h) = inr (over_image files written images packages h)

pub over_package : (files : List ℕ → FileOf) (written : List ℕ) (images packages : List (List ℕ)) → IsOverOne files written packages → IsOverOne files written (images ++ packages)
over_package files written [] packages h = h
over_package files written (x ∷ images) packages h = inr (over_package files written images packages h)

-- or none of both
pub apart_both : (files : List ℕ → FileOf) (written : List ℕ) (images packages : List (List ℕ)) → AllByRecursion (IsApartFrom files written) images → AllByRecursion (IsApartFrom files written) packages
    → AllByRecursion (IsApartFrom files written) (images ++ packages)
apart_both files written [] packages all more = more
apart_both files written (x ∷ images) packages all more = (all.0, apart_both files written images packages all.1 more)

-- it overwrites a file before others, if there is one, or one of the others
pub over_first : (files : List ℕ → FileOf) (written : List ℕ) (path : Option (List ℕ)) (paths : List (List ℕ)) → IsSomeAnd path (IsOver files written) → IsOverOne files written (with_first path paths)
over_first files written None paths h = absurd h
over_first files written (Some path) paths h = inl h

pub over_rest : (files : List ℕ → FileOf) (written : List ℕ) (path : Option (List ℕ)) (paths : List (List ℕ)) → IsOverOne files written paths → IsOverOne files written (with_first path paths)
over_rest files written None paths h = h
over_rest files written (Some path) paths h = inr h

-- or none of all
pub apart_all : (files : List ℕ → FileOf) (written : List ℕ) (path : Option (List ℕ)) (paths : List (List ℕ)) → IfSome path (IsApartFrom files written) → AllByRecursion (IsApartFrom files written) paths
    → AllByRecursion (IsApartFrom files written) (with_first path paths)
apart_all files written None paths first all = all
apart_all files written (Some path) paths first all = (first, all)
