-- The places of files by what a file system says of paths.
use Rattle.std.proofs.Common.{◌≡◌, ◌⊎◌, ◌↔◌, ◌∙◌, ◌||◌, Bool, true, false, ℕ, List, Option, None, Some, ap, codes, inl, inr, refl, sym, subst}
use Rattle.std.specs.Prelude.{IfSome}
use Rattle.fwupd_watch.specs.Files.{IsOneEntry}
use Rattle.fwupd_watch.specs.PathCalls.{ComparesPlaces, LocatesBelow, LocatesEither, LocatesLink, LocatesPath, LocatesTarget, PathsOf}
use Rattle.fwupd_watch.specs.Paths.{IsFolderAndName, path_in}
use Rattle.fwupd_watch.specs.declared.files.FileIdentity.{FileIdentity}

pub places_compared : (known : Option PathsOf) → (one other one_folder one_name other_folder other_name : List ℕ) → (first second : Option FileIdentity) → (answer : Bool)
    → IsFolderAndName one one_folder one_name → IsFolderAndName other other_folder other_name
    → IfSome known (λ paths. first ≡ paths.identity one_folder) → IfSome known (λ paths. second ≡ paths.identity other_folder)
    → (answer ≡ true ↔ IsOneEntry first one_name second other_name)
    → IfSome known (λ paths. ComparesPlaces paths one other answer)
places_compared None one other one_folder one_name other_folder other_name first second answer of_one of_other is_first is_second is = tt
places_compared (Some paths) one other one_folder one_name other_folder other_name first second answer of_one of_other is_first is_second is = record {
  one_folder = one_folder;
  one_name = one_name;
  other_folder = other_folder;
  other_name = other_name;
  of_one = of_one;
  of_other = of_other;
  is = subst (λ f. answer ≡ true ↔ IsOneEntry f one_name (paths.identity other_folder) other_name) is_first
      (subst (λ s. answer ≡ true ↔ IsOneEntry first one_name s other_name) is_second is);
}

pub path_located : (known : Option PathsOf) → (root : FileIdentity) → (path folder name above : List ℕ) → (own upper : Option FileIdentity) → (answer : Bool)
    → IsFolderAndName path folder name → above ≡ path_in folder (codes "..")
    → IfSome known (λ paths. own ≡ paths.identity folder) → IfSome known (λ paths. upper ≡ paths.identity above)
    → (answer ≡ true ↔ ((own ≡ Some root) ⊎ (upper ≡ Some root)))
    → IfSome known (λ paths. LocatesPath paths root path answer)
path_located None root path folder name above own upper answer of_path at is_own is_upper is = tt
path_located (Some paths) root path folder name above own upper answer of_path at is_own is_upper is = record {
  folder = folder;
  name = name;
  of_path = of_path;
  is = subst (λ f. answer ≡ true ↔ ((f ≡ Some root) ⊎ (paths.identity (path_in folder (codes "..")) ≡ Some root))) is_own
      (subst (λ s. answer ≡ true ↔ ((own ≡ Some root) ⊎ (s ≡ Some root))) (is_upper ∙ ap paths.identity at) is);
}

pub no_link_located : (known : Option PathsOf) → (root : FileIdentity) → (path : List ℕ) → (link answer : Bool)
    → IfSome known (λ paths. link ≡ paths.is_link path) → link ≡ false → answer ≡ false
    → IfSome known (λ paths. LocatesLink paths root path (paths.is_link path) answer)
no_link_located None root path link answer is_link none is = tt
no_link_located (Some paths) root path link answer is_link none is = subst (λ l. LocatesLink paths root path l answer) (sym none ∙ is_link) is

pub dangling_located : (known : Option PathsOf) → (root : FileIdentity) → (path : List ℕ) → (target : Option (List ℕ)) → (link answer : Bool)
    → IfSome known (λ paths. link ≡ paths.is_link path) → link ≡ true
    → IfSome known (λ paths. target ≡ paths.target path) → target ≡ None → answer ≡ true
    → IfSome known (λ paths. LocatesLink paths root path (paths.is_link path) answer)
dangling_located None root path target link answer is_link some is_target none is = tt
dangling_located (Some paths) root path target link answer is_link some is_target none is =
    subst (λ l. LocatesLink paths root path l answer) (sym some ∙ is_link) (subst (λ t. LocatesTarget paths root t answer) (sym none ∙ is_target) is)

pub target_located : (known : Option PathsOf) → (root : FileIdentity) → (path found : List ℕ) → (target : Option (List ℕ)) → (link answer : Bool)
    → IfSome known (λ paths. link ≡ paths.is_link path) → link ≡ true
    → IfSome known (λ paths. target ≡ paths.target path) → target ≡ Some found
    → IfSome known (λ paths. LocatesPath paths root found answer)
    → IfSome known (λ paths. LocatesLink paths root path (paths.is_link path) answer)
target_located None root path found target link answer is_link some is_target here is = tt
target_located (Some paths) root path found target link answer is_link some is_target here is =
    subst (λ l. LocatesLink paths root path l answer) (sym some ∙ is_link) (subst (λ t. LocatesTarget paths root t answer) (sym here ∙ is_target) is)

pub ruleset links_located = (no_link_located, dangling_located, target_located)

pub none_below : (known : Option PathsOf) → (path folder : List ℕ) → (root : Option FileIdentity) → (answer : Bool)
    → IfSome known (λ paths. root ≡ paths.identity folder) → root ≡ None → answer ≡ false
    → IfSome known (λ paths. LocatesBelow paths path (paths.identity folder) answer)
none_below None path folder root answer is_root none is = tt
none_below (Some paths) path folder root answer is_root none is = subst (λ r. LocatesBelow paths path r answer) (sym none ∙ is_root) is

pub itself_below : (known : Option PathsOf) → (path folder : List ℕ) → (own : FileIdentity) → (root : Option FileIdentity) → (lies answer : Bool)
    → IfSome known (λ paths. root ≡ paths.identity folder) → root ≡ Some own
    → IfSome known (λ paths. LocatesPath paths own path lies) → lies ≡ true → answer ≡ true
    → IfSome known (λ paths. LocatesBelow paths path (paths.identity folder) answer)
itself_below None path folder own root lies answer is_root some is_lies here is = tt
itself_below (Some paths) path folder own root lies answer is_root some is_lies here is =
    subst (λ r. LocatesBelow paths path r answer) (sym some ∙ is_root) (record {
      itself = lies;
      by_link = false;
      lies = is_lies;
      leads = λ none. absurd (cc (none, here));
      is = rw here is;
    })

pub linked_below : (known : Option PathsOf) → (path folder : List ℕ) → (own : FileIdentity) → (root : Option FileIdentity) → (lies answer : Bool)
    → IfSome known (λ paths. root ≡ paths.identity folder) → root ≡ Some own
    → IfSome known (λ paths. LocatesPath paths own path lies) → lies ≡ false
    → IfSome known (λ paths. LocatesLink paths own path (paths.is_link path) answer)
    → IfSome known (λ paths. LocatesBelow paths path (paths.identity folder) answer)
linked_below None path folder own root lies answer is_root some is_lies away is = tt
linked_below (Some paths) path folder own root lies answer is_root some is_lies away is =
    subst (λ r. LocatesBelow paths path r answer) (sym some ∙ is_root) (record {
      itself = lies;
      by_link = answer;
      lies = is_lies;
      leads = λ _. is;
      is = rw away refl;
    })

pub ruleset located_below = (none_below, itself_below, linked_below)
