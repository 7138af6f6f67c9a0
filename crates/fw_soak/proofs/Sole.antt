-- The only image among components.
use Rattle.std.proofs.Common.{◌≡◌, ◌<◌, ◌∙◌, ℕ, suc, List, [], ◌∷◌, true, false, Option, Some, None, All, arith, filter, length, map, refl, subst, sym, ap}
use Rattle.std.specs.Prelude.{is_some, option_map}
use Rattle.fw_package.specs.Choice.{component_at, has_key, sole_image}
use Rattle.fw_package.specs.Package.{ComponentOf, PackageText}
use Rattle.fw_soak.specs.Naming.{sole_image_after}

-- two images are too many
sole_some : (d : ComponentOf) (cs : List ComponentOf) → sole_image (d ∷ cs) ≡ sole_image_after (Some d.image) cs
sole_some d [] = refl
sole_some d (c ∷ cs) = refl

sole_all : (cs : List ComponentOf) → sole_image cs ≡ sole_image_after None cs
sole_all [] = refl
sole_all (c ∷ cs) = sole_some c cs

-- the images of the components with these numbers that have this key, one after the other
abbrev pub keyed : PackageText → (classification identifier : ℕ) → List ℕ → List ComponentOf
keyed p classification identifier ns = filter (has_key classification identifier) (map (component_at p) ns)

-- The remaining numbers of a list, which are numbers of components of the package. An image may
-- have been found before.
pub record Looks (p : PackageText) (classification identifier : ℕ) (all left : List ℕ) (found : Option (List ℕ)) : Type 0 where
  pub there : All (λ n. n < length p.components) left
  pub same : sole_image_after found (keyed p classification identifier left) ≡ sole_image_after None (keyed p classification identifier all)

rest_there : (k : ℕ) (n : ℕ) (rest : List ℕ) → All (λ m. m < k) (n ∷ rest) → All (λ m. m < k) rest
rest_there k n rest h i d lt = h (suc i) d (omega arith)

keyed_past : (p : PackageText) (classification identifier n : ℕ) (rest : List ℕ) → has_key classification identifier (component_at p n) ≡ false
    → keyed p classification identifier (n ∷ rest) ≡ keyed p classification identifier rest
keyed_past p classification identifier n rest h = rw h refl

keyed_here : (p : PackageText) (classification identifier n : ℕ) (rest : List ℕ) → has_key classification identifier (component_at p n) ≡ true
    → keyed p classification identifier (n ∷ rest) ≡ component_at p n ∷ keyed p classification identifier rest
keyed_here p classification identifier n rest h = rw h refl

pub looks_first : (p : PackageText) (classification identifier : ℕ) (all : List ℕ) → All (λ n. n < length p.components) all → Looks p classification identifier all all None
looks_first p classification identifier all h = record { there = h; same = refl }

-- the next component has another key
pub looks_past : (p : PackageText) (classification identifier : ℕ) (all left rest : List ℕ) (n : ℕ) (found : Option (List ℕ)) (x : ComponentOf) → left ≡ n ∷ rest
    → x ≡ component_at p n → has_key classification identifier x ≡ false → Looks p classification identifier all left found → Looks p classification identifier all rest found
looks_past p classification identifier all left rest n found x e is other l =
    let h : has_key classification identifier (component_at p n) ≡ false = subst (λ y. has_key classification identifier y ≡ false) is other in
    let k : Looks p classification identifier all (n ∷ rest) found = subst (λ xs. Looks p classification identifier all xs found) e l in
    record {
      there = rest_there (length p.components) n rest k.there;
      same = ap (sole_image_after found) (sym (keyed_past p classification identifier n rest h)) ∙ k.same;
    }

-- the first component with the key
pub looks_here : (p : PackageText) (classification identifier : ℕ) (all left rest : List ℕ) (n : ℕ) (found : Option (List ℕ)) (x : ComponentOf) → left ≡ n ∷ rest
    → x ≡ component_at p n → has_key classification identifier x ≡ true → is_some found ≡ false → Looks p classification identifier all left found
    → Looks p classification identifier all rest (Some x.image)
looks_here p classification identifier all left rest n (Some image) x e is same none l = absurd (cc)
looks_here p classification identifier all left rest n None x e is same none l =
    let h : has_key classification identifier (component_at p n) ≡ true = subst (λ y. has_key classification identifier y ≡ true) is same in
    let k : Looks p classification identifier all (n ∷ rest) None = subst (λ xs. Looks p classification identifier all xs None) e l in
    record {
      there = rest_there (length p.components) n rest k.there;
      same = ap (λ y. sole_image_after (Some y.image) (keyed p classification identifier rest)) is ∙ ap (sole_image_after None) (sym (keyed_here p classification identifier n rest h)) ∙ k.same;
    }

-- no component remains
pub looks_end : (p : PackageText) (classification identifier : ℕ) (all left : List ℕ) (found : Option (List ℕ)) → left ≡ [] → Looks p classification identifier all left found
    → found ≡ sole_image (keyed p classification identifier all)
looks_end p classification identifier all left found e l =
    let k : Looks p classification identifier all [] found = subst (λ xs. Looks p classification identifier all xs found) e l in
    k.same ∙ sym (sole_all (keyed p classification identifier all))

-- mapping an optional value keeps whether there is one
pub mapped_some : {A B : Type 0} (f : A → B) (o : Option A) → is_some (option_map f o) ≡ is_some o
mapped_some f None = refl
mapped_some f (Some x) = refl
