-- Images that are read one after the other, and the package built from them.
use Rattle.std.proofs.Common.{◌≡◌, ◌<◌, ◌+◌, ◌++◌, ◌⊎◌, ◌∙◌, ℕ, zero, suc, Bool, true, List, [], ◌∷◌, Option, Some, None, OnOk, Result, Ok, Err, inl, inr, length, map, take, get_or, Vec, Global, refl, sym, ap, subst, append_assoc, append-nil, arith}
use Rattle.std.specs.Prelude.{IfSome, IsSomeAnd, drop, slice_get}
use Rattle.std.specs.Io.KnownBytes.{Appends}
use Rattle.std.specs.List.{concat}
use Rattle.std.proofs.KnownBytes.{Appends-trans}
use Rattle.std.proofs.Math.Seq.{split_at, take-suc}
use Rattle.std.proofs.lemmas.List.{map-append}
use Rattle.fw_package.specs.Writing.{IsHeaderOf, header_bytes}
use Rattle.fw_script.specs.PackageSpecs.{PackageSpecOf, SpecComponentOf, package_spec_of, spec_component_of}
use Rattle.fw_script.specs.declared.package_spec.SpecComponent.{SpecComponent}
use Rattle.fwupd_jobs.specs.Built.{AreImages, Builds, ImageFails, ImagesFail, IsBuilt, IsImage, asked_by, components_by}
use Rattle.fwupd_watch.specs.Files.{FileOf}
use Rattle.fwupd_watch.specs.Places.{IsOnDisk}
use Rattle.fwupd_nodes.specs.Setups.{Says}
use Rattle.fwupd_watch.specs.declared.faults.JobFault.{JobFault}
use Rattle.fwupd_watch.specs.declared.faults.JobFault.TheVariants as faults

-- the item at a place of a list that was mapped
pub own_in : {A B : Type 0} (g : A → B) (xs : List A) (i : ℕ) (x : A) (y : B) → i < length xs → x ≡ get_or xs i x → Some y ≡ slice_get (map g xs) i → y ≡ g x
own_in g [] i x y lt is e = absurd (omega arith)
own_in g (z ∷ zs) zero x y lt is e = let k : y ≡ g z = cc in k ∙ ap g (sym is)
own_in g (z ∷ zs) (suc i) x y lt is e = own_in g zs i x y (omega arith) is e

-- one more image is written
concat_next : (images : List (Vec ℕ Global)) (i : ℕ) (image : Vec ℕ Global) (bytes : List ℕ) → i < length images → image ≡ get_or images i image → bytes ≡ image.items
    → concat (map (λ x. x.items) (take i images)) ++ bytes ≡ concat (map (λ x. x.items) (take (suc i) images))
concat_next [] i image bytes lt is e = absurd (omega arith)
concat_next (z ∷ zs) zero image bytes lt is e = e ∙ ap (λ x. x.items) is ∙ sym (append-nil z.items)
concat_next (z ∷ zs) (suc i) image bytes lt is e =
    append_assoc z.items (concat (map (λ x. x.items) (take i zs))) bytes ∙ ap (λ xs. z.items ++ xs) (concat_next zs i image bytes (omega arith) is e)

pub parts_more : (a b c : Option (List ℕ)) (header : List ℕ) (images : List (Vec ℕ Global)) (i : ℕ) (image : Vec ℕ Global) (bytes : List ℕ)
    → i < length images → image ≡ get_or images i image → bytes ≡ image.items → Appends a b (header ++ concat (map (λ x. x.items) (take i images))) → Appends b c bytes
    → Appends a c (header ++ concat (map (λ x. x.items) (take (i + 1) images)))
parts_more a b c header images i image bytes lt is e p q =
    let next : suc i ≡ i + 1 = omega arith in
    subst (λ n. Appends a c (header ++ concat (map (λ x. x.items) (take n images)))) next
    (subst (Appends a c)
    (append_assoc header (concat (map (λ x. x.items) (take i images))) bytes ∙ ap (λ xs. header ++ xs) (concat_next images i image bytes lt is e))
    (Appends-trans a b c (header ++ concat (map (λ x. x.items) (take i images))) bytes p q))

pub bytes_more : (header before after bytes : List ℕ) (images : List (Vec ℕ Global)) (i : ℕ) (image : Vec ℕ Global) → i < length images → image ≡ get_or images i image → bytes ≡ image.items
    → before ≡ header ++ concat (map (λ x. x.items) (take i images)) → after ≡ before ++ bytes → after ≡ header ++ concat (map (λ x. x.items) (take (i + 1) images))
bytes_more header before after bytes images i image lt is e h more =
    let next : suc i ≡ i + 1 = omega arith in
    more ∙ ap (λ xs. xs ++ bytes) h ∙ append_assoc header (concat (map (λ x. x.items) (take i images))) bytes
    ∙ ap (λ xs. header ++ xs) (concat_next images i image bytes lt is e) ∙ ap (λ n. header ++ concat (map (λ x. x.items) (take n images))) next

-- one more image is read
images_more : (files : List ℕ → FileOf) (cs : List SpecComponentOf) (images : List (List ℕ)) (c : SpecComponentOf) (image : List ℕ) → AreImages files cs images → IsImage files c.path image
    → AreImages files (cs ++ c ∷ []) (images ++ image ∷ [])
images_more files [] [] c image h k = (k, tt)
images_more files [] (i ∷ is) c image h k = absurd h
images_more files (d ∷ ds) [] c image h k = absurd h
images_more files (d ∷ ds) (i ∷ is) c image h k = (h.0, images_more files ds is c image h.1 k)

pub images_next : (files : List ℕ → FileOf) (cs : List SpecComponent) (i : ℕ) (c : SpecComponent) (images after : List (Vec ℕ Global)) (image : Vec ℕ Global)
    → i < length cs → c ≡ get_or cs i c → after ≡ images ++ image ∷ []
    → AreImages files (map spec_component_of (take i cs)) (map (λ x. x.items) images) → IsImage files (spec_component_of c).path image.items
    → AreImages files (map spec_component_of (take (i + 1) cs)) (map (λ x. x.items) after)
images_next files cs i c images after image lt is e h k =
    let next : suc i ≡ i + 1 = omega arith in
    let taken : take (i + 1) cs ≡ take i cs ++ c ∷ [] = ap (λ n. take n cs) (sym next) ∙ take-suc cs i c lt ∙ ap (λ q. take i cs ++ q ∷ []) (sym is) in
    subst (λ qs. AreImages files (map spec_component_of qs) (map (λ x. x.items) after)) (sym taken)
    (subst (λ fs. AreImages files (map spec_component_of (take i cs ++ c ∷ [])) (map (λ x. x.items) fs)) (sym e)
    (subst (λ ns. AreImages files ns (map (λ x. x.items) (images ++ image ∷ []))) (sym (map-append spec_component_of (take i cs) (c ∷ [])))
    (subst (λ fs. AreImages files (map spec_component_of (take i cs) ++ spec_component_of c ∷ []) fs) (sym (map-append (λ x. x.items) images (image ∷ [])))
    (images_more files (map spec_component_of (take i cs)) (map (λ x. x.items) images) (spec_component_of c) image.items h k))))

-- the first image that can't be read
pub image_fails_at : (files : List ℕ → FileOf) (cs : List SpecComponent) (i : ℕ) (c : SpecComponent) (images : List (List ℕ)) (told : JobFault)
    → i < length cs → c ≡ get_or cs i c → AreImages files (map spec_component_of (take i cs)) images
    → (told ≡ faults.Memory) ⊎ ImageFails files (spec_component_of c).path told → (told ≡ faults.Memory) ⊎ ImagesFail files (map spec_component_of cs) told
image_fails_at files cs i c images told lt is h (inl e) = inl e
image_fails_at files cs i c images told lt is h (inr f) =
    let split : cs ≡ take i cs ++ c ∷ drop (suc i) cs = split_at cs i c lt ∙ ap (λ q. take i cs ++ q ∷ drop (suc i) cs) (sym is) in
    inr (record {
      before = map spec_component_of (take i cs);
      component = spec_component_of c;
      after = map spec_component_of (drop (suc i) cs);
      images = images;
      is = ap (map spec_component_of) split ∙ map-append spec_component_of (take i cs) (c ∷ drop (suc i) cs);
      read = h;
      fails = f;
    })

-- the requested sizes are those of the images
sizes_of : (files : List ℕ → FileOf) (cs : List SpecComponentOf) (images : List (List ℕ)) → AreImages files cs images
    → map length images ≡ map (λ c. c.size) (components_by cs images)
sizes_of files [] [] h = refl
sizes_of files [] (i ∷ is) h = absurd h
sizes_of files (c ∷ cs) [] h = absurd h
sizes_of files (c ∷ cs) (i ∷ is) h = ap (λ ns. length i ∷ ns) (sizes_of files cs is h.1)

-- the file that is put at its place is the package
put_whole : (files : List ℕ → FileOf) (path : List ℕ) (w held : Option (List ℕ)) (bytes : List ℕ) → IsBuilt files path bytes → Appends (Some []) w bytes → IfSome w (λ b. held ≡ Some b)
    → IsSomeAnd held (λ b. IsBuilt files path b)
put_whole files path None held bytes h p e = absurd p
put_whole files path (Some x) held bytes h p e = subst (λ o. IsSomeAnd o (λ b. IsBuilt files path b)) (sym e) (subst (IsBuilt files path) (sym p) h)

-- the bytes of a header and images are the package
pub whole_built : (files : List ℕ → FileOf) (path : List ℕ) (spec : PackageSpecOf) (images : List (List ℕ)) (header bytes : List ℕ)
    → Says package_spec_of (files path) spec → AreImages files spec.components images → header ≡ header_bytes (asked_by spec images) → IsHeaderOf (asked_by spec images) header
    → bytes ≡ header ++ concat images → IsBuilt files path bytes
whole_built files path spec images header bytes says are is of all =
    let sizes = sizes_of files spec.components images are in
    subst (IsBuilt files path) (sym all) (record {
      spec = spec;
      images = images;
      says = says;
      are = are;
      written = ap (λ h. h ++ concat images) is;
      is = of.is images sizes;
      reads = of.reads images sizes;
    })

pub built : (files : List ℕ → FileOf) (path : List ℕ) (spec : PackageSpecOf) (images : List (List ℕ)) (header : List ℕ) (known : Bool) (begun w held : Option (List ℕ))
    → Says package_spec_of (files path) spec → AreImages files spec.components images → header ≡ header_bytes (asked_by spec images) → IsHeaderOf (asked_by spec images) header
    → (known ≡ true → begun ≡ Some []) → Appends begun w (header ++ concat images) → (known ≡ true → IfSome w (λ b. held ≡ Some b)) → Builds files path known held
built files path spec images header known begun w held says are is of begins written put = λ yes.
    put_whole files path w held (header ++ concat images) (whole_built files path spec images header (header ++ concat images) says are is of refl)
    (subst (λ o. Appends o w (header ++ concat images)) (begins yes) written) (put yes)

-- the content of a file at its place, and after a loss of power
put_held : (w held lasting : Option (List ℕ)) → IsOnDisk w held lasting → IfSome w (λ b. held ≡ Some b)
put_held None held lasting p = tt
put_held (Some x) held lasting p = p.0

put_lasting : (w held lasting : Option (List ℕ)) → IsOnDisk w held lasting → IfSome w (λ b. lasting ≡ Some b)
put_lasting None held lasting p = tt
put_lasting (Some x) held lasting p = p.1

pub built_on : {A : Type 0} (files : List ℕ → FileOf) (path : List ℕ) (spec : PackageSpecOf) (images : List (List ℕ)) (header : List ℕ) (known still : Bool)
    (begun w held lasting : Option (List ℕ)) (end : Result A JobFault)
    → Says package_spec_of (files path) spec → AreImages files spec.components images → header ≡ header_bytes (asked_by spec images) → IsHeaderOf (asked_by spec images) header
    → (known ≡ true → begun ≡ Some []) → still ≡ known → Appends begun w (header ++ concat images) → OnOk end (still ≡ true → IsOnDisk w held lasting) → OnOk end (Builds files path known held)
built_on files path spec images header known still begun w held lasting (Ok a) says are is of begins same written put =
    built files path spec images header known begun w held says are is of begins written (λ yes. put_held w held lasting (put (same ∙ yes)))
built_on files path spec images header known still begun w held lasting (Err fault) says are is of begins same written put = tt

pub built_lasting : {A : Type 0} (files : List ℕ → FileOf) (path : List ℕ) (spec : PackageSpecOf) (images : List (List ℕ)) (header : List ℕ) (known still : Bool)
    (begun w held lasting : Option (List ℕ)) (end : Result A JobFault)
    → Says package_spec_of (files path) spec → AreImages files spec.components images → header ≡ header_bytes (asked_by spec images) → IsHeaderOf (asked_by spec images) header
    → (known ≡ true → begun ≡ Some []) → still ≡ known → Appends begun w (header ++ concat images) → OnOk end (still ≡ true → IsOnDisk w held lasting) → OnOk end (Builds files path known lasting)
built_lasting files path spec images header known still begun w held lasting (Ok a) says are is of begins same written put =
    built files path spec images header known begun w lasting says are is of begins written (λ yes. put_lasting w held lasting (put (same ∙ yes)))
built_lasting files path spec images header known still begun w held lasting (Err fault) says are is of begins same written put = tt
