-- The outline that is read from a file's beginning is that of its package.
use Rattle.std.proofs.Common.{◌≡◌, ℕ, zero, suc, ◌+◌, ◌<◌, ◌≤◌, ◌∙◌, nat_lt, if◌then◌else◌, Bool, true, false, List, [], ◌∷◌, Result, Ok, Err, length, map, take, drop, get_or, refl, sym, ap, subst, arith, length-drop}
use Rattle.std.proofs.lemmas.Bool.{le-ltb}
use borrow.Author.Tests.{ltb-false, ltb-true}
use Rattle.std.proofs.lemmas.List.{drop-take, get_or-drop, get_or-take, length-take-le, take_all}
use Rattle.std.specs.Result.{result_map_both}
use Rattle.byteorder.specs.Endian.{little_number}
use Rattle.byteorder.specs.Numbers.{little_from-take}
use Rattle.fw_package.specs.Components.{PlaceOf, component_of, components_of, place_of, component_at_place}
use Rattle.fw_package.specs.Layout.{layout_of, text_size_of}
use Rattle.fw_package.specs.Outlines.{ContentsOf, IsBeginning, OutlineOf, contents_of, its_place, outline_of, outline_of_package, place_within, places_of}
use Rattle.fw_package.specs.Package.{ComponentOf, PackageText}
use Rattle.fw_package.specs.Reading.{bitmap_size_of, header_before_checksum, header_of, package_of, parts_of}
use Rattle.fw_package.specs.Records.{◌>>=◌, records_of}
use Rattle.fw_package.specs.declared.fault.PackageFault.{PackageFault}
use Rattle.fw_package.specs.declared.fault.PackageFault.TheVariants.{ImageRange}

-- two bytes are a number below 65536
size_small : (bytes : List ℕ) → ((i : ℕ) → get_or bytes i 0 < 256) → little_number 2 (drop 17 bytes) ≤ 65535
size_small bytes small =
    let low : get_or (drop 17 bytes) 0 0 < 256 = rw (get_or-drop 17 bytes 0 0) (small 17) in
    let high : get_or (drop 17 bytes) 1 0 < 256 = rw (get_or-drop 17 bytes 1 0) (small 18) in
    omega (arith, low, high)

take_take : (n m : ℕ) (xs : List ℕ) → n ≤ m → take n (take m xs) ≡ take n xs
take_take zero m xs le = refl
take_take (suc n) zero xs le = absurd (omega (arith, le))
take_take (suc n) (suc m) [] le = refl
take_take (suc n) (suc m) (x ∷ xs) le = ap (λ ys. x ∷ ys) (take_take n m xs (omega (arith, le)))

-- a header is within the first 65535 bytes
size_taken : (file : List ℕ) → little_number 2 (drop 17 (take 65535 file)) ≡ little_number 2 (drop 17 file)
size_taken file = ap (little_number 2) (drop-take 17 65518 file) ∙ little_from-take 0 2 65518 (drop 17 file) (omega arith)

header_long : (file : List ℕ) → ((i : ℕ) → get_or (take 65535 file) i 0 < 256) → 65535 < length file → header_of (take 65535 file) ≡ header_of file
unfolding header_of
header_long file small lt =
    let all : length (take 65535 file) ≡ 65535 = length-take-le 65535 file (omega (arith, lt)) in
    let size = size_taken file in
    let fits : little_number 2 (drop 17 file) ≤ 65535 = subst (λ n. n ≤ 65535) size (size_small (take 65535 file) small) in
    let fixed : nat_lt (length file) 36 ≡ false = le-ltb (length file) 36 (omega (arith, lt)) in
    let whole : nat_lt (length file) (little_number 2 (drop 17 file)) ≡ false = le-ltb (length file) (little_number 2 (drop 17 file)) (omega (arith, lt, fits)) in
    let here : nat_lt 65535 (little_number 2 (drop 17 file)) ≡ false = le-ltb 65535 (little_number 2 (drop 17 file)) fits in
    rw (
      all,
      fixed,
      take_take 16 65535 file (omega arith),
      get_or-take 65535 file 16 0 (omega arith),
      size,
      here,
      whole,
      take_take (little_number 2 (drop 17 file)) 65535 file fits,
    )
    refl

header_taken_if : (b : Bool) (file : List ℕ) → ((i : ℕ) → get_or (take 65535 file) i 0 < 256) → nat_lt 65535 (length file) ≡ b → header_of (take 65535 file) ≡ header_of file
header_taken_if true file small e = header_long file small (ltb-true 65535 (length file) e)
header_taken_if false file small e = ap header_of (take_all 65535 file (ltb-false 65535 (length file) e))

header_taken : (file : List ℕ) → ((i : ℕ) → get_or (take 65535 file) i 0 < 256) → header_of (take 65535 file) ≡ header_of file
header_taken file small = header_taken_if (nat_lt 65535 (length file)) file small refl

contents_taken : (file : List ℕ) → ((i : ℕ) → get_or (take 65535 file) i 0 < 256) → contents_of (take 65535 file) ≡ contents_of file
unfolding contents_of
contents_taken file small = rw (header_taken file small) refl

-- an image ends within its file if its place does
place_is_if : (b : Bool) (file bytes : List ℕ) → nat_lt (length file) ((place_of bytes).offset + (place_of bytes).size) ≡ b
    → (if b then Err ImageRange else Ok (place_of bytes)) ≡ result_map_both its_place (λ e. e) (if b then Err ImageRange else Ok (component_at_place file (place_of bytes)))
place_is_if true file bytes e = refl
place_is_if false file bytes e =
    let within = ltb-false (length file) ((place_of bytes).offset + (place_of bytes).size) e in
    let left = length-drop (place_of bytes).offset file in
    let whole : length (take (place_of bytes).size (drop (place_of bytes).offset file)) ≡ (place_of bytes).size =
    length-take-le (place_of bytes).size (drop (place_of bytes).offset file) (omega (arith, within, left)) in
    rw whole refl

place_is : (file bytes : List ℕ) → place_within (length file) bytes ≡ result_map_both its_place (λ e. e) (component_of file bytes)
unfolding place_within component_of
place_is file bytes = place_is_if (nat_lt (length file) ((place_of bytes).offset + (place_of bytes).size)) file bytes refl

-- a component is its place, and the part of the file there
placed_if : (b : Bool) (file bytes : List ℕ) (p : PlaceOf) → nat_lt (length file) ((place_of bytes).offset + (place_of bytes).size) ≡ b
    → Ok p ≡ (if b then Err ImageRange else Ok (place_of bytes))
    → (Ok (component_at_place file p) ≡ (if b then Err ImageRange else Ok (component_at_place file (place_of bytes)))) × (p.offset + p.size ≤ length file)
placed_if true file bytes p e h = absurd (cc)
placed_if false file bytes p e h =
    let same : place_of bytes ≡ p = cc in (
      ap (λ x. Ok (component_at_place file x)) (sym same),
      subst (λ (x : PlaceOf). x.offset + x.size ≤ length file) same (ltb-false (length file) ((place_of bytes).offset + (place_of bytes).size) e),
    )

pub component_placed : (file bytes : List ℕ) (p : PlaceOf) → Ok p ≡ place_within (length file) bytes
    → (Ok (component_at_place file p) ≡ component_of file bytes) × (p.offset + p.size ≤ length file)
unfolding place_within component_of
component_placed file bytes p h = placed_if (nat_lt (length file) ((place_of bytes).offset + (place_of bytes).size)) file bytes p refl h

unplaced_if : (b : Bool) (file bytes : List ℕ) (e : PackageFault) → Err e ≡ (if b then Err ImageRange else Ok (place_of bytes))
    → Err e ≡ (if b then Err ImageRange else Ok (component_at_place file (place_of bytes)))
unplaced_if true file bytes e h = let same : e ≡ ImageRange = cc in ap (λ x. Err x) same
unplaced_if false file bytes e h = absurd (cc)

pub component_unplaced : (file bytes : List ℕ) (e : PackageFault) → Err e ≡ place_within (length file) bytes → Err e ≡ component_of file bytes
unfolding place_within component_of
component_unplaced file bytes e h = unplaced_if (nat_lt (length file) ((place_of bytes).offset + (place_of bytes).size)) file bytes e h

rows_map : (r : Result ComponentOf PackageFault) (rs : Result (List ComponentOf) PackageFault)
    → (result_map_both its_place (λ e. e) r >>= (λ x. result_map_both (map its_place) (λ e. e) rs >>= (λ xs. Ok (x ∷ xs))))
    ≡ result_map_both (map its_place) (λ e. e) (r >>= (λ x. rs >>= (λ xs. Ok (x ∷ xs))))
rows_map (Ok c) (Ok cs) = refl
rows_map (Ok c) (Err e) = refl
rows_map (Err e) rs = refl

places_is : (file : List ℕ) (n : ℕ) (bytes : List ℕ) → places_of (length file) n bytes ≡ result_map_both (map its_place) (λ e. e) (components_of file n bytes)
unfolding places_of components_of
places_is file zero bytes = refl
places_is file (suc n) bytes =
    rw (place_is file bytes, places_is file n (drop (22 + text_size_of 21 bytes) bytes))
    (rows_map (component_of file bytes) (components_of file n (drop (22 + text_size_of 21 bytes) bytes)))

-- a package is its header's contents and its components
abbrev pub package_with : ContentsOf → List ComponentOf → PackageText
package_with c cs =
    record { header_size = c.header_size; release = c.release; version = c.version; records = c.records; components = cs }

abbrev composed : List ℕ → ContentsOf → Result PackageText PackageFault
composed file c = components_of file c.component_count c.components >>= (λ cs. Ok (package_with c cs))

then_same : {A B C : Type 0} (r : Result A PackageFault) (f : A → Result B PackageFault) (g : B → Result C PackageFault) (h : A → Result C PackageFault)
    → ((x : A) → h x ≡ (f x >>= g)) → (r >>= h) ≡ ((r >>= f) >>= g)
then_same (Ok x) f g h same = same x
then_same (Err e) f g h same = refl

pub package_composed : (file : List ℕ) → package_of file ≡ (contents_of file >>= composed file)
unfolding package_of contents_of
package_composed file =
    then_same (header_of file) _ (composed file) _ (λ header.
    then_same (parts_of (layout_of header)) _ (composed file) _ (λ l.
    then_same (bitmap_size_of (little_number 2 (drop 32 header)) l.component_count) _ (composed file) _ (λ size.
    then_same (records_of size l.component_count l.record_count l.records) _ (composed file) _ (λ rs.
    then_same (header_before_checksum header) _ (composed file) _ (λ before. refl)))))

pub package_from : (file : List ℕ) (c : ContentsOf) (cs : List ComponentOf) → Ok c ≡ contents_of file → Ok cs ≡ components_of file c.component_count c.components
    → Ok (package_with c cs) ≡ package_of file
package_from file c cs h is = rw (package_composed file, ← h, ← is) refl

pub package_out : (file : List ℕ) (c : ContentsOf) (e : PackageFault) → Ok c ≡ contents_of file → Err e ≡ components_of file c.component_count c.components
    → Err e ≡ package_of file
package_out file c e h is = rw (package_composed file, ← h, ← is) refl

pub package_without : (file : List ℕ) (e : PackageFault) → Err e ≡ contents_of file → Err e ≡ package_of file
package_without file e h = rw (package_composed file, ← h) refl

-- and its outline is the contents and its components' places
abbrev outline_with : ContentsOf → List PlaceOf → OutlineOf
outline_with c ps =
    record { header_size = c.header_size; release = c.release; version = c.version; records = c.records; places = ps }

abbrev placed_with : ℕ → ContentsOf → Result OutlineOf PackageFault
placed_with file_length c = places_of file_length c.component_count c.components >>= (λ ps. Ok (outline_with c ps))

outlined_last : (c : ContentsOf) (r : Result (List ComponentOf) PackageFault)
    → (result_map_both (map its_place) (λ e. e) r >>= (λ ps. Ok (outline_with c ps)))
    ≡ result_map_both outline_of_package (λ e. e) (r >>= (λ cs. Ok (package_with c cs)))
outlined_last c (Ok cs) = refl
outlined_last c (Err e) = refl

outlined_all : (file : List ℕ) (r : Result ContentsOf PackageFault) → (r >>= placed_with (length file)) ≡ result_map_both outline_of_package (λ e. e) (r >>= composed file)
outlined_all file (Ok c) = rw (places_is file c.component_count c.components) (outlined_last c (components_of file c.component_count c.components))
outlined_all file (Err e) = refl

outline_taken : (file : List ℕ) → ((i : ℕ) → get_or (take 65535 file) i 0 < 256)
    → outline_of (take 65535 file) (length file) ≡ result_map_both outline_of_package (λ e. e) (package_of file)
unfolding outline_of
outline_taken file small = rw (contents_taken file small, package_composed file) (outlined_all file (contents_of file))

pub outline_is : (beginning : List ℕ) (file_length : ℕ) → ((i : ℕ) → get_or beginning i 0 < 256)
    → (file : List ℕ) → IsBeginning file beginning file_length → outline_of beginning file_length ≡ result_map_both outline_of_package (λ e. e) (package_of file)
outline_is beginning file_length small file is =
    ap (λ xs. outline_of xs file_length) is.begins ∙ ap (outline_of (take 65535 file)) (sym is.long)
    ∙ outline_taken file (subst (λ xs. (i : ℕ) → get_or xs i 0 < 256) is.begins small)

pub ruleset reading = (package_from, package_out, package_without)
