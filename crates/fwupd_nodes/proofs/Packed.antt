-- Files that are read one after the other.
use Rattle.std.proofs.Common.{◌≡◌, ◌≢◌, ◌≤◌, ◌<◌, ◌+◌, ◌++◌, ◌⊎◌, ◌∙◌, ℕ, suc, List, [], ◌∷◌, false, true, Some, None, Result, Ok, Err, IfOk, IsOk, inl, inr, length, map, take, get_or, Vec, String, Global, refl, sym, ap, subst, arith}
use Rattle.std.specs.Prelude.{IsSomeAnd, Option, drop, option_map, string_bytes}
use Rattle.std.proofs.Math.Seq.{split_at, take-suc}
use Rattle.std.proofs.lemmas.List.{append-nil, drop_all, length-map, map-append, take_all}
use Rattle.std.specs.List.{AllByRecursion}
use Rattle.fw_package.specs.Package.{PackageText}
use Rattle.fw_package.specs.Reading.{package_of}
use Rattle.fw_package.specs.declared.fault.PackageFault.{PackageFault}
use Rattle.fw_script.specs.Configs.{DeviceConfigOf}
use Rattle.fw_script.specs.Seen.{config_seen, device_of}
use Rattle.fw_script.specs.declared.config.Config.{Config}
use Rattle.fw_script.specs.declared.faults.ScriptCause.{ScriptCause}
use Rattle.fw_script.specs.declared.faults.ScriptCause.TheVariants as causes
use Rattle.fw_script.specs.declared.faults.ScriptFault.{ScriptFault}
use Rattle.fw_steps.specs.Opening.{new_world}
use Rattle.fw_steps.specs.Worlds.{WorldOf}
use Rattle.fw_setup.specs.Nodes.{nodes_made}
use Rattle.fw_setup.specs.Stocks.{HaveStoredImages, IsUnopened, StoresOf}
use Rattle.fw_setup.specs.declared.stores.Unopened.{Unopened}
use Rattle.fwupd_base.specs.ImageFiles.{ConfigSourceOf}
use Rattle.fwupd_nodes.specs.Setups.{AreDevices, ArePackages, ArePacked, IsConfigured, IsPacked, IsSetup, IsUnreadable, HasNoText, NumberedSetupFails, PackageFails, PackagesFail, SourceOf, StoresFail, TellsUnopened, TextFails, TextFault, misread_by, job_fault_of_misread, job_fault_of_unread, AreConfigured, ChosenStoresFail, chosen_in, chosen_source, have_packages}
use Rattle.fwupd_watch.specs.Files.{FileOf, MayHold}
use Rattle.fwupd_watch.specs.declared.faults.JobFault.{JobFault}
use Rattle.fwupd_watch.specs.declared.faults.JobFault.TheVariants as faults
use Rattle.fwupd_watch.specs.declared.files.FileFault.{FileFault}
use Rattle.fwupd_watch.specs.declared.files.FileFault.TheVariants as unread

-- the reported fault of a text is its first
pub unsaid_so : {A : Type 0} (read : List ℕ → Result A ScriptFault) (path text : List ℕ) (file : FileOf) (fault : ScriptFault) (told : JobFault)
    → TextFault path fault told → MayHold file text → (fault.cause ≢ causes.Memory → read text ≡ Err fault) → HasNoText read path file told
unsaid_so read path text file fault (faults.Answer f) h held is = absurd h
unsaid_so read path text file fault (faults.Unreadable name) h held is = absurd h
unsaid_so read path text file fault (faults.Package f) h held is = absurd h
unsaid_so read path text file fault (faults.Text name told) h held is =
    (h.0, record { text = text; held = held; is = is h.2 ∙ ap Err (sym h.1) })
unsaid_so read path text file fault (faults.Step n f) h held is = absurd h
unsaid_so read path text file fault faults.NoPackage h held is = absurd h
unsaid_so read path text file fault (faults.Store device why) h held is = absurd h
unsaid_so read path text file fault (faults.Unkept device) h held is = absurd h
unsaid_so read path text file fault (faults.Socket device) h held is = absurd h
unsaid_so read path text file fault faults.Tty h held is = absurd h
unsaid_so read path text file fault faults.Trace h held is = absurd h
unsaid_so read path text file fault faults.Log h held is = absurd h
unsaid_so read path text file fault faults.LogSize h held is = absurd h
unsaid_so read path text file fault faults.Violation h held is = absurd h
unsaid_so read path text file fault (faults.NoDevice eid) h held is = absurd h
unsaid_so read path text file fault (faults.NoComponent eid class ident) h held is = absurd h
unsaid_so read path text file fault (faults.LongImage name) h held is = absurd h
unsaid_so read path text file fault faults.Report h held is = absurd h
unsaid_so read path text file fault faults.Record h held is = absurd h
unsaid_so read path text file fault faults.History h held is = absurd h
unsaid_so read path text file fault (faults.Edge f) h held is = absurd h
unsaid_so read path text file fault (faults.Undone sessions) h held is = absurd h
unsaid_so read path text file fault (faults.Skipped sessions) h held is = absurd h
unsaid_so read path text file fault faults.Output h held is = absurd h
unsaid_so read path text file fault faults.Memory h held is = absurd h

-- the fault of a file has its name
pub told_unread : {E : Type 0} (path : List ℕ) (name : Result (String Global) E) (fault : FileFault) (told : JobFault) → IfOk name (λ t. string_bytes t ≡ path) → told ≡ job_fault_of_unread name fault
    → (told ≡ faults.Memory) ⊎ ((fault ≡ unread.Unreadable) × IsUnreadable path told)
told_unread path (Ok name) unread.Unreadable told is e = inr (refl, subst (IsUnreadable path) (sym e) is)
told_unread path (Ok name) unread.Memory told is e = inl e
told_unread path (Err x) unread.Unreadable told is e = inl e
told_unread path (Err x) unread.Memory told is e = inl e

-- and the fault of a text
told_named : (E : Type 0) (path : List ℕ) (name : String Global) (cause : ScriptCause) (fault : ScriptFault) (told : JobFault) → string_bytes name ≡ path → fault.cause ≡ cause
    → told ≡ misread_by {E = E} (Ok name) cause fault → (told ≡ faults.Memory) ⊎ TextFault path fault told
told_named E path name causes.Directive fault told named is e = inr (subst (TextFault path fault) (sym e) (named, refl, λ memory. absurd (cc)))
told_named E path name causes.Fields fault told named is e = inr (subst (TextFault path fault) (sym e) (named, refl, λ memory. absurd (cc)))
told_named E path name causes.Order fault told named is e = inr (subst (TextFault path fault) (sym e) (named, refl, λ memory. absurd (cc)))
told_named E path name causes.Number fault told named is e = inr (subst (TextFault path fault) (sym e) (named, refl, λ memory. absurd (cc)))
told_named E path name causes.Hex fault told named is e = inr (subst (TextFault path fault) (sym e) (named, refl, λ memory. absurd (cc)))
told_named E path name causes.Range fault told named is e = inr (subst (TextFault path fault) (sym e) (named, refl, λ memory. absurd (cc)))
told_named E path name causes.Duplicate fault told named is e = inr (subst (TextFault path fault) (sym e) (named, refl, λ memory. absurd (cc)))
told_named E path name causes.Limit fault told named is e = inr (subst (TextFault path fault) (sym e) (named, refl, λ memory. absurd (cc)))
told_named E path name causes.Missing fault told named is e = inr (subst (TextFault path fault) (sym e) (named, refl, λ memory. absurd (cc)))
told_named E path name causes.Memory fault told named is e = inl e

pub told_misread : (E : Type 0) (path : List ℕ) (name : Result (String Global) E) (fault : ScriptFault) (told : JobFault) → IfOk name (λ t. string_bytes t ≡ path) → told ≡ job_fault_of_misread name fault
    → (told ≡ faults.Memory) ⊎ TextFault path fault told
told_misread E path (Ok name) fault told named e = told_named E path name fault.cause fault told named refl e
told_misread E path (Err x) fault told named e = inl e

-- a file that can't be read
pub unread_text : {A : Type 0} (read : List ℕ → Result A ScriptFault) (files : List ℕ → FileOf) (path : List ℕ) (fault : FileFault) (told : JobFault)
    → (told ≡ faults.Memory) ⊎ ((fault ≡ unread.Unreadable) × IsUnreadable path told) → (fault ≡ unread.Unreadable → (files path).may_fail ≡ true)
    → (told ≡ faults.Memory) ⊎ TextFails read files path told
unread_text read files path fault told (inl e) fails = inl e
unread_text read files path fault told (inr h) fails = inr (inl (h.1, fails h.0))

pub unread_package : (files : List ℕ → FileOf) (path : List ℕ) (fault : FileFault) (told : JobFault) → (told ≡ faults.Memory) ⊎ ((fault ≡ unread.Unreadable) × IsUnreadable path told)
    → (fault ≡ unread.Unreadable → (files path).may_fail ≡ true) → (told ≡ faults.Memory) ⊎ PackageFails files path told
unread_package files path fault told (inl e) fails = inl e
unread_package files path fault told (inr h) fails = inr (inl (h.1, fails h.0))

-- one more file is a package
pub packed_more : (files : List ℕ → FileOf) (paths contents : List (List ℕ)) (path bytes : List ℕ) → ArePacked files paths contents → IsPacked (files path) bytes
    → ArePacked files (paths ++ path ∷ []) (contents ++ bytes ∷ [])
packed_more files [] [] path bytes h k = (k, tt)
packed_more files [] (c ∷ cs) path bytes h k = absurd h
packed_more files (p ∷ ps) [] path bytes h k = absurd h
packed_more files (p ∷ ps) (c ∷ cs) path bytes h k = (h.0, packed_more files ps cs path bytes h.1 k)

-- each of the files is one
pub packed_each : (files : List ℕ → FileOf) (paths contents : List (List ℕ)) → ArePacked files paths contents → AllByRecursion (λ b. IsOk (package_of b)) contents
packed_each files [] [] h = tt
packed_each files [] (c ∷ cs) h = absurd h
packed_each files (p ∷ ps) [] h = absurd h
packed_each files (p ∷ ps) (c ∷ cs) h = (h.0.is, packed_each files ps cs h.1)

-- they are equal
head_is : {A : Type 0} (x y : A) (xs ys : List A) → x ∷ xs ≡ y ∷ ys → x ≡ y
head_is x y xs ys e = cc

tail_is : {A : Type 0} (x y : A) (xs ys : List A) → x ∷ xs ≡ y ∷ ys → xs ≡ ys
tail_is x y xs ys e = cc

pub packages_so : (files : List ℕ → FileOf) (paths contents : List (List ℕ)) (ps : List PackageText) → ArePacked files paths contents
    → map (λ p. Ok p) ps ≡ map package_of contents → ArePackages files paths ps
packages_so files [] [] [] h e = tt
packages_so files [] [] (p ∷ ps) h e = absurd cc
packages_so files [] (c ∷ cs) ps h e = absurd h
packages_so files (path ∷ paths) [] ps h e = absurd h
packages_so files (path ∷ paths) (c ∷ cs) [] h e = absurd cc
packages_so files (path ∷ paths) (c ∷ cs) (p ∷ ps) h e = (
  record { bytes = c; held = h.0.held; is = sym (head_is (Ok p) (package_of c) (map (λ q. Ok q) ps) (map package_of cs) e) },
  packages_so files paths cs ps h.1 (tail_is (Ok p) (package_of c) (map (λ q. Ok q) ps) (map package_of cs) e),
)

-- there are such packages
a_package : (r : Result PackageText PackageFault) → IsOk r → (p : PackageText) × (r ≡ Ok p)
a_package (Ok p) h = (p, refl)
a_package (Err fault) h = absurd (let e : false ≡ true = h in cc)

pub packages_there : (files : List ℕ → FileOf) (paths contents : List (List ℕ)) → ArePacked files paths contents → (ps : List PackageText) × ArePackages files paths ps
packages_there files [] [] h = ([], tt)
packages_there files [] (c ∷ cs) h = absurd h
packages_there files (path ∷ paths) [] h = absurd h
packages_there files (path ∷ paths) (c ∷ cs) h =
    let found = a_package (package_of c) h.0.is in
    let rest = packages_there files paths cs h.1 in
    (found.0 ∷ rest.0, (record { bytes = c; held = h.0.held; is = found.1 }, rest.1))

-- the first that isn't a package
pub fails_there : (files : List ℕ → FileOf) (paths before after contents : List (List ℕ)) (path : List ℕ) (told : JobFault)
    → paths ≡ before ++ path ∷ after → ArePacked files before contents → PackageFails files path told → PackagesFail files paths told
fails_there files paths before after contents path told e h fails =
    let there = packages_there files before contents h in
    record { before = before; path = path; after = after; packages = there.0; is = e; read = there.1; fails = fails }

-- if the paths are strings
pub packed_next : (files : List ℕ → FileOf) (paths : List (String Global)) (i : ℕ) (p : String Global) (name : List ℕ) (contents after : List (Vec ℕ Global)) (more : Vec ℕ Global)
    → i < length paths → p ≡ get_or paths i p → name ≡ string_bytes p → after ≡ contents ++ more ∷ []
    → ArePacked files (map (λ q. string_bytes q) (take i paths)) (map (λ f. f.items) contents) → IsPacked (files name) more.items
    → ArePacked files (map (λ q. string_bytes q) (take (i + 1) paths)) (map (λ f. f.items) after)
packed_next files paths i p name contents after more lt is called e h k =
    let next : suc i ≡ i + 1 = omega arith in
    let taken : take (i + 1) paths ≡ take i paths ++ p ∷ [] = ap (λ n. take n paths) (sym next) ∙ take-suc paths i p lt ∙ ap (λ q. take i paths ++ q ∷ []) (sym is) in
    subst (λ qs. ArePacked files (map (λ q. string_bytes q) qs) (map (λ f. f.items) after)) (sym taken)
    (subst (λ fs. ArePacked files (map (λ q. string_bytes q) (take i paths ++ p ∷ [])) (map (λ f. f.items) fs)) (sym e)
    (subst (λ ns. ArePacked files ns (map (λ f. f.items) (contents ++ more ∷ []))) (sym (map-append (λ q. string_bytes q) (take i paths) (p ∷ [])))
    (subst (λ fs. ArePacked files (map (λ q. string_bytes q) (take i paths) ++ string_bytes p ∷ []) fs) (sym (map-append (λ f. f.items) contents (more ∷ [])))
    (packed_more files (map (λ q. string_bytes q) (take i paths)) (map (λ f. f.items) contents) (string_bytes p) more.items h (subst (λ n. IsPacked (files n) more.items) called k)))))

pub fails_at : (files : List ℕ → FileOf) (paths : List (String Global)) (i : ℕ) (p : String Global) (name : List ℕ) (contents : List (List ℕ)) (told : JobFault)
    → i < length paths → p ≡ get_or paths i p → name ≡ string_bytes p → ArePacked files (map (λ q. string_bytes q) (take i paths)) contents
    → (told ≡ faults.Memory) ⊎ PackageFails files name told → (told ≡ faults.Memory) ⊎ PackagesFail files (map (λ q. string_bytes q) paths) told
fails_at files paths i p name contents told lt is called h (inl e) = inl e
fails_at files paths i p name contents told lt is called h (inr f) =
    let split : paths ≡ take i paths ++ p ∷ drop (suc i) paths = split_at paths i p lt ∙ ap (λ q. take i paths ++ q ∷ drop (suc i) paths) (sym is) in
    inr (fails_there files (map (λ q. string_bytes q) paths) (map (λ q. string_bytes q) (take i paths)) (map (λ q. string_bytes q) (drop (suc i) paths)) contents (string_bytes p) told
    (ap (map (λ q. string_bytes q)) split ∙ map-append (λ q. string_bytes q) (take i paths) (p ∷ drop (suc i) paths)) h
    (subst (λ n. PackageFails files n told) called f))

-- the packages of a configuration that has one of this number
pub numbered_fails : (files : List ℕ → FileOf) (source : ConfigSourceOf) (number : ℕ) (config : Config) (slice : List (String Global)) (told : JobFault) → IsConfigured files source (config_seen config) → slice ≡ config.packages.items
    → 1 ≤ number → number ≤ length slice → (told ≡ faults.Memory) ⊎ PackagesFail files (map (λ q. string_bytes q) slice) told → (told ≡ faults.Memory) ⊎ NumberedSetupFails files source number told
numbered_fails files source number config slice told says is counted there (inl e) = inl e
numbered_fails files source number config slice told says is counted there (inr f) =
    inr (inr (record {
      config = config_seen config;
      says = says;
      counted = counted;
      there = subst (λ n. number ≤ n) (ap length is ∙ sym (length-map config.packages.items (λ q. string_bytes q))) there;
      fail = subst (λ xs. PackagesFail files (map (λ q. string_bytes q) xs) told) is f;
    }))

pub or_later : {A B C : Type 0} → A ⊎ B → A ⊎ (B ⊎ C)
or_later (inl a) = inl a
or_later (inr b) = inr (inl b)

-- the bytes of the files, as vectors
pub through : (fs : List (Vec ℕ Global)) → map (λ f. package_of f.items) fs ≡ map package_of (map (λ f. f.items) fs)
through [] = refl
through (f ∷ fs) = ap (λ rs. package_of f.items ∷ rs) (through fs)

each_through : (fs : List (Vec ℕ Global)) → AllByRecursion (λ b. IsOk (package_of b)) (map (λ f. f.items) fs) → AllByRecursion (λ f. IsOk (package_of f.items)) fs
each_through [] h = tt
each_through (f ∷ fs) h = (h.0, each_through fs h.1)

pub packed_slice : (files : List ℕ → FileOf) (names : List (List ℕ)) (contents slice : List (Vec ℕ Global)) → ArePacked files names (map (λ f. f.items) contents) → slice ≡ contents
    → AllByRecursion (λ f. IsOk (package_of f.items)) slice
packed_slice files names contents slice h e =
    subst (λ fs. AllByRecursion (λ f. IsOk (package_of f.items)) fs) (sym e) (each_through contents (packed_each files names (map (λ f. f.items) contents) h))

-- the packages of a configuration exist
pub named_there : (files : List ℕ → FileOf) (config : Config) (names : List (String Global)) (contents slice : List (Vec ℕ Global)) (ps : List PackageText) → names ≡ config.packages.items
    → ArePacked files (map (λ p. string_bytes p) names) (map (λ f. f.items) contents) → slice ≡ contents → map (λ p. Ok p) ps ≡ map (λ f. package_of f.items) slice
    → ArePackages files (map (λ p. string_bytes p) config.packages.items) ps
named_there files config names contents slice ps named packed same read =
    packages_so files (map (λ p. string_bytes p) config.packages.items) (map (λ f. f.items) contents) ps
    (subst (λ ns. ArePacked files (map (λ p. string_bytes p) ns) (map (λ f. f.items) contents)) named packed)
    (read ∙ ap (map (λ f. package_of f.items)) same ∙ through contents)

-- a configuration with its packages, and with the images in the stores of its devices, gives a
-- world
pub set_up : (files : List ℕ → FileOf) (source : SourceOf) (config : Config) (ps packs : List PackageText) (devices : List DeviceConfigOf) (w : WorldOf)
    → IsConfigured files source.config (config_seen config) → ArePackages files (map (λ p. string_bytes p) config.packages.items) ps
    → AreDevices source.stores (map device_of config.devices.items) devices → packs ≡ ps
    → w ≡ new_world config.agent (nodes_made config.unit config.agent.eid devices) packs → IsSetup files (chosen_source source None) w
set_up files source config ps packs devices w says are stocked lent is = record {
  config = config_seen config;
  packages = ps;
  devices = devices;
  says = says;
  are = are;
  there = tt;
  stocked = stocked;
  world = is ∙ ap (λ q. new_world config.agent (nodes_made config.unit config.agent.eid devices) q) lent;
}

-- or the store of a device can't be opened
pub stores_fail : (files : List ℕ → FileOf) (source : SourceOf) (config : Config) (ps : List PackageText) (told : JobFault) → IsConfigured files source.config (config_seen config)
    → ArePackages files (map (λ p. string_bytes p) config.packages.items) ps → (told ≡ faults.Memory) ⊎ IsSomeAnd source.stores (λ s. TellsUnopened s (map device_of config.devices.items) told)
    → (told ≡ faults.Memory) ⊎ StoresFail files source told
stores_fail files source config ps told says are (inl e) = inl e
stores_fail files source config ps told says are (inr u) = inr (record { config = config_seen config; says = says; packages = ps; are = are; unopened = u })

-- or that of a chosen device
pub chosen_stores_fail : (files : List ℕ → FileOf) (source : SourceOf) (numbers : ℕ → ℕ) (config : Config) (chosen : List DeviceConfigOf) (ps : List PackageText) (told : JobFault) → IsConfigured files source.config (config_seen config)
    → ArePackages files (map (λ p. string_bytes p) config.packages.items) ps → AreConfigured source.chosen (map device_of config.devices.items) → chosen ≡ chosen_in source.chosen (map device_of config.devices.items)
    → have_packages numbers (length (map (λ p. string_bytes p) config.packages.items)) (chosen_in source.chosen (map device_of config.devices.items)) ≡ true
    → (told ≡ faults.Memory) ⊎ IsSomeAnd source.stores (λ s. TellsUnopened s chosen told)
    → (told ≡ faults.Memory) ⊎ ChosenStoresFail files source numbers told
chosen_stores_fail files source numbers config chosen ps told says are there is numbered (inl e) = inl e
chosen_stores_fail files source numbers config chosen ps told says are there is numbered (inr u) = inr (record {
  config = config_seen config;
  says = says;
  packages = ps;
  are = are;
  there = there;
  numbered = numbered;
  unopened = subst (λ ds. IsSomeAnd source.stores (λ s. TellsUnopened s ds told)) is u;
})

-- the content of a vector that was written as a slice of its length
pub all_written : {A : Type 0} (n : ℕ) (xs ys : List A) → length ys ≡ length xs → n ≡ length xs → take n (ys ++ drop (length ys) xs) ≡ ys
all_written n xs ys long is =
    ap (λ l. take n (ys ++ l)) (drop_all (length ys) xs (omega (arith, long))) ∙ ap (take n) (append-nil ys) ∙ take_all n ys (omega (arith, long, is))

-- without a folder of stores the devices are the configured ones
pub none_stocked : (stores : List ℕ → StoresOf) (root : Option (List ℕ)) (devices : List DeviceConfigOf) → root ≡ None → AreDevices (option_map stores root) devices devices
none_stocked stores root devices e = subst (λ r. AreDevices (option_map stores r) devices devices) (sym e) refl

-- and with one they have the images in its stores
pub some_stocked : (stores : List ℕ → StoresOf) (root : Option (List ℕ)) (folder : List ℕ) (configured devices : List DeviceConfigOf) → root ≡ Some folder → HaveStoredImages (stores folder) configured devices
    → AreDevices (option_map stores root) configured devices
some_stocked stores root folder configured devices e h = subst (λ r. AreDevices (option_map stores r) configured devices) (sym e) h

pub some_unopened : (stores : List ℕ → StoresOf) (root : Option (List ℕ)) (folder : List ℕ) (configured : List DeviceConfigOf) (told : JobFault) → root ≡ Some folder
    → (told ≡ faults.Memory) ⊎ TellsUnopened (stores folder) configured told
    → (told ≡ faults.Memory) ⊎ IsSomeAnd (option_map stores root) (λ s. TellsUnopened s configured told)
some_unopened stores root folder configured told e (inl memory) = inl memory
some_unopened stores root folder configured told e (inr h) = inr (subst (λ r. IsSomeAnd (option_map stores r) (λ s. TellsUnopened s configured told)) (sym e) h)

pub told_unopened : (s : StoresOf) (devices : List DeviceConfigOf) (u : Unopened) (told : JobFault) → (told ≡ faults.Memory) ⊎ (told ≡ faults.Store u.device u.why) → IsUnopened s devices u
    → (told ≡ faults.Memory) ⊎ TellsUnopened s devices told
told_unopened s devices u told (inl e) h = inl e
told_unopened s devices u told (inr e) h = inr (subst (TellsUnopened s devices) (sym e) h)

-- the number of packages is that of their files
pub as_many : (files : List ℕ → FileOf) (paths : List (List ℕ)) (ps : List PackageText) → ArePackages files paths ps → length ps ≡ length paths
as_many files [] [] h = refl
as_many files [] (p ∷ ps) h = absurd h
as_many files (path ∷ paths) [] h = absurd h
as_many files (path ∷ paths) (p ∷ ps) h = ap suc (as_many files paths ps h.1)

pub as_named : (config : Config) → length (map (λ p. string_bytes p) config.packages.items) ≡ config.packages.len
as_named config = length-map config.packages.items (λ p. string_bytes p) ∙ sym config.packages.ok.0
