-- A file that is synced to the disk and then renamed is whole at its place.
use Rattle.std.proofs.Common.{◌≡◌, ◌++◌, ◌∙◌, List, [], Option, None, Some, ap, ℕ}
use Rattle.std.specs.Io.KnownBytes.{Appends, Keeps}
use Rattle.fwupd_watch.specs.Places.{IsOnDisk}

-- its content is unchanged by the sync, and is on the disk
pub put_so : (before now on_disk held lasting : Option (List ℕ)) → Keeps before now → on_disk ≡ now → held ≡ now → lasting ≡ on_disk → IsOnDisk before held lasting
put_so None now on_disk held lasting k d h l = tt
put_so (Some xs) None on_disk held lasting k d h l = absurd k
put_so (Some xs) (Some ys) on_disk held lasting k d h l = (h ∙ ap Some k, l ∙ d ∙ ap Some k)

-- all bytes that were written to an empty file
pub put_all : (empty written held lasting : Option (List ℕ)) (bytes : List ℕ) → empty ≡ Some [] → Appends empty written bytes → IsOnDisk written held lasting
    → (held ≡ Some bytes) × (lasting ≡ Some bytes)
put_all None written held lasting bytes e a p = absurd (cc)
put_all (Some xs) None held lasting bytes e a p = absurd a
put_all (Some xs) (Some ys) held lasting bytes e a p =
    let none : xs ≡ [] = cc in
    let all : ys ≡ bytes = a ∙ ap (λ zs. zs ++ bytes) none in
    (p.0 ∙ ap Some all, p.1 ∙ ap Some all)
