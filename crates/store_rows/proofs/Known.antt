-- A component with an active image exists.
use Rattle.std.proofs.Common.{◌≡◌, IsSome, None, Option, Some, is_some, refl, true}
use Rattle.fd_core.specs.Images.{RowOf, active_of}

pub known : (r : Option RowOf) → is_some (active_of r) ≡ true → IsSome r
known None is = absurd (cc)
known (Some row) is = refl
