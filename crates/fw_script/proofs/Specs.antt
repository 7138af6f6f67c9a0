-- The lines of a package description, part by part.
use Rattle.std.proofs.Common.{◌≡◌, ◌++◌, ◌∷◌, ℕ, List, [], Option, Some, None, Result, Ok, Err, ap, append_assoc, refl, sym}
use Rattle.fw_script.specs.declared.faults.ScriptCause.{ScriptCause}
use Rattle.fw_script.specs.Configs.{mapped_value}
use Rattle.fw_script.specs.SpecFields.{with_byte}

-- the bytes so far, then more bytes, if there are some
abbrev pub behind : List ℕ → Option (List ℕ) → Option (List ℕ)
behind before None = None
behind before (Some bytes) = Some (before ++ bytes)

-- one more byte
pub behind_more : (before : List ℕ) (b : ℕ) (rest : Option (List ℕ)) → behind before (with_byte (Some b) rest) ≡ behind (before ++ b ∷ []) rest
behind_more before b None = refl
behind_more before b (Some bytes) = ap Some (sym (append_assoc before (b ∷ []) bytes))

-- nothing before
pub behind_nothing : (rest : Option (List ℕ)) → behind [] rest ≡ rest
behind_nothing None = refl
behind_nothing (Some bytes) = refl

-- the same for uses
abbrev pub used_behind : List ℕ → Result (List ℕ) ScriptCause → Result (List ℕ) ScriptCause
used_behind before (Err cause) = Err cause
used_behind before (Ok uses) = Ok (before ++ uses)

pub used_more : (before : List ℕ) (k : ℕ) (rest : Result (List ℕ) ScriptCause) → used_behind before (mapped_value (λ uses. k ∷ uses) rest) ≡ used_behind (before ++ k ∷ []) rest
used_more before k (Err cause) = refl
used_more before k (Ok uses) = ap Ok (sym (append_assoc before (k ∷ []) uses))

pub used_nothing : (rest : Result (List ℕ) ScriptCause) → used_behind [] rest ≡ rest
used_nothing (Err cause) = refl
used_nothing (Ok uses) = refl
