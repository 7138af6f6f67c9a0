-- The beginnings that an unknown file may have.
use Rattle.std.proofs.Common.{◌≡◌, ◌≤◌, ◌<◌, ◌-◌, ◌+◌, ◌++◌, ◌∙◌, ℕ, zero, suc, List, None, Some, Option, IfSome, [], ◌∷◌, length, take, arith, ap, refl, subst, sym}
use Rattle.std.specs.List.{repeat}
use Rattle.std.proofs.lemmas.List.{length-append, take_all}
use Rattle.std.proofs.Math.Seq.{take-append_seam}
use Rattle.std.specs.Io.KnownBytes.{Consumes, IsAtEnd}
use Rattle.std.proofs.lemmas.List.{append-nil}
use Rattle.fw_package.specs.Outlines.{IsBeginning}
use Rattle.fwupd_watch.specs.Files.{MayBegin, any_file}

many : (n : ℕ) → length {A = ℕ} (repeat n (0 ∷ [])) ≡ n
many zero = refl
many (suc n) = ap suc (many n)

-- the file has no other bytes
pub may_begin_whole : (bytes : List ℕ) → length bytes ≤ 65535 → MayBegin any_file bytes (length bytes)
may_begin_whole bytes few = record { bytes = bytes; held = tt; is = record { begins = sym (take_all 65535 bytes few); long = refl } }

-- or it has others
pub may_begin_longer : (bytes : List ℕ) (size : ℕ) → length bytes ≡ 65535 → 65535 < size → MayBegin any_file bytes size
may_begin_longer bytes size is longer =
    let rest : List ℕ = repeat (size - 65535) (0 ∷ []) in
    let long : length (bytes ++ rest) ≡ size = length-append bytes rest ∙ ap (λ n. length bytes + n) (many (size - 65535)) ∙ ap (λ n. n + (size - 65535)) is ∙ omega (arith, longer) in
    record {
      bytes = bytes ++ rest;
      held = tt;
      is = record { begins = sym (ap (λ n. take n (bytes ++ rest)) (sym is) ∙ take-append_seam bytes rest); long = long };
    }

-- the first bytes of a reader, which are all
pub first_all : (before now : Option (List ℕ)) (bytes : List ℕ) (most : ℕ) → length bytes ≤ most → Consumes before now bytes → IsAtEnd now → IfSome before (λ given. bytes ≡ take most given)
first_all None now bytes most few came end = tt
first_all (Some given) None bytes most few came end = absurd came
first_all (Some given) (Some rest) bytes most few came end =
    let whole : given ≡ bytes = came ∙ ap (λ l. bytes ++ l) end ∙ append-nil bytes in
    sym (ap (take most) whole ∙ take_all most bytes few)

-- or as many as were requested
pub first_full : (before now : Option (List ℕ)) (bytes : List ℕ) (most : ℕ) → length bytes ≡ most → Consumes before now bytes → IfSome before (λ given. bytes ≡ take most given)
first_full None now bytes most full came = tt
first_full (Some given) None bytes most full came = absurd came
first_full (Some given) (Some rest) bytes most full came = sym (ap (take most) came ∙ ap (λ n. take n (bytes ++ rest)) (sym full) ∙ take-append_seam bytes rest)

-- the beginning of a reader's bytes, of which all are read
pub whole_beginning : (before : Option (List ℕ)) (bytes beginning : List ℕ) (file_length : ℕ) → IfSome before (λ given. bytes ≡ given) → IsBeginning bytes beginning file_length → IfSome before (λ given. IsBeginning given beginning file_length)
whole_beginning None bytes beginning file_length all begins = tt
whole_beginning (Some given) bytes beginning file_length all begins = subst (λ file. IsBeginning file beginning file_length) all begins
