-- The number of bytes of the parameters of components.
use Rattle.std.proofs.Common.{[], ◌+◌, ◌++◌, ◌∙◌, ◌∷◌, ◌≡◌, List, ap, append-nil, arith, length, ℕ}
use Rattle.std.proofs.lemmas.List.{length-append}
use Rattle.fwup_wire.specs.Items.{items_bytes}
use Rattle.fwup_wire.specs.Parameters.{all_parameters_bytes, parameters_bytes, parameters_size}
use Rattle.fwup_wire.specs.Values.{ParametersOf}

size_of : (p : ParametersOf) → length (parameters_bytes p) ≡ parameters_size p
size_of p = rw (length-append p.active.text.bytes p.pending.text.bytes) (omega arith)

one_more : {A : Type 0} (spelling : A → List ℕ) (items : List A) (a : A)
    → length (items_bytes spelling (items ++ a ∷ [])) ≡ length (items_bytes spelling items) + length (spelling a)
one_more spelling [] a = rw (append-nil (spelling a)) (omega arith)
one_more spelling (b ∷ items) a =
    rw (length-append (spelling b) (items_bytes spelling (items ++ a ∷ [])), length-append (spelling b) (items_bytes spelling items), one_more spelling items a)
    (omega arith)

-- one component more
pub one_longer : (ps : List ParametersOf) (p : ParametersOf)
    → length (all_parameters_bytes (ps ++ p ∷ [])) ≡ length (all_parameters_bytes ps) + parameters_size p
one_longer ps p = one_more parameters_bytes ps p ∙ ap (λ n. length (all_parameters_bytes ps) + n) (size_of p)
