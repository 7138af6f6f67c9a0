-- What is written of a frame.
use Rattle.std.proofs.Common.{ℕ, List, Option, None, Some, ◌+◌, ◌-◌, length, take, drop, sym, ◌∙◌, subst, take-add}
use Rattle.std.proofs.KnownBytes.{Appends-trans}
use Rattle.std.proofs.lemmas.List.{take_rest}
use Rattle.std.specs.Io.KnownBytes.{Appends, Keeps}

-- a write writes more of it
pub writes_more : (a b c : Option (List ℕ)) (frame : List ℕ) (at n : ℕ)
    → Appends a b (take at frame) → Appends b c (take n (take (length frame - at) (drop at frame)))
    → Appends a c (take (at + n) frame)
writes_more a b c frame at n before now =
    subst (Appends a c) (sym (take-add at n frame))
    (Appends-trans a b c (take at frame) (take n (drop at frame)) before
    (subst (λ l. Appends b c (take n l)) (take_rest frame at) now))

-- a write writes nothing
pub writes_kept : (a b c : Option (List ℕ)) (frame : List ℕ) (at : ℕ)
    → Appends a b (take at frame) → Keeps b c → Appends a c (take at frame)
writes_kept None b c frame at before kept = tt
writes_kept (Some x) None c frame at before kept = absurd before
writes_kept (Some x) (Some y) None frame at before kept = absurd kept
writes_kept (Some x) (Some y) (Some z) frame at before kept = kept ∙ before
