use Rattle.std.proofs.Common.{◌≡◌, ℕ, List, Option, None, Some, refl, ap, sym}
use Rattle.uuid.specs.Text.{parsed}
use Rattle.fw_script.specs.Values.{some_or, uuid_of}
use Rattle.fw_script.specs.declared.faults.ScriptCause.TheVariants as causes
use Rattle.fw_script.proofs.values.uuid.Goals as goal

none_else : (o : Option (List ℕ)) → ((u : List ℕ) → o ≡ Some u → ⊥) → o ≡ None
none_else None h = refl
none_else (Some u) h = absurd (h u refl)

pub returns-in-Err : goal.returns-in-Err
unfolding uuid_of
returns-in-Err c =
    let unparsed : parsed c.args.word.now ≡ None = none_else (parsed c.args.word.now) (λ u e. absurd (let bad = c.in-Err.ensures.ok.1 (u, e) in cc)) in
    ap (some_or causes.Number) (sym unparsed)
