use Rattle.std.proofs.Common.{◌≡◌, ℕ, Bool, true, false, List, Ok, Err, refl, ap, ◌∙◌, sym}
use Rattle.std.specs.Str.{IsUtf8, is_utf8}
use Rattle.std.proofs.lemmas.Str.{IsUtf8-from_is_utf8, is_utf8-from_IsUtf8}
use Rattle.fw_script.specs.Configs.{path_of}
use Rattle.fw_script.specs.declared.faults.ScriptCause.TheVariants as causes
use Rattle.fw_script.proofs.draft.path_text.Goals as goal

-- a text is a path
is_path : (word : List ℕ) → IsUtf8 word → path_of word ≡ Ok word
unfolding path_of
is_path word h = rw (is_utf8-from_IsUtf8 word h) refl

-- other bytes are not
by_test : (word : List ℕ) (b : Bool) → is_utf8 word ≡ b → ¬ (IsUtf8 word) → path_of word ≡ Err causes.Number
unfolding path_of
by_test word true e h = absurd (h (IsUtf8-from_is_utf8 word e))
by_test word false e h = rw e refl

pub returns-in-Ok : goal.returns-in-Ok
returns-in-Ok c = sym (is_path c.args.word.now c.in-Ok.ensures.cases.1 ∙ ap Ok (sym c.in-Ok.ensures.cases.0))

pub returns-in-Err : goal.returns-in-Err
returns-in-Err c = sym (by_test c.args.word.now (is_utf8 c.args.word.now) refl c.in-Err.ensures.cases.0)
