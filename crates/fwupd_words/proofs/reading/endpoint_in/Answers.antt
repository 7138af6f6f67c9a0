use Rattle.std.proofs.Common.{◌≡◌, ◌∙◌, sym, ap, inr, true≢false, None}
use Rattle.uuid.specs.Text.{parsed}
use Rattle.fwupd_words.proofs.Given.{none_of}
use Rattle.fwupd_words.proofs.reading.endpoint_in.Goals as goal

pub returns-in_ok-refusal-in-Err-clause-refused : goal.returns-in_ok-refusal-in-Err-clause-refused
returns-in_ok-refusal-in-Err-clause-refused c =
    let no : parsed c.text_under-text.result.now ≡ None = none_of _ (λ u is. true≢false (sym (c.in-Err.ensures.ok.1 (u, is)))) in
    inr (inr (c.in_ok-refusal-in-Err.ensures, ap parsed (sym c.text_under-text.ensures) ∙ no))
