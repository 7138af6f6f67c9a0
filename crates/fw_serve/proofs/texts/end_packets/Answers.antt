use Rattle.std.proofs.Common.{◌∙◌, ◌++◌, ap, codes, sym}
use Rattle.fw_serve.proofs.Ends.{line_ends, no_packets, nothing}
use Rattle.fw_serve.proofs.texts.end_packets.Goals as goal

pub returns-in_default : goal.returns-in_default
returns-in_default c = λ sent from.
    let none = c.in_default.ensures.cases in
    c.in_ok-push_words.ensures.is ∙ ap (λ x. x ++ codes "-\n") (nothing c.pop.new.self.items (sym c.pop.new.self.ok.0 ∙ none.1))
    ∙ no_packets c.args.text.now.items sent (sym c.args.text.now.ok.0 ∙ none.0) from

pub returns : goal.returns
returns c = λ sent from. c.in_ok-push_words-2.ensures.is ∙ line_ends c.args.text.now.items c.pop.new.self.items c.in-Some.field-0 sent c.in-Some.ensures.items from
