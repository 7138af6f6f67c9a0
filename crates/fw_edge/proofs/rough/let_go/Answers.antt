use Rattle.std.proofs.Common.{rules, ap, ◌∙◌, map}
use Rattle.std.proofs.lemmas.Fn.{filter_same}
use Rattle.fw_edge.specs.Roughening.{held_of, is_late}
use Rattle.fw_edge.proofs.Roughening.{filter_helds}
use Rattle.fw_edge.proofs.rough.let_go.Goals as goal

pub returns : goal.returns
returns c =
    ap (λ hs. map held_of hs) (filter_same _ (λ x. is_late c.args.turn (held_of x)) _ (λ x b f' k. search rules) _ _ c.retain.ensures.filtered)
    ∙ filter_helds (is_late c.args.turn) c.args.held.now.items
