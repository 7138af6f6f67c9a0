use Rattle.std.proofs.Common.{arith}
use Rattle.std.proofs.lemmas.Bool.{ne_eqb}
use Rattle.fw_text.proofs.Chains.{adds_more, adds_none}
use Rattle.fw_script.specs.ScheduleTexts.{ticks_text}
use Rattle.fw_script.proofs.step_text.push_ticks.Goals as goal

pub returns-then-count-eq0 : goal.returns-then-count-eq0
unfolding ticks_text
returns-then-count-eq0 c = rw c.if-count-eq0.true (adds_none c.args.text.now.items)

pub returns : goal.returns
unfolding ticks_text
returns c =
    rw (ne_eqb c.args.count 0 (λ e. absurd (let other = c.if-count-eq0.false in omega arith)))
    (adds_more c.in_ok-push_tick_words.ensures c.in_ok-push_words.ensures)
