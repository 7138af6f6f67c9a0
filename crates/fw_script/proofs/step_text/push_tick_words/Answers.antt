use Rattle.std.proofs.Common.{arith}
use Rattle.std.proofs.lemmas.Bool.{ne_eqb}
use Rattle.fw_script.proofs.Spelling.{said_name, said_one}
use Rattle.fw_script.proofs.step_text.push_tick_words.Goals as goal

pub returns-then-count-eq1 : goal.returns-then-count-eq1
returns-then-count-eq1 c = rw c.if-count-eq1.true (said_name c.in_ok-push_words.ensures)

pub returns : goal.returns
returns c =
    rw (ne_eqb c.args.count 1 (λ e. absurd (let other = c.if-count-eq1.false in omega arith)))
    (said_one c.in_ok-push_words.ensures (rw c.from.ensures at c.in_ok-push_place.ensures))
