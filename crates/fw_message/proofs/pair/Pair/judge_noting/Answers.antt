use Rattle.std.proofs.Common.{rules, ◌≡◌, ◌≤◌, Some, length, map, sym, true}
use Rattle.std.specs.Prelude.{IfSome, option_to_list, vec_capacity}
use Rattle.fd_core.specs.States.{IsWhole, staged_of}
use Rattle.fd_core.specs.declared.states.Verdict.TheVariants as verdicts
use Rattle.fw_message.specs.Entries.{keyed_image_of}
use Rattle.fd_core.specs.Components.{HasComponents}
use Rattle.fw_message.proofs.Noting.{noting}
use Rattle.fw_message.proofs.pair.Pair.judge_noting.Goals as goal

pub returns-clause-step : goal.returns-clause-step
returns-clause-step g c =
    let ok : c.args.verdict ≡ verdicts.ApplyOk = search rules in
    let works : c.in_ok-works.works ≡ true = search rules in
    let h : HasComponents c.args.self.now.node.pair.device = rw (sym c.self.view_is) c.self.invariant in
    let whole : IsWhole c.args.self.now.node.pair.device.phase (length c.args.self.now.node.pair.device.stage) = rw (sym c.self.view_is) c.staged-staged.ensures.whole in
    let staged : staged_of c.args.self.now.node.pair.device.phase ≡ Some (c.in-Some.key, c.in-Some.field-0-1) = search rules in
    let fits : IfSome (staged_of c.args.self.now.node.pair.device.phase) (λ s. s.1 ≤ vec_capacity c.args.room) = c.requires.room ok in
    let room : c.in-Some.field-0-1 ≤ vec_capacity c.args.room = rw staged at fits in
    rw (ok, works)
    (noting c.args.packages.now c.args.self.now.node.pair c.judge.new.self.node.pair c.in-Some.key c.in-Some.field-0-1 (vec_capacity c.args.room)
    (map keyed_image_of (option_to_list c.copied.result)) h whole staged room (rw (ok, works) at c.in_ok-works.ensures.step)
    (rw (sym c.self-2.view_is, sym c.bank.ensures.rows) c.copied.ensures.whole))
