use Rattle.std.proofs.Common.{◌≡◌, ◌≤◌, ◌∙◌, ◌++◌, IfSome, length, map, ap, option_to_list, subst, sym}
use Rattle.std.specs.Vec.{vec_capacity}
use Rattle.fd_core.specs.Components.{HasComponents}
use Rattle.fd_core.specs.States.{IsWhole, staged_of}
use Rattle.fw_message.specs.Entries.{entry_of, keyed_image_of}
use Rattle.fw_message.specs.Headline.{EntryOf}
use Rattle.fw_message.specs.Worlds.{noted_of}
use Rattle.fw_serve.proofs.Notes.{application_noted, failure_noted}
use Rattle.fw_serve.proofs.noting.NotingDevice.judge_noting.Goals as goal

pub returns-then-has_failed : goal.returns-then-has_failed
returns-then-has_failed g c =
    failure_noted c.args.self.now c.judge_now.new.self c.args.verdict (map entry_of c.args.history.now.items) c.in-ApplyOk.is c.judge_now.ensures.judged c.judge_now.ensures.tid c.judge_now.ensures.endpoint
    (sym c.has_failed.ensures ∙ c.if-has_failed.true)

pub returns : goal.returns
returns g c =
    let device : c.device.result.now.device ≡ c.args.self.now.half.core.device =
    ap (λ t. t.device) c.device.ensures.device ∙ ap (λ s. s.half.core.device) c.self.view_is in
    let staged : c.staged-staged.result ≡ staged_of c.args.self.now.half.core.device.phase =
    c.staged-staged.ensures.staged ∙ ap (λ v. staged_of v.phase) device in
    application_noted c.args.self.now c.judge_now.new.self c.args.verdict (map entry_of c.args.history.now.items) _ c.staged-staged.result (vec_capacity c.args.room)
    (map keyed_image_of (option_to_list c.applied-image.result))
    c.in-ApplyOk.is
    c.judge_now.ensures.judged
    c.judge_now.ensures.tid
    c.judge_now.ensures.endpoint
    (subst HasComponents (ap (λ s. s.half.core.device) c.self.view_is) c.self.invariant.0)
    (subst (λ v. IsWhole v.phase (length v.stage)) device c.staged-staged.ensures.whole)
    staged
    (subst (λ s. IfSome s (λ s. s.1 ≤ vec_capacity c.args.room)) (sym staged) (c.requires.room c.in-ApplyOk.is))
    (sym c.has_failed.ensures ∙ c.if-has_failed.false)
    c.applied-image.ensures
    (c.note_applied.ensures
    ∙ ap (λ d. map entry_of c.args.history.now.items ++ map (λ p. noted_of d (EntryOf.Applied p)) (map keyed_image_of (option_to_list c.applied-image.result)))
    (c.eid.ensures ∙ ap (λ e. e.eid) c.judge_now.ensures.endpoint))
