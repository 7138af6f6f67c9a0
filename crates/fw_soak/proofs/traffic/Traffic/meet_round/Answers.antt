use Rattle.std.proofs.Common.{◌≡◌, ◌∙◌, ◌||◌, ap, arith, false, length, refl, sym}
use Rattle.fw_soak.specs.Turns.{MeetsPlace, soaking}
use Rattle.fw_soak.proofs.Coursing.{goes_none, goes_on}
use Rattle.fw_soak.proofs.Placing.{each_all, each_more}
use Rattle.fw_soak.proofs.traffic.Traffic.meet_round.Goals as goal
use Rattle.fw_soak.proofs.traffic.Traffic.meet_round.Goals.{then-any, else-any}

pub loop-place-init : goal.loop-place-init
loop-place-init c = record { goes = goes_none c.args.course.now; each = refl }

pub loop-place-preserved : goal.loop-place-preserved
loop-place-preserved c =
    let any : c.if-any.any ≡ (c.loop-place.any || c.in-Ok.here) = elim c.if-any.branch [
      | then-any w ↦ w.any-is ∙ w.if-any.true ∙ sym (ap (λ b. b || c.in-Ok.here) w.if-any.true)
      | else-any w ↦ w.any-is ∙ sym (ap (λ b. b || c.in-Ok.here) w.if-any.false)
    ] in
    record {
      goes = goes_on c.args.course.now c.loop-place.course c.meet_next.new.course c.loop-place.invariant.goes c.meet_next.ensures.goes;
      each =
          each_more MeetsPlace c.loop-place.place (record { any = false; soaking = soaking c.args.course.now c.args.self.now c.args.chances.now })
          (record { any = c.loop-place.any; soaking = soaking c.loop-place.course c.loop-place.self c.loop-place.chances })
          (record { any = c.if-any.any; soaking = soaking c.meet_next.new.course c.meet_next.new.self c.meet_next.new.chances }) c.loop-place.invariant.each
          (record { here = c.in-Ok.here; meets = c.in-Ok.ensures.next; any = any });
    }

pub returns-clause-round : goal.returns-clause-round
returns-clause-round c =
    each_all MeetsPlace c.loop-place.place (length c.args.self.now.met.items) (record { any = false; soaking = soaking c.args.course.now c.args.self.now c.args.chances.now })
    (record { any = c.loop-place.any; soaking = soaking c.loop-place.course c.loop-place.self c.loop-place.chances })
    (let count : c.len-place-end.result ≡ length c.args.self.now.met.items = c.len-place-end.ensures ∙ c.args.self.now.met.ok.0 in omega (arith, c.loop-place-test.false, c.loop-place.auto.place-end, count)) c.loop-place.invariant.each
