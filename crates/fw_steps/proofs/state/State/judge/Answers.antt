-- A verdict on the image that the device at a place has written.
use Rattle.std.proofs.Common.{◌∙◌, refl, sym}
use Rattle.std.proofs.lemmas.List.{with_items_is}
use Rattle.fw_steps.proofs.Leading.{verdict_leads}
use Rattle.fw_steps.proofs.state.State.judge.Goals as goal

pub returns-clause-taken : goal.returns-clause-taken
returns-clause-taken g c =
    let whole = with_items_is c.self.inside.sites c.judge_at.new.sites (c.judge_at.ensures.count ∙ c.as_mut_slice.ensures.len) in
    let at = sym (rw c.as_slice.ensures.value at c.in-Some.ensures.place) in
    rw (sym c.self.view_is) (verdict_leads _ _ c.args.device c.args.verdict (rw at (rw c.as_mut_slice.ensures.value at c.in-Ok.ensures.may)) (record {
      place = c.in-Some.place;
      at = at;
      judged = rw whole (rw c.as_mut_slice.ensures.value at c.in-Ok.ensures.judged);
      rest = refl;
    }))
