-- A device handles a packet: its place has the changed device, or nothing has changed.
use Rattle.std.proofs.Common.{◌∙◌, ap, refl, sym}
use Rattle.std.proofs.lemmas.List.{with_items_is}
use Rattle.fw_steps.specs.Sites.{sites_of}
use Rattle.fw_steps.proofs.state.State.deliver_to_device.Goals as goal
use Rattle.fw_steps.proofs.state.State.deliver_to_device.Goals.{in-Ok, in-Err}

pub returns-clause-heard : goal.returns-clause-heard
returns-clause-heard g c =
    let whole = with_items_is c.self.inside.sites c.deliver_at.new.sites (c.deliver_at.ensures.count ∙ c.as_mut_slice.ensures.len) in
    elim c.match-deliver_at.branch [
      | in-Ok w ↦ rw w.result-is (rw (sym c.self.view_is) (record {
        place = c.in-Some.place;
        at = sym (rw c.as_slice.ensures.value at c.in-Some.ensures.place);
        heard = rw whole (rw c.as_mut_slice.ensures.value at w.in-Ok.ensures.heard);
        rest = refl;
      }))
      | in-Err w ↦ rw w.result-is tt
    ]

pub returns-clause-same : goal.returns-clause-same
returns-clause-same g c =
    let whole = with_items_is c.self.inside.sites c.deliver_at.new.sites (c.deliver_at.ensures.count ∙ c.as_mut_slice.ensures.len) in
    elim c.match-deliver_at.branch [
      | in-Ok w ↦ rw w.result-is tt
      | in-Err w ↦ rw w.result-is (rw whole (rw (w.in-Err.ensures.same ∙ ap sites_of c.as_mut_slice.ensures.value) (rw w.in-Err.ensures.unnoted c.self.view_is)))
    ]
