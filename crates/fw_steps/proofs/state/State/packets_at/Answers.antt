use Rattle.std.proofs.Common.{◌≡◌, ◌∙◌, ap, subst, sym}
use Rattle.std.specs.Prelude.{Some, option_map, slice_get}
use Rattle.fw_steps.specs.Sites.{sites_of}
use Rattle.fw_steps.proofs.Places.{found_at}
use Rattle.fw_steps.proofs.state.State.packets_at.Goals as goal

pub returns : goal.returns
returns g c =
    ap Some c.packets.ensures
    ∙ sym (ap (option_map (λ x. x.packets)) (subst (λ xs. slice_get xs c.args.place ≡ Some c.in_ok-site.site.now.site) (ap sites_of c.deref.ensures.value ∙ ap (λ w. w.sites) c.self.view_is)
    (found_at c.deref.result.now c.args.place c.in_ok-site.site.now c.in_ok-site.ensures.lookup.3.0 c.in_ok-site.ensures.lookup.1)))
