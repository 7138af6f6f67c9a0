use Rattle.std.proofs.Common.{rules, ◌≡◌, ◌<◌, Some, length, map, refl, sym}
use Rattle.std.specs.Prelude.{slice_get}
use Rattle.std.proofs.lemmas.Option.{slice_get_read}
use Rattle.fw_message.specs.Replays.{place_at}
use Rattle.fw_message.proofs.Finding.{found_at}
use Rattle.fw_message.proofs.messages.pair_of.Goals as goal

pub returns : goal.returns
returns g c =
    let at : place_at (map (λ p. p.node) c.args.pairs.now) c.args.eid ≡ Some c.in-Some.place = search rules in
    let lt : c.in-Some.place < length c.args.pairs.now = search rules in
    let found : slice_get c.args.pairs.now c.in-Some.place ≡ Some c.index-pairs-place.result =
    slice_get_read c.args.pairs.now (length c.args.pairs.now) c.in-Some.place c.index-pairs-place.result refl lt c.index-pairs-place.is in
    sym (found_at c.args.pairs.now c.args.eid c.in-Some.place c.index-pairs-place.result at found)
