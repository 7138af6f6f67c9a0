use Rattle.std.proofs.Common.{◌∙◌, ap, arith, get_or, sym}
use Rattle.fw_steps.specs.Sites.{sites_of}
use Rattle.fw_steps.specs.Worlds.{place_for}
use Rattle.fw_steps.proofs.Places.{less_room, post_there, room_at, room_less}
use Rattle.fw_steps.proofs.sites.post.Goals as goal

pub returns-in_default-clause-room : goal.returns-in_default-clause-room
returns-in_default-clause-room g c = λ n h. less_room n _ c.args.sites.now (omega arith) h

pub post-requires : goal.post-requires
post-requires g c =
    room_at 1 c.args.sites.now c.in-Some.place (get_or c.args.sites.now c.in-Some.place c.index-sites-place.result) c.in-Some.ensures.within
    (ap (get_or c.args.sites.now c.in-Some.place) c.index-sites-place.is) c.requires

pub returns-clause-sites : goal.returns-clause-sites
returns-clause-sites g c =
    post_there c.args.now c.args.sites.now c.args.packet.items c.in-Some.place (get_or c.args.sites.now c.in-Some.place c.index-sites-place.result) c.post.new.self
    (ap (place_for (sites_of c.args.sites.now)) (sym c.as_slice.ensures.value) ∙ sym c.in-Some.ensures.place) c.in-Some.ensures.within
    (ap (get_or c.args.sites.now c.in-Some.place) c.index-sites-place.is) c.post.ensures.site

pub returns-clause-room : goal.returns-clause-room
returns-clause-room g c = λ n h.
    room_less n c.args.sites.now c.in-Some.place (get_or c.args.sites.now c.in-Some.place c.index-sites-place.result) c.post.new.self c.in-Some.ensures.within
    (ap (get_or c.args.sites.now c.in-Some.place) c.index-sites-place.is) c.post.ensures.room h
