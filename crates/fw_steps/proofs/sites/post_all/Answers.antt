use Rattle.std.proofs.Common.{◌≡◌, ◌∙◌, ◌+◌, ◌∷◌, ap, arith, length, refl, subst, sym}
use Rattle.fw_steps.specs.Sites.{HaveRoom, sites_of}
use Rattle.fw_steps.specs.Worlds.{posts}
use Rattle.fw_steps.proofs.Places.{less_room, popped}
use Rattle.fw_steps.proofs.sites.post_all.Goals as goal

pub loop-packet-init : goal.loop-packet-init
loop-packet-init g c = record {
  sites = refl;
  room = less_room (64 + length c.args.outbox.now) 128 c.args.sites.now (omega (arith, c.requires.few)) c.requires.room;
  count = refl;
}

pub post-requires : goal.post-requires
post-requires g c = less_room 1 (64 + length c.loop-packet.outbox) c.loop-packet.sites (omega arith) c.loop-packet.invariant.room

pub loop-packet-preserved : goal.loop-packet-preserved
loop-packet-preserved g c =
    let now = c.args.now in
    let is = popped c.loop-packet.outbox c.in-Some.packet.items c.in-Some.ensures.packet ∙ ap (λ rest. c.in-Some.packet.items ∷ rest) (sym c.pop.ensures.rest) in
    let long : length c.loop-packet.outbox ≡ length c.pop.new.self + 1 = ap length is ∙ omega arith in
    let count : 64 + length c.loop-packet.outbox ≡ 64 + length c.pop.new.self + 1 = omega (arith, long) in
    record {
      sites = ap (λ xs. posts now xs c.pop.new.self) c.post.ensures.sites ∙ sym (ap (posts now (sites_of c.loop-packet.sites)) is) ∙ c.loop-packet.invariant.sites;
      room = c.post.ensures.room (64 + length c.pop.new.self) (subst (λ n. HaveRoom n c.loop-packet.sites) count c.loop-packet.invariant.room);
      count = c.post.ensures.count ∙ c.loop-packet.invariant.count;
    }

pub returns-clause-room : goal.returns-clause-room
returns-clause-room g c = less_room 64 (64 + length c.loop-packet.outbox) c.loop-packet.sites (omega arith) c.loop-packet.invariant.room
