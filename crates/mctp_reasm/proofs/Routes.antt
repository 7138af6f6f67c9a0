-- The packets that an inbox holds stay on its routes.
use Rattle.std.proofs.Common.{◌≡◌, ◌+◌, ℕ, zero, suc, Bool, true, false, not, ◌&&◌, ◌∙◌, if◌then◌else◌, List, [], ◌∷◌, ◌++◌, ◌==◌, map, get_or, slice_set, Option, Some, None, refl, sym, arith, inl, inr}
use Rattle.mctp_wire.specs.declared.unit.Unit.{«Unit»}
use Rattle.std.proofs.lemmas.Bool.Decides.{eqb_tells}
use Rattle.std.proofs.lemmas.List.{length-map, length-set}
use Rattle.mctp_wire.specs.declared.layout.Head.{Head}
use Rattle.mctp_reasm.specs.Held.{Held, IsOfHeldMessage, held_after, held_as, held_tick, packets_of, cause_of, packets_with}
use Rattle.mctp_reasm.specs.declared.outcomes.DropCause.{DropCause}
use Rattle.mctp_reasm.specs.Pieces.{PacketOf, Route, route_of}
use Rattle.mctp_reasm.specs.Inboxes.{AreOnRoutes, IsInbox, IsOnRoute, held_at, held_with, inbox_route, is_for}

-- one place
on_aged : (r : Route) (h : Held) (b : Bool) → IsOnRoute r h.packets → IsOnRoute r (packets_of (if b then None else Some (record h { age = h.age + 1 })))
on_aged r h true k = tt
on_aged r h false k = k

on_tick : (r : Route) (h : Option Held) → IsOnRoute r (packets_of h) → IsOnRoute r (packets_of (held_tick h))
on_tick r None k = tt
on_tick r (Some h) k = on_aged r h (h.age == 8) k

on_as : (r : Route) (cause : Option DropCause) (last : Bool) (ps : List PacketOf) → IsOnRoute r ps → IsOnRoute r (packets_of (held_as cause last ps))
on_as r None false ps k = k
on_as r None true ps k = tt
on_as r (Some cause) last ps k = tt

on_more : (r : Route) (ps : List PacketOf) (p : PacketOf) → route_of p.head ≡ r → IsOnRoute r ps → IsOnRoute r (ps ++ p ∷ [])
on_more r [] p same k = same
on_more r (q ∷ qs) p same k = k

on_joined : (r : Route) (som : Bool) (ps : List PacketOf) (p : PacketOf) → route_of p.head ≡ r → IsOnRoute r ps → IsOnRoute r ((if som then [] else ps) ++ p ∷ [])
on_joined r true ps p same k = same
on_joined r false ps p same k = on_more r ps p same k

on_after : (u : «Unit») (r : Route) (h : Option Held) (p : PacketOf) → route_of p.head ≡ r → IsOnRoute r (packets_of h) → IsOnRoute r (packets_of (held_after u h p))
on_after u r h p same k = on_as r (cause_of u h p) p.head.eom (packets_with h p) (on_joined r p.head.som (packets_of h) p same k)

-- all places
pub routes_tick : (own peer : ℕ) (to : Bool) (tag : ℕ) (hs : List (Option Held)) → AreOnRoutes own peer to tag hs → AreOnRoutes own peer to tag (map held_tick hs)
routes_tick own peer to tag [] k = tt
routes_tick own peer to tag (h ∷ hs) k = (on_tick (inbox_route own peer to tag) h k.0, routes_tick own peer to (tag + 1) hs k.1)

routes_at : (own peer : ℕ) (to : Bool) (tag i : ℕ) (hs : List (Option Held)) → AreOnRoutes own peer to tag hs → IsOnRoute (inbox_route own peer to (tag + i)) (packets_of (get_or hs i None))
routes_at own peer to tag i [] k = tt
routes_at own peer to tag zero (h ∷ hs) k = let same : tag + zero ≡ tag = omega arith in rw same k.0
routes_at own peer to tag (suc i) (h ∷ hs) k = let same : tag + suc i ≡ tag + 1 + i = omega arith in rw same (routes_at own peer to (tag + 1) i hs k.1)

routes_set : (own peer : ℕ) (to : Bool) (tag i : ℕ) (hs : List (Option Held)) (h : Option Held) → AreOnRoutes own peer to tag hs → IsOnRoute (inbox_route own peer to (tag + i)) (packets_of h) → AreOnRoutes own peer to tag (slice_set hs i h)
routes_set own peer to tag i [] h k on = tt
routes_set own peer to tag zero (g ∷ hs) h k on = let same : tag + zero ≡ tag = omega arith in ((rw same at on), k.1)
routes_set own peer to tag (suc i) (g ∷ hs) h k on = let same : tag + suc i ≡ tag + 1 + i = omega arith in (k.0, routes_set own peer to (tag + 1) i hs h k.1 (rw same at on))

-- a packet for an end is on the route of its tag
route_by : (d own s peer tag : ℕ) (t to : Bool) → d ≡ own → s ≡ peer → t ≡ to → record { dest = d; source = s; to = t; tag = tag } ≡ inbox_route own peer to tag
route_by d own s peer tag t to same_dest same_source same_to = rw (same_dest, same_source, same_to) refl

first_holds : (a b : Bool) → (a && b) ≡ true → a ≡ true
first_holds true b e = refl
first_holds false b e = e

second_holds : (a b : Bool) → (a && b) ≡ true → b ≡ true
second_holds true b e = e
second_holds false b e = absurd (cc)

same_to : (t to : Bool) → (if to then t else not t) ≡ true → t ≡ to
same_to true true e = refl
same_to false false e = refl
same_to true false e = absurd (cc)
same_to false true e = absurd (cc)

equal_by : (a b : ℕ) → (a == b) ≡ true → a ≡ b
equal_by a b e = elim (eqb_tells a b) [ inl same ↦ same.1 | inr other ↦ absurd (cc) ]

for_route : (own peer : ℕ) (to : Bool) (h : Head) → is_for own peer to h ≡ true → route_of h ≡ inbox_route own peer to h.tag
for_route own peer to h e =
    let outer : ((h.dest == own) && (h.source == peer)) ≡ true = first_holds ((h.dest == own) && (h.source == peer)) (if to then h.to else not h.to) e in
    route_by h.dest own h.source peer h.tag h.to to
    (equal_by h.dest own (first_holds (h.dest == own) (h.source == peer) outer))
    (equal_by h.source peer (second_holds (h.dest == own) (h.source == peer) outer))
    (same_to h.to to (second_holds ((h.dest == own) && (h.source == peer)) (if to then h.to else not h.to) e))

of_same : (ps : List PacketOf) (h : Head) (r : Route) → route_of h ≡ r → IsOnRoute r ps → IsOfHeldMessage ps h
of_same [] h r e on = tt
of_same (q ∷ qs) h r e on = on ∙ sym e

-- an inbox
routes_here : (own peer : ℕ) (to : Bool) (tag : ℕ) (hs : List (Option Held)) → AreOnRoutes own peer to 0 hs → IsOnRoute (inbox_route own peer to tag) (packets_of (held_at hs tag))
routes_here own peer to tag hs k = let same : 0 + tag ≡ tag = omega arith in rw same at (routes_at own peer to 0 tag hs k)

pub inbox_tick : (u : «Unit») (own peer : ℕ) (to : Bool) (hs gs : List (Option Held)) → gs ≡ map held_tick hs
    → IsInbox (record { unit = u; own = own; peer = peer; to = to; held = hs }) → IsInbox (record { unit = u; own = own; peer = peer; to = to; held = gs })
inbox_tick u own peer to hs gs e k = rw e (record {
  places = length-map hs held_tick ∙ k.places;
  routes = routes_tick own peer to 0 hs k.routes;
})

pub inbox_same : (own peer : ℕ) (to : Bool) (hs : List (Option Held)) (h : Head) → AreOnRoutes own peer to 0 hs → is_for own peer to h ≡ true
    → IsOfHeldMessage (packets_of (held_at hs h.tag)) h
inbox_same own peer to hs h k e =
    of_same (packets_of (held_at hs h.tag)) h (inbox_route own peer to h.tag) (for_route own peer to h e) (routes_here own peer to h.tag hs k)

pub inbox_with : (u : «Unit») (own peer : ℕ) (to : Bool) (hs gs : List (Option Held)) (p : PacketOf) → gs ≡ held_with u hs p
    → IsInbox (record { unit = u; own = own; peer = peer; to = to; held = hs }) → is_for own peer to p.head ≡ true → IsInbox (record { unit = u; own = own; peer = peer; to = to; held = gs })
inbox_with u own peer to hs gs p same k e = rw same (record {
  places = length-set hs p.head.tag (held_after u (held_at hs p.head.tag) p) ∙ k.places;
  routes =
      let zero_more : 0 + p.head.tag ≡ p.head.tag = omega arith in
      routes_set own peer to 0 p.head.tag hs (held_after u (held_at hs p.head.tag) p) k.routes
      (rw zero_more (on_after u (inbox_route own peer to p.head.tag) (held_at hs p.head.tag) p (for_route own peer to p.head e)
      (routes_here own peer to p.head.tag hs k.routes)));
})

pub ruleset routes = (inbox_tick, inbox_same, inbox_with)
