-- The facts about packets over time.
use Rattle.std.proofs.Common.{◌≡◌, ◌∙◌, ◌+◌, ◌≤◌, ◌<◌, ◌++◌, ℕ, List, Option, Some, None, IfSome, IsSomeAnd, inl, inr, refl, ap, arith}
use Rattle.mctp_wire.specs.declared.unit.Unit.{«Unit»}
use Rattle.std.specs.List.{AllByRecursion}
use Rattle.std.proofs.lemmas.Bool.Decides.{eqb_tells}
use Rattle.mctp_reasm.specs.Pieces.{MessageOf, pieces, spelling_of}
use Rattle.exch_lane.specs.Lanes.{Sent}
use Rattle.exch_lane.specs.Steps.{packets_of_message, sent_at}
use Rattle.exch_lane.proofs.Ghosts.{IsLiving, IsOfExchange, IsPacketOf, put}
use Rattle.exch_lane.proofs.Lifts.{all_append, all_made, all_maps}
use Rattle.exch_lane.proofs.Views.{Ends, Exchange, reply_of, request_of}

-- an exchange whose request was sent again, or answered
abbrev pub grown : ℕ → Option (List ℕ) → Exchange → Exchange
grown last reply e = record e { last = last; reply = reply }

-- a reply that was given stays
abbrev pub Keeps : Exchange → Option (List ℕ) → Type 0
Keeps e reply = (r : List ℕ) → e.reply ≡ Some r → reply ≡ Some r

reply_grows : (x : Ends) (e : Exchange) (s : Sent) (last : ℕ) (reply o : Option (List ℕ)) → e.reply ≡ o → e.last ≤ last → Keeps e reply
    → IsSomeAnd o (λ r. IsPacketOf x.unit (reply_of x e r) s.bytes × (s.date ≤ e.last + 8))
    → IsSomeAnd reply (λ r. IsPacketOf x.unit (reply_of x (grown last reply e) r) s.bytes × (s.date ≤ last + 8))
reply_grows x e s last reply None is le same h = absurd h
reply_grows x e s last reply (Some r) is le same h = rw (same r is) (h.0, omega (arith, h.1))

of_grows : (x : Ends) (e : Exchange) (s : Sent) (last : ℕ) (reply : Option (List ℕ)) → e.last ≤ last → Keeps e reply → IsOfExchange x e s
    → IsOfExchange x (grown last reply e) s
of_grows x e s last reply le same (inl h) = inl (h.0, omega (arith, h.1))
of_grows x e s last reply le same (inr h) = inr (reply_grows x e s last reply e.reply refl le same h)

living_grows : (u : «Unit») (now a b : ℕ) (exchanges : ℕ → Option Exchange) (tag : ℕ) (e : Exchange) (last : ℕ) (reply : Option (List ℕ)) (s : Sent)
    → exchanges tag ≡ Some e → e.last ≤ last → Keeps e reply
    → IsLiving u now a b exchanges s → IsLiving u now a b (put tag (grown last reply e) exchanges) s
living_grows u now a b exchanges tag e last reply s is le same h soon =
    let was = h soon in
    elim (eqb_tells was.tag tag) [
      | inl here ↦
          let there : exchanges was.tag ≡ Some e = ap exchanges here.1 ∙ is in
          record { tag = was.tag; low = was.low; of = rw here.0 (of_grows (record { unit = u; asker = a; taker = b; tag = was.tag }) e s last reply le same (rw there at was.of)) }
      | inr other ↦ record { tag = was.tag; low = was.low; of = rw other.0 was.of }
    ]

-- an exchange grows
pub packets_grow : (u : «Unit») (now a b : ℕ) (exchanges : ℕ → Option Exchange) (tag : ℕ) (e : Exchange) (last : ℕ) (reply : Option (List ℕ)) (packets : List Sent)
    → exchanges tag ≡ Some e → e.last ≤ last → Keeps e reply
    → AllByRecursion (IsLiving u now a b exchanges) packets → AllByRecursion (IsLiving u now a b (put tag (grown last reply e) exchanges)) packets
packets_grow u now a b exchanges tag e last reply packets is le same h =
    all_maps (IsLiving u now a b exchanges) (IsLiving u now a b (put tag (grown last reply e) exchanges)) packets h (λ s k. living_grows u now a b exchanges tag e last reply s is le same k)

-- a unit of time passes
pub packets_later : (u : «Unit») (now a b : ℕ) (exchanges : ℕ → Option Exchange) (packets : List Sent) → AllByRecursion (IsLiving u now a b exchanges) packets
    → AllByRecursion (IsLiving u (now + 1) a b exchanges) packets
packets_later u now a b exchanges packets h = all_maps (IsLiving u now a b exchanges) (IsLiving u (now + 1) a b exchanges) packets h (λ s k soon. k (omega (arith, soon)))

-- no packet lives under a tag that has rested
reply_dead : (now : ℕ) (x : Ends) (e : Exchange) (s : Sent) (o : Option (List ℕ)) → e.last + 40 ≤ now → now ≤ s.date + 8
    → IsSomeAnd o (λ r. IsPacketOf x.unit (reply_of x e r) s.bytes × (s.date ≤ e.last + 8)) → ⊥
reply_dead now x e s None far soon h = h
reply_dead now x e s (Some r) far soon h = absurd (omega (arith, h.1))

of_dead : (now : ℕ) (x : Ends) (e : Exchange) (s : Sent) → e.last + 40 ≤ now → now ≤ s.date + 8 → IsOfExchange x e s → ⊥
of_dead now x e s far soon (inl h) = absurd (omega (arith, h.1))
of_dead now x e s far soon (inr h) = reply_dead now x e s e.reply far soon h

none_living : (now : ℕ) (x : Ends) (o : Option Exchange) (s : Sent) → IfSome o (λ e. e.last + 40 ≤ now) → now ≤ s.date + 8 → IsSomeAnd o (λ e. IsOfExchange x e s) → ⊥
none_living now x None s far soon h = h
none_living now x (Some e) s far soon h = of_dead now x e s far soon h

living_begins : (u : «Unit») (now a b : ℕ) (exchanges : ℕ → Option Exchange) (tag : ℕ) (e : Exchange) (s : Sent)
    → IfSome (exchanges tag) (λ old. old.last + 40 ≤ now) → IsLiving u now a b exchanges s → IsLiving u now a b (put tag e exchanges) s
living_begins u now a b exchanges tag e s far h soon =
    let was = h soon in
    elim (eqb_tells was.tag tag) [
      | inl here ↦
          let same : exchanges was.tag ≡ exchanges tag = ap exchanges here.1 in
          absurd (none_living now (record { unit = u; asker = a; taker = b; tag = was.tag }) (exchanges tag) s far soon (rw same at was.of))
      | inr other ↦ record { tag = was.tag; low = was.low; of = rw other.0 was.of }
    ]

pub packets_begin : (u : «Unit») (now a b : ℕ) (exchanges : ℕ → Option Exchange) (tag : ℕ) (e : Exchange) (packets : List Sent) → IfSome (exchanges tag) (λ old. old.last + 40 ≤ now)
    → AllByRecursion (IsLiving u now a b exchanges) packets → AllByRecursion (IsLiving u now a b (put tag e exchanges)) packets
packets_begin u now a b exchanges tag e packets far h = all_maps (IsLiving u now a b exchanges) (IsLiving u now a b (put tag e exchanges)) packets h (λ s k. living_begins u now a b exchanges tag e s far k)

-- the packets of a message that is sent
pub request_sent : (u : «Unit») (now a b : ℕ) (exchanges : ℕ → Option Exchange) (tag : ℕ) (e : Exchange) (packets : List Sent) → tag < 8 → exchanges tag ≡ Some e → now ≤ e.last
    → AllByRecursion (IsLiving u now a b exchanges) packets
    → AllByRecursion (IsLiving u now a b exchanges) (packets ++ packets_of_message u now (request_of (record { unit = u; asker = a; taker = b; tag = tag }) e))
request_sent u now a b exchanges tag e packets low is le h =
    let m : MessageOf = request_of (record { unit = u; asker = a; taker = b; tag = tag }) e in
    all_append (IsLiving u now a b exchanges) packets (packets_of_message u now m) h
    (all_made (IsLiving u now a b exchanges) (sent_at now) spelling_of (pieces u m) (λ i p at soon. record { tag = tag; low = low; of = rw is (inl (record { number = i; packet = p; at = at; is = refl }, le)) }))

pub reply_sent : (u : «Unit») (now a b : ℕ) (exchanges : ℕ → Option Exchange) (tag : ℕ) (e : Exchange) (r : List ℕ) (packets : List Sent) → tag < 8
    → exchanges tag ≡ Some e → e.reply ≡ Some r → now ≤ e.last + 8
    → AllByRecursion (IsLiving u now a b exchanges) packets
    → AllByRecursion (IsLiving u now a b exchanges) (packets ++ packets_of_message u now (reply_of (record { unit = u; asker = a; taker = b; tag = tag }) e r))
reply_sent u now a b exchanges tag e r packets low is answered le h =
    let m : MessageOf = reply_of (record { unit = u; asker = a; taker = b; tag = tag }) e r in
    all_append (IsLiving u now a b exchanges) packets (packets_of_message u now m) h
    (all_made (IsLiving u now a b exchanges) (sent_at now) spelling_of (pieces u m) (λ i p at soon. record { tag = tag; low = low; of = rw is (inr (rw answered (record { number = i; packet = p; at = at; is = refl }, le))) }))
