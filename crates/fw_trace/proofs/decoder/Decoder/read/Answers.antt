use Rattle.std.proofs.Common.{◌≡◌, ◌∙◌, refl, sym, ap, None, Some, length}
use Rattle.std.specs.List.{position}
use Rattle.std.proofs.lemmas.Option.{slice_get_read}
use Rattle.fw_trace.specs.Decoding.{has_ends}
use Rattle.fw_trace.specs.Seen.{seen_of}
use Rattle.fw_trace.specs.declared.decoder.Facts.TheVariants as facts
use Rattle.fw_trace.proofs.PairPlaces.{ReadAt, ReadNew, place_within, read_at, read_new}
use Rattle.fw_trace.proofs.decoder.Decoder.read.Goals as goal

-- the pair of the packet is at this place
there : (c : goal.In_ok-facts-in-Some-place_of) → ReadAt c.args.self.now (seen_of c.args.packet.now) c.in-Some-place_of.place c.index_mut-pair.result.now
there c =
    let at : position (has_ends c.in-Some.ends) c.self.inside.pairs.items ≡ Some c.in-Some-place_of.place = sym (rw c.deref.ensures.value at c.in-Some-place_of.ensures) in
    rw (← c.self.view_is)
    (read_at (record { unit = c.self.inside.unit; pairs = c.self.inside.pairs.items }) (seen_of c.args.packet.now) c.in-Some.ends c.in-Some-place_of.place
    c.index_mut-pair.result.now (sym c.in-Some.ensures) at
    (slice_get_read c.self.inside.pairs.items (length c.self.inside.pairs.items) c.in-Some-place_of.place c.index_mut-pair.result.now refl
    (place_within c.in-Some.ends c.self.inside.pairs.items c.in-Some-place_of.place at) c.index_mut-pair.ensures.value))

-- or the packet is the first of its pair
new : (c : goal.After-read_new) → ReadNew c.args.self.now (seen_of c.args.packet.now) c.in-Some.ends
new c =
    let at : position (has_ends c.in-Some.ends) c.self.inside.pairs.items ≡ None = sym (rw c.deref.ensures.value at c.in-None.ensures) in
    read_new c.args.self.now (seen_of c.args.packet.now) c.in-Some.ends (sym c.in-Some.ensures) (rw (← c.self.view_is) at)

pub returns-in_ok-facts-in-Some-place_of-clause-facts :
    goal.returns-in_ok-facts-in-Some-place_of-clause-facts
returns-in_ok-facts-in-Some-place_of-clause-facts c =
    ap (λ f. facts.Packet f) c.in_ok-facts-in-Some-place_of.ensures.facts ∙ sym (there c).facts_are

pub returns-in_ok-facts-in-Some-place_of-clause-text :
    goal.returns-in_ok-facts-in-Some-place_of-clause-text
returns-in_ok-facts-in-Some-place_of-clause-text c =
    rw (there c).text_is c.in_ok-facts-in-Some-place_of.ensures.text

pub returns-in_ok-facts-in-Some-place_of-clause-after :
    goal.returns-in_ok-facts-in-Some-place_of-clause-after
returns-in_ok-facts-in-Some-place_of-clause-after c =
    rw ((there c).after, c.in_ok-facts-in-Some-place_of.ensures.after, ← c.self.view_is) refl

pub returns-in-None-clause-facts : goal.returns-in-None-clause-facts
returns-in-None-clause-facts c = rw (new c).facts_are c.read_new.ensures.facts

pub returns-in-None-clause-text : goal.returns-in-None-clause-text
returns-in-None-clause-text c = rw (new c).text_is c.read_new.ensures.text

pub returns-in-None-clause-after : goal.returns-in-None-clause-after
returns-in-None-clause-after c = rw (new c).after c.read_new.ensures.after
