-- The first pair with some ends.
use Rattle.std.proofs.Common.{◌≡◌, ◌∙◌, ◌+◌, ◌<◌, ℕ, zero, suc, Bool, true, false, cond, if◌then◌else◌, List, [], ◌∷◌, ◌++◌, Option, None, Some, length, nat_lt, not, option_map, refl, sym, ap, arith}
use Rattle.std.specs.Prelude.{slice_get, slice_set}
use Rattle.std.specs.List.{list_any, position, position_or_len}
use Rattle.std.proofs.lemmas.Grind.{common_steps}
use Rattle.mctp_wire.specs.declared.unit.Unit.{«Unit»}
use Rattle.fw_trace.specs.Decoding.{DecoderOf, decoder_after_seen, ends_of, facts_of_packet, facts_of_seen, has_ends, new_pair, packet_says, pair_after, pair_with, pairs_after, text_of_seen}
use Rattle.fw_trace.specs.Inputs.{SeenOf}
use Rattle.fw_trace.specs.declared.decoder.Facts.TheVariants as facts
use Rattle.fw_trace.specs.declared.inputs.InputFault.TheVariants as faults
use Rattle.fw_trace.specs.declared.pairs.Ends.{Ends}
use Rattle.fw_trace.specs.declared.pairs.Pair.{Pair}

one_more : (k : ℕ) → Some (1 + k) ≡ Some (suc k)
one_more k = ap (λ (n : ℕ). Some n) (omega arith)

-- the position in a list that isn't empty
position_by : (b : Bool) (k n : ℕ) → cond (nat_lt (cond (not b) (1 + k) 0) (suc n)) (Some (cond (not b) (1 + k) 0)) None
    ≡ cond b (Some 0) (option_map suc (cond (nat_lt k n) (Some k) None))
position_by true k n = grind (arith, common_steps)
position_by false k n = grind (arith, common_steps, one_more)

position_cons : (p : Pair → Bool) (x : Pair) (xs : List Pair) → position p (x ∷ xs) ≡ cond (p x) (Some 0) (option_map suc (position p xs))
position_cons p x xs = position_by (p x) (position_or_len p xs) (length xs)

-- a pair with these ends is at this place
pub record FoundPair (u : «Unit») (ends : Ends) (bytes : List ℕ) (ps : List Pair) (place : ℕ) (x : Pair) : Type 0 where
  pub with : pair_with u ends ps ≡ x
  pub there : list_any (has_ends ends) ps ≡ true
  pub after : pairs_after u ends bytes ps ≡ slice_set ps place (pair_after x bytes)

found_here : (u : «Unit») (ends : Ends) (bytes : List ℕ) (p : Pair) (ps : List Pair) → has_ends ends p ≡ true → FoundPair u ends bytes (p ∷ ps) 0 p
found_here u ends bytes p ps here = record { with = rw here refl; there = rw here refl; after = rw here refl }

found_later : (u : «Unit») (ends : Ends) (bytes : List ℕ) (p : Pair) (ps : List Pair) (place : ℕ) (x : Pair) → has_ends ends p ≡ false → FoundPair u ends bytes ps place x
    → FoundPair u ends bytes (p ∷ ps) (suc place) x
found_later u ends bytes p ps place x other more =
    record { with = rw other more.with; there = rw other more.there; after = rw other (ap (λ (qs : List Pair). p ∷ qs) more.after) }

found_by : (u : «Unit») (ends : Ends) (bytes : List ℕ) (p : Pair) (ps : List Pair) (place : ℕ) (x : Pair) (b : Bool) (o : Option ℕ)
    → ((n : ℕ) → o ≡ Some n → slice_get ps n ≡ Some x → FoundPair u ends bytes ps n x)
    → has_ends ends p ≡ b → cond b (Some 0) (option_map suc o) ≡ Some place → slice_get (p ∷ ps) place ≡ Some x → FoundPair u ends bytes (p ∷ ps) place x
found_by u ends bytes p ps zero x true o more here at is =
    let same : p ≡ x = cc in
    rw (sym same) (found_here u ends bytes p ps here)
found_by u ends bytes p ps (suc n) x true o more here at is = absurd (cc)
found_by u ends bytes p ps place x false None more other at is = absurd (cc)
found_by u ends bytes p ps zero x false (Some k) more other at is = absurd (cc)
found_by u ends bytes p ps (suc n) x false (Some k) more other at is =
    let same : Some k ≡ Some n = cc in
    found_later u ends bytes p ps n x other (more n same is)

pair_found : (u : «Unit») (ends : Ends) (bytes : List ℕ) (ps : List Pair) (place : ℕ) (x : Pair) → position (has_ends ends) ps ≡ Some place → slice_get ps place ≡ Some x
    → FoundPair u ends bytes ps place x
pair_found u ends bytes [] place x at is = absurd (cc)
pair_found u ends bytes (p ∷ ps) place x at is =
    found_by u ends bytes p ps place x (has_ends ends p) (position (has_ends ends) ps) (λ n. pair_found u ends bytes ps n x) refl
    (sym (position_cons (has_ends ends) p ps) ∙ at) is

-- no pair has these ends
pub record NewPair (u : «Unit») (ends : Ends) (bytes : List ℕ) (ps : List Pair) : Type 0 where
  pub with : pair_with u ends ps ≡ new_pair u ends
  pub there : list_any (has_ends ends) ps ≡ false
  pub after : pairs_after u ends bytes ps ≡ ps ++ pair_after (new_pair u ends) bytes ∷ []

new_by : (u : «Unit») (ends : Ends) (bytes : List ℕ) (p : Pair) (ps : List Pair) (b : Bool) (o : Option ℕ) → (o ≡ None → NewPair u ends bytes ps)
    → has_ends ends p ≡ b → cond b (Some 0) (option_map suc o) ≡ None → NewPair u ends bytes (p ∷ ps)
new_by u ends bytes p ps true o more here at = absurd (cc)
new_by u ends bytes p ps false (Some k) more other at = absurd (cc)
new_by u ends bytes p ps false None more other at =
    let rest = more refl in
    record { with = rw other rest.with; there = rw other rest.there; after = rw other (ap (λ (qs : List Pair). p ∷ qs) rest.after) }

pair_new : (u : «Unit») (ends : Ends) (bytes : List ℕ) (ps : List Pair) → position (has_ends ends) ps ≡ None → NewPair u ends bytes ps
pair_new u ends bytes [] at = record { with = refl; there = refl; after = refl }
pair_new u ends bytes (p ∷ ps) at =
    new_by u ends bytes p ps (has_ends ends p) (position (has_ends ends) ps) (pair_new u ends bytes ps) refl (sym (position_cons (has_ends ends) p ps) ∙ at)

pub place_within : (ends : Ends) (ps : List Pair) (place : ℕ) → position (has_ends ends) ps ≡ Some place → place < length ps
place_within ends ps place at = grind (arith, common_steps)

-- a packet of a pair that is at this place
pub record ReadAt (d : DecoderOf) (s : SeenOf) (place : ℕ) (x : Pair) : Type 0 where
  pub facts_are : facts_of_seen d s ≡ facts.Packet (facts_of_packet x s.turn s.bytes)
  pub text_is : text_of_seen d s ≡ packet_says x.reader s.bytes
  pub after : decoder_after_seen d s ≡ record d { pairs = slice_set d.pairs place (pair_after x s.bytes) }

pub read_at : (d : DecoderOf) (s : SeenOf) (ends : Ends) (place : ℕ) (x : Pair) → ends_of s.device s.bytes ≡ Some ends → position (has_ends ends) d.pairs ≡ Some place
    → slice_get d.pairs place ≡ Some x → ReadAt d s place x
unfolding facts_of_seen text_of_seen decoder_after_seen
read_at d s ends place x named at is =
    let found = pair_found d.unit ends s.bytes d.pairs place x at is in
    record {
      facts_are = rw (named, found.there, found.with) refl;
      text_is = rw (named, found.there, found.with) refl;
      after = rw (named, found.there, found.after) refl;
    }

-- the first packet of a further pair
pub record ReadNew (d : DecoderOf) (s : SeenOf) (ends : Ends) : Type 0 where
  pub facts_are : facts_of_seen d s ≡ (if nat_lt (length d.pairs) 1024 then facts.Packet (facts_of_packet (new_pair d.unit ends) s.turn s.bytes) else facts.Unread faults.Pairs)
  pub text_is : text_of_seen d s ≡ (if nat_lt (length d.pairs) 1024 then packet_says (new_pair d.unit ends).reader s.bytes else [])
  pub after : decoder_after_seen d s ≡ (if nat_lt (length d.pairs) 1024 then record d { pairs = d.pairs ++ pair_after (new_pair d.unit ends) s.bytes ∷ [] } else d)

pub read_new : (d : DecoderOf) (s : SeenOf) (ends : Ends) → ends_of s.device s.bytes ≡ Some ends → position (has_ends ends) d.pairs ≡ None → ReadNew d s ends
unfolding facts_of_seen text_of_seen decoder_after_seen
read_new d s ends named at =
    let found = pair_new d.unit ends s.bytes d.pairs at in
    go (nat_lt (length d.pairs) 1024) refl found
  where
    go : (b : Bool) → nat_lt (length d.pairs) 1024 ≡ b → NewPair d.unit ends s.bytes d.pairs → ReadNew d s ends
    go true room found = record {
      facts_are = rw (named, found.there, room, found.with) refl;
      text_is = rw (named, found.there, room, found.with) refl;
      after = rw (named, found.there, room, found.after) refl;
    }
    go false full found = record { facts_are = rw (named, found.there, full) refl; text_is = rw (named, found.there, full) refl; after = rw (named, found.there, full) refl }
