-- The lines of packets, pair by pair.
use Rattle.std.proofs.Common.{◌≡◌, ◌<◌, ◌≤◌, ◌+◌, ◌++◌, ◌∙◌, ℕ, zero, suc, List, [], ◌∷◌, Option, None, Some, append_assoc, append-nil, arith, ap, drop, length, map, refl, subst, sym, take}
use Rattle.std.specs.Prelude.{IfSome, option_map, slice_get}
use Rattle.std.specs.Io.KnownBytes.{Appends}
use Rattle.std.proofs.KnownBytes.{Appends-nil, Appends-trans}
use Rattle.std.proofs.Math.ListN.{set}
use Rattle.std.proofs.lemmas.List.{drop-set-lt, map-append}
use Rattle.exch_lane.specs.Lanes.{Sent}
use Rattle.fw_edge.specs.Ledgers.{packet_counts}
use Rattle.fw_node.specs.Nodes.{DeviceNodeOf}
use Rattle.fw_trace.specs.Lines.{ReaderOf, new_reader}
use Rattle.fw_steps.specs.Worlds.{SiteOf, WorldOf}
use Rattle.fwupd_watch.proofs.Started.{take_next}
use Rattle.fwupd_watch.specs.Traces.{packet_text, pair_text, pairs_text, reader_for, reader_next, reader_of_pair, reader_past, trace_text, written_at}
use Rattle.fwupd_base.specs.declared.forms.TraceForm.{TraceForm}

-- the packets of a pair after the first `written`
pub pair_at : (form : TraceForm) (r : ReaderOf) (o : Option SiteOf) (n : DeviceNodeOf) (ps : List Sent) (written device : ℕ) → option_map (λ x. x.node) o ≡ Some n → option_map (λ x. x.packets) o ≡ Some ps
    → device ≡ n.endpoint.eid → pair_text form (Some r) o written ≡ trace_text form r device (written + 1) (drop written ps)
pair_at form r None n ps written device at has is = absurd cc
pair_at form r (Some x) n ps written device at has is =
    let node : x.node ≡ n = (let h : Some x.node ≡ Some n = at in cc) in
    let packets : x.packets ≡ ps = (let h : Some x.packets ≡ Some ps = has in cc) in
    ap (λ d. trace_text form r d (written + 1) (drop written x.packets)) (ap (λ m. m.endpoint.eid) node ∙ sym is) ∙ ap (λ qs. trace_text form r device (written + 1) (drop written qs)) packets

pub reader_at : (form : TraceForm) (r : ReaderOf) (o : Option SiteOf) (ps : List Sent) (written : ℕ) → option_map (λ x. x.packets) o ≡ Some ps → reader_of_pair form r o written ≡ reader_past form r (drop written ps)
reader_at form r None ps written has = absurd cc
reader_at form r (Some x) ps written has =
    let packets : x.packets ≡ ps = (let h : Some x.packets ≡ Some ps = has in cc) in ap (λ qs. reader_past form r (drop written qs)) packets

-- one more packet
text_next : (form : TraceForm) (r : ReaderOf) (device number place : ℕ) (ps : List Sent) (p : Sent) → slice_get ps place ≡ Some p
    → trace_text form r device number (drop place ps) ≡ packet_text form r device number p ++ trace_text form (reader_next form r p) device (number + 1) (drop (suc place) ps)
text_next form r device number place [] p at = absurd (cc)
text_next form r device number zero (q ∷ qs) p at =
    let same : q ≡ p = cc in ap (λ z. packet_text form r device number z ++ trace_text form (reader_next form r z) device (number + 1) qs) same
text_next form r device number (suc place) (q ∷ qs) p at = text_next form r device number place qs p at

past_next : (form : TraceForm) (r : ReaderOf) (place : ℕ) (ps : List Sent) (p : Sent) → slice_get ps place ≡ Some p → reader_past form r (drop place ps) ≡ reader_past form (reader_next form r p) (drop (suc place) ps)
past_next form r place [] p at = absurd (cc)
past_next form r zero (q ∷ qs) p at = let same : q ≡ p = cc in ap (λ z. reader_past form (reader_next form r z) qs) same
past_next form r (suc place) (q ∷ qs) p at = past_next form r place qs p at

pub lines_more : (form : TraceForm) (r s : ReaderOf) (device written place : ℕ) (ps : List Sent) (p : Sent) (before after all : List ℕ) → slice_get ps place ≡ Some p
    → before ++ trace_text form r device (written + place + 1) (drop place ps) ≡ all → after ≡ before ++ packet_text form r device (written + place + 1) p → s ≡ reader_next form r p
    → after ++ trace_text form s device (written + (place + 1) + 1) (drop (place + 1) ps) ≡ all
lines_more form r s device written place ps p before after all at h is next =
    let further : place + 1 ≡ suc place = omega arith in
    let number : written + (place + 1) + 1 ≡ written + place + 1 + 1 = omega arith in
    rw (is, number, further, next) (append_assoc before (packet_text form r device (written + place + 1) p) (trace_text form (reader_next form r p) device (written + place + 1 + 1) (drop (suc place) ps))
    ∙ ap (λ it. before ++ it) (sym (text_next form r device (written + place + 1) place ps p at)) ∙ h)

pub past_more : (form : TraceForm) (r s : ReaderOf) (place : ℕ) (ps : List Sent) (p : Sent) (all : ReaderOf) → slice_get ps place ≡ Some p → reader_past form r (drop place ps) ≡ all → s ≡ reader_next form r p
    → reader_past form s (drop (place + 1) ps) ≡ all
past_more form r s place ps p all at h next =
    let further : place + 1 ≡ suc place = omega arith in rw (further, next) (sym (past_next form r place ps p at) ∙ h)

-- and the number of packets
pub pair_size : (o : Option SiteOf) (ps : List Sent) (n : ℕ) → option_map (λ x. x.packets) o ≡ Some ps → n ≡ length ps → IfSome o (λ x. n ≡ length x.packets)
pair_size None ps n has is = absurd cc
pair_size (Some x) ps n has is =
    let packets : x.packets ≡ ps = (let h : Some x.packets ≡ Some ps = has in cc) in
    is ∙ ap length (sym packets)

-- one more pair
pub pairs_more : (form : TraceForm) (readers : List ReaderOf) (before now after : Option (List ℕ)) (written : List ℕ) (sites : List SiteOf) (place : ℕ) → Appends before now (pairs_text form readers written sites place)
    → Appends now after (pair_text form (slice_get readers place) (slice_get sites place) (written_at written place)) → Appends before after (pairs_text form readers written sites (place + 1))
pairs_more form readers before now after written sites place h k =
    let next : suc place ≡ place + 1 = omega arith in
    subst (λ n. Appends before after (pairs_text form readers written sites n)) next
    (Appends-trans before now after (pairs_text form readers written sites place) (pair_text form (slice_get readers place) (slice_get sites place) (written_at written place)) h k)

-- they are written
pub pair_written : (form : TraceForm) (r : ReaderOf) (before now : Option (List ℕ)) (o : Option SiteOf) (n : DeviceNodeOf) (ps unwritten : List Sent) (written device : ℕ) (bytes text : List ℕ) → Appends before now bytes
    → bytes ≡ text → text ≡ trace_text form r device (written + 1) unwritten → unwritten ≡ drop written ps → option_map (λ x. x.node) o ≡ Some n → option_map (λ x. x.packets) o ≡ Some ps
    → device ≡ n.endpoint.eid → Appends before now (pair_text form (Some r) o written)
pair_written form r before now o n ps unwritten written device bytes text h same is left at has own =
    subst (Appends before now) (same ∙ is ∙ ap (trace_text form r device (written + 1)) left ∙ sym (pair_at form r o n ps written device at has own)) h

pub pair_read : (form : TraceForm) (r s : ReaderOf) (o : Option SiteOf) (ps unwritten : List Sent) (written : ℕ) → s ≡ reader_past form r unwritten → unwritten ≡ drop written ps → option_map (λ x. x.packets) o ≡ Some ps
    → s ≡ reader_of_pair form r o written
pair_read form r s o ps unwritten written is left has = is ∙ ap (reader_past form r) left ∙ sym (reader_at form r o ps written has)

-- none is left
drop_beyond : {A : Type 0} (n : ℕ) (xs : List A) → length xs ≤ n → drop n xs ≡ []
drop_beyond zero [] h = refl
drop_beyond (suc n) [] h = refl
drop_beyond zero (x ∷ xs) h = absurd (omega arith)
drop_beyond (suc n) (x ∷ xs) h = drop_beyond n xs (omega arith)

pub pair_done : (form : TraceForm) (r : ReaderOf) (known : Option (List ℕ)) (o : Option SiteOf) (n : DeviceNodeOf) (ps : List Sent) (written : ℕ) → length ps ≤ written → option_map (λ x. x.node) o ≡ Some n
    → option_map (λ x. x.packets) o ≡ Some ps → Appends known known (pair_text form (Some r) o written)
pair_done form r known o n ps written past at has =
    subst (Appends known known) (ap (trace_text form r n.endpoint.eid (written + 1)) (sym (drop_beyond written ps past)) ∙ sym (pair_at form r o n ps written n.endpoint.eid at has refl))
    (Appends-nil known)

pub read_done : (form : TraceForm) (r : ReaderOf) (o : Option SiteOf) (ps : List Sent) (written : ℕ) → length ps ≤ written → option_map (λ x. x.packets) o ≡ Some ps → r ≡ reader_of_pair form r o written
read_done form r o ps written past has = ap (reader_past form r) (sym (drop_beyond written ps past)) ∙ sym (reader_at form r o ps written has)

-- one more pair is counted
site_there : (xs : List SiteOf) (i : ℕ) → i < length xs → (x : SiteOf) × (slice_get xs i ≡ Some x)
site_there [] i h = absurd (omega arith)
site_there (x ∷ xs) zero h = (x, refl)
site_there (x ∷ xs) (suc i) h = site_there xs i (omega arith)

pub counts_more : (counts after : List ℕ) (sites : List SiteOf) (place n : ℕ) → place < length sites → counts ≡ packet_counts (take place sites)
    → IfSome (slice_get sites place) (λ x. n ≡ length x.packets) → after ≡ counts ++ n ∷ [] → after ≡ packet_counts (take (place + 1) sites)
counts_more counts after sites place n lt e h is =
    let there = site_there sites place lt in
    let size : n ≡ length there.0.packets = subst (λ o. IfSome o (λ x. n ≡ length x.packets)) there.1 h in
    let next : suc place ≡ place + 1 = omega arith in
    is ∙ ap (λ m. counts ++ m ∷ []) size ∙ ap (λ cs. cs ++ length there.0.packets ∷ []) e
    ∙ sym (map-append (λ x. length x.packets) (take place sites) (there.0 ∷ []))
    ∙ ap packet_counts (sym (take_next sites place there.0 there.1)) ∙ ap (λ m. packet_counts (take m sites)) next

-- the readers of the pairs that aren't written yet are unchanged
get_drop : {A : Type 0} (n : ℕ) (xs : List A) → slice_get (drop n xs) zero ≡ slice_get xs n
get_drop zero xs = refl
get_drop (suc n) [] = refl
get_drop (suc n) (x ∷ xs) = get_drop n xs

drop_next : {A : Type 0} (n : ℕ) (xs : List A) → drop (suc n) xs ≡ drop 1 (drop n xs)
drop_next zero xs = refl
drop_next (suc n) [] = refl
drop_next (suc n) (x ∷ xs) = drop_next n xs

pub reader_kept : (place : ℕ) (now first : List ReaderOf) (r : ReaderOf) → drop place now ≡ drop place first → slice_get now place ≡ Some r → slice_get first place ≡ Some r
reader_kept place now first r same at = sym (get_drop place first) ∙ ap (λ rs. slice_get rs zero) (sym same) ∙ get_drop place now ∙ at

pub others_kept : (place : ℕ) (now first : List ReaderOf) (r : ReaderOf) → drop place now ≡ drop place first → drop (place + 1) (set now place r) ≡ drop (place + 1) first
others_kept place now first r same =
    let further : place + 1 ≡ suc place = omega arith in
    drop-set-lt (place + 1) now place r (omega arith) ∙ rw further (drop_next place now ∙ ap (drop 1) same ∙ sym (drop_next place first))

-- one more reader
made_next : (f : SiteOf → ReaderOf) (place : ℕ) (xs : List SiteOf) (x : SiteOf) → slice_get xs place ≡ Some x → map f (drop place xs) ≡ f x ∷ map f (drop (suc place) xs)
made_next f place [] x at = absurd (cc)
made_next f zero (y ∷ ys) x at = let same : y ≡ x = cc in ap (λ z. f z ∷ map f ys) same
made_next f (suc place) (y ∷ ys) x at = made_next f place ys x at

pub readers_more : (w : WorldOf) (place : ℕ) (n : DeviceNodeOf) (before after all : List ReaderOf) (r : ReaderOf) → place < length w.sites → option_map (λ x. x.node) (slice_get w.sites place) ≡ Some n
    → r ≡ new_reader n.half.unit w.agent.endpoint.eid n.endpoint.eid → after ≡ before ++ r ∷ [] → before ++ map (reader_for w) (drop place w.sites) ≡ all
    → after ++ map (reader_for w) (drop (place + 1) w.sites) ≡ all
readers_more w place n before after all r lt at is pushed h =
    let there = site_there w.sites place lt in
    let node : there.0.node ≡ n = (let k : Some there.0.node ≡ Some n = subst (λ o. option_map (λ x. x.node) o ≡ Some n) there.1 at in cc) in
    let made : r ≡ reader_for w there.0 = is ∙ ap (λ m. new_reader m.half.unit w.agent.endpoint.eid m.endpoint.eid) (sym node) in
    let further : place + 1 ≡ suc place = omega arith in
    rw (pushed, further) (append_assoc before (r ∷ []) (map (reader_for w) (drop (suc place) w.sites))
    ∙ ap (λ it. before ++ it) (ap (λ z. z ∷ map (reader_for w) (drop (suc place) w.sites)) made ∙ sym (made_next (reader_for w) place w.sites there.0 there.1)) ∙ h)

-- each pair has a reader
pub readers_all : (w : WorldOf) (place : ℕ) (now all : List ReaderOf) → length w.sites ≤ place → now ++ map (reader_for w) (drop place w.sites) ≡ all → now ≡ all
readers_all w place now all past h = sym (append-nil now) ∙ ap (λ xs. now ++ map (reader_for w) xs) (sym (drop_beyond place w.sites past)) ∙ h
