-- The text that a trace that has observed worlds writes for the next.
use Rattle.std.proofs.Common.{◌≡◌, ◌⊎◌, ◌<◌, ◌≤◌, ◌+◌, ◌++◌, inl, inr, ◌∙◌, ℕ, zero, suc, List, [], ◌∷◌, Option, None, Some, append_assoc, append-nil, arith, ap, drop, length, map, refl, subst, sym, take}
use Rattle.std.specs.Prelude.{slice_get}
use Rattle.std.specs.Io.KnownBytes.{Appends}
use Rattle.std.proofs.KnownBytes.{Appends-trans}
use Rattle.std.proofs.Math.ListN.{set}
use Rattle.std.proofs.Math.Seq.{take-append_seam}
use Rattle.std.proofs.lemmas.Bool.{cases_lt}
use Rattle.std.proofs.lemmas.List.{length-map, length-set, take-append-drop, take_all}
use Rattle.std.proofs.lemmas.Option.{slice_get_within}
use Rattle.exch_lane.specs.Lanes.{Sent}
use Rattle.fw_edge.specs.Ledgers.{packet_counts}
use Rattle.fw_trace.specs.Lines.{ReaderOf, lines_of, new_reader, packet_line, reader_after}
use Rattle.fw_steps.specs.Worlds.{SiteOf, WorldOf}
use Rattle.fwupd_watch.specs.Traces.{AreReaders, AreReadersOf, ContinuesPairs, ContinuesPairsIfAny, ContinueInOrder, HasReadWorlds, HasTracedWorlds, ContinuesPair, ReadOn, TextsAreLines, counts_of, news_text, pair_news, pair_text, packet_text, pairs_text, read_as, reader_after_packets, reader_for, reader_next, reader_of_pair, reader_past, readers_for, trace_of, trace_text, written_at}
use Rattle.fwupd_base.specs.declared.forms.TraceForm.{TraceForm}
use Rattle.fwupd_base.specs.declared.forms.TraceForm.TheVariants as forms

-- a reader that has read some packets, and then others
past_all : (form : TraceForm) (r : ReaderOf) (ps qs : List Sent) → reader_past form r (ps ++ qs) ≡ reader_past form (reader_past form r ps) qs
past_all form r [] qs = refl
past_all form r (p ∷ ps) qs = past_all form (reader_next form r p) ps qs

behind_all : (form : TraceForm) (w : WorldOf) (x : SiteOf) (read : ℕ) → reader_of_pair form (reader_after_packets form w x read) (Some x) read ≡ reader_after_packets form w x (length x.packets)
behind_all form w x read =
    sym (past_all form (reader_for w x) (take read x.packets) (drop read x.packets))
    ∙ ap (reader_past form (reader_for w x)) (take-append-drop read x.packets ∙ sym (take_all (length x.packets) x.packets (omega arith)))

-- the number of packets of a pair
count_at : (xs : List SiteOf) (place : ℕ) (x : SiteOf) → slice_get xs place ≡ Some x → written_at (packet_counts xs) place ≡ length x.packets
count_at [] place x at = absurd (cc)
count_at (y ∷ ys) zero x at = let same : y ≡ x = cc in ap (λ z. length z.packets) same
count_at (y ∷ ys) (suc place) x at = count_at ys place x at

-- the site at a place
there : (xs : List SiteOf) (i : ℕ) → i < length xs → (x : SiteOf) × (slice_get xs i ≡ Some x)
there [] i h = absurd (omega arith)
there (x ∷ xs) zero h = (x, refl)
there (x ∷ xs) (suc i) h = there xs i (omega arith)

-- before the first packet
new_at : (w : WorldOf) (xs : List SiteOf) (place : ℕ) (x : SiteOf) → slice_get xs place ≡ Some x → slice_get (map (reader_for w) xs) place ≡ Some (reader_for w x)
new_at w [] place x at = absurd (cc)
new_at w (y ∷ ys) zero x at = let same : y ≡ x = cc in ap (λ z. Some (reader_for w z)) same
new_at w (y ∷ ys) (suc place) x at = new_at w ys place x at

new_readers : (form : TraceForm) (w : WorldOf) → AreReaders form w [] (readers_for [] w)
new_readers form w = record {
  size = length-map w.sites (reader_for w);
  each = λ place x at. new_at w w.sites place x at;
}

-- none is added if each pair has one
drop_beyond : {A : Type 0} (n : ℕ) (xs : List A) → length xs ≤ n → drop n xs ≡ []
drop_beyond zero [] h = refl
drop_beyond (suc n) [] h = refl
drop_beyond zero (x ∷ xs) h = absurd (omega arith)
drop_beyond (suc n) (x ∷ xs) h = drop_beyond n xs (omega arith)

readers_kept : (w : WorldOf) (readers : List ReaderOf) → length readers ≡ length w.sites → readers_for readers w ≡ readers
readers_kept w readers h = ap (λ xs. readers ++ map (reader_for w) xs) (drop_beyond (length readers) w.sites (omega arith)) ∙ append-nil readers

-- the readers of a world are those of the next, whose new packets they haven't read
same_reader : (v w : WorldOf) (x y : SiteOf) → w.agent.endpoint.eid ≡ v.agent.endpoint.eid → ContinuesPair x y → reader_for v x ≡ reader_for w y
same_reader v w x y agent pair =
    ap (λ u. new_reader u v.agent.endpoint.eid x.node.endpoint.eid) (sym pair.unit)
    ∙ ap (λ a. new_reader y.node.half.unit a x.node.endpoint.eid) (sym agent)
    ∙ ap (λ d. new_reader y.node.half.unit w.agent.endpoint.eid d) (sym pair.eid)

goes_on_reader : (form : TraceForm) (v w : WorldOf) (x y : SiteOf) → w.agent.endpoint.eid ≡ v.agent.endpoint.eid → ContinuesPair x y → reader_after_packets form v x (length x.packets) ≡ reader_after_packets form w y (length x.packets)
goes_on_reader form v w x y agent pair =
    ap (reader_past form (reader_for v x)) (take_all (length x.packets) x.packets (omega arith) ∙ sym pair.packets)
    ∙ ap (λ r. reader_past form r (take (length x.packets) y.packets)) (same_reader v w x y agent pair)

readers_go_on : (form : TraceForm) (v w : WorldOf) (readers : List ReaderOf) → ContinuesPairs v w → AreReaders form v (packet_counts v.sites) readers → AreReaders form w (packet_counts v.sites) readers
readers_go_on form v w readers goes are = record {
  size = are.size ∙ sym goes.size;
  each = λ place y at.
      let within = slice_get_within w.sites place y at in
      let before = there v.sites place (let size = goes.size in omega arith) in
      let count = count_at v.sites place before.0 before.1 in
      are.each place before.0 before.1
      ∙ ap (λ n. Some (reader_after_packets form v before.0 n)) count
      ∙ ap Some (goes_on_reader form v w before.0 y goes.agent (goes.each place before.0 y before.1 at))
      ∙ ap (λ n. Some (reader_after_packets form w y n)) (sym count);
}

readers_before : (form : TraceForm) (seen : List WorldOf) (w : WorldOf) (readers : List ReaderOf) → ContinuesPairsIfAny seen w → AreReadersOf form seen readers → AreReaders form w (counts_of seen) (readers_for readers w)
readers_before form [] w readers goes are = subst (λ rs. AreReaders form w [] (readers_for rs w)) (sym are) (new_readers form w)
readers_before form (v ∷ vs) w readers goes are =
    let on = readers_go_on form v w readers goes are in
    subst (AreReaders form w (packet_counts v.sites)) (sym (readers_kept w readers on.size)) on

-- the text that they give
news_at : (form : TraceForm) (w : WorldOf) (written : ℕ) (o : Option ReaderOf) (s : Option SiteOf) → ((x : SiteOf) → s ≡ Some x → o ≡ Some (reader_after_packets form w x written)) → pair_text form o s written ≡ pair_news form w s written
news_at form w written None None h = refl
news_at form w written (Some r) None h = refl
news_at form w written o (Some x) h = ap (λ it. pair_text form it (Some x) written) (h x refl)

told_news : (form : TraceForm) (w : WorldOf) (written : List ℕ) (readers : List ReaderOf) (n : ℕ) → AreReaders form w written readers → pairs_text form readers written w.sites n ≡ news_text form w written n
told_news form w written readers zero are = refl
told_news form w written readers (suc n) are =
    ap (λ it. it ++ pair_text form (slice_get readers n) (slice_get w.sites n) (written_at written n)) (told_news form w written readers n are)
    ∙ ap (λ it. news_text form w written n ++ it) (news_at form w (written_at written n) (slice_get readers n) (slice_get w.sites n) (λ x at. are.each n x at))

-- and they have read it
readers_after : (form : TraceForm) (w : WorldOf) (written : List ℕ) (old new : List ReaderOf) → AreReaders form w written old → ReadOn form written w.sites (length w.sites) old new → AreReaders form w (packet_counts w.sites) new
readers_after form w written old new are on = record {
  size = on.size ∙ are.size;
  each = λ place x at.
      on.each place (reader_after_packets form w x (written_at written place)) (slice_get_within w.sites place x at) (are.each place x at)
      ∙ ap (λ s. Some (reader_of_pair form (reader_after_packets form w x (written_at written place)) s (written_at written place))) at
      ∙ ap Some (behind_all form w x (written_at written place))
      ∙ ap (λ n. Some (reader_after_packets form w x n)) (sym (count_at w.sites place x at));
}

-- so a trace continues
pub read_on : (form : TraceForm) (seen : List WorldOf) (w : WorldOf) (written counts : List ℕ) (readers new : List ReaderOf) → HasReadWorlds form seen written readers → ContinuesPairsIfAny seen w → counts ≡ packet_counts w.sites
    → ReadOn form written w.sites (length w.sites) (readers_for readers w) new → HasReadWorlds form (w ∷ seen) counts new
read_on form seen w written counts readers new has goes are on = record {
  counts = are;
  readers_are = readers_after form w written (readers_for readers w) new (readers_here form seen w written readers has goes) on;
}
  where
    readers_here : (form : TraceForm) (seen : List WorldOf) (w : WorldOf) (written : List ℕ) (readers : List ReaderOf) → HasReadWorlds form seen written readers → ContinuesPairsIfAny seen w → AreReaders form w written (readers_for readers w)
    readers_here form seen w written readers has goes = subst (λ ns. AreReaders form w ns (readers_for readers w)) (sym has.counts) (readers_before form seen w readers goes has.readers_are)

pub traced_on : (form : TraceForm) (seen : List WorldOf) (w : WorldOf) (written counts : List ℕ) (readers new : List ReaderOf) (before mid now : Option (List ℕ)) → HasTracedWorlds form seen written readers before mid → ContinuesPairsIfAny seen w
    → Appends mid now (pairs_text form (readers_for readers w) written w.sites (length w.sites)) → counts ≡ packet_counts w.sites → ReadOn form written w.sites (length w.sites) (readers_for readers w) new
    → HasTracedWorlds form (w ∷ seen) counts new before now
traced_on form seen w written counts readers new before mid now has goes news are on =
    let first = readers_before form seen w readers goes has.read.readers_are in
    let here : AreReaders form w written (readers_for readers w) = subst (λ ns. AreReaders form w ns (readers_for readers w)) (sym has.read.counts) first in
    record {
      read = read_on form seen w written counts readers new has.read goes are on;
      text =
          Appends-trans before mid now (trace_of form seen) (news_text form w (counts_of seen) (length w.sites)) has.text
          (subst (Appends mid now) (told_news form w written (readers_for readers w) (length w.sites) here ∙ ap (λ ns. news_text form w ns (length w.sites)) has.read.counts) news);
    }

-- one more pair is read
set_here : {A : Type 0} (xs : List A) (place : ℕ) (y : A) → place < length xs → slice_get (set xs place y) place ≡ Some y
set_here [] place y h = absurd (omega arith)
set_here (x ∷ xs) zero y h = refl
set_here (x ∷ xs) (suc place) y h = set_here xs place y (omega arith)

set_before : {A : Type 0} (xs : List A) (place other : ℕ) (y : A) → other < place → slice_get (set xs place y) other ≡ slice_get xs other
set_before [] place other y h = refl
set_before (x ∷ xs) zero other y h = absurd (omega arith)
set_before (x ∷ xs) (suc place) zero y h = refl
set_before (x ∷ xs) (suc place) (suc other) y h = set_before xs place other y (omega arith)

read_one : (form : TraceForm) (written : List ℕ) (sites : List SiteOf) (place other : ℕ) (old now : List ReaderOf) (r s q : ReaderOf) → ReadOn form written sites place old now → slice_get old place ≡ Some r
    → s ≡ reader_of_pair form r (slice_get sites place) (written_at written place) → place < length now → slice_get old other ≡ Some q → (other < place) ⊎ (other ≡ place)
    → slice_get (set now place s) other ≡ Some (reader_of_pair form q (slice_get sites other) (written_at written other))
read_one form written sites place other old now r s q on at is lt has (inl before) = set_before now place other s before ∙ on.each other q before has
read_one form written sites place other old now r s q on at is lt has (inr same) =
    let here : slice_get old place ≡ Some q = subst (λ i. slice_get old i ≡ Some q) same has in
    let one : r ≡ q = (let h : Some r ≡ Some q = sym at ∙ here in cc) in
    subst (λ i. slice_get (set now place s) i ≡ Some (reader_of_pair form q (slice_get sites i) (written_at written i))) (sym same)
    (set_here now place s lt ∙ ap Some (is ∙ ap (λ z. reader_of_pair form z (slice_get sites place) (written_at written place)) one))

one_of : (other place : ℕ) → other < place + 1 → (other < place) ⊎ (other ≡ place)
one_of other place h = elim (cases_lt other place) [ inl lt ↦ inl lt | inr ge ↦ inr (omega arith) ]

pub read_more : (form : TraceForm) (written : List ℕ) (sites : List SiteOf) (place : ℕ) (old now : List ReaderOf) (r s : ReaderOf) → ReadOn form written sites place old now → slice_get old place ≡ Some r
    → s ≡ reader_of_pair form r (slice_get sites place) (written_at written place) → place < length now → ReadOn form written sites (place + 1) old (set now place s)
read_more form written sites place old now r s on at is lt = record {
  size = length-set now place s ∙ on.size;
  each = λ other q before has. read_one form written sites place other old now r s q on at is lt has (one_of other place before);
}

pub read_none : (form : TraceForm) (written : List ℕ) (sites : List SiteOf) (readers : List ReaderOf) → ReadOn form written sites 0 readers readers
read_none form written sites readers = record { size = refl; each = λ place r before at. absurd (omega arith) }

-- a text is lines
text_lines : (r : ReaderOf) (device number : ℕ) (ps : List Sent) → trace_text forms.Text r device number ps ≡ lines_of r number (map read_as ps)
text_lines r device number [] = refl
text_lines r device number (p ∷ ps) = ap (λ it. packet_line r p.date number p.bytes ++ it) (text_lines (reader_after r p.bytes) device (number + 1) ps)

text_all : (form : TraceForm) (r : ReaderOf) (device number : ℕ) (ps qs : List Sent) → trace_text form r device number (ps ++ qs) ≡ trace_text form r device number ps ++ trace_text form (reader_past form r ps) device (length ps + number) qs
text_all form r device number [] qs = let same : number ≡ 0 + number = omega arith in ap (λ n. trace_text form r device n qs) same
text_all form r device number (p ∷ ps) qs =
    let same : length ps + (number + 1) ≡ suc (length ps) + number = omega arith in
    ap (λ it. packet_text form r device number p ++ it) (text_all form (reader_next form r p) device (number + 1) ps qs)
    ∙ sym (append_assoc (packet_text form r device number p) (trace_text form (reader_next form r p) device (number + 1) ps) (trace_text form (reader_past form (reader_next form r p) ps) device (length ps + (number + 1)) qs))
    ∙ ap (λ n. trace_text form r device number (p ∷ ps) ++ trace_text form (reader_past form (reader_next form r p) ps) device n qs) same

-- the text of one device
news_one : (form : TraceForm) (w : WorldOf) (x : SiteOf) (written : List ℕ) → w.sites ≡ x ∷ [] → news_text form w written (length w.sites) ≡ pair_news form w (Some x) (written_at written 0)
news_one form w x written one =
    ap (λ xs. news_text form w written (length xs)) one ∙ ap (λ xs. pair_news form w (slice_get xs 0) (written_at written 0)) one

one_site : (xs : List SiteOf) → length xs ≡ 1 → (x : SiteOf) × (xs ≡ x ∷ [])
one_site [] h = absurd (omega arith)
one_site (x ∷ []) h = (x, refl)
one_site (x ∷ y ∷ xs) h = absurd (omega arith)

told_further : (form : TraceForm) (v w : WorldOf) (x y : SiteOf) → w.agent.endpoint.eid ≡ v.agent.endpoint.eid → ContinuesPair x y
    → trace_text form (reader_for v x) x.node.endpoint.eid 1 x.packets ++ pair_news form w (Some y) (length x.packets) ≡ trace_text form (reader_for w y) y.node.endpoint.eid 1 y.packets
told_further form v w x y agent pair =
    let k = length x.packets in
    let r = reader_for w y in
    let first : trace_text form (reader_for v x) x.node.endpoint.eid 1 x.packets ≡ trace_text form r y.node.endpoint.eid 1 (take k y.packets) =
    ap (λ q. trace_text form q x.node.endpoint.eid 1 x.packets) (same_reader v w x y agent pair)
    ∙ ap (λ d. trace_text form r d 1 x.packets) (sym pair.eid) ∙ ap (λ ps. trace_text form r y.node.endpoint.eid 1 ps) (sym pair.packets) in
    ap (λ it. it ++ pair_news form w (Some y) k) first
    ∙ ap (λ n. trace_text form r y.node.endpoint.eid 1 (take k y.packets) ++ trace_text form (reader_past form r (take k y.packets)) y.node.endpoint.eid (n + 1) (drop k y.packets)) (ap length (sym pair.packets))
    ∙ sym (text_all form r y.node.endpoint.eid 1 (take k y.packets) (drop k y.packets))
    ∙ ap (λ ps. trace_text form r y.node.endpoint.eid 1 ps) (take-append-drop k y.packets)

told_alone : (w : WorldOf) (before : List WorldOf) (x : SiteOf) → w.sites ≡ x ∷ [] → ContinueInOrder (w ∷ before) → trace_of forms.Text (w ∷ before) ≡ trace_text forms.Text (reader_for w x) x.node.endpoint.eid 1 x.packets
told_alone w [] x one go = news_one forms.Text w x [] one
told_alone w (v ∷ vs) x one go =
    let there = one_site v.sites (sym go.0.size ∙ ap length one) in
    let y = there.0 in
    let here : slice_get v.sites 0 ≡ Some y = ap (λ xs. slice_get xs 0) there.1 in
    let now : slice_get w.sites 0 ≡ Some x = ap (λ xs. slice_get xs 0) one in
    ap (λ it. it ++ news_text forms.Text w (packet_counts v.sites) (length w.sites)) (told_alone v vs y there.1 go.1)
    ∙ ap (λ it. trace_text forms.Text (reader_for v y) y.node.endpoint.eid 1 y.packets ++ it) (news_one forms.Text w x (packet_counts v.sites) one ∙ ap (pair_news forms.Text w (Some x)) (count_at v.sites 0 y here))
    ∙ told_further forms.Text v w y x go.0.agent (go.0.each 0 y x here now)

pub texts_are_lines : TextsAreLines
texts_are_lines w before x one go = told_alone w before x one go ∙ text_lines (reader_for w x) x.node.endpoint.eid 1 x.packets

-- what was borrowed is returned
pub lent_back : {A : Type 0} (len : ℕ) (lent new items : List A) → length new ≡ length lent → length lent ≡ len → take len (new ++ drop (length new) items) ≡ new
lent_back len lent new items size is = subst (λ n. take n (new ++ drop (length new) items) ≡ new) (size ∙ is) (take-append_seam new (drop (length new) items))

pub read_from : (form : TraceForm) (told written : List ℕ) (sites : List SiteOf) (count : ℕ) (lent items all new : List ReaderOf) → ReadOn form told sites count lent new → told ≡ written → lent ≡ items → items ≡ all
    → ReadOn form written sites count all new
read_from form told written sites count lent items all new on same is are =
    subst (λ rs. ReadOn form written sites count rs new) (is ∙ are) (subst (λ ns. ReadOn form ns sites count lent new) same on)

pub ruleset reading = (read_none)
