-- Parts of a turn, one after the other.
use Rattle.std.proofs.Common.{◌≡◌, ◌≢◌, ◌≤◌, ◌+◌, ◌-◌, ◌*◌, ◌∙◌, ◌^◌, ℕ, List, inl, inr, length, map, refl, sym, subst, arith}
use Rattle.fw_steps.specs.Worlds.{WorldOf, eids_of}
use Rattle.fw_steps.specs.declared.step.Step.{Step}
use Rattle.fw_edge.specs.Drives.{DrivesCounted, delivers_in, ticks_in}
use Rattle.fw_edge.specs.Ledgers.{ReportsFaultOfLinks, packet_counts}
use Rattle.fw_edge.specs.Outcomes.{LinksDriveOk, LinksExchangeOk, LinksReadOk, LinksWriteErr, LinksWriteOk, PartErr, RoundErr, drive_at, link_view, read_at}
use Rattle.fw_edge.specs.Links.{LinkBytes, LinksOf, links_at}
use Rattle.fw_edge.specs.Turns.{RoundStops, StopsTurn}
use Rattle.fw_edge.specs.declared.driving.EdgeFault.{EdgeFault}
use Rattle.fw_edge.specs.declared.driving.EdgeFault.TheVariants as faults
use Rattle.fw_edge.specs.declared.tally.Tally.{Tally}
use Rattle.fw_edge.proofs.Failing.{told_at}
use Rattle.fw_edge.proofs.Going.{drives_none, goes_off}
use Rattle.fw_edge.proofs.Rising.{given_none, given_on, map_length, rose_from, rose_less, rose_none, rose_on, rose_to, together_from, together_none, together_sum, together_to}
use Rattle.fw_edge.proofs.Sending.{sent_none, sent_on, sent_turn}

frame_is_no_step : (e : EdgeFault) → e ≡ faults.Frame → e ≢ faults.Step
frame_is_no_step e is other = absurd (cc)

-- a packet isn't taken
pub stopped_refused : {A : Type 0} (t : A → Tally) (taken gave : A → LinkBytes) (e : EdgeFault) (w : WorldOf) (ss : List Step) (written : List ℕ) (olds news : List A) → LinksWriteErr t e olds news
    → PartErr (link_view t taken gave) (RoundStops e (eids_of w.sites)) e (drive_at w ss written olds) (read_at w ss news)
stopped_refused t taken gave e w ss written olds news h = record {
  drives = drives_none w ss;
  no_tick = refl;
  stops_so = inl (h.is, refl, refl);
  fault = frame_is_no_step e h.is;
  failed = told_at e (λ l. (t l).failures) olds news h.failed;
}

-- an end gives no answer, after the writing
pub stopped_reading : {A : Type 0} (t : A → Tally) (taken gave : A → LinkBytes) (e : EdgeFault) (w v : WorldOf) (before after : List Step) (written : List ℕ) (olds mids news : List A)
    → map (λ l. (t l).failures) mids ≡ map (λ l. (t l).failures) olds → RoundErr t e (read_at w before mids) (read_at v after news)
    → PartErr (link_view t taken gave) (RoundStops e (eids_of w.sites)) e (drive_at w before written olds) (read_at v after news)
stopped_reading t taken gave e w v before after written olds mids news kept h = record {
  drives = h.drives;
  no_tick = h.no_tick;
  stops_so = inr h.some;
  fault = h.fault;
  failed = subst (λ os. ReportsFaultOfLinks e os (map (λ l. (t l).failures) news)) kept (told_at e (λ l. (t l).failures) mids news h.failed);
}

-- a part stops after another
pub stopped_later : {A : Type 0} (t : A → Tally) (taken gave : A → LinkBytes) (later stops : WorldOf → List Step → LinksOf → WorldOf → List Step → Type 0) (e : EdgeFault) (w u v : WorldOf)
    (before mid after : List Step) (ws us : List ℕ) (olds mids news : List A) (delivers : ℕ) → DrivesCounted w before u mid 0 delivers
    → map (λ l. (t l).failures) mids ≡ map (λ l. (t l).failures) olds → PartErr (link_view t taken gave) later e (drive_at u mid us mids) (read_at v after news)
    → stops w before (links_at ws (map taken olds) (map gave olds)) v after → PartErr (link_view t taken gave) stops e (drive_at w before ws olds) (read_at v after news)
stopped_later t taken gave later stops e w u v before mid after ws us olds mids news delivers g kept h so = record {
  drives = goes_off w u v before mid after 0 delivers g h.drives;
  no_tick = h.no_tick ∙ g.ticks_rise ∙ none (ticks_in before);
  stops_so = so;
  fault = h.fault;
  failed = subst (λ os. ReportsFaultOfLinks e os (map (λ l. (t l).failures) news)) kept h.failed;
}
  where
    none : (k : ℕ) → k + 0 ≡ k
    none k = omega arith

-- nothing is exchanged
pub exchanged_none : {A : Type 0} (t : A → Tally) (ws : List ℕ) (links : List A) (given : ℕ) → given ≡ 0 → length ws ≡ length links → LinksExchangeOk t 0 given ws ws links links
exchanged_none t ws links given none same = record {
  kept = refl;
  asked = rose_none (map (λ l. (t l).asked) links);
  given = rw none (together_none (map (λ l. (t l).given) links) (map (λ l. (t l).given) links) refl);
  sent = sent_none ws (map (λ l. (t l).sent) links) (rw (map_length (λ l. (t l).sent) links) same);
}

-- more is exchanged
pub exchanged_on : {A : Type 0} (t : A → Tally) (k j n m all : ℕ) (ws us vs : List ℕ) (olds mids news : List A) → all ≡ n + m → LinksExchangeOk t k n ws us olds mids
    → LinksExchangeOk t j m us vs mids news → LinksExchangeOk t (k + j) all ws vs olds news
exchanged_on t k j n m all ws us vs olds mids news sum h g = record {
  kept = g.kept ∙ h.kept;
  asked = rose_on k j (map (λ l. (t l).asked) olds) (map (λ l. (t l).asked) mids) (map (λ l. (t l).asked) news) h.asked g.asked;
  given = together_sum n m all (map (λ l. (t l).given) olds) (map (λ l. (t l).given) mids) (map (λ l. (t l).given) news) sum h.given g.given;
  sent = sent_on ws us vs (map (λ l. (t l).sent) olds) (map (λ l. (t l).sent) mids) (map (λ l. (t l).sent) news) h.sent g.sent;
}

-- links were also asked fewer times
pub exchanged_less : {A : Type 0} (t : A → Tally) (k j n : ℕ) (ws us : List ℕ) (olds news : List A) → k ≤ j → LinksExchangeOk t j n ws us olds news → LinksExchangeOk t k n ws us olds news
exchanged_less t k j n ws us olds news le h = record {
  kept = h.kept;
  asked = rose_less k j (map (λ l. (t l).asked) olds) (map (λ l. (t l).asked) news) le h.asked;
  given = h.given;
  sent = h.sent;
}

-- links take packets, and then are asked
pub exchanged_read : {A : Type 0} (t : A → Tally) (k n : ℕ) (ws us : List ℕ) (olds mids news : List A) → LinksWriteOk t ws us olds mids → LinksReadOk t k n mids news → LinksExchangeOk t k n ws us olds news
exchanged_read t k n ws us olds mids news h g = record {
  kept = g.kept ∙ h.kept;
  asked = rose_from k (map (λ l. (t l).asked) olds) (map (λ l. (t l).asked) mids) (map (λ l. (t l).asked) news) h.asked g.asked;
  given = together_from n (map (λ l. (t l).given) olds) (map (λ l. (t l).given) mids) (map (λ l. (t l).given) news) h.given g.given;
  sent = rw g.sent h.sent;
}

-- or were asked, and then take packets
pub exchanged_wrote : {A : Type 0} (t : A → Tally) (k n : ℕ) (ws us vs : List ℕ) (olds mids news : List A) → LinksExchangeOk t k n ws us olds mids → LinksWriteOk t us vs mids news
    → LinksExchangeOk t k n ws vs olds news
exchanged_wrote t k n ws us vs olds mids news h g = record {
  kept = g.kept ∙ h.kept;
  asked = rose_to k (map (λ l. (t l).asked) olds) (map (λ l. (t l).asked) mids) (map (λ l. (t l).asked) news) g.asked h.asked;
  given = together_to n (map (λ l. (t l).given) olds) (map (λ l. (t l).given) mids) (map (λ l. (t l).given) news) g.given h.given;
  sent = sent_on ws us vs (map (λ l. (t l).sent) olds) (map (λ l. (t l).sent) mids) (map (λ l. (t l).sent) news) h.sent g.sent;
}

-- lack of memory is neither a link's fault nor the clock's
pub told_kept : (e : EdgeFault) (os ns : List ℕ) → e ≡ faults.Memory → ns ≡ os → ReportsFaultOfLinks e os ns
told_kept e os ns is same = (λ other. absurd (cc), λ other. same)

pub stops_on : (e : EdgeFault) (w v : WorldOf) (before after : List Step) → e ≡ faults.Memory → w.now ≢ 2 ^ 32 - 1 → StopsTurn e w before v after
stops_on e w v before after is on = (λ other. absurd (cc), λ other. on)

-- after turns in which no link failed
pub told_behind : (e : EdgeFault) (os ms ns : List ℕ) → ms ≡ os → ReportsFaultOfLinks e ms ns → ReportsFaultOfLinks e os ns
told_behind e os ms ns same h = subst (λ xs. ReportsFaultOfLinks e xs ns) same h

-- the clock is at its last tick if that is the fault
pub clock_at : (e : EdgeFault) (w v : WorldOf) (before after : List Step) → StopsTurn e w before v after → e ≡ faults.Step → v.now ≡ 2 ^ 32 - 1
clock_at e w v before after h is = let stands = h.0 is in subst (λ x. x.now ≡ 2 ^ 32 - 1) (sym stands.1) stands.0

-- no turn
pub driven_none : {A : Type 0} (t : A → Tally) (w : WorldOf) (ss : List Step) (ws : List ℕ) (links : List A) → ws ≡ packet_counts w.sites → length ws ≡ length links → LinksDriveOk t 0 (read_at w ss links) (read_at w ss links) 0
driven_none t w ss ws links all same = record {
  kept = refl;
  asked = rose_none (map (λ l. (t l).asked) links);
  given = given_none (delivers_in ss) (map (λ l. (t l).given) links);
  sent = sent_none (packet_counts w.sites) (map (λ l. (t l).sent) links) (rw (map_length (λ l. (t l).sent) links, sym all) same);
}

-- one more turn
pub driven_on : {A : Type 0} (t : A → Tally) (turns : ℕ) (w u v : WorldOf) (before mid after : List Step) (ws us : List ℕ) (olds mids news : List A) (known more foreign : ℕ)
    → ws ≡ packet_counts u.sites → us ≡ packet_counts v.sites → delivers_in after ≡ delivers_in mid + known → LinksDriveOk t turns (read_at w before olds) (read_at u mid mids) foreign
    → LinksExchangeOk t 2 (known + more) ws us mids news → LinksDriveOk t (turns + 1) (read_at w before olds) (read_at v after news) (foreign + more)
driven_on t turns w u v before mid after ws us olds mids news known more foreign start end rise h g = record {
  kept = g.kept ∙ h.kept;
  asked =
      rose_less (2 * (turns + 1)) (2 * turns + 2) (map (λ l. (t l).asked) olds) (map (λ l. (t l).asked) news) (omega arith)
      (rose_on (2 * turns) 2 (map (λ l. (t l).asked) olds) (map (λ l. (t l).asked) mids) (map (λ l. (t l).asked) news) h.asked g.asked);
  given =
      given_on (delivers_in before) (delivers_in mid) (delivers_in after) known foreign more (foreign + more) (map (λ l. (t l).given) olds) (map (λ l. (t l).given) mids) (map (λ l. (t l).given) news)
      rise refl h.given g.given;
  sent =
      sent_turn (packet_counts w.sites) (packet_counts u.sites) (packet_counts v.sites) ws us (map (λ l. (t l).sent) olds) (map (λ l. (t l).sent) mids) (map (λ l. (t l).sent) news)
      start end h.sent g.sent;
}
