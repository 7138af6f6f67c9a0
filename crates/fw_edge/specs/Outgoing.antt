-- The bytes that links take of the packets of their pairs.
use Rattle.std.specs.Prelude.{ℕ, zero, suc, ◌≡◌, List, [], ◌∷◌, drop, length, map, Option, None, Some}
use Rattle.fw_steps.specs.Worlds.{SiteOf, WorldOf}
use Rattle.fw_edge.specs.Frames.{frames_of}
use Rattle.fw_edge.specs.Ledgers.{packet_counts}
use Rattle.fw_edge.specs.Links.{LinkBytes, GrowsAt, LinksOf, end_of}

-- a link took these packets, one after the other, each at the end of its source
abbrev pub LinkTakesAll : (device : ℕ) → LinkBytes → List (List ℕ) → LinkBytes → Type 0
LinkTakesAll device old [] new = new ≡ old
LinkTakesAll device old (packet ∷ packets) new = (mid : LinkBytes) × GrowsAt (end_of packet device) (frames_of (packet ∷ [])) old mid × LinkTakesAll device mid packets new

-- a link took the packets of a device's pair after the first `written`, in ascending numbers
abbrev pub LinkTakesPair : Option SiteOf → (written : ℕ) → LinkBytes → LinkBytes → Type 0
LinkTakesPair None written old new = new ≡ old
LinkTakesPair (Some x) written old new = LinkTakesAll x.node.endpoint.eid old (map (λ p. p.bytes) (drop written x.packets)) new

-- the links of the first devices took the packets of their pairs, and the other links none
abbrev pub LinksTakePairs : ℕ → List SiteOf → (written : List ℕ) → List LinkBytes → List LinkBytes → Type 0
LinksTakePairs zero xs ws olds news = news ≡ olds
LinksTakePairs (suc n) (x ∷ xs) (w ∷ ws) (old ∷ olds) (new ∷ news) = LinkTakesPair (Some x) w old new × LinksTakePairs n xs ws olds news
LinksTakePairs (suc n) xs ws olds news = ⊥

-- Each link takes the packets of its pair that aren't written to it; then all are written.
pub record WritesOut (w : WorldOf) (before after : LinksOf) : Type 0 where
  pub took : LinksTakePairs (length before.took) w.sites before.written before.took after.took
  pub all : after.written ≡ packet_counts w.sites
  pub gave_none : after.gave ≡ before.gave
