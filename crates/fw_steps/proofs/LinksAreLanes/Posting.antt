-- The agent's packets are appended to those of the devices that they go to.
use Rattle.std.proofs.Common.{◌≡◌, ◌≢◌, ◌∙◌, ◌+◌, ◌==◌, ℕ, Bool, true, false, if◌then◌else◌, List, [], ◌∷◌, ◌++◌, map, slice_set, Option, Some, None, IfSome, inl, inr, refl, sym, ap, subst}
use Rattle.std.specs.List.{AllByRecursion, filter}
use Rattle.std.specs.Option.{option_map}
use Rattle.std.proofs.lemmas.Bool.{eq-eqb, ne_eqb}
use Rattle.std.proofs.lemmas.Bool.Decides.{eqb_tells}
use Rattle.std.proofs.lemmas.List.{append-nil, append_assoc}
use Rattle.fw_steps.specs.Worlds.{SiteOf, place_from, place_of, post, post_at, posts, sent_now, site_at, site_for}
use Rattle.fw_steps.proofs.LinksAreLanes.Firsts.{at_place, first_changed, first_key, first_of, first_put, first_set, is_first, place_by, put_at}
use Rattle.fw_steps.proofs.LinksAreLanes.Sendings.{GoesTo}

-- the identifier of a device
abbrev pub site_eid : SiteOf → ℕ
site_eid x = x.node.endpoint.eid

-- the first device of this identifier
abbrev pub first_site : List SiteOf → ℕ → Option SiteOf
first_site xs eid = first_of site_eid xs eid

same_place : (n : ℕ) (xs : List SiteOf) (eid : ℕ) → place_from n xs eid ≡ place_by site_eid n xs eid
same_place n [] eid = refl
same_place n (x ∷ xs) eid = ap (λ o. if x.node.endpoint.eid == eid then Some n else o) (same_place (n + 1) xs eid)

pub same_site : (xs : List SiteOf) (o : Option ℕ) → site_at xs o ≡ at_place xs o
same_site xs None = refl
same_site xs (Some i) = refl

pub site_is_first : (xs : List SiteOf) (eid : ℕ) → site_for xs eid ≡ first_site xs eid
site_is_first xs eid = same_site xs (place_of xs eid) ∙ ap (at_place xs) (same_place 0 xs eid) ∙ is_first site_eid xs eid

-- If a device is replaced by another with the same identifier, the others stay.
pub site_set : (xs : List SiteOf) (y : SiteOf) (own eid p : ℕ) → place_of xs own ≡ Some p → site_eid y ≡ own
    → site_for (slice_set xs p y) eid ≡ (if own == eid then Some y else site_for xs eid)
site_set xs y own eid p there is =
    site_is_first (slice_set xs p y) eid ∙ first_set site_eid xs y own eid p (sym (same_place 0 xs own) ∙ there) is
    ∙ ap (λ o. if own == eid then Some y else o) (sym (site_is_first xs eid))

-- a device has the identifier by which it was found
pub site_of : (xs : List SiteOf) (eid : ℕ) → IfSome (site_for xs eid) (λ x. site_eid x ≡ eid)
site_of xs eid = subst (λ o. IfSome o (λ x. site_eid x ≡ eid)) (sym (site_is_first xs eid)) (first_key site_eid xs eid)

pub site_found : (xs : List SiteOf) (eid : ℕ) (x : SiteOf) → site_for xs eid ≡ Some x → site_eid x ≡ eid
site_found xs eid x e = subst (λ o. IfSome o (λ y. site_eid y ≡ eid)) e (site_of xs eid)

-- a packet appended to those of a device
abbrev pub with_packet : ℕ → List ℕ → SiteOf → SiteOf
with_packet now packet x = record x { packets = x.packets ++ sent_now now (packet ∷ []) }

-- the packet goes to this device
abbrev pub is_to : ℕ → List ℕ → Bool
is_to eid (version ∷ dest ∷ rest) = dest == eid
is_to eid bytes = false

-- a device's packets after a packet that is for it, or for another
abbrev with_if : Bool → ℕ → List ℕ → Option SiteOf → Option SiteOf
with_if true now packet o = option_map (with_packet now packet) o
with_if false now packet o = o

-- a packet to no device
unposted : (now : ℕ) (packet : List ℕ) (xs : List SiteOf) (dest eid : ℕ) → site_for xs dest ≡ None → site_for xs eid ≡ with_if (dest == eid) now packet (site_for xs eid)
unposted now packet xs dest eid none = elim (eqb_tells dest eid) [
  | inl same ↦
      let here : site_for xs eid ≡ None = ap (site_for xs) (sym same.1) ∙ none in
      here ∙ sym (ap (λ b. with_if b now packet (site_for xs eid)) same.0 ∙ ap (option_map (with_packet now packet)) here)
  | inr other ↦ rw other.0 refl
]

posted_to : (now : ℕ) (packet : List ℕ) (xs : List SiteOf) (dest eid : ℕ) (x : SiteOf) → site_for xs dest ≡ Some x
    → (if dest == eid then Some (with_packet now packet x) else site_for xs eid) ≡ with_if (dest == eid) now packet (site_for xs eid)
posted_to now packet xs dest eid x found = elim (eqb_tells dest eid) [
  | inl same ↦
      let here : site_for xs eid ≡ Some x = ap (site_for xs) (sym same.1) ∙ found in
      rw same.0 (sym (ap (option_map (with_packet now packet)) here))
  | inr other ↦ rw other.0 refl
]

post_by : (now : ℕ) (packet : List ℕ) (xs : List SiteOf) (dest eid : ℕ) (o : Option ℕ) (s : Option SiteOf) → place_of xs dest ≡ o → site_for xs dest ≡ s
    → site_for (post_at now xs packet o s) eid ≡ with_if (dest == eid) now packet (site_for xs eid)
post_by now packet xs dest eid None None there found = unposted now packet xs dest eid found
post_by now packet xs dest eid None (Some x) there found = absurd (let none : None ≡ Some x = sym (ap (site_at xs) there) ∙ found in cc)
post_by now packet xs dest eid (Some p) None there found = unposted now packet xs dest eid found
post_by now packet xs dest eid (Some p) (Some x) there found =
    site_set xs (with_packet now packet x) dest eid p there (site_found xs dest x found) ∙ posted_to now packet xs dest eid x found

-- one packet
post_one : (now : ℕ) (xs : List SiteOf) (packet : List ℕ) (eid : ℕ) → site_for (post now xs packet) eid ≡ with_if (is_to eid packet) now packet (site_for xs eid)
post_one now xs [] eid = refl
post_one now xs (version ∷ []) eid = refl
post_one now xs (version ∷ dest ∷ rest) eid = post_by now (version ∷ dest ∷ rest) xs dest eid (place_of xs dest) (site_for xs dest) refl refl

-- all packets
abbrev pub with_packets : ℕ → List (List ℕ) → SiteOf → SiteOf
with_packets now packets x = record x { packets = x.packets ++ sent_now now packets }

pub none_behind : (now : ℕ) (o : Option SiteOf) → o ≡ option_map (with_packets now []) o
none_behind now None = refl
none_behind now (Some x) = ap (λ ps. Some (record x { packets = ps })) (sym (append-nil x.packets))

one_behind : (now : ℕ) (packet : List ℕ) (packets : List (List ℕ)) (mine : Bool) (o : Option SiteOf)
    → option_map (with_packets now packets) (with_if mine now packet o) ≡ option_map (with_packets now (if mine then packet ∷ packets else packets)) o
one_behind now packet packets true None = refl
one_behind now packet packets true (Some x) =
    ap (λ ps. Some (record x { packets = ps })) (append_assoc x.packets (sent_now now (packet ∷ [])) (sent_now now packets))
one_behind now packet packets false o = refl

-- A device gets the packets that go to it, appended to its own, and no others.
pub posts_at : (now : ℕ) (packets : List (List ℕ)) (xs : List SiteOf) (eid : ℕ)
    → site_for (posts now xs packets) eid ≡ option_map (with_packets now (filter (is_to eid) packets)) (site_for xs eid)
posts_at now [] xs eid = none_behind now (site_for xs eid)
posts_at now (p ∷ ps) xs eid =
    posts_at now ps (post now xs p) eid
    ∙ ap (option_map (with_packets now (filter (is_to eid) ps))) (post_one now xs p eid)
    ∙ one_behind now p (filter (is_to eid) ps) (is_to eid p) (site_for xs eid)

-- All devices change, and keep their identifiers.
pub site_changed : (f : SiteOf → SiteOf) → ((x : SiteOf) → site_eid (f x) ≡ site_eid x) → (xs : List SiteOf) (eid : ℕ) → site_for (map f xs) eid ≡ option_map f (site_for xs eid)
site_changed f same xs eid =
    site_is_first (map f xs) eid ∙ first_changed site_eid f same xs eid ∙ ap (option_map f) (sym (site_is_first xs eid))

-- One device changes.
pub site_put : (g : SiteOf → SiteOf) → ((x : SiteOf) → site_eid (g x) ≡ site_eid x) → (xs : List SiteOf) (own eid : ℕ)
    → site_for (put_at g xs (place_of xs own) (site_for xs own)) eid ≡ (if own == eid then option_map g (site_for xs eid) else site_for xs eid)
site_put g same xs own eid =
    site_is_first (put_at g xs (place_of xs own) (site_for xs own)) eid
    ∙ first_put site_eid g same xs own eid (place_of xs own) (site_for xs own) (sym (same_place 0 xs own)) (sym (site_is_first xs own))
    ∙ ap (λ o. if own == eid then option_map g o else o) (sym (site_is_first xs eid))

-- packets that all go to one device
pub all_mine : (eid : ℕ) (packets : List (List ℕ)) → AllByRecursion (GoesTo eid) packets → filter (is_to eid) packets ≡ packets
all_mine eid [] h = refl
all_mine eid ([] ∷ ps) h = absurd h.0
all_mine eid ((version ∷ []) ∷ ps) h = absurd h.0
all_mine eid ((version ∷ dest ∷ rest) ∷ ps) h = rw (eq-eqb dest eid h.0) (ap (λ qs. (version ∷ dest ∷ rest) ∷ qs) (all_mine eid ps h.1))

pub none_mine : (eid other : ℕ) (packets : List (List ℕ)) → other ≢ eid → AllByRecursion (GoesTo other) packets → filter (is_to eid) packets ≡ []
none_mine eid other [] differ h = refl
none_mine eid other ([] ∷ ps) differ h = absurd h.0
none_mine eid other ((version ∷ []) ∷ ps) differ h = absurd h.0
none_mine eid other ((version ∷ dest ∷ rest) ∷ ps) differ h = rw (ne_eqb dest eid (λ z. differ (sym h.0 ∙ z))) (none_mine eid other ps differ h.1)
