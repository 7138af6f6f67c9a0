-- No device has the agent's identifier, after any steps.
use Rattle.std.proofs.Common.{◌≡◌, ◌≢◌, ◌∷◌, ◌++◌, ◌==◌, ℕ, zero, suc, Bool, true, false, if◌then◌else◌, ◌∙◌, List, [], Option, Some, None, ap, map, refl, set, subst, sym}
use Rattle.std.specs.Prelude.{slice_get}
use Rattle.std.proofs.lemmas.Bool.{ne_eqb}
use Rattle.fw_package.specs.Package.{PackageText}
use Rattle.fw_message.specs.Nodes.{CountedOf}
use Rattle.fw_message.specs.Replays.{counted_restarted}
use Rattle.fw_message.specs.Worlds.{NodeOf, node_at}
use Rattle.fw_message.proofs.Safety.Worlds.{restarted_node}
use Rattle.fw_message.proofs.Stepping.{node_in, nodes_restarted}

pub absent_more : (ns : List NodeOf) (n : NodeOf) (a : ℕ) → node_at ns a ≡ None → n.eid ≢ a → node_at (ns ++ n ∷ []) a ≡ None
absent_more [] n a e h = rw (ne_eqb n.eid a h) refl
absent_more (m ∷ ns) n a e h = at_test (m.eid == a) e (λ (none : node_at ns a ≡ None). absent_more ns n a none h)
  where
    at_test : (t : Bool) → (if t then Some m else node_at ns a) ≡ None → (node_at ns a ≡ None → node_at (ns ++ n ∷ []) a ≡ None)
        → (if t then Some m else node_at (ns ++ n ∷ []) a) ≡ None
    at_test true e rest = absurd (cc)
    at_test false e rest = rest e

absent_here : (t : Bool) (m n : NodeOf) (o : Option NodeOf) → (if t then Some m else o) ≡ None → (if t then Some n else o) ≡ None
absent_here true m n o e = absurd (cc)
absent_here false m n o e = e

absent_there : (t : Bool) (m : NodeOf) (o p : Option NodeOf) → (o ≡ None → p ≡ None) → (if t then Some m else o) ≡ None → (if t then Some m else p) ≡ None
absent_there true m o p rest e = absurd (cc)
absent_there false m o p rest e = rest e

pub absent_put : (pairs : List CountedOf) (p after : CountedOf) (place a : ℕ) → slice_get pairs place ≡ Some p → after.node.eid ≡ p.node.eid
    → node_at (map node_in pairs) a ≡ None → node_at (map node_in (set pairs place after)) a ≡ None
absent_put [] p after place a found same e = absurd (cc)
absent_put (q ∷ pairs) p after zero a found same e =
    let is : p.node.eid ≡ q.node.eid = let whole : p ≡ q = cc in ap (λ x. x.node.eid) whole in
    let P : ℕ → Type 0 = λ k. (if k == a then Some after.node else node_at (map node_in pairs) a) ≡ None in
    subst P (sym (same ∙ is)) (absent_here (q.node.eid == a) q.node after.node (node_at (map node_in pairs) a) e)
absent_put (q ∷ pairs) p after (suc place) a found same e =
    absent_there (q.node.eid == a) q.node (node_at (map node_in pairs) a) (node_at (map node_in (set pairs place after)) a) (absent_put pairs p after place a found same) e

pub absent_restarted : (ps : List PackageText) (pairs : List CountedOf) (a : ℕ) → node_at (map node_in pairs) a ≡ None
    → node_at (map node_in (map (counted_restarted ps) pairs)) a ≡ None
absent_restarted ps pairs a e = rw (nodes_restarted ps pairs, restarted_node ps (map node_in pairs) a, e) refl
