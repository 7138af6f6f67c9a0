-- Steps that are due, as of the world before them.
use Rattle.std.proofs.Common.{◌≡◌, ◌≢◌, ◌≤◌, ◌<◌, ◌+◌, ◌++◌, ◌∙◌, ℕ, zero, suc, List, [], ◌∷◌, true, if◌then◌else◌, Option, Some, None, is_some, length, slice_get, take, append_assoc, append-nil, refl, sym, ap, subst, arith}
use Rattle.std.specs.Prelude.{option_map, option_to_list}
use Rattle.std.proofs.lemmas.Bool.{ne_eqb}
use Rattle.std.proofs.lemmas.List.{take_all}
use Rattle.std.proofs.lemmas.Option.{slice_get-map}
use Rattle.fd_core.specs.declared.states.Verdict.{Verdict}
use Rattle.fw_node.specs.Agents.{half_after_activate, half_at, half_for, place_of as half_place, ready_for, ready_in}
use Rattle.fw_node.specs.Halves.{HalfOf}
use Rattle.ua_core.specs.Session.{SessionOf, TimedOf}
use Rattle.fw_steps.specs.Opening.{AreDifferent}
use Rattle.fw_steps.specs.Steps.{StepsTo, Run}
use Rattle.fw_steps.specs.Worlds.{SiteOf, WorldOf, activates_on, eids_of, place_of, site_for}
use Rattle.fw_steps.specs.declared.step.Step.{Step}
use Rattle.fw_steps.specs.declared.step.Step.TheVariants as steps
use Rattle.fw_steps.proofs.LinksAreLanes.AgentTicks.{half_put}
use Rattle.fw_steps.proofs.LinksAreLanes.Places.{one_key}
use Rattle.fw_steps.proofs.LinksAreLanes.Posting.{site_put}
use Rattle.fw_steps.proofs.LinksAreLanes.Projection.{becomes_put, judged_site, judges_put}
use Rattle.fw_steps.proofs.Reaching.{run_eids}
use Rattle.fw_edge.specs.Drives.{DrivesCounted, ticks_in}
use Rattle.fw_edge.specs.Outcomes.{StepErr, StepsErr}
use Rattle.fw_edge.specs.Turns.{TakesAll, TakesIf, TakesSome, activation_for, all_due, awaited_in, due_at, verdict_for}
use Rattle.fw_edge.specs.declared.driving.EdgeFault.{EdgeFault}
use Rattle.fw_edge.proofs.Going.{drives_same, run_append}
use Rattle.fw_edge.proofs.Rising.{map_length}

-- A step that is due for one device doesn't change what is due for another.
pub record ForOne (due : WorldOf → ℕ → Option Step) : Type 0 where
  pub apart : (w v : WorldOf) (own other : ℕ) (s : Step) → due w own ≡ Some s → StepsTo w s v → own ≢ other → due v other ≡ due w other

-- this holds for a verdict
judged_keeps : (w v : WorldOf) (own other : ℕ) (verdict : Verdict) → StepsTo w (steps.Verdict own verdict) v → own ≢ other → site_for v.sites other ≡ site_for w.sites other
judged_keeps w v own other verdict l differ =
    ap (λ x. site_for x.sites other) l.after
    ∙ ap (λ xs. site_for xs other) (judges_put l.works l.faults w verdict (place_of w.sites own) (site_for w.sites own))
    ∙ site_put (judged_site l.works l.faults verdict) (λ x. refl) w.sites own other
    ∙ ap (λ b. if b then option_map (judged_site l.works l.faults verdict) (site_for w.sites other) else site_for w.sites other) (ne_eqb own other differ)

verdict_apart : (w v : WorldOf) (own other : ℕ) (s : Step) (awaited : Option Verdict) → option_map (λ x. steps.Verdict own x) awaited ≡ Some s → StepsTo w s v → own ≢ other
    → verdict_for v other ≡ verdict_for w other
verdict_apart w v own other s None is l differ = absurd (cc)
verdict_apart w v own other s (Some verdict) is l differ =
    let same : steps.Verdict own verdict ≡ s = cc in
    ap (λ x. option_map (λ r. steps.Verdict other r) (awaited_in x)) (judged_keeps w v own other verdict (subst (λ x. StepsTo w x v) (sym same) l) differ)

pub verdicts_for_one : ForOne verdict_for
verdicts_for_one = record { apart = λ w v own other s is l differ. verdict_apart w v own other s (awaited_in (site_for w.sites own)) is l differ }

-- this holds for an activation
activated_keeps : (w : WorldOf) (own other : ℕ) (session : Option SessionOf) → own ≢ other → half_for (activates_on w own session).agent other ≡ half_for w.agent other
activated_keeps w own other None differ = refl
activated_keeps w own other (Some s) differ =
    let call : HalfOf TimedOf → HalfOf TimedOf = λ h. half_after_activate w.packages h s in
    ap (λ hs. half_at hs (half_place hs other)) (becomes_put w.agent w.now call (half_place w.agent.halves own) (half_for w.agent own))
    ∙ half_put call (λ h. refl) w.agent.halves own other
    ∙ ap (λ b. if b then option_map call (half_for w.agent other) else half_for w.agent other) (ne_eqb own other differ)

activation_apart : (w v : WorldOf) (own other : ℕ) (s : Step) (session : Option SessionOf) → (if is_some session then Some (steps.Activate own) else None) ≡ Some s → StepsTo w s v → own ≢ other
    → activation_for v other ≡ activation_for w other
activation_apart w v own other s None is l differ = absurd (cc)
activation_apart w v own other s (Some x) is l differ =
    let same : steps.Activate own ≡ s = cc in
    let led : StepsTo w (steps.Activate own) v = subst (λ y. StepsTo w y v) (sym same) l in
    ap (λ h. if is_some (ready_in h) then Some (steps.Activate other) else None)
    (ap (λ y. half_for y.agent other) led.after ∙ activated_keeps w own other (ready_for w.agent own) differ)

pub activations_for_one : ForOne activation_for
activations_for_one = record { apart = λ w v own other s is l differ. activation_apart w v own other s (ready_for w.agent own) is l differ }

-- The step that is due at a place, by the identifier there.
abbrev due_by : (WorldOf → ℕ → Option Step) → WorldOf → Option ℕ → Option Step
due_by due w None = None
due_by due w (Some e) = due w e

at_eid : (due : WorldOf → ℕ → Option Step) (w : WorldOf) (x : Option SiteOf) → due_at due w x ≡ due_by due w (option_map (λ y. y.node.endpoint.eid) x)
at_eid due w None = refl
at_eid due w (Some x) = refl

at_place : (due : WorldOf → ℕ → Option Step) (w : WorldOf) (i : ℕ) → due_at due w (slice_get w.sites i) ≡ due_by due w (slice_get (eids_of w.sites) i)
at_place due w i = at_eid due w (slice_get w.sites i) ∙ ap (due_by due w) (sym (slice_get-map (λ y. y.node.endpoint.eid) w.sites i))

-- a step that is due is taken
taken_eids : (w v : WorldOf) (before after : List Step) (s : Option Step) → TakesIf w before s v after → eids_of v.sites ≡ eids_of w.sites
taken_eids w v before after None h = ap (λ x. eids_of x.sites) h.0
taken_eids w v before after (Some s) h = run_eids w v (s ∷ []) (v, h.0, refl)

taken_all : (w u v : WorldOf) (before mid after ss : List Step) (s : Option Step) → TakesAll w before ss u mid → TakesIf u mid s v after → TakesAll w before (ss ++ option_to_list s) v after
taken_all w u v before mid after ss None h k =
    (subst (λ xs. Run w xs v) (sym (append-nil ss)) (subst (λ x. Run w ss x) (sym k.0) h.0), k.1 ∙ h.1 ∙ ap (λ xs. before ++ xs) (sym (append-nil ss)))
taken_all w u v before mid after ss (Some s) h k =
    (run_append w u v ss (s ∷ []) h.0 (v, k.0, refl), k.1 ∙ ap (λ xs. xs ++ s ∷ []) h.1 ∙ append_assoc before ss (s ∷ []))

-- it doesn't change what is due after it
behind_by : (due : WorldOf → ℕ → Option Step) (w v : WorldOf) (before after : List Step) (own : ℕ) (s : Option Step) (o : Option ℕ) → ForOne due → due w own ≡ s
    → TakesIf w before s v after → ((e : ℕ) → o ≡ Some e → own ≢ e) → due_by due v o ≡ due_by due w o
behind_by due w v before after own s None one is h differ = refl
behind_by due w v before after own None (Some e) one is h differ = ap (λ x. due x e) h.0
behind_by due w v before after own (Some s) (Some e) one is h differ = one.apart w v own e s is h.0 (differ e refl)

behind_place : (due : WorldOf → ℕ → Option Step) (w v : WorldOf) (before after : List Step) (i j : ℕ) (o : Option ℕ) → ForOne due → AreDifferent (eids_of w.sites) → i < j
    → slice_get (eids_of w.sites) i ≡ o → TakesIf w before (due_by due w o) v after
    → due_by due v (slice_get (eids_of w.sites) j) ≡ due_by due w (slice_get (eids_of w.sites) j)
behind_place due w v before after i j None one apart lt at h = ap (λ x. due_by due x (slice_get (eids_of w.sites) j)) h.0
behind_place due w v before after i j (Some own) one apart lt at h =
    behind_by due w v before after own (due w own) (slice_get (eids_of w.sites) j) one refl h
    (λ e there same. let again : slice_get (eids_of w.sites) j ≡ Some own = there ∙ ap Some (sym same) in
    let place : i ≡ j = one_key (eids_of w.sites) i j own apart at again in absurd (omega arith))

behind : (due : WorldOf → ℕ → Option Step) (w v : WorldOf) (before after : List Step) (i j : ℕ) → ForOne due → AreDifferent (eids_of w.sites) → i < j
    → TakesIf w before (due_at due w (slice_get w.sites i)) v after → due_at due v (slice_get v.sites j) ≡ due_at due w (slice_get w.sites j)
behind due w v before after i j one apart lt h =
    at_place due v j ∙ ap (λ es. due_by due v (slice_get es j)) (taken_eids w v before after (due_at due w (slice_get w.sites i)) h)
    ∙ behind_place due w v before after i j (slice_get (eids_of w.sites) i) one apart lt refl (subst (λ s. TakesIf w before s v after) (at_place due w i) h)
    ∙ sym (at_place due w j)

-- The due steps of the first `n` places are taken, and those of the later places are unchanged.
pub record Due (due : WorldOf → ℕ → Option Step) (n : ℕ) (w : WorldOf) (before : List Step) (v : WorldOf) (after : List Step) : Type 0 where
  pub taken : TakesAll w before (all_due due w (take n (eids_of w.sites))) v after
  pub eids : eids_of v.sites ≡ eids_of w.sites
  pub left : (j : ℕ) → n ≤ j → due_at due v (slice_get v.sites j) ≡ due_at due w (slice_get w.sites j)

pub due_none : (due : WorldOf → ℕ → Option Step) (w : WorldOf) (ss : List Step) → Due due 0 w ss w ss
due_none due w ss = record { taken = (refl, sym (append-nil ss)); eids = refl; left = λ j le. refl }

one_more : (due : WorldOf → ℕ → Option Step) (w : WorldOf) (es : List ℕ) (i : ℕ) → all_due due w (take (suc i) es) ≡ all_due due w (take i es) ++ option_to_list (due_by due w (slice_get es i))
one_more due w [] zero = refl
one_more due w [] (suc i) = refl
one_more due w (e ∷ es) zero = append-nil (option_to_list (due w e))
one_more due w (e ∷ es) (suc i) =
    ap (λ ss. option_to_list (due w e) ++ ss) (one_more due w es i)
    ∙ sym (append_assoc (option_to_list (due w e)) (all_due due w (take i es)) (option_to_list (due_by due w (slice_get es i))))

pub due_next : (due : WorldOf → ℕ → Option Step) (n : ℕ) (w u v : WorldOf) (before mid after : List Step) → ForOne due → AreDifferent (eids_of w.sites) → Due due n w before u mid
    → TakesIf u mid (due_at due u (slice_get u.sites n)) v after → Due due (n + 1) w before v after
due_next due n w u v before mid after one apart earlier h = record {
  taken = subst (λ ss. TakesAll w before ss v after) more (taken_all w u v before mid after _ (due_at due w (slice_get w.sites n)) earlier.taken now);
  eids = taken_eids u v mid after (due_at due u (slice_get u.sites n)) h ∙ earlier.eids;
  left = λ j le. behind due u v mid after n j one (subst AreDifferent (sym earlier.eids) apart) (omega arith) h ∙ earlier.left j (omega arith);
}
  where
    now : TakesIf u mid (due_at due w (slice_get w.sites n)) v after
    now = subst (λ s. TakesIf u mid s v after) (earlier.left n (omega arith)) h

    more : all_due due w (take n (eids_of w.sites)) ++ option_to_list (due_at due w (slice_get w.sites n)) ≡ all_due due w (take (n + 1) (eids_of w.sites))
    more =
        let next : suc n ≡ n + 1 = omega arith in
        ap (λ s. all_due due w (take n (eids_of w.sites)) ++ option_to_list s) (at_place due w n) ∙ sym (one_more due w (eids_of w.sites) n)
        ∙ ap (λ k. all_due due w (take k (eids_of w.sites))) next

-- all due steps, as of the world before
pub due_all : (due : WorldOf → ℕ → Option Step) (n : ℕ) (w v : WorldOf) (before after : List Step) → length w.sites ≤ n → Due due n w before v after
    → TakesAll w before (all_due due w (eids_of w.sites)) v after
due_all due n w v before after le h =
    subst (λ es. TakesAll w before (all_due due w es) v after)
    (take_all n (eids_of w.sites) (let same = map_length (λ x. x.node.endpoint.eid) w.sites in omega arith)) h.taken

-- The due step of one device comes after the due steps of the devices before it.
record Split (due : WorldOf → ℕ → Option Step) (w : WorldOf) (es : List ℕ) (n : ℕ) : Type 0 where
  pub refused : Step
  pub rest : List Step
  pub are : all_due due w es ≡ all_due due w (take n es) ++ refused ∷ rest

split_first : (due : WorldOf → ℕ → Option Step) (w : WorldOf) (e : ℕ) (es : List ℕ) (o : Option Step) → due w e ≡ o → is_some o ≡ true → Split due w (e ∷ es) 0
split_first due w e es None is h = absurd (cc)
split_first due w e es (Some s) is h = record { refused = s; rest = all_due due w es; are = ap (λ x. option_to_list x ++ all_due due w es) is }

split_due : (due : WorldOf → ℕ → Option Step) (w : WorldOf) (es : List ℕ) (n : ℕ) → is_some (due_by due w (slice_get es n)) ≡ true → Split due w es n
split_due due w [] n h = absurd (cc)
split_due due w (e ∷ es) zero h = split_first due w e es (due w e) refl h
split_due due w (e ∷ es) (suc n) h =
    let k = split_due due w es n h in
    record {
      refused = k.refused;
      rest = k.rest;
      are = ap (λ ss. option_to_list (due w e) ++ ss) k.are ∙ sym (append_assoc (option_to_list (due w e)) (all_due due w (take n es)) (k.refused ∷ k.rest));
    }

due_some : (due : WorldOf → ℕ → Option Step) (n : ℕ) (w u v : WorldOf) (before mid after : List Step) → Due due n w before u mid → is_some (due_at due u (slice_get u.sites n)) ≡ true
    → v ≡ u → after ≡ mid → TakesSome w before (all_due due w (eids_of w.sites)) v after
due_some due n w u v before mid after h there same unlisted =
    let one : is_some (due_by due w (slice_get (eids_of w.sites) n)) ≡ true = ap is_some (sym (h.left n (omega arith) ∙ at_place due w n)) ∙ there in
    let k = split_due due w (eids_of w.sites) n one in
    record {
      taken = all_due due w (take n (eids_of w.sites));
      refused = k.refused;
      rest = k.rest;
      are = k.are;
      takes =
          subst (λ x. TakesAll w before (all_due due w (take n (eids_of w.sites))) x after) (sym same)
          (subst (λ xs. TakesAll w before (all_due due w (take n (eids_of w.sites))) u xs) (sym unlisted) h.taken);
    }

-- The step that is due at a place isn't taken.
pub due_stops : (due : WorldOf → ℕ → Option Step) (n : ℕ) (e : EdgeFault) (w u v : WorldOf) (before mid after : List Step) → Due due n w before u mid → DrivesCounted w before u mid 0 0
    → is_some (due_at due u (slice_get u.sites n)) ≡ true → StepErr e u mid v after → StepsErr e (all_due due w (eids_of w.sites)) w before v after
due_stops due n e w u v before mid after h goes there refused = record {
  drives = drives_same w u v before mid after goes.drives refused.same refused.unlisted;
  no_tick = ap ticks_in refused.unlisted ∙ goes.ticks_rise ∙ none (ticks_in before);
  fault = refused.fault;
  some = due_some due n w u v before mid after h there refused.same refused.unlisted;
}
  where
    none : (k : ℕ) → k + 0 ≡ k
    none k = omega arith
