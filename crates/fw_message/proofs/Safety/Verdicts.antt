-- Verdicts keep the invariant.
use Rattle.std.specs.Prelude.{◌++◌, ℕ, Bool, true, false, List, [], ◌∷◌, length, Option, Some, None}
use Rattle.std.proofs.Common.{subst, inl, inr}
use Rattle.fw_package.specs.Package.{ComponentOf, DescriptorOf, PackageText}
use Rattle.fwup_wire.specs.Values.{CommandOf}
use Rattle.fwup_wire.specs.declared.values.Key.{Key}
use Rattle.fd_core.specs.Images.{RowOf, rows_after_seal}
use Rattle.fd_core.specs.States.{DeviceState, Phase, UpdateOf, WorkOf}
use Rattle.fd_core.specs.Steps.{verdict_at, written_image}
use Rattle.fd_core.specs.Wishes.{wish_at}
use Rattle.fd_core.specs.declared.states.Progress.{Progress}
use Rattle.fd_core.specs.declared.states.Progress.TheVariants as progress
use Rattle.fd_core.specs.declared.states.Verdict.{Verdict}
use Rattle.fd_core.specs.declared.states.Verdict.TheVariants as verdicts
use Rattle.ua_core.specs.Lent.{key_of, package_at}
use Rattle.ua_core.specs.Session.{Stage}
use Rattle.ua_core.specs.declared.planned.Recorded.{Recorded}
use Rattle.fw_message.specs.Headline.{EntryOf}
use Rattle.fw_message.specs.Pairs.{CellContentOf, PairOf, StepOf, step_after_verdict, step_of}
use Rattle.fw_message.proofs.Safety.Agreement.{Holds, IsHeld, IsSealed, IsStanding, IsUnderWay, Pending, Together, asked_of, at_hand, command_of}
use Rattle.fw_message.proofs.Safety.Applied.{AppliedIs, BackedBut, put_of, sealed_applied, sealed_others}
use Rattle.fw_message.proofs.Safety.Counts.{IsPending, NeverMore, pending_applied, balanced_never}
use Rattle.fw_message.proofs.Safety.Down.{Leaves}
use Rattle.fw_message.proofs.Safety.Histories.{history_applied}
use Rattle.fw_message.proofs.Safety.Moves.{IsMove, moves_stand, stray_moves, together_moves}
use Rattle.fw_message.proofs.Safety.Readings.{since, since_applied}

-- a device without a pending command has an empty cell
nothing_own : (c wish : Option CommandOf) → Holds None c → Holds wish c
nothing_own None wish h = tt
nothing_own (Some c) wish h = absurd (cc)

still_told : (u : UpdateOf) (w : WorkOf) (p q : Progress) (x : Option CellContentOf) → IsUnderWay (Phase.Verify u w p) x
    → IsUnderWay (Phase.Verify u w q) x
still_told u w p q x h = elim h [ inl bad ↦ absurd (cc) | inr told ↦ inr told ]

failing_told : (u : UpdateOf) (w : WorkOf) (q : Progress) (x : Option CellContentOf) → IsUnderWay (Phase.Apply u w (progress.Failed false)) x
    → IsUnderWay (Phase.Apply u w q) x
failing_told u w q x h = elim h [ inl bad ↦ absurd (cc) | inr told ↦ inr told ]

module _ (ps : List PackageText) (ds : List DescriptorOf) where
  verify_judged : (rs : List Recorded) (v : DeviceState) (u : UpdateOf) (w : WorkOf) (q : Progress) (x : Option CellContentOf)
      → IsMove ps ds rs (record v { phase = Phase.Verify u w progress.InProgress }) (record v { phase = Phase.Verify u w q }) x x
  verify_judged rs v u w q x = record {
    lost = λ h. h;
    fresh = λ h. h;
    time = λ h. h;
    begun = λ n c h. h;
    waiting = λ n h. h;
    transfer = λ n c h. h;
    verification = λ n c h. h;
    application = λ n c h. absurd h;
    settled = λ n h. h;
  }

  apply_failed : (rs : List Recorded) (v : DeviceState) (u : UpdateOf) (w : WorkOf) (x : Option CellContentOf)
      → IsMove ps ds rs (record v { phase = Phase.Apply u w progress.InProgress }) (record v { phase = Phase.Apply u w (progress.Failed false) }) x x
  apply_failed rs v u w x = record {
    lost = λ h. h;
    fresh = λ h. h;
    time = λ h. h;
    begun = λ n c h. h;
    waiting = λ n h. h;
    transfer = λ n c h. h;
    verification = λ n c h. h;
    application = λ n c h. h;
    settled = λ n h. h;
  }

  held_sealed : (n : ℕ) (rs : List Recorded) (c : ComponentOf) (v : DeviceState) (w : WorkOf) → IsHeld ps ds n rs c v.rows v.stage w
      → IsSealed ps ds n rs c (rows_after_seal v.rows w.key (written_image v w))
  held_sealed n rs c v w h = record {
    applied = (let P : Key → List ℕ → Type 0 = λ k b. AppliedIs (rows_after_seal v.rows w.key (written_image v w)) k b in
        let here : P w.key v.stage = sealed_applied v.rows w.key (written_image v w) in
        let there : P (key_of c) v.stage = subst (λ (k : Key). P k v.stage) h.same.key here in
        subst (λ (b : List ℕ). P (key_of c) b) h.stage there);
    others = (let P : Key → Type 0 = λ k. BackedBut ps ds n rs k (rows_after_seal v.rows w.key (written_image v w)) in
        subst P h.same.key (sealed_others ps ds n rs v.rows w.key (written_image v w) h.backed));
  }

  abbrev sealing : DeviceState → UpdateOf → WorkOf → DeviceState
  sealing v u w = record v { rows = rows_after_seal v.rows w.key (written_image v w); stage = []; phase = Phase.Apply u w progress.Succeeded }

  apply_sealed : (rs : List Recorded) (v : DeviceState) (u : UpdateOf) (w : WorkOf) (x : Option CellContentOf)
      → IsMove ps ds rs (record v { phase = Phase.Apply u w progress.InProgress }) (sealing v u w) x x
  apply_sealed rs v u w x = record {
    lost = λ h. h;
    fresh = λ h. h;
    time = λ h. h;
    begun = λ n c h. h;
    waiting = λ n h. absurd h;
    transfer = λ n c h. h;
    verification = λ n c h. h;
    application = λ n c h. (held_sealed n rs c v w h.0, h.1);
    settled = λ n h. absurd h;
  }

  -- the application is pending
  sealed_pending : (es : List EntryOf) (m : PairOf) (v : DeviceState) (u : UpdateOf) (w : WorkOf) (n : ℕ) (g : Stage) → NeverMore ps es
      → Together ps ds (since es) (record m { device = record v { phase = Phase.Apply u w progress.InProgress } }) n g
      → Pending ps (es ++ EntryOf.Applied (put_of w.key (written_image v w)) ∷ []) (record m { device = sealing v u w }) n g
  sealed_pending es m v u w n (Stage.Apply t) never h = λ e.
      let P : Key → List ℕ → Type 0 = λ k b. IsPending ps k b (es ++ EntryOf.Applied (put_of w.key (written_image v w)) ∷ []) in
      let c = at_hand (package_at ps n) t in
      let here : P w.key v.stage = pending_applied ps es (put_of w.key (written_image v w)) never in
      let there : P (key_of c) v.stage = subst (λ (k : Key). P k v.stage) h.0.same.key here in
      subst (λ (b : List ℕ). P (key_of c) b) h.0.stage there
  sealed_pending es m v u w n g never h = tt

  module _ (first : List RowOf) (es : List EntryOf) where
    seals : (m : PairOf) (v : DeviceState) (u : UpdateOf) (w : WorkOf)
        → IsStanding ps ds first es (record m { device = record v { phase = Phase.Apply u w progress.InProgress } })
        → IsStanding ps ds first (es ++ EntryOf.Applied (put_of w.key (written_image v w)) ∷ []) (record m { device = sealing v u w })
    seals m v u w s =
        let now = record v { phase = Phase.Apply u w progress.InProgress } in
        let p = put_of w.key (written_image v w) in
        record {
          own = nothing_own (command_of m.up) (wish_at v.unit (Phase.Apply u w progress.Succeeded) 0) s.own;
          command = s.command;
          form = tt;
          together = rw (since_applied es p) (together_moves ps ds (since es) m now (sealing v u w) m.up m.up m.session.number m.session.stage (apply_sealed (since es) v u w m.up) s.together);
          pending = sealed_pending es m v u w m.session.number m.session.stage (balanced_never ps es s.history.safe.applied) s.together;
          stray = rw (since_applied es p) (stray_moves ps ds (since es) now (sealing v u w) m.up m.up (asked_of m.down) (apply_sealed (since es) v u w m.up) s.stray);
          plan = s.plan;
          chosen = s.chosen;
          identified = s.identified;
          told = s.told;
          history = history_applied ps ds first v.rows m.session.records es w.key (written_image v w) s.history;
        }

    verify_verdict : (m : PairOf) (v : DeviceState) (u : UpdateOf) (w : WorkOf) (q : Progress)
        → IsStanding ps ds first es (record m { device = record v { phase = Phase.Verify u w progress.InProgress } })
        → IsStanding ps ds first es (record m { device = record v { phase = Phase.Verify u w q } })
    verify_verdict m v u w q s =
        moves_stand ps ds first es m (record v { phase = Phase.Verify u w progress.InProgress }) (Phase.Verify u w q) v.stage v.previous m.up m.up (verify_judged (since es) v u w q m.up)
        (nothing_own (command_of m.up) (wish_at v.unit (Phase.Verify u w q) (length v.stage)) s.own) tt (still_told u w q progress.InProgress m.up) s

    failed_verdict : (m : PairOf) (v : DeviceState) (u : UpdateOf) (w : WorkOf)
        → IsStanding ps ds first es (record m { device = record v { phase = Phase.Apply u w progress.InProgress } })
        → IsStanding ps ds first es (record m { device = record v { phase = Phase.Apply u w (progress.Failed false) } })
    failed_verdict m v u w s =
        moves_stand ps ds first es m (record v { phase = Phase.Apply u w progress.InProgress }) (Phase.Apply u w (progress.Failed false)) v.stage v.previous m.up m.up (apply_failed (since es) v u w m.up)
        (nothing_own (command_of m.up) (wish_at v.unit (Phase.Apply u w (progress.Failed false)) (length v.stage)) s.own) tt (failing_told u w progress.InProgress m.up) s

    verdict_stands : (m : PairOf) (v : DeviceState) (p : Phase) (verdict : Verdict) (works : Bool)
        → IsStanding ps ds first es (record m { device = record v { phase = p } })
        → Leaves ps ds first es (step_after_verdict (record m { device = record v { phase = p } }) (verdict_at (record v { phase = p }) p verdict works))
    verdict_stands m v (Phase.Verify u w progress.InProgress) verdicts.VerifyOk works s = verify_verdict m v u w progress.Succeeded s
    verdict_stands m v (Phase.Verify u w progress.InProgress) verdicts.VerifyFail works s = verify_verdict m v u w (progress.Failed false) s
    verdict_stands m v (Phase.Apply u w progress.InProgress) verdicts.ApplyOk true s = seals m v u w s
    verdict_stands m v (Phase.Apply u w progress.InProgress) verdicts.ApplyOk false s = failed_verdict m v u w s
    verdict_stands m v (Phase.Apply u w progress.InProgress) verdicts.ApplyFail works s = failed_verdict m v u w s
    verdict_stands m v p verdict works s = tt

  pub device_judges : (first : List RowOf) (es : List EntryOf) (m : PairOf) (verdict : Verdict) (works : Bool) → IsStanding ps ds first es m
      → Leaves ps ds first es (step_of ps m (StepOf.Judge verdict works))
  device_judges first es m verdict works s = verdict_stands first es m m.device m.device.phase verdict works s
