-- Steps and runs keep the invariant.
use Rattle.std.specs.Prelude.{◌≡◌, ◌≤◌, ℕ, List, [], ◌∷◌, map, take, All, Option, Some, None, slice_index_or}
use Prim.Native.Nat.{suc, zero}
use Rattle.std.specs.Option.{IfSome, option_map}
use Rattle.std.proofs.Common.{refl, sym, subst, arith}
use Rattle.std.proofs.lemmas.List.Elements.{All-nil}
use Rattle.fw_package.specs.Laws.{PlansNamedImages}
use Rattle.fw_package.specs.Package.{DescriptorOf, PackageText}
use Rattle.fd_core.specs.Images.{RowOf}
use Rattle.fd_core.specs.States.{DeviceState, Phase}
use Rattle.fwup_wire.specs.declared.values.Key.{Key}
use Rattle.ua_core.specs.Calls.{new_session}
use Rattle.ua_core.specs.Laws.{LearnsInPlan, ServesInPlan, WindowContinues}
use Rattle.ua_core.specs.Lent.{package_descriptor}
use Rattle.ua_core.specs.Session.{SessionOf}
use Rattle.fw_message.specs.Headline.{EntryOf, IsNamedComponent, IsOfOnePackage, IsSafe, WasApplied, activations, applied_count, read_along, recorded_count}
use Rattle.fw_message.specs.Laws.{IsOpening, IsUnapplied, MessagesAreSafe, StaysSafeAndTied}
use Rattle.fw_message.specs.Pairs.{CellContentOf, PairOf, PairRun, StepOf, Stepped, closing, message_along, history_with, pair_after, ran_on, run_after, step_of}
use Rattle.fw_message.specs.declared.side.Side.TheVariants as sides
use Rattle.fw_message.specs.declared.side.Way.TheVariants as ways
use Rattle.fw_message.proofs.Safety.Agreement.{IsStanding}
use Rattle.fw_message.proofs.Safety.Calls.{activates, agent_gives_up, agent_restarts, cancels, device_ends, device_restarts, session_ends, starts}
use Rattle.fw_message.proofs.Safety.Cells.{device_asks, device_gives_up, down_drops, up_drops}
use Rattle.fw_message.proofs.Safety.Closing.{closes}
use Rattle.fw_message.proofs.Safety.Down.{Leaves, agent_asks, device_takes}
use Rattle.fw_message.proofs.Safety.Histories.{IsHistory, current_of}
use Rattle.fw_message.proofs.Safety.Learns.{agent_learns}
use Rattle.fw_message.proofs.Safety.Reports.{device_learns}
use Rattle.fw_message.proofs.Safety.Turns.{one_nothing}
use Rattle.fw_message.proofs.Safety.Up.{agent_takes}
use Rattle.fw_message.proofs.Safety.Verdicts.{device_judges}

-- the laws of sessions and packages that runs need
pub record Laws : Type 0 where
  pub serves : ServesInPlan
  pub learns : LearnsInPlan
  pub images : PlansNamedImages
  pub pieces : WindowContinues

module _ (ps : List PackageText) (ds : List DescriptorOf) (first : List RowOf) where
  step_stands : (laws : Laws) (es : List EntryOf) (m : PairOf) (s : StepOf) → IsStanding ps ds first es m
      → Leaves ps ds first es (step_of ps m s)
  step_stands laws es m StepOf.AskDown h = agent_asks ps ds first es m h
  step_stands laws es m StepOf.AskUp h = device_asks ps ds first es m h
  step_stands laws es m (StepOf.TakeDown quiet works) h = device_takes ps ds first es m quiet works h
  step_stands laws es m StepOf.TakeUp h = agent_takes ps ds es first laws.serves laws.images m h
  step_stands laws es m StepOf.LearnDown h = agent_learns ps ds es first laws.learns m h
  step_stands laws es m (StepOf.LearnUp works) h = device_learns ps ds first es laws.pieces m works h
  step_stands laws es m (StepOf.GiveUp ways.Down) h = agent_gives_up ps ds first es m h
  step_stands laws es m (StepOf.GiveUp ways.Up) h = device_gives_up ps ds first es m h
  step_stands laws es m (StepOf.Drop ways.Down) h = down_drops ps ds first es m h
  step_stands laws es m (StepOf.Drop ways.Up) h = up_drops ps ds first es m h
  step_stands laws es m (StepOf.Start number) h = starts ps ds first es m number h
  step_stands laws es m StepOf.Cancel h = cancels ps ds first es m h
  step_stands laws es m StepOf.Activate h = activates ps ds first es m h
  step_stands laws es m (StepOf.Judge verdict works) h = device_judges ps ds first es m verdict works h
  step_stands laws es m (StepOf.TimeOut sides.Agent) h = session_ends ps ds first es m h
  step_stands laws es m (StepOf.TimeOut sides.Device) h = device_ends ps ds first es m h
  step_stands laws es m (StepOf.Restart sides.Agent) h = agent_restarts ps ds first es m h
  step_stands laws es m (StepOf.Restart sides.Device) h = device_restarts ps ds first es m h

  -- the invariant along a run
  abbrev pub Stands : PairRun → Type 0
  Stands r = IsStanding ps ds first r.entries r.pair

  closed_after : (es : List EntryOf) (o : Option Stepped) → Leaves ps ds first es o → Leaves ps ds first es (option_map (closing ps) o)
  closed_after es None h = tt
  closed_after es (Some t) h = closes ps ds first (history_with es t.noted) t.after h

  pub pair_stands : (laws : Laws) (es : List EntryOf) (m : PairOf) (s : StepOf) → IsStanding ps ds first es m
      → Leaves ps ds first es (pair_after ps m s)
  unfolding pair_after
  pair_stands laws es m s h = closed_after es (step_of ps m s) (step_stands laws es m s h)

  ran_after : (r : PairRun) (o : Option Stepped) → Leaves ps ds first r.entries o → IfSome (option_map (ran_on r) o) Stands
  ran_after r None h = tt
  ran_after r (Some t) h = h

  run_stands : (laws : Laws) (r : PairRun) (s : StepOf) → Stands r → IfSome (run_after ps r s) Stands
  run_stands laws r s h = ran_after r (pair_after ps r.pair s) (pair_stands laws r.entries r.pair s h)

  pub along_stands : (laws : Laws) (steps : List StepOf) (o : Option PairRun) → IfSome o Stands → IfSome (message_along ps o steps) Stands
  along_stands laws steps None h = tt
  along_stands laws [] (Some r) h = h
  along_stands laws (s ∷ steps) (Some r) h = along_stands laws steps (run_after ps r s) (run_stands laws r s h)

-- the opening
current_nothing : current_of [] ≡ None
unfolding current_of read_along
current_nothing = refl

activations_nothing : activations [] ≡ []
unfolding read_along
activations_nothing = refl

none_more : (ps : List PackageText) (key : Key) (bytes : List ℕ) → recorded_count ps key bytes [] ≤ applied_count key bytes []
unfolding recorded_count applied_count
none_more ps key bytes = omega arith

balanced_nothing : (ps : List PackageText) (n : ℕ) (key : Key) (bytes : List ℕ)
    → recorded_count ps key bytes (take n []) ≤ applied_count key bytes (take n [])
balanced_nothing ps zero key bytes = none_more ps key bytes
balanced_nothing ps (suc n) key bytes = none_more ps key bytes

safe_nothing : (ps : List PackageText) (ds : List DescriptorOf) → IsSafe ps ds []
safe_nothing ps ds = record {
  activated = rw activations_nothing (All-nil (IsOfOnePackage ps ds));
  named = All-nil (IsNamedComponent ps ds);
  applied = balanced_nothing ps;
}

was_unapplied : (row : RowOf) → IsUnapplied row → WasApplied [] row
was_unapplied row e = rw e tt

history_nothing : (ps : List PackageText) (ds : List DescriptorOf) (rows : List RowOf) → All IsUnapplied rows
    → IsHistory ps ds rows rows [] []
history_nothing ps ds rows h = record {
  safe = safe_nothing ps ds;
  tied = record { active = refl; applied = (λ k d lt. was_unapplied (slice_index_or rows k d) (h k d lt)); records = refl };
  one = one_nothing rows h;
  ended = rw current_nothing tt;
}

begins : (ps : List PackageText) (v : DeviceState) → All IsUnapplied v.rows
    → IsStanding ps (map package_descriptor v.descriptors) v.rows [] (record { device = record v { phase = Phase.Idle }; session = (new_session v.unit).session; down = None; up = None })
begins ps v h = record {
  own = tt;
  command = tt;
  form = tt;
  together = tt;
  pending = tt;
  stray = tt;
  plan = tt;
  chosen = tt;
  identified = refl;
  told = tt;
  history = history_nothing ps (map package_descriptor v.descriptors) v.rows h;
}

pub opening_stands : (ps : List PackageText) (r : PairRun) → IsOpening r
    → Stands ps (map package_descriptor r.pair.device.descriptors) r.pair.device.rows r
opening_stands ps r h =
    let v = r.pair.device in
    let P : Phase → SessionOf → Option CellContentOf → Option CellContentOf → List EntryOf → Type 0 = λ p s d u es.
    IsStanding ps (map package_descriptor v.descriptors) v.rows es (record { device = record v { phase = p }; session = s; down = d; up = u }) in
    let a : P Phase.Idle (new_session v.unit).session None None [] = begins ps v h.unapplied in
    let b : P r.pair.device.phase (new_session v.unit).session None None [] = subst (λ (x : Phase). P x (new_session v.unit).session None None []) (sym h.idle) a in
    let c : P r.pair.device.phase r.pair.session None None [] = subst (λ (x : SessionOf). P r.pair.device.phase x None None []) (sym h.session) b in
    let d : P r.pair.device.phase r.pair.session r.pair.down None [] = subst (λ (x : Option CellContentOf). P r.pair.device.phase r.pair.session x None []) (sym h.down) c in
    let e : P r.pair.device.phase r.pair.session r.pair.down r.pair.up [] = subst (λ (x : Option CellContentOf). P r.pair.device.phase r.pair.session r.pair.down x []) (sym h.up) d in
    subst (λ (x : List EntryOf). P r.pair.device.phase r.pair.session r.pair.down r.pair.up x) (sym h.entries) e

-- the invariant gives a safe and tied history
safe_and_tied : (ps : List PackageText) (opening : PairRun) (o : Option PairRun)
    → IfSome o (Stands ps (map package_descriptor opening.pair.device.descriptors) opening.pair.device.rows)
    → IfSome o (StaysSafeAndTied ps opening)
safe_and_tied ps opening None h = tt
safe_and_tied ps opening (Some r) h = record { safe = h.history.safe; tied = h.history.tied }

pub messages_are_safe : (laws : Laws) → MessagesAreSafe
messages_are_safe laws ps opening steps h =
    safe_and_tied ps opening (message_along ps (Some opening) steps)
    (along_stands ps (map package_descriptor opening.pair.device.descriptors) opening.pair.device.rows laws steps (Some opening) (opening_stands ps opening h))
