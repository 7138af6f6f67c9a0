-- The operator's calls, time and restarts keep the invariant.
use Rattle.std.specs.Prelude.{◌≡◌, ℕ, Bool, true, false, if◌then◌else◌, List, [], Option, Some, None}
use Rattle.std.specs.Option.{IfSome, option_map}
use Rattle.std.proofs.Common.{refl}
use Rattle.std.proofs.lemmas.Bool.{cond_both}
use Rattle.fw_package.specs.Package.{DescriptorOf, PackageText}
use Rattle.fd_core.specs.Images.{RowOf}
use Rattle.fd_core.specs.States.{state_of}
use Rattle.fd_core.specs.Steps.{device_restart, device_timeout, timeout_reason, times_out as device_times_out}
use Rattle.fd_core.specs.declared.states.Reason.TheVariants as reasons
use Rattle.fd_core.specs.declared.states.State.TheVariants as states
use Rattle.ua_core.specs.Calls.{agent_started, agent_timeout, activated_stage, may_cancel, silent_stage, timeout_stage, times_out as session_times_out}
use Rattle.ua_core.specs.Laws.{IsOutsideUpdate}
use Rattle.ua_core.specs.Session.{JobOf, SessionOf, Stage, at_stage}
use Rattle.fw_message.specs.Headline.{EntryOf}
use Rattle.fw_message.specs.Pairs.{CellContentOf, PairOf, StepOf, Stepped, activate_with, cell_after_close, cell_after_give_up, may_start, step_without_entries, step_after_give_up, step_of, with_down, with_session, with_up}
use Rattle.fw_message.specs.declared.side.Side.TheVariants as sides
use Rattle.fw_message.specs.declared.side.Way.TheVariants as ways
use Rattle.fw_message.proofs.Safety.Agreement.{IsStanding, StandsOpen}
use Rattle.fw_message.proofs.Safety.Cells.{closed_up}
use Rattle.fw_message.proofs.Safety.Down.{Leaves}
use Rattle.fw_message.proofs.Safety.Loose.{loose_stands, loosened, reset_stands}

loose_silent : (g : Stage) → IsOutsideUpdate (silent_stage g)
loose_silent Stage.Cancelling = tt
loose_silent g = tt

loose_timeout : (g : Stage) → IsOutsideUpdate (timeout_stage g)
loose_timeout Stage.Cancelling = tt
loose_timeout g = tt

none_open : (down : Option CellContentOf) → StandsOpen None down → down ≡ None
none_open None h = refl
none_open (Some h) s = absurd (let e = s.1 in cc)

module _ (ps : List PackageText) (ds : List DescriptorOf) (first : List RowOf) (es : List EntryOf) where
  -- a condition before a step
  when : (b : Bool) (t : Stepped) → IfSome (Some t) (λ x. Leaves ps ds first es (Some x))
      → Leaves ps ds first es (if b then Some t else None)
  when true t s = s
  when false t s = tt

  -- GiveUp of the agent
  silent_at : (m : PairOf) (h : CellContentOf) → IsStanding ps ds first es (with_down m (Some h))
      → IsStanding ps ds first es (loosened m (silent_stage m.session.stage) m.session.number (Some (record h { live = false })))
  silent_at m h s =
      loose_stands ps ds first es (with_down m (Some h)) (silent_stage m.session.stage) m.session.number (Some (record h { live = false }))
      (loose_silent m.session.stage) s.stray s.told s

  gives_up : (m : PairOf) (down : Option CellContentOf) → IsStanding ps ds first es (with_down m down)
      → Leaves ps ds first es (step_after_give_up (with_down m down) (cell_after_give_up down))
  gives_up m None s = tt
  gives_up m (Some h) s = at_live h.live
    where
      at_live : (l : Bool)
          → Leaves ps ds first es (step_after_give_up (with_down m (Some h)) (if l then Some (Some (record h { live = false })) else None))
      at_live true = silent_at m h s
      at_live false = tt

  pub agent_gives_up : (m : PairOf) → IsStanding ps ds first es m → Leaves ps ds first es (step_of ps m (StepOf.GiveUp ways.Down))
  agent_gives_up m s = gives_up m m.down s

  -- Start
  pub starts : (m : PairOf) (number : ℕ) → IsStanding ps ds first es m → Leaves ps ds first es (step_of ps m (StepOf.Start number))
  starts m number s =
      when (may_start ps m.session number) (step_without_entries (with_session m (agent_started m.session number))) (loose_stands ps ds first es m Stage.Query number m.down tt s.stray s.told s)

  -- Cancel
  pub cancels : (m : PairOf) → IsStanding ps ds first es m → Leaves ps ds first es (step_of ps m StepOf.Cancel)
  cancels m s =
      cond_both (may_cancel m.session.stage) (at_stage m.session Stage.Cancelling) m.session (λ (x : SessionOf). IsStanding ps ds first es (with_session m x))
      (λ e. loose_stands ps ds first es m Stage.Cancelling m.session.number m.down tt s.stray s.told s) (λ e. s)

  -- Activate
  activates_none : (m : PairOf) (j : JobOf)
      → IsStanding ps ds first es (record m { session = at_stage m.session (Stage.AllApplied j); down = None })
      → IsStanding ps ds first es (record m { session = at_stage m.session (Stage.Activate j); down = None })
  activates_none m j s =
      record {
        own = s.own;
        command = tt;
        form = s.form;
        together = s.together;
        pending = tt;
        stray = s.stray;
        plan = s.plan;
        chosen = s.chosen;
        identified = s.identified;
        told = s.told;
        history = s.history;
      }

  activates_with : (m : PairOf) (j : JobOf) (down : Option CellContentOf) → down ≡ None
      → IsStanding ps ds first es (record m { session = at_stage m.session (Stage.AllApplied j); down = down })
      → IsStanding ps ds first es (record m { session = at_stage m.session (Stage.Activate j); down = down })
  activates_with m j None e s = activates_none m j s
  activates_with m j (Some h) e s = absurd (cc)

  activates_at : (m : PairOf) (g : Stage) → IsStanding ps ds first es (with_session m (at_stage m.session g))
      → Leaves ps ds first es (activate_with (with_session m (at_stage m.session g)) (option_map (at_stage (at_stage m.session g)) (activated_stage g)))
  activates_at m (Stage.AllApplied j) s = activates_with m j m.down (none_open m.down s.command) s
  activates_at m g s = tt

  pub activates : (m : PairOf) → IsStanding ps ds first es m → Leaves ps ds first es (step_of ps m StepOf.Activate)
  activates m s = activates_at m m.session.stage s

  -- TimeOut
  pub session_ends : (m : PairOf) → IsStanding ps ds first es m → Leaves ps ds first es (step_of ps m (StepOf.TimeOut sides.Agent))
  session_ends m s =
      when (session_times_out m.session.stage) (step_without_entries (with_session m (agent_timeout m.session)))
      (loose_stands ps ds first es m (timeout_stage m.session.stage) m.session.number m.down (loose_timeout m.session.stage) s.stray s.told s)

  pub device_ends : (m : PairOf) → IsStanding ps ds first es m → Leaves ps ds first es (step_of ps m (StepOf.TimeOut sides.Device))
  device_ends m s =
      when (device_times_out m.device.phase) (step_without_entries (record m { device = device_timeout m.device }))
      (reset_stands ps ds first es m [] (state_of m.device.phase) (timeout_reason m.device.phase) s)

  -- Restart
  restarts : (m : PairOf) (down : Option CellContentOf) → IsStanding ps ds first es (with_down m down)
      → IsStanding ps ds first es (loosened m Stage.Idle m.session.number (cell_after_close down))
  restarts m None s = loose_stands ps ds first es (with_down m None) Stage.Idle m.session.number None tt s.stray s.told s
  restarts m (Some h) s =
      loose_stands ps ds first es (with_down m (Some h)) Stage.Idle m.session.number (Some (record h { live = false })) tt s.stray s.told s

  pub agent_restarts : (m : PairOf) → IsStanding ps ds first es m → Leaves ps ds first es (step_of ps m (StepOf.Restart sides.Agent))
  agent_restarts m s = restarts m m.down s

  closes_up : (m : PairOf) (up : Option CellContentOf) → IsStanding ps ds first es (with_up m up)
      → IsStanding ps ds first es (with_up m (cell_after_close up))
  closes_up m None s = s
  closes_up m (Some h) s = closed_up ps ds first es m h false s

  pub device_restarts : (m : PairOf) → IsStanding ps ds first es m → Leaves ps ds first es (step_of ps m (StepOf.Restart sides.Device))
  device_restarts m s =
      closes_up (record m { device = device_restart m.device }) m.up (reset_stands ps ds first es m [] states.Idle reasons.Initialization s)
