-- Steps that are recorded in portions.
use Rattle.std.proofs.Common.{◌≡◌, ◌++◌, ◌∙◌, ℕ, List, [], ◌∷◌, Option, Some, None, Result, Ok, Err, OnOk, ap, subst, sym, refl}
use Rattle.std.specs.Prelude.{IfErr, IfSome}
use Rattle.std.specs.Io.KnownBytes.{Appends}
use Rattle.std.proofs.KnownBytes.{Appends-trans}
use Rattle.fw_edge.proofs.Going.{run_append}
use Rattle.fw_edge.specs.Drives.{Drives}
use Rattle.fw_edge.specs.Links.{LinksOf}
use Rattle.fw_edge.specs.Turns.{DrivesTurns, Turns}
use Rattle.fw_script.specs.ScheduleTexts.{StepsRoundTrip, PortionsAreTheWhole, SchedulesReadBack, idle_at, schedule_text, text_of_steps, ticks_text}
use Rattle.fw_steps.specs.Steps.{Run}
use Rattle.fw_steps.specs.Worlds.{WorldOf}
use Rattle.fw_steps.specs.declared.step.Step.{Step}
use Rattle.fwupd_watch.specs.Recordings.{WritesHeldTicksIfAny, WritesHeldTicks, IsNewRecording, HasRecordedSteps, RecordsStepsIfAny, RecordsRun, RecordingOf, RecordsSteps, recording_of}
use Rattle.fwupd_watch.specs.declared.running.ObserverFault.{ObserverFault}

-- steps of two lists can be encoded
both_sayable : (front back : List Step) → StepsRoundTrip front → StepsRoundTrip back → StepsRoundTrip (front ++ back)
both_sayable [] back h k = k
both_sayable (step ∷ front) back h k = (h.0, both_sayable front back h.1 k)

-- one portion after another
writes_on : PortionsAreTheWhole → (r s t : RecordingOf) (ss ts : List Step) → RecordsSteps r s ss → RecordsSteps s t ts → RecordsSteps r t (ss ++ ts)
writes_on law r s t ss ts h k =
    let parts = law r.idle ss ts in
    record {
      begun = k.begun ∙ h.begun;
      text =
          subst (Appends r.written t.written) (ap (λ n. text_of_steps r.idle ss ++ text_of_steps n ts) h.idle ∙ sym parts.text)
          (Appends-trans r.written s.written t.written (text_of_steps r.idle ss) (text_of_steps s.idle ts) h.text k.text);
      idle = k.idle ∙ ap (λ n. idle_at n ts) h.idle ∙ sym parts.held;
      sayable = both_sayable ss ts h.sayable k.sayable;
    }

notes_on : PortionsAreTheWhole → (a b c : Option RecordingOf) (ss ts : List Step) → RecordsStepsIfAny a b ss → RecordsStepsIfAny b c ts → RecordsStepsIfAny a c (ss ++ ts)
notes_on law None None c ss ts h k = k
notes_on law None (Some s) c ss ts h k = absurd (let bad : Some s ≡ None = h in cc)
notes_on law (Some r) None c ss ts h k = absurd h
notes_on law (Some r) (Some s) None ss ts h k = absurd k
notes_on law (Some r) (Some s) (Some t) ss ts h k = writes_on law r s t ss ts h k

-- the starts
pub run_begun : (w v : WorldOf) (a b : Option RecordingOf) (listed slice ss : List Step) → slice ≡ listed → listed ≡ ss → Run w ss v → RecordsStepsIfAny a b slice → RecordsRun w v a b
run_begun w v a b listed slice ss is same run noted = record { steps = ss; run = run; noted = subst (RecordsStepsIfAny a b) (is ∙ same) noted }

-- and the steps of a turn
pub run_noted : PortionsAreTheWhole → (w v u : WorldOf) (a b c : Option RecordingOf) (before after slice : List Step) → RecordsRun w v a b → before ≡ [] → Drives v before u after → slice ≡ after → RecordsStepsIfAny b c slice
    → RecordsRun w u a c
run_noted law w v u a b c before after slice h none k is noted = record {
  steps = h.steps ++ k.steps;
  run = run_append w v u h.steps k.steps h.run k.run;
  noted = notes_on law a b c h.steps k.steps h.noted (subst (RecordsStepsIfAny b c) (is ∙ k.appended ∙ ap (λ ss. ss ++ k.steps) none) noted);
}

-- and the starts of which not all were allowed
pub run_broken : (w v : WorldOf) (a b : Option RecordingOf) (listed slice : List Step) (r : Result (Prim.Unit {0}) ObserverFault) (fault : Option ObserverFault) → slice ≡ listed → Run w listed v → OnOk r (RecordsStepsIfAny a b slice)
    → IfErr r (λ e. fault ≡ Some e) → fault ≡ None → RecordsRun w v a b
run_broken w v a b listed slice (Ok u) fault is run noted bad none = record { steps = listed; run = run; noted = subst (RecordsStepsIfAny a b) is noted }
run_broken w v a b listed slice (Err e) fault is run noted bad none = absurd (let had : Some e ≡ None = sym bad ∙ none in cc)

-- the observer had no fault before its end
pub none_before : (r : Result (Prim.Unit {0}) ObserverFault) (before now : Option ObserverFault) → IfSome before (λ f. r ≡ Err f) → IfErr r (λ e. now ≡ Some e) → now ≡ None → before ≡ None
none_before r None now first bad none = refl
none_before (Ok u) (Some f) now first bad none = absurd (let other : Ok u ≡ Err f = first in cc)
none_before (Err e) (Some f) now first bad none = absurd (let had : Some e ≡ None = sym bad ∙ none in cc)

pub well_ended : (r : Result (Prim.Unit {0}) ObserverFault) (now : Option ObserverFault) (P : Type 0) → IfErr r (λ e. now ≡ Some e) → now ≡ None → OnOk r P → P
well_ended (Ok u) now P bad none h = h
well_ended (Err e) now P bad none h = absurd (let had : Some e ≡ None = sym bad ∙ none in cc)

-- no step was taken
pub run_still : (w v u : WorldOf) (a b : Option RecordingOf) → RecordsRun w v a b → u ≡ v → RecordsRun w u a b
run_still w v u a b h is = subst (λ x. RecordsRun w x a b) (sym is) h

-- if no turn was taken
pub none_driven : (turns : ℕ) (w : WorldOf) (before : List Step) (old : LinksOf) (v : WorldOf) (after : List Step) (new : LinksOf) (foreign : ℕ) → turns ≡ 0 → DrivesTurns turns w before old v after new foreign → v ≡ w
none_driven turns w before old v after new foreign none h = (subst (λ n. Turns n w before old v after new h.count) none h.turned).0

-- the whole
whole : SchedulesReadBack → (w v : WorldOf) (r s t : RecordingOf) (steps : List Step) → Run w steps v → RecordsSteps r s steps → WritesHeldTicks s t → IsNewRecording r → HasRecordedSteps w v t
whole law w v r s t steps run h k new = record {
  steps = steps;
  run = run;
  written =
      subst (λ o. Appends o t.written (schedule_text steps)) (new.written ∙ sym (k.begun ∙ h.begun))
      (subst (λ n. Appends r.written t.written (text_of_steps n steps ++ ticks_text (idle_at n steps))) new.idle
      (subst (λ n. Appends r.written t.written (text_of_steps r.idle steps ++ ticks_text n)) h.idle
      (Appends-trans r.written s.written t.written (text_of_steps r.idle steps) (ticks_text s.idle) h.text k.text)));
  reads = law steps h.sayable;
}

pub recorded_whole : SchedulesReadBack → (w v : WorldOf) (a b c : Option RecordingOf) → RecordsRun w v a b → WritesHeldTicksIfAny b c → IfSome a IsNewRecording → IfSome c (HasRecordedSteps w v)
recorded_whole law w v None None None h k new = tt
recorded_whole law w v None None (Some t) h k new = absurd (let bad : Some t ≡ None = k in cc)
recorded_whole law w v None (Some s) c h k new = absurd (let noted = h.noted in let bad : Some s ≡ None = noted in cc)
recorded_whole law w v (Some r) None c h k new = absurd h.noted
recorded_whole law w v (Some r) (Some s) None h k new = absurd k
recorded_whole law w v (Some r) (Some s) (Some t) h k new = whole law w v r s t h.steps h.run h.noted k new

-- in a file of unknown content
pub ended_in : (r : Result (Prim.Unit {0}) ObserverFault) (w v : Option (List ℕ)) (idle left : ℕ) (a : Option RecordingOf) (F : Type 0) → a ≡ Some (recording_of None None idle)
    → OnOk r (WritesHeldTicks (recording_of None w idle) (recording_of None v left)) → OnOk r (F → WritesHeldTicksIfAny a (Some (recording_of None None left)))
ended_in (Ok u) w v idle left a F is h = λ given. rw is (record { begun = refl; text = tt; none_held = h.none_held })
ended_in (Err e) w v idle left a F is h = tt

pub noted_in : (r : Result (Prim.Unit {0}) ObserverFault) (w v : Option (List ℕ)) (idle left : ℕ) (a : Option RecordingOf) (ss : List Step) (F : Type 0) → a ≡ Some (recording_of None None idle)
    → OnOk r (RecordsSteps (recording_of None w idle) (recording_of None v left) ss) → OnOk r (F → RecordsStepsIfAny a (Some (recording_of None None left)) ss)
noted_in (Ok u) w v idle left a ss F is h = λ given. rw is (record { begun = refl; text = tt; idle = h.idle; sayable = h.sayable })
noted_in (Err e) w v idle left a ss F is h = tt
