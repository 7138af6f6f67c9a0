use Rattle.std.proofs.Common.{rules, ◌≡◌, ◌<◌, ◌∙◌, set, None, Some, ap, false, length, map, refl, sym, true}
use Rattle.std.specs.Prelude.{slice_get}
use Rattle.std.proofs.lemmas.List.{length-map, with_items_is}
use Rattle.std.proofs.lemmas.Option.{slice_get_read}
use Rattle.fw_message.specs.Entries.{entry_of}
use Rattle.fw_message.specs.Replays.{counted_restarted, place_at}
use Rattle.fw_message.specs.Worlds.{MessageWorldOf, device_of, restarts_agent}
use Rattle.fw_message.proofs.Apart.{absent_put, absent_restarted}
use Rattle.fw_message.proofs.Places.{not_at}
use Rattle.fw_message.proofs.Stepping.{agent_restarts, bank_called, bank_failed, device_refuses, device_steps, faults_restarted, faults_same}
use Rattle.fw_message.proofs.messages.MessageWorld.step.Goals as goal

pub returns-then-restarts-clause-step : goal.returns-then-restarts-clause-step
returns-then-restarts-clause-step g c =
    let is : restarts_agent c.self.inside.agent c.args.step ≡ true = search rules in
    let w : MessageWorldOf = record { agent = c.self.inside.agent; packages = c.self.inside.packages.now; nodes = map (λ p. p.node) c.self.inside.pairs.items; history = map entry_of c.self.inside.history.items } in
    let restarted = with_items_is c.self.inside.pairs c.restart_each.new.pairs (ap length c.restart_each.ensures ∙ length-map c.as_mut_slice.result.now (counted_restarted c.self.inside.packages.now) ∙ c.as_mut_slice.ensures.len)
    ∙ (rw c.as_mut_slice.ensures.value at c.restart_each.ensures) in
    rw (sym c.self.view_is, restarted) (agent_restarts w c.self.inside.pairs.items c.args.step true refl is)

pub returns-in_default-clause-refused : goal.returns-in_default-clause-refused
returns-in_default-clause-refused g c =
    let is : restarts_agent c.args.self.now.world.agent c.args.step ≡ false = search rules in
    let none : place_at (map (λ p. p.node) c.self.inside.pairs.items) (device_of c.args.step) ≡ None = search rules in
    (is, not_at 0 c.args.self.now.world.nodes (device_of c.args.step) (rw (sym c.self.view_is) none))

pub returns-in-Err-clause-refused : goal.returns-in-Err-clause-refused
returns-in-Err-clause-refused g c =
    let is : restarts_agent c.self.inside.agent c.args.step ≡ false = search rules in
    let w : MessageWorldOf = record { agent = c.self.inside.agent; packages = c.self.inside.packages.now; nodes = map (λ p. p.node) c.self.inside.pairs.items; history = map entry_of c.self.inside.history.items } in
    let at : place_at w.nodes (device_of c.args.step) ≡ Some c.in-Some.place = search rules in
    let lt : c.in-Some.place < length c.self.inside.pairs.items = search rules in
    let found : slice_get c.self.inside.pairs.items c.in-Some.place ≡ Some c.index_mut-pair.result.now =
    slice_get_read c.self.inside.pairs.items (length c.self.inside.pairs.items) c.in-Some.place c.index_mut-pair.result.now refl lt c.index_mut-pair.ensures.value in
    rw (sym c.self.view_is) (device_refuses w c.self.inside.pairs.items c.index_mut-pair.result.now c.in-Some.place c.args.step c.in-Err.fault refl is at found c.in-Err.ensures.refused)

pub returns-clause-step : goal.returns-clause-step
returns-clause-step g c =
    let is : restarts_agent c.self.inside.agent c.args.step ≡ false = search rules in
    let w : MessageWorldOf = record { agent = c.self.inside.agent; packages = c.self.inside.packages.now; nodes = map (λ p. p.node) c.self.inside.pairs.items; history = map entry_of c.self.inside.history.items } in
    let at : place_at w.nodes (device_of c.args.step) ≡ Some c.in-Some.place = search rules in
    let lt : c.in-Some.place < length c.self.inside.pairs.items = search rules in
    let found : slice_get c.self.inside.pairs.items c.in-Some.place ≡ Some c.index_mut-pair.result.now =
    slice_get_read c.self.inside.pairs.items (length c.self.inside.pairs.items) c.in-Some.place c.index_mut-pair.result.now refl lt c.index_mut-pair.ensures.value in
    rw (sym c.self.view_is) (device_steps w c.self.inside.pairs.items c.index_mut-pair.result.now c.step.new.self c.in-Some.place c.args.step c.in-Ok.works (map entry_of c.step.new.history.items) refl is at found c.in-Ok.ensures.eid c.in-Ok.ensures.step)

pub returns-clause-failed : goal.returns-clause-failed
returns-clause-failed g c =
    let w : MessageWorldOf = record { agent = c.self.inside.agent; packages = c.self.inside.packages.now; nodes = map (λ p. p.node) c.self.inside.pairs.items; history = map entry_of c.self.inside.history.items } in
    let later : MessageWorldOf = record { agent = c.self.inside.agent; packages = c.self.inside.packages.now; nodes = map (λ p. p.node) (set c.self.inside.pairs.items c.in-Some.place c.step.new.self); history = map entry_of c.step.new.history.items } in
    let at : place_at w.nodes (device_of c.args.step) ≡ Some c.in-Some.place = search rules in
    let lt : c.in-Some.place < length c.self.inside.pairs.items = search rules in
    let found : slice_get c.self.inside.pairs.items c.in-Some.place ≡ Some c.index_mut-pair.result.now =
    slice_get_read c.self.inside.pairs.items (length c.self.inside.pairs.items) c.in-Some.place c.index_mut-pair.result.now refl lt c.index_mut-pair.ensures.value in
    λ e. rw (sym c.self.view_is) (bank_failed w later c.self.inside.pairs.items c.index_mut-pair.result.now c.step.new.self c.in-Some.place (device_of c.args.step) at found (c.in-Ok.ensures.failed e))

pub returns-clause-called : goal.returns-clause-called
returns-clause-called g c =
    let w : MessageWorldOf = record { agent = c.self.inside.agent; packages = c.self.inside.packages.now; nodes = map (λ p. p.node) c.self.inside.pairs.items; history = map entry_of c.self.inside.history.items } in
    let at : place_at w.nodes (device_of c.args.step) ≡ Some c.in-Some.place = search rules in
    let lt : c.in-Some.place < length c.self.inside.pairs.items = search rules in
    let found : slice_get c.self.inside.pairs.items c.in-Some.place ≡ Some c.index_mut-pair.result.now =
    slice_get_read c.self.inside.pairs.items (length c.self.inside.pairs.items) c.in-Some.place c.index_mut-pair.result.now refl lt c.index_mut-pair.ensures.value in
    λ e. rw (sym c.self.view_is) (bank_called w c.self.inside.pairs.items c.index_mut-pair.result.now c.in-Some.place c.args.step refl at found (c.in-Ok.ensures.called e))

pub returns-then-restarts-clause-worked : goal.returns-then-restarts-clause-worked
returns-then-restarts-clause-worked g c =
    let restarted = with_items_is c.self.inside.pairs c.restart_each.new.pairs (ap length c.restart_each.ensures ∙ length-map c.as_mut_slice.result.now (counted_restarted c.self.inside.packages.now) ∙ c.as_mut_slice.ensures.len)
    ∙ (rw c.as_mut_slice.ensures.value at c.restart_each.ensures) in
    λ e. rw (sym c.self.view_is, restarted) (faults_restarted c.self.inside.packages.now c.self.inside.pairs.items)

pub returns-clause-worked : goal.returns-clause-worked
returns-clause-worked g c =
    let lt : c.in-Some.place < length c.self.inside.pairs.items = search rules in
    let found : slice_get c.self.inside.pairs.items c.in-Some.place ≡ Some c.index_mut-pair.result.now =
    slice_get_read c.self.inside.pairs.items (length c.self.inside.pairs.items) c.in-Some.place c.index_mut-pair.result.now refl lt c.index_mut-pair.ensures.value in
    λ e. rw (sym c.self.view_is) (faults_same c.self.inside.pairs.items c.index_mut-pair.result.now c.step.new.self c.in-Some.place found (c.in-Ok.ensures.worked e))

-- no device has the agent's identifier
pub invariant_of-self : goal.invariant_of-self
invariant_of-self g c =
    let restarted = with_items_is c.self.inside.pairs c.restart_each.new.pairs (ap length c.restart_each.ensures ∙ length-map c.as_mut_slice.result.now (counted_restarted c.self.inside.packages.now) ∙ c.as_mut_slice.ensures.len)
    ∙ (rw c.as_mut_slice.ensures.value at c.restart_each.ensures) in
    rw restarted (absent_restarted c.self.inside.packages.now c.self.inside.pairs.items c.self.inside.agent c.self.invariant)

pub invariant_of-self-2 : goal.invariant_of-self-2
invariant_of-self-2 g c =
    let lt : c.in-Some.place < length c.self.inside.pairs.items = search rules in
    let found : slice_get c.self.inside.pairs.items c.in-Some.place ≡ Some c.index_mut-pair.result.now =
    slice_get_read c.self.inside.pairs.items (length c.self.inside.pairs.items) c.in-Some.place c.index_mut-pair.result.now refl lt c.index_mut-pair.ensures.value in
    absent_put c.self.inside.pairs.items c.index_mut-pair.result.now c.step.new.self c.in-Some.place c.self.inside.agent found c.in-Ok.ensures.eid c.self.invariant
