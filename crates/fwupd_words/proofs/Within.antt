-- The numbers of each job are within the bounds of the command line.
use Rattle.std.proofs.Common.{◌≡◌, ◌∙◌, ◌≤◌, ◌<◌, ◌^◌, ◌∷◌, [], Bool, ℕ, List, None, Some, arith, codes, false, true, inl, inr, refl, subst, sym}
use Rattle.clap.specs.Faults.{check_fault}
use Rattle.clap.specs.Takes.{is_given}
use Rattle.std.specs.Str.{bytes_eq}
use Rattle.clap.specs.Simple.{Shape, built, built_leaf, filled, inherited, with_index}
use Rattle.clap.specs.Walk.{Row, Rule, Text, arg_by_id, has_row}
use Rattle.clap.specs.Words.{App, fault_of, subcommand_of}
use Rattle.fwupd_words.specs.CommandLine.{Forms, agent, answer, device, devices_rule, number_between, command_line, own_package_rule, package_rule, parsed_option, plan, run, soak, text_option, word_rule}
use Rattle.fwupd_words.specs.Reading.{IsNoByte, HasAllowedDevices, HasAllowedPackages, HasAllowedRoughness, HasAllowedTicks, IsWithinBounds}
use Rattle.fwupd_words.specs.Clashes.{common_clash}
use Rattle.fwupd_words.specs.Jobs.{AsksForJob}
use Rattle.fwupd_words.specs.Processes.{AsksServing, usual_tick}
use Rattle.fwupd_words.specs.Words.{AsksChance, AsksEndpoint, AsksNumber, AsksOrder, AsksRoughness, AsksSmall, AsksSoak, given_by, texts_under}
use Rattle.fwupd_base.specs.declared.roughness.Roughness.{Roughness}
use Rattle.mctp_ctl.specs.declared.answers.Endpoint.{Endpoint}
use Rattle.fwupd_words.specs.declared.asked.Order.{Order}
use Rattle.fwupd_words.specs.declared.asked.SoakOrder.{SoakOrder}
use Rattle.fwupd_words.specs.declared.asked.Job.{Job}
use Rattle.fwupd_words.specs.declared.asked.Job.TheVariants as jobs
use Rattle.fwupd_base.specs.declared.processes.Serving.{Serving}
use Rattle.fwupd_base.specs.declared.processes.Wire.{Wire}
use Rattle.fwupd_base.specs.declared.processes.Wire.TheVariants as wires
use Rattle.fwupd_words.proofs.Bounds.{number_at, number_or, number_under, some_number, texts_at}
use Rattle.fwupd_words.proofs.Chosen.{package_least}
use Rattle.fwupd_words.proofs.Closed.{some_forms}
use Rattle.fwupd_words.proofs.ImageFiles.{images_allowed}
use Rattle.fwupd_words.proofs.Eids.{AllAccepted, all_bytes, chosen_eid}
use Rattle.fwupd_words.proofs.Entered.{OnlyNamed, rows_read}
use Rattle.fwupd_words.proofs.Rows.{AllUsual, ◌also◌, AreRead, AreRows, append_usual, flag_usual, help_usual, no_fault_is_one, set_usual}

abbrev building : App → Shape
building one = built_leaf (inherited (command_line some_forms).top one.top)

abbrev as_built : Rule → Rule
as_built rule = with_index 1 (filled rule)

-- ---- each subcommand with a number has usual arguments

answering_usual : AllUsual (building answer).rules (building answer).rules
answering_usual =
    set_usual _ _ refl refl refl (inl refl)
    also set_usual _ _ refl refl refl (inr (_, refl))
    also flag_usual _ _ _ refl refl refl refl (inr (_, refl))
    also help_usual _ _ refl refl refl refl
    also tt

device_usual : (forms : Forms) → AllUsual (building (device forms)).rules (building (device forms)).rules
device_usual forms =
    flag_usual _ _ _ refl refl refl refl (inr (_, refl))
    also flag_usual _ _ _ refl refl refl refl (inr (_, refl))
    also set_usual _ _ refl refl refl (inl refl)
    also append_usual _ _ refl refl refl refl
    also set_usual _ _ refl refl refl (inl refl)
    also set_usual _ _ refl refl refl (inl refl)
    also flag_usual _ _ _ refl refl refl refl (inr (_, refl))
    also set_usual _ _ refl refl refl (inl refl)
    also set_usual _ _ refl refl refl (inl refl)
    also set_usual _ _ refl refl refl (inl refl)
    also set_usual _ _ refl refl refl (inl refl)
    also set_usual _ _ refl refl refl (inl refl)
    also set_usual _ _ refl refl refl (inl refl)
    also set_usual _ _ refl refl refl (inl refl)
    also set_usual _ _ refl refl refl (inl refl)
    also help_usual _ _ refl refl refl refl
    also tt

agent_usual : (forms : Forms) → AllUsual (building (agent forms)).rules (building (agent forms)).rules
agent_usual forms =
    flag_usual _ _ _ refl refl refl refl (inr (_, refl))
    also flag_usual _ _ _ refl refl refl refl (inr (_, refl))
    also set_usual _ _ refl refl refl (inl refl)
    also set_usual _ _ refl refl refl (inl refl)
    also set_usual _ _ refl refl refl (inl refl)
    also set_usual _ _ refl refl refl (inl refl)
    also set_usual _ _ refl refl refl (inl refl)
    also flag_usual _ _ _ refl refl refl refl (inr (_, refl))
    also flag_usual _ _ _ refl refl refl refl (inr (_, refl))
    also set_usual _ _ refl refl refl (inl refl)
    also set_usual _ _ refl refl refl (inl refl)
    also set_usual _ _ refl refl refl (inl refl)
    also set_usual _ _ refl refl refl (inl refl)
    also set_usual _ _ refl refl refl (inl refl)
    also set_usual _ _ refl refl refl (inl refl)
    also set_usual _ _ refl refl refl (inl refl)
    also help_usual _ _ refl refl refl refl
    also tt

planning_usual : AllUsual (building plan).rules (building plan).rules
planning_usual =
    set_usual _ _ refl refl refl (inr (_, refl))
    also set_usual _ _ refl refl refl (inl refl)
    also append_usual _ _ refl refl refl refl
    also flag_usual _ _ _ refl refl refl refl (inr (_, refl))
    also set_usual _ _ refl refl refl (inl refl)
    also help_usual _ _ refl refl refl refl
    also tt

running_usual : (forms : Forms) → AllUsual (building (run forms)).rules (building (run forms)).rules
running_usual forms =
    append_usual _ _ refl refl refl refl
    also append_usual _ _ refl refl refl refl
    also flag_usual _ _ _ refl refl refl refl (inr (_, refl))
    also flag_usual _ _ _ refl refl refl refl (inr (_, refl))
    also set_usual _ _ refl refl refl (inl refl)
    also set_usual _ _ refl refl refl (inl refl)
    also set_usual _ _ refl refl refl (inl refl)
    also set_usual _ _ refl refl refl (inl refl)
    also set_usual _ _ refl refl refl (inl refl)
    also append_usual _ _ refl refl refl refl
    also flag_usual _ _ _ refl refl refl refl (inr (_, refl))
    also set_usual _ _ refl refl refl (inl refl)
    also set_usual _ _ refl refl refl (inl refl)
    also set_usual _ _ refl refl refl (inl refl)
    also set_usual _ _ refl refl refl (inl refl)
    also set_usual _ _ refl refl refl (inl refl)
    also set_usual _ _ refl refl refl (inl refl)
    also help_usual _ _ refl refl refl refl
    also tt

soaking_usual : AllUsual (building soak).rules (building soak).rules
soaking_usual =
    set_usual _ _ refl refl refl (inl refl)
    also set_usual _ _ refl refl refl (inl refl)
    also append_usual _ _ refl refl refl refl
    also flag_usual _ _ _ refl refl refl refl (inr (_, refl))
    also set_usual _ _ refl refl refl (inl refl)
    also set_usual _ _ refl refl refl (inl refl)
    also set_usual _ _ refl refl refl (inl refl)
    also set_usual _ _ refl refl refl (inl refl)
    also set_usual _ _ refl refl refl (inl refl)
    also help_usual _ _ refl refl refl refl
    also tt

-- ---- the numbers

package_within : (rules : List Rule) (rows : List Row) (number : ℕ) → AreRows rules rows → arg_by_id rules (codes "package") ≡ Some (as_built package_rule)
    → has_row (codes "package") rows ≡ true → AsksNumber (given_by rows) number → 1 ≤ number
package_within rules rows number each by has asks =
    (number_under rules rows (codes "package") (as_built package_rule) 32 4294967295 1 4294967295 number each by has refl refl (omega arith) refl (omega arith) asks.is).0

chance_within : (rules : List Rule) (rows : List Row) (name : Text) (most number : ℕ) → AreRows rules rows
    → arg_by_id rules name ≡ Some (as_built (parsed_option name (number_between 0 most))) → most < 2 ^ 8
    → AsksChance (given_by rows) name number → number ≤ most
chance_within rules rows name most number each by fits asks =
    (number_or rules rows name (as_built (parsed_option name (number_between 0 most))) 8 255 0 most 0 number each by refl refl fits refl (omega arith) (omega arith) (omega arith) asks.none asks.given).1

abbrev runs_rule : Rule
runs_rule = as_built (record (text_option (codes "runs")) { required = true; parser = Some (number_between 1 1000000) })

given_has : (id : Text) (rows : List Row) → is_given id rows ≡ true → has_row id rows ≡ true
given_has id [] given = given
given_has id (r ∷ rs) given = go (bytes_eq r.id id) refl (λ h. given_has id rs h)
  where
    go : (b : Bool) → bytes_eq r.id id ≡ b → (is_given id rs ≡ true → has_row id rs ≡ true) → has_row id (r ∷ rs) ≡ true
    go true is later = rw is refl
    go false is later = rw is (later (rw is at given))

runs_given : (rows : List Row) → check_fault (building soak) rows false ≡ [] → is_given (codes "runs") rows ≡ true
runs_given rows passed = go (is_given (codes "runs") rows) refl
  where
    go : (b : Bool) → is_given (codes "runs") rows ≡ b → is_given (codes "runs") rows ≡ true
    go true is = is
    go false is = absurd (no_fault_is_one _ _ (rw is at passed))

plan_within : (rows : List Row) (number : ℕ) → AreRead (building plan) rows → AsksNumber (given_by rows) number → 1 ≤ number
plan_within rows number read asks = package_within (building plan).rules rows number read.each refl (read.defaults (codes "package") refl) asks

rough_within : (s : Shape) (rows : List Row) (roughness : Roughness) → AreRead s rows
    → arg_by_id s.rules (codes "loss") ≡ Some (as_built (parsed_option (codes "loss") (number_between 0 100)))
    → arg_by_id s.rules (codes "duplicate") ≡ Some (as_built (parsed_option (codes "duplicate") (number_between 0 100)))
    → arg_by_id s.rules (codes "delay") ≡ Some (as_built (parsed_option (codes "delay") (number_between 0 8)))
    → AsksRoughness (given_by rows) roughness → HasAllowedRoughness roughness
rough_within s rows roughness read loss duplicate delay asks = record {
  loss = chance_within s.rules rows (codes "loss") 100 roughness.loss read.each loss (omega arith) asks.loss;
  duplicate = chance_within s.rules rows (codes "duplicate") 100 roughness.duplicate read.each duplicate (omega arith) asks.duplicate;
  delay = chance_within s.rules rows (codes "delay") 8 roughness.delay read.each delay (omega arith) asks.delay;
}

run_within : (forms : Forms) (rows : List Row) (order : Order) → AreRead (building (run forms)) rows → AsksOrder (given_by rows) order
    → HasAllowedPackages order.packages × HasAllowedDevices order.devices × HasAllowedRoughness order.roughness
run_within forms rows order read asks = (
  λ eid fits. rw (asks.packages.each eid fits) (package_least (texts_under (given_by rows) (codes "package")) eid),
  λ eid is.
      let texts = texts_under (given_by rows) (codes "device") in
      let accepted : AllAccepted texts = texts_at (building (run forms)).rules rows (codes "device") (as_built devices_rule) read.each refl in
      chosen_eid texts (texts_under (given_by rows) (codes "package")) eid accepted (sym (asks.devices.given (all_bytes texts accepted) eid) ∙ is),
  rough_within (building (run forms)) rows order.roughness read refl refl refl asks.roughness,
)

soak_within : (rows : List Row) (order : SoakOrder) → AreRead (building soak) rows → AsksSoak (given_by rows) order
    → (1 ≤ order.runs) × (order.runs ≤ 1000000) × HasAllowedRoughness order.roughness
soak_within rows order read asks =
    let has = given_has (codes "runs") rows (runs_given rows read.checked) in
    let runs = number_under (building soak).rules rows (codes "runs") runs_rule 32 4294967295 1 1000000 order.runs read.each refl has refl refl (omega arith) refl (omega arith) asks.runs.is in
    (runs.0, runs.1, rough_within (building soak) rows order.roughness read refl refl refl asks.roughness)

abbrev eid_rule : Rule
eid_rule = as_built (record (word_rule (codes "EID")) { parser = Some (number_between 8 254) })

eid_given : (rows : List Row) → check_fault (building answer) rows false ≡ [] → is_given (codes "EID") rows ≡ true
eid_given rows passed = go (is_given (codes "EID") rows) refl
  where
    go : (b : Bool) → is_given (codes "EID") rows ≡ b → is_given (codes "EID") rows ≡ true
    go true is = is
    go false is = absurd (no_fault_is_one _ _ (rw is at passed))

answer_read : (forms : Forms) (words : List Text) (name : Text) (rows : List Row) → fault_of (command_line forms) words ≡ []
    → subcommand_of (command_line forms) words ≡ Some (name, rows) → name ≡ codes "answer" → AreRead (building answer) rows
answer_read forms words name rows passed is named =
    let here = subst (λ n. subcommand_of (command_line forms) words ≡ Some (n, rows)) named is in
    let only : OnlyNamed (codes "answer") (building answer) (built (command_line forms)).subs =
    inl refl also inr refl also inr refl also inr refl also inr refl also inr refl also inr refl also inr refl also inr refl also inr refl also inr refl also inr refl also inr refl also tt in
    rows_read forms words (codes "answer") rows (building answer) passed here only refl answering_usual

-- arguments of `answer` without a fault have an identifier
pub eid_is_read : (forms : Forms) (words : List Text) (name : Text) (rows : List Row) → fault_of (command_line forms) words ≡ []
    → subcommand_of (command_line forms) words ≡ Some (name, rows) → name ≡ codes "answer" → IsNoByte (given_by rows) (codes "EID") → ⊥
eid_is_read forms words name rows passed is named never =
    let read = answer_read forms words name rows passed is named in
    let has = given_has (codes "EID") rows (eid_given rows read.checked) in
    let at = number_at (building answer).rules rows (codes "EID") eid_rule 8 255 8 254 read.each refl has refl refl (omega arith) refl (omega arith) in
    never at.0 at.1 at.2.numeral at.2.fits

-- the identifier of an endpoint is 8 to 254
endpoint_within : (forms : Forms) (words : List Text) (name : Text) (rows : List Row) (endpoint : Endpoint) → fault_of (command_line forms) words ≡ []
    → subcommand_of (command_line forms) words ≡ Some (name, rows) → name ≡ codes "answer" → AsksEndpoint (given_by rows) endpoint
    → (8 ≤ endpoint.eid) × (endpoint.eid ≤ 254)
endpoint_within forms words name rows endpoint passed is named asks =
    let read = answer_read forms words name rows passed is named in
    let has = given_has (codes "EID") rows (eid_given rows read.checked) in
    number_under (building answer).rules rows (codes "EID") eid_rule 8 255 8 254 endpoint.eid read.each refl has refl refl (omega arith) refl (omega arith)
    (λ text one _ _. asks.eid text one)

device_given : (forms : Forms) (rows : List Row) → check_fault (building (device forms)) rows false ≡ [] → is_given (codes "EID") rows ≡ true
device_given forms rows passed = go (is_given (codes "CONFIG") rows) (is_given (codes "EID") rows) refl refl
  where
    go : (config eid : Bool) → is_given (codes "CONFIG") rows ≡ config → is_given (codes "EID") rows ≡ eid → is_given (codes "EID") rows ≡ true
    go config true first is = is
    go true false first is = absurd (no_fault_is_one _ _ (rw (first, is) at passed))
    go false false first is = absurd (no_fault_is_one _ _ (rw first at passed))

-- the rule of a device's identifier, the second word
abbrev device_eid_rule : Rule
device_eid_rule = with_index 2 (filled (record (word_rule (codes "EID")) { parser = Some (number_between 8 254) }))

-- the identifier of a device is 8 to 254
device_within : (forms : Forms) (rows : List Row) (eid : ℕ) → AreRead (building (device forms)) rows → AsksSmall (given_by rows) (codes "EID") eid → (8 ≤ eid) × (eid ≤ 254)
device_within forms rows eid read asks =
    let has = given_has (codes "EID") rows (device_given forms rows read.checked) in
    number_under (building (device forms)).rules rows (codes "EID") device_eid_rule 8 255 8 254 eid read.each refl has refl refl (omega arith) refl (omega arith) asks

device_read : (forms : Forms) (words : List Text) (name : Text) (rows : List Row) → fault_of (command_line forms) words ≡ []
    → subcommand_of (command_line forms) words ≡ Some (name, rows) → name ≡ codes "device" → AreRead (building (device forms)) rows
device_read forms words name rows passed is named =
    let here = subst (λ n. subcommand_of (command_line forms) words ≡ Some (n, rows)) named is in
    let only : OnlyNamed (codes "device") (building (device forms)) (built (command_line forms)).subs =
    inr refl also inr refl also inr refl also inr refl also inr refl also inr refl also inr refl also inr refl also inl refl also inr refl also inr refl also inr refl also inr refl also tt in
    rows_read forms words (codes "device") rows (building (device forms)) passed here only refl (device_usual forms)

agent_read : (forms : Forms) (words : List Text) (name : Text) (rows : List Row) → fault_of (command_line forms) words ≡ []
    → subcommand_of (command_line forms) words ≡ Some (name, rows) → name ≡ codes "agent" → AreRead (building (agent forms)) rows
agent_read forms words name rows passed is named =
    let here = subst (λ n. subcommand_of (command_line forms) words ≡ Some (n, rows)) named is in
    let only : OnlyNamed (codes "agent") (building (agent forms)) (built (command_line forms)).subs =
    inr refl also inr refl also inr refl also inr refl also inr refl also inr refl also inr refl also inr refl also inr refl also inl refl also inr refl also inr refl also inr refl also tt in
    rows_read forms words (codes "agent") rows (building (agent forms)) passed here only refl (agent_usual forms)

-- ---- the ticks of a process

abbrev bounded_rule : Text → (low high : ℕ) → Rule
bounded_rule name low high = as_built (record (text_option name) { parser = Some (number_between low high) })

abbrev own_package : Rule
own_package = as_built own_package_rule

-- each process has these bounds
ticks_within : (s : Shape) (rows : List Row) (serving : Serving) → AreRead s rows
    → arg_by_id s.rules (codes "tick") ≡ Some (bounded_rule (codes "tick") 1 1000)
    → arg_by_id s.rules (codes "ticks") ≡ Some (bounded_rule (codes "ticks") 1 4294967295)
    → AsksServing (given_by rows) serving → HasAllowedTicks serving
ticks_within s rows serving read tick ticks asks =
    let usual = usual_within serving.wire in
    let within = number_or s.rules rows (codes "tick") (bounded_rule (codes "tick") 1 1000) 32 4294967295 1 1000 (usual_tick serving.wire) serving.tick read.each tick refl refl
    (omega arith) refl (omega arith) usual.0 usual.1 asks.tick.none asks.tick.given in
    record {
      least = within.0;
      most = within.1;
      ticks = some_number s.rules rows (codes "ticks") (bounded_rule (codes "ticks") 1 4294967295) 32 4294967295 1 4294967295 serving.ticks read.each ticks refl refl
          (omega arith) refl (omega arith) asks.ticks.none asks.ticks.given;
    }
  where
    usual_within : (wire : Wire) → (1 ≤ usual_tick wire) × (usual_tick wire ≤ 1000)
    usual_within (wires.Sockets folder) = (omega arith, omega arith)
    usual_within (wires.Tty path) = (omega arith, omega arith)

-- the numbers of a job of arguments without a fault
pub is_within : (forms : Forms) (words : List Text) (name : Text) (rows : List Row) (job : Job) → fault_of (command_line forms) words ≡ []
    → subcommand_of (command_line forms) words ≡ Some (name, rows) → common_clash (given_by rows) ≡ None → AsksForJob name (given_by rows) job → IsWithinBounds job
is_within forms words name rows (jobs.Answer endpoint) passed is fits asks = endpoint_within forms words name rows endpoint passed is asks.0 asks.1
is_within forms words name rows (jobs.AnswerSerial endpoint) passed is fits asks = endpoint_within forms words name rows endpoint passed is asks.0 asks.1
is_within forms words name rows (jobs.Plan p) passed is fits asks =
    let here = subst (λ n. subcommand_of (command_line forms) words ≡ Some (n, rows)) asks.0 is in
    let only : OnlyNamed (codes "plan") (building plan) (built (command_line forms)).subs =
    inr refl also inr refl also inr refl also inl refl also inr refl also inr refl also inr refl also inr refl also inr refl also inr refl also inr refl also inr refl also inr refl also tt in
    (plan_within rows p.number (rows_read forms words (codes "plan") rows (building plan) passed here only refl planning_usual) asks.1.number, images_allowed (given_by rows) p.config fits asks.1.config)
is_within forms words name rows (jobs.Run u) passed is fits asks =
    let here = subst (λ n. subcommand_of (command_line forms) words ≡ Some (n, rows)) asks.0 is in
    let only : OnlyNamed (codes "run") (building (run forms)) (built (command_line forms)).subs =
    inr refl also inr refl also inr refl also inr refl also inl refl also inr refl also inr refl also inr refl also inr refl also inr refl also inr refl also inr refl also inr refl also tt in
    let within = run_within forms rows u.order (rows_read forms words (codes "run") rows (building (run forms)) passed here only refl (running_usual forms)) asks.4 in
    (within.0, within.1, within.2, images_allowed (given_by rows) u.config fits asks.2)
is_within forms words name rows (jobs.Soak s) passed is fits asks =
    let here = subst (λ n. subcommand_of (command_line forms) words ≡ Some (n, rows)) asks.0 is in
    let only : OnlyNamed (codes "soak") (building soak) (built (command_line forms)).subs =
    inr refl also inr refl also inr refl also inr refl also inr refl also inl refl also inr refl also inr refl also inr refl also inr refl also inr refl also inr refl also inr refl also tt in
    let within = soak_within rows s.order (rows_read forms words (codes "soak") rows (building soak) passed here only refl soaking_usual) asks.2 in
    (within.0, within.1, within.2, images_allowed (given_by rows) s.config fits asks.1)
is_within forms words name rows (jobs.Device d) passed is fits asks =
    let eid = device_within forms rows d.eid (device_read forms words name rows passed is asks.0) asks.3.eid in
    (eid.0, eid.1, images_allowed (given_by rows) d.config fits asks.3.config)
is_within forms words name rows (jobs.DeviceProcess d) passed is fits asks =
    let read = device_read forms words name rows passed is asks.0 in
    let eid = device_within forms rows d.eid read asks.2.eid in
    (eid.0, eid.1, ticks_within (building (device forms)) rows d.serving read refl refl asks.2.serving, images_allowed (given_by rows) d.config fits asks.2.config)
is_within forms words name rows (jobs.AgentProcess a) passed is fits asks =
    let read = agent_read forms words name rows passed is asks.0 in (
      (number_or (building (agent forms)).rules rows (codes "package") own_package 32 4294967295 1 4294967295 1 a.number read.each refl refl refl (omega arith) refl (omega arith)
          (omega arith) (omega arith) asks.2.number.none asks.2.number.given).0,
      ticks_within (building (agent forms)) rows a.serving read refl refl asks.2.serving,
    )
is_within forms words name rows (jobs.Agent a) passed is fits asks = tt
is_within forms words name rows (jobs.Inspect path form digested) passed is fits asks = tt
is_within forms words name rows (jobs.Replay r) passed is fits asks = images_allowed (given_by rows) r.config fits asks.2
is_within forms words name rows (jobs.Sel file form) passed is fits asks = tt
is_within forms words name rows (jobs.Build spec output) passed is fits asks = tt
is_within forms words name rows (jobs.Status s) passed is fits asks = images_allowed (given_by rows) s.config fits asks.1.config
is_within forms words name rows (jobs.Decode file unit form) passed is fits asks = tt
