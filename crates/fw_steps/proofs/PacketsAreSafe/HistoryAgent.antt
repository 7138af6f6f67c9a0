-- The records that the agent makes of a packet, and the link's entries for them.
use Rattle.std.proofs.Common.{◌≡◌, ◌≢◌, ◌∙◌, ◌==◌, ◌++◌, ◌∷◌, ℕ, Bool, true, false, if◌then◌else◌, List, [], length, map, slice_get, Option, Some, None, Ok, Err, Result, refl, ap, arith}
use Rattle.std.specs.Prelude.{option_to_list}
use Rattle.std.specs.Option.{option_map}
use Rattle.std.proofs.lemmas.Bool.{eq-eqb, ne_eqb}
use Rattle.std.proofs.lemmas.Option.{slice_get_past}
use Rattle.mctp_reasm.specs.Held.{Held}
use Rattle.mctp_reasm.specs.Pieces.{MessageOf}
use Rattle.mctp_ctl.specs.declared.answers.Endpoint.{Endpoint}
use Rattle.mctp_wire.specs.declared.layout.Head.{Head}
use Rattle.pldm_base.specs.declared.header.PldmHead.{PldmHead}
use Rattle.pldm_base.specs.declared.terminus.Role.TheVariants as roles
use Rattle.pldm_exch.specs.Caller.{is_quiet}
use Rattle.pldm_exch.specs.Sides.{AskerRow, TakerRow, asker_row, taker_row}
use Rattle.fwup_wire.specs.Answers.{answer_read}
use Rattle.fwup_wire.specs.Values.{CommandOf}
use Rattle.fw_package.specs.Package.{PackageText}
use Rattle.ua_core.specs.Serve.{ServeRow, after_by, record_of, recorded_by, recorded_with, serve_row}
use Rattle.ua_core.specs.Session.{SessionOf, TimedOf}
use Rattle.ua_core.specs.declared.planned.Recorded.{Recorded}
use Rattle.ua_core.proofs.Lawful.{learns_no_record}
use Rattle.fw_message.specs.Headline.{EntryOf}
use Rattle.fw_message.specs.Worlds.{noted_of}
use Rattle.fw_node.specs.Agents.{any_packet, AgentOf, agent_on_packet, half_at, half_for, place_of as half_place}
use Rattle.fw_node.specs.Cores.{package_of, session_core}
use Rattle.fw_node.specs.Halves.{HalfOutcome, HalfOf, half_on_packet, half_on_rows, half_takes, read_by, takes_if, takes_read}
use Rattle.fw_node.specs.Nodes.{node_outcome_of}
use Rattle.fw_steps.specs.Links.{LinkOf, link_step_of_agent}
use Rattle.fw_steps.specs.Worlds.{WorldOf, record_count_of, record_after, recorded_from, sender_of}
use Rattle.fw_steps.proofs.LinksAreLanes.AgentArrivals.{heard_from, heard_half, heard_half_peer, hears_put, unheard}
use Rattle.fw_steps.proofs.LinksAreLanes.AgentTicks.{half_put}
use Rattle.fw_steps.proofs.PacketsAreSafe.HistoryNoted.{noted_each, noted_in}

-- the records of a session after its earlier ones
abbrev pub new_records : SessionOf → SessionOf → List Recorded
new_records before after = option_to_list (slice_get after.records (length before.records))

none_new : (before after : SessionOf) → after.records ≡ before.records → new_records before after ≡ []
none_new before after same =
    ap (λ rs. option_to_list (slice_get rs (length before.records))) same ∙ ap option_to_list (slice_get_past before.records (length before.records) (omega arith))

-- a command makes it record the element there
stands_behind : (rs : List Recorded) (r : Recorded) → slice_get (rs ++ r ∷ []) (length rs) ≡ Some r
stands_behind [] r = refl
stands_behind (x ∷ rs) r = stands_behind rs r

new_by : (s : SessionOf) (row : ServeRow) → new_records s (after_by s row) ≡ recorded_with s row
new_by s (ServeRow.Say a) = none_new s s refl
new_by s (ServeRow.Give bytes) = none_new s s refl
new_by s (ServeRow.Move g a) = none_new s (after_by s (ServeRow.Move g a)) refl
new_by s (ServeRow.Record t) = ap option_to_list (stands_behind s.records (record_of s t))

-- An outcome of a half: its session makes the record of the command that it took, and none for any
-- other outcome.
abbrev pub RecordsHeard : List PackageText → SessionOf → HalfOutcome TimedOf → Type 0
RecordsHeard packages s (HalfOutcome.Went half sent) = half.core.session.records ≡ s.records
RecordsHeard packages s (HalfOutcome.Took half sent command answer) = new_records s half.core.session ≡ recorded_by (package_of packages s) s command
RecordsHeard packages s (HalfOutcome.Asks half m head body) = half.core.session.records ≡ s.records
RecordsHeard packages s (HalfOutcome.Strayed half m) = half.core.session.records ≡ s.records

read_records : (packages : List PackageText) (quiet : Bool) (h : HalfOf TimedOf) (requests : List (Option Held)) (m : MessageOf) (head : PldmHead) (c : Result CommandOf ℕ)
    → RecordsHeard packages h.core.session (takes_read (session_core packages) quiet true h requests m head c)
read_records packages quiet h requests m head (Ok c) = new_by h.core.session (serve_row h.core.session.unit (package_of packages h.core.session) h.core.session.stage c)
read_records packages quiet h requests m head (Err code) = refl

taken_records : (is_update : Bool) (packages : List PackageText) (h : HalfOf TimedOf) (requests : List (Option Held)) (m : MessageOf) (head : PldmHead) (body : List ℕ)
    → RecordsHeard packages h.core.session (takes_if is_update (session_core packages) true h requests m head body)
taken_records true packages h requests m head body =
    read_records packages (is_quiet h.asker.caller) h requests m head (read_by (session_core packages) head.command body)
taken_records false packages h requests m head body = refl

served_records : (packages : List PackageText) (h : HalfOf TimedOf) (row : TakerRow) → RecordsHeard packages h.core.session (half_takes (session_core packages) true h row)
served_records packages h (TakerRow.Silent requests) = refl
served_records packages h (TakerRow.Repeats requests answer) = refl
served_records packages h (TakerRow.TakesUp requests m head body) = taken_records (head.pldm_type == 5) packages h requests m head body
served_records packages h (TakerRow.Strays requests m) = refl

rows_record : (packages : List PackageText) (h : HalfOf TimedOf) (asks : AskerRow) (answers : TakerRow)
    → RecordsHeard packages h.core.session (half_on_rows (session_core packages) true h asks answers)
rows_record packages h (AskerRow.Ignores replies) answers = served_records packages (record h { asker = record h.asker { replies = replies } }) answers
rows_record packages h (AskerRow.Learns replies caller heard) answers =
    learns_no_record (package_of packages h.core.session) h.core.session (answer_read heard.command heard.reply)

pub hearing_records : (packages : List PackageText) (h : HalfOf TimedOf) (bytes : List ℕ) → RecordsHeard packages h.core.session (half_on_packet (session_core packages) true h bytes)
hearing_records packages h bytes = rows_record packages h (asker_row h.unit h.own h.peer h.asker bytes) (taker_row h.unit h.own h.peer h.taker bytes)

-- The link notes the record.
heard_noted : (now : ℕ) (packages : List PackageText) (l : LinkOf) (endpoint : Endpoint) (tid : ℕ) (heard : HalfOutcome TimedOf) → RecordsHeard packages l.agent.core.session heard
    → map EntryOf.Recording (new_records l.agent.core.session (node_outcome_of roles.Agent endpoint tid heard).half.core.session) ≡ noted_in (link_step_of_agent now packages l heard)
heard_noted now packages l endpoint tid (HalfOutcome.Went half sent) k = ap (map EntryOf.Recording) (none_new l.agent.core.session half.core.session k)
heard_noted now packages l endpoint tid (HalfOutcome.Took half sent command answer) k = ap (map EntryOf.Recording) k
heard_noted now packages l endpoint tid (HalfOutcome.Asks half m head body) k = ap (map EntryOf.Recording) (none_new l.agent.core.session half.core.session k)
heard_noted now packages l endpoint tid (HalfOutcome.Strayed half m) k = ap (map EntryOf.Recording) (none_new l.agent.core.session half.core.session k)

-- An agent that is unchanged records nothing.
none_behind : (o : Option (HalfOf TimedOf)) → record_after (record_count_of o) o ≡ None
none_behind None = refl
none_behind (Some h) = slice_get_past h.core.session.records (length h.core.session.records) (omega arith)

pub unmoved_records : (n : AgentOf) (sender : Option ℕ) → recorded_from n n sender ≡ []
unmoved_records n None = refl
unmoved_records n (Some device) = ap (λ r. map (λ x. noted_of device (EntryOf.Recording x)) (option_to_list r)) (none_behind (half_for n device))

pub deaf_agent_records : (w : WorldOf) (bytes : List ℕ) (sender : Option ℕ) → w.agent.deaf ≢ 0
    → recorded_from w.agent (agent_on_packet w.packages w.agent bytes w.now).agent sender ≡ []
deaf_agent_records w bytes sender deaf =
    let same : (agent_on_packet w.packages w.agent bytes w.now).agent ≡ w.agent = rw (ne_eqb w.agent.deaf 0 deaf) refl in
    ap (λ n. recorded_from w.agent n sender) same ∙ unmoved_records w.agent sender

-- a packet of a stranger
pub stranger_records : (w : WorldOf) (bytes : List ℕ) (p : Head × List ℕ) → w.agent.deaf ≡ 0 → any_packet bytes ≡ Ok p → half_for w.agent p.0.source ≡ None
    → recorded_from w.agent (agent_on_packet w.packages w.agent bytes w.now).agent (sender_of (any_packet bytes)) ≡ []
stranger_records w bytes p hears reads none =
    let same : (agent_on_packet w.packages w.agent bytes w.now).agent ≡ w.agent =
    ap (λ x. x.agent) (heard_from w bytes p hears reads ∙ unheard w.packages w.agent bytes w.now (half_place w.agent.halves p.0.source) (half_for w.agent p.0.source) none) in
    ap (λ n. recorded_from w.agent n (sender_of (any_packet bytes))) same ∙ unmoved_records w.agent (sender_of (any_packet bytes))

-- a packet of a device
own_half : (w : WorldOf) (bytes : List ℕ) (p : Head × List ℕ) (h : HalfOf TimedOf) → w.agent.deaf ≡ 0 → any_packet bytes ≡ Ok p → half_for w.agent p.0.source ≡ Some h
    → half_for (agent_on_packet w.packages w.agent bytes w.now).agent p.0.source ≡ Some (heard_half w bytes h)
own_half w bytes p h hears reads there =
    let place = half_place w.agent.halves p.0.source in
    ap (λ n. half_for n.agent p.0.source) (heard_from w bytes p hears reads)
    ∙ ap (λ hs. half_at hs (half_place hs p.0.source)) (hears_put w bytes place (half_for w.agent p.0.source))
    ∙ half_put (heard_half w bytes) (heard_half_peer w bytes) w.agent.halves p.0.source p.0.source
    ∙ ap (λ b. if b then option_map (heard_half w bytes) (half_for w.agent p.0.source) else half_for w.agent p.0.source) (eq-eqb p.0.source p.0.source refl)
    ∙ ap (option_map (heard_half w bytes)) there

pub device_records : (w : WorldOf) (bytes : List ℕ) (p : Head × List ℕ) (l : LinkOf) → w.agent.deaf ≡ 0 → any_packet bytes ≡ Ok p → half_for w.agent p.0.source ≡ Some l.agent
    → recorded_from w.agent (agent_on_packet w.packages w.agent bytes w.now).agent (sender_of (any_packet bytes))
    ≡ map (noted_of p.0.source) (noted_in (link_step_of_agent w.now w.packages l (half_on_packet (session_core w.packages) true l.agent bytes)))
device_records w bytes p l hears reads there =
    let after = (agent_on_packet w.packages w.agent bytes w.now).agent in
    ap (λ r. recorded_from w.agent after (sender_of r)) reads
    ∙ ap (λ o. map (λ x. noted_of p.0.source (EntryOf.Recording x)) (option_to_list (record_after (record_count_of o) (half_for after p.0.source)))) there
    ∙ ap (λ o. map (λ x. noted_of p.0.source (EntryOf.Recording x)) (option_to_list (record_after (length l.agent.core.session.records) o))) (own_half w bytes p l.agent hears reads there)
    ∙ noted_each p.0.source EntryOf.Recording (new_records l.agent.core.session (heard_half w bytes l.agent).core.session)
    ∙ ap (map (noted_of p.0.source))
    (heard_noted w.now w.packages l w.agent.endpoint w.agent.tid (half_on_packet (session_core w.packages) true l.agent bytes) (hearing_records w.packages l.agent bytes))
