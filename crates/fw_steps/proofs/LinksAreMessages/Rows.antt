-- An open request after a tick and a packet; and both ends of a half are deaf for as long.
use Rattle.std.proofs.Common.{◌≡◌, ◌∙◌, ℕ, ◌+◌, ◌-◌, ◌==◌, nat_le, Bool, true, false, List, map, [], ◌∷◌, Option, Some, None, refl, sym, ap, subst}
use Rattle.std.specs.Option.{option_map}
use Rattle.mctp_reasm.specs.Held.{held_tick}
use Rattle.mctp_reasm.specs.Pieces.{MessageOf}
use Rattle.pldm_exch.specs.Caller.{CallTickOf, CallerState, Open, request_of_open, caller_tick, may_begin, sends_at, caller_tick_for}
use Rattle.pldm_exch.specs.Ends.{AskerOf, TakerOf}
use Rattle.pldm_exch.specs.Sides.{AskerTick, asker_called, asker_counts, taker_counts}
use Rattle.fwup_wire.specs.Values.{CommandOf}
use Rattle.fw_node.specs.Halves.{CoreOf, HalfOf, begins_if, begins_wish, half_tick_by_row, half_ticks, tick_if, unwished_abandoned, with_caller}

-- the request that waits after a tick: the one before, or none if it was given up
abbrev pub RowWaits : AskerTick → Option (ℕ × List ℕ) → Type 0
RowWaits (AskerTick.Waits a) o = option_map request_of_open a.caller.asked ≡ o
RowWaits (AskerTick.Resends a m) o = option_map request_of_open a.caller.asked ≡ o
RowWaits (AskerTick.GivesUp a) o = a.caller.asked ≡ None

abbrev CallWaits : Option Open → CallTickOf → Option (ℕ × List ℕ) → Type 0
CallWaits asked CallTickOf.Nothing o = option_map request_of_open asked ≡ o
CallWaits asked (CallTickOf.Send m) o = option_map request_of_open asked ≡ o
CallWaits asked CallTickOf.GaveUp o = asked ≡ None

ticks_by : (c : CallerState) (o : Open) (again last : Bool) → sends_at (o.age + 1) ≡ again → ((o.age + 1) == 18) ≡ last
    → CallWaits (caller_tick_for c (Some o)).0.asked (caller_tick_for c (Some o)).1 (Some (request_of_open o))
ticks_by c o true last a b = rw a refl
ticks_by c o false true a b = rw (a, b) refl
ticks_by c o false false a b = rw (a, b) refl

ticks_waiting : (c : CallerState) (o : Option Open) → c.asked ≡ o → CallWaits (caller_tick_for c o).0.asked (caller_tick_for c o).1 (option_map request_of_open o)
ticks_waiting c None e = ap (option_map request_of_open) e
ticks_waiting c (Some o) e = ticks_by c o (sends_at (o.age + 1)) ((o.age + 1) == 18) refl refl

call_row : (a : AskerOf) (tick : CallTickOf) (o : Option (ℕ × List ℕ)) → CallWaits a.caller.asked tick o → RowWaits (asker_called a tick) o
call_row a CallTickOf.Nothing o k = k
call_row a (CallTickOf.Send m) o k = k
call_row a CallTickOf.GaveUp o k = k

abbrev counts_if : Bool → AskerOf → AskerTick
counts_if true a = asker_called (record a { deaf = 0; caller = (caller_tick a.caller).0; replies = map held_tick a.replies }) (caller_tick a.caller).1
counts_if false a = AskerTick.Waits (record a { deaf = a.deaf - 1 })

pub counts_are : (a : AskerOf) (hears : Bool) → nat_le a.deaf 1 ≡ hears → asker_counts a ≡ counts_if hears a
counts_are a true e = rw e refl
counts_are a false e = rw e refl

waits_if : (a : AskerOf) (hears : Bool) → RowWaits (counts_if hears a) (option_map request_of_open a.caller.asked)
waits_if a true =
    call_row (record a { deaf = 0; caller = (caller_tick a.caller).0; replies = map held_tick a.replies }) (caller_tick a.caller).1 (option_map request_of_open a.caller.asked)
    (ticks_waiting a.caller a.caller.asked refl)
waits_if a false = refl

pub row_waits : (a : AskerOf) → RowWaits (asker_counts a) (option_map request_of_open a.caller.asked)
row_waits a = subst (λ r. RowWaits r (option_map request_of_open a.caller.asked)) (sym (counts_are a (nat_le a.deaf 1) refl)) (waits_if a (nat_le a.deaf 1))

-- ONE DEAF COUNT

-- the asker of a row
abbrev pub asker_in : AskerTick → AskerOf
asker_in (AskerTick.Waits a) = a
asker_in (AskerTick.Resends a m) = a
asker_in (AskerTick.GivesUp a) = a

called_deaf : (a : AskerOf) (tick : CallTickOf) → (asker_in (asker_called a tick)).deaf ≡ a.deaf
called_deaf a CallTickOf.Nothing = refl
called_deaf a (CallTickOf.Send m) = refl
called_deaf a CallTickOf.GaveUp = refl

abbrev pub deaf_after : Bool → ℕ → ℕ
deaf_after true deaf = 0
deaf_after false deaf = deaf - 1

pub asker_deaf : (a : AskerOf) (hears : Bool) → (asker_in (counts_if hears a)).deaf ≡ deaf_after hears a.deaf
asker_deaf a true = called_deaf (record a { deaf = 0; caller = (caller_tick a.caller).0; replies = map held_tick a.replies }) (caller_tick a.caller).1
asker_deaf a false = refl

taker_deaf : (t : TakerOf) (hears : Bool) → nat_le t.deaf 1 ≡ hears → (taker_counts t).deaf ≡ deaf_after hears t.deaf
taker_deaf t true e = rw e refl
taker_deaf t false e = rw e refl

counts_deaf : (a : AskerOf) (t : TakerOf) → a.deaf ≡ t.deaf → (asker_in (asker_counts a)).deaf ≡ (taker_counts t).deaf
counts_deaf a t e =
    ap (λ r. (asker_in r).deaf) (counts_are a (nat_le a.deaf 1) refl)
    ∙ asker_deaf a (nat_le a.deaf 1)
    ∙ ap (deaf_after (nat_le a.deaf 1)) e
    ∙ sym (taker_deaf t (nat_le a.deaf 1) (ap (λ n. nat_le n 1) (sym e)))

-- both ends of a half are deaf for as long
abbrev pub IsOneDeaf : {C : Type 0} → HalfOf C → Type 0
IsOneDeaf h = h.asker.deaf ≡ h.taker.deaf

begun_deaf : {C : Type 0} (may : Bool) (h : HalfOf C) (c : CommandOf) (ms : List MessageOf) → IsOneDeaf h → IsOneDeaf (begins_if may h c ms).half
begun_deaf true h c ms e = e
begun_deaf false h c ms e = e

wished_deaf : {C : Type 0} (wish : Option CommandOf) (h : HalfOf C) (ms : List MessageOf) → IsOneDeaf h → IsOneDeaf (begins_wish wish h ms).half
wished_deaf None h ms e = e
wished_deaf (Some c) h ms e = begun_deaf (may_begin h.asker.caller) h c ms e

hearing_deaf : {C : Type 0} (hears : Bool) (core : CoreOf C) (h : HalfOf C) (ms : List MessageOf) → IsOneDeaf h → IsOneDeaf (tick_if hears core h ms).half
hearing_deaf true core h ms e =
    wished_deaf (core.wish (core.ticked h.core)) (with_caller (record h { core = core.ticked h.core }) (unwished_abandoned (core.wish (core.ticked h.core)) h.asker.caller)) ms e
hearing_deaf false core h ms e = e

row_deaf : {C : Type 0} (core : CoreOf C) (h : HalfOf C) (row : AskerTick) → (asker_in row).deaf ≡ h.taker.deaf → IsOneDeaf (half_tick_by_row core h row).half
row_deaf core h (AskerTick.Waits a) e = hearing_deaf (a.deaf == 0) core (record h { asker = a }) [] e
row_deaf core h (AskerTick.Resends a m) e = hearing_deaf (a.deaf == 0) core (record h { asker = a }) (m ∷ []) e
row_deaf core h (AskerTick.GivesUp a) e = hearing_deaf (a.deaf == 0) core (record h { asker = a; core = core.silent h.core }) [] e

pub ticks_deaf : {C : Type 0} (core : CoreOf C) (counts : Bool) (h : HalfOf C) → IsOneDeaf h → IsOneDeaf (half_ticks core counts h).half
ticks_deaf core true h e = row_deaf core (record h { taker = taker_counts h.taker }) (asker_counts h.asker) (counts_deaf h.asker h.taker e)
ticks_deaf core false h e = e
