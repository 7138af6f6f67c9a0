-- The invariant of a caller is kept.
use Rattle.std.proofs.Common.{◌≡◌, ◌≢◌, ◌∙◌, ◌+◌, ◌%◌, ◌≤◌, ◌<◌, ℕ, Bool, true, false, List, Option, Some, None, IfSome, drop, length, slice_set, ◌⊎◌, inl, inr, true≢false, refl, sym, ap, arith}
use Rattle.std.proofs.lemmas.Bool.Decides.{eqb_tells}
use Rattle.mctp_reasm.specs.Pieces.{MessageOf}
use Rattle.pldm_exch.specs.Rests.{rests_after_tick}
use Rattle.pldm_exch.proofs.Resting.{none_rest, rest_fallen, rest_set, rests_fall, rests_set}
use Rattle.pldm_exch.specs.Caller.{CallerState, IsCaller, IsOpen, Open, caller_after_abandon, answer_body, answer_outcome, begin_outcome, caller_tick, closed_by, new_caller, answer_outcome_for, open_after_tick, request_message, sends_at, caller_tick_for}

-- numbers
last_of : (n : ℕ) → n ≤ 31 → ((n + 1) % 32 + 31) % 32 ≡ n
last_of n le = omega arith

below_32 : (n : ℕ) → n % 32 ≤ 31
below_32 n = omega arith

pub below_8 : (n : ℕ) → n % 8 < 8
below_8 n = omega arith

pub fresh_is : (own peer : ℕ) → IsCaller (new_caller own peer)
fresh_is own peer = record { number = omega arith; rests = none_rest; asked = tt }

pub begun_is : (c : CallerState) (pldm_type command : ℕ) (body : List ℕ) → IsCaller c → IsCaller (begin_outcome c pldm_type command body).0
begun_is c pldm_type command body h = record {
  number = below_32 (c.number + 1);
  rests = rests_set c.rests (c.number % 8) h.rests;
  asked = record {
    tag = ap (λ n. n % 8) (sym (last_of c.number h.number));
    identifier = sym (last_of c.number h.number);
    age = omega arith;
    unanswered = refl;
    message = refl;
    rest = let set = rest_set c.rests (c.number % 8) (below_8 c.number) h.rests in omega (arith, set);
  };
}

pub abandoned_is : (c : CallerState) → IsCaller c → IsCaller (caller_after_abandon c)
abandoned_is c h = record { number = h.number; rests = h.rests; asked = tt }

closed_is : (c : CallerState) (o : Open) (answer : Option (List ℕ)) → IsCaller c → IsCaller (closed_by c o answer).0
closed_is c o None h = h
closed_is c o (Some body) h = record { number = h.number; rests = h.rests; asked = tt }

heard_as_is : (c : CallerState) (o : Option Open) (m : MessageOf) → IsCaller c → IsCaller (answer_outcome_for c o m).0
heard_as_is c None m h = h
heard_as_is c (Some o) m h = closed_is c o (answer_body o m) h

pub heard_is : (c : CallerState) (m : MessageOf) → IsCaller c → IsCaller (answer_outcome c m).0
heard_is c m h = heard_as_is c c.asked m h

-- an open request that is sent again
sent_is : (c : CallerState) (o : Open) → IsCaller c → IsOpen c o → o.age + 1 ≤ 17 → (o.age + 1) % 6 ≡ 0
    → IsCaller (record c { rests = slice_set (rests_after_tick c.rests) o.tag 40; asked = Some (open_after_tick o) })
sent_is c o h open_is young due =
    let low : o.tag < 8 = rw open_is.tag (below_8 ((c.number + 31) % 32)) in
    let set = rest_set (rests_after_tick c.rests) o.tag low (rests_fall c.rests h.rests) in
    record {
      number = h.number;
      rests = rests_set (rests_after_tick c.rests) o.tag (rests_fall c.rests h.rests);
      asked = record {
        tag = open_is.tag;
        identifier = open_is.identifier;
        age = young;
        unanswered = open_is.unanswered;
        message = open_is.message;
        rest = omega (arith, set, due);
      };
    }

-- an open request that keeps waiting
waits_is : (c : CallerState) (o : Open) → IsCaller c → IsOpen c o → o.age + 1 ≤ 17 → (o.age + 1) % 6 ≡ o.age % 6 + 1 → IsCaller (record c { rests = rests_after_tick c.rests; asked = Some (open_after_tick o) })
waits_is c o h open_is young waits =
    let low : o.tag < 8 = rw open_is.tag (below_8 ((c.number + 31) % 32)) in
    let fell = rest_fallen c.rests o.tag low h.rests in
    let rest = open_is.rest in
    record {
      number = h.number;
      rests = rests_fall c.rests h.rests;
      asked = record {
        tag = open_is.tag;
        identifier = open_is.identifier;
        age = young;
        unanswered = open_is.unanswered;
        message = open_is.message;
        rest = omega (arith, fell, waits, rest);
      };
    }

-- a request that is sent again, keeps waiting or is given up
pub bool_cases : (b : Bool) → (b ≡ true) ⊎ (b ≡ false)
bool_cases true = inl refl
bool_cases false = inr refl

pub due_is : (c : CallerState) (o : Open) → IsCaller c → IsOpen c o → sends_at (o.age + 1) ≡ true → IsCaller (record c { rests = slice_set (rests_after_tick c.rests) o.tag 40; asked = Some (open_after_tick o) })
due_is c o h open_is due = elim (eqb_tells (o.age + 1) 6) [
  | inl first ↦ sent_is c o h open_is (omega (arith, first.1)) (omega (arith, first.1))
  | inr other ↦ elim (eqb_tells (o.age + 1) 12) [
    | inl second ↦ sent_is c o h open_is (omega (arith, second.1)) (omega (arith, second.1))
    | inr neither ↦ absurd (true≢false (sym due ∙ rw (other.0, neither.0) refl))
  ]
]

pub more_is : (c : CallerState) (o : Open) → IsCaller c → IsOpen c o → sends_at (o.age + 1) ≡ false → o.age + 1 ≢ 18 → IsCaller (record c { rests = rests_after_tick c.rests; asked = Some (open_after_tick o) })
more_is c o h open_is due more =
    let age = open_is.age in
    elim (eqb_tells (o.age + 1) 6) [
      | inl first ↦ absurd (true≢false (sym (rw first.0 refl) ∙ due))
      | inr other ↦ elim (eqb_tells (o.age + 1) 12) [
        | inl second ↦ absurd (true≢false (sym (rw (other.0, second.0) refl) ∙ due))
        | inr neither ↦ waits_is c o h open_is (omega (arith, age, more)) (omega (arith, age, other.1, neither.1, more))
      ]
    ]

pub over_is : (c : CallerState) → IsCaller c → IsCaller (record c { rests = rests_after_tick c.rests; asked = None })
over_is c h = record { number = h.number; rests = rests_fall c.rests h.rests; asked = tt }

ticked_is : (c : CallerState) (o : Option Open) → c.asked ≡ o → IsCaller c → IfSome o (IsOpen c) → IsCaller (caller_tick_for c o).0
ticked_is c None none h waits = record { number = h.number; rests = rests_fall c.rests h.rests; asked = rw none tt }
ticked_is c (Some o) some h open_is = elim (bool_cases (sends_at (o.age + 1))) [
  | inl due ↦ rw due (due_is c o h open_is due)
  | inr other ↦ elim (eqb_tells (o.age + 1) 18) [
    | inl last ↦ rw (other, last.0) (over_is c h)
    | inr more ↦ rw (other, more.0) (more_is c o h open_is other more.1)
  ]
]

pub tick_is : (c : CallerState) → IsCaller c → IsCaller (caller_tick c).0
tick_is c h = ticked_is c c.asked refl h h.asked

pub ruleset callers = (fresh_is, begun_is, abandoned_is, heard_is, tick_is)

-- an open request has a header
bytes_by : (m : MessageOf) (own peer n pldm_type command : ℕ) (body : List ℕ) → m ≡ request_message own peer n pldm_type command body → 4 ≤ length m.bytes
bytes_by m own peer n pldm_type command body e = rw e (omega arith)

pub open_bytes : (c : CallerState) (o : Open) → IsOpen c o → 4 ≤ length o.message.bytes
open_bytes c o h = bytes_by o.message c.own c.peer o.identifier o.pldm_type o.command (drop 4 o.message.bytes) h.message
