-- Lemmas on kept answers.
use Rattle.std.proofs.Common.{◌≡◌, ◌∙◌, ◌+◌, ◌<◌, ℕ, zero, suc, List, [], ◌∷◌, Option, Some, None, IfSome, length, get_or, slice_set, if◌then◌else◌, nat_le, inl, inr, refl, sym, ap, arith}
use Rattle.std.proofs.lemmas.Bool.{cases_lt, lt-ltb, le-ltb, le-leb, lt-leb}
use Rattle.std.proofs.lemmas.Bool.Decides.{eqb_tells}
use Rattle.std.proofs.lemmas.List.{get_or-set_same, get_or-set_other}
use Rattle.mctp_reasm.specs.Pieces.{MessageOf}
use Rattle.pldm_exch.specs.Kept.{AreKeptAnswers, AreKeptFrom, AskedOf, IsKeptAnswer, KeptAnswer, answerer_tick, asked_by_kept, identifier_of, kept_as, kept_at, kept_tick, kept_with, none_kept}
use Rattle.pldm_exch.specs.Laws.{AnswersAreKept, AnswersStayLawful, KeptChange, RepeatsAnswerTheRequest, kept_after}

-- the invariant of all kept answers is kept
pub none_are : AreKeptAnswers none_kept
none_are = record { places = refl; each = (tt, (tt, (tt, (tt, (tt, (tt, (tt, (tt, tt)))))))) }

tick_from : (tag : ℕ) (kept : List (Option KeptAnswer)) → AreKeptFrom tag kept → AreKeptFrom tag (answerer_tick kept)
tick_from tag [] h = tt
tick_from tag (None ∷ ks) h = (tt, tick_from (tag + 1) ks h.1)
tick_from tag (Some k ∷ ks) h = elim (cases_lt k.age 24) [
  | inl lt ↦ rw (lt-ltb k.age 24 lt) (record { tag = h.0.tag; identifier = h.0.identifier; age = omega (arith, lt) }, tick_from (tag + 1) ks h.1)
  | inr le ↦ rw (le-ltb k.age 24 le) (tt, tick_from (tag + 1) ks h.1)
]

length_tick : (kept : List (Option KeptAnswer)) → length (answerer_tick kept) ≡ length kept
length_tick [] = refl
length_tick (k ∷ ks) = ap suc (length_tick ks)

pub tick_are : (kept : List (Option KeptAnswer)) → AreKeptAnswers kept → AreKeptAnswers (answerer_tick kept)
tick_are kept h = record { places = length_tick kept ∙ h.places; each = tick_from 0 kept h.each }

length_put : (kept : List (Option KeptAnswer)) (t : ℕ) (k : Option KeptAnswer) → length (slice_set kept t k) ≡ length kept
length_put [] t k = refl
length_put (x ∷ xs) zero k = refl
length_put (x ∷ xs) (suc t) k = ap suc (length_put xs t k)

put_from : (tag t : ℕ) (kept : List (Option KeptAnswer)) (k : KeptAnswer) → AreKeptFrom tag kept → IsKeptAnswer (tag + t) k → AreKeptFrom tag (slice_set kept t (Some k))
put_from tag t [] k h is = tt
put_from tag zero (x ∷ xs) k h is = let sum : tag + 0 ≡ tag = omega arith in (rw sum at is, h.1)
put_from tag (suc t) (x ∷ xs) k h is = let sum : tag + suc t ≡ tag + 1 + t = omega arith in (h.0, put_from (tag + 1) t xs k h.1 (rw sum at is))

pub put_are : (kept : List (Option KeptAnswer)) (m : MessageOf) (identifier : Option ℕ) → identifier_of m ≡ identifier → AreKeptAnswers kept → AreKeptAnswers (kept_as kept m identifier)
put_are kept m None e h = h
put_are kept m (Some identifier) e h =
    let sum : 0 + m.tag ≡ m.tag = omega arith in
    record {
      places = length_put kept m.tag (Some (record { identifier = identifier; reply = m; age = 0 })) ∙ h.places;
      each = put_from 0 m.tag kept (record { identifier = identifier; reply = m; age = 0 }) h.each (record { tag = sym sum; identifier = e; age = omega arith });
    }

pub keep_are : (kept : List (Option KeptAnswer)) (m : MessageOf) → AreKeptAnswers kept → AreKeptAnswers (kept_with kept m)
keep_are kept m h = put_are kept m (identifier_of m) refl h

pub stay_lawful : AnswersStayLawful
stay_lawful = record { first = none_are; keep = keep_are; tick = tick_are }

-- the repeated answer
answer_in : MessageOf → AskedOf → MessageOf
answer_in m (AskedOf.Again answer) = answer
answer_in m AskedOf.New = m

again_as : (place : ℕ) (o : Option KeptAnswer) (identifier : Option ℕ) (answer : MessageOf) → IfSome o (IsKeptAnswer place) → asked_by_kept o identifier ≡ AskedOf.Again answer
    → (answer.tag ≡ place) × (identifier_of answer ≡ identifier)
unfolding answer_in
again_as place None identifier answer h e = absurd (cc)
again_as place (Some k) None answer h e = absurd (cc)
again_as place (Some k) (Some identifier) answer h e = elim (eqb_tells k.identifier identifier) [
  | inl same ↦
      let again : asked_by_kept (Some k) (Some identifier) ≡ AskedOf.Again k.reply = rw same.0 refl in
      let is : answer ≡ k.reply = ap (answer_in answer) (sym e ∙ again) in
      (ap (λ m. m.tag) is ∙ h.tag, ap identifier_of is ∙ (h.identifier ∙ ap Some same.1))
  | inr other ↦ let no = rw other.0 at e in absurd (cc)
]

kept_from : (place t : ℕ) (kept : List (Option KeptAnswer)) → AreKeptFrom place kept → IfSome (get_or kept t None) (IsKeptAnswer (place + t))
kept_from place t [] h = tt
kept_from place zero (k ∷ ks) h = let sum : place + 0 ≡ place = omega arith in rw sum h.0
kept_from place (suc t) (k ∷ ks) h = let sum : place + suc t ≡ place + 1 + t = omega arith in rw sum (kept_from (place + 1) t ks h.1)

pub repeats : RepeatsAnswerTheRequest
repeats kept request answer h e =
    let sum : 0 + request.tag ≡ request.tag = omega arith in
    again_as request.tag (kept_at kept request.tag) (identifier_of request) answer (rw sum at (kept_from 0 request.tag kept h.each)) e

-- the time for which an answer is kept
tick_at : (kept : List (Option KeptAnswer)) (t : ℕ) → kept_at (answerer_tick kept) t ≡ kept_tick (kept_at kept t)
tick_at [] t = refl
tick_at (k ∷ ks) zero = refl
tick_at (k ∷ ks) (suc t) = tick_at ks t

kept_for : (kept : List (Option KeptAnswer)) (t identifier n : ℕ) (m : MessageOf) → kept_at kept t ≡ Some (record { identifier = identifier; reply = m; age = 0 })
    → kept_at (kept_after n kept) t ≡ (if nat_le n 24 then Some (record { identifier = identifier; reply = m; age = n }) else None)
kept_for kept t identifier zero m e = e
kept_for kept t identifier (suc n) m e =
    let before = kept_for kept t identifier n m e in
    let next : n + 1 ≡ suc n = omega arith in
    let ticked = tick_at (kept_after n kept) t ∙ ap kept_tick before in
    ticked ∙ elim (cases_lt n 24) [
      | inl lt ↦ rw (le-leb n 24 (omega (arith, lt)), le-leb (suc n) 24 (omega (arith, lt))) (rw next refl)
      | inr ge ↦ elim (cases_lt n 25) [
        | inl last ↦ rw (le-leb n 24 (omega (arith, last)), lt-leb (suc n) 24 (omega (arith, ge))) refl
        | inr past ↦ rw (lt-leb n 24 (omega (arith, past)), lt-leb (suc n) 24 (omega (arith, past))) refl
      ]
    ]

pub are_kept : AnswersAreKept
are_kept kept m identifier n h low e =
    let long : m.tag < length kept = omega (arith, h.places, low) in
    kept_for (kept_with kept m) m.tag identifier n m
    (ap (λ i. kept_at (kept_as kept m i) m.tag) e ∙ get_or-set_same kept m.tag (Some (record { identifier = identifier; reply = m; age = 0 })) None long)

pub change : KeptChange
change = record {
  keep = λ kept m identifier t h low e.
      let k : Option KeptAnswer = Some (record { identifier = identifier; reply = m; age = 0 }) in
      let long : m.tag < length kept = omega (arith, h.places, low) in
      ap (λ i. kept_at (kept_as kept m i) t) e
      ∙ elim (eqb_tells t m.tag) [
        | inl same ↦ rw same.0 (ap (λ u. kept_at (slice_set kept m.tag k) u) same.1 ∙ get_or-set_same kept m.tag k None long)
        | inr other ↦ rw other.0 (get_or-set_other kept m.tag t k None other.1)
      ];
  tick = tick_at;
}

pub ruleset keeping = (none_are, tick_are, keep_are)
