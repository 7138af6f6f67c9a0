-- The packets that pass.
use Rattle.std.proofs.Common.{◌≡◌, ℕ, ◌==◌, ◌&&◌, ◌||◌, not, Bool, true, false, if◌then◌else◌, List, ◌∷◌, Option, None, Result, Ok, Err, refl, ne_eqb, sym, ap, subst, ◌∙◌}
use Rattle.std.proofs.lemmas.Bool.{eqb-true}
use Rattle.mctp_ctl.specs.declared.answers.Endpoint.{Endpoint}
use Rattle.pldm_base.specs.declared.header.PldmHead.{PldmHead}
use Rattle.pldm_base.specs.declared.header.PldmFault.{PldmFault}
use Rattle.pldm_base.specs.declared.header.PldmFault.TheVariants.{NotPldm}
use Rattle.pldm_base.specs.Header.{pldm_of}
use Rattle.mctp_front.specs.Front.{message_answer}
use Rattle.mctp_front.specs.Laws.{PassesOthers, PassesParts, PassesUpdates}
use Rattle.mctp_front.specs.ControlRows.{physical_answer}
use Rattle.mctp_front.specs.PldmRows.{pldm_answer, pldm_answer_in}

-- a test of which both ends are nothing
both_none : (c : Bool) (o : Option (List ℕ)) → o ≡ None → (if c then o else None) ≡ None
both_none true o e = e
both_none false o e = refl

pub passes_others : PassesOthers
passes_others u e bytes h message reads other some =
    rw (reads, ne_eqb h.dest e.eid other, ne_eqb h.dest 0 some) (both_none (h.som && (h.eom && h.to)) None refl)

pub passes_parts : PassesParts
passes_parts u e bytes h message reads part = rw (reads, part) refl

-- A PLDM message begins with the type of PLDM.
first_test : (c : Bool) (r : Result (PldmHead × List ℕ) PldmFault) (m : PldmHead × List ℕ)
    → (if not c then Err NotPldm else r) ≡ Ok m → c ≡ true
first_test true r m is = refl
first_test false r m is = absurd (cc)

-- no row by the destination
neither : (c d : Bool) (a b : Option (List ℕ)) → a ≡ None → b ≡ None → (if c then a else if d then b else None) ≡ None
neither c d a b first second = rw (first, second, both_none d None refl) (both_none c None refl)

passing_pldm : (e : Endpoint) (dest flags version command : ℕ) (body : List ℕ) (p : PldmHead) (fields : List ℕ)
    → pldm_of (1 ∷ flags ∷ version ∷ command ∷ body) ≡ Ok (p, fields) → (p.rq && (p.pldm_type == 0)) ≡ false
    → message_answer e dest (1 ∷ flags ∷ version ∷ command ∷ body) ≡ None
passing_pldm e dest flags version command body p fields pldm passes =
    let message = 1 ∷ flags ∷ version ∷ command ∷ body in
    neither (dest == e.eid) (dest == 0) (pldm_answer message) (physical_answer e message)
    (ap pldm_answer_in pldm ∙ rw passes refl) (both_none ((version == 1) || (version == 2)) None refl)

passing_message : (e : Endpoint) (dest : ℕ) (message : List ℕ) (p : PldmHead) (fields : List ℕ)
    → pldm_of message ≡ Ok (p, fields) → (p.rq && (p.pldm_type == 0)) ≡ false → message_answer e dest message ≡ None
passing_message e dest (kind ∷ flags ∷ version ∷ command ∷ body) p fields pldm passes =
    let one : kind ≡ 1 = eqb-true kind 1 (first_test (kind == 1) _ (p, fields) pldm) in
    subst (λ (k : ℕ). pldm_of (k ∷ flags ∷ version ∷ command ∷ body) ≡ Ok (p, fields) → message_answer e dest (k ∷ flags ∷ version ∷ command ∷ body) ≡ None)
    (sym one) (λ is. passing_pldm e dest flags version command body p fields is passes) pldm
passing_message e dest message p fields pldm passes = absurd (cc)

pub passes_updates : PassesUpdates
passes_updates u e bytes h message p fields reads pldm passes =
    rw (reads, passing_message e h.dest message p fields pldm passes) (both_none (h.som && (h.eom && h.to)) None refl)
