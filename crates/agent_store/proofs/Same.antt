-- Lines that are equal by their comparison.
use Rattle.std.proofs.Common.{◌≡◌, ◌∙◌, ◌==◌, ◌&&◌, ℕ, true, false, Bool, List, [], ◌∷◌, Option, Some, None, nat_eq, ap, refl, sym}
use Rattle.std.specs.Cmp.Lexicographic.{pointwise}
use Rattle.std.specs.Option.{option_eq}
use Rattle.std.specs.contracts.prelude.BoolPartialEq.TheImpl as flag_comparison
use Rattle.std.proofs.lemmas.Bool.{and_parts, eqb-true}
use Rattle.fw_store.specs.declared.kept_line.KeptLine.{KeptLine}
use Rattle.fw_store.specs.declared.kept_line.KeptLine.TheVariants as lines
use Rattle.fw_store.specs.contracts.kept_line.KeptLinePartialEq.TheImpl as comparison

abbrev same : KeptLine → KeptLine → Bool
same = comparison.eq-value.it

bytes_same : (xs ys : List ℕ) → pointwise nat_eq xs ys ≡ true → xs ≡ ys
bytes_same [] [] h = refl
bytes_same [] (y ∷ ys) h = absurd (cc)
bytes_same (x ∷ xs) [] h = absurd (cc)
bytes_same (x ∷ xs) (y ∷ ys) h =
    let p = and_parts (x == y) (pointwise nat_eq xs ys) h in
    ap (λ z. z ∷ xs) (eqb-true x y p.0) ∙ ap (λ zs. y ∷ zs) (bytes_same xs ys p.1)

time_same : (a b : Option ℕ) → option_eq nat_eq a b ≡ true → a ≡ b
time_same None None h = refl
time_same None (Some b) h = absurd (cc)
time_same (Some a) None h = absurd (cc)
time_same (Some a) (Some b) h = ap (λ x. Some x) (eqb-true a b h)

abbrev flags_same : Bool → Bool → Bool
flags_same a b = flag_comparison.ghosts.eq a b

flag_same : (a b : Bool) → flags_same a b ≡ true → a ≡ b
flag_same true true h = refl
flag_same true false h = absurd (cc)
flag_same false true h = absurd (cc)
flag_same false false h = refl

line_same : (a b : KeptLine) → same a b ≡ true → a ≡ b
line_same (lines.Session d n) (lines.Session e m) h =
    let p = and_parts (d == e) (n == m) h in
    ap (λ x. lines.Session x n) (eqb-true d e p.0) ∙ ap (λ x. lines.Session e x) (eqb-true n m p.1)
line_same (lines.Record d r) (lines.Record e s) h =
    let p = and_parts (d == e) ((r.«package» == s.«package») && (r.component == s.component)) h in
    let q = and_parts (r.«package» == s.«package») (r.component == s.component) p.1 in
    ap (λ x. lines.Record x r) (eqb-true d e p.0)
    ∙ ap (λ x. lines.Record e (record { «package» = x; component = r.component })) (eqb-true r.«package» s.«package» q.0)
    ∙ ap (λ x. lines.Record e (record { «package» = s.«package»; component = x })) (eqb-true r.component s.component q.1)
line_same (lines.Log s) (lines.Log t) h =
    let p = and_parts (s.next_id == t.next_id) _ h in
    let q = and_parts (s.next_reservation == t.next_reservation) _ p.1 in
    let v = and_parts (s.offset == t.offset) _ q.1 in
    let w = and_parts (option_eq nat_eq s.last_addition t.last_addition) _ v.1 in
    let x = and_parts (option_eq nat_eq s.last_erase t.last_erase) (flags_same s.overflow t.overflow) w.1 in
    let id = eqb-true s.next_id t.next_id p.0 in
    let reservation = eqb-true s.next_reservation t.next_reservation q.0 in
    let offset = eqb-true s.offset t.offset v.0 in
    let addition = time_same s.last_addition t.last_addition w.0 in
    let erase = time_same s.last_erase t.last_erase x.0 in
    let overflow = flag_same s.overflow t.overflow x.1 in
    λ i. lines.Log (record { next_id = id i; next_reservation = reservation i; offset = offset i; last_addition = addition i; last_erase = erase i; overflow = overflow i })
line_same (lines.Entry r) (lines.Entry s) h =
    let p = and_parts (r.id == s.id) ((r.record_type == s.record_type) && pointwise nat_eq r.rest s.rest) h in
    let q = and_parts (r.record_type == s.record_type) (pointwise nat_eq r.rest s.rest) p.1 in
    ap (λ x. lines.Entry (record { id = x; record_type = r.record_type; rest = r.rest })) (eqb-true r.id s.id p.0)
    ∙ ap (λ x. lines.Entry (record { id = s.id; record_type = x; rest = r.rest })) (eqb-true r.record_type s.record_type q.0)
    ∙ ap (λ x. lines.Entry (record { id = s.id; record_type = s.record_type; rest = x })) (bytes_same r.rest s.rest q.1)
line_same a b h = absurd (cc)

lines_same : (ls ms : List KeptLine) → pointwise same ls ms ≡ true → ls ≡ ms
lines_same [] [] h = refl
lines_same [] (m ∷ ms) h = absurd (cc)
lines_same (l ∷ ls) [] h = absurd (cc)
lines_same (l ∷ ls) (m ∷ ms) h =
    let parts = and_parts (same l m) (pointwise same ls ms) h in
    ap (λ x. x ∷ ls) (line_same l m parts.0) ∙ ap (λ xs. m ∷ xs) (lines_same ls ms parts.1)

pub are_same : (result : Bool) (kept ls ms : List KeptLine) → result ≡ pointwise same kept ms → kept ≡ ls → result ≡ true → ls ≡ ms
are_same result kept ls ms is value true_then = sym value ∙ lines_same kept ms (sym is ∙ true_then)
