-- The line of packets, from the packets with a space after each.
use Rattle.std.proofs.Common.{◌≡◌, ◌∙◌, ℕ, List, [], ◌∷◌, ◌++◌, codes, length, length-append, refl, sym, ap, append_assoc, append-nil, arith}
use Rattle.hex.specs.Hex.{encode_upper}
use Rattle.fw_serve.specs.Texts.{packets_line, packets_spaced}

-- packets with a space between two of them
abbrev joined : List ℕ → List (List ℕ) → List ℕ
joined p [] = encode_upper p
joined p (q ∷ ps) = encode_upper p ++ 32 ∷ joined q ps

spaced_joined : (p : List ℕ) (ps : List (List ℕ)) → packets_spaced (p ∷ ps) ≡ joined p ps ++ 32 ∷ []
spaced_joined p [] = append-nil (encode_upper p ++ 32 ∷ [])
spaced_joined p (q ∷ ps) =
    append_assoc (encode_upper p) (32 ∷ []) (packets_spaced (q ∷ ps))
    ∙ ap (λ x. encode_upper p ++ 32 ∷ x) (spaced_joined q ps)
    ∙ sym (append_assoc (encode_upper p) (32 ∷ joined q ps) (32 ∷ []))

line_joined : (p : List ℕ) (ps : List (List ℕ)) → packets_line (p ∷ ps) ≡ joined p ps ++ 10 ∷ []
line_joined p [] = refl
line_joined p (q ∷ ps) =
    ap (λ x. encode_upper p ++ 32 ∷ x) (line_joined q ps) ∙ sym (append_assoc (encode_upper p) (32 ∷ joined q ps) (10 ∷ []))

-- a list without its last item
abbrev init : List ℕ → List ℕ
init [] = []
init (x ∷ []) = []
init (x ∷ y ∷ xs) = x ∷ init (y ∷ xs)

init_last : (xs : List ℕ) (b : ℕ) → init (xs ++ b ∷ []) ≡ xs
init_last [] b = refl
init_last (x ∷ []) b = refl
init_last (x ∷ y ∷ xs) b = ap (λ zs. x ∷ zs) (init_last (y ∷ xs) b)

pub nothing : (xs : List ℕ) → length xs ≡ 0 → xs ≡ []
nothing [] none = refl
nothing (x ∷ xs) none = absurd (omega arith)

-- the last space becomes a line feed
pub line_ends : (text rest : List ℕ) (b : ℕ) (sent : List (List ℕ)) → text ≡ rest ++ b ∷ [] → text ≡ packets_spaced sent → rest ++ 10 ∷ [] ≡ packets_line sent
line_ends text rest b [] is from = absurd (let e = ap length (sym is ∙ from) in let l = length-append rest (b ∷ []) in omega (arith, e, l))
line_ends text rest b (p ∷ ps) is from =
    ap (λ x. x ++ 10 ∷ []) (sym (init_last rest b) ∙ ap init (sym is ∙ from ∙ spaced_joined p ps) ∙ init_last (joined p ps) 32) ∙ sym (line_joined p ps)

pub no_packets : (text : List ℕ) (sent : List (List ℕ)) → length text ≡ 0 → text ≡ packets_spaced sent → codes "-\n" ≡ packets_line sent
no_packets text [] none from = refl
no_packets text (p ∷ ps) none from = absurd (let e = ap length (from ∙ spaced_joined p ps) in let l = length-append (joined p ps) (32 ∷ []) in omega (arith, e, l, none))
