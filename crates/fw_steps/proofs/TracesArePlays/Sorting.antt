-- The acts of a trace can be sorted by their keys, with the same processes at the end (`sorts`).
use Rattle.std.proofs.Common.{◌≡◌, ◌∙◌, ◌≤◌, ℕ, List, [], ◌∷◌, inl, inr, refl, sym, ap, subst, arith}
use Rattle.std.proofs.lemmas.Bool.{cases_lt}
use Rattle.fw_package.specs.Package.{PackageText}
use Rattle.fw_steps.specs.Traces.{Act, EachMayAct, MayAct, ProcessesOf, processes_after_act, processes_after}
use Rattle.fw_steps.proofs.TracesArePlays.Keys.{key_of}
use Rattle.fw_steps.proofs.TracesArePlays.Swaps.{swap}

abbrev pub SortedFrom : List PackageText → ℕ → ProcessesOf → List Act → Type 0
SortedFrom packages m ps [] = Unit {0}
SortedFrom packages m ps (a ∷ xs) = (m ≤ key_of ps a) × SortedFrom packages (key_of ps a) (processes_after_act packages ps a) xs

pub record Sorts (packages : List PackageText) (m : ℕ) (ps : ProcessesOf) (end : ProcessesOf) : Type 0 where
  pub acts : List Act
  pub may : EachMayAct packages ps acts
  pub sorted : SortedFrom packages m ps acts
  pub ends : processes_after packages ps acts ≡ end

insert : (packages : List PackageText) (m : ℕ) (ps : ProcessesOf) (a : Act) (xs : List Act) → MayAct packages ps a → m ≤ key_of ps a → EachMayAct packages (processes_after_act packages ps a) xs
    → SortedFrom packages m (processes_after_act packages ps a) xs → Sorts packages m ps (processes_after packages (processes_after_act packages ps a) xs)
insert packages m ps a [] h least may sorted = record { acts = a ∷ []; may = (h, tt); sorted = (least, tt); ends = refl }
insert packages m ps a (b ∷ xs) h least may sorted = elim (cases_lt (key_of (processes_after_act packages ps a) b) (key_of ps a)) [
  | inl lt ↦
      let s = swap packages ps a b h may.0 lt in
      let us = processes_after_act packages ps b in
      let rest = insert packages (key_of ps b) us a xs s.second
      (let is = s.key in let last = s.last in omega (arith, lt, is, last))
      (subst (λ (x : ProcessesOf). EachMayAct packages x xs) s.same may.1)
      (subst (λ (k : ℕ). SortedFrom packages k (processes_after_act packages us a) xs) (sym s.key)
      (subst (λ (x : ProcessesOf). SortedFrom packages (key_of (processes_after_act packages ps a) b) x xs) s.same sorted.1)) in
      record {
        acts = b ∷ rest.acts;
        may = (s.first, rest.may);
        sorted = (let is = s.key in let low = sorted.0 in omega (arith, is, low), rest.sorted);
        ends = rest.ends ∙ ap (λ (x : ProcessesOf). processes_after packages x xs) (sym s.same);
      }
  | inr ge ↦ record { acts = a ∷ b ∷ xs; may = (h, may); sorted = (least, (ge, sorted.1)); ends = refl }
]

pub sorts : (packages : List PackageText) (ps : ProcessesOf) (xs : List Act) → EachMayAct packages ps xs → Sorts packages 0 ps (processes_after packages ps xs)
sorts packages ps [] may = record { acts = []; may = tt; sorted = tt; ends = refl }
sorts packages ps (a ∷ xs) may =
    let rest = sorts packages (processes_after_act packages ps a) xs may.1 in
    let on = insert packages 0 ps a rest.acts may.0 (omega arith) rest.may rest.sorted in
    record { acts = on.acts; may = on.may; sorted = on.sorted; ends = on.ends ∙ rest.ends }
