-- Keeping what an agent keeps in a folder.
use Rattle.std.proofs.Common.{◌≡◌, ◌∙◌, ◌⊎◌, ◌<◌, ◌+◌, ◌++◌, inl, inr, ℕ, List, [], ◌∷◌, get_or, length, option_and_then, take, ap, refl, sym, subst}
use Rattle.std.specs.List.{AllByRecursion}
use Rattle.std.proofs.lemmas.List.{take_more}
use Rattle.fw_store.specs.AgentKeeping.{KeepsAsBefore, KeepsEither, KeepsLines}
use Rattle.fw_store.specs.AgentText.{IsKeptLine, agent_lines_of, agent_text}
use Rattle.fw_store.specs.Folders.{Files, IsMoment, PassesStates, active_name}
use Rattle.fw_store.specs.Keeping.{FailsToReplaceActive, ReplacesActive, ReplacesOnDisk}
use Rattle.fw_store.specs.declared.kept_line.KeptLine.{KeptLine}
use Rattle.fw_store.proofs.AgentBack.{agent_text_back}
use Rattle.fw_store.proofs.Folders.{active_not_new}
use Rattle.fw_store.proofs.Moments.{passes_call, passes_none}

all_push : (ls : List KeptLine) (l : KeptLine) → AllByRecursion IsKeptLine ls → IsKeptLine l → AllByRecursion IsKeptLine (ls ++ l ∷ [])
all_push [] l all here = (here, tt)
all_push (x ∷ xs) l all here = (all.0, all_push xs l all.1 here)

-- a line more has its widths
pub widths_more : (ls : List KeptLine) (i : ℕ) (d : KeptLine) → i < length ls → AllByRecursion IsKeptLine (take i ls) → IsKeptLine (get_or ls i d)
    → AllByRecursion IsKeptLine (take (i + 1) ls)
widths_more ls i d below all here = rw (take_more ls i d below) (all_push (take i ls) (get_or ls i d) all here)

pub as_before : (f : Files) → KeepsAsBefore f f
as_before f = record { is = refl }

pub replaced_keeps : (ls : List KeptLine) (f h : Files) (past now : List Files) → AllByRecursion IsKeptLine ls → ReplacesActive (agent_text ls) f h past now → KeepsLines ls h
replaced_keeps ls f h past now are is = record { is = ap (option_and_then agent_lines_of) (is.renamed.here ∙ is.wrote.here) ∙ agent_text_back ls are }

pub replaced_lasts : (ls : List KeptLine) (f h : Files) → AllByRecursion IsKeptLine ls → ReplacesOnDisk (agent_text ls) f h → KeepsLines ls h
replaced_lasts ls f h are is = replaced_keeps ls f h [] is.passed are is.replaces

pub failed_keeps : (f h : Files) (past now : List Files) → FailsToReplaceActive f h past now → KeepsAsBefore f h
failed_keeps f h past now is = record { is = is.same.all active_name ∙ is.only.others active_name active_not_new }

pub replaced_passes : (ls : List KeptLine) (f h : Files) (past now : List Files) → AllByRecursion IsKeptLine ls → ReplacesActive (agent_text ls) f h past now
    → PassesStates (KeepsEither ls f) past now
replaced_passes ls f h past now are is =
    let between : KeepsEither ls f is.between = inl (record { is = is.wrote.others active_name active_not_new }) in
    passes_call is.between h (passes_call f is.between (passes_none past) is.first between) is.second (inr (replaced_keeps ls f h past now are is))

then_passes : (ls : List KeptLine) (f g h : Files) (past middle now : List Files) → PassesStates (KeepsEither ls f) past middle → KeepsEither ls f h
    → ((now ≡ middle) ⊎ IsMoment g h middle now) → PassesStates (KeepsEither ls f) past now
then_passes ls f g h past middle now passed last (inl same) = subst (λ fs. PassesStates (KeepsEither ls f) past fs) (sym same) passed
then_passes ls f g h past middle now passed last (inr moment) = passes_call g h passed moment last

pub failed_passes : (ls : List KeptLine) (f h : Files) (past now : List Files) → FailsToReplaceActive f h past now → PassesStates (KeepsEither ls f) past now
failed_passes ls f h past now is =
    let between : KeepsEither ls f is.between = inl (record { is = is.only.others active_name active_not_new }) in
    then_passes ls f is.between h past is.middle now (passes_call f is.between (passes_none past) is.first between) (inl (failed_keeps f h past now is)) is.second

pub either_passes : (ls : List KeptLine) (f h : Files) (past now : List Files) → AllByRecursion IsKeptLine ls
    → (FailsToReplaceActive f h past now ⊎ ReplacesActive (agent_text ls) f h past now) → PassesStates (KeepsEither ls f) past now
either_passes ls f h past now are (inl is) = failed_passes ls f h past now is
either_passes ls f h past now are (inr is) = replaced_passes ls f h past now are is

pub either_keeps : (ls : List KeptLine) (f h : Files) (past now : List Files) → AllByRecursion IsKeptLine ls
    → (FailsToReplaceActive f h past now ⊎ ReplacesActive (agent_text ls) f h past now) → KeepsEither ls f h
either_keeps ls f h past now are (inl is) = inl (failed_keeps f h past now is)
either_keeps ls f h past now are (inr is) = inr (replaced_keeps ls f h past now are is)

pub ruleset agent_putting = (as_before, passes_none, replaced_keeps, replaced_lasts, failed_keeps, replaced_passes, failed_passes, either_passes, either_keeps)
