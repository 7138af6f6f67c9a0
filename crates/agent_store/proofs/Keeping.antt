-- A call of a keeper in a folder that fails.
use Rattle.std.proofs.Common.{◌≡◌, ◌∙◌, ◌⊎◌, inl, inr, Bool, true, false, List, Some, option_and_then, ap, refl}
use Rattle.fw_store.specs.AgentKeeping.{KeepsAsBefore, KeepsEither, agent_lines_in}
use Rattle.fw_store.specs.AgentText.{agent_lines_of}
use Rattle.fw_store.specs.Folders.{Files}
use Rattle.fw_store.specs.declared.kept_line.KeptLine.{KeptLine}

as_before : (f g : Files) → KeepsAsBefore f g → agent_lines_in g ≡ agent_lines_in f
as_before f g is = ap (option_and_then agent_lines_of) is.is

pub kept_either : (known : Bool) (f g : Files) (ls ms : List KeptLine) → (known ≡ true → KeepsEither ms f g) → (known ≡ true → agent_lines_in f ≡ Some ls)
    → (known ≡ true → agent_lines_in g ≡ Some ls) ⊎ (known ≡ true → agent_lines_in g ≡ Some ms)
kept_either false f g ls ms either before = inl (λ is. absurd (cc))
kept_either true f g ls ms either before = elim (either refl) [ inl same ↦ inl (λ is. as_before f g same ∙ before refl) | inr new ↦ inr (λ is. new.is) ]

pub kept_before : (known : Bool) (f g : Files) (ls : List KeptLine) → (known ≡ true → KeepsAsBefore f g) → (known ≡ true → agent_lines_in f ≡ Some ls) → known ≡ true → agent_lines_in g ≡ Some ls
kept_before known f g ls same before is = as_before f g (same is) ∙ before is

pub ruleset keeping = (kept_either, kept_before)
