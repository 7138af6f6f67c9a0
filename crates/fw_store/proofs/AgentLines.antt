-- Consecutive lines of what the agent keeps.
use Rattle.std.proofs.Common.{◌≡◌, ◌∙◌, ◌+◌, ◌-◌, ◌<◌, ◌++◌, ℕ, zero, suc, List, [], ◌∷◌, Option, Some, None, length, option_map, append_assoc, append-nil, ap, refl, sym, arith}
use Rattle.fw_store.specs.AgentText.{agent_line_at, agent_lines_from}
use Rattle.fw_store.specs.declared.kept_line.KeptLine.{KeptLine}

-- some images, and those after them
abbrev pub with_agent_front : List KeptLine → Option (List KeptLine) → Option (List KeptLine)
with_agent_front front more = option_map (λ es. front ++ es) more

pub agent_mapped_id : (o : Option (List KeptLine)) → with_agent_front [] o ≡ o
agent_mapped_id None = refl
agent_mapped_id (Some es) = refl

pub agent_joined : (front : List KeptLine) (e : KeptLine) (o : Option (List KeptLine)) → with_agent_front (front ++ e ∷ []) o ≡ with_agent_front front (option_map (λ es. e ∷ es) o)
agent_joined front e None = refl
agent_joined front e (Some es) = ap (λ xs. Some xs) (append_assoc front (e ∷ []) es)

-- no text is left
pub read_all_agent : (most : ℕ) (front : List KeptLine) (text : List ℕ) → length text ≡ 0 → with_agent_front front (agent_lines_from most text) ≡ Some front
read_all_agent zero front [] none = ap (λ xs. Some xs) (append-nil front)
read_all_agent (suc most) front [] none = ap (λ xs. Some xs) (append-nil front)
read_all_agent most front (b ∷ text) none = absurd (omega arith)

-- a line more
pub read_more_agent : (most : ℕ) (front : List KeptLine) (text : List ℕ) (e : KeptLine) (rest : List ℕ) → 0 < length text → agent_line_at text ≡ Some (e, rest)
    → with_agent_front front (agent_lines_from (suc most) text) ≡ with_agent_front (front ++ e ∷ []) (agent_lines_from most rest)
read_more_agent most front [] e rest some is = absurd (omega arith)
read_more_agent most front (b ∷ text) e rest some is = rw is (sym (agent_joined front e (agent_lines_from most rest)))

-- no line is left, but some text
pub read_none_agent : (most : ℕ) (front : List KeptLine) (text : List ℕ) → 0 < length text → agent_line_at text ≡ None → with_agent_front front (agent_lines_from most text) ≡ None
read_none_agent most front [] some is = absurd (omega arith)
read_none_agent zero front (b ∷ text) some is = refl
read_none_agent (suc most) front (b ∷ text) some is = rw is refl

pub read_too_few_agent : (front : List KeptLine) (text : List ℕ) → 0 < length text → with_agent_front front (agent_lines_from 0 text) ≡ None
read_too_few_agent front [] some = absurd (omega arith)
read_too_few_agent front (b ∷ text) some = refl

pub read_step_agent : (len counter : ℕ) (front : List KeptLine) (text : List ℕ) (e : KeptLine) (rest : List ℕ) → counter < len → 0 < length text → agent_line_at text ≡ Some (e, rest)
    → with_agent_front front (agent_lines_from (len - counter) text) ≡ with_agent_front (front ++ e ∷ []) (agent_lines_from (len - (counter + 1)) rest)
read_step_agent len counter front text e rest below some is =
    let fuel : len - counter ≡ suc (len - (counter + 1)) = omega arith in
    ap (λ n. with_agent_front front (agent_lines_from n text)) fuel ∙ read_more_agent (len - (counter + 1)) front text e rest some is

pub ruleset agent_reading = (read_all_agent, read_step_agent, read_none_agent, read_too_few_agent)
