-- What an agent keeps in a folder: the lines of `active`.
use Rattle.std.specs.Prelude.{◌≡◌, ◌⊎◌, List, Option, Some, option_and_then}
use Rattle.fw_store.specs.AgentText.{agent_lines_of}
use Rattle.fw_store.specs.Folders.{Files, active_name}
use Rattle.fw_store.specs.declared.kept_line.KeptLine.{KeptLine}

-- the lines of `active`, if it is there and is the text of lines
abbrev pub agent_lines_in : Files → Option (List KeptLine)
agent_lines_in files = option_and_then agent_lines_of (files active_name)

-- the folder keeps these lines
pub record KeepsLines (ls : List KeptLine) (files : Files) : Type 0 where
  pub is : agent_lines_in files ≡ Some ls

-- the folder keeps what it kept before
pub record KeepsAsBefore (before after : Files) : Type 0 where
  pub is : after active_name ≡ before active_name

-- always one of the two
abbrev pub KeepsEither : List KeptLine → Files → Files → Type 0
KeepsEither ls before after = KeepsAsBefore before after ⊎ KeepsLines ls after
