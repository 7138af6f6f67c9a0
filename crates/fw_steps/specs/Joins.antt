-- A link as a pair over whole messages: each lane's cell matches the pair's cell.
use Rattle.std.specs.Prelude.{◌≡◌, ℕ, Bool, true, false, List, Option, Some, None, Ok}
use Rattle.pldm_exch.specs.Caller.{Open}
use Rattle.exch_lane.specs.Cells.{Cell}
use Rattle.fw_package.specs.Package.{PackageText}
use Rattle.fwup_wire.specs.Answers.{answer_in}
use Rattle.fwup_wire.specs.Commands.{command_code, command_read, is_asked_of_agent}
use Rattle.fwup_wire.specs.Values.{AnswerOf, CommandOf}
use Rattle.fd_core.specs.Wishes.{device_wish}
use Rattle.fw_message.specs.Pairs.{CellContentOf, PairOf, down_wish, is_wished}
use Rattle.fw_node.specs.Halves.{still_wished}
use Rattle.fw_steps.specs.Links.{LinkOf}

-- the bytes decode to this command
pub record DecodesToCommand (command : ℕ) (body : List ℕ) (c : CommandOf) : Type 0 where
  pub code : command ≡ command_code c
  pub reads : command_read command body ≡ Ok c

-- a request without a reply is a command without an answer
pub record IsAskedAs (command : ℕ) (body : List ℕ) (live : Bool) (h : CellContentOf) : Type 0 where
  pub said : DecodesToCommand command body h.command
  pub reply : h.reply ≡ None
  pub live_is : h.live ≡ live

-- a request and its reply decode to a command and its answer
pub record IsAnsweredAs (command : ℕ) (body reply : List ℕ) (live : Bool) (h : CellContentOf) : Type 0 where
  pub said : DecodesToCommand command body h.command
  pub answer : AnswerOf
  pub reply_is : h.reply ≡ Some answer
  pub reads : answer_in command reply ≡ Some answer
  pub live_is : h.live ≡ live

-- a lane's cell matches a cell over whole messages
abbrev pub MatchesCell : Cell → Option CellContentOf → Type 0
MatchesCell Cell.Empty None = Unit {0}
MatchesCell (Cell.Asked command body live) (Some h) = IsAskedAs command body live h
MatchesCell (Cell.Answered command body reply live) (Some h) = IsAnsweredAs command body reply live h
MatchesCell cell held = ⊥

-- a command that its asker waits for is the pending command
abbrev pub IsWishedIn : Option CellContentOf → Option CommandOf → Type 0
IsWishedIn None wish = Unit {0}
IsWishedIn (Some h) wish = h.live ≡ true → is_wished h.command wish ≡ true

-- a command that the agent answers, or that a device answers
abbrev pub IsCommandFor : (agent : Bool) → CommandOf → Type 0
IsCommandFor agent c = is_asked_of_agent (command_code c) ≡ agent

abbrev pub IsCellFor : (agent : Bool) → Option CellContentOf → Type 0
IsCellFor agent None = Unit {0}
IsCellFor agent (Some h) = IsCommandFor agent h.command

-- a cell after its asker gave up a command that is no longer pending
abbrev pub cell_kept : Bool → Cell → Cell
cell_kept false (Cell.Asked command body live) = Cell.Asked command body false
cell_kept false (Cell.Answered command body reply live) = Cell.Answered command body reply false
cell_kept wished cell = cell

abbrev pub cell_unless : Option CommandOf → Option Open → Cell → Cell
cell_unless wish None cell = cell
cell_unless wish (Some o) cell = cell_kept (still_wished wish o) cell

-- A link and a pair: the same session, the same device, and for each way the lane's cell matches
-- the pair's. In each half both ends are deaf for the same number of ticks, each command that its
-- asker waits for is pending, and each command is one that the other half answers.
pub record LinkMatchesPair (packages : List PackageText) (l : LinkOf) (down_cell up_cell : Cell) (m : PairOf) : Type 0 where
  pub session : m.session ≡ l.agent.core.session
  pub device : m.device ≡ l.device.core.device
  pub down : MatchesCell down_cell m.down
  pub up : MatchesCell up_cell m.up
  pub agent_deaf : l.agent.asker.deaf ≡ l.agent.taker.deaf
  pub device_deaf : l.device.asker.deaf ≡ l.device.taker.deaf
  pub down_wished : IsWishedIn m.down (down_wish packages m.session)
  pub up_wished : IsWishedIn m.up (device_wish m.device)
  pub down_for : IsCellFor false m.down
  pub up_for : IsCellFor true m.up
