-- A run: its first world, its steps, and the world after them.
use Rattle.std.specs.Prelude.{[], ◌∷◌, ◌++◌, ◌≡◌, ◌⊎◌, List, Some}
use Rattle.mctp_ctl.specs.declared.answers.Endpoint.{Endpoint}
use Rattle.mctp_wire.specs.declared.unit.Unit.{«Unit»}
use Rattle.fw_package.specs.Package.{PackageText}
use Rattle.fw_script.specs.Configs.{DeviceConfigOf}
use Rattle.fw_setup.specs.Nodes.{nodes_made}
use Rattle.fw_steps.specs.Opening.{new_world}
use Rattle.fw_steps.specs.Steps.{Run, StepsTo, may_step}
use Rattle.fw_steps.specs.Worlds.{WorldOf}
use Rattle.fw_steps.specs.declared.step.Step.{Step}
use Rattle.fw_steps.specs.declared.step.StepFault.{StepFault}

-- the setup of the runs: the agent, the transmission unit of its network, its devices as
-- configured, and the packages
pub record SetupOf : Type 0 where
  pub agent : Endpoint
  pub unit : «Unit»
  pub devices : List DeviceConfigOf
  pub packages : List PackageText

-- the world before the first step
abbrev pub opening_of : SetupOf → WorldOf
opening_of s = new_world s.agent (nodes_made s.unit s.agent.eid s.devices) s.packages

-- the steps of a run, in order, and the world after them
pub record CourseOf : Type 0 where
  pub steps : List Step
  pub world : WorldOf

-- The steps lead to the world from the world before the first step.
abbrev pub IsCourse : SetupOf → CourseOf → Type 0
IsCourse s c = Run (opening_of s) c.steps c.world

-- a step is taken
pub record TakesStep (s : Step) (c d : CourseOf) : Type 0 where
  pub step : StepsTo c.world s d.world
  pub listed : d.steps ≡ c.steps ++ s ∷ []

-- a step isn't allowed, and nothing has changed
pub record LeavesStep (s : Step) (c d : CourseOf) : Type 0 where
  pub fault : StepFault
  pub refused : may_step c.world s ≡ Some fault
  pub same : d ≡ c

-- a step is taken if it is allowed
abbrev pub TriesStep : Step → CourseOf → CourseOf → Type 0
TriesStep s c d = TakesStep s c d ⊎ LeavesStep s c d

-- A run continues: a run from any world to the first state continues to the second.
pub record ContinuesRun (c d : CourseOf) : Type 0 where
  pub goes : (o : WorldOf) → Run o c.steps c.world → Run o d.steps d.world
