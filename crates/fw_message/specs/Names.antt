-- The steps of a world that a message step names: all but the restart of one session alone. A
-- restart of the agent restarts all its sessions.
use Rattle.fw_message.specs.Pairs.{StepOf}
use Rattle.fw_message.specs.Worlds.{WorldStepOf}
use Rattle.fw_message.specs.declared.side.Side.TheVariants as sides

-- any step of a pair but the restart of its session
abbrev pub HasName : StepOf → Type 0
HasName (StepOf.Restart sides.Agent) = ⊥
HasName s = Unit {0}

abbrev pub IsNamedStep : WorldStepOf → Type 0
IsNamedStep (WorldStepOf.OfPair device s) = HasName s
IsNamedStep WorldStepOf.RestartAgent = Unit {0}
