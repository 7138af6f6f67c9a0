use Rattle.fwup_wire.specs.Lent.{table_entry_of}
use Rattle.fwup_wire.specs.Values.{CommandOf}
use Rattle.fwup_wire.proofs.Written.{writes_member}
use Rattle.fwup_wire.proofs.command_writing.write.Goals as goal

pub returns-in-PassComponentTable-clause-member : goal.returns-in-PassComponentTable-clause-member
returns-in-PassComponentTable-clause-member c =
    rw (c.in-PassComponentTable.is, c.pass_component_table.ensures.bytes)
    (writes_member (CommandOf.PassComponentTable (table_entry_of c.in-PassComponentTable.entry))
    c.pass_component_table.ensures.widths (rw c.in-PassComponentTable.is at c.requires))
