use Rattle.fw_script.proofs.OnlySayable.{only_sayable}
use Rattle.fw_script.proofs.ReadBack.{in_portions, schedules_read_back as read_back}
use Rattle.fw_script.proofs.schedule_laws.schedules_read_back.Goals as goal

pub returns-clause-read : goal.returns-clause-read
returns-clause-read c = read_back

pub returns-clause-only : goal.returns-clause-only
returns-clause-only c = only_sayable

pub returns-clause-portions : goal.returns-clause-portions
returns-clause-portions c = in_portions
