use Rattle.ua_core.proofs.Lawful.{learns_no_record, loose_records_nothing, records_good_apply, records_grow, records_in_apply}
use Rattle.ua_core.proofs.laws.records_what_is_applied.Goals as goal

pub returns : goal.returns
returns c =
    record { grow = records_grow; applying = records_in_apply; applied = records_good_apply; loose = loose_records_nothing; learnt = learns_no_record }
