use Rattle.std.proofs.Common.{◌<◌, ◌∙◌, sym, arith}
use Rattle.fw_package.specs.Lent.{record_seen}
use Rattle.fw_package.proofs.Rows.{records_step}
use Rattle.fw_package.proofs.Walks.{record_there}
use Rattle.fw_package.proofs.records.Records.read.Goals as goal

pub first_record-requires : goal.first_record-requires
first_record-requires c =
    let before_end : c.loop-record._record < c.args.count = omega arith in
    let here = record_there c.args.count c.loop-record._record c.loop-record.rest.now c.loop-record.invariant.there before_end in
    record { long = here.long; whole = here.whole }

pub loop-record-preserved : goal.loop-record-preserved
loop-record-preserved c =
    let before_end : c.loop-record._record < c.args.count = omega arith in
    let here = record_there c.args.count c.loop-record._record c.loop-record.rest.now c.loop-record.invariant.there before_end in
    record {
      there = rw c.first_record.ensures.others here.others;
      same = rw c.first_record.ensures.others
          (sym (records_step c.args.bitmap_size c.args.component_count c.args.count c.loop-record._record c.loop-record.rest.now (record_seen c.in_ok-read.field-0) (sym (rw c.first_record.ensures.«record» at c.in_ok-read.ensures)) before_end) ∙ c.loop-record.invariant.same);
    }
