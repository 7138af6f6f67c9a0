use Rattle.fw_package.specs.Asked.{asked_record_of, record_size}
use Rattle.fw_package.specs.Views.{IsRecordFit}
use Rattle.fw_package.specs.Writing.{HasRecordWidths, record_bytes}
use Rattle.fw_package.proofs.Puts.{put_all, put_fits, put_more, put_room}
use Rattle.fw_package.proofs.Written.{record_long}
use Rattle.fw_package.proofs.writing.put_records.Goals as goal

pub put_record-requires-clause-room : goal.put_record-requires-clause-room
put_record-requires-clause-room c =
    put_room asked_record_of (record_bytes c.args.bitmap_size) (record_size c.args.bitmap_size) HasRecordWidths c.args.header.now.items c.args.records.now c.loop-asked.asked-index _ c.loop-asked.header.items 65535
    (record_long c.args.bitmap_size) c.loop-asked.invariant c.loop-asked-test.true c.requires.room

pub put_record-requires-clause-fit : goal.put_record-requires-clause-fit
put_record-requires-clause-fit c = put_fits asked_record_of IsRecordFit c.args.records.now c.loop-asked.asked-index _ c.requires.fit c.loop-asked-test.true

pub loop-asked-preserved : goal.loop-asked-preserved
loop-asked-preserved c =
    put_more asked_record_of (record_bytes c.args.bitmap_size) HasRecordWidths c.args.header.now.items c.args.records.now c.loop-asked.asked-index _ c.loop-asked.header.items c.put_record.new.header.items
    c.loop-asked.invariant c.loop-asked-test.true c.put_record.ensures.bytes c.put_record.ensures.widths

pub returns-clause-bytes : goal.returns-clause-bytes
returns-clause-bytes c =
    (put_all asked_record_of (record_bytes c.args.bitmap_size) HasRecordWidths c.args.header.now.items c.args.records.now c.loop-asked.asked-index c.loop-asked.header.items c.loop-asked.invariant c.loop-asked-test.false).0

pub returns-clause-widths : goal.returns-clause-widths
returns-clause-widths c =
    (put_all asked_record_of (record_bytes c.args.bitmap_size) HasRecordWidths c.args.header.now.items c.args.records.now c.loop-asked.asked-index c.loop-asked.header.items c.loop-asked.invariant c.loop-asked-test.false).1
