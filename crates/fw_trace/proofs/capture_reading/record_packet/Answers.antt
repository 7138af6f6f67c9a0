use Rattle.std.proofs.Common.{rules, ◌≡◌, ◌∙◌, ap, drop, length, ◌-◌, arith}
use Rattle.std.proofs.lemmas.List.{length-drop, take_all}
use Rattle.fw_trace.specs.Inputs.{captured_size_in, number_in}
use Rattle.fw_trace.proofs.CaptureRecords.{whole_record}
use Rattle.fw_trace.proofs.capture_reading.record_packet.Goals as goal

pub returns : goal.returns
returns c =
    let size : c.number_in-size.result ≡ captured_size_in c.args.order c.args.bytes.now =
    c.number_in-size.ensures ∙ ap (number_in c.args.order) (take_all (length c.args.bytes.now - 8) (drop 8 c.args.bytes.now) (omega (arith, length-drop 8 c.args.bytes.now))) in
    whole_record c.args.order c.args.bytes.now c.number_in.result c.number_in-size.result (search rules) (search rules) c.number_in.ensures size
