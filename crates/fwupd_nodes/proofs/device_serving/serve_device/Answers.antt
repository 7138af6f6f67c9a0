use Rattle.std.proofs.Common.{refl}
use Rattle.fw_serve.specs.Serving.{device_report}
use Rattle.fwupd_nodes.proofs.Processes.{node_stops, runs_node}
use Rattle.fwupd_nodes.proofs.device_serving.serve_device.Goals as goal

pub returns-clause-runs : goal.returns-clause-runs
returns-clause-runs g c =
    runs_node c.report_served.result c.args.job.now.serving.ticks c.args.node c.in-Ok-served.process (device_report c.in-Ok-served.process.device) _ _ (rw c.in-Ok-served.is at c.serve_observed-served.ensures.serves) refl c.report_served.ensures.written

pub returns-clause-fault : goal.returns-clause-fault
returns-clause-fault g c =
    node_stops c.report_served.result c.args.job.now.serving.ticks c.args.node c.in-Ok-served.process _ _ _ (rw c.in-Ok-served.is at c.serve_observed-served.ensures.serves) c.report_served.ensures.fault
