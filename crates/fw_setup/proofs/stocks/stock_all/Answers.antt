use Rattle.std.proofs.Common.{ap, arith, get_or}
use Rattle.fw_setup.proofs.Stocking.{stocked_more}
use Rattle.fw_setup.proofs.stocks.stock_all.Goals as goal

pub loop-config-preserved : goal.loop-config-preserved
loop-config-preserved c =
    let i = c.loop-config.config-index in
    let xs = c.loop-config.components in
    stocked_more c.args.images.now c.args.components.now xs i (get_or xs i c.config-item.result) c.stock_component.new.config (omega arith)
    (ap (get_or xs i) c.config-item.is) (omega arith) c.in_ok-stock_component.ensures c.loop-config.invariant
