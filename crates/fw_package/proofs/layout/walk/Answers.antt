use Rattle.std.proofs.Common.{◌+◌, ◌-◌, arith, drop, length, length-drop, length-take-le}
use Rattle.fw_package.proofs.Walks.{walk_inside}
use Rattle.fw_package.proofs.layout.walk.Goals as goal

pub returns-clause-inside : goal.returns-clause-inside
returns-clause-inside c =
    let left = length-drop 1 c.in_ok-rest.rest.now in
    let short = length-take-le (length c.in_ok-rest.rest.now - 1) (drop 1 c.in_ok-rest.rest.now) (omega (arith, left)) in
    walk_inside (36 + c.text_size.result) _ c.args.header.now c.in_ok-rest.rest.now _ c.in_ok-rest-2.rest.now c.in_ok-components.components.now
    c.in_ok-rest.ensures (omega (arith, left, short)) c.in_ok-rest-2.ensures c.in_ok-components.ensures
