-- `pixel_response::chess_response_at_u8` meets its contract. After k turns each sum has the first k quarters.
use Rattle.std.proofs.Common.{◌∙◌, arith}
use Rattle.pixel_response.specs.Steps.{listed}
use Rattle.pixel_response.proofs.PixelLaws.{none, more, all}
use Rattle.pixel_response.proofs.chess_response_at_u8.Goals as goal

pub loop-k-init : goal.loop-k-init
loop-k-init c = none 256 (listed c.args.ring.now)

pub overflow_add-square : goal.overflow_add-square
overflow_add-square c =
    let square = c.square_of-square.ensures 255 (omega arith) (record { first = omega arith; second = omega arith; third = omega arith; fourth = omega arith }) in
    omega (arith, c.loop-k.invariant.square-most, square.most)

pub overflow_add-edge : goal.overflow_add-edge
overflow_add-edge c =
    let edge = c.edges_of-edge.ensures 255 (omega arith) (record { first = omega arith; second = omega arith; third = omega arith; fourth = omega arith }) in
    omega (arith, c.loop-k.invariant.edge-most, edge.most)

pub overflow_add-sum : goal.overflow_add-sum
overflow_add-sum c =
    let sum = c.sum_of-sum.ensures 255 (omega arith) (record { first = omega arith; second = omega arith; third = omega arith; fourth = omega arith }) in
    omega (arith, c.loop-k.invariant.sum-most, sum.most)

pub loop-k-preserved : goal.loop-k-preserved
loop-k-preserved c =
    let square = c.square_of-square.ensures 255 (omega arith) (record { first = omega arith; second = omega arith; third = omega arith; fourth = omega arith }) in
    let edge = c.edges_of-edge.ensures 255 (omega arith) (record { first = omega arith; second = omega arith; third = omega arith; fourth = omega arith }) in
    let sum = c.sum_of-sum.ensures 255 (omega arith) (record { first = omega arith; second = omega arith; third = omega arith; fourth = omega arith }) in
    more 256 (listed c.args.ring.now) c.loop-k.k c.loop-k.square c.loop-k.edge c.loop-k.sum c.square_of-square.result c.edges_of-edge.result c.sum_of-sum.result c.loop-k.invariant square edge sum

pub returns : goal.returns
returns c =
    let five = c.cross_of-five.ensures 255 (omega arith) (record { first = omega arith; second = omega arith; third = omega arith; fourth = omega arith }) (omega arith) in
    c.value_of.ensures
    ∙ all 256 (listed c.args.ring.now) (listed c.args.cross.now) c.loop-k.k c.loop-k.square c.loop-k.edge c.loop-k.sum c.cross_of-five.result
    (omega arith) c.loop-k.invariant five.is
