-- `floats::total_cmp_magnitudes` meets its contract: what the comparison says, and where it says nothing which of the two is a NaN.
use Rattle.std.proofs.Common.{ap₂, ◌∙◌}
use Rattle.std.specs.Ordering.{bool_cmp}
use Rattle.floats.proofs.LeafLaws.{known, unknown}
use Rattle.floats.proofs.total_cmp_magnitudes.Goals as goal

pub returns-in-Some : goal.returns-in-Some
returns-in-Some c = known c.args.a c.args.b c.magnitude_f64-m.result c.magnitude_f64-n.result c.magnitude_f64-m.ensures c.magnitude_f64-n.ensures _ _ c.partial_cmp.ensures c.in-Some.is

pub returns-in-None : goal.returns-in-None
returns-in-None c =
    c.cmp.ensures ∙ ap₂ bool_cmp c.is_nan.ensures.value c.is_nan-in-None.ensures.value
    ∙ unknown c.args.a c.args.b c.magnitude_f64-m.result c.magnitude_f64-n.result c.magnitude_f64-m.ensures c.magnitude_f64-n.ensures _ c.partial_cmp.ensures c.in-None.is
