-- `refine_list::list::build` meets its contract: the operator's columns, as they are or with their numbers repeated.
use Rattle.refine_list.proofs.RepeatLaws.{long_after, built-once, built-repeated}
use Rattle.refine_list.proofs.list.build.Goals as goal

pub repeat-requires : goal.repeat-requires
repeat-requires c = long_after c.args.radius _ _ _ c.if-radius-lt3.true c.requires c.fit_columns-built.ensures

pub returns-then-radius-lt3 : goal.returns-then-radius-lt3
returns-then-radius-lt3 c = built-repeated c.args.radius _ _ _ _ c.requires c.fit_columns-built.ensures c.if-radius-lt3.true c.repeat.ensures

pub returns-else-radius-lt3 : goal.returns-else-radius-lt3
returns-else-radius-lt3 c = built-once c.args.radius _ _ _ c.fit_columns-built.ensures c.if-radius-lt3.false
