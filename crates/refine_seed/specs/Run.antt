-- Re-centring: steps of the window toward the place where the saddle lies at its centre. At most 16 steps of at most 4 candidates, the step times 1, 1/2, 1/4, 1/8;
-- a candidate is taken only where its fit is a saddle, |u|² falls strictly and the estimate stays in the box about the seed. The first step is plain.
-- The tries are the candidate windows that were looked at.
use Rattle.std.specs.Prelude.{cond, ℕ, zero, suc, ◌+◌, Float}
use Rattle.shapes.specs.Numbers.{plus_zero, one}
use Rattle.refine_formulas.specs.declared.PatchSaddle.{PatchSaddle}
use Rattle.refine_formulas.specs.declared.Move.{Move}
use Rattle.refine_formulas.specs.Numbers.{◌⊕◌, ◌⊗◌, half}
use Rattle.refine_formulas.specs.Solve.{settled}
use Rattle.refine_formulas.specs.Sensitivity.{slope_within, saddle_jacobian, sensitivity, newton_step}
use Rattle.refine_fits.specs.Candidate.{Task, Stand, Tried, passed, taken, candidate}

-- the outcome of a step's candidates, and how many were looked at
pub record Search : Type 0 where
  pub outcome : Tried
  pub count : ℕ

abbrev pub one_more : Search → Search
one_more s = record { outcome = s.outcome; count = s.count + 1 }

abbrev pub or_else : Tried → Search → Search
or_else passed rest = one_more rest
or_else (taken s) rest = record { outcome = taken s; count = 1 }

-- the step at a scale, then at half of it, as often as is left
unfoldable pub search_from : ℕ → Task → PatchSaddle → Float → Float → Move → Float → Search
unfolding candidate
search_from zero t f ox oy m scale = record { outcome = passed; count = 0 }
search_from (suc left) t f ox oy m scale =
    let rest = search_from left t f ox oy m (scale ⊗ half) in
    or_else (candidate t f (ox ⊕ scale ⊗ m.x) (oy ⊕ scale ⊗ m.y)) rest

-- ---- the steps: where a run ended, at its start or at a stand, and its tries
pub data Finish : Type 0 where
  at_start : ℕ → Finish
  at_stand : Stand → ℕ → Finish

abbrev pub picked : Tried → (Stand → Finish) → Finish → Finish
picked passed go stay = stay
picked (taken s) go stay = go s

abbrev pub later_move : Stand → Move
later_move s = newton_step (sensitivity (saddle_jacobian s.fit) (slope_within s.corners s.place.tx s.place.ty)) s.fit

-- the steps that are left, from a stand, n tries done
unfoldable pub steps_from : ℕ → Task → Stand → ℕ → Finish
unfolding search_from
steps_from zero t s n = at_stand s n
steps_from (suc left) t s n =
    let r = search_from 4 t s.fit s.ox s.oy (later_move s) one in
    let on = picked r.outcome (λ s'. steps_from left t s' (n + r.count)) (at_stand s (n + r.count)) in
    cond (settled s.fit) (at_stand s n) on

-- from the fit at the centre pixel, whose saddle is f
unfoldable pub run_of : Task → PatchSaddle → Finish
unfolding steps_from
run_of t f =
    let r = search_from 4 t f plus_zero plus_zero (record { x = f.ux; y = f.uy }) one in
    let on = picked r.outcome (λ s. steps_from 15 t s r.count) (at_start r.count) in
    cond (settled f) (at_start 0) on
