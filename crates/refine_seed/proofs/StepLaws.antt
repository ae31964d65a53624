-- Laws of the steps: how the end from within a step goes on after a candidate, and how it goes on to the next step.
use mathlib.Core.Path.{◌≡◌, refl, sym, ap, ◌∙◌}
use mathlib.Core.Bool.{Bool, true, false, cond}
use Prim.Native.Nat.{ℕ, zero, suc, ◌+◌, ◌-◌, ◌≤◌, ◌<◌}
use native.Mathlib.Nat.{zero-add, add-zero}
use native.Mathlib.Omega.{arith}
use lib.Ieee.{Float}
use Rattle.std.specs.Prelude.{Option, Some, None}
use Rattle.shapes.specs.Numbers.{plus_zero, one}
use Rattle.refine_formulas.specs.declared.PatchSaddle.{PatchSaddle}
use Rattle.refine_formulas.specs.declared.Move.{Move}
use Rattle.refine_formulas.specs.declared.Corners.{Corners}
use Rattle.refine_formulas.specs.Numbers.{◌⊕◌, ◌⊗◌, half}
use Rattle.refine_formulas.specs.Solve.{settled}
use Rattle.refine_fits.specs.declared.Window.{Window}
use Rattle.refine_fits.specs.Windows.{window_place}
use Rattle.refine_fits.specs.StepsTries.{window_of, Tries}
use Rattle.refine_fits.specs.Candidate.{Task, Stand, Tried, passed, taken, candidate}
use Rattle.refine_seed.specs.declared.Ended.{Ended}
use Rattle.refine_seed.specs.declared.Taken.{Taken}
use Rattle.refine_seed.specs.Run.{Finish, at_start, at_stand, picked, or_else, later_move, search_from, steps_from, run_of}
use Rattle.refine_seed.specs.StepsEnding.{taken_at, taken_of, next_move, ended_of, onward, from_candidate, from_step}

pub no : {A : Type 0} (b : Bool) (x y : A) → b ≡ false → cond b x y ≡ y
no b x y h = ap (λ (c : Bool). cond c x y) h

pub yes : {A : Type 0} (b : Bool) (x y : A) → b ≡ true → cond b x y ≡ x
yes b x y h = ap (λ (c : Bool). cond c x y) h

abbrev none_after : ℕ → Ended
none_after n = record { tries = n; settled = None }

more : (n k : ℕ) → n + (k + 1) ≡ n + 1 + k
more n k = omega arith

module _ (t : Task) where
  stand-none : (s : Stand) (n : ℕ) → settled s.fit ≡ false → ended_of (at_stand s n) ≡ none_after n
  stand-none s n h = ap (λ (b : Bool). ended_with b) h
    where
      ended_with : Bool → Ended
      ended_with b = record { tries = n; settled = cond b (Some (taken_at s)) None }

  stand-some : (s : Stand) (n : ℕ) → settled s.fit ≡ true → ended_of (at_stand s n) ≡ record { tries = n; settled = Some (taken_at s) }
  stand-some s n h = ap (λ (b : Bool). ended_with b) h
    where
      ended_with : Bool → Ended
      ended_with b = record { tries = n; settled = cond b (Some (taken_at s)) None }

  -- what is picked, seen from the end
  through : (o : Tried) (go : Stand → Finish) (stay : Finish) (n : ℕ) → ended_of stay ≡ none_after n → ended_of (picked o go stay) ≡ onward o (λ s. ended_of (go s)) n
  through passed go stay n h = h
  through (taken s) go stay n h = refl

  -- ---- into a step
  pub first_step : (first : PatchSaddle) → settled first ≡ false → ended_of (run_of t first) ≡ from_step t 16 first plus_zero plus_zero (record { x = first.ux; y = first.uy }) 0
  unfolding run_of
  first_step first h =
      let r = search_from 4 t first plus_zero plus_zero (record { x = first.ux; y = first.uy }) one in
      ap ended_of (no (settled first) (at_start 0) (picked r.outcome (λ s. steps_from 15 t s r.count) (at_start r.count)) h)
      ∙ through r.outcome (λ s. steps_from 15 t s r.count) (at_start r.count) r.count refl
      ∙ ap (λ (n : ℕ). onward r.outcome (λ s. ended_of (steps_from 15 t s n)) n) (sym (zero-add r.count))

  pub next_step : (left n : ℕ) (s : Stand) → settled s.fit ≡ false → ended_of (steps_from left t s n) ≡ from_step t left s.fit s.ox s.oy (later_move s) n
  unfolding steps_from
  next_step zero n s h = stand-none s n h
  next_step (suc left) n s h =
      let r = search_from 4 t s.fit s.ox s.oy (later_move s) one in
      ap ended_of (no (settled s.fit) (at_stand s n) (picked r.outcome (λ s'. steps_from left t s' (n + r.count)) (at_stand s (n + r.count))) h)
      ∙ through r.outcome (λ s'. steps_from left t s' (n + r.count)) (at_stand s (n + r.count)) (n + r.count) (stand-none s (n + r.count) h)

  pub settles : (left n : ℕ) (s : Stand) → settled s.fit ≡ true → ended_of (steps_from left t s n) ≡ record { tries = n; settled = Some (taken_at s) }
  unfolding steps_from
  settles zero n s h = stand-some s n h
  settles (suc left) n s h =
      let r = search_from 4 t s.fit s.ox s.oy (later_move s) one in
      ap ended_of (yes (settled s.fit) (at_stand s n) (picked r.outcome (λ s'. steps_from left t s' (n + r.count)) (at_stand s (n + r.count))) h) ∙ stand-some s n h

  -- ---- a candidate
  module _ (left halvings n : ℕ) (f : PatchSaddle) (ox oy : Float) (m : Move) (scale : Float) where
    pub pass : candidate t f (ox ⊕ scale ⊗ m.x) (oy ⊕ scale ⊗ m.y) ≡ passed → from_candidate t left (suc halvings) f ox oy m scale n ≡ from_candidate t left halvings f ox oy m (scale ⊗ half) (n + 1)
    unfolding search_from
    pass h =
        let rest = search_from halvings t f ox oy m (scale ⊗ half) in
        ap (λ (o : Tried). onward (or_else o rest).outcome (λ s. ended_of (steps_from left t s (n + (or_else o rest).count))) (n + (or_else o rest).count)) h
        ∙ ap (λ (k : ℕ). onward rest.outcome (λ s. ended_of (steps_from left t s k)) k) (more n rest.count)

    pub take : (s : Stand) → candidate t f (ox ⊕ scale ⊗ m.x) (oy ⊕ scale ⊗ m.y) ≡ taken s → from_candidate t left (suc halvings) f ox oy m scale n ≡ ended_of (steps_from left t s (n + 1))
    unfolding search_from
    take s h =
        let rest = search_from halvings t f ox oy m (scale ⊗ half) in
        ap (λ (o : Tried). onward (or_else o rest).outcome (λ s'. ended_of (steps_from left t s' (n + (or_else o rest).count))) (n + (or_else o rest).count)) h

    pub no_more : from_candidate t left 0 f ox oy m scale n ≡ none_after n
    unfolding search_from
    no_more = ap none_after (add-zero n)

-- ---- the loops
-- a candidate as the code has it
pub was_passed : (o : Tried) → None ≡ taken_of o → o ≡ passed
was_passed passed h = refl
was_passed (taken s) h = cc

record Took (o : Tried) (v : Taken) : Type 0 where
  pub stand : Stand
  pub is : o ≡ taken stand
  pub same : v ≡ taken_at stand

was-taken : (o : Tried) (v : Taken) → Some v ≡ taken_of o → Took o v
was-taken passed v h = cc
was-taken (taken s) v h = record { stand = s; is = refl; same = cc }

one-down : (k : ℕ) → k < 4 → 4 - k ≡ suc (4 - (k + 1))
one-down k h = omega arith

module _ (t : Task) (run : Ended) (left k n : ℕ) (f : PatchSaddle) (ox oy : Float) (m : Move) (scale : Float) (is : run ≡ from_candidate t left (4 - k) f ox oy m scale n) (below : k < 4) where
  abbrev tried : Tried
  tried = candidate t f (ox ⊕ scale ⊗ m.x) (oy ⊕ scale ⊗ m.y)

  from-here : run ≡ from_candidate t left (suc (4 - (k + 1))) f ox oy m scale n
  from-here = is ∙ ap (λ (h : ℕ). from_candidate t left h f ox oy m scale n) (one-down k below)

  pub goes_half : None ≡ taken_of tried → run ≡ from_candidate t left (4 - (k + 1)) f ox oy m (scale ⊗ half) (n + 1)
  goes_half h = from-here ∙ pass t left (4 - (k + 1)) n f ox oy m scale (was_passed tried h)

  module _ (v : Taken) (h : Some v ≡ taken_of tried) where
    abbrev took : Took tried v
    took = was-taken tried v h

    at_stand_of : run ≡ ended_of (steps_from left t took.stand (n + 1))
    at_stand_of = from-here ∙ take t left (4 - (k + 1)) n f ox oy m scale took.stand took.is

    pub goes_on : (by : Move) (rest : ℕ) → settled v.fit ≡ false → by ≡ next_move v → left ≡ rest → run ≡ from_step t rest v.fit v.ox v.oy by (n + 1)
    goes_on by rest g e r =
        let s = took.stand in
        let q : settled s.fit ≡ false = ap (λ (w : Taken). settled w.fit) (sym took.same) ∙ g in
        at_stand_of
        ∙ next_step t left (n + 1) s q
        ∙ ap (λ (w : Taken). from_step t left w.fit w.ox w.oy (next_move w) (n + 1)) (sym took.same)
        ∙ ap (λ (w : Move). from_step t left v.fit v.ox v.oy w (n + 1)) (sym e)
        ∙ ap (λ (j : ℕ). from_step t j v.fit v.ox v.oy by (n + 1)) r

    pub ends_there : settled v.fit ≡ true → record { tries = n + 1; settled = Some v } ≡ run
    ends_there g =
        let s = took.stand in
        let q : settled s.fit ≡ true = ap (λ (w : Taken). settled w.fit) (sym took.same) ∙ g in
        sym (at_stand_of ∙ settles t left (n + 1) s q ∙ ap some_after (sym took.same))
      where
        some_after : Taken → Ended
        some_after w = record { tries = n + 1; settled = Some w }

pub ends-unsettled : (t : Task) (run : Ended) (left k n : ℕ) (f : PatchSaddle) (ox oy : Float) (m : Move) (scale : Float) → run ≡ from_candidate t left (4 - k) f ox oy m scale n → 4 ≤ k → record { tries = n; settled = None } ≡ run
ends-unsettled t run left k n f ox oy m scale is h = sym (is ∙ ap (λ (j : ℕ). from_candidate t left j f ox oy m scale n) (let e : 4 - k ≡ 0 = omega arith in e) ∙ no_more t left 0 n f ox oy m scale)

-- ---- a candidate, from how it was weighed
module _ (t : Task) (f : PatchSaddle) (ox oy : Float) (c : Corners) (w : Window) (placed : w ≡ window_of (window_place t.centre_x t.centre_y ox oy)) where
  pub weighed_none : Tries t f ox oy c None → None ≡ taken_of (candidate t f ox oy)
  weighed_none h = sym (ap taken_of h.is)

  pub weighed_some : (g : PatchSaddle) → Tries t f ox oy c (Some g) → Some (record { ox = ox; oy = oy; tx = w.tx; ty = w.ty; fit = g; corners = c }) ≡ taken_of (candidate t f ox oy)
  weighed_some g h = ap made placed ∙ sym (ap taken_of h.is)
    where
      made : Window → Option Taken
      made v = Some (record { ox = ox; oy = oy; tx = v.tx; ty = v.ty; fit = g; corners = c })
