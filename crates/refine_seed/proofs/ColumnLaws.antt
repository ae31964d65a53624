-- Two tasks whose fits are the same at every pixel run alike. A fit reads the first columns of an operator and no more, so two operators that agree there refine alike.
use mathlib.Core.Path.{◌≡◌, refl, sym, ap, ◌∙◌, subst}
use mathlib.Core.Bool.{Bool, true, false, ◌&&◌, cond}
use mathlib.Core.List.{List, [], ◌++◌}
use Rattle.std.specs.Prelude.{Option, Some, None, Result, Ok, Err, is_some}
use Prim.Native.Nat.{ℕ, zero, suc, ◌+◌, ◌*◌, ◌/◌, ◌<◌}
use native.Mathlib.Omega.{arith}
use lib.IntN.{ℤ, pos, negsuc, ◌+ℤ◌}
use lib.ListN.{length, drop, get_or-append}
use lib.Ieee.{Float, nan}
use Rattle.shapes.specs.Numbers.{plus_zero, one, entry}
use Rattle.imageview.specs.Image.{Image}
use Rattle.imageview.specs.Patch.{supports_patch}
use Rattle.refine_operator.specs.Basis.{samples}
use Rattle.refine_operator.specs.Call as Operator
use Rattle.refine_operator.specs.declared.OperatorError.{OperatorError}
use Rattle.shapes.proofs.ListLaws.{tabulated-cong}
use Rattle.shapes.proofs.TurnLaws.{turns-cong}
use Rattle.refine_operator.proofs.CallLaws.{built-length}
use Rattle.refine_formulas.specs.declared.SaddlePointConfig.{SaddlePointConfig}
use Rattle.refine_formulas.specs.declared.PatchSaddle.{PatchSaddle}
use Rattle.refine_formulas.specs.declared.Move.{Move}
use Rattle.refine_fits.specs.declared.Seed.{Seed}
use Rattle.refine_formulas.specs.declared.Slope.{Slope}
use Rattle.refine_formulas.specs.declared.Unsolved.{Unsolved}
use Rattle.refine_formulas.specs.declared.Covariance.{Covariance}
use Rattle.refine_formulas.specs.Covariance.{covariance_of}
use Rattle.refine_formulas.specs.Sensitivity.{saddle_jacobian}
use Rattle.refine_seed.specs.declared.Estimate.{Estimate}
use Rattle.refine_seed.specs.declared.Noise.{Noise}
use Rattle.refine_seed.specs.declared.Opened.{Opened}
use Rattle.refine_seed.specs.declared.Unrefined.{Unrefined}
use Rattle.refine_seed.specs.declared.Unrefined.TheVariants.{Unmoved, Refused}
use Rattle.refine_seed.specs.declared.Why.TheVariants.{Rejected, IllConditioned}
use Rattle.refine_formulas.specs.Numbers.{◌⊕◌, ◌⊖◌, ◌⊗◌, half}
use Rattle.refine_fits.specs.Fit.{sample_of, coefficient, coefficients, Fit, no_fit, fitted, fit_within, fit_at}
use Rattle.refine_formulas.specs.Solve.{solve, settled}
use Rattle.refine_fits.specs.Windows.{WindowPlace, window_place, Fits, lacking, four, fits4, corners_at}
use Rattle.refine_formulas.specs.Between.{blend}
use Rattle.refine_seed.specs.PixelSlope.{along, both, slope_at}
use Rattle.refine_fits.specs.Candidate.{Task, near_seed, Stand, Tried, passed, taken, judged, weighed, candidate, task_at}
use Rattle.refine_seed.specs.Run.{Search, or_else, search_from, Finish, at_start, at_stand, picked, later_move, steps_from, run_of}
use Rattle.refusals.specs.declared.Refusal.{Refusal}
use Rattle.imageview.specs.View.{passing}
use Rattle.refine_seed.specs.Refine.{Refined, unmoved, unbuilt, admit_of, refine_with, with_operator, refine_of, refine_lent}
use Rattle.refine_seed.specs.StepsEnding.{ClosesFresh, answer_with, closed_with, covariance_with, ended_of, opened_there, opened_on, opened_from, open_by, open_of, open_with}
use Rattle.refine_seed.proofs.StepLaws.{no}
use Rattle.refine_seed.proofs.ClosingLaws.{refined-opened}
use Rattle.refine_seed.proofs.EntryLaws.{own_answer, lent_answer, lent_zero, lent_other, not_passing}

-- ---- two images and two operators that give the same fit at every pixel
abbrev pub SameFits : Image → Image → List Float → List Float → ℕ → Type 0
SameFits p q a b radius = (z w : ℤ) → fit_at p a radius z w ≡ fit_at q b radius z w

module _ (p q : Image) (a b : List Float) (radius : ℕ) (same : SameFits p q a b radius) where
  abbrev fa : ℤ → ℤ → Fit
  fa = fit_at p a radius

  abbrev fb : ℤ → ℤ → Fit
  fb = fit_at q b radius

  corners-same : (z w : ℤ) → corners_at p a radius z w ≡ corners_at q b radius z w
  unfolding corners_at
  corners-same z w =
      ap (λ (f : Fit). fits4 f (fa (z +ℤ pos 1) w) (fa z (w +ℤ pos 1)) (fa (z +ℤ pos 1) (w +ℤ pos 1))) (same z w)
      ∙ ap (λ (f : Fit). fits4 (fb z w) f (fa z (w +ℤ pos 1)) (fa (z +ℤ pos 1) (w +ℤ pos 1))) (same (z +ℤ pos 1) w)
      ∙ ap (λ (f : Fit). fits4 (fb z w) (fb (z +ℤ pos 1) w) f (fa (z +ℤ pos 1) (w +ℤ pos 1))) (same z (w +ℤ pos 1))
      ∙ ap (λ (f : Fit). fits4 (fb z w) (fb (z +ℤ pos 1) w) (fb z (w +ℤ pos 1)) f) (same (z +ℤ pos 1) (w +ℤ pos 1))

  slope-same : (z w : ℤ) → slope_at p a radius z w ≡ slope_at q b radius z w
  unfolding slope_at
  slope-same z w =
      ap (λ (f : Fit). both (along f (fa (z +ℤ pos 1) w) (fa (z +ℤ negsuc 0) w)) (along f (fa z (w +ℤ pos 1)) (fa z (w +ℤ negsuc 0)))) (same z w)
      ∙ ap (λ (f : Fit). both (along (fb z w) f (fa (z +ℤ negsuc 0) w)) (along (fb z w) (fa z (w +ℤ pos 1)) (fa z (w +ℤ negsuc 0)))) (same (z +ℤ pos 1) w)
      ∙ ap (λ (f : Fit). both (along (fb z w) (fb (z +ℤ pos 1) w) f) (along (fb z w) (fa z (w +ℤ pos 1)) (fa z (w +ℤ negsuc 0)))) (same (z +ℤ negsuc 0) w)
      ∙ ap (λ (f : Fit). both (along (fb z w) (fb (z +ℤ pos 1) w) (fb (z +ℤ negsuc 0) w)) (along (fb z w) f (fa z (w +ℤ negsuc 0)))) (same z (w +ℤ pos 1))
      ∙ ap (λ (f : Fit). both (along (fb z w) (fb (z +ℤ pos 1) w) (fb (z +ℤ negsuc 0) w)) (along (fb z w) (fb z (w +ℤ pos 1)) f)) (same z (w +ℤ negsuc 0))

picked_same : (r : Tried) (g h : Stand → Finish) (e : Finish) → ((s : Stand) → g s ≡ h s) → picked r g e ≡ picked r h e
picked_same passed g h e q = refl
picked_same (taken s) g h e q = q s

module _ (p q : Image) (a b : List Float) (cfg : SaddlePointConfig) (seed : Seed) (same : SameFits p q a b cfg.radius) where
  abbrev cx : ℤ
  cx = pos seed.centre_x

  abbrev cy : ℤ
  cy = pos seed.centre_y

  abbrev ta : Task
  ta = task_at p a cfg seed

  abbrev tb : Task
  tb = task_at q b cfg seed

  judged-same : (f : PatchSaddle) (ox oy : Float) (w : WindowPlace) (v : Fits) → weighed ta f ox oy w v ≡ weighed tb f ox oy w v
  unfolding near_seed
  judged-same f ox oy w lacking = refl
  judged-same f ox oy w (four c) = by (solve cfg (blend c w.tx w.ty))
    where
      by : (s : Result PatchSaddle Unsolved) → judged ta f ox oy w c s ≡ judged tb f ox oy w c s
      by (Err u) = refl
      by (Ok g) = refl

  candidate-same : (f : PatchSaddle) (ox oy : Float) → candidate ta f ox oy ≡ candidate tb f ox oy
  unfolding candidate
  candidate-same f ox oy =
      ap (λ (v : Fits). weighed ta f ox oy (window_place cx cy ox oy) v)
      (corners-same p q a b cfg.radius same (window_place cx cy ox oy).base_x (window_place cx cy ox oy).base_y)
      ∙ judged-same f ox oy (window_place cx cy ox oy)
      (corners_at q b cfg.radius (window_place cx cy ox oy).base_x (window_place cx cy ox oy).base_y)

  search-same : (left : ℕ) (f : PatchSaddle) (ox oy : Float) (m : Move) (scale : Float) → search_from left ta f ox oy m scale ≡ search_from left tb f ox oy m scale
  unfolding search_from
  search-same zero f ox oy m scale = refl
  search-same (suc left) f ox oy m scale =
      ap (λ (r : Search). or_else (candidate ta f (ox ⊕ scale ⊗ m.x) (oy ⊕ scale ⊗ m.y)) r) (search-same left f ox oy m (scale ⊗ half))
      ∙ ap (λ (t : Tried). or_else t (search_from left tb f ox oy m (scale ⊗ half))) (candidate-same f (ox ⊕ scale ⊗ m.x) (oy ⊕ scale ⊗ m.y))

  steps-same : (left : ℕ) (s : Stand) (n : ℕ) → steps_from left ta s n ≡ steps_from left tb s n
  unfolding steps_from
  steps-same zero s n = refl
  steps-same (suc left) s n =
      ap (λ (r : Search). cond (settled s.fit) (at_stand s n) (picked r.outcome (λ s'. steps_from left ta s' (n + r.count)) (at_stand s (n + r.count)))) (search-same 4 s.fit s.ox s.oy (later_move s) one)
      ∙ ap (λ (e : Finish). cond (settled s.fit) (at_stand s n) e)
      (let r = search_from 4 tb s.fit s.ox s.oy (later_move s) one in
      picked_same r.outcome (λ s'. steps_from left ta s' (n + r.count)) (λ s'. steps_from left tb s' (n + r.count)) (at_stand s (n + r.count)) (λ s'. steps-same left s' (n + r.count)))

  run-same : (f : PatchSaddle) → run_of ta f ≡ run_of tb f
  unfolding run_of
  run-same f =
      ap (λ (r : Search). cond (settled f) (at_start 0) (picked r.outcome (λ s. steps_from 15 ta s r.count) (at_start r.count))) (search-same 4 f plus_zero plus_zero (record { x = f.ux; y = f.uy }) one)
      ∙ ap (λ (e : Finish). cond (settled f) (at_start 0) e)
      (let r = search_from 4 tb f plus_zero plus_zero (record { x = f.ux; y = f.uy }) one in
      picked_same r.outcome (λ s. steps_from 15 ta s r.count) (λ s. steps_from 15 tb s r.count) (at_start r.count) (λ s. steps-same 15 s r.count))

  opened-same : (f : PatchSaddle) → opened_from ta seed f ≡ opened_from tb seed f
  opened-same f =
      ap (λ (s : Option Slope). cond (settled f) (opened_there seed f s) (opened_on seed f (ended_of (run_of ta f)).tries (ended_of (run_of ta f)).settled)) (slope-same p q a b cfg.radius same cx cy)
      ∙ ap (λ (e : Finish). cond (settled f) (opened_there seed f (slope_at q b cfg.radius cx cy)) (opened_on seed f (ended_of e).tries (ended_of e).settled)) (run-same f)

  saddle-same : (s : Result PatchSaddle Unsolved) → open_by ta seed s ≡ open_by tb seed s
  unfolding near_seed
  saddle-same (Err u) = refl
  saddle-same (Ok f) = ap (λ (o : Opened). cond (near_seed ta f.ux f.uy) (Ok o) (Err (Unmoved Rejected f.det_h))) (opened-same f)

  module _ (coefs : coefficients p a cfg.radius seed.centre_x seed.centre_y ≡ coefficients q b cfg.radius seed.centre_x seed.centre_y) where
    pub open-same : open_of p cfg seed a ≡ open_of q cfg seed b
    open-same = ap (λ (l : List Float). open_by ta seed (solve cfg l)) coefs ∙ saddle-same (solve cfg (coefficients q b cfg.radius seed.centre_x seed.centre_y))

    pub refine-same : (overlap : List Float) (wanted : Bool) → refine_with p cfg seed wanted a overlap ≡ refine_with q cfg seed wanted b overlap
    refine-same overlap wanted =
        refined-opened p a cfg seed overlap wanted ∙ ap (answer_with overlap wanted) open-same ∙ sym (refined-opened q b cfg seed overlap wanted)

-- ---- a fit reads the first columns of an operator and no more
below : (n k i : ℕ) → k < n → i < 5 → 5 * k + i < 5 * n
below n k i h l = omega arith

module _ (img : Image) (a b : List Float) (radius : ℕ) (same : (k : ℕ) → k < 5 * samples radius → entry a k ≡ entry b k) where
  coefficient-same : (x y i : ℕ) → i < 5 → coefficient img a radius x y i ≡ coefficient img b radius x y i
  unfolding coefficient
  coefficient-same x y i l =
      turns-cong (samples radius)
      (λ k s. s ⊕ entry a (5 * k + i) ⊗ (sample_of img radius x y k ⊖ sample_of img radius x y (samples radius / 2)))
      (λ k s. s ⊕ entry b (5 * k + i) ⊗ (sample_of img radius x y k ⊖ sample_of img radius x y (samples radius / 2)))
      plus_zero
      (λ k h s. ap (λ (c : Float). s ⊕ c ⊗ (sample_of img radius x y k ⊖ sample_of img radius x y (samples radius / 2))) (same (5 * k + i) (below (samples radius) k i h l)))

  coefficients-same : (x y : ℕ) → coefficients img a radius x y ≡ coefficients img b radius x y
  unfolding coefficients
  coefficients-same x y = tabulated-cong 5 (coefficient img a radius x y) (coefficient img b radius x y) (coefficient-same x y)

  within_same : (z w : ℤ) → fit_within img a radius z w ≡ fit_within img b radius z w
  within_same (pos x) (pos y) = ap fitted (coefficients-same x y)
  within_same (pos x) (negsuc y) = refl
  within_same (negsuc x) w = refl

  fit_same : SameFits img img a b radius
  unfolding fit_at
  fit_same z w = ap (λ (f : Fit). cond (supports_patch img radius z w) f no_fit) (within_same z w)

-- ---- an operator as it stands in the front of longer arrays
module _ (img : Image) (cfg : SaddlePointConfig) (seed : Seed) where
  agree : (c rest : List Float) (n : ℕ) → length c ≡ n → (k : ℕ) → k < n → entry (c ++ rest) k ≡ entry c k
  agree c rest n e k h = get_or-append c rest nan k (subst (λ (m : ℕ). k < m) (sym e) h)

  front : (c rest : List Float) → length c ≡ 5 * samples cfg.radius → open_of img cfg seed (c ++ rest) ≡ open_of img cfg seed c
  front c rest e =
      let same = agree c rest (5 * samples cfg.radius) e in
      open-same img img (c ++ rest) c cfg seed (fit_same img (c ++ rest) c cfg.radius same) (coefficients-same img (c ++ rest) c cfg.radius same seed.centre_x seed.centre_y)

  by_way : (old columns' : List Float) (w : Operator.Way) → ((c o : List Float) → w ≡ Operator.built c o → length c ≡ 5 * samples cfg.radius) → Operator.answer_of w ≡ Ok tt → columns' ≡ Operator.columns_after cfg.radius old w → open_of img cfg seed columns' ≡ open_with img cfg seed w
  by_way old columns' (Operator.refused r) l b p = cc
  by_way old columns' Operator.none l b p = cc
  by_way old columns' (Operator.built c o) l b p = ap (open_of img cfg seed) p ∙ front c (drop (5 * samples cfg.radius) old) (l c o refl)

  pub opens_built : (old columns' : List Float) (r : Result Unit OperatorError) → Operator.ColumnsDone cfg.radius old r columns' → r ≡ Ok tt → open_of img cfg seed columns' ≡ open_with img cfg seed (Operator.way_of cfg.radius)
  opens_built old columns' r d e = by_way old columns' (Operator.way_of cfg.radius) (built-length cfg.radius) (sym d.answers ∙ e) d.leaves

  unbuilt-way : (w : Operator.Way) (e : OperatorError) → Operator.answer_of w ≡ Err e → Err (unbuilt e) ≡ open_with img cfg seed w
  unbuilt-way (Operator.refused r) e h = let q : e ≡ OperatorError.Refused r = cc in ap (λ (v : OperatorError). Err (unbuilt v)) q
  unbuilt-way Operator.none e h = let q : e ≡ OperatorError.Singular = cc in ap (λ (v : OperatorError). Err (unbuilt v)) q
  unbuilt-way (Operator.built c o) e h = cc

  pub opens_unbuilt : (old columns' : List Float) (r : Result Unit OperatorError) (e : OperatorError) → Operator.ColumnsDone cfg.radius old r columns' → r ≡ Err e → Err (unbuilt e) ≡ open_with img cfg seed (Operator.way_of cfg.radius)
  opens_unbuilt old columns' r e d h = unbuilt-way (Operator.way_of cfg.radius) e (sym d.answers ∙ h)

  -- its answer in two halves, over whatever stood where the overlaps go
  in-halves : (old : List Float) (wanted : Bool) (w : Operator.Way) → with_operator img cfg seed wanted w ≡ answer_with (Operator.overlap_after old w) wanted (open_with img cfg seed w)
  in-halves old wanted (Operator.refused r) = refl
  in-halves old wanted Operator.none = refl
  in-halves old wanted (Operator.built columns overlap) = refined-opened img columns cfg seed overlap wanted

  module _ (wanted : Bool) where
    abbrev way : Operator.Way
    way = Operator.way_of cfg.radius

    pub fresh-built : (old overlap columns' overlap' : List Float) (r : Result Unit OperatorError) → Operator.Done cfg.radius old overlap r columns' overlap' → r ≡ Ok tt → refine_with img cfg seed wanted columns' overlap' ≡ with_operator img cfg seed wanted way
    fresh-built old overlap columns' overlap' r d e =
        refined-opened img columns' cfg seed overlap' wanted
        ∙ ap (answer_with overlap' wanted) (opens_built old columns' r (record { answers = d.answers; leaves = d.leaves-columns }) e)
        ∙ ap (λ (o : List Float). answer_with o wanted (open_with img cfg seed way)) d.leaves-overlap
        ∙ sym (in-halves overlap wanted way)

    -- a seed that is answered without overlaps
    pub fresh_err : (e : Unrefined) → open_with img cfg seed way ≡ Err e → Err e ≡ with_operator img cfg seed wanted way
    fresh_err e h = sym (in-halves [] wanted way ∙ ap (answer_with (Operator.overlap_after [] way) wanted) h)

    pub fresh_unbuilt : (old overlap columns' overlap' : List Float) (r : Result Unit OperatorError) (e : OperatorError) → Operator.Done cfg.radius old overlap r columns' overlap' → r ≡ Err e → Err (unbuilt e) ≡ with_operator img cfg seed wanted way
    fresh_unbuilt old overlap columns' overlap' r e d h = fresh_err (unbuilt e) (sym (opens_unbuilt old columns' r e (record { answers = d.answers; leaves = d.leaves-columns }) h))

    -- one that is not: with the overlaps where a covariance is wanted
    pub fresh_wanted : (o : Opened) (before after : List Float) (q : Result Unit OperatorError) → open_with img cfg seed way ≡ Ok o → Operator.OverlapDone cfg.radius before q after → Ok (closed_with after wanted o) ≡ with_operator img cfg seed wanted way
    fresh_wanted o before after q h d =
        ap (λ (v : List Float). Ok (closed_with v wanted o)) d.leaves ∙ sym (in-halves before wanted way ∙ ap (answer_with (Operator.overlap_after before way) wanted) h)

    -- where none is wanted, or there is none, no overlap is read
    pub fresh_unread : (o : Opened) (overlap : List Float) → open_with img cfg seed way ≡ Ok o → (wanted && is_some o.noise) ≡ false → Ok (closed_with overlap wanted o) ≡ with_operator img cfg seed wanted way
    fresh_unread o overlap h e =
        ap (λ (v : Option Covariance). Ok (closed_as o.estimate v)) (unread o.noise e)
        ∙ sym (in-halves [] wanted way ∙ ap (answer_with (Operator.overlap_after [] way) wanted) h)
      where
        closed_as : Estimate → Option Covariance → Estimate
        closed_as k v = record { x = k.x; y = k.y; score = k.score; converged = k.converged; tries = k.tries; covariance = v }

        alone : (b : Bool) → (b && true) ≡ false → b ≡ false
        alone true q = cc
        alone false q = refl

        unread : (n : Option Noise) → (wanted && is_some n) ≡ false → covariance_with overlap wanted n ≡ covariance_with (Operator.overlap_after [] way) wanted n
        unread None q = refl
        unread (Some w) q =
            no wanted (covariance_of overlap w.tx w.ty (saddle_jacobian w.fit) w.moves) None (alone wanted q)
            ∙ sym (no wanted (covariance_of (Operator.overlap_after [] way) w.tx w.ty (saddle_jacobian w.fit) w.moves) None (alone wanted q))

-- ---- the two calls
module _ (img : Image) (cfg : SaddlePointConfig) (x y : Float) (wanted : Bool) where
  pub own_refused : (r : Refusal) → Err r ≡ passing img → refine_of img cfg x y wanted ≡ Err (Refused r)
  own_refused r h = sym (own_answer img cfg x y wanted (Err (Refused r)) (not_passing img cfg x y r (sym h)))

  pub own_unadmitted : (e : Unrefined) → Err e ≡ admit_of img cfg x y → refine_of img cfg x y wanted ≡ Err e
  own_unadmitted e h = sym (own_answer img cfg x y wanted (Err e) h)

  module _ (seed : Seed) (h : Ok seed ≡ admit_of img cfg x y) where
    pub own_unopened : (e : Unrefined) → Err e ≡ open_with img cfg seed (Operator.way_of cfg.radius) → refine_of img cfg x y wanted ≡ Err e
    own_unopened e k = sym (fresh_err img cfg seed wanted e (sym k) ∙ own_answer img cfg x y wanted (Ok seed) h)

    pub own_closed : (o : Opened) (r : Refined) → Ok o ≡ open_with img cfg seed (Operator.way_of cfg.radius) → ClosesFresh cfg wanted o r → r ≡ refine_of img cfg x y wanted
    own_closed o r k c = c.is img seed (sym k) ∙ own_answer img cfg x y wanted (Ok seed) h

  module _ (columns overlap : List Float) where
    pub lent_refused : (r : Refusal) → Err r ≡ passing img → refine_lent img cfg x y wanted columns overlap ≡ Err (Refused r)
    lent_refused r h = sym (lent_answer img cfg x y wanted columns overlap (Err (Refused r)) (not_passing img cfg x y r (sym h)))

    pub lent_unadmitted : (e : Unrefined) → Err e ≡ admit_of img cfg x y → refine_lent img cfg x y wanted columns overlap ≡ Err e
    lent_unadmitted e h = sym (lent_answer img cfg x y wanted columns overlap (Err e) h)

    module _ (seed : Seed) (h : Ok seed ≡ admit_of img cfg x y) where
      pub lent_none : cfg.radius ≡ 0 → Err (unmoved IllConditioned) ≡ refine_lent img cfg x y wanted columns overlap
      lent_none z = lent_zero cfg (refine_with img cfg seed wanted columns overlap) z ∙ lent_answer img cfg x y wanted columns overlap (Ok seed) h

      lent_opened : (cfg.radius ≡ 0 → ⊥) → answer_with overlap wanted (open_of img cfg seed columns) ≡ refine_lent img cfg x y wanted columns overlap
      lent_opened z = sym (refined-opened img columns cfg seed overlap wanted) ∙ lent_other cfg (refine_with img cfg seed wanted columns overlap) z ∙ lent_answer img cfg x y wanted columns overlap (Ok seed) h

      pub lent_unopened : (cfg.radius ≡ 0 → ⊥) → (e : Unrefined) → Err e ≡ open_of img cfg seed columns → refine_lent img cfg x y wanted columns overlap ≡ Err e
      lent_unopened z e k = sym (ap (answer_with overlap wanted) k ∙ lent_opened z)

      pub lent_closed : (cfg.radius ≡ 0 → ⊥) → (o : Opened) (r : Estimate) → Ok o ≡ open_of img cfg seed columns → r ≡ closed_with overlap wanted o → Ok r ≡ refine_lent img cfg x y wanted columns overlap
      lent_closed z o r k e = ap Ok e ∙ ap (answer_with overlap wanted) k ∙ lent_opened z
