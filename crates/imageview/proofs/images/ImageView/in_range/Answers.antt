-- A row is a part of the samples, and the test of a part is the test of its samples.
use Rattle.std.proofs.Common.{◌≡◌, ℕ, ◌+◌, ◌*◌, Bool, ◌&&◌, List, length, get_or, take, drop, leb, refl, sym, ap, ◌∙◌, arith}
use native.Mathlib.Nat.{add-zero}
use Rattle.shapes.specs.Tests.{every}
use Rattle.shapes.proofs.TestLaws.{every-none, every_more, both}
use Rattle.imageview.specs.Image.{Image, most_sample}
use Rattle.imageview.specs.Steps.{rows_low}
use Rattle.imageview.specs.Levels.{row_low}
use Rattle.imageview.specs.View.{shown}
use Rattle.imageview.proofs.ImageLaws.{tested, passed, row-whole, row-of-levels, low_row, rows-range, rows-low}
use Rattle.imageview.proofs.images.ImageView.in_range.Goals as goal

abbrev tests : List ℕ → ℕ → ℕ → ℕ → Bool
tests l width pitch y = every width (λ x. leb (get_or l (y * pitch + x) 0) most_sample)

pub loop-y-init : goal.loop-y-init
loop-y-init g c =
    let v = c.args.self in
    record { rows = sym (every-none (tests (g.S.Sample.levels v.data.now) v.width v.pitch)); bytes = λ _. refl }

-- the row that is read stands in the samples
pub patch_row-requires : goal.patch_row-requires
patch_row-requires g c =
    let image : Image = shown g.S.Sample.levels g.S.Sample.deep c.args.self in
    let whole = row-whole image (tested image (passed c.requires)) c.loop-y.y c.loop-y-test.true in
    omega (arith, whole, g.met.S.Sample.length_levels c.args.self.data.now)

pub loop-y-preserved : goal.loop-y-preserved
loop-y-preserved g c =
    let v = c.args.self in
    let l = c.loop-y in
    let laws = g.met.S.Sample in
    let levels = g.S.Sample.levels v.data.now in
    let image : Image = shown g.S.Sample.levels g.S.Sample.deep v in
    let whole = row-whole image (tested image (passed c.requires)) l.y c.loop-y-test.true in
    let row : g.S.Sample.levels c.patch_row.result.now ≡ take v.width (drop (l.y * v.pitch) levels) =
    ap g.S.Sample.levels c.patch_row.ensures
    ∙ row-of-levels g.S.Sample.levels laws.levels_take laws.levels_drop v.data.now (l.y * v.pitch + 0) v.width
    ∙ ap (λ (n : ℕ). take v.width (drop n levels)) (add-zero (l.y * v.pitch)) in
    let low : c.are_low-all.result ≡ tests levels v.width v.pitch l.y =
    c.are_low-all.ensures.answer
    ∙ ap (λ (n : ℕ). row_low (g.S.Sample.levels c.patch_row.result.now) n) (sym (laws.length_levels c.patch_row.result.now))
    ∙ ap (λ (r : List ℕ). row_low r (length r)) row
    ∙ low_row levels (l.y * v.pitch) v.width whole in
    record {
      rows =
          ap (λ (b : Bool). b && c.are_low-all.result) l.invariant.rows
          ∙ ap (λ (b : Bool). rows_low levels v.width v.pitch l.y && b) low
          ∙ sym (every_more (tests levels v.width v.pitch) l.y);
      bytes = λ e. both (l.invariant.bytes e) (c.are_low-all.ensures.bytes_low e);
    }

pub returns : goal.returns
returns g c =
    let v = c.args.self in
    let image : Image = shown g.S.Sample.levels g.S.Sample.deep v in
    let whole = c.loop-y.invariant.rows ∙ ap (rows_low (g.S.Sample.levels v.data.now) v.width v.pitch) (omega arith) in
    record {
      answer = rows-range image c.loop-y.all whole c.loop-y.invariant.bytes;
      low = λ e. rows-low image (sym whole ∙ e);
    }
