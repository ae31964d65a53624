-- `peaks::scan::Response::list_columns` meets its contract: what stands out, of that what beats the six above and below, and of that the peaks.
use Rattle.std.proofs.Common.{rules, ◌≡◌, sym, ap, ◌∙◌, ℕ, Bool, List, ◌++◌, ◌+◌, ◌-◌, ◌*◌, ◌≤◌, ◌<◌, length, get_or, arith}
use lib.ListN.{length-append}
use Rattle.peaks.specs.Peak.{floor_of, is_peak}
use Rattle.peaks.specs.Call.{peak_at}
use Rattle.peaks.specs.Listed.{between}
use Rattle.peaks.specs.Steps.{scan_of, stands_out, beats_six, may_peak}
use Rattle.peaks.proofs.ListLaws.{between-at, picked-behind, behind-at}
use Rattle.peaks.proofs.PartLaws.{column-inside, columns-narrowed, columns-peaks}
use Rattle.peaks.proofs.Response.list_columns.Goals as goal

pub retain-requires : goal.retain-requires
retain-requires c =
    let a = c.args in
    let s = scan_of a.self.now in
    let b = c.requires.columns_inside in
    let out = stands_out s.values (floor_of s) in
    let from = a.y * s.width + a.start in (
      omega arith,
      (
        omega (arith, c.len-before.ensures, ap length c.gather.ensures, length-append a.list.now (between from a.n out)),
        λ i h l κs q r t u.
            let w = behind-at a.list.now (between from a.n out) c.len-before.result i c.len-before.ensures c.gather.ensures h l in
            let z = between-at out from a.n (i - c.len-before.result) w.1 in
            let k : get_or c.gather.new.list i 0 ≡ get_or (between from a.n out) (i - c.len-before.result) 0 = w.0 in
            let m = column-inside b (get_or c.gather.new.list i 0) (omega (arith, k, z.0)) (omega (arith, k, z.1)) in
            (m.3, m.4),
      ),
    )

pub retain-requires-2 : goal.retain-requires-2
retain-requires-2 c =
    let a = c.args in
    let s = scan_of a.self.now in
    let b = c.requires.columns_inside in
    let from = a.y * s.width + a.start in
    let may = may_peak s.values (floor_of s) s.width in
    let narrowed : c.retain.new.self ≡ a.list.now ++ between from a.n may =
    picked-behind a.list.now (between from a.n (stands_out s.values (floor_of s))) (beats_six s.values s.width) c.len-before.result c.len-before.ensures c.gather.ensures (c.retain.ensures (beats_six s.values s.width) (λ i r h l e. search rules))
    ∙ ap (λ (z : List ℕ). a.list.now ++ z) (columns-narrowed b) in
    let inside : (i : ℕ) → c.len-before.result ≤ i → i < length c.retain.new.self → (from ≤ get_or c.retain.new.self i 0) × (get_or c.retain.new.self i 0 < from + a.n) =
    λ i h l.
    let w = behind-at a.list.now (between from a.n may) c.len-before.result i c.len-before.ensures narrowed h l in
    let z = between-at may from a.n (i - c.len-before.result) w.1 in
    let k : get_or c.retain.new.self i 0 ≡ get_or (between from a.n may) (i - c.len-before.result) 0 = w.0 in
    (omega (arith, k, z.0), omega (arith, k, z.1)) in (
      omega arith,
      (
        omega (arith, c.len-before.ensures, ap length narrowed, length-append a.list.now (between from a.n may)),
        λ i h l.
            let k = inside i h l in
            let m = column-inside b (get_or c.retain.new.self i 0) k.0 k.1 in
            (λ κs q r t u. m.0, λ κs q r t u v w. m.1),
      ),
    )

pub returns : goal.returns
returns c =
    let a = c.args in
    let s = scan_of a.self.now in
    let b = c.requires.columns_inside in
    let from = a.y * s.width + a.start in
    let may = may_peak s.values (floor_of s) s.width in
    let narrowed : c.retain.new.self ≡ a.list.now ++ between from a.n may =
    picked-behind a.list.now (between from a.n (stands_out s.values (floor_of s))) (beats_six s.values s.width) c.len-before.result c.len-before.ensures c.gather.ensures (c.retain.ensures (beats_six s.values s.width) (λ i r h l e. search rules))
    ∙ ap (λ (z : List ℕ). a.list.now ++ z) (columns-narrowed b) in
    let peaks : (i : ℕ) (r : Bool) → c.len-before.result ≤ i → i < length c.retain.new.self → r ≡ is_peak s (get_or c.retain.new.self i 0 - a.y * s.width) a.y → r ≡ peak_at s (get_or c.retain.new.self i 0) =
    λ i r h l e.
    let w = behind-at a.list.now (between from a.n may) c.len-before.result i c.len-before.ensures narrowed h l in
    let z = between-at may from a.n (i - c.len-before.result) w.1 in
    let k : get_or c.retain.new.self i 0 ≡ get_or (between from a.n may) (i - c.len-before.result) 0 = w.0 in
    e ∙ sym (column-inside b (get_or c.retain.new.self i 0) (omega (arith, k, z.0)) (omega (arith, k, z.1))).2 in
    picked-behind a.list.now (between from a.n may) (peak_at s) c.len-before.result c.len-before.ensures narrowed (c.retain-2.ensures (peak_at s) (λ i r h l e. peaks i r h l (search rules)))
    ∙ ap (λ (z : List ℕ). a.list.now ++ z) (columns-peaks b)
