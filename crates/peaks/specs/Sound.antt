-- What the public call has tested of a response and its settings before it scans.
use Rattle.std.specs.Prelude.{◌≡◌, List, ℕ, ◌*◌, ◌≤◌, length, Float}
use Rattle.peaks.specs.Peak.{Scan}

-- the parameters of the call
abbrev pub scan_for : List Float → ℕ → ℕ → ℕ → ℕ → ℕ → Float → ℕ → Scan
scan_for values width height ring window refine threshold cluster =
    record { values = values; width = width; height = height; ring = ring; window = window; refine = refine; threshold = threshold; cluster = cluster }

pub record Sound (s : Scan) : Type 0 where
  pub wide : 1 ≤ s.width
  pub width-most : s.width ≤ 4096
  pub height-most : s.height ≤ 4096
  pub size : length s.values ≡ s.width * s.height
  pub ring-most : s.ring ≤ 10
  pub window-least : 1 ≤ s.window
  pub window-most : s.window ≤ 8
  pub refine-most : s.refine ≤ 7
