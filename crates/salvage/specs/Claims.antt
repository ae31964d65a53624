-- What may be claimed: kept and dropped together are all records; run on its own output the call drops nothing and gives the same bytes; a file that is whole, finite and inside comes back unchanged.
use Rattle.std.specs.Prelude.{◌≡◌, false, cond, List, [], ℕ, ◌+◌, ◌/◌, ◌<◌, length}
use Rattle.salvage.specs.Records.{whole_of, is_cut, fault_of, kept_of, dropped_of}

abbrev pub AllTold : Type 0
AllTold = (w h : ℕ) (file : List ℕ) → length (kept_of w h file (whole_of file)) / 12 + length (dropped_of w h file) / 2 ≡ whole_of file + cond (is_cut file) 1 0

abbrev pub SavedTwice : Type 0
SavedTwice =
    (w h : ℕ) (file : List ℕ)
    → let saved = kept_of w h file (whole_of file) in
    (dropped_of w h saved ≡ []) × (kept_of w h saved (whole_of saved) ≡ saved)

abbrev pub WholeStays : Type 0
WholeStays = (w h : ℕ) (file : List ℕ) → is_cut file ≡ false → ((i : ℕ) → i < whole_of file → fault_of w h file i ≡ 0) → kept_of w h file (whole_of file) ≡ file
