-- What may be claimed of reading: an accepted file ends with its pixels, each at most the maximum; and a file that is written in the plain form is read back, by either call, to the same image.
use Rattle.std.specs.Prelude.{◌≡◌, Bool, true, cond, List, [], ◌∷◌, ◌++◌, ℕ, zero, suc, ◌+◌, ◌*◌, ◌/◌, ◌%◌, ◌≤◌, ◌<◌, ltb, length, get_or, drop}
use Rattle.shapes.specs.Lists.{tabulated}
use Rattle.imageview.specs.Image.{is_size}
use Rattle.graymap.specs.Call.{read, is_maximum, bytes_of, sample_in, read_of}

abbrev pub EndsWithPixels : Type 0
EndsWithPixels =
    (deep : Bool) (file : List ℕ) (w h m start : ℕ) → read_of deep file ≡ read w h m start
    → (length file ≡ start + bytes_of deep (w * h)) × ((i : ℕ) → i < w * h → sample_in deep (drop start file) i ≤ m)

-- ---- the plain form: "P5 w h m", a line feed, the samples
-- the decimal digits of n, at most k of them left
abbrev pub decimal_in : ℕ → ℕ → List ℕ
decimal_in zero n = []
decimal_in (suc k) n = cond (ltb n 10) ((48 + n) ∷ []) (decimal_in k (n / 10) ++ ((48 + n % 10) ∷ []))

abbrev pub decimal : ℕ → List ℕ
decimal n = decimal_in 4 n

-- the bytes of samples: one each, or two, high first
unfoldable pub bytes_in : Bool → List ℕ → List ℕ
bytes_in deep [] = []
bytes_in deep (v ∷ l) = cond deep (v / 256 ∷ v % 256 ∷ bytes_in deep l) (v ∷ bytes_in deep l)

abbrev pub plain_of : Bool → ℕ → ℕ → ℕ → List ℕ → List ℕ
plain_of deep w h m samples = 80 ∷ 53 ∷ 32 ∷ (decimal w ++ (32 ∷ (decimal h ++ (32 ∷ (decimal m ++ (10 ∷ bytes_in deep samples))))))

abbrev pub RoundTrip : Type 0
RoundTrip =
    (deep : Bool) (w h m : ℕ) (samples : List ℕ) → is_size w h ≡ true → is_maximum deep m ≡ true → length samples ≡ w * h → ((i : ℕ) → i < w * h → get_or samples i 0 ≤ m)
    → (start : ℕ) × (read_of deep (plain_of deep w h m samples) ≡ read w h m start) × (tabulated (w * h) (sample_in deep (drop start (plain_of deep w h m samples))) ≡ samples)
