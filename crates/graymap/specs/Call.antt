-- The two public calls, of files with one byte a sample and of deep ones with two, high first: the tests in their order, and what each answers. The first hands the pixels
-- back as a part of the file's own bytes and writes nothing; the second writes them to a lent buffer. `deep` says which call it is.
use Rattle.std.specs.Prelude.{◌≡◌, Result, Ok, Err, Bool, true, not, ◌&&◌, cond, List, [], ℕ, zero, suc, ◌+◌, ◌-◌, ◌*◌, leb, ltb, eqb, length, get_or, drop}
use Rattle.shapes.specs.Lists.{tabulated}
use Rattle.imageview.specs.Image.{is_size}
use Rattle.refusals.specs.declared.Refusal.TheVariants.{NoMagic, BadHeader, BadGraymapSize, TooShort, LeftOver, BadBuffer}
use Rattle.refusals.specs.Numbers as Refusals
use Rattle.refusals.specs.declared.Refusal.{Refusal}
use Rattle.graymap.specs.declared.Graymap.{Graymap}
use Rattle.graymap.specs.declared.Unread.{Unread}
use Rattle.graymap.specs.declared.Unread.TheVariants.{Above, Refused}
use Rattle.graymap.specs.Grammar.{Magic, no_magic, magic, magic_in, Header, no_header, header, header_in}

-- ---- how reading ends: with a graymap, with the first pixel above the maximum, or refused
abbrev pub Reading : Type 0
Reading = Result Graymap Unread

abbrev pub read : ℕ → ℕ → ℕ → ℕ → Reading
read w h m start = Ok (record { width = w; height = h; maximum = m; start = start })

abbrev pub above_at : ℕ → Reading
above_at k = Err (Above k)

abbrev pub refused : Refusal → Reading
refused r = Err (Refused r)

-- the number of each case; 24 carries the number of the first pixel above the maximum
abbrev pub number_of : Reading → ℕ
number_of (Ok g) = 0
number_of (Err (Above k)) = 24
number_of (Err (Refused r)) = Refusals.number_of r

-- ---- the first of n samples above the maximum, or n
unfoldable pub first_above : (ℕ → ℕ) → ℕ → ℕ → ℕ
first_above f m zero = zero
first_above f m (suc n) = let k = first_above f m n in cond (ltb k n) k (cond (ltb m (f n)) n (suc n))

-- ---- the format: the range of the maximum, how many bytes a sample takes, and a sample of what is left behind the header
abbrev pub is_maximum : Bool → ℕ → Bool
is_maximum deep m = cond deep (leb 256 m && leb m 4095) (leb 1 m && leb m 255)

abbrev pub bytes_of : Bool → ℕ → ℕ
bytes_of deep n = cond deep (2 * n) n

abbrev pub sample_in : Bool → List ℕ → ℕ → ℕ
sample_in deep left i = cond deep (256 * get_or left (2 * i) 0 + get_or left (2 * i + 1) 0) (get_or left i 0)

-- ---- what is left behind the header, of a file of so many bytes
abbrev pub pixels_of : Bool → ℕ → ℕ → ℕ → ℕ → List ℕ → Reading
pixels_of deep count w h m left =
    let k = first_above (sample_in deep left) m (w * h) in
    cond (ltb (length left) (bytes_of deep (w * h))) (refused TooShort)
    (cond (ltb k (w * h)) (above_at k)
    (cond (ltb (bytes_of deep (w * h)) (length left)) (refused LeftOver)
    (read w h m (count - length left))))

abbrev pub sized_of : Bool → ℕ → Header → Reading
sized_of deep count no_header = refused BadHeader
sized_of deep count (header w h m left) =
    cond (not (is_maximum deep m)) (refused BadHeader)
    (cond (not (is_size w h)) (refused BadGraymapSize)
    (pixels_of deep count w h m left))

abbrev pub magic_of : Bool → ℕ → Magic → Reading
magic_of deep count no_magic = refused NoMagic
magic_of deep count (magic l) = sized_of deep count (header_in l)

unfoldable pub read_of : Bool → List ℕ → Reading
unfolding header_in first_above
read_of deep file = magic_of deep (length file) (magic_in file)

-- ---- the second call: last the buffer, which holds exactly the samples
abbrev pub room_for : ℕ → Reading → Reading
room_for room (Ok g) = cond (eqb room (g.width * g.height)) (Ok g) (refused BadBuffer)
room_for room (Err u) = Err u

abbrev pub out_after : List ℕ → List ℕ → Reading → List ℕ
out_after file out (Ok g) = tabulated (g.width * g.height) (sample_in true (drop g.start file))
out_after file out (Err u) = out

pub record Done (file out : List ℕ) (answer : Reading) (out' : List ℕ) : Type 0 where
  pub answers : answer ≡ room_for (length out) (read_of true file)
  pub leaves : out' ≡ out_after file out (room_for (length out) (read_of true file))

-- the part of a file that begins where its pixels do, the empty part where there is none: of an accepted file it is the pixels and no more (`EndsWithPixels`)
abbrev pub part_of : List ℕ → Reading → List ℕ
part_of file (Ok g) = drop g.start file
part_of file (Err u) = []
