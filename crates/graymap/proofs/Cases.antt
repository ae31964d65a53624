-- Closed cases: files that are accepted, and one or more for each refusal; the same of deep files.
use mathlib.Core.Path.{◌≡◌, refl}
use mathlib.Core.Bool.{true, false}
use mathlib.Core.List.{[], ◌∷◌}
use Rattle.shapes.specs.Lists.{tabulated}
use Rattle.refusals.specs.declared.Refusal.TheVariants.{NoMagic, BadHeader, BadGraymapSize, TooShort, LeftOver, BadBuffer}
use Rattle.graymap.specs.Grammar.{gap, digits, number_in, header_in}
use Rattle.graymap.specs.Call.{read, above_at, refused, first_above, read_of, room_for, out_after}

-- P5 2 1 255 and a line feed; the first pixel is `#`
accepted : read_of false (80 ∷ 53 ∷ 32 ∷ 50 ∷ 32 ∷ 49 ∷ 32 ∷ 50 ∷ 53 ∷ 53 ∷ 10 ∷ 35 ∷ 7 ∷ []) ≡ read 2 1 255 11
unfolding read_of header_in number_in gap digits first_above
accepted = refl

-- leading zeros count for nothing; a comment hides digits; a sample may be the maximum
zeros : read_of false (80 ∷ 53 ∷ 32 ∷ 35 ∷ 57 ∷ 13 ∷ 48 ∷ 48 ∷ 48 ∷ 50 ∷ 32 ∷ 49 ∷ 32 ∷ 48 ∷ 49 ∷ 10 ∷ 1 ∷ 0 ∷ []) ≡ read 2 1 1 16
unfolding read_of header_in number_in gap digits first_above
zeros = refl

-- CR LF between the numbers; behind the maximum CR alone, so LF is the pixel
lines : read_of false (80 ∷ 53 ∷ 13 ∷ 10 ∷ 49 ∷ 13 ∷ 10 ∷ 49 ∷ 13 ∷ 10 ∷ 50 ∷ 53 ∷ 53 ∷ 13 ∷ 10 ∷ []) ≡ read 1 1 255 14
unfolding read_of header_in number_in gap digits first_above
lines = refl

-- `#` straight after the magic
no-magic : read_of false (80 ∷ 53 ∷ 35 ∷ 10 ∷ 49 ∷ 32 ∷ 49 ∷ 32 ∷ 49 ∷ 10 ∷ 0 ∷ []) ≡ refused NoMagic
unfolding read_of header_in number_in gap digits first_above
no-magic = refl

-- no whitespace after the magic
bare-magic : read_of false (80 ∷ 53 ∷ []) ≡ refused NoMagic
unfolding read_of header_in number_in gap digits first_above
bare-magic = refl

-- `#` straight after a number
after-number : read_of false (80 ∷ 53 ∷ 32 ∷ 49 ∷ 35 ∷ 32 ∷ 49 ∷ 32 ∷ 49 ∷ 10 ∷ 0 ∷ []) ≡ refused BadHeader
unfolding read_of header_in number_in gap digits first_above
after-number = refl

-- a comment that never ends
endless : read_of false (80 ∷ 53 ∷ 32 ∷ 49 ∷ 32 ∷ 35 ∷ 49 ∷ 32 ∷ 49 ∷ []) ≡ refused BadHeader
unfolding read_of header_in number_in gap digits first_above
endless = refl

-- the file ends with the digits of the maximum
unfollowed : read_of false (80 ∷ 53 ∷ 32 ∷ 49 ∷ 32 ∷ 49 ∷ 32 ∷ 50 ∷ 53 ∷ 53 ∷ []) ≡ refused BadHeader
unfolding read_of header_in number_in gap digits first_above
unfollowed = refl

-- no maximum is 256, and no width 4097: the first is told
maximum-first : read_of false (80 ∷ 53 ∷ 32 ∷ 52 ∷ 48 ∷ 57 ∷ 55 ∷ 32 ∷ 49 ∷ 32 ∷ 50 ∷ 53 ∷ 54 ∷ 10 ∷ 0 ∷ []) ≡ refused BadHeader
unfolding read_of header_in number_in gap digits first_above
maximum-first = refl

-- no maximum is 0
no-maximum : read_of false (80 ∷ 53 ∷ 32 ∷ 49 ∷ 32 ∷ 49 ∷ 32 ∷ 48 ∷ 10 ∷ 0 ∷ []) ≡ refused BadHeader
unfolding read_of header_in number_in gap digits first_above
no-maximum = refl

-- a width of 4097
wide : read_of false (80 ∷ 53 ∷ 32 ∷ 52 ∷ 48 ∷ 57 ∷ 55 ∷ 32 ∷ 49 ∷ 32 ∷ 49 ∷ 10 ∷ 0 ∷ []) ≡ refused BadGraymapSize
unfolding read_of header_in number_in gap digits first_above
wide = refl

-- a height of 2^64 + 1
wrapped : read_of false (80 ∷ 53 ∷ 32 ∷ 49 ∷ 32 ∷ 49 ∷ 56 ∷ 52 ∷ 52 ∷ 54 ∷ 55 ∷ 52 ∷ 52 ∷ 48 ∷ 55 ∷ 51 ∷ 55 ∷ 48 ∷ 57 ∷ 53 ∷ 53 ∷ 49 ∷ 54 ∷ 49 ∷ 55 ∷ 32 ∷ 49 ∷ 10 ∷ 0 ∷ []) ≡ refused BadGraymapSize
unfolding read_of header_in number_in gap digits first_above
wrapped = refl

-- a byte too few, and one above the maximum
short : read_of false (80 ∷ 53 ∷ 32 ∷ 50 ∷ 32 ∷ 49 ∷ 32 ∷ 49 ∷ 10 ∷ 2 ∷ []) ≡ refused TooShort
unfolding read_of header_in number_in gap digits first_above
short = refl

-- two samples above the maximum, and a byte too many
above : read_of false (80 ∷ 53 ∷ 32 ∷ 51 ∷ 32 ∷ 49 ∷ 32 ∷ 49 ∷ 10 ∷ 1 ∷ 2 ∷ 3 ∷ 0 ∷ []) ≡ above_at 1
unfolding read_of header_in number_in gap digits first_above
above = refl

-- a byte too many
over : read_of false (80 ∷ 53 ∷ 32 ∷ 49 ∷ 32 ∷ 49 ∷ 32 ∷ 49 ∷ 10 ∷ 1 ∷ 0 ∷ []) ≡ refused LeftOver
unfolding read_of header_in number_in gap digits first_above
over = refl

-- ---- deep files
-- no maximum of theirs is 255
deep-255 : read_of true (80 ∷ 53 ∷ 32 ∷ 49 ∷ 32 ∷ 49 ∷ 32 ∷ 50 ∷ 53 ∷ 53 ∷ 10 ∷ 0 ∷ 0 ∷ []) ≡ refused BadHeader
unfolding read_of header_in number_in gap digits first_above
deep-255 = refl

-- 256 is the least; a sample may be the maximum
deep-256 : read_of true (80 ∷ 53 ∷ 32 ∷ 49 ∷ 32 ∷ 49 ∷ 32 ∷ 50 ∷ 53 ∷ 54 ∷ 10 ∷ 1 ∷ 0 ∷ []) ≡ read 1 1 256 11
unfolding read_of header_in number_in gap digits first_above
deep-256 = refl

-- 4095 is the greatest
deep-4095 : read_of true (80 ∷ 53 ∷ 32 ∷ 49 ∷ 32 ∷ 49 ∷ 32 ∷ 52 ∷ 48 ∷ 57 ∷ 53 ∷ 10 ∷ 15 ∷ 255 ∷ []) ≡ read 1 1 4095 12
unfolding read_of header_in number_in gap digits first_above
deep-4095 = refl

-- no maximum is 4096
deep-4096 : read_of true (80 ∷ 53 ∷ 32 ∷ 49 ∷ 32 ∷ 49 ∷ 32 ∷ 52 ∷ 48 ∷ 57 ∷ 54 ∷ 10 ∷ 0 ∷ 0 ∷ []) ≡ refused BadHeader
unfolding read_of header_in number_in gap digits first_above
deep-4096 = refl

-- half a sample too few
deep-short : read_of true (80 ∷ 53 ∷ 32 ∷ 50 ∷ 32 ∷ 49 ∷ 32 ∷ 50 ∷ 53 ∷ 54 ∷ 10 ∷ 1 ∷ 0 ∷ 1 ∷ []) ≡ refused TooShort
unfolding read_of header_in number_in gap digits first_above
deep-short = refl

-- the second and the third sample are above the maximum, and there is a byte too many
deep-above : read_of true (80 ∷ 53 ∷ 32 ∷ 51 ∷ 32 ∷ 49 ∷ 32 ∷ 50 ∷ 53 ∷ 54 ∷ 10 ∷ 1 ∷ 0 ∷ 1 ∷ 1 ∷ 2 ∷ 0 ∷ 0 ∷ []) ≡ above_at 1
unfolding read_of header_in number_in gap digits first_above
deep-above = refl

-- half a sample too many
deep-over : read_of true (80 ∷ 53 ∷ 32 ∷ 49 ∷ 32 ∷ 49 ∷ 32 ∷ 50 ∷ 53 ∷ 54 ∷ 10 ∷ 1 ∷ 0 ∷ 7 ∷ []) ≡ refused LeftOver
unfolding read_of header_in number_in gap digits first_above
deep-over = refl

-- the high byte is the first
high-first : (let file = 80 ∷ 53 ∷ 32 ∷ 50 ∷ 32 ∷ 49 ∷ 32 ∷ 52 ∷ 48 ∷ 57 ∷ 53 ∷ 10 ∷ 1 ∷ 2 ∷ 3 ∷ 4 ∷ [] in out_after file (7 ∷ 9 ∷ []) (room_for 2 (read_of true file))) ≡ 258 ∷ 772 ∷ []
unfolding read_of header_in number_in gap digits first_above tabulated
high-first = refl

-- a buffer that is one too long
long-buffer : room_for 2 (read_of true (80 ∷ 53 ∷ 32 ∷ 49 ∷ 32 ∷ 49 ∷ 32 ∷ 50 ∷ 53 ∷ 54 ∷ 10 ∷ 1 ∷ 0 ∷ [])) ≡ refused BadBuffer
unfolding read_of header_in number_in gap digits first_above
long-buffer = refl

-- and it is left as it was
long-buffer-kept : (let file = 80 ∷ 53 ∷ 32 ∷ 49 ∷ 32 ∷ 49 ∷ 32 ∷ 50 ∷ 53 ∷ 54 ∷ 10 ∷ 1 ∷ 0 ∷ [] in out_after file (7 ∷ 9 ∷ []) (room_for 2 (read_of true file))) ≡ 7 ∷ 9 ∷ []
unfolding read_of header_in number_in gap digits first_above
long-buffer-kept = refl

-- a buffer that is too short, and a byte too many: the byte is told
over_first : room_for 0 (read_of true (80 ∷ 53 ∷ 32 ∷ 49 ∷ 32 ∷ 49 ∷ 32 ∷ 50 ∷ 53 ∷ 54 ∷ 10 ∷ 1 ∷ 0 ∷ 7 ∷ [])) ≡ refused LeftOver
unfolding read_of header_in number_in gap digits first_above
over_first = refl
