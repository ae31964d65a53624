-- The number of each refusal; docs/RULES.md says when each is given.
use Rattle.std.specs.Prelude.{◌≡◌, ◌≢◌, ℕ, Result, MatchResult}
use Rattle.refusals.specs.declared.Refusal.{Refusal}
use Rattle.refusals.specs.declared.NoRefusal.{NoRefusal}
use Rattle.refusals.specs.declared.Refusal.TheVariants.{BadImage, BadRadius, BadLimit, BadRing, EmptyRoi, BadOut, TooMany, GridTooBig, BadScratch, BadLength, NoMagic, BadHeader, BadGraymapSize, TooShort, LeftOver, BadSample, BadBuffer, BadBoard, BadPlaces, BadList, NoSuchCorner}

abbrev pub number_of : Refusal → ℕ
number_of BadImage = 10
number_of BadRadius = 11
number_of BadLimit = 12
number_of BadRing = 13
number_of EmptyRoi = 14
number_of BadOut = 15
number_of TooMany = 16
number_of GridTooBig = 17
number_of BadScratch = 18
number_of BadLength = 19
number_of NoMagic = 20
number_of BadHeader = 21
number_of BadGraymapSize = 22
number_of TooShort = 23
number_of LeftOver = 25
number_of BadSample = 26
number_of BadBuffer = 27
number_of BadBoard = 30
number_of BadPlaces = 31
number_of BadList = 32
number_of NoSuchCorner = 35

-- a result is the refusal of this number, or an error that holds the number, which is then no refusal's
abbrev pub Names : ℕ → Result Refusal NoRefusal → Type 0
Names n r = MatchResult r (λ refusal. number_of refusal ≡ n) (λ e. (e.0 ≡ n) × ((refusal : Refusal) → number_of refusal ≢ n))
