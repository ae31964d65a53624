-- The public call: the tests of docs/RULES.md in their order (`way_of`), what each way answers, and what it leaves in the lent answers. No refusal writes.
-- A board of rows by columns squares has an inner corner for each two neighbouring rows and columns; `places` holds the x and y predicted for each, by row.
use Rattle.std.specs.Prelude.{◌≡◌, Bool, ◌&&◌, not, cond, List, [], ◌∷◌, ◌++◌, ℕ, zero, suc, ◌+◌, ◌-◌, ◌*◌, ◌/◌, leb, eqb, length, get_or, Float, Result, Ok, Err}
use Rattle.std.specs.Float.Ieee.{le}
use Rattle.std.specs.Float.Ieee.Scale.{finite}
use Rattle.shapes.specs.Numbers.{plus_zero, entry}
use Rattle.shapes.specs.Tests.{every, some}
use Rattle.corners.specs.Corners.{whole, too_many}
use Rattle.refusals.specs.declared.Refusal.{Refusal}
use Rattle.refusals.specs.declared.Refusal.TheVariants.{BadBoard, BadPlaces, BadList}
use Rattle.refusals.specs.Numbers as Refusals
use Rattle.board.specs.declared.Nearest.{Nearest}
use Rattle.board.specs.declared.Untied.{Untied}
use Rattle.board.specs.declared.Untied.TheVariants.{NoCorner, UsedTwice, Refused}
use Rattle.board.specs.Nearest.{nearest_of}

-- the number of each case; 0 is done
abbrev pub number_of : Result Unit Untied → ℕ
number_of (Ok done) = 0
number_of (Err (NoCorner k)) = 33
number_of (Err (UsedTwice k)) = 34
number_of (Err (Refused r)) = Refusals.number_of r

-- ---- what can be used
abbrev pub inner_corners : ℕ → ℕ → ℕ
inner_corners rows columns = (rows - 1) * (columns - 1)

abbrev pub is_board : ℕ → ℕ → Bool
is_board rows columns = leb 2 rows && leb rows 32 && leb 2 columns && leb columns 32

-- -0.0 is a limit too
abbrev pub is_limit : Float → Bool
is_limit limit = finite limit && le plus_zero limit

abbrev pub all_finite : List Float → Bool
all_finite places = every (length places) (λ i. finite (entry places i))

-- ---- place by place
pub data Way : Type 0 where
  refused : Refusal → Way
  -- no corner lies within the limit of this place
  unmet : ℕ → Way
  -- the nearest corner of this place is that of an earlier one
  shared : ℕ → Way
  -- the corner of each place
  tied : List ℕ → Way

-- the nearest corner to place k
unfoldable pub nearest_at : List Float → List Float → ℕ → Nearest
unfolding nearest_of
nearest_at places list k = nearest_of list (entry places (2 * k)) (entry places (2 * k + 1)) (length list / 3)

abbrev pub is_among : ℕ → List ℕ → Bool
is_among j known = some (length known) (λ i. eqb (get_or known i 0) j)

-- `known` are the corners of the places before, and `left` places are left
unfoldable pub tie_from : List Float → Float → List Float → ℕ → List ℕ → Way
unfolding nearest_at some
tie_from places limit list zero known = tied known
tie_from places limit list (suc left) known =
    let k = length known in
    let near = nearest_at places list k in
    cond (not (le near.distance limit)) (unmet k)
    (cond (is_among near.corner known) (shared k)
    (tie_from places limit list left (known ++ (near.corner ∷ []))))

-- room is how many answers are lent
unfoldable pub way_of : ℕ → ℕ → List Float → Float → List Float → ℕ → Way
unfolding every tie_from
way_of rows columns places limit list room =
    let inner = inner_corners rows columns in
    cond (not (is_board rows columns)) (refused BadBoard)
    (cond (not (eqb (length places) (2 * inner))) (refused BadBoard)
    (cond (not (eqb room inner)) (refused BadBoard)
    (cond (not (is_limit limit)) (refused BadPlaces)
    (cond (not (all_finite places)) (refused BadPlaces)
    (cond (not (whole (length list))) (refused BadList)
    (cond (too_many (length list)) (refused BadList)
    (tie_from places limit list inner [])))))))

-- ---- what each way answers and leaves
abbrev pub answer_of : Way → Result Unit Untied
answer_of (refused r) = Err (Refused r)
answer_of (unmet k) = Err (NoCorner k)
answer_of (shared k) = Err (UsedTwice k)
answer_of (tied l) = Ok tt

abbrev pub answers_after : List ℕ → Way → List ℕ
answers_after answers (refused r) = answers
answers_after answers (unmet k) = answers
answers_after answers (shared k) = answers
answers_after answers (tied l) = l

pub record Done (rows columns : ℕ) (places : List Float) (limit : Float) (list : List Float) (answers : List ℕ) (answer : Result Unit Untied) (answers' : List ℕ) : Type 0 where
  pub says : answer ≡ answer_of (way_of rows columns places limit list (length answers))
  pub leaves : answers' ≡ answers_after answers (way_of rows columns places limit list (length answers))
