-- The lines in ASCII, each with its line feed: `NUMBER cut`, `NUMBER not finite` or `NUMBER outside`; `kept A dropped B`; `refused N`.
use Rattle.std.specs.Prelude.{cond, List, [], ◌∷◌, ◌++◌, ℕ, eqb}
use Rattle.std.specs.Fmt.{decimal}

-- " cut\n", " not finite\n" and " outside\n"
abbrev pub cut_text : List ℕ
cut_text = 32 ∷ 99 ∷ 117 ∷ 116 ∷ 10 ∷ []

abbrev pub not_finite_text : List ℕ
not_finite_text = 32 ∷ 110 ∷ 111 ∷ 116 ∷ 32 ∷ 102 ∷ 105 ∷ 110 ∷ 105 ∷ 116 ∷ 101 ∷ 10 ∷ []

abbrev pub outside_text : List ℕ
outside_text = 32 ∷ 111 ∷ 117 ∷ 116 ∷ 115 ∷ 105 ∷ 100 ∷ 101 ∷ 10 ∷ []

abbrev pub reason_of : ℕ → List ℕ
reason_of fault = cond (eqb fault 1) cut_text (cond (eqb fault 2) not_finite_text outside_text)

abbrev pub fault_line : ℕ → ℕ → List ℕ
fault_line number fault = decimal number ++ reason_of fault

-- "kept ", " dropped "
abbrev pub last_line : ℕ → ℕ → List ℕ
last_line kept dropped =
    (107 ∷ 101 ∷ 112 ∷ 116 ∷ 32 ∷ []) ++ decimal kept
    ++ (32 ∷ 100 ∷ 114 ∷ 111 ∷ 112 ∷ 112 ∷ 101 ∷ 100 ∷ 32 ∷ []) ++ decimal dropped
    ++ (10 ∷ [])

-- "refused "
abbrev pub refused_line : ℕ → List ℕ
refused_line n = (114 ∷ 101 ∷ 102 ∷ 117 ∷ 115 ∷ 101 ∷ 100 ∷ 32 ∷ []) ++ decimal n ++ (10 ∷ [])
