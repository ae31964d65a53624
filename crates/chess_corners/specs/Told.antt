-- What is told of an answer: its number, 0 where it is done, and a count, which a refusal leaves as it was.
use Rattle.std.specs.Prelude.{◌≡◌, ℕ, Result, Ok, Err}
use Rattle.refusals.specs.declared.Refusal.{Refusal}
use Rattle.refusals.specs.Numbers as Refusals

abbrev pub number_of : {A : Type 0} → Result A Refusal → ℕ
number_of (Ok x) = 0
number_of (Err r) = Refusals.number_of r

abbrev pub count_after : ℕ → Result ℕ Refusal → ℕ
count_after old (Ok n) = n
count_after old (Err r) = old

pub record Counted (answer : Result ℕ Refusal) (count : ℕ) (number : ℕ) (count' : ℕ) : Type 0 where
  pub says : number ≡ number_of answer
  pub counts : count' ≡ count_after count answer
