-- One number more of a list that is written from the front; at the end all of it is.
use Rattle.std.proofs.Common.{◌≡◌, refl, ap, ◌∙◌, ℕ, List, ◌+◌, ◌<◌, length, slice_set}
use Rattle.shapes.specs.Lists.{overwritten, tabulated}
use Rattle.shapes.proofs.ListLaws.{overwritten-none, overwritten-more, overwritten-whole}

pub none_yet : {A : Type 0} (f : ℕ → A) (l : List A) → l ≡ overwritten 0 f l
none_yet f l = overwritten-none f l

pub one_more : {A : Type 0} (n : ℕ) (f : ℕ → A) (l : List A) (x : A) → n < length l → x ≡ f n → slice_set (overwritten n f l) n x ≡ overwritten (n + 1) f l
one_more n f l x h e = overwritten-more n f l h x e

pub all_written : {A : Type 0} (n : ℕ) (f : ℕ → A) (l : List A) → n ≡ length l → overwritten n f l ≡ tabulated (length l) f
all_written n f l e = ap (λ (k : ℕ). overwritten k f l) e ∙ overwritten-whole (length l) f l refl
