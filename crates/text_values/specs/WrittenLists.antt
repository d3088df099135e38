-- Lists with commas between their items.
use Rattle.std.specs.Prelude.{ℕ, zero, suc, List, [], ◌∷◌, ◌++◌, codes}
use Rattle.std.specs.List.{join_by}

-- what stands before an item after so many others
abbrev pub separator : ℕ → List ℕ
separator zero = []
separator (suc n) = codes ", "

-- items in order, with a comma and a blank between them
abbrev pub listed : List (List ℕ) → List ℕ
listed items = join_by (λ (item : List ℕ). item) (codes ", ") items

-- the texts of pairs of items, one for one
abbrev pub paired : {A B : Type 0} → (A → B → List ℕ) → List A → List B → List (List ℕ)
paired text (x ∷ xs) (y ∷ ys) = text x y ∷ paired text xs ys
paired text _ _ = []

-- items in brackets
abbrev pub enclosed : List ℕ → List ℕ → List (List ℕ) → List ℕ
enclosed opening closing items = opening ++ listed items ++ closing

-- the same where there are items, else nothing
abbrev pub bracketed : List ℕ → List ℕ → List (List ℕ) → List ℕ
bracketed opening closing [] = []
bracketed opening closing (item ∷ items) = enclosed opening closing (item ∷ items)
