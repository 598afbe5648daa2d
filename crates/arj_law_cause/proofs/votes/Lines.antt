-- What each line of a journal is by those before it.
use Rattle.arj_law_parts.proofs.Words.{⊤, ◌++◌, ℕ, List, [], ◌∷◌, sym, subst, append-nil, append_assoc, AllByRecursion, numbered}
use Rattle.arj_law_parts.proofs.Words.{Body, Line}

module _ (Fit : List Line → Line → Type 0) where
  -- each of these lines is so, behind those before it
  abbrev pub AreSo : List Line → List Line → Type 0
  AreSo before [] = ⊤
  AreSo before (l ∷ ls) = Fit before l × AreSo (before ++ l ∷ []) ls

  pub so_both : (before xs ys : List Line) → AreSo before xs → AreSo (before ++ xs) ys → AreSo before (xs ++ ys)
  so_both before [] ys a b = subst (λ ls. AreSo ls ys) (append-nil before) b
  so_both before (x ∷ xs) ys a b =
      (a.0, so_both (before ++ x ∷ []) xs ys a.1 (subst (λ ls. AreSo ls ys) (sym (append_assoc before (x ∷ []) xs)) b))

  pub so_at : (before xs : List Line) (line : Line) (ys : List Line) → AreSo before (xs ++ line ∷ ys) → Fit (before ++ xs) line
  so_at before [] line ys a = subst (λ ls. Fit ls line) (sym (append-nil before)) a.0
  so_at before (x ∷ xs) line ys a =
      subst (λ ls. Fit ls line) (append_assoc before (x ∷ []) xs) (so_at (before ++ x ∷ []) xs line ys a.1)

  -- of these bodies each is so wherever it stands
  pub so_each : (before : List Line) (e : ℕ) (bs : List Body) →
      AllByRecursion (λ b. (ls : List Line) → Fit ls (record { event = e; body = b })) bs → AreSo before (numbered e bs)
  so_each before e [] all = tt
  so_each before e (b ∷ bs) all = (all.0 before, so_each (before ++ record { event = e; body = b } ∷ []) e bs all.1)

-- the same of what lines say, in whatever events
module _ (Fit : List Line → Body → Type 0) where
  abbrev pub AreFit : List Line → List Line → Type 0
  AreFit = AreSo (λ ls l. Fit ls l.body)

  pub fit_both : (before xs ys : List Line) → AreFit before xs → AreFit (before ++ xs) ys → AreFit before (xs ++ ys)
  fit_both = so_both (λ ls l. Fit ls l.body)

  pub fit_at : (before xs : List Line) (line : Line) (ys : List Line) → AreFit before (xs ++ line ∷ ys) → Fit (before ++ xs) line.body
  fit_at = so_at (λ ls l. Fit ls l.body)

  pub fit_each : (before : List Line) (e : ℕ) (bs : List Body) → AllByRecursion (λ b. (ls : List Line) → Fit ls b) bs →
      AreFit before (numbered e bs)
  fit_each = so_each (λ ls l. Fit ls l.body)
