-- What stands in a list of copies by increasing objects is found under its object.
use Rattle.arj_law_parts.proofs.Words
use Words.{◌≡◌, ◌∙◌, ◌<◌, ℕ, false, true, cond, List, [], ◌∷◌, Some, arith, inl, inr, subst, AllByRecursion, is_eq, nat_cmp, In, in_from}
use Words.{Copy, at_number}
use Rattle.arj_law_lock_view.specs.facts.Given.{CopiesAreListed}
use Rattle.arj_law_runs.specs.calls.Worlds.{AreKeyed}

found_at : (x : ℕ) (c : Copy) (m : List (ℕ × Copy)) → AreKeyed m → In (x, c) m → at_number x m ≡ Some c
found_at x c [] keyed i = absurd i
found_at x c (e ∷ es) keyed (inl same) =
    subst (λ (z : ℕ × Copy). at_number z.0 (e ∷ es) ≡ Some z.1) same (λ i. cond (itself e.0 i) (Some e.1) (at_number e.0 es))
  where
    itself : (n : ℕ) → is_eq (nat_cmp n n) ≡ true
    itself n = grind arith
found_at x c (e ∷ es) keyed (inr i) =
    (λ j. cond (apart e.0 x (above e.0 es keyed.0 i) j) (Some e.1) (at_number x es)) ∙ found_at x c es keyed.1 i
  where
    apart : (a b : ℕ) → a < b → is_eq (nat_cmp b a) ≡ false
    apart a b less = grind (arith, less)

    above : (k : ℕ) (m : List (ℕ × Copy)) → AllByRecursion (λ (f : ℕ × Copy). k < f.0) m → In (x, c) m → k < x
    above k [] all none = absurd none
    above k (f ∷ fs) all (inl same) = subst (λ (z : ℕ × Copy). k < z.0) same all.0
    above k (f ∷ fs) all (inr j) = above k fs all.1 j

pub copies_listed : CopiesAreListed
copies_listed paths sent j n t knows live y o i = found_at y o t.server.objects (knows.keys t live) (in_from (y, o) t.server.objects i)
