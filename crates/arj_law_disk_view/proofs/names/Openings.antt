-- A commit may begin in the machine.
use Rattle.arj_law_parts.proofs.Words
use Words.{◌≡◌, ℕ, ◌==◌, List, [], ◌∷◌, Bool, true, false, cond, Some, refl, sym, ◌∙◌, ap, map, Uid, Used, Coord, Root, used_of}
use Rattle.arj_law_disk_view.proofs.Terms.{some_is, test_is, used_at}

-- what is used of the object
pub used_is : (x : ℕ) (t : Uid) (r : Root) (c : Coord) (ys : List ℕ) (u : Used) → used_at x (map (used_of t r c) ys) ≡ Some u →
    used_of t r c x ≡ u
used_is x t r c [] u is = absurd (cc is)
used_is x t r c (y ∷ ys) u is = by (y == x) refl is (λ h. used_is x t r c ys u h)
  where
    by : (b : Bool) → (y == x) ≡ b → cond b (Some (used_of t r c y)) (used_at x (map (used_of t r c) ys)) ≡ Some u →
        (used_at x (map (used_of t r c) ys) ≡ Some u → used_of t r c x ≡ u) → used_of t r c x ≡ u
    by true e h ih = ap (used_of t r c) (sym (test_is y x e)) ∙ some_is refl h
    by false e h ih = ih h
