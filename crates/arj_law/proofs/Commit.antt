-- What the commit of a top adds to the calls that count.
use Rattle.arj_law.proofs.Terms
use Terms.{◌≡◌, ℕ, List, [], ◌∷◌, ◌++◌, Bool, true, false, ◌&&◌, ◌||◌, ◌==◌, refl, sym, ◌∙◌, list_all, eq-eqb, eqb-true, list_any-append}
use Terms.{Placed, has_end, is_among}
use Rattle.arj_law.proofs.Common.{never}

eq_turn : (m n : ℕ) → (m == n) ≡ (n == m)
eq_turn m n = by (m == n) refl (n == m) refl
  where
    by : (b : Bool) → (m == n) ≡ b → (d : Bool) → (n == m) ≡ d → b ≡ d
    by true e true g = refl
    by false e false g = refl
    by true e false g = never (n == m) (eq-eqb n m (sym (eqb-true m n e))) g
    by false e true g = never (m == n) (eq-eqb m n (sym (eqb-true n m g))) e

more_end : (ends : List (Placed ℕ)) (at top i : ℕ) →
    has_end (ends ++ (record { at = at; it = top }) ∷ []) i ≡ (has_end ends i || ((top == i) || false))
more_end ends at top i = list_any-append (λ e. e.it == i) ends ((record { at = at; it = top }) ∷ [])

-- an end that isn't on a chain leaves whether it survives
pub chain_stays : (ends : List (Placed ℕ)) (at top : ℕ) (is : List ℕ) → is_among is top ≡ false →
    list_all (has_end (ends ++ (record { at = at; it = top }) ∷ [])) is ≡ list_all (has_end ends) is
chain_stays ends at top [] e = refl
chain_stays ends at top (i ∷ is) e = by (chain_stays ends at top is) (i == top) refl e
  where
    ends_after : List (Placed ℕ)
    ends_after = ends ++ (record { at = at; it = top }) ∷ []

    plain : (b : Bool) → (b || (false || false)) ≡ b
    plain true = refl
    plain false = refl

    by : (is_among is top ≡ false → list_all (has_end ends_after) is ≡ list_all (has_end ends) is) → (b : Bool) → (i == top) ≡ b →
        (b || is_among is top) ≡ false
        → (has_end ends_after i && list_all (has_end ends_after) is) ≡ (has_end ends i && list_all (has_end ends) is)
    by ih true s g = never true refl g
    by ih false s g =
        let own : has_end ends_after i ≡ has_end ends i = more_end ends at top i ∙ (λ k. has_end ends i || ((eq_turn top i ∙ s) k || false))
        ∙ plain (has_end ends i) in
        (λ k. own k && ih g k)
