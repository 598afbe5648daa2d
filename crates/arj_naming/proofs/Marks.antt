-- Stores that are marked, one after another.
use Rattle.std.proofs.Common.{◌≡◌, ◌==◌, ℕ, Bool, true, false, cond, List, [], ◌∷◌, map, filter, refl}
use Rattle.arj_protocol.specs.Confirm.{marked, without_stores, with_stores}

pub exclude_more : (x : ℕ) (m : ℕ × ℕ) (ms : List (ℕ × ℕ)) (stores : List ℕ) →
    without_stores (marked x (m ∷ ms)) stores ≡ without_stores (marked x ms) (without_stores (marked x (m ∷ [])) stores)
exclude_more x m ms stores = by (m.0 == x)
  where
    by : (b : Bool) →
        without_stores (map (λ (k : ℕ × ℕ). k.1) (cond b (m ∷ filter (λ (k : ℕ × ℕ). k.0 == x) ms) (filter (λ (k : ℕ × ℕ). k.0 == x) ms))) stores
        ≡ without_stores (marked x ms) (without_stores (map (λ (k : ℕ × ℕ). k.1) (cond b (m ∷ []) [])) stores)
    by true = refl
    by false = refl

pub include_more : (x : ℕ) (m : ℕ × ℕ) (ms : List (ℕ × ℕ)) (stores : List ℕ) →
    with_stores (marked x (m ∷ ms)) stores ≡ with_stores (marked x ms) (with_stores (marked x (m ∷ [])) stores)
include_more x m ms stores = by (m.0 == x)
  where
    by : (b : Bool) →
        with_stores (map (λ (k : ℕ × ℕ). k.1) (cond b (m ∷ filter (λ (k : ℕ × ℕ). k.0 == x) ms) (filter (λ (k : ℕ × ℕ). k.0 == x) ms))) stores
        ≡ with_stores (marked x ms) (with_stores (map (λ (k : ℕ × ℕ). k.1) (cond b (m ∷ []) [])) stores)
    by true = refl
    by false = refl
