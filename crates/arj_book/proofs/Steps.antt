-- One call more, by its key.
use Rattle.std.proofs.Common.{◌≡◌, ℕ, List, [], ◌∷◌, ◌++◌, Bool, true, ◌&&◌, map, filter, refl, sym, ◌∙◌, ap, Option}
use Rattle.std.specs.Prelude.{not}
use Rattle.std.specs.List.{list_all}
use Rattle.arj_book.specs.Kept.{are_past, commits_of, key_freed, keys_freed}
use Rattle.arj_replay.specs.Sorting.{last_of}

pub freed_step : (call : ℕ → Option (ℕ × Bool)) (before after : List (List ℕ)) (key : List ℕ) (rest : List (List ℕ)) (b : Bool) →
    b ≡ list_all (λ c. key_freed call c key) before → b ≡ true →
    after ≡ filter (λ c. not (are_past (commits_of c) [] (last_of key))) before ++ key ∷ [] →
    keys_freed call after rest ≡ keys_freed call before (key ∷ rest)
freed_step call before after key rest b test is left =
    ap (λ ks. keys_freed call ks rest) left
    ∙ (λ i. (sym is ∙ test) i && keys_freed call (filter (λ c. not (are_past (commits_of c) [] (last_of key))) before ++ key ∷ []) rest)

pub push_map : {A B : Type 0} (f : A → B) (xs : List A) (x : A) → map f (xs ++ x ∷ []) ≡ map f xs ++ f x ∷ []
push_map f [] x = refl
push_map f (y ∷ xs) x = ap (λ ys. f y ∷ ys) (push_map f xs x)
