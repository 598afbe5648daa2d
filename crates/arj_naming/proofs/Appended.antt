-- What is put behind all others stands last.
use Rattle.std.proofs.Common.{◌≡◌, ◌∙◌, List, [], ◌∷◌, ◌++◌, refl, ap, sym, subst}
use Rattle.std.proofs.lemmas.List.{append_assoc, map-append}
use Rattle.std.specs.BTreeMap.{insert_entry}
use Rattle.std.specs.BTreeSet.{insert_key}
use Rattle.std.specs.Cmp.{IsTotalOrder}
use Rattle.std.specs.List.{AllByRecursion}
use Rattle.std.specs.List.Sorted.{IsStrictlySortedBy}
use Rattle.std.specs.Map.{keys_of}
use Rattle.std.specs.Ordering.{match_ordering}
use Rattle.std.specs.declared.cmp.Ordering.{Ordering}
use Rattle.std.specs.declared.cmp.Ordering.TheVariants.{Less, Greater}

module _ {K : Type 0} (cmp : K → K → Ordering) (total : IsTotalOrder cmp) where
  later : (a b : K) → cmp a b ≡ Less → cmp b a ≡ Greater
  later a b is = total.antisymm b a ∙ rw is refl

  last_of_all : (a k : K) (ks rest : List K) → AllByRecursion (λ y. cmp a y ≡ Less) (ks ++ k ∷ rest) → cmp a k ≡ Less
  last_of_all a k [] rest all = all.0
  last_of_all a k (x ∷ xs) rest all = last_of_all a k xs rest all.1

  -- a key that stands behind these in order is put behind them
  pub key_last : (ks : List K) (k : K) (rest : List K) → IsStrictlySortedBy cmp (ks ++ k ∷ rest) → insert_key cmp ks k ≡ ks ++ k ∷ []
  unfolding IsStrictlySortedBy
  key_last [] k rest sorted = refl
  key_last (x ∷ xs) k rest sorted =
      let greater : cmp k x ≡ Greater = later x k (last_of_all x k xs rest sorted.0) in
      ap (λ o. match_ordering o (k ∷ x ∷ xs) (x ∷ xs) (x ∷ insert_key cmp xs k)) greater ∙ ap (λ ys. x ∷ ys) (key_last xs k rest sorted.1)

  -- and so an entry
  pub entry_last : {X : Type 0} (es : List (K × X)) (k : K) (v : X) (rest : List K) → IsStrictlySortedBy cmp (keys_of es ++ k ∷ rest) →
      insert_entry cmp es k v ≡ es ++ (k, v) ∷ []
  unfolding IsStrictlySortedBy
  entry_last [] k v rest sorted = refl
  entry_last (e ∷ es) k v rest sorted =
      let greater : cmp k e.0 ≡ Greater = later e.0 k (last_of_all e.0 k (keys_of es) rest sorted.0) in
      ap (λ o. match_ordering o ((k, v) ∷ e ∷ es) ((e.0, v) ∷ es) (e ∷ insert_entry cmp es k v)) greater ∙ ap (λ ys. e ∷ ys) (entry_last es k v rest sorted.1)

  -- the first of what is left is put behind what is there
  pub entry_goes : {X : Type 0} (es : List (K × X)) (k : K) (v : X) (left rest whole : List (K × X)) → es ++ left ≡ whole →
      left ≡ (k, v) ∷ rest → IsStrictlySortedBy cmp (keys_of whole) → insert_entry cmp es k v ++ rest ≡ whole
  entry_goes {X} es k v left rest whole are is sorted =
      let shape : es ++ (k, v) ∷ rest ≡ whole = ap (λ l. es ++ l) (sym is) ∙ are in
      let all : IsStrictlySortedBy cmp (keys_of es ++ k ∷ keys_of rest) =
      subst (IsStrictlySortedBy cmp) (map-append (λ (e : K × X). e.0) es ((k, v) ∷ rest)) (subst (λ w. IsStrictlySortedBy cmp (keys_of w)) (sym shape) sorted) in
      ap (λ l. l ++ rest) (entry_last es k v (keys_of rest) all) ∙ (append_assoc es ((k, v) ∷ []) rest ∙ shape)

  pub key_goes : (ks : List K) (k : K) (left rest whole : List K) → ks ++ left ≡ whole → left ≡ k ∷ rest → IsStrictlySortedBy cmp whole →
      insert_key cmp ks k ++ rest ≡ whole
  key_goes ks k left rest whole are is sorted =
      let shape : ks ++ k ∷ rest ≡ whole = ap (λ l. ks ++ l) (sym is) ∙ are in
      ap (λ l. l ++ rest) (key_last ks k rest (subst (IsStrictlySortedBy cmp) (sym shape) sorted)) ∙ (append_assoc ks (k ∷ []) rest ∙ shape)
