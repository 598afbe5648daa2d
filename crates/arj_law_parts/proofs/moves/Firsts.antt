-- What a world rests on as a run begins.
use Rattle.arj_law_parts.proofs.Words
use Words.{Start, ◌≡◌, ◌∙◌, ◌⊎◌, ℕ, zero, suc, ◌+◌, true, List, [], ◌∷◌, ◌++◌, refl, sym, ap, subst, ⊎_elim, inl, inr, length, Some}
use Words.{is_some}
use Words.{length-append, arith, map, map-append, nat_lt, nat_le, ◌&&◌, slice_get, and_parts, nat_tests, Header, at_place, Node, node_by}
use Words.{numbers_to, world_from}
use Rattle.arj_law_parts.specs.moves.Keeps.{Stands}

-- an item behind a list
got_behind : {A : Type 0} (xs : List A) (y : A) (j : ℕ) (a : A) → slice_get (xs ++ y ∷ []) j ≡ Some a →
    (slice_get xs j ≡ Some a) ⊎ ((j ≡ length xs) × (y ≡ a))
got_behind [] y zero a h = inr (refl, cc h)
got_behind [] y (suc j) a h = absurd (cc h)
got_behind (x ∷ xs) y zero a h = inl h
got_behind (x ∷ xs) y (suc j) a h = ⊎_elim (λ old. inl old) (λ new. inr (ap suc new.0, new.1)) (got_behind xs y j a h)

there_below : {A : Type 0} (xs : List A) (j : ℕ) → nat_lt j (length xs) ≡ true → is_some (slice_get xs j) ≡ true
there_below [] j h = absurd (not_below j h)
  where
    not_below : (j : ℕ) → nat_lt j 0 ≡ true → ⊥
    not_below j h = grind (arith, nat_tests)
there_below (x ∷ xs) zero h = refl
there_below (x ∷ xs) (suc j) h = there_below xs j (less j (length xs) h)
  where
    less : (j n : ℕ) → nat_lt (suc j) (suc n) ≡ true → nat_lt j n ≡ true
    less j n h = grind (arith, nat_tests)

module _ (hd : Header) (st : Start) where
  abbrev Firsts : ℕ → List Node
  Firsts n = map (node_by hd st) (numbers_to n)

  snoc : (n : ℕ) → Firsts (suc n) ≡ Firsts n ++ node_by hd st (suc n) ∷ []
  snoc n = map-append (node_by hd st) (numbers_to n) (suc n ∷ [])

  long : (n : ℕ) → length (Firsts n) ≡ n
  long zero = refl
  long (suc n) =
      ap (λ (ns : List Node). length ns) (snoc n) ∙ length-append (Firsts n) (node_by hd st (suc n) ∷ []) ∙ (λ i. long n i + 1) ∙ next n
    where
      next : (n : ℕ) → n + 1 ≡ suc n
      next n = omega arith

  first_numbers : (n j : ℕ) (a : Node) → slice_get (Firsts n) j ≡ Some a → a.number ≡ suc j
  first_numbers zero j a h = absurd (cc h)
  first_numbers (suc n) j a h = ⊎_elim (λ old. first_numbers n j a old) (λ new. new_number new.0 new.1)
      (got_behind (Firsts n) (node_by hd st (suc n)) j a (sym (ap (λ ns. slice_get ns j) (snoc n)) ∙ h))
    where
      new_number : j ≡ length (Firsts n) → node_by hd st (suc n) ≡ a → a.number ≡ suc j
      new_number is same = sym (ap (λ (x : Node). x.number) same) ∙ sym (ap suc (is ∙ long n))

  pub first_stands : Stands hd [] (world_from hd st)
  first_stands = record {
    frames = tt;
    junk = tt;
    header = refl;
    numbers = λ k a h. numbers k a h;
    places = λ k h. places k h;
    labels = tt;
  }
    where
      numbers : (k : ℕ) (a : Node) → at_place k (Firsts hd.nodes) ≡ Some a → a.number ≡ k
      numbers zero a h = absurd (cc h)
      numbers (suc j) a h = first_numbers hd.nodes j a h

      places : (k : ℕ) → (nat_le 1 k && nat_le k hd.nodes) ≡ true → is_some (at_place k (Firsts hd.nodes)) ≡ true
      places zero h = absurd (cc h)
      places (suc j) h = there_below (Firsts hd.nodes) j (subst (λ n. nat_lt j n ≡ true) (sym (long hd.nodes))
          (below j hd.nodes (and_parts (nat_le 1 (suc j)) (nat_le (suc j) hd.nodes) h).1))
        where
          below : (j n : ℕ) → nat_le (suc j) n ≡ true → nat_lt j n ≡ true
          below j n h = grind (arith, nat_tests)
