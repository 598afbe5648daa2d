-- Nodes that are formatted one after another.
use Rattle.std.proofs.Common.{◌≡◌, ℕ, zero, suc, ◌+◌, ◌-◌, ◌≤◌, ◌<◌, List, [], ◌∷◌, ◌++◌, length, map, refl, ap, sym, ◌∙◌, subst, Some}
use Rattle.std.proofs.Common.{arith}
use Rattle.std.specs.Prelude.{All, slice_get, slice_set}
use Rattle.std.proofs.lemmas.List.{length-append, length-map, length-set, map-append}
use Rattle.std.proofs.lemmas.Bool.{cases_lt}
use Rattle.std.proofs.Math.Logic.{⊎_elim}
use Rattle.arj_core.specs.declared.node.Core.{Ghosts}
use Rattle.arj_disk.specs.FileMap.{FileMap}
use Rattle.arj_journal.specs.declared.header.Header.{Header}
use Rattle.arj_protocol.specs.Step.{Node, first_node, numbers_to}
use Rattle.arj_world.specs.First.{Formatted}
use Rattle.arj_world.specs.Stands.{AreNodes}

-- what holds of all holds of one
pub all_at : {A : Type 0} (P : A → Type 0) (k : ℕ) (xs : List A) (a : A) → All P xs → slice_get xs k ≡ Some a → P a
all_at P k [] a all at = absurd (cc at)
all_at P zero (x ∷ xs) a all at = let same : x ≡ a = cc at in subst P same (all 0 a (omega arith))
all_at P (suc k) (x ∷ xs) a all at = all_at P k xs a (λ j d less. all (suc j) d (omega (arith, less))) at

pub length_numbers : (count : ℕ) → length (numbers_to count) ≡ count
length_numbers zero = refl
length_numbers (suc c) =
    let ih : length (numbers_to c) ≡ c = length_numbers c in omega (arith, ih, length-append (numbers_to c) (suc c ∷ []))

pub before : {A : Type 0} (k : ℕ) (xs : List A) (a b : A) → slice_get (xs ++ a ∷ []) k ≡ Some b → k < length xs → slice_get xs k ≡ Some b
before k [] a b at less = absurd (omega (arith, less))
before zero (x ∷ xs) a b at less = at
before (suc k) (x ∷ xs) a b at less = before k xs a b at (omega (arith, less))

pub newest : {A : Type 0} (k : ℕ) (xs : List A) (a b : A) → slice_get (xs ++ a ∷ []) k ≡ Some b → length xs ≤ k → (k ≡ length xs) × (a ≡ b)
newest zero [] a b at most = (refl, cc at)
newest (suc k) [] a b at most = absurd (cc at)
newest zero (x ∷ xs) a b at most = absurd (omega (arith, most))
newest (suc k) (x ∷ xs) a b at most = let n = newest k xs a b at (omega (arith, most)) in (ap suc n.0, n.1)

set_other : {A : Type 0} (i j : ℕ) (a : A) (items : List A) → (j ≡ i → ⊥) → slice_get (slice_set items i a) j ≡ slice_get items j
set_other i j a [] h = refl
set_other zero zero a (x ∷ xs) h = absurd (h refl)
set_other zero (suc j) a (x ∷ xs) h = refl
set_other (suc i) zero a (x ∷ xs) h = refl
set_other (suc i) (suc j) a (x ∷ xs) h = set_other i j a xs (λ e. h (ap suc e))

set_here : {A : Type 0} (i : ℕ) (a b c : A) (items : List A) → slice_get items i ≡ Some b → slice_get (slice_set items i a) i ≡ Some c →
    a ≡ c
set_here i a b c [] was at = absurd (cc was)
set_here zero a b c (x ∷ xs) was at = cc at
set_here (suc i) a b c (x ∷ xs) was at = set_here i a b c xs was at

pub within : {A : Type 0} (i : ℕ) (a : A) (items : List A) → slice_get items i ≡ Some a → i < length items
within i a [] at = absurd (cc at)
within zero a (x ∷ xs) at = omega arith
within (suc i) a (x ∷ xs) at = let less : i < length xs = within i a xs at in omega (arith, less)

-- a node that is made for each number stands at its place
pub numbered_at : (f : ℕ → Node) (count i : ℕ) (n : Node) → slice_get (map f (numbers_to count)) i ≡ Some n → n ≡ f (i + 1)
numbered_at f zero i n at = absurd (cc at)
numbered_at f (suc c) i n at =
    ⊎_elim (λ less. numbered_at f c i n (before i (map f (numbers_to c)) (f (suc c)) n split less))
    (λ more. let last = newest i (map f (numbers_to c)) (f (suc c)) n split more in
    sym last.1 ∙ ap f (omega (arith, last.0, length-map (numbers_to c) f, length_numbers c)))
    (cases_lt i (length (map f (numbers_to c))))
  where
    split : slice_get (map f (numbers_to c) ++ f (suc c) ∷ []) i ≡ Some n
    split = ap (λ ns. slice_get ns i) (sym (map-append f (numbers_to c) (suc c ∷ []))) ∙ at

-- so many nodes are formatted, and the disks of the others are as they were
pub record Formats {C D : Type 0} (core : Ghosts C) (file : D →
    FileMap) (header : Header) (first : List D) (cores : List C) (disks : List D) : Type 0 where
  pub reach : length cores ≤ length disks
  pub each : (i : ℕ) (c : C) (d : D) → slice_get cores i ≡ Some c → slice_get disks i ≡ Some d →
      core.stands header c (file d) (first_node header (i + 1))
  pub others : (i : ℕ) → length cores ≤ i → slice_get disks i ≡ slice_get first i

module _ {C D : Type 0} (core : Ghosts C) (file : D → FileMap) (header : Header) (first : List D) where
  pub formats_none : Formats core file header first [] first
  formats_none = record { reach = omega arith; each = λ i c d at_core at_disk. absurd (cc at_core); others = λ i more. refl }

  pub formats_next : (cores : List C) (disks new : List D) (c : C) (node : ℕ) → Formats core file header first cores disks →
      node ≡ length cores + 1 → Formatted core file header node c disks new
      → Formats core file header first (cores ++ c ∷ []) new
  formats_next cores disks new c node so is one = subst (λ ds. Formats core file header first (cores ++ c ∷ []) ds) (sym one.are) (record {
    reach = omega (arith, place, length-append cores (c ∷ []), length-set disks (node - 1) one.disk, within (node - 1) one.was disks one.there);
    each = each;
    others = λ i more. set_other (node - 1) i one.disk disks (λ e. omega (arith, place, e, more, length-append cores (c ∷ []))) ∙ so.others i (omega (arith, more, length-append cores (c ∷ [])));
  })
    where
      place : node - 1 ≡ length cores
      place = omega (arith, is)

      each : (i : ℕ) (x : C) (y : D) → slice_get (cores ++ c ∷ []) i ≡ Some x → slice_get (slice_set disks (node - 1) one.disk) i ≡ Some y →
          core.stands header x (file y) (first_node header (i + 1))
      each i x y at_core at_disk = ⊎_elim early late (cases_lt i (length cores))
        where
          early : i < length cores → core.stands header x (file y) (first_node header (i + 1))
          early less = so.each i x y (before i cores c x at_core less) (sym (set_other (node - 1) i one.disk disks (λ e. omega (arith, place, e, less))) ∙ at_disk)

          late : length cores ≤ i → core.stands header x (file y) (first_node header (i + 1))
          late most =
              let n = newest i cores c x at_core most in
              let same : i ≡ node - 1 = n.0 ∙ sym place in
              let disk : one.disk ≡ y =
              set_here (node - 1) one.disk one.was y disks one.there (ap (slice_get (slice_set disks (node - 1) one.disk)) (sym same) ∙ at_disk) in
              let number : node ≡ i + 1 = omega (arith, is, n.0) in
              subst (λ m. core.stands header x (file y) (first_node header m)) number (subst (λ z. core.stands header x (file z) (first_node header node)) disk (subst (λ z. core.stands header z (file one.disk) (first_node header node)) n.1 one.stands))

  -- a disk that isn't formatted yet is empty, where all were
  pub empty_next : (P : D → Type 0) (cores : List C) (disks : List D) (k : ℕ) (d : D) → Formats core file header first cores disks →
      length cores ≤ k → All P first → slice_get disks k ≡ Some d → P d
  empty_next P cores disks k d so more all at = all_at P k first d all (sym (so.others k more) ∙ at)

  -- all are formatted
  pub formats_all : (cores : List C) (disks : List D) → Formats core file header first cores disks → length cores ≡ header.nodes →
      AreNodes core file header cores disks (map (first_node header) (numbers_to header.nodes))
  formats_all cores disks so all = record {
    cores_count = all;
    nodes_count = length-map (numbers_to header.nodes) (first_node header) ∙ length_numbers header.nodes;
    disks_count = omega (arith, so.reach, all);
    numbers = λ i n at_node. ap (λ (m : Node). m.number) (numbered_at (first_node header) header.nodes i n at_node);
    each = λ i c d n at_core at_disk at_node. subst (λ m. core.stands header c (file d) m) (sym (numbered_at (first_node header) header.nodes i n at_node)) (so.each i c d at_core at_disk);
  }
