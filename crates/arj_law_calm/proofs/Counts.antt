-- A journal counts no more tops than it has lines.
use Rattle.std.proofs.Common.{◌≡◌, ◌≤◌, ◌+◌, ◌==◌, ℕ, List, [], ◌∷◌, length, filter, Bool, true, false, cond, Option, Some, None}
use Rattle.std.proofs.Common.{refl, ◌∙◌, arith}
use Rattle.std.specs.List.{cons_option, filter_map, list_any}
use Rattle.arj_journal.specs.declared.body.Body.{Body}
use Rattle.arj_journal.specs.declared.body.Line.{Line}
use Rattle.arj_model.specs.Actions.{Act, acts_after, committed, put, read, recovered}
use Rattle.arj_model.specs.Calls.{Call, Top, committed_calls, committing_of, committings, kept, said, said_of, top_of, tops}
use Rattle.arj_model.specs.Last.{changers, count_tops, listed_after, same_list, serial_tops, writes_of}
use Rattle.arj_model.specs.Serial.{arrange, insert, lex, serial_calls, serial_key, serial_less, writes_on}

-- ---- lists

filtered_less : {A : Type 0} (p : A → Bool) (xs : List A) → length (filter p xs) ≤ length xs
filtered_less p [] = omega arith
filtered_less {A} p (x ∷ xs) = by (p x) (filtered_less p xs)
  where
    by : (b : Bool) → length (filter p xs) ≤ length xs → length (cond b (x ∷ filter p xs) (filter p xs)) ≤ length (x ∷ xs)
    by true ih = omega (arith, ih)
    by false ih = omega (arith, ih)

found_less : {A B : Type 0} (f : A → Option B) (xs : List A) → length (filter_map f xs) ≤ length xs
found_less f [] = omega arith
found_less {A} {B} f (x ∷ xs) = by (f x) (found_less f xs)
  where
    by : (o : Option B) → length (filter_map f xs) ≤ length xs → length (cons_option o (filter_map f xs)) ≤ length (x ∷ xs)
    by None ih = omega (arith, ih)
    by (Some b) ih = omega (arith, ih)

inserted : {A : Type 0} (less : A → A → Bool) (a : A) (xs : List A) → length (insert less a xs) ≡ length (a ∷ xs)
inserted less a [] = refl
inserted {A} less a (x ∷ xs) = by (less x a) (inserted less a xs)
  where
    by : (b : Bool) → length (insert less a xs) ≡ length (a ∷ xs) →
        length (cond b (x ∷ insert less a xs) (a ∷ x ∷ xs)) ≡ length (a ∷ x ∷ xs)
    by true ih = omega (arith, ih)
    by false ih = refl

arranged : {A : Type 0} (less : A → A → Bool) (xs : List A) → length (arrange less xs) ≡ length xs
arranged less [] = refl
arranged less (x ∷ xs) = inserted less x (arrange less xs) ∙ (let ih = arranged less xs in omega (arith, ih))

-- what is read has no more items than lines
read_less : {A : Type 0} (f : List Act → Body → Option A) (us : List Act) (n : ℕ) (ls : List Line) → length (read f us n ls) ≤ length ls
read_less f us n [] = omega arith
read_less {A} f us n (l ∷ ls) = by (f us l.body) (read_less f (acts_after us l.body) (n + 1) ls)
  where
    by : (o : Option A) → length (read f (acts_after us l.body) (n + 1) ls) ≤ length ls →
        length (put n o (read f (acts_after us l.body) (n + 1) ls)) ≤ length (l ∷ ls)
    by None ih = omega (arith, ih)
    by (Some a) ih = omega (arith, ih)

counted_less : (cs : List Call) → count_tops cs ≤ length cs
counted_less [] = omega arith
counted_less (c ∷ cs) = by (list_any (λ (d : Call). d.top == c.top) cs) (counted_less cs)
  where
    by : (b : Bool) → count_tops cs ≤ length cs → cond b (count_tops cs) (count_tops cs + 1) ≤ length (c ∷ cs)
    by true ih = omega (arith, ih)
    by false ih = omega (arith, ih)

-- ---- versions

pub version_less : (lines : List Line) (x : ℕ) → count_tops (writes_of lines x) ≤ length lines
version_less lines x =
    let a = counted_less (writes_of lines x) in
    let b = filtered_less (writes_on x) (serial_calls lines) in
    let c = arranged (serial_less (tops lines)) (committed_calls lines) in
    let d = found_less (kept (committed lines) (recovered lines)) (said lines) in
    let e = read_less said_of [] 0 lines in
    omega (arith, a, b, c, d, e)

changed_less : (lines : List Line) (x : ℕ) (stores : List ℕ) (ts : List Top) → length (changers lines x stores ts) ≤ length ts
changed_less lines x stores [] = omega arith
changed_less lines x stores (t ∷ ts) = by (same_list (listed_after lines x stores t) stores) (changed_less lines x stores ts)
    (changed_less lines x (listed_after lines x stores t) ts)
  where
    by : (b : Bool) → length (changers lines x stores ts) ≤ length ts →
        length (changers lines x (listed_after lines x stores t) ts) ≤ length ts →
        length (cond b (changers lines x stores ts) (t ∷ changers lines x (listed_after lines x stores t) ts)) ≤ length (t ∷ ts)
    by true same other = omega (arith, same)
    by false same other = omega (arith, other)

pub changes_less : (lines : List Line) (x : ℕ) (stores : List ℕ) → length (changers lines x stores (serial_tops lines)) ≤ length lines
changes_less lines x stores =
    let a = changed_less lines x stores (serial_tops lines) in
    let b = arranged (λ (t u : Top). lex (serial_key (tops lines) t.id) (serial_key (tops lines) u.id)) (tops lines) in
    let c = found_less (top_of (committed lines) (recovered lines)) (committings lines) in
    let d = read_less committing_of [] 0 lines in
    omega (arith, a, b, c, d)
