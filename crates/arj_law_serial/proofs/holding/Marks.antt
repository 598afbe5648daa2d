-- Places of a journal: what stands between two of them, and the first lines up to one.
use Rattle.arj_law_parts.proofs.Words
use Words.{◌≡◌, ◌≤◌, ◌<◌, ◌∙◌, ◌==◌, ◌++◌, ◌&&◌, ℕ, zero, suc, List, [], ◌∷◌, Bool, true, false, Some, length, take, slice_get, refl, sym}
use Words.{ap, subst, arith, append_assoc, length-append, list_all, and_parts, Body, Line, numbered}
use Rattle.arj_law_serial.proofs.Terms.{up_of, up_step}
use Rattle.arj_law_serial.proofs.holding.Lines.{Since, since_last, since_less, start_before, ups_on}

-- no line from the one place on, before the other, passes
abbrev pub NoneBetween : (Body → Bool) → List Line → ℕ → ℕ → Type 0
NoneBetween test lines a b = (j : ℕ) (l : Line) → a ≤ j → j < b → slice_get lines j ≡ Some l → test l.body ≡ false

got_front : (ls ms : List Line) (j : ℕ) (l : Line) → j < length ls → slice_get (ls ++ ms) j ≡ Some l → slice_get ls j ≡ Some l
got_front [] ms j l less is = absurd (omega (arith, less))
got_front (x ∷ ls) ms zero l less is = is
got_front (x ∷ ls) ms (suc j) l less is = got_front ls ms j l (omega (arith, less)) is

pub got_behind : (ls ms : List Line) (j : ℕ) (l : Line) → length ls ≤ j → slice_get (ls ++ ms) j ≡ Some l →
    (i : ℕ) × (slice_get ms i ≡ Some l)
got_behind [] ms j l le is = (j, is)
got_behind (x ∷ ls) ms zero l le is = absurd (omega (arith, le))
got_behind (x ∷ ls) ms (suc j) l le is = got_behind ls ms j l (omega (arith, le)) is

pub none_more : (test : Body → Bool) (ls ms : List Line) (a b : ℕ) → b ≤ length ls → NoneBetween test ls a b →
    NoneBetween test (ls ++ ms) a b
none_more test ls ms a b le none j l from to is = none j l from to (got_front ls ms j l (omega (arith, le, to)) is)

pub longer : (ls ms : List Line) (n : ℕ) → n ≤ length ls → n ≤ length (ls ++ ms)
longer ls ms n le = let q = length-append ls ms in omega (arith, le, q)

-- ---- the first lines

pub take_front : (ls ms : List Line) (p : ℕ) → p ≤ length ls → take p (ls ++ ms) ≡ take p ls
take_front [] ms zero le = nothing ms
  where
    nothing : (ms : List Line) → take 0 ms ≡ []
    nothing [] = refl
    nothing (m ∷ ms) = refl
take_front [] ms (suc p) le = absurd (omega (arith, le))
take_front (l ∷ ls) ms zero le = refl
take_front (l ∷ ls) ms (suc p) le = ap (λ xs. l ∷ xs) (take_front ls ms p (omega (arith, le)))

pub take_all : (ls : List Line) → take (length ls) ls ≡ ls
take_all [] = refl
take_all (l ∷ ls) = ap (λ xs. l ∷ xs) (take_all ls)

taken_numbered : (e : ℕ) (bs : List Body) (j : ℕ) → take j (numbered e bs) ≡ numbered e (take j bs)
taken_numbered e [] zero = refl
taken_numbered e [] (suc j) = refl
taken_numbered e (b ∷ bs) zero = refl
taken_numbered e (b ∷ bs) (suc j) = ap (λ xs. record { event = e; body = b } ∷ xs) (taken_numbered e bs j)

-- up to a place among new lines
pub take_behind : (ls : List Line) (e : ℕ) (bs : List Body) (p : ℕ) → length ls ≤ p →
    (j : ℕ) × (take p (ls ++ numbered e bs) ≡ ls ++ numbered e (take j bs))
take_behind [] e bs p le = (p, taken_numbered e bs p)
take_behind (l ∷ ls) e bs zero le = absurd (omega (arith, le))
take_behind (l ∷ ls) e bs (suc p) le = let r = take_behind ls e bs p (omega (arith, le)) in (r.0, ap (λ xs. l ∷ xs) r.1)

pub all_taken : (test : Body → Bool) (j : ℕ) (bs : List Body) → list_all test bs ≡ true → list_all test (take j bs) ≡ true
all_taken test zero [] all = refl
all_taken test (suc j) [] all = refl
all_taken test zero (b ∷ bs) all = refl
all_taken test (suc j) (b ∷ bs) all = let q = and_parts (test b) (list_all test bs) all in λ i. q.0 i && all_taken test j bs q.1 i

-- ---- lines of one event, in which no node starts

abbrev pub Guard : ℕ → ℕ → List Line → Type 0
Guard event first ls = Since event first ls × ((n : ℕ) → (event == up_of n ls) ≡ false)

pub guard_one : (event first e : ℕ) (b : Body) (ls : List Line) → first ≤ length ls → Guard event first (ls ++ numbered e (b ∷ [])) →
    (e ≡ event) × Guard event first ls
guard_one event first e b ls long g =
    let same : e ≡ event = since_last event first e b ls long g.0 in (
      same,
      (
        since_less event first ls (numbered e (b ∷ [])) g.0,
        (λ n. start_before n event (up_of n ls) b
            ((λ i. event == up_step n (sym same i) b (up_of n ls)) ∙ (λ i. event == sym (ups_on n 0 ls (numbered e (b ∷ []))) i) ∙ g.1 n)),
      ),
    )

pub guard_less : (event first e : ℕ) (bs : List Body) (ls : List Line) → first ≤ length ls → Guard event first (ls ++ numbered e bs) →
    Guard event first ls
guard_less event first e [] ls long g = subst (Guard event first) (nothing ls) g
  where
    nothing : (ls : List Line) → ls ++ [] ≡ ls
    nothing [] = refl
    nothing (l ∷ ls) = ap (λ xs. l ∷ xs) (nothing ls)
guard_less event first e (b ∷ bs) ls long g =
    let more = length-append ls (numbered e (b ∷ [])) in
    (guard_one event first e b ls long (guard_less event first e bs (ls ++ numbered e (b ∷ [])) (omega (arith, long, more))
    (subst (Guard event first) (sym (append_assoc ls (numbered e (b ∷ [])) (numbered e bs))) g))).1
