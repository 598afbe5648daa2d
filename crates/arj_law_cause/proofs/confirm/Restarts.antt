-- Where a root has entered an entry, and no line says since it first did that naming's node is up again, the node is in the incarnation in
-- which it did.
use Rattle.arj_law_parts.proofs.Words
use Words.{◌≡◌, ◌⊎◌, ◌≤◌, ◌∙◌, ◌+◌, ◌-◌, ◌==◌, ◌&&◌, ◌||◌, ◌++◌, ℕ, Bool, true, false, if◌then◌else◌, List, [], ◌∷◌, take, Option, Some}
use Words.{None}
use Words.{refl, sym, ap, subst, inl, inr, arith, nat_tests, and_parts, eqb-true, find, list_any, AllByRecursion, In, Body, Line, Start}
use Words.body
use Rattle.std.specs.Prelude.{drop}
use Rattle.std.proofs.lemmas.List.{drop-drop, take-append-drop}
use Rattle.arj_model.specs.Actions.{Act, Placed, acts_after, put, read}
use Rattle.arj_model.specs.CauseCommits.{has_restarted}
use Rattle.arj_model.specs.CauseCopies.{Entering, entering_of, enterings, has_entered_in, is_up}
use Rattle.arj_model.specs.CauseSpans.{holds_in}
use Rattle.arj_model.specs.Refusals.{inc_from, inc_step, incarnation, is_root}
use Rattle.arj_law_cause.proofs.rows.Holders.{one_passes}

-- ---- lines without a restart

inc_append : (j i : ℕ) (ls ms : List Line) → inc_from j i (ls ++ ms) ≡ inc_from j (inc_from j i ls) ms
inc_append j i [] ms = refl
inc_append j i (l ∷ ls) ms = inc_append j (inc_step j l.body i) ls ms

no_up : (b : Body) (i : ℕ) → is_up 1 b ≡ false → inc_step 1 b i ≡ i
no_up (body.Up n k) i off = λ j. if off j then k else i
no_up b i off = refl

calm : (ls : List Line) (i : ℕ) → list_any (λ (l : Line). is_up 1 l.body) ls ≡ false → inc_from 1 i ls ≡ i
calm [] i off = refl
calm (l ∷ ls) i off = by (is_up 1 l.body) refl off (calm ls (inc_step 1 l.body i))
  where
    by : (b : Bool) → is_up 1 l.body ≡ b → (b || list_any (λ (m : Line). is_up 1 m.body) ls) ≡ false →
        (list_any (λ (m : Line). is_up 1 m.body) ls ≡ false → inc_from 1 (inc_step 1 l.body i) ls ≡ inc_step 1 l.body i) →
        inc_from 1 (inc_step 1 l.body i) ls ≡ i
    by true e is ih = absurd (cc is)
    by false e is ih = ih is ∙ no_up l.body i e

-- ---- the first place

-- places that lie at this number or behind it
abbrev AreFrom : ℕ → List (Placed Entering) → Type 0
AreFrom n xs = AllByRecursion (λ (e : Placed Entering). n ≤ e.at) xs

from_later : (m n : ℕ) → m ≤ n → (xs : List (Placed Entering)) → AreFrom n xs → AreFrom m xs
from_later m n le [] all = tt
from_later m n le (x ∷ xs) all = (far x.at all.0, from_later m n le xs all.1)
  where
    far : (k : ℕ) → n ≤ k → m ≤ k
    far k low = omega (arith, le, low)

read_from : (us : List Act) (n : ℕ) (ls : List Line) → AreFrom n (read entering_of us n ls)
read_from us n [] = tt
read_from us n (l ∷ ls) = by (entering_of us l.body) (from_later n (n + 1) (omega arith) (read entering_of (acts_after us l.body) (n + 1) ls)
    (read_from (acts_after us l.body) (n + 1) ls))
  where
    by : (o : Option Entering) → AreFrom n (read entering_of (acts_after us l.body) (n + 1) ls) →
        AreFrom n (put n o (read entering_of (acts_after us l.body) (n + 1) ls))
    by None all = all
    by (Some e) all = (omega arith, all)

-- the first one that passes is no later than any other
first_low : (p : Placed Entering → Bool) (us : List Act) (n : ℕ) (ls : List Line) (e : Placed Entering) →
    In e (read entering_of us n ls) → p e ≡ true →
    (f : Placed Entering) × (find p (read entering_of us n ls) ≡ Some f) × (f.at ≤ e.at)
first_low p us n [] e i passes = absurd i
first_low p us n (l ∷ ls) e i passes = by (λ j. first_low p (acts_after us l.body) (n + 1) ls e j passes) (entering_of us l.body) i
  where
    Finds : Type 0
    Finds = In e (read entering_of (acts_after us l.body) (n + 1) ls) →
        (f : Placed Entering) × (find p (read entering_of (acts_after us l.body) (n + 1) ls) ≡ Some f) × (f.at ≤ e.at)

    rest : List (Placed Entering)
    rest = read entering_of (acts_after us l.body) (n + 1) ls

    all_at : (xs : List (Placed Entering)) (m : ℕ) → AreFrom m xs → In e xs → m ≤ e.at
    all_at [] m all j = absurd j
    all_at (x ∷ xs) m all (inl same) = subst (λ (z : Placed Entering). m ≤ z.at) same all.0
    all_at (x ∷ xs) m all (inr j) = all_at xs m all.1 j

    here : Finds → (g : Placed Entering) → n ≡ g.at → (b : Bool) → p g ≡ b → (g ≡ e) ⊎ In e (read entering_of (acts_after us l.body) (n + 1) ls) →
        (f : Placed Entering) × ((if b then Some g else find p (read entering_of (acts_after us l.body) (n + 1) ls)) ≡ Some f) × (f.at ≤ e.at)
    here ih g at true is (inl same) = (g, refl, low g.at e.at (ap (λ (z : Placed Entering). z.at) same))
      where
        low : (a c : ℕ) → a ≡ c → a ≤ c
        low a c eq = omega (arith, eq)
    here ih g at true is (inr j) = (g, refl, low n g.at e.at at (all_at rest (n + 1) (read_from (acts_after us l.body) (n + 1) ls) j))
      where
        low : (a b c : ℕ) → a ≡ b → a + 1 ≤ c → b ≤ c
        low a b c eq le = omega (arith, eq, le)
    here ih g at false is (inl same) = let no_way : false ≡ true = sym is ∙ ap p same ∙ passes in absurd (cc no_way)
    here ih g at false is (inr j) = ih j

    by : Finds → (o : Option Entering) → In e (put n o (read entering_of (acts_after us l.body) (n + 1) ls)) →
        (f : Placed Entering) × (find p (put n o (read entering_of (acts_after us l.body) (n + 1) ls)) ≡ Some f) × (f.at ≤ e.at)
    by ih None j = ih j
    by ih (Some g) j = here ih (record { at = n; it = g }) refl (p (record { at = n; it = g })) refl j

-- ---- the row

any_behind : (f : Line → Bool) (k : ℕ) (xs : List Line) → list_any f (drop k xs) ≡ true → list_any f xs ≡ true
any_behind f Words.zero xs is = is
any_behind f (Words.suc k) [] is = is
any_behind f (Words.suc k) (x ∷ xs) is = or_last (f x) (any_behind f k xs is)
  where
    or_last : (a : Bool) {b : Bool} → b ≡ true → (a || b) ≡ true
    or_last true h = refl
    or_last false h = h

pub same_life : (st : Start) (lines : List Line) (x : ℕ) (root : Option ℕ) (i : ℕ) → has_entered_in st lines x root i ≡ true →
    has_restarted lines x root ≡ false → incarnation st lines 1 ≡ i
same_life st lines x root i entered off =
    ap (λ ls. incarnation st ls 1) (sym (take-append-drop e.at lines)) ∙ inc_append 1 (st.incs 1 + 1) (take e.at lines) (drop e.at lines)
    ∙ calm (drop e.at lines) (incarnation st (take e.at lines) 1) (still (list_any (λ (l : Line). is_up 1 l.body) (drop e.at lines)) refl)
    ∙ eqb-true (incarnation st (take e.at lines) 1) i parts.1
  where
    found : (e : Placed Entering) × In e (enterings lines) × (((e.it.x == x) && (is_root e.it.root root
        && (incarnation st (take e.at lines) 1 == i))) ≡ true)
    found = one_passes (λ e. (e.it.x == x) && (is_root e.it.root root && (incarnation st (take e.at lines) 1 == i))) (enterings lines)
        entered

    e : Placed Entering
    e = found.0

    object : ((let y = e.it in y.x) == x) ≡ true
    object = (and_parts ((let y = e.it in y.x) == x)
        (is_root (let y = e.it in y.root) root && (incarnation st (take e.at lines) 1 == i)) found.2).0

    parts : (is_root (let y = e.it in y.root) root ≡ true) × ((incarnation st (take e.at lines) 1 == i) ≡ true)
    parts = and_parts (is_root (let y = e.it in y.root) root) (incarnation st (take e.at lines) 1 == i)
        (and_parts ((let y = e.it in y.x) == x)
        (is_root (let y = e.it in y.root) root && (incarnation st (take e.at lines) 1 == i)) found.2).1

    first : (f : Placed Entering) × (find (λ z. (z.it.x == x) && is_root z.it.root root) (enterings lines) ≡ Some f) × (f.at ≤ e.at)
    first = first_low (λ z. (z.it.x == x) && is_root z.it.root root) [] 0 lines e found.1 (λ j. object j && parts.0 j)

    since : list_any (λ (l : Line). is_up 1 l.body) (drop (let f = first.0 in f.at) lines) ≡ false
    since = ap (holds_in (λ (z : Placed Entering). list_any (λ (l : Line). is_up 1 l.body) (drop z.at lines))) (sym first.1) ∙ off

    sum : (a b : ℕ) → a ≤ b → b ≡ a + (b - a)
    sum a b le = omega (arith, le)

    still : (b : Bool) → list_any (λ (l : Line). is_up 1 l.body) (drop e.at lines) ≡ b → b ≡ false
    still false is = refl
    still true is =
        let f = let z = first.0 in z.at in
        let no_way : true ≡ false = sym (any_behind (λ (l : Line). is_up 1 l.body) (e.at - f) (drop f lines)
        (ap (list_any (λ (l : Line). is_up 1 l.body)) (drop-drop (e.at - f) f lines ∙ ap (λ k. drop k lines) (sym (sum f e.at first.2))) ∙ is))
        ∙ since in absurd (cc no_way)
