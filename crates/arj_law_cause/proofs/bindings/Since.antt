-- Copies that became active in an incarnation of their node, by the journal.
use Rattle.arj_law_parts.proofs.Words
use Words.{◌≡◌, ◌⊎◌, ◌≤◌, ◌<◌, ◌∙◌, ◌+◌, ◌==◌, ◌++◌, ◌&&◌, ◌||◌, ℕ, Bool, true, false, List, [], ◌∷◌, length, take, Option, Some, None}
use Words.{refl, sym, ap, subst, inl, inr, arith, append_assoc, and_parts, eqb-true, list_any, nat_lt, nat_tests, AllByRecursion}
use Words.{Binding, Body, In, Line, Start}
use Words.{numbered}
use Words.body
use Rattle.arj_law.proofs.Reading.{read-append}
use Rattle.arj_law_runs.proofs.kept.Walked.{same_number}
use Rattle.arj_law_runs.specs.calls.Bindings.{HasFewBindings}
use Rattle.arj_model.specs.Actions.{Act, Placed, acts_after, acts_from, put, read}
use Rattle.arj_model.specs.CauseCopies.{Activation, activation_of, activations, had_both, is_at, is_under, same_binding, since_up}
use Rattle.arj_model.specs.CauseCopies.{was_active_in}
use Rattle.arj_model.specs.Refusals.{incarnation}
use Rattle.arj_law_cause.proofs.bindings.Lines.{IsActive, copies}
use Rattle.arj_law_cause.proofs.bindings.Named.{OfInc}
use Rattle.std.proofs.Math.Seq.{take-append_seam}

-- ---- lines

-- a copy of the object became active at the node under this binding, in this incarnation of the node
abbrev pub IsActiveIn : Start → List Line → ℕ → ℕ → Binding → ℕ → Type 0
IsActiveIn st ls n x b i = (before : List Line) × (e : ℕ) × (after : List Line)
    × (ls ≡ before ++ record { event = e; body = body.Active n x b } ∷ after) × (incarnation st before n ≡ i)

pub active_in_more : (st : Start) (ls ms : List Line) (n x : ℕ) (b : Binding) (i : ℕ) → IsActiveIn st ls n x b i →
    IsActiveIn st (ls ++ ms) n x b i
active_in_more st ls ms n x b i h = (
  h.0,
  h.1,
  h.2 ++ ms,
  (λ j. h.3 j ++ ms) ∙ append_assoc h.0 (record { event = h.1; body = body.Active n x b } ∷ h.2) ms,
  h.4,
)

-- so it did, where few bindings were made
abbrev pub met_in : Start → List Line → OfInc
met_in st ls x b s i = HasFewBindings ls → IsActiveIn st ls s x b i

pub active_in_last : (st : Start) (ls : List Line) (e n x : ℕ) (b : Binding) →
    IsActiveIn st (ls ++ numbered e (body.Active n x b ∷ [])) n x b (incarnation st ls n)
active_in_last st ls e n x b = (ls, e, [], refl, refl)

abbrev rest_of : List Line → List Line
rest_of [] = []
rest_of (l ∷ ls) = ls

abbrev first_or : Line → List Line → Line
first_or l [] = l
first_or l (m ∷ ls) = m

none_there : {P : Type 0} (before : List Line) (m : Line) (after : List Line) → [] ≡ before ++ m ∷ after → P
none_there [] m after is = let no_way : ◌≡◌ {A = List Line} [] (m ∷ after) = is in absurd (cc no_way)
none_there (b ∷ before) m after is = let no_way : ◌≡◌ {A = List Line} [] (b ∷ (before ++ m ∷ after)) = is in absurd (cc no_way)

-- what stands among these lines and one more stands among these, or is that one, behind them
pub one_of : (ls : List Line) (l : Line) (before : List Line) (m : Line) (after : List Line) → ls ++ l ∷ [] ≡ before ++ m ∷ after →
    ((ls ≡ before) × (l ≡ m)) ⊎ ((rest : List Line) × (ls ≡ before ++ m ∷ rest))
one_of [] l [] m after is = inl (refl, ap (first_or l) is)
one_of [] l (b ∷ before) m after is = none_there before m after (ap rest_of is)
one_of (a ∷ ls) l [] m after is = inr (ls, λ i. ap (first_or a) is i ∷ ls)
one_of (a ∷ ls) l (b ∷ before) m after is = by (one_of ls l before m after (ap rest_of is))
  where
    same : a ≡ b
    same = ap (first_or a) is

    by : ((ls ≡ before) × (l ≡ m)) ⊎ ((rest : List Line) × (ls ≡ before ++ m ∷ rest)) →
        (((a ∷ ls) ≡ (b ∷ before)) × (l ≡ m)) ⊎ ((rest : List Line) × ((a ∷ ls) ≡ (b ∷ before) ++ m ∷ rest))
    by (inl z) = inl ((λ i. same i ∷ z.0 i), z.1)
    by (inr z) = inr (z.0, λ i. same i ∷ z.1 i)

-- with one more line it was so before, or the line says so
pub active_in_parts : (st : Start) (ls : List Line) (e : ℕ) (c : Body) (n x : ℕ) (b : Binding) (i : ℕ) →
    IsActiveIn st (ls ++ numbered e (c ∷ [])) n x b i →
    IsActiveIn st ls n x b i ⊎ ((c ≡ body.Active n x b) × (incarnation st ls n ≡ i))
active_in_parts st ls e c n x b i h =
    by (one_of ls (record { event = e; body = c }) h.0 (record { event = h.1; body = body.Active n x b }) h.2 h.3)
  where
    by : ((ls ≡ h.0) × (◌≡◌ {A = Line} (record { event = e; body = c }) (record { event = h.1; body = body.Active n x b })))
        ⊎ ((rest : List Line) × (ls ≡ h.0 ++ record { event = h.1; body = body.Active n x b } ∷ rest)) →
        IsActiveIn st ls n x b i ⊎ ((c ≡ body.Active n x b) × (incarnation st ls n ≡ i))
    by (inl z) = inr (ap (λ (l : Line). l.body) z.1, (λ j. incarnation st (z.0 j) n) ∙ h.4)
    by (inr z) = inl (h.0, h.1, z.0, z.1, h.4)

-- in no lines did one
pub none_active : {P : Type 0} (st : Start) (n x : ℕ) (b : Binding) (i : ℕ) → IsActiveIn st [] n x b i → P
none_active st n x b i h = none_there h.0 (record { event = h.1; body = body.Active n x b }) h.2 h.3

in_behind : (before : List Line) (m : Line) (after : List Line) → In m (before ++ m ∷ after)
in_behind [] m after = inl refl
in_behind (b ∷ before) m after = inr (in_behind before m after)

-- so it became active there
pub active_of : (st : Start) (ls : List Line) (n x : ℕ) (b : Binding) (i : ℕ) → IsActiveIn st ls n x b i → IsActive ls n x b
active_of st ls n x b i h = (
  h.1,
  subst (In (record { event = h.1; body = body.Active n x b })) (sym h.3)
      (in_behind h.0 (record { event = h.1; body = body.Active n x b }) h.2),
)

-- ---- incarnations

-- no copy became active in an incarnation that its node hasn't come to; and none is 0
pub record AreLow (st : Start) (ls : List Line) : Type 0 where
  pub low : (n x : ℕ) (b : Binding) (i : ℕ) → IsActiveIn st ls n x b i → i ≤ incarnation st ls n
  pub some : (n : ℕ) → 1 ≤ incarnation st ls n

-- one more line by which no incarnation falls
pub low_more : (st : Start) (ls : List Line) (e : ℕ) (c : Body) →
    ((n : ℕ) → incarnation st ls n ≤ incarnation st (ls ++ numbered e (c ∷ [])) n) → AreLow st ls →
    AreLow st (ls ++ numbered e (c ∷ []))
low_more st ls e c rises g = record {
  low = λ n x b i h. by n x b i (active_in_parts st ls e c n x b i h);
  some = λ n. up_to 1 (incarnation st ls n) (incarnation st (ls ++ numbered e (c ∷ [])) n) (g.some n) (rises n);
}
  where
    up_to : (j k l : ℕ) → j ≤ k → k ≤ l → j ≤ l
    up_to j k l a b = omega (arith, a, b)

    by : (n x : ℕ) (b : Binding) (i : ℕ) → IsActiveIn st ls n x b i ⊎ ((c ≡ body.Active n x b) × (incarnation st ls n ≡ i)) →
        i ≤ incarnation st (ls ++ numbered e (c ∷ [])) n
    by n x b i (inl before) = up_to i (incarnation st ls n) (incarnation st (ls ++ numbered e (c ∷ [])) n) (g.low n x b i before) (rises n)
    by n x b i (inr new) = subst (λ j. j ≤ incarnation st (ls ++ numbered e (c ∷ [])) n) new.1 (rises n)

-- before there are any
pub low_first : (st : Start) → AreLow st []
low_first st = record { low = λ n x b i is. none_active st n x b i is; some = λ n. up (st.incs n) }
  where
    up : (n : ℕ) → 1 ≤ n + 1
    up n = omega arith

-- ---- the journal's words

any_behind : {A : Type 0} (f : A → Bool) (xs ys : List A) → list_any f ys ≡ true → list_any f (xs ++ ys) ≡ true
any_behind f [] ys is = is
any_behind f (x ∷ xs) ys is = or_last (f x) (any_behind f xs ys is)
  where
    or_last : (a : Bool) {b : Bool} → b ≡ true → (a || b) ≡ true
    or_last true is = refl
    or_last false is = is

-- the copy counts, in that incarnation
pub active_then : (st : Start) (ls : List Line) (n x : ℕ) (b : Binding) (i : ℕ) → IsActiveIn st ls n x b i →
    was_active_in st ls n x i ≡ true
active_then st ls n x b i h =
    subst (λ ms. list_any (test ls) (activations ms) ≡ true) (sym h.3)
    (ap (list_any (test ls)) (read-append activation_of [] 0 h.0 (line ∷ h.2))
    ∙ any_behind (test ls) (activations h.0) (read activation_of (acts_from [] h.0) (0 + length h.0) (line ∷ h.2))
    (λ j. (same_number n j && same_number x j) && there j
    || list_any (test ls) (read activation_of (acts_after (acts_from [] h.0) line.body) (0 + length h.0 + 1) h.2)))
  where
    line : Line
    line = record { event = h.1; body = body.Active n x b }

    test : List Line → Placed Activation → Bool
    test ms a = is_at n x a.it && (incarnation st (take a.at ms) n == i)

    from_none : (m : ℕ) → 0 + m ≡ m
    from_none m = omega arith

    there : (incarnation st (take (0 + length h.0) ls) n == i) ≡ true
    there = (λ j. incarnation st (take (0 + length h.0) (h.3 j)) n == i)
        ∙ ap (λ m. incarnation st (take m (h.0 ++ line ∷ h.2)) n == i) (from_none (length h.0))
        ∙ ap (λ ms. incarnation st ms n == i) (take-append_seam h.0 (line ∷ h.2)) ∙ (λ j. h.4 j == i) ∙ same_number i

-- what is read of these lines stands at a place of them
pub placed_low : (us : List Act) (n : ℕ) (ls : List Line) →
    AllByRecursion (λ (a : Placed Activation). a.at < n + length ls) (read activation_of us n ls)
placed_low us n [] = tt
placed_low us n (l ∷ ls) = by (activation_of us l.body) (up (read activation_of (acts_after us l.body) (n + 1) ls)
    (placed_low (acts_after us l.body) (n + 1) ls))
  where
    up : (cs : List (Placed Activation)) → AllByRecursion (λ (a : Placed Activation). a.at < n + 1 + length ls) cs →
        AllByRecursion (λ (a : Placed Activation). a.at < n + length (l ∷ ls)) cs
    up [] all = tt
    up (a ∷ cs) all = (more a.at all.0, up cs all.1)
      where
        more : (k : ℕ) → k < n + 1 + length ls → k < n + length (l ∷ ls)
        more k less = omega (arith, less)

    here : n < n + length (l ∷ ls)
    here = omega arith

    by : (o : Option Activation) →
        AllByRecursion (λ (a : Placed Activation). a.at < n + length (l ∷ ls)) (read activation_of (acts_after us l.body) (n + 1) ls) →
        AllByRecursion (λ (a : Placed Activation). a.at < n + length (l ∷ ls))
        (put n o (read activation_of (acts_after us l.body) (n + 1) ls))
    by None all = all
    by (Some a) all = (here, all)

-- ---- the copies of a node's present life

-- one of these is of the object at the node under this binding
abbrev pub IsAmong : ℕ → ℕ → Binding → List (Placed Activation) → Type 0
IsAmong n x b cs = (a : Placed Activation) × In a cs × (is_under n x b a ≡ true)

-- one of the object at the node is this one, or came before it
abbrev pub IsUpTo : ℕ → ℕ → Placed Activation → Placed Activation → Type 0
IsUpTo n x z a = is_at n x a.it ≡ true → (a.at < z.at) ⊎ (a ≡ z)

-- the last one of the object at the node is under this binding
abbrev pub IsLast : ℕ → ℕ → Binding → List (Placed Activation) → Type 0
IsLast n x b cs = (z : Placed Activation) × In z cs × (is_under n x b z ≡ true) × AllByRecursion (IsUpTo n x z) cs

pub in_front : {A : Type 0} (a : A) (xs ys : List A) → In a xs → In a (xs ++ ys)
in_front a [] ys i = absurd i
in_front a (x ∷ xs) ys (inl is) = inl is
in_front a (x ∷ xs) ys (inr i) = inr (in_front a xs ys i)

pub in_last : {A : Type 0} (a : A) (xs : List A) → In a (xs ++ a ∷ [])
in_last a [] = inl refl
in_last a (x ∷ xs) = inr (in_last a xs)

pub among_more : (n x : ℕ) (b : Binding) (cs : List (Placed Activation)) (a : Placed Activation) → IsAmong n x b cs →
    IsAmong n x b (cs ++ a ∷ [])
among_more n x b cs a h = (h.0, in_front h.0 cs (a ∷ []) h.1, h.2)

all_more : (P : Placed Activation → Type 0) (xs : List (Placed Activation)) (a : Placed Activation) → AllByRecursion P xs → P a →
    AllByRecursion P (xs ++ a ∷ [])
all_more P [] a all its = (its, tt)
all_more P (x ∷ xs) a all its = (all.0, all_more P xs a all.1 its)

-- it stays so behind one of another object, or of another node
pub last_more : (n x : ℕ) (b : Binding) (cs : List (Placed Activation)) (a : Placed Activation) → is_at n x a.it ≡ false →
    IsLast n x b cs → IsLast n x b (cs ++ a ∷ [])
last_more n x b cs a off h = (
  h.0,
  in_front h.0 cs (a ∷ []) h.1,
  h.2,
  all_more (IsUpTo n x h.0) cs a h.3 (λ is. let no_way : false ≡ true = sym off ∙ is in absurd (cc no_way)),
)

-- one that comes behind all these is the last
pub last_new : (n x : ℕ) (b : Binding) (cs : List (Placed Activation)) (a : Placed Activation) → is_under n x b a ≡ true →
    AllByRecursion (λ (c : Placed Activation). c.at < a.at) cs → IsLast n x b (cs ++ a ∷ [])
last_new n x b cs a under low = (a, in_last a cs, under, all_more (IsUpTo n x a) cs a (each cs low) (λ is. inr refl))
  where
    each : (xs : List (Placed Activation)) → AllByRecursion (λ (c : Placed Activation). c.at < a.at) xs → AllByRecursion (IsUpTo n x a) xs
    each [] all = tt
    each (c ∷ xs) all = ((λ is. inl all.0), each xs all.1)

-- the bindings are one
pub binding_is : (b c : Binding) → same_binding b c ≡ true → b ≡ c
binding_is b c is = let p = and_parts (b.inc == c.inc) (b.count == c.count) is in
    λ i. record { inc = eqb-true b.inc c.inc p.0 i; count = eqb-true b.count c.count p.1 i }

any_there : {A : Type 0} (f : A → Bool) (a : A) (xs : List A) → In a xs → f a ≡ true → list_any f xs ≡ true
any_there f a [] i is = absurd i
any_there f a (x ∷ xs) (inl same) is = λ i. (ap f same ∙ is) i || list_any f xs
any_there f a (x ∷ xs) (inr i) is = or_last (f x) (any_there f a xs i is)
  where
    or_last : (a : Bool) {b : Bool} → b ≡ true → (a || b) ≡ true
    or_last true is = refl
    or_last false is = is

found_in : (P : Placed Activation → Type 0) (a : Placed Activation) (xs : List (Placed Activation)) → In a xs → AllByRecursion P xs → P a
found_in P a [] i all = absurd i
found_in P a (x ∷ xs) (inl same) all = subst P same all.0
found_in P a (x ∷ xs) (inr i) all = found_in P a xs i all.1

-- under one binding a copy was active, and another one is the last
pub both_had : (n x : ℕ) (b c : Binding) (ls : List Line) → (b ≡ c → ⊥) → IsAmong n x b (copies n ls) → IsLast n x c (copies n ls) →
    had_both n x b c ls ≡ true
both_had n x b c ls other among last =
    any_there (λ a. is_under n x b a && list_any (λ z. is_under n x c z && nat_lt a.at z.at) (activations (since_up n ls)))
    among.0 (copies n ls) among.1 (λ i. among.2 i && later i)
  where
    here : (is_at n x (let a = among.0 in a.it) ≡ true) × (same_binding (let a = among.0 in (let v = a.it in v.binding)) b ≡ true)
    here = and_parts (is_at n x (let a = among.0 in a.it)) (same_binding (let a = among.0 in (let v = a.it in v.binding)) b) among.2

    there : (is_at n x (let a = last.0 in a.it) ≡ true) × (same_binding (let a = last.0 in (let v = a.it in v.binding)) c ≡ true)
    there = and_parts (is_at n x (let a = last.0 in a.it)) (same_binding (let a = last.0 in (let v = a.it in v.binding)) c) last.2

    less : (j k : ℕ) → j < k → nat_lt j k ≡ true
    less j k is = grind (arith, nat_tests, is)

    before : ((let a = among.0 in a.at) < (let z = last.0 in z.at)) ⊎ (among.0 ≡ last.0) →
        nat_lt (let a = among.0 in a.at) (let z = last.0 in z.at) ≡ true
    before (inl is) = less (let a = among.0 in a.at) (let z = last.0 in z.at) is
    before (inr same) = absurd (other (sym (binding_is (let a = among.0 in (let v = a.it in v.binding)) b here.1)
        ∙ ap (λ (a : Placed Activation). (let v = a.it in v.binding)) same
        ∙ binding_is (let a = last.0 in (let v = a.it in v.binding)) c there.1))

    later : list_any (λ z. is_under n x c z && nat_lt (let a = among.0 in a.at) z.at) (activations (since_up n ls)) ≡ true
    later = any_there (λ z. is_under n x c z && nat_lt (let a = among.0 in a.at) z.at) last.0 (copies n ls) last.1
        (λ i. last.2 i && before (found_in (IsUpTo n x last.0) among.0 (copies n ls) among.1 last.3 here.0) i)
