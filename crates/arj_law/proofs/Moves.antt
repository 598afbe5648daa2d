-- Calls that don't conflict may change places, and so a whole sort leaves all answers as they are.
use Rattle.arj_law.proofs.Terms
use Terms.{◌≡◌, ℕ, List, [], ◌∷◌, Bool, true, false, cond, ◌&&◌, ◌||◌, ◌==◌, ⊎_elim, refl, sym, ◌∙◌, ap, subst, AllByRecursion, eq-eqb}
use Terms.{eqb-true, and_cases, answer_of, value_after, writes, Get, Add, answer_text, Call, Values, Answers, after, insert, arrange}
use Terms.{is_conflict}
use Rattle.arj_class.specs.{declared.op.Op.Op, declared.value.Value.Value}
use Rattle.arj_class.specs.declared.op.Op.TheVariants.{Set, Put, Deposit, Withdraw, Len, Push, Pop, GetKey, PutPair, Remove, Create, Destroy}
use Rattle.arj_law.proofs.Common.{never, turned, Pairwise}
use Rattle.std.proofs.lemmas.Bool.{or_parts}

-- an operation that only reads leaves the value
read_stays : (op : Op) (v : Value) → writes op ≡ false → value_after op v ≡ v
read_stays Get v e = refl
read_stays (Add n) v e = never true refl e
read_stays (Set n) v e = never true refl e
read_stays (Put bytes) v e = never true refl e
read_stays (Deposit n) v e = never true refl e
read_stays (Withdraw n) v e = never true refl e
read_stays Len v e = refl
read_stays (Push n) v e = never true refl e
read_stays Pop v e = never true refl e
read_stays (GetKey k) v e = refl
read_stays (PutPair k w) v e = never true refl e
read_stays (Remove k) v e = never true refl e
read_stays (Create w) v e = never true refl e
read_stays Destroy v e = never true refl e

-- a call leaves the values of other objects
pub other_stays : (values : Values) (c : Call) (y : ℕ) → (y == c.x) ≡ false → after values c y ≡ values y
other_stays values c y e = (λ i. cond (e i) (value_after c.op (values c.x)) (values y))

-- a call that reads leaves all values
pub all_stay : (values : Values) (c : Call) → writes c.op ≡ false → after values c ≡ values
all_stay values c e = λ i y. by y (y == c.x) refl i
  where
    by : (y : ℕ) (b : Bool) → (y == c.x) ≡ b → cond b (value_after c.op (values c.x)) (values y) ≡ values y
    by y true same = read_stays c.op (values c.x) e ∙ ap values (sym (eqb-true y c.x same))
    by y false same = refl

-- two calls that don't conflict are of different objects, or both read
data Apart (c d : Call) : Type 0 where
  Objects : (c.x == d.x) ≡ false → Apart c d
  Reads : writes c.op ≡ false → writes d.op ≡ false → Apart c d

apart : (c d : Call) → is_conflict c d ≡ false → Apart c d
apart c d e = ⊎_elim (λ other. Objects other) (λ reads. let p = or_parts (writes c.op) (writes d.op) reads in
    Reads p.0 p.1) (and_cases (c.x == d.x) (writes c.op || writes d.op) e)

-- the second finds what it would find without the first
finds : (values : Values) (c d : Call) → Apart c d → after values c d.x ≡ values d.x
finds values c d (Objects e) = other_stays values c d.x (turned c.x d.x e)
finds values c d (Reads e g) = ap (λ w. w d.x) (all_stay values c e)

-- and the first what it would find behind the second
finds_behind : (values : Values) (c d : Call) → Apart c d → after values d c.x ≡ values c.x
finds_behind values c d (Objects e) = other_stays values d c.x e
finds_behind values c d (Reads e g) = ap (λ w. w c.x) (all_stay values d g)

both_ways : (a b : Bool) (C D V : Value) → (a && b) ≡ false → cond b D (cond a C V) ≡ cond a C (cond b D V)
both_ways true true C D V e = never true refl e
both_ways true false C D V e = refl
both_ways false b C D V e = refl

not_both : (y m n : ℕ) → (m == n) ≡ false → ((y == m) && (y == n)) ≡ false
not_both y m n e = by (y == m) refl (y == n) refl
  where
    by : (a : Bool) → (y == m) ≡ a → (b : Bool) → (y == n) ≡ b → (a && b) ≡ false
    by true p true q = never (m == n) (eq-eqb m n (sym (eqb-true y m p) ∙ eqb-true y n q)) e
    by true p false q = refl
    by false p b q = refl

-- both leave the same values, whichever goes first
exchange : (values : Values) (c d : Call) → Apart c d → after (after values c) d ≡ after (after values d) c
exchange values c d (Objects e) = λ i y.
    (ap (λ v. cond (y == d.x) (value_after d.op v) (cond (y == c.x) (value_after c.op (values c.x)) (values y)))
    (finds values c d (Objects e))
    ∙ both_ways (y == c.x) (y == d.x) (value_after c.op (values c.x)) (value_after d.op (values d.x)) (values y) (not_both y c.x d.x e)
    ∙ ap (λ v. cond (y == c.x) (value_after c.op v) (cond (y == d.x) (value_after d.op (values d.x)) (values y)))
    (sym (finds_behind values c d (Objects e)))) i
exchange values c d (Reads e g) = ap (λ w. after w d) (all_stay values c e) ∙ all_stay values d g ∙ sym (all_stay values c e)
    ∙ ap (λ w. after w c) (sym (all_stay values d g))

-- what the sort may do with two calls
abbrev pub MayPass : (Call → Call → Bool) → Call → Call → Type 0
MayPass less c d = less d c ≡ true → is_conflict c d ≡ false

insert_answers : (values : Values) (less : Call → Call → Bool) (c : Call) (ds : List Call) → AllByRecursion (MayPass less c) ds →
    Answers values (c ∷ ds) → Answers values (insert less c ds)
insert_answers values less c [] h a = a
insert_answers values less c (d ∷ ds) h a = by (insert_answers (after values d) less c ds h.1) (less d c) refl
  where
    by : (Answers (after values d) (c ∷ ds) → Answers (after values d) (insert less c ds)) → (b : Bool) → less d c ≡ b →
        Answers values (cond b (d ∷ insert less c ds) (c ∷ d ∷ ds))
    by ih true e =
        let p = apart c d (h.0 e) in (
          subst (λ v. answer_text (answer_of d.op v) ≡ d.answer) (finds values c d p) a.1.0,
          ih (
            subst (λ v. answer_text (answer_of c.op v) ≡ c.answer) (sym (finds_behind values c d p)) a.0,
            subst (λ w. Answers w ds) (exchange values c d p) a.1.1,
          ),
        )
    by ih false e = a

-- what holds of the item and of each item of the list holds of each where it was inserted
pub all_insert : {A : Type 0} (P : A → Type 0) (less : A → A → Bool) (a : A) (xs : List A) → P a → AllByRecursion P xs →
    AllByRecursion P (insert less a xs)
all_insert P less a [] p ps = (p, ps)
all_insert {A} P less a (x ∷ xs) p ps = by (all_insert P less a xs p ps.1) (less x a)
  where
    by : AllByRecursion P (insert less a xs) → (b : Bool) → AllByRecursion P (cond b (x ∷ insert less a xs) (a ∷ x ∷ xs))
    by ih true = (ps.0, ih)
    by ih false = (p, ps)

pub all_arrange : {A : Type 0} (P : A → Type 0) (less : A → A → Bool) (xs : List A) → AllByRecursion P xs →
    AllByRecursion P (arrange less xs)
all_arrange P less [] ps = ps
all_arrange P less (x ∷ xs) ps = all_insert P less x (arrange less xs) ps.0 (all_arrange P less xs ps.1)

-- A sort by whatever test leaves all answers as they are, if no call passes one that it conflicts with.
pub arrange_answers : (values : Values) (less : Call → Call → Bool) (cs : List Call) → Pairwise (MayPass less) cs → Answers values cs →
    Answers values (arrange less cs)
arrange_answers values less [] p a = a
arrange_answers values less (c ∷ cs) p a =
    insert_answers values less c (arrange less cs) (all_arrange (MayPass less c) less cs p.0)
    (a.0, arrange_answers (after values c) less cs p.1 a.1)
