-- The store list that a top leaves.
use Rattle.arj_law_disk.proofs.Terms
use Terms.{◌≡◌, ◌⊎◌, ℕ, ◌+◌, List, [], ◌∷◌, Bool, true, false, cond, ◌==◌, ◌||◌, ◌&&◌, not, None, is_some, refl, sym, ◌∙◌, ap, inl, inr}
use Terms.{⊎_elim, filter, bytes_eq, Packed, Plan, Done, target, list_after, entry_after, decided_in, is_latest_in, has}
use Rattle.arj_law_disk.proofs.machine.Base.{bool_cases, test_is, test_same, never, or_cases, or_left, or_right}
use Rattle.std.proofs.{Common.◌++◌, Common.append-nil, lemmas.Slice.Eq.bytes_eq-Decides}

pub has_append : (s : ℕ) (l k : List ℕ) → has s (l ++ k) ≡ true → (has s l ≡ true) ⊎ (has s k ≡ true)
has_append s [] k h = inr h
has_append s (x ∷ l) k h = by (has_append s l k) (or_cases (x == s) (has s (l ++ k)) h)
  where
    by : (has s (l ++ k) ≡ true → (has s l ≡ true) ⊎ (has s k ≡ true)) → (x == s) ≡ true ⊎ (has s (l ++ k) ≡ true) →
        (((x == s) || has s l) ≡ true) ⊎ (has s k ≡ true)
    by ih (inl e) = inl (or_left (x == s) (has s l) e)
    by ih (inr r) = ⊎_elim (λ (e : has s l ≡ true). inl (or_right (x == s) (has s l) e)) (λ (e : has s k ≡ true). inr e) (ih r)

pub has_left : (s : ℕ) (l k : List ℕ) → has s l ≡ true → has s (l ++ k) ≡ true
has_left s [] k h = let n : false ≡ true = h in cc
has_left s (x ∷ l) k h = by (has_left s l k) (or_cases (x == s) (has s l) h)
  where
    by : (has s l ≡ true → has s (l ++ k) ≡ true) → (x == s) ≡ true ⊎ (has s l ≡ true) → ((x == s) || has s (l ++ k)) ≡ true
    by ih (inl e) = or_left (x == s) (has s (l ++ k)) e
    by ih (inr r) = or_right (x == s) (has s (l ++ k)) (ih r)

pub has_right : (s : ℕ) (l k : List ℕ) → has s k ≡ true → has s (l ++ k) ≡ true
has_right s [] k h = h
has_right s (x ∷ l) k h = or_right (x == s) (has s (l ++ k)) (has_right s l k h)

pub has_filter : (f : ℕ → Bool) (s : ℕ) (l : List ℕ) → has s (filter f l) ≡ true → (has s l ≡ true) × (f s ≡ true)
has_filter f s [] h = let n : false ≡ true = h in cc
has_filter f s (x ∷ l) h = by (has_filter f s l) (f x) refl h
  where
    by : (has s (filter f l) ≡ true → (has s l ≡ true) × (f s ≡ true)) → (b : Bool) → f x ≡ b →
        has s (cond b (x ∷ filter f l) (filter f l)) ≡ true → (((x == s) || has s l) ≡ true) × (f s ≡ true)
    by ih true e h = ⊎_elim
        (λ (t : (x == s) ≡ true). (or_left (x == s) (has s l) t, ap f (sym (test_is x s t)) ∙ e))
        (λ (t : has s (filter f l) ≡ true). let r = ih t in (or_right (x == s) (has s l) r.0, r.1))
        (or_cases (x == s) (has s (filter f l)) h)
    by ih false e h = let r = ih h in (or_right (x == s) (has s l) r.0, r.1)

pub has_filtered : (f : ℕ → Bool) (s : ℕ) (l : List ℕ) → has s l ≡ true → f s ≡ true → has s (filter f l) ≡ true
has_filtered f s [] h p = h
has_filtered f s (x ∷ l) h p = by (has_filtered f s l) (f x) refl (or_cases (x == s) (has s l) h)
  where
    by : (has s l ≡ true → f s ≡ true → has s (filter f l) ≡ true) → (b : Bool) → f x ≡ b → (x == s) ≡ true ⊎ (has s l ≡ true) →
        has s (cond b (x ∷ filter f l) (filter f l)) ≡ true
    by ih true e (inl t) = or_left (x == s) (has s (filter f l)) t
    by ih true e (inr r) = or_right (x == s) (has s (filter f l)) (ih r p)
    by ih false e (inl t) = absurd (never (ap f (test_is x s t) ∙ p) e)
    by ih false e (inr r) = ih r p

pub filter_all : (f : ℕ → Bool) (l : List ℕ) → ((s : ℕ) → has s l ≡ true → f s ≡ true) → filter f l ≡ l
filter_all f [] all = refl
filter_all f (x ∷ l) all =
    rw (all x (or_left (x == x) (has x l) (test_same x))) (ap (λ k. x ∷ k) (filter_all f l (λ s h. all s (or_right (x == s) (has s l) h))))

pub filter_none : (f : ℕ → Bool) (l : List ℕ) → ((s : ℕ) → has s l ≡ true → f s ≡ false) → filter f l ≡ []
filter_none f [] all = refl
filter_none f (x ∷ l) all =
    rw (all x (or_left (x == x) (has x l) (test_same x))) (filter_none f l (λ s h. all s (or_right (x == s) (has s l) h)))

-- a number of the list that passes, or none does
pub find_true : (f : ℕ → Bool) (l : List ℕ) → ((s : ℕ) × (has s l ≡ true) × (f s ≡ true)) ⊎ ((s : ℕ) → has s l ≡ true → f s ≡ false)
find_true f [] = inr (λ s h. let n : false ≡ true = h in cc)
find_true f (x ∷ l) = by (find_true f l) (f x) refl
  where
    by : ((s : ℕ) × (has s l ≡ true) × (f s ≡ true)) ⊎ ((s : ℕ) → has s l ≡ true → f s ≡ false) → (b : Bool) → f x ≡ b →
        ((s : ℕ) × (((x == s) || has s l) ≡ true) × (f s ≡ true)) ⊎ ((s : ℕ) → ((x == s) || has s l) ≡ true → f s ≡ false)
    by rest true e = inl (x, or_left (x == x) (has x l) (test_same x), e)
    by (inl found) false e = inl (found.0, or_right (x == found.0) (has found.0 l) found.1, found.2)
    by (inr none) false e = inr (λ s h.
        ⊎_elim (λ (t : (x == s) ≡ true). ap f (sym (test_is x s t)) ∙ e) (λ (t : has s l ≡ true). none s t) (or_cases (x == s) (has s l) h))

-- which stores stay
abbrev stays : Plan → (ℕ → Bool) → ℕ → Bool
stays p got s = not (target p s && not (got s))

stays_parts : (p : Plan) (got : ℕ → Bool) (s : ℕ) → stays p got s ≡ true → target p s ≡ true → got s ≡ true
stays_parts p got s h t = ⊎_elim (λ (g : got s ≡ true). g) (λ (g : got s ≡ false).
    let n : false ≡ true = sym (ap (λ b. not (b && not (got s))) t ∙ ap (λ b. not (not b)) g) ∙ h in cc) (bool_cases (got s))

stays_made : (p : Plan) (got : ℕ → Bool) (s : ℕ) → (target p s ≡ true → got s ≡ true) → stays p got s ≡ true
stays_made p got s h = ⊎_elim
    (λ (t : target p s ≡ true). ap (λ b. not (b && not (got s))) t ∙ ap (λ b. not (not b)) (h t))
    (λ (t : target p s ≡ false). ap (λ b. not (b && not (got s))) t)
    (bool_cases (target p s))

pub join_target : (p : Plan) (s : ℕ) → has s p.joins ≡ true → target p s ≡ true
join_target p s h = or_right (is_some p.writes && has s p.list) (has s p.joins) h

pub plain_target : (p : Plan) (s : ℕ) → p.writes ≡ None → target p s ≡ true → has s p.joins ≡ true
plain_target p s none t = rw none at t

pub list_from : (p : Plan) (got : ℕ → Bool) (l : List ℕ) (s : ℕ) → has s (list_after p got l) ≡ true →
    ((has s l ≡ true) × (target p s ≡ true → got s ≡ true)) ⊎ ((has s p.joins ≡ true) × (got s ≡ true))
list_from p got l s h = ⊎_elim
    (λ (e : has s (filter (stays p got) l) ≡ true). let r = has_filter (stays p got) s l e in inl (r.0, stays_parts p got s r.1))
    (λ (e : has s (filter got p.joins) ≡ true). inr (has_filter got s p.joins e))
    (has_append s (filter (stays p got) l) (filter got p.joins) h)

pub list_keeps : (p : Plan) (got : ℕ → Bool) (l : List ℕ) (s : ℕ) → has s l ≡ true → (target p s ≡ true → got s ≡ true) →
    has s (list_after p got l) ≡ true
list_keeps p got l s h g =
    has_left s (filter (stays p got) l) (filter got p.joins) (has_filtered (stays p got) s l h (stays_made p got s g))

pub list_joins : (p : Plan) (got : ℕ → Bool) (l : List ℕ) (s : ℕ) → has s p.joins ≡ true → got s ≡ true → has s (list_after p got l) ≡ true
list_joins p got l s h g = has_right s (filter (stays p got) l) (filter got p.joins) (has_filtered got s p.joins h g)

-- a target that hasn't prepared is taken out
pub list_lacks : (p : Plan) (got : ℕ → Bool) (l : List ℕ) (s : ℕ) → target p s ≡ true → got s ≡ false → has s (list_after p got l) ≡ false
list_lacks p got l s t g = ⊎_elim
    (λ (h : has s (list_after p got l) ≡ true). ⊎_elim
    (λ (x : (has s l ≡ true) × (target p s ≡ true → got s ≡ true)). absurd (never (x.1 t) g))
    (λ (x : (has s p.joins ≡ true) × (got s ≡ true)). absurd (never x.1 g))
    (list_from p got l s h))
    (λ (h : has s (list_after p got l) ≡ false). h)
    (bool_cases (has s (list_after p got l)))

pub list_same : (p : Plan) (got : ℕ → Bool) (l : List ℕ) → ((s : ℕ) → has s l ≡ true → target p s ≡ true → got s ≡ true) →
    ((s : ℕ) → has s p.joins ≡ true → got s ≡ false) → list_after p got l ≡ l
list_same p got l all none =
    ap (λ k. k ++ filter got p.joins) (filter_all (stays p got) l (λ s h. stays_made p got s (all s h)))
    ∙ (ap (λ k. l ++ k) (filter_none got p.joins none) ∙ append-nil l)

pub same_list : (l k : List ℕ) → bytes_eq l k ≡ true → l ≡ k
same_list l k = (bytes_eq-Decides l k).0

pub list_is : (l k : List ℕ) → l ≡ k → bytes_eq l k ≡ true
list_is l k = (bytes_eq-Decides l k).1

-- an entry whose list stays is the same entry
pub entry_same : (t : ℕ) (p : Plan) (got : ℕ → Bool) (e : Packed) → list_after p got e.content ≡ e.content → entry_after t p got e ≡ e
entry_same t p got e same = rw (list_is (list_after p got e.content) e.content same)

pub entry_content : (t : ℕ) (p : Plan) (got : ℕ → Bool) (e : Packed) → (entry_after t p got e).content ≡ list_after p got e.content
entry_content t p got e = by (bytes_eq (list_after p got e.content) e.content) refl
  where
    by : (b : Bool) → bytes_eq (list_after p got e.content) e.content ≡ b → (cond b e
        (record { version = e.version + 1; writer = t; content = list_after p got e.content })).content ≡ list_after p got e.content
    by true h = sym (same_list (list_after p got e.content) e.content h)
    by false h = refl

pub latest_decided : (ds : List Done) (t : ℕ) → is_latest_in ds t ≡ true → decided_in ds t ≡ true
latest_decided [] t h = h
latest_decided (d ∷ ds) t h = by (latest_decided ds t) d.counts h
  where
    by : (is_latest_in ds t ≡ true → decided_in ds t ≡ true) → (b : Bool) → cond b (d.top == t) (is_latest_in ds t) ≡ true →
        ((d.top == t) || decided_in ds t) ≡ true
    by ih true h = or_left (d.top == t) (decided_in ds t) h
    by ih false h = or_right (d.top == t) (decided_in ds t) (ih h)
