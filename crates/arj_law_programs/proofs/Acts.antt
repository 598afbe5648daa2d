-- The actions of programs, and their paths.
use Rattle.std.proofs.Common.{◌≡◌, ◌∙◌, ◌<◌, ◌⊎◌, inl, inr, ℕ, List, [], ◌∷◌, ◌++◌, length, refl, ap, sym, subst, arith, true, false}
use Rattle.std.proofs.Common.{Bool, Option, Some, None, cond}
use Rattle.std.specs.Prelude.{⊤}
use Rattle.std.specs.List.{AllByRecursion}
use Rattle.std.specs.Str.{bytes_eq}
use Rattle.std.proofs.lemmas.Slice.Eq.{bytes_eq-Decides}
use Rattle.arj_journal.specs.declared.body.Kind.{Kind}
use Rattle.arj_journal.specs.declared.body.Kind.TheVariants as kind
use Rattle.arj_start.specs.Kinds.{is_serial}
use Rattle.arj_model.specs.Actions.{Act, act_in, chain_in, path, top_in, upwards}
use Rattle.arj_law_programs.proofs.Labels.{IsOf, one_label}

-- ---- lists

-- the item stands in the list
abbrev pub In : {A : Type 0} → A → List A → Type 0
In a [] = ⊥
In a (x ∷ xs) = (x ≡ a) ⊎ In a xs

pub all_in : {A : Type 0} (P : A → Type 0) (xs : List A) → AllByRecursion P xs → (a : A) → In a xs → P a
all_in P (x ∷ xs) all a (inl is) = subst P is all.0
all_in P (x ∷ xs) all a (inr there) = all_in P xs all.1 a there
all_in P [] all a never = absurd never

pub all_map : {A : Type 0} (P Q : A → Type 0) → ((a : A) → P a → Q a) → (xs : List A) → AllByRecursion P xs → AllByRecursion Q xs
all_map P Q f [] all = tt
all_map P Q f (x ∷ xs) all = (f x all.0, all_map P Q f xs all.1)

pub all_append : {A : Type 0} (P : A → Type 0) (xs ys : List A) → AllByRecursion P xs → AllByRecursion P ys → AllByRecursion P (xs ++ ys)
all_append P [] ys a b = b
all_append P (x ∷ xs) ys a b = (a.0, all_append P xs ys a.1 b)

pub all_these : {A : Type 0} (P : A → Type 0) → ((a : A) → P a) → (xs : List A) → AllByRecursion P xs
all_these P f [] = tt
all_these P f (x ∷ xs) = (f x, all_these P f xs)

pub last_in : {A : Type 0} (xs : List A) (a : A) → In a (xs ++ a ∷ [])
last_in [] a = inl refl
last_in (x ∷ xs) a = inr (last_in xs a)

-- ---- numbers

-- each action's number is the count of those before it
abbrev pub AreNumbered : List Act → Type 0
AreNumbered [] = ⊤
AreNumbered (a ∷ older) = (a.id ≡ length older) × AreNumbered older

pub id_low : (us : List Act) → AreNumbered us → (a : Act) → In a us → a.id < length us
id_low (u ∷ us) n a (inl is) = let at : a.id ≡ length us = sym (ap (λ (x : Act). x.id) is) ∙ n.0 in omega (arith, at)
id_low (u ∷ us) n a (inr there) = let low = id_low us n.1 a there in omega (arith, low)
id_low [] n a never = absurd never

-- numbers tell actions apart
pub same_act : (us : List Act) → AreNumbered us → (a b : Act) → In a us → In b us → a.id ≡ b.id → a ≡ b
same_act (u ∷ us) n a b (inl is) (inl are) e = sym is ∙ are
same_act (u ∷ us) n a b (inl is) (inr there) e =
    let at : a.id ≡ length us = sym (ap (λ (x : Act). x.id) is) ∙ n.0 in
    let low = id_low us n.1 b there in absurd (omega (arith, low, at, e))
same_act (u ∷ us) n a b (inr there) (inl are) e =
    let at : b.id ≡ length us = sym (ap (λ (x : Act). x.id) are) ∙ n.0 in
    let low = id_low us n.1 a there in absurd (omega (arith, low, at, e))
same_act (u ∷ us) n a b (inr there) (inr here) e = same_act us n.1 a b there here e
same_act [] n a b never here e = absurd never

-- ---- actions of programs

-- an action is a top in no other one, or a nested one in one of the same program
abbrev pub IsInOwn : ℕ → Option (List ℕ) → Kind → Type 0
IsInOwn i None k = k ≡ kind.Top
IsInOwn i (Some p) k = IsOf i p × (k ≡ kind.Nested)

-- an action of a program
abbrev pub IsGood : Act → Type 0
IsGood a = (i : ℕ) × IsOf i a.label × IsInOwn i a.parent a.kind

pub not_serial : (a : Act) → IsGood a → is_serial a.kind ≡ false
not_serial a (i, of, own) = by a.parent a.kind own
  where
    by : (p : Option (List ℕ)) (k : Kind) → IsInOwn i p k → is_serial k ≡ false
    by None k is = ap is_serial is
    by (Some p) k is = ap is_serial is.1

-- of one kind or the other
pub top_or_nested : (a : Act) → IsGood a → ((a.kind ≡ kind.Top) × (a.parent ≡ None)) ⊎ (a.kind ≡ kind.Nested)
top_or_nested a (i, of, own) = by a.parent refl own
  where
    by : (p : Option (List ℕ)) → a.parent ≡ p → IsInOwn i p a.kind → ((a.kind ≡ kind.Top) × (a.parent ≡ None)) ⊎ (a.kind ≡ kind.Nested)
    by None e is = inl (is, e)
    by (Some p) e is = inr is.1

pub same_label : (l m : List ℕ) → bytes_eq l m ≡ true → l ≡ m
same_label l m e = (bytes_eq-Decides l m).0 e

pub label_itself : (l : List ℕ) → bytes_eq l l ≡ true
label_itself l = (bytes_eq-Decides l l).1 refl

-- what a path of a program's label has: actions of the program, which are there, and none serializing
pub record IsOwn (us : List Act) (i : ℕ) (a : Act) : Type 0 where
  pub there : In a us
  pub label : IsOf i a.label
  pub plain : is_serial a.kind ≡ false

-- and the actions below the first are nested
abbrev pub IsOwnBelow : List Act → ℕ → Act → Type 0
IsOwnBelow us i a = IsOwn us i a × (a.kind ≡ kind.Nested)

abbrev pub IsOwnPath : List Act → ℕ → List Act → Type 0
IsOwnPath us i [] = ⊤
IsOwnPath us i (a ∷ p) = IsOwn us i a × AllByRecursion (IsOwnBelow us i) p

it_more : (us : List Act) (u : Act) (i : ℕ) (a : Act) → IsOwn us i a → IsOwn (u ∷ us) i a
it_more us u i a o = record { there = inr o.there; label = o.label; plain = o.plain }

pub own_more : (us : List Act) (u : Act) (i : ℕ) (p : List Act) → IsOwnPath us i p → IsOwnPath (u ∷ us) i p
own_more us u i [] all = tt
own_more us u i (a ∷ p) all =
    (it_more us u i a all.0, all_map (IsOwnBelow us i) (IsOwnBelow (u ∷ us) i) (λ x o. (it_more us u i x o.0, o.1)) p all.1)

own_behind : (us : List Act) (i : ℕ) (p : List Act) (a : Act) → IsOwnPath us i p → IsOwnBelow us i a → IsOwnPath us i (p ++ a ∷ [])
own_behind us i [] a all one = (one.0, tt)
own_behind us i (x ∷ p) a all one = (all.0, all_append (IsOwnBelow us i) p (a ∷ []) all.1 (one, tt))

pub path_own : (us : List Act) → AllByRecursion IsGood us → (i : ℕ) (l : List ℕ) → IsOf i l → IsOwnPath us i (path us l)
path_own [] good i l of = tt
path_own (u ∷ us) good i l of = by (λ m. path_own us good.1 i m) (bytes_eq u.label l) refl
  where
    up : ((m : List ℕ) → IsOf i m → IsOwnPath us i (path us m)) → IsOwn (u ∷ us) i u →
        (j : ℕ) → j ≡ i → (p : Option (List ℕ)) (k : Kind) → u.kind ≡ k → IsInOwn j p k →
        IsOwnPath (u ∷ us) i (upwards p k (path us) ++ u ∷ [])
    up ih own j same None k are is = (own, tt)
    up ih own j same (Some p) k are is =
        subst (λ m. IsOwnPath (u ∷ us) i (upwards (Some p) m (path us) ++ u ∷ [])) (sym is.1)
        (own_behind (u ∷ us) i (path us p) u (own_more us u i (path us p) (ih p (subst (λ n. IsOf n p) same is.0))) (own, are ∙ is.1))

    by : ((m : List ℕ) → IsOf i m → IsOwnPath us i (path us m)) → (b : Bool) → bytes_eq u.label l ≡ b →
        IsOwnPath (u ∷ us) i (cond b (upwards u.parent u.kind (path us) ++ u ∷ []) (path us l))
    by ih true e =
        let g = good.0 in
        let same : g.0 ≡ i = one_label g.0 i u.label l (same_label u.label l e) g.1 of in
        up ih (record { there = inl refl; label = subst (λ n. IsOf n u.label) same g.1; plain = not_serial u g }) g.0 same u.parent u.kind
        refl g.2
    by ih false e = own_more us u i (path us l) (ih l of)

-- a label that has a path is one of a program
pub path_named : (us : List Act) → AllByRecursion IsGood us → (l : List ℕ) → (path us l ≡ []) ⊎ ((i : ℕ) × IsOf i l)
path_named [] good l = inl refl
path_named (u ∷ us) good l = by (path_named us good.1 l) (bytes_eq u.label l) refl
  where
    by : (path us l ≡ []) ⊎ ((i : ℕ) × IsOf i l) → (b : Bool) → bytes_eq u.label l ≡ b →
        (cond b (upwards u.parent u.kind (path us) ++ u ∷ []) (path us l) ≡ []) ⊎ ((i : ℕ) × IsOf i l)
    by ih true e = let g = good.0 in inr (g.0, subst (IsOf g.0) (same_label u.label l e) g.1)
    by ih false e = ih

-- ---- labels and paths

-- the last action of a path is the one with its label
pub act_of_path : (us : List Act) (l : List ℕ) (p : List Act) (a : Act) → path us l ≡ p ++ a ∷ [] → act_in us l ≡ Some a
act_of_path [] l p a e = absurd (nothing p e)
  where
    nothing : (p : List Act) → [] ≡ p ++ a ∷ [] → ⊥
    nothing [] e = cc
    nothing (x ∷ p) e = cc
act_of_path (u ∷ us) l p a e = by (λ is. act_of_path us l p a is) (bytes_eq u.label l) e
  where
    ends : (q r : List Act) (x y : Act) → q ++ x ∷ [] ≡ r ++ y ∷ [] → x ≡ y
    ends [] [] x y e = cc
    ends [] (z ∷ []) x y e = cc
    ends [] (z ∷ w ∷ r) x y e = cc
    ends (z ∷ []) [] x y e = cc
    ends (z ∷ w ∷ q) [] x y e = cc
    ends (z ∷ q) (w ∷ r) x y e = ends q r x y (let t : q ++ x ∷ [] ≡ r ++ y ∷ [] = cc in t)

    by : (path us l ≡ p ++ a ∷ [] → act_in us l ≡ Some a) → (b : Bool) →
        cond b (upwards u.parent u.kind (path us) ++ u ∷ []) (path us l) ≡ p ++ a ∷ [] →
        cond b (Some u) (act_in us l) ≡ Some a
    by ih true is = ap Some (ends (upwards u.parent u.kind (path us)) p u a is)
    by ih false is = ih is

pub found_in : (us : List Act) (l : List ℕ) (a : Act) → act_in us l ≡ Some a → In a us × (a.label ≡ l)
found_in [] l a e = absurd (cc e)
found_in (u ∷ us) l a e = by (λ is. found_in us l a is) (bytes_eq u.label l) refl e
  where
    by : (act_in us l ≡ Some a → In a us × (a.label ≡ l)) → (b : Bool) → bytes_eq u.label l ≡ b →
        cond b (Some u) (act_in us l) ≡ Some a → In a (u ∷ us) × (a.label ≡ l)
    by ih true same is =
        let it : u ≡ a = cc in (inl it, sym (ap (λ (x : Act). x.label) it) ∙ same_label u.label l same)
    by ih false same is = let r = ih is in (inr r.0, r.1)

-- a label that no action has has no path
pub no_path : (us : List Act) (l : List ℕ) → act_in us l ≡ None → path us l ≡ []
no_path [] l e = refl
no_path (u ∷ us) l e = by (λ is. no_path us l is) (bytes_eq u.label l) e
  where
    by : (act_in us l ≡ None → path us l ≡ []) → (b : Bool) → cond b (Some u) (act_in us l) ≡ None →
        cond b (upwards u.parent u.kind (path us) ++ u ∷ []) (path us l) ≡ []
    by ih true is = absurd (cc is)
    by ih false is = ih is

-- another action that begins leaves the path of a label
pub path_stays : (us : List Act) (u : Act) (l : List ℕ) (p : List Act) (a : Act) → act_in us u.label ≡ None →
    path us l ≡ p ++ a ∷ [] → path (u ∷ us) l ≡ path us l
path_stays us u l p a new is = by (bytes_eq u.label l) refl
  where
    by : (b : Bool) → bytes_eq u.label l ≡ b → cond b (upwards u.parent u.kind (path us) ++ u ∷ []) (path us l) ≡ path us l
    by false e = refl
    by true e =
        let none : None ≡ Some a = sym new ∙ ap (act_in us) (same_label u.label l e) ∙ act_of_path us l p a is in absurd (cc none)

-- the path of the action that begins
pub path_new : (us : List Act) (u : Act) → path (u ∷ us) u.label ≡ upwards u.parent u.kind (path us) ++ u ∷ []
path_new us u = λ i. cond (label_itself u.label i) (upwards u.parent u.kind (path us) ++ u ∷ []) (path us u.label)

-- ---- tops

-- the first action of a path of plain ones is its top, and the others are below it
pub top_is : (a : Act) (p : List Act) → is_serial a.kind ≡ false → top_in (a ∷ p) ≡ Some a
top_is a [] plain = λ i. cond (plain i) None (Some a)
top_is a (b ∷ p) plain = λ i. cond (plain i) (Some b) (Some a)

pub chain_is : (a : Act) (p : List Act) → is_serial a.kind ≡ false → chain_in (a ∷ p) ≡ p
chain_is a [] plain = λ i. cond (plain i) [] []
chain_is a (b ∷ p) plain = λ i. cond (plain i) p (b ∷ p)

-- an action in no other one stands alone on its path
pub path_alone : (us : List Act) (l : List ℕ) (a : Act) → act_in us l ≡ Some a → a.parent ≡ None → path us l ≡ a ∷ []
path_alone [] l a e none = absurd (cc e)
path_alone (u ∷ us) l a e none = by (λ is. path_alone us l a is none) (bytes_eq u.label l) e
  where
    by : (act_in us l ≡ Some a → path us l ≡ a ∷ []) → (b : Bool) → cond b (Some u) (act_in us l) ≡ Some a →
        cond b (upwards u.parent u.kind (path us) ++ u ∷ []) (path us l) ≡ a ∷ []
    by ih true is =
        let it : u ≡ a = cc in
        (λ i. upwards ((ap (λ (x : Act). x.parent) it ∙ none) i) u.kind (path us) ++ it i ∷ [])
    by ih false is = ih is
