-- What holds of each item of a list, of a map's keys and of a set, after each step.
use Rattle.arj_law_parts.proofs.Words
use Words.{ℕ, List, [], ◌∷◌, ◌++◌, Bool, true, false, cond, refl, inl, inr, Contains, filter, map, is_eq, match_ordering, Ordering, Less}
use Words.{Equal, Greater, AllByRecursion, flat_map, uid_order, In, in_to, Uid, ObjectState, Row, put_uid, uid_set, with_uid, without_uid}
use Words.{row_top}

pub all_append : {A : Type 0} (Q : A → Type 0) (xs ys : List A) → AllByRecursion Q xs → AllByRecursion Q ys → AllByRecursion Q (xs ++ ys)
all_append Q [] ys a b = b
all_append Q (x ∷ xs) ys a b = (a.0, all_append Q xs ys a.1 b)

pub all_put : {X : Type 0} (Q : Uid → Type 0) (u : Uid) (v : X) (m : List (Uid × X)) → Q u → AllByRecursion (λ (e : Uid × X). Q e.0) m →
    AllByRecursion (λ (e : Uid × X). Q e.0) (put_uid u v m)
all_put Q u v [] its all = (its, tt)
all_put {X} Q u v (e ∷ es) its all = by (uid_order u e.0) (all_put Q u v es its all.1)
  where
    by : (r : Ordering) → AllByRecursion (λ (z : Uid × X). Q z.0) (put_uid u v es) →
        AllByRecursion (λ (z : Uid × X). Q z.0) (match_ordering r ((u, v) ∷ e ∷ es) ((e.0, v) ∷ es) (e ∷ put_uid u v es))
    by Less ih = (its, all)
    by Equal ih = (all.0, all.1)
    by Greater ih = (all.0, ih)

pub all_without : {X : Type 0} (Q : Uid → Type 0) (u : Uid) (m : List (Uid × X)) → AllByRecursion (λ (e : Uid × X). Q e.0) m →
    AllByRecursion (λ (e : Uid × X). Q e.0) (without_uid u m)
all_without Q u [] all = tt
all_without {X} Q u (e ∷ es) all = by (uid_order u e.0) (all_without Q u es all.1)
  where
    by : (r : Ordering) → AllByRecursion (λ (z : Uid × X). Q z.0) (without_uid u es) →
        AllByRecursion (λ (z : Uid × X). Q z.0) (cond (is_eq r) es (e ∷ without_uid u es))
    by Less ih = (all.0, ih)
    by Equal ih = all.1
    by Greater ih = (all.0, ih)

pub all_with : (Q : Uid → Type 0) (u : Uid) (us : List Uid) → Q u → AllByRecursion Q us → AllByRecursion Q (with_uid u us)
all_with Q u [] its all = (its, tt)
all_with Q u (w ∷ ws) its all = by (uid_order u w) (all_with Q u ws its all.1)
  where
    by : (r : Ordering) → AllByRecursion Q (with_uid u ws) → AllByRecursion Q (match_ordering r (u ∷ w ∷ ws) (w ∷ ws) (w ∷ with_uid u ws))
    by Less ih = (its, all)
    by Equal ih = all
    by Greater ih = (all.0, ih)

pub all_set : (Q : Uid → Type 0) (us : List Uid) → AllByRecursion Q us → AllByRecursion Q (uid_set us)
all_set Q [] all = tt
all_set Q (u ∷ us) all = all_with Q u (uid_set us) all.0 (all_set Q us all.1)

pub all_keys : (Q : Uid → Type 0) (m : List (Uid × List ObjectState)) → AllByRecursion (λ (e : Uid × List ObjectState). Q e.0) m →
    AllByRecursion Q (map (λ (e : Uid × List ObjectState). e.0) m)
all_keys Q [] all = tt
all_keys Q (e ∷ es) all = (all.0, all_keys Q es all.1)

pub all_filter : {A : Type 0} (Q : A → Type 0) (test : A → Bool) (xs : List A) → AllByRecursion Q xs → AllByRecursion Q (filter test xs)
all_filter Q test [] all = tt
all_filter {A} Q test (x ∷ xs) all = by (test x) (all_filter Q test xs all.1)
  where
    by : (b : Bool) → AllByRecursion Q (filter test xs) → AllByRecursion Q (cond b (x ∷ filter test xs) (filter test xs))
    by true ih = (all.0, ih)
    by false ih = ih

-- each of the items into another list
pub all_each : {A : Type 0} (P Q : A → Type 0) (xs : List A) → ((x : A) → P x → Q x) → AllByRecursion P xs → AllByRecursion Q xs
all_each P Q [] to all = tt
all_each P Q (x ∷ xs) to all = (to x all.0, all_each P Q xs to all.1)

-- the tops of the rows of each object
pub all_tops : {X : Type 0} (Q : Uid → Type 0) (rows : X → List Row) (objects : List (ℕ × X)) → AllByRecursion (λ (e : ℕ × X). (r : Row) →
    Contains (rows e.1) r → Q (row_top r)) objects → AllByRecursion Q (flat_map (λ (e : ℕ × X). map row_top (rows e.1)) objects)
all_tops Q rows [] all = tt
all_tops {X} Q rows (e ∷ es) all = all_append Q (map row_top (rows e.1)) (flat_map (λ (z : ℕ × X). map row_top (rows z.1)) es)
    (of (rows e.1) (λ r i. all.0 r (in_to r (rows e.1) i))) (all_tops Q rows es all.1)
  where
    of : (rs : List Row) → ((r : Row) → In r rs → Q (row_top r)) → AllByRecursion Q (map row_top rs)
    of [] each = tt
    of (r ∷ rs) each = (each r (inl refl), of rs (λ q i. each q (inr i)))
