-- Adding a child's records one by one merges the lists.
use Rattle.std.proofs.Common.{◌≡◌, ◌≢◌, ◌&&◌, Bool, true, false, cond, not, nat_lt, List, [], ◌∷◌, filter, map, Option, Some, None, is_some}
use Rattle.std.proofs.Common.{refl, sym, ◌∙◌, ap}
use Rattle.std.specs.List.{AllByRecursion}
use Rattle.std.proofs.lemmas.Bool.{ltb-true}
use Rattle.arj_record.specs.declared.record.Record.{Record}
use Rattle.arj_record.specs.Record.{object_of, order_of, is_like, joined}
use Rattle.arj_record.specs.Records.{added, gathered, placed, with_placed, found, has_like, combined, joined_with, merged, Precedes}
use Rattle.arj_record.specs.Records.{IsArranged}
use Rattle.arj_record.proofs.Same.{is_of_parts, is_of_same, joined_order, joined_object, like_sym, eq_same}
use Rattle.arj_base.proofs.Uids.{uid_same}
use Rattle.arj_record.proofs.Added.{found-added, arranged_added, none_like, none_above, combined-none}

-- a parent's record with the child's one of its kind and object
abbrev pub with_child : {V : Type 0} → List (Record V) → Record V → Record V
with_child child r = joined_with r (found (order_of r) (object_of r) child)

-- the parent has none of this record's kind and object
abbrev pub is_new : {V : Type 0} → List (Record V) → Record V → Bool
is_new parent r = not (has_like r parent)

joined_with_order : {V : Type 0} → (q : Record V) (o : Option (Record V)) → order_of (joined_with q o) ≡ order_of q
joined_with_order q None = refl
joined_with_order q (Some r) = joined_order q r

-- a record that is like none comes in its place
placed_new : {V : Type 0} → (r : Record V) (rs : List (Record V)) → found (order_of r) (object_of r) rs ≡ None → added r rs ≡ placed r rs
placed_new r [] e = refl
placed_new {V} r (q ∷ qs) e =
    by (is_like q r) refl (λ (no : is_like q r ≡ false). placed_new r qs (sym (ap (λ b. cond b (Some q) (found (order_of r) (object_of r) qs)) no) ∙ e))
  where
    by : (b : Bool) → is_like q r ≡ b → (is_like q r ≡ false → added r qs ≡ placed r qs)
        → cond (is_like q r) (joined q r ∷ qs) (cond (nat_lt (order_of r) (order_of q)) (r ∷ q ∷ qs) (q ∷ added r qs)) ≡ cond (nat_lt (order_of r) (order_of q)) (r ∷ q ∷ qs) (q ∷ placed r qs)
    by true f h = let never : Some q ≡ None = sym (ap (λ b. cond b (Some q) (found (order_of r) (object_of r) qs)) f) ∙ e in cc
    by false f h = λ i. cond (f i) (joined q r ∷ qs) (cond (nat_lt (order_of r) (order_of q)) (r ∷ q ∷ qs) (q ∷ h f i))

-- where none of the records is like r, r changes none of them
map_other : {V : Type 0} → (child : List (Record V)) (r : Record V) (rs : List (Record V)) → AllByRecursion (λ q. is_like r q ≡ false) rs →
    map (with_child (r ∷ child)) rs ≡ map (with_child child) rs
map_other child r [] ps = refl
map_other child r (q ∷ qs) ps =
    λ i. joined_with q (cond (ps.0 i) (Some r) (found (order_of q) (object_of q) child)) ∷ map_other child r qs ps.1 i

-- none is like r where none is found
none_found : {V : Type 0} → (r : Record V) (rs : List (Record V)) → found (order_of r) (object_of r) rs ≡ None →
    AllByRecursion (λ q. is_like r q ≡ false) rs
none_found r [] e = tt
none_found {V} r (q ∷ qs) e =
    by (is_like q r) refl (λ (no : is_like q r ≡ false). none_found r qs (sym (ap (λ b. cond b (Some q) (found (order_of r) (object_of r) qs)) no) ∙ e))
  where
    by : (b : Bool) → is_like q r ≡ b → (is_like q r ≡ false → AllByRecursion (λ q. is_like r q ≡ false) qs) →
        AllByRecursion (λ q. is_like r q ≡ false) (q ∷ qs)
    by true f h = let never : Some q ≡ None = sym (ap (λ b. cond b (Some q) (found (order_of r) (object_of r) qs)) f) ∙ e in cc
    by false f h = (like_sym r q ∙ f, h f)

-- behind a record that is like r none is
rest_other : {V : Type 0} → (q r : Record V) (rs : List (Record V)) → is_like q r ≡ true → AllByRecursion (Precedes q) rs →
    AllByRecursion (λ s. is_like r s ≡ false) rs
rest_other q r [] e ps = tt
rest_other q r (s ∷ rs) e ps = (sym (is_of_same (order_of s) (object_of s) q r e) ∙ ps.0.1, rest_other q r rs e ps.1)

-- without a child nothing changes
map_nothing : {V : Type 0} → (rs : List (Record V)) → map (with_child []) rs ≡ rs
map_nothing [] = refl
map_nothing (r ∷ rs) = ap (λ qs. r ∷ qs) (map_nothing rs)

-- A record that the parent has one like is taken in there; the rest of the child is taken in after it.
taken_in : {V : Type 0} → (child : List (Record V)) (r : Record V) (rs : List (Record V)) → IsArranged rs →
    found (order_of r) (object_of r) child ≡ None → found (order_of r) (object_of r) rs ≢ None
    → map (with_child child) (added r rs) ≡ map (with_child (r ∷ child)) rs
taken_in child r [] p none some = absurd (some refl)
taken_in {V} child r (q ∷ qs) p none some =
    by (is_like q r) (nat_lt (order_of r) (order_of q)) refl refl
    (λ (no : is_like q r ≡ false). taken_in child r qs p.1 none (λ (e : found (order_of r) (object_of r) qs ≡ None). some (ap (λ b. cond b (Some q) (found (order_of r) (object_of r) qs)) no ∙ e)))
  where
    by : (b c : Bool) → is_like q r ≡ b → nat_lt (order_of r) (order_of q) ≡ c →
        (is_like q r ≡ false → map (with_child child) (added r qs) ≡ map (with_child (r ∷ child)) qs)
        → map (with_child child) (cond b (joined q r ∷ qs) (cond c (r ∷ q ∷ qs) (q ∷ added r qs))) ≡ map (with_child (r ∷ child)) (q ∷ qs)
    by true c e f h =
        let here = is_of_parts (order_of r) (object_of r) q e in
        let nothing : found (order_of (joined q r)) (object_of (joined q r)) child ≡ None =
        (λ i. found ((joined_order q r ∙ here.0) i) ((joined_object q r ∙ here.1) i) child) ∙ none in
        let taken : is_like r q ≡ true = like_sym r q ∙ e in
        (λ i. joined_with (joined q r) (nothing i) ∷ sym (map_other child r qs (rest_other q r qs e p.0)) i)
        ∙ sym (ap (λ b. joined_with q (cond b (Some r) (found (order_of q) (object_of q) child)) ∷ map (with_child (r ∷ child)) qs) taken)
    by false true e f h =
        absurd (some (ap (λ b. cond b (Some q) (found (order_of r) (object_of r) qs)) e ∙ none_above (order_of r) (object_of r) q qs (ltb-true (order_of r) (order_of q) f) p.0))
    by false false e f h = λ i. joined_with q (cond (sym (like_sym r q ∙ e) i) (Some r) (found (order_of q) (object_of q) child)) ∷ h e i

-- a placed record stays in its place where others are taken in
map_placed : {V : Type 0} → (child : List (Record V)) (r : Record V) (rs : List (Record V)) →
    map (with_child child) (placed r rs) ≡ placed (with_child child r) (map (with_child child) rs)
map_placed child r [] = refl
map_placed {V} child r (q ∷ qs) =
    by (nat_lt (order_of r) (order_of q)) (map_placed child r qs)
    ∙ sym (λ i. cond (nat_lt (joined_with_order r (found (order_of r) (object_of r) child) i) (joined_with_order q (found (order_of q) (object_of q) child) i)) (with_child child r ∷ with_child child q ∷ map (with_child child) qs) (with_child child q ∷ placed (with_child child r) (map (with_child child) qs)))
  where
    by : (c : Bool) → map (with_child child) (placed r qs) ≡ placed (with_child child r) (map (with_child child) qs)
        → map (with_child child) (cond c (r ∷ q ∷ qs) (q ∷ placed r qs)) ≡ cond c (with_child child r ∷ with_child child q ∷ map (with_child child) qs) (with_child child q ∷ placed (with_child child r) (map (with_child child) qs))
    by true h = refl
    by false h = ap (λ rs. with_child child q ∷ rs) h

-- the rest of the child is as new after r was added as it was before
new_rest : {V : Type 0} → (r : Record V) (rs child : List (Record V)) → IsArranged rs → AllByRecursion (Precedes r) child →
    filter (is_new (added r rs)) child ≡ filter (is_new rs) child
new_rest r rs [] p ps = refl
new_rest {V} r rs (s ∷ child) p ps = λ i. cond (not (is_some (same i))) (s ∷ new_rest r rs child p ps.1 i) (new_rest r rs child p ps.1 i)
  where
    same : found (order_of s) (object_of s) (added r rs) ≡ found (order_of s) (object_of s) rs
    same =
        found-added (order_of s) (object_of s) r rs p
        ∙ (ap (λ b. combined (found (order_of s) (object_of s) rs) (cond b (Some r) None)) ps.0.1 ∙ combined-none (found (order_of s) (object_of s) rs))

-- adding a child's records one by one merges the lists
pub gathered_is : {V : Type 0} → (child rs : List (Record V)) → IsArranged child → IsArranged rs → gathered rs child ≡ merged rs child
gathered_is [] rs p q = sym (map_nothing rs)
gathered_is {V} (r ∷ child) rs p q =
    gathered_is child (added r rs) p.1 (arranged_added r rs q) ∙ by (found (order_of r) (object_of r) rs) refl
  where
    none : found (order_of r) (object_of r) child ≡ None
    none = none_like (order_of r) (object_of r) r child (λ i. eq_same (order_of r) i && uid_same (object_of r) i) p.0

    by : (o : Option (Record V)) → found (order_of r) (object_of r) rs ≡ o → merged (added r rs) child ≡ merged rs (r ∷ child)
    by None e =
        let alone : map (with_child child) (added r rs) ≡ placed r (map (with_child (r ∷ child)) rs) =
        ap (map (with_child child)) (placed_new r rs e) ∙ (map_placed child r rs ∙ (λ i. placed (joined_with r (none i)) (sym (map_other child r rs (none_found r rs e)) i)))
        in
        (λ i. with_placed (new_rest r rs child q p.0 i) (alone i)) ∙ sym (ap (λ o. with_placed (cond (not (is_some o)) (r ∷ filter (is_new rs) child) (filter (is_new rs) child)) (map (with_child (r ∷ child)) rs)) e)
    by (Some s) e =
        let some : found (order_of r) (object_of r) rs ≢ None = λ n. let never : Some s ≡ None = sym e ∙ n in cc in
        (λ i. with_placed (new_rest r rs child q p.0 i) (taken_in child r rs q none some i))
        ∙ sym (ap (λ o. with_placed (cond (not (is_some o)) (r ∷ filter (is_new rs) child) (filter (is_new rs) child)) (map (with_child (r ∷ child)) rs)) e)
