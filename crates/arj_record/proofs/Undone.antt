-- What the calls of an end do to one object.
use Rattle.std.proofs.Common.{◌≡◌, ℕ, Bool, true, false, cond, ◌||◌, List, [], ◌∷◌, ◌++◌, Option, Some, None, is_some, refl, sym, ◌∙◌, ap}
use Rattle.std.proofs.Common.{subst, arith, option_and_then, find}
use Rattle.std.specs.Option.{option_to_list, option_or}
use Rattle.arj_base.specs.declared.uid.Uid.{Uid}
use Rattle.arj_base.specs.Uid.{uid_eq}
use Rattle.arj_record.specs.declared.record.Record.{Record}
use Rattle.arj_record.specs.declared.record.Record.TheVariants.{Recovery, Lock, Persistence}
use Rattle.arj_record.specs.Record.{order_of, is_of, image_in, mode_in}
use Rattle.arj_record.specs.Records.{added, gathered, merged, combined, found, image, lock_mode, is_changed, has_locks, restores, raises}
use Rattle.arj_record.specs.Records.{undo_calls, keep_calls, restored, raised, IsArranged}
use Rattle.arj_base.specs.Mode.{strongest}
use Rattle.arj_record.specs.Scene.{Call, pass, release}
use Rattle.arj_record.proofs.Added.{none_like, found-added, found-gathered, arranged_added, arranged_gathered}
use Rattle.arj_record.proofs.Same.{is_of_parts}
use Rattle.arj_record.proofs.Merged.{gathered_is}

-- calls that restore nothing may stand behind
restored_before : {V : Type 0} → (x : Uid) (rs : List (Record V)) (calls : List (Call V)) → restored x calls ≡ [] → IsArranged rs →
    restored x (restores rs ++ calls) ≡ option_to_list (image x rs)
restored_before x [] calls e p = e
restored_before {V} x (Recovery y v ∷ rs) calls e p = by (uid_eq y x) refl (restored_before x rs calls e p.1)
  where
    by : (b : Bool) → uid_eq y x ≡ b → restored x (restores rs ++ calls) ≡ option_to_list (image x rs)
        → cond (uid_eq y x) (v ∷ restored x (restores rs ++ calls)) (restored x (restores rs ++ calls)) ≡ option_to_list (option_and_then image_in (cond (uid_eq y x) (Some (Recovery y v)) (found 1 x rs)))
    by true f h =
        let none : found 1 x rs ≡ None = none_like 1 x (Recovery y v) rs f p.0 in
        let nothing : restored x (restores rs ++ calls) ≡ [] = h ∙ ap (λ o. option_to_list (option_and_then image_in o)) none in
        (λ i. cond (f i) (v ∷ nothing i) (nothing i)) ∙ sym (λ i. option_to_list (option_and_then image_in (cond (f i) (Some (Recovery y v)) (found 1 x rs))))
    by false f h =
        ap (λ b. cond b (v ∷ restored x (restores rs ++ calls)) (restored x (restores rs ++ calls))) f
        ∙ (h ∙ sym (ap (λ b. option_to_list (option_and_then image_in (cond b (Some (Recovery y v)) (found 1 x rs)))) f))
restored_before x (Lock y m ∷ rs) calls e p = restored_before x rs calls e p.1
restored_before x (Persistence y ∷ rs) calls e p = restored_before x rs calls e p.1

-- each object's image goes back once
pub restored_once : {V : Type 0} → (action x : Uid) (rs : List (Record V)) → IsArranged rs →
    restored x (undo_calls action rs) ≡ option_to_list (image x rs)
restored_once {V} action x rs p = restored_before x rs (cond (has_locks rs) (release action ∷ []) []) (none (has_locks rs)) p
  where
    none : (b : Bool) → restored {V = V} x (cond b (release action ∷ []) []) ≡ []
    none true = refl
    none false = refl

raised_rest : {V : Type 0} → (action x : Uid) (rs : List (Record V)) → IsArranged rs →
    raised x (raises action rs) ≡ cond (is_some (found 3 x rs)) (action ∷ []) []
raised_rest action x [] p = refl
raised_rest action x (Recovery y v ∷ rs) p = raised_rest action x rs p.1
raised_rest action x (Lock y m ∷ rs) p = raised_rest action x rs p.1
raised_rest {V} action x (Persistence y ∷ rs) p = by (uid_eq y x) refl (raised_rest action x rs p.1)
  where
    by : (b : Bool) → uid_eq y x ≡ b → raised x (raises action rs) ≡ cond (is_some (found 3 x rs)) (action ∷ []) []
        → cond (uid_eq y x) (action ∷ raised x (raises action rs)) (raised x (raises action rs)) ≡ cond (is_some (cond (uid_eq y x) (Some (Persistence y)) (found 3 x rs))) (action ∷ []) []
    by true f h =
        let none : found 3 x rs ≡ None = none_like 3 x (Persistence y) rs f p.0 in
        let nothing : raised x (raises action rs) ≡ [] = h ∙ ap (λ o. cond (is_some o) (action ∷ []) []) none in
        (λ i. cond (f i) (action ∷ nothing i) (nothing i)) ∙ sym (λ i. cond (is_some (cond (f i) (Some (Persistence y)) (found 3 x rs))) (action ∷ []) [])
    by false f h =
        ap (λ b. cond b (action ∷ raised x (raises action rs)) (raised x (raises action rs))) f
        ∙ (h ∙ sym (ap (λ b. cond (is_some (cond b (Some (Persistence y)) (found 3 x rs))) (action ∷ []) []) f))

-- each changed object is raised once
pub raised_once : {V : Type 0} → (action x : Uid) (rs : List (Record V)) → IsArranged rs →
    raised x (keep_calls action rs) ≡ cond (is_some (found 3 x rs)) (action ∷ []) []
raised_once {V} action x rs p = by (has_locks rs)
  where
    by : (b : Bool) → raised x (cond b (pass action ∷ []) [] ++ raises action rs) ≡ cond (is_some (found 3 x rs)) (action ∷ []) []
    by true = raised_rest action x rs p
    by false = raised_rest action x rs p

-- The oldest image.

found_passes : {A : Type 0} (test : A → Bool) (xs : List A) (a : A) → find test xs ≡ Some a → test a ≡ true
found_passes test [] a e = let never : None ≡ Some a = e in cc
found_passes test (x ∷ xs) a e = by (test x) refl (λ (f : find test xs ≡ Some a). found_passes test xs a f)
  where
    by : (b : Bool) → test x ≡ b → (find test xs ≡ Some a → test a ≡ true) → test a ≡ true
    by true f h =
        let same : Some x ≡ Some a = sym (ap (λ b. cond b (Some x) (find test xs)) f) ∙ e in let here : x ≡ a = cc in sym (ap test here) ∙ f
    by false f h = h (sym (ap (λ b. cond b (Some x) (find test xs)) f) ∙ e)

-- where an older record holds an image, it stays
combined_image : {V : Type 0} → (o p : Option (Record V)) → ((q : Record V) → o ≡ Some q → order_of q ≡ 1) →
    option_and_then image_in (combined o p) ≡ option_or (option_and_then image_in o) (option_and_then image_in p)
combined_image None p h = refl
combined_image (Some (Recovery x v)) None h = refl
combined_image (Some (Recovery x v)) (Some r) h = refl
combined_image (Some (Lock x m)) p h = absurd (omega (arith, h (Lock x m) refl))
combined_image (Some (Persistence x)) p h = absurd (omega (arith, h (Persistence x) refl))

order_found : {V : Type 0} → (order : ℕ) (x : Uid) (rs : List (Record V)) (q : Record V) → found order x rs ≡ Some q → order_of q ≡ order
order_found order x rs q e = (is_of_parts order x q (found_passes (is_of order x) rs q e)).0

image-added : {V : Type 0} → (x : Uid) (r : Record V) (rs : List (Record V)) → IsArranged rs →
    image x (added r rs) ≡ option_or (image x rs) (image x (r ∷ []))
image-added x r rs p =
    ap (option_and_then image_in) (found-added 1 x r rs p) ∙ combined_image (found 1 x rs) (found 1 x (r ∷ [])) (order_found 1 x rs)

option_or_assoc : {A : Type 0} (a b c : Option A) → option_or (option_or a b) c ≡ option_or a (option_or b c)
option_or_assoc None b c = refl
option_or_assoc (Some a) b c = refl

option_or-none : {A : Type 0} (a : Option A) → option_or a None ≡ a
option_or-none None = refl
option_or-none (Some a) = refl

image-cons : {V : Type 0} → (x : Uid) (r : Record V) (rs : List (Record V)) → image x (r ∷ rs) ≡ option_or (image x (r ∷ [])) (image x rs)
image-cons x (Recovery y v) rs = by (uid_eq y x)
  where
    by : (b : Bool) →
        option_and_then image_in (cond b (Some (Recovery y v)) (found 1 x rs)) ≡ option_or (option_and_then image_in (cond b (Some (Recovery y v)) None)) (image x rs)
    by true = refl
    by false = refl
image-cons x (Lock y m) rs = refl
image-cons x (Persistence y) rs = refl

image-gathered : {V : Type 0} → (x : Uid) (items rs : List (Record V)) → IsArranged rs →
    image x (gathered rs items) ≡ option_or (image x rs) (image x items)
image-gathered x [] rs p = sym (option_or-none (image x rs))
image-gathered x (r ∷ items) rs p =
    image-gathered x items (added r rs) (arranged_added r rs p)
    ∙ (ap (λ o. option_or o (image x items)) (image-added x r rs p) ∙ (option_or_assoc (image x rs) (image x (r ∷ [])) (image x items) ∙ sym (ap (λ o. option_or (image x rs) o) (image-cons x r items))))

-- where the older record is a lock, the stronger mode stays
combined_mode : {V : Type 0} → (o p : Option (Record V)) → ((q : Record V) → o ≡ Some q → order_of q ≡ 2) →
    ((q : Record V) → p ≡ Some q → order_of q ≡ 2)
    → option_and_then mode_in (combined o p) ≡ strongest (option_and_then mode_in o) (option_and_then mode_in p)
combined_mode None p h k = refl
combined_mode (Some (Lock x m)) None h k = refl
combined_mode (Some (Lock x m)) (Some (Lock y n)) h k = refl
combined_mode (Some (Lock x m)) (Some (Recovery y v)) h k = absurd (omega (arith, k (Recovery y v) refl))
combined_mode (Some (Lock x m)) (Some (Persistence y)) h k = absurd (omega (arith, k (Persistence y) refl))
combined_mode (Some (Recovery x v)) p h k = absurd (omega (arith, h (Recovery x v) refl))
combined_mode (Some (Persistence x)) p h k = absurd (omega (arith, h (Persistence x) refl))

combined_some : {V : Type 0} → (o p : Option (Record V)) → is_some (combined o p) ≡ (is_some o || is_some p)
combined_some None p = refl
combined_some (Some q) None = refl
combined_some (Some q) (Some r) = refl

found-merged : {V : Type 0} → (order : ℕ) (x : Uid) (parent child : List (Record V)) → IsArranged parent → IsArranged child →
    found order x (merged parent child) ≡ combined (found order x parent) (found order x child)
found-merged order x parent child p q =
    ap (λ rs. found order x rs) (sym (gathered_is child parent q p)) ∙ found-gathered order x child parent q p

pub image-merged : {V : Type 0} → (parent child : List (Record V)) (x : Uid) → IsArranged parent → IsArranged child →
    image x (merged parent child) ≡ option_or (image x parent) (image x child)
image-merged parent child x p q =
    ap (option_and_then image_in) (found-merged 1 x parent child p q) ∙ combined_image (found 1 x parent) (found 1 x child) (order_found 1 x parent)

pub mode-merged : {V : Type 0} → (parent child : List (Record V)) (x : Uid) → IsArranged parent → IsArranged child →
    lock_mode x (merged parent child) ≡ strongest (lock_mode x parent) (lock_mode x child)
mode-merged parent child x p q =
    ap (option_and_then mode_in) (found-merged 2 x parent child p q) ∙ combined_mode (found 2 x parent) (found 2 x child) (order_found 2 x parent) (order_found 2 x child)

pub changed-merged : {V : Type 0} → (parent child : List (Record V)) (x : Uid) → IsArranged parent → IsArranged child →
    is_changed x (merged parent child) ≡ (is_changed x parent || is_changed x child)
changed-merged parent child x p q = ap is_some (found-merged 3 x parent child p q) ∙ combined_some (found 3 x parent) (found 3 x child)

pub added_merged : {V : Type 0} → (rs : List (Record V)) (item : Record V) → IsArranged rs → added item rs ≡ merged rs (item ∷ [])
added_merged rs item p = gathered_is (item ∷ []) rs (tt, tt) p

pub oldest_added : {V : Type 0} → (items : List (Record V)) (action x : Uid) →
    restored x (undo_calls action (gathered [] items)) ≡ option_to_list (image x items)
oldest_added items action x =
    restored_once action x (gathered [] items) (arranged_gathered items [] tt) ∙ ap option_to_list (image-gathered x items [] tt)

arranged_merged : {V : Type 0} → (parent child : List (Record V)) → IsArranged parent → IsArranged child → IsArranged (merged parent child)
arranged_merged parent child p q = subst IsArranged (gathered_is child parent q p) (arranged_gathered child parent p)

pub oldest_merged : {V : Type 0} → (parent child : List (Record V)) (action x : Uid) → IsArranged parent → IsArranged child →
    restored x (undo_calls action (merged parent child)) ≡ option_to_list (option_or (image x parent) (image x child))
oldest_merged parent child action x p q =
    restored_once action x (merged parent child) (arranged_merged parent child p q) ∙ ap option_to_list (image-merged parent child x p q)
