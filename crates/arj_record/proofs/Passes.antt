-- One pass over a list of records, from behind a reversed list.
use Rattle.std.proofs.Common.{◌≡◌, Bool, true, false, cond, ◌||◌, List, [], ◌∷◌, ◌++◌, refl, sym, ◌∙◌, ap, subst, arith, reverse, length}
use Rattle.std.specs.List.{AllByRecursion}
use Rattle.std.proofs.lemmas.List.{reverse-append}
use Rattle.arj_base.specs.declared.mode.Mode.{Mode}
use Rattle.arj_base.specs.declared.uid.Uid.{Uid}
use Rattle.arj_record.specs.declared.record.Record.{Record}
use Rattle.arj_record.specs.declared.record.Record.TheVariants.{Recovery, Lock, Persistence}
use Rattle.arj_record.specs.Ends.{calls_after, calls_from}
use Rattle.arj_record.specs.Record.{is_lock, undone_by, kept_by}
use Rattle.arj_record.specs.Records.{Precedes, IsArranged, has_locks, restores, raises, undo_calls, keep_calls}
use Rattle.arj_record.specs.Scene.{Call, restore, pass, release, raise, Told}

pub told_append : {S V : Type 0} → (step : S → Call V → S → Type 0) (a b c : S) (cs ds : List (Call V)) → Told step a cs b →
    Told step b ds c → Told step a (cs ++ ds) c
told_append {S} step a b c [] ds p q = let P : S → Type 0 = λ s. Told step s ds c in subst P p q
told_append step a b c (call ∷ cs) ds p q = (p.0, p.1, told_append step p.0 b c cs ds p.2 q)

-- one record from the front of the list that is left
pub one_more : {S V : Type 0} →
    (step : S → Call V → S → Type 0) (calls : Record V →
    List (Call V)) (told told' : Bool) (r : Record V) (items left : List (Record V)) (a b c : S)
    → items ≡ left ++ r ∷ [] → told' ≡ (told || is_lock r) → Told step a (calls_after calls told r) b →
    Told step b (calls_from calls told' (reverse left)) c → Told step a (calls_from calls told (reverse items)) c
one_more {S} {V} step calls told told' r items left a b c e f p q =
    let turned : r ∷ reverse left ≡ reverse items = sym (ap reverse e ∙ reverse-append left (r ∷ [])) in
    let P : List (Record V) → Type 0 = λ rs. Told step a (calls_from calls told rs) c in
    let Q : Bool → Type 0 =
    λ t. Told step b (calls_from calls t (reverse left)) c in subst P turned (told_append step a b c (calls_after calls told r) (calls_from calls (told || is_lock r) (reverse left)) p (subst Q f q))

-- no record is left
pub none_left : {S V : Type 0} →
    (step : S → Call V → S → Type 0) (calls : Record V → List (Call V)) (told : Bool) (items : List (Record V)) (a : S) → length items ≡ 0 →
    Told step a (calls_from calls told (reverse items)) a
none_left step calls told [] a e = refl
none_left step calls told (r ∷ items) a e = absurd (omega arith)

-- behind a lock no image is left, and nothing more is undone
no_images : {V : Type 0} → (x : Uid) (m : Mode) (rs : List (Record V)) → AllByRecursion (Precedes (Lock x m)) rs → restores rs ≡ []
no_images x m [] p = refl
no_images x m (Recovery y v ∷ rs) p = absurd (omega (arith, p.0.0))
no_images x m (Lock y n ∷ rs) p = no_images x m rs p.1
no_images x m (Persistence y ∷ rs) p = no_images x m rs p.1

none_undone : {V : Type 0} → (action x : Uid) (m : Mode) (rs : List (Record V)) → AllByRecursion (Precedes (Lock x m)) rs →
    calls_from (undone_by action) true rs ≡ []
none_undone action x m [] p = refl
none_undone action x m (Recovery y v ∷ rs) p = absurd (omega (arith, p.0.0))
none_undone action x m (Lock y n ∷ rs) p = none_undone action x m rs p.1
none_undone action x m (Persistence y ∷ rs) p = none_undone action x m rs p.1

-- the pass that undoes gives all images back, and then releases once
pub undo_is : {V : Type 0} → (action : Uid) (rs : List (Record V)) → IsArranged rs →
    calls_from (undone_by action) false rs ≡ undo_calls action rs
undo_is action [] p = refl
undo_is action (Recovery x v ∷ rs) p = ap (λ calls. restore x v ∷ calls) (undo_is action rs p.1)
undo_is action (Lock x m ∷ rs) p =
    ap (λ calls. release action ∷ calls) (none_undone action x m rs p.0) ∙ sym (ap (λ calls. calls ++ release action ∷ []) (no_images x m rs p.0))
undo_is action (Persistence x ∷ rs) p = undo_is action rs p.1

-- behind the first lock the rest raises
raised_rest : {V : Type 0} → (action : Uid) (rs : List (Record V)) → calls_from (kept_by action) true rs ≡ raises action rs
raised_rest action [] = refl
raised_rest action (Recovery x v ∷ rs) = raised_rest action rs
raised_rest action (Lock x m ∷ rs) = raised_rest action rs
raised_rest action (Persistence x ∷ rs) = ap (λ calls. raise x action ∷ calls) (raised_rest action rs)

-- behind a changed object there is no lock
no_locks : {V : Type 0} → (x : Uid) (rs : List (Record V)) → AllByRecursion (Precedes (Persistence x)) rs → has_locks rs ≡ false
no_locks x [] p = refl
no_locks x (Recovery y v ∷ rs) p = absurd (omega (arith, p.0.0))
no_locks x (Lock y n ∷ rs) p = absurd (omega (arith, p.0.0))
no_locks x (Persistence y ∷ rs) p = no_locks x rs p.1

-- the pass that keeps passes once, and then raises
pub keep_is : {V : Type 0} → (action : Uid) (rs : List (Record V)) → IsArranged rs →
    calls_from (kept_by action) false rs ≡ keep_calls action rs
keep_is action [] p = refl
keep_is action (Recovery x v ∷ rs) p = keep_is action rs p.1
keep_is action (Lock x m ∷ rs) p = ap (λ calls. pass action ∷ calls) (raised_rest action rs)
keep_is {V} action (Persistence x ∷ rs) p =
    let none : has_locks rs ≡ false = no_locks x rs p.0 in
    let P : Bool → List (Call V) = λ b. cond b (pass action ∷ []) [] in
    ap (λ calls. raise x action ∷ calls) (keep_is action rs p.1 ∙ ap (λ b. P b ++ raises action rs) none) ∙ sym (ap (λ b. P b ++ raise x action ∷ raises action rs) none)
