-- What the calls of an end do to the locks, and what they leave alone.
use Rattle.std.proofs.Common.{◌≡◌, Bool, true, false, cond, List, [], ◌∷◌, ◌++◌, Some, None, is_some, refl, ◌∙◌, ap, option_and_then}
use Rattle.arj_base.specs.declared.mode.Mode.{Mode}
use Rattle.arj_base.specs.declared.uid.Uid.{Uid}
use Rattle.arj_base.specs.Uid.{uid_eq}
use Rattle.arj_base.proofs.Uids.{uid_same}
use Rattle.arj_record.specs.declared.record.Record.{Record}
use Rattle.arj_record.specs.declared.record.Record.TheVariants.{Recovery, Lock, Persistence}
use Rattle.arj_record.specs.Record.{image_in, mode_in}
use Rattle.arj_record.specs.Records.{found, forgotten, has_locks, image, is_changed, keep_calls, lock_mode, passed, raised, raises}
use Rattle.arj_record.specs.Records.{released, restored, restores, undo_calls}
use Rattle.arj_record.specs.Scene.{Call, pass, release}
use Rattle.arj_record.proofs.Added.{found-forgotten}

-- Undo.

undo_released : {V : Type 0} → (rs : List (Record V)) (calls : List (Call V)) → released (restores rs ++ calls) ≡ released calls
undo_released [] calls = refl
undo_released (Recovery y v ∷ rs) calls = undo_released rs calls
undo_released (Lock y m ∷ rs) calls = undo_released rs calls
undo_released (Persistence y ∷ rs) calls = undo_released rs calls

undo_passed : {V : Type 0} → (rs : List (Record V)) (calls : List (Call V)) → passed (restores rs ++ calls) ≡ passed calls
undo_passed [] calls = refl
undo_passed (Recovery y v ∷ rs) calls = undo_passed rs calls
undo_passed (Lock y m ∷ rs) calls = undo_passed rs calls
undo_passed (Persistence y ∷ rs) calls = undo_passed rs calls

undo_raised : {V : Type 0} → (x : Uid) (rs : List (Record V)) (calls : List (Call V)) → raised x (restores rs ++ calls) ≡ raised x calls
undo_raised x [] calls = refl
undo_raised x (Recovery y v ∷ rs) calls = undo_raised x rs calls
undo_raised x (Lock y m ∷ rs) calls = undo_raised x rs calls
undo_raised x (Persistence y ∷ rs) calls = undo_raised x rs calls

pub undo_releases : {V : Type 0} → (rs : List (Record V)) (action : Uid) →
    released (undo_calls action rs) ≡ cond (has_locks rs) (action ∷ []) []
undo_releases {V} rs action = undo_released rs (cond (has_locks rs) (release action ∷ []) []) ∙ by (has_locks rs)
  where
    by : (b : Bool) → released {V = V} (cond b (release action ∷ []) []) ≡ cond b (action ∷ []) []
    by true = refl
    by false = refl

pub undo_no_more : {V : Type 0} → (rs : List (Record V)) (action x : Uid) →
    (raised x (undo_calls action rs) ≡ []) × (passed (undo_calls action rs) ≡ [])
undo_no_more {V} rs action x = (
  undo_raised x rs (cond (has_locks rs) (release action ∷ []) []) ∙ raise (has_locks rs),
  undo_passed rs (cond (has_locks rs) (release action ∷ []) []) ∙ none (has_locks rs),
)
  where
    raise : (b : Bool) → raised {V = V} x (cond b (release action ∷ []) []) ≡ []
    raise true = refl
    raise false = refl

    none : (b : Bool) → passed {V = V} (cond b (release action ∷ []) []) ≡ []
    none true = refl
    none false = refl

-- Keep.

raises_pass : {V : Type 0} → (action : Uid) (rs : List (Record V)) → passed (raises action rs) ≡ []
raises_pass action [] = refl
raises_pass action (Recovery y v ∷ rs) = raises_pass action rs
raises_pass action (Lock y m ∷ rs) = raises_pass action rs
raises_pass action (Persistence y ∷ rs) = raises_pass action rs

raises_release : {V : Type 0} → (action : Uid) (rs : List (Record V)) → released (raises action rs) ≡ []
raises_release action [] = refl
raises_release action (Recovery y v ∷ rs) = raises_release action rs
raises_release action (Lock y m ∷ rs) = raises_release action rs
raises_release action (Persistence y ∷ rs) = raises_release action rs

raises_restore : {V : Type 0} → (x action : Uid) (rs : List (Record V)) → restored x (raises action rs) ≡ []
raises_restore x action [] = refl
raises_restore x action (Recovery y v ∷ rs) = raises_restore x action rs
raises_restore x action (Lock y m ∷ rs) = raises_restore x action rs
raises_restore x action (Persistence y ∷ rs) = raises_restore x action rs

pub keep_passes : {V : Type 0} → (rs : List (Record V)) (action : Uid) →
    passed (keep_calls action rs) ≡ cond (has_locks rs) (action ∷ []) []
keep_passes {V} rs action = by (has_locks rs)
  where
    by : (b : Bool) → passed (cond b (pass action ∷ []) [] ++ raises action rs) ≡ cond b (action ∷ []) []
    by true = ap (λ us. action ∷ us) (raises_pass action rs)
    by false = raises_pass action rs

pub keep_no_more : {V : Type 0} → (rs : List (Record V)) (action x : Uid) →
    (restored x (keep_calls action rs) ≡ []) × (released (keep_calls action rs) ≡ [])
keep_no_more {V} rs action x = (restore (has_locks rs), none (has_locks rs))
  where
    restore : (b : Bool) → restored x (cond b (pass action ∷ []) [] ++ raises action rs) ≡ []
    restore true = raises_restore x action rs
    restore false = raises_restore x action rs

    none : (b : Bool) → released (cond b (pass action ∷ []) [] ++ raises action rs) ≡ []
    none true = raises_release action rs
    none false = raises_release action rs

-- Locks.

pub some_lock : {V : Type 0} → (rs : List (Record V)) → has_locks rs ≡ true → (x : Uid) × (mode : Mode) × (lock_mode x rs ≡ Some mode)
some_lock [] e = cc
some_lock (Recovery y v ∷ rs) e = some_lock rs e
some_lock (Lock y m ∷ rs) e = (y, m, λ i. option_and_then mode_in (cond (uid_same y i) (Some (Lock y m)) (found 2 y rs)))
some_lock (Persistence y ∷ rs) e = some_lock rs e

pub locked : {V : Type 0} → (rs : List (Record V)) (x : Uid) (mode : Mode) → lock_mode x rs ≡ Some mode → has_locks rs ≡ true
locked [] x mode e = cc
locked (Recovery y v ∷ rs) x mode e = locked rs x mode e
locked (Lock y m ∷ rs) x mode e = refl
locked (Persistence y ∷ rs) x mode e = locked rs x mode e

-- Forgetting.

pub image-forgotten : {V : Type 0} → (rs : List (Record V)) (gone x : Uid) →
    image x (forgotten gone rs) ≡ cond (uid_eq x gone) None (image x rs)
image-forgotten {V} rs gone x = ap (option_and_then image_in) (found-forgotten 1 x gone rs) ∙ by (uid_eq x gone)
  where
    by : (b : Bool) → option_and_then image_in (cond b None (found 1 x rs)) ≡ cond b None (image x rs)
    by true = refl
    by false = refl

pub mode-forgotten : {V : Type 0} → (rs : List (Record V)) (gone x : Uid) →
    lock_mode x (forgotten gone rs) ≡ cond (uid_eq x gone) None (lock_mode x rs)
mode-forgotten {V} rs gone x = ap (option_and_then mode_in) (found-forgotten 2 x gone rs) ∙ by (uid_eq x gone)
  where
    by : (b : Bool) → option_and_then mode_in (cond b None (found 2 x rs)) ≡ cond b None (lock_mode x rs)
    by true = refl
    by false = refl

pub changed-forgotten : {V : Type 0} → (rs : List (Record V)) (gone x : Uid) →
    is_changed x (forgotten gone rs) ≡ cond (uid_eq x gone) false (is_changed x rs)
changed-forgotten {V} rs gone x = ap is_some (found-forgotten 3 x gone rs) ∙ by (uid_eq x gone)
  where
    by : (b : Bool) → is_some (cond b None (found 3 x rs)) ≡ cond b false (is_changed x rs)
    by true = refl
    by false = refl
