-- What is prepared, read as the objects that an action's file names.
use Rattle.std.proofs.Common.{◌≡◌, ◌∙◌, Bool, true, false, ◌==◌, ◌&&◌, ◌||◌, List, [], ◌∷◌, ℕ, refl, sym, true≢false, ap, subst, map, cond}
use Rattle.std.proofs.Common.{Option, Some, None}
use Rattle.std.specs.Prelude.{IsSome, is_some, option_map, if◌then◌else◌}
use Rattle.std.proofs.lemmas.Bool.{eq-eqb, eqb-true, and_parts}
use Rattle.arj_base.specs.Uid.{uid_eq}
use Rattle.arj_base.specs.declared.uid.Uid.{Uid}
use Rattle.arj_disk.specs.declared.slot.Role.{Role}
use Rattle.arj_disk.specs.declared.slot.Role.TheVariants.{Store, Names}
use Rattle.arj_disk.specs.declared.slot.Slot.TheVariants.{Committed, Shadow, Prepared}
use Rattle.arj_disk.specs.FileMap.{FileMap}
use Rattle.arj_disk.specs.Says.{role_of, role_eq, names, new_of}
use Rattle.arj_store.specs.Says.{held, pend, new_state, named_in, first_file}
use Rattle.arj_store.specs.Shadow.{is_in, is_named, objects_of}

-- each Uid is equal to itself, as uid_eq tells
pub uid_same : (u : Uid) → uid_eq u u ≡ true
uid_same u = λ i. eq-eqb u.node u.node refl i && (eq-eqb u.inc u.inc refl i && eq-eqb u.num u.num refl i)

-- Uids that uid_eq tells equal are the same
pub uid_is : (u w : Uid) → uid_eq u w ≡ true → u ≡ w
uid_is u w e =
    let p = and_parts (u.node == w.node) ((u.inc == w.inc) && (u.num == w.num)) e in
    let q = and_parts (u.inc == w.inc) (u.num == w.num) p.1 in
    λ i. record { node = eqb-true u.node w.node p.0 i; inc = eqb-true u.inc w.inc q.0 i; num = eqb-true u.num w.num q.1 i }

-- each object with what f gives of it
abbrev pub with_each : (Uid → List ℕ) → List Uid → List (Uid × List ℕ)
with_each f us = map (λ u. (u, f u)) us

-- the new state of an object of the list is what f gives of it
pub new_of_each : (f : Uid → List ℕ) (us : List Uid) (u : Uid) → is_in us u ≡ true → new_of (with_each f us) u ≡ Some (f u)
new_of_each f [] u is = absurd (true≢false (sym is))
new_of_each f (w ∷ ws) u is = by (uid_eq u w) refl (new_of_each f ws u)
  where
    by : (b : Bool) → uid_eq u w ≡ b → (is_in ws u ≡ true → new_of (with_each f ws) u ≡ Some (f u)) →
        cond (uid_eq u w) (Some (f w)) (new_of (with_each f ws) u) ≡ Some (f u)
    by true e rest = rw e (ap (λ x. Some (f x)) (sym (uid_is u w e)))
    by false e rest = rw e (rest (subst (λ (b : Bool). (b || is_in ws u) ≡ true) e is))

-- an object that isn't in the list has no new state there
pub nothing_of_each : (f : Uid → List ℕ) (us : List Uid) (u : Uid) → is_in us u ≡ false → new_of (with_each f us) u ≡ None
nothing_of_each f [] u isnt = refl
nothing_of_each f (w ∷ ws) u isnt = by (uid_eq u w) refl (nothing_of_each f ws u)
  where
    by : (b : Bool) → uid_eq u w ≡ b → (is_in ws u ≡ false → new_of (with_each f ws) u ≡ None) →
        cond (uid_eq u w) (Some (f w)) (new_of (with_each f ws) u) ≡ None
    by true e rest = absurd (true≢false (subst (λ (b : Bool). (b || is_in ws u) ≡ false) e isnt))
    by false e rest = rw e (rest (subst (λ (b : Bool). (b || is_in ws u) ≡ false) e isnt))

-- two functions that agree on the objects of a list give the same states
pub each_same : (f g : Uid → List ℕ) (us : List Uid) → ((u : Uid) → is_in us u ≡ true → f u ≡ g u) → with_each f us ≡ with_each g us
each_same f g [] same = refl
each_same f g (u ∷ us) same = λ i. (u, same u (ap (λ b. b || is_in us u) (uid_same u)) i) ∷ each_same f g us (λ w is. same w (more w is)) i
  where
    more : (w : Uid) → is_in us w ≡ true → (uid_eq w u || is_in us w) ≡ true
    more w is = by (uid_eq w u)
      where
        by : (b : Bool) → (b || is_in us w) ≡ true
        by true = refl
        by false = is

-- the prepared states are the objects with their new states
pub pend_is : (file : FileMap) (role : Role) (a : Uid) → pend file role a ≡ option_map (with_each (new_state file)) (objects_of file role a)
pend_is file role a = by (file (Prepared role a))
  where
    by : (o : Option (List ℕ)) →
        option_map (λ bytes. with_each (new_state file) (named_in bytes)) o ≡ option_map (with_each (new_state file)) (option_map named_in o)
    by None = refl
    by (Some bytes) = refl

-- an object in the list, if there is one, is among the states made of it
names_each : (f : Uid → List ℕ) (o : Option (List Uid)) (u : Uid) → is_named o u ≡ true → names (option_map (with_each f) o) u
names_each f None u is = absurd (true≢false (sym is))
names_each f (Some us) u is = ap is_some (new_of_each f us u is)

-- an object among the states made of a list is in that list
each_names : (f : Uid → List ℕ) (o : Option (List Uid)) (u : Uid) → names (option_map (with_each f) o) u → is_named o u ≡ true
each_names f None u is = absurd is
each_names f (Some us) u is = by (is_in us u) refl
  where
    by : (b : Bool) → is_in us u ≡ b → is_in us u ≡ true
    by true e = e
    by false e = absurd (true≢false (sym is ∙ ap is_some (nothing_of_each f us u e)))

-- the action names the object where its file does
pub names_if : (file : FileMap) (role : Role) (a u : Uid) → is_named (objects_of file role a) u ≡ true → names (pend file role a) u
names_if file role a u is = rw (pend_is file role a) (names_each (new_state file) (objects_of file role a) u is)

-- the action's file names the object where the action does
pub named_if : (file : FileMap) (role : Role) (a u : Uid) → names (pend file role a) u → is_named (objects_of file role a) u ≡ true
named_if file role a u is = each_names (new_state file) (objects_of file role a) u (subst (λ o. names o u) (pend_is file role a) is)

-- the objects of an action that is prepared
pub pend_of : (file : FileMap) (role : Role) (a : Uid) (us : List Uid) → objects_of file role a ≡ Some us →
    pend file role a ≡ Some (with_each (new_state file) us)
pend_of file role a us is = pend_is file role a ∙ ap (option_map (with_each (new_state file))) is

-- an action that has no file has nothing prepared
pub pend_none : (file : FileMap) (role : Role) (a : Uid) → objects_of file role a ≡ None → pend file role a ≡ None
pend_none file role a is = pend_is file role a ∙ ap (option_map (with_each (new_state file))) is

-- it is prepared where it has a file
pub pend_there : (file : FileMap) (role : Role) (a : Uid) → IsSome (objects_of file role a) → IsSome (pend file role a)
pend_there file role a is = rw (pend_is file role a) (by (objects_of file role a) is)
  where
    by : (o : Option (List Uid)) → IsSome o → IsSome (option_map (with_each (new_state file)) o)
    by None is = is
    by (Some us) is = refl

-- where files and new states are the same, so is what is prepared
pub same_pend : (old new : FileMap) (role : Role) (a : Uid) → new (Prepared role a) ≡ old (Prepared role a) →
    ((u : Uid) → new_state new u ≡ new_state old u) → pend new role a ≡ pend old role a
same_pend old new role a file states = λ i. option_map (λ bytes. map (λ u. (u, states u i)) (named_in bytes)) (file i)

-- and so is what is committed
pub same_held : (old new : FileMap) (role : Role) (u : Uid) → new (Committed u) ≡ old (Committed u) → held new role u ≡ held old role u
same_held old new role u file = λ i. if role_eq (role_of u) role then file i else None

-- where the shadow and the committed file of an object are the same, so is its new state
pub same_new : (old new : FileMap) (u : Uid) → new (Shadow u) ≡ old (Shadow u) → new (Committed u) ≡ old (Committed u) →
    new_state new u ≡ new_state old u
same_new old new u shadow committed = λ i. first_file (shadow i) (committed i)

-- each role is equal to itself, as role_eq tells
pub own_role : (role : Role) → role_eq role role ≡ true
own_role Store = refl
own_role Names = refl

-- for the role of the object itself, its committed state is its committed file
pub held_own : (file : FileMap) (role : Role) (u : Uid) → role_of u ≡ role → held file role u ≡ file (Committed u)
held_own file role u own =
    subst (λ (r : Role). (if role_eq (role_of u) r then file (Committed u) else None) ≡ file (Committed u)) own (rw (own_role (role_of u)) refl)

-- roles that role_eq tells equal are the same
pub role_is : (a b : Role) → role_eq a b ≡ true → a ≡ b
role_is Store Store e = refl
role_is Store Names e = absurd (true≢false (sym e))
role_is Names Store e = absurd (true≢false (sym e))
role_is Names Names e = refl

-- an object that has a committed state for a role is of that role, and its committed file is there
pub held_of_role : (file : FileMap) (role : Role) (u : Uid) → IsSome (held file role u) → (role_of u ≡ role) × IsSome (file (Committed u))
held_of_role file role u is = by (role_eq (role_of u) role) refl
  where
    by : (b : Bool) → role_eq (role_of u) role ≡ b → (role_of u ≡ role) × IsSome (file (Committed u))
    by true e = (role_is (role_of u) role e, subst (λ (b : Bool). IsSome (if b then file (Committed u) else None)) e is)
    by false e = absurd (true≢false (sym (subst (λ (b : Bool). IsSome (if b then file (Committed u) else None)) e is)))
