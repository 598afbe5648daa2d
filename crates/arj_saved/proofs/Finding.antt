-- States that are found among those of files.
use Rattle.std.proofs.Common.{◌≡◌, ◌<◌, ℕ, ◌+◌, List, [], ◌∷◌, ◌++◌, Bool, true, false, cond, ◌&&◌, ◌||◌, Option, Some, None, map, take, drop, get_or, length}
use Rattle.std.proofs.Common.{refl, sym, ◌∙◌, ap, subst}
use Rattle.std.specs.Prelude.{IfSome, MatchBool, is_some, ◌==◌}
use Rattle.std.specs.List.{AllByRecursion, cons_option, filter_map, list_any}
use Rattle.std.specs.Option.{option_map, option_or, unwrap_or}
use Rattle.std.proofs.lemmas.Bool.{eq-eqb}
use Rattle.std.proofs.lemmas.List.{drop_more, take_more}
use Rattle.arj_base.specs.Uid.{uid_eq}
use Rattle.arj_base.specs.declared.uid.Uid.{Uid}
use Rattle.arj_disk.specs.Says.{names, new_of, role_eq}
use Rattle.arj_disk.specs.declared.slot.Role.{Role}
use Rattle.arj_disk.specs.declared.slot.Slot.{Slot}
use Rattle.arj_disk.specs.declared.slot.Slot.TheVariants as slot
use Rattle.arj_image.specs.declared.image.NodeFile.{NodeFile}
use Rattle.arj_model.specs.Disks.{InDoubt}
use Rattle.arj_saved.specs.Saved.{Rows, disks_of, held_among, join_states, pend_among, pend_at, pending_at, pendings_in, prepared_in, rows_of}
use Rattle.arj_saved.specs.Saved.{state_in_rows}
use Rattle.arj_saved.specs.declared.kept.Kept.{Kept}

-- ---- what is kept of one file more

filter_push : {A B : Type 0} (f : A → Option B) (xs : List A) (x : A) → filter_map f (xs ++ x ∷ []) ≡ filter_map f xs ++ cons_option (f x) []
filter_push f [] x = refl
filter_push {A} {B} f (y ∷ xs) x = by (filter_push f xs x) (f y)
  where
    by : filter_map f (xs ++ x ∷ []) ≡ filter_map f xs ++ cons_option (f x) [] → (o : Option B) →
        cons_option o (filter_map f (xs ++ x ∷ [])) ≡ cons_option o (filter_map f xs) ++ cons_option (f x) []
    by ih None = ih
    by ih (Some b) = ap (λ ys. b ∷ ys) ih

pub kept_more : (f : NodeFile → Option Rows) (files : List NodeFile) (at : ℕ) (file : NodeFile) (old new : List Kept) (one : Option Rows) →
    at < length files → file ≡ get_or files at file → one ≡ f file → map rows_of new ≡ map rows_of old ++ cons_option one [] →
    map rows_of old ≡ filter_map f (take at files) → map rows_of new ≡ filter_map f (take (at + 1) files)
kept_more f files at file old new one lt is told more so_far =
    more ∙ (λ i. so_far i ++ cons_option (told i) []) ∙ sym (filter_push f (take at files) file)
    ∙ ap (filter_map f) (ap (λ x. take at files ++ x ∷ []) is ∙ sym (take_more files at file lt))

push_map : {A B : Type 0} (f : A → B) (xs : List A) (x : A) → map f (xs ++ x ∷ []) ≡ map f xs ++ f x ∷ []
push_map f [] x = refl
push_map f (y ∷ xs) x = ap (λ ys. f y ∷ ys) (push_map f xs x)

-- ---- the last segment that has a state

held_join : (xs ys : List Rows) (n : ℕ) (role : Role) (u : Uid) → held_among (xs ++ ys) n role u ≡ option_or (held_among ys n role u) (held_among xs n role u)
held_join [] ys n role u = by (held_among ys n role u)
  where
    by : (o : Option (List ℕ)) → o ≡ option_or o None
    by None = refl
    by (Some x) = refl
held_join (r ∷ xs) ys n role u = ap (λ o. option_or o (state_in_rows n role u r)) (held_join xs ys n role u) ∙ by (held_among ys n role u)
  where
    by : (o : Option (List ℕ)) → option_or (option_or o (held_among xs n role u)) (state_in_rows n role u r) ≡ option_or o (option_or (held_among xs n role u) (state_in_rows n role u r))
    by None = refl
    by (Some x) = refl

-- with one segment more
pub held_more : (ss : List Kept) (at : ℕ) (k : Kept) (n : ℕ) (role : Role) (u : Uid) → at < length ss → k ≡ get_or ss at k →
    held_among (map rows_of (take (at + 1) ss)) n role u ≡ option_or (state_in_rows n role u (rows_of k)) (held_among (map rows_of (take at ss)) n role u)
held_more ss at k n role u lt is =
    ap (λ xs. held_among (map rows_of xs) n role u) (take_more ss at k lt ∙ (λ i. take at ss ++ sym is i ∷ []))
    ∙ ap (λ rs. held_among rs n role u) (push_map rows_of (take at ss) k)
    ∙ held_join (map rows_of (take at ss)) (rows_of k ∷ []) n role u

-- ---- what is prepared

-- a file names a Uid
abbrev pub names_in : ℕ → Role → Uid → Rows → Bool
names_in n role u r = is_some (state_in_rows n role u r)

new_join : (xs ys : List (Uid × List ℕ)) (u : Uid) → new_of (xs ++ ys) u ≡ option_or (new_of xs u) (new_of ys u)
new_join [] ys u = refl
new_join (e ∷ xs) ys u = by (uid_eq u e.0) (new_join xs ys u)
  where
    by : (b : Bool) → new_of (xs ++ ys) u ≡ option_or (new_of xs u) (new_of ys u) →
        cond b (Some e.1) (new_of (xs ++ ys) u) ≡ option_or (cond b (Some e.1) (new_of xs u)) (new_of ys u)
    by true ih = refl
    by false ih = ih

uid_self : (a : Uid) → uid_eq a a ≡ true
uid_self a = λ i. eq-eqb a.node a.node refl i && (eq-eqb a.inc a.inc refl i && eq-eqb a.num a.num refl i)

or_first : (a b : Option (List ℕ)) → is_some a ≡ true → is_some (option_or a b) ≡ true
or_first None b e = absurd (cc e)
or_first (Some x) b e = refl

or_second : (a b : Option (List ℕ)) → is_some b ≡ true → is_some (option_or a b) ≡ true
or_second None b e = e
or_second (Some x) b e = refl

or_else : (a b : Option (List ℕ)) → is_some (option_or a b) ≡ true → is_some a ≡ false → is_some b ≡ true
or_else None b e f = e
or_else (Some x) b e f = absurd (cc f)

any_second : (a b : Bool) → b ≡ true → (a || b) ≡ true
any_second true b e = refl
any_second false b e = e

module _ (n : ℕ) (role : Role) (u : Uid) where
  names_first : (xs : List (Uid × List ℕ)) (rest : Option (List (Uid × List ℕ))) → is_some (new_of xs u) ≡ true → names (join_states (Some xs) rest) u
  names_first xs rest e = ap is_some (new_join xs (unwrap_or rest []) u) ∙ or_first (new_of xs u) (new_of (unwrap_or rest []) u) e

  names_join : (o rest : Option (List (Uid × List ℕ))) → names rest u → names (join_states o rest) u
  names_join None rest h = h
  names_join (Some xs) None h = absurd h
  names_join (Some xs) (Some es) h = ap is_some (new_join xs es u) ∙ or_second (new_of xs u) (new_of es u) h

  -- the test of a file, by its parts
  cond_is : (x y z : Bool) (xs : List (Uid × List ℕ)) → is_some (cond (x && y) (new_of xs u) None) ≡ true → z ≡ true →
      (cond (x && (y && z)) (Some xs) None ≡ Some xs) × (is_some (new_of xs u) ≡ true)
  cond_is true true true xs e f = (refl, e)
  cond_is true true false xs e f = absurd (cc f)
  cond_is true false z xs e f = absurd (cc e)
  cond_is false y z xs e f = absurd (cc e)

  doubt_one : (m : ℕ) (s : Slot) (bytes : List ℕ) (fs : List NodeFile) →
      (list_any (names_in n role u) (pendings_in fs) ≡ true → (a : Uid) × names (pend_among fs n role a) u) →
      list_any (names_in n role u) (cons_option (pending_at m s bytes) (pendings_in fs)) ≡ true →
      (a : Uid) × names (join_states (pend_at n role a m s bytes) (pend_among fs n role a)) u
  doubt_one m (slot.Pending r b) bytes fs ih e =
      by (names_in n role u (record { node = m; role = r; states = prepared_in bytes })) refl e
    where
      by : (t : Bool) → names_in n role u (record { node = m; role = r; states = prepared_in bytes }) ≡ t →
          (t || list_any (names_in n role u) (pendings_in fs)) ≡ true →
          (a : Uid) × names (join_states (pend_at n role a m (slot.Pending r b) bytes) (pend_among fs n role a)) u
      by true is g =
          let p = cond_is (m == n) (role_eq r role) (uid_eq b b) (prepared_in bytes) is (uid_self b) in
          (b, subst (λ o. names (join_states o (pend_among fs n role b)) u) (sym p.0) (names_first (prepared_in bytes) (pend_among fs n role b) p.1))
      by false is g = let d = ih g in (d.0, names_join (pend_at n role d.0 m (slot.Pending r b) bytes) (pend_among fs n role d.0) d.1)
  doubt_one m _ bytes fs ih e = ih e

  pub doubt_of : (files : List NodeFile) → list_any (names_in n role u) (pendings_in files) ≡ true → InDoubt (disks_of files n) role u
  doubt_of [] e = absurd (cc e)
  doubt_of (f ∷ fs) e = doubt_one f.node f.slot f.bytes fs (doubt_of fs) e

  named_one : (m : ℕ) (s : Slot) (bytes : List ℕ) (fs : List NodeFile) (a : Uid) →
      (names (pend_among fs n role a) u → list_any (names_in n role u) (pendings_in fs) ≡ true) →
      names (join_states (pend_at n role a m s bytes) (pend_among fs n role a)) u →
      list_any (names_in n role u) (cons_option (pending_at m s bytes) (pendings_in fs)) ≡ true
  named_one m (slot.Pending r b) bytes fs a ih h = by (m == n) (role_eq r role) (uid_eq b a) (pend_among fs n role a) ih h
    where
      any : Bool
      any = list_any (names_in n role u) (pendings_in fs)

      rest : (o : Option (List (Uid × List ℕ))) → (names o u → any ≡ true) → is_some (new_of (unwrap_or o []) u) ≡ true → any ≡ true
      rest None k e = absurd (cc e)
      rest (Some es) k e = k e

      here : (o : Option (List (Uid × List ℕ))) → (names o u → any ≡ true) → is_some (new_of (prepared_in bytes ++ unwrap_or o []) u) ≡ true →
          (t : Bool) → is_some (new_of (prepared_in bytes) u) ≡ t → (t || any) ≡ true
      here o k e true is = refl
      here o k e false is = rest o k (or_else (new_of (prepared_in bytes) u) (new_of (unwrap_or o []) u) (sym (ap is_some (new_join (prepared_in bytes) (unwrap_or o []) u)) ∙ e) is)

      by : (x y z : Bool) (o : Option (List (Uid × List ℕ))) → (names o u → any ≡ true) → names (join_states (cond (x && (y && z)) (Some (prepared_in bytes)) None) o) u →
          (is_some (cond (x && y) (new_of (prepared_in bytes) u) None) || any) ≡ true
      by true true true o k g = here o k g (is_some (new_of (prepared_in bytes) u)) refl
      by true true false o k g = any_second (is_some (new_of (prepared_in bytes) u)) any (k g)
      by true false z o k g = k g
      by false y z o k g = k g
  named_one m _ bytes fs a ih h = ih h

  pub of_doubt : (files : List NodeFile) (a : Uid) → names (pend_among files n role a) u → list_any (names_in n role u) (pendings_in files) ≡ true
  of_doubt [] a h = absurd h
  of_doubt (f ∷ fs) a h = named_one f.node f.slot f.bytes fs a (of_doubt fs a) h

  pub doubt_test : (files : List NodeFile) (b : Bool) → b ≡ list_any (names_in n role u) (pendings_in files) →
      MatchBool b (InDoubt (disks_of files n) role u) (InDoubt (disks_of files n) role u → ⊥)
  doubt_test files true e = doubt_of files (sym e)
  doubt_test files false e = λ d. absurd (let never : true ≡ false = sym (of_doubt files d.0 d.1) ∙ sym e in cc never)

-- ---- states in form

pub all_item : {A : Type 0} (P : A → Type 0) (xs : List A) (at : ℕ) (x : A) → at < length xs → x ≡ get_or xs at x → AllByRecursion P (drop at xs) →
    P x × AllByRecursion P (drop (at + 1) xs)
all_item P xs at x lt is h = subst (AllByRecursion P) (drop_more xs at x lt ∙ (λ i. sym is i ∷ drop (at + 1) xs)) h

pub map_or : {A B : Type 0} (f : A → B) (a b : Option A) → option_map f (option_or a b) ≡ option_or (option_map f a) (option_map f b)
map_or f None b = refl
map_or f (Some x) b = refl

pub some_or : {A : Type 0} (P : A → Type 0) (a b : Option A) → IfSome a P → IfSome b P → IfSome (option_or a b) P
some_or P None b h k = k
some_or P (Some x) b h k = h
