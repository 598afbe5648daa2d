-- The files of a node, one name after another.
use Rattle.std.proofs.Common.{◌≡◌, ◌<◌, ℕ, ◌+◌, List, [], ◌∷◌, ◌++◌, length, take, get_or, Option, Some, None, refl, sym, ◌∙◌, ap, subst, append_assoc, arith}
use Rattle.std.specs.Prelude.{Result, Ok}
use Rattle.std.specs.List.{cons_option, filter_map}
use Rattle.std.specs.Option.{option_map}
use Rattle.std.proofs.lemmas.List.{append-nil, take_more}
use Rattle.arj_disk.specs.Counted.{counts}
use Rattle.arj_disk.specs.Disk.{Counts, CountsCall, Lists, Same}
use Rattle.arj_disk.specs.declared.disk.Disk as disk
use Rattle.arj_disk.specs.declared.slot.Slot.{Slot}
use Rattle.arj_image.specs.declared.image.NodeFile.{NodeFile}
use Rattle.arj_saving.specs.Gathered.{file_at, files_at}

-- ---- counts

-- no call was stopped
pub counts_ok : {T E : Type 0} (old new : Counts) (value : T) (stopped : E) → new ≡ old → CountsCall old new (Ok value) stopped
counts_ok old new value stopped same = record {
  stops = record {
    rose = λ is. absurd (cc is);
    later = let stops = ap (λ (c : Counts). c.stops) same in omega (arith, stops);
    ok = ap (λ (c : Counts). c.stops) same;
    other = tt;
  };
  arms = ap (λ (c : Counts). c.arms) same;
  last_arm = ap (λ (c : Counts). c.last_arm) same;
}

-- a call that wasn't stopped leaves the counts
pub counts_stay : {T E : Type 0} (old new : Counts) (value : T) (stopped : E) → CountsCall old new (Ok value) stopped → new ≡ old
counts_stay old new value stopped c =
    let stops = c.stops in
    λ i. record { stops = stops.ok i; arms = c.arms i; last_arm = c.last_arm i }

-- behind calls that weren't stopped
pub counts_on : {T E : Type 0} (old now new : Counts) (r : Result T E) (stopped : E) → now ≡ old → CountsCall now new r stopped →
    CountsCall old new r stopped
counts_on old now new r stopped same c = subst (λ o. CountsCall o new r stopped) same c

-- ---- files

-- Of these names those so far have their files behind the ones before; the disk's files stay, and its counts.
pub record IsGoing {D : Type 0} (d : disk.Ghosts D) (n : ℕ) (disks : D × D) (before all : List NodeFile) (names far : List Slot) : Type 0 where
  pub files : all ≡ before ++ files_at n (d.file disks.0) far
  pub same : Same (d.file disks.0) (d.file disks.1)
  pub counts_are : counts d disks.1 ≡ counts d disks.0
  pub names_are : Lists (d.file disks.0) names

push : {A B : Type 0} (f : A → Option B) (xs : List A) (x : A) → filter_map f (xs ++ x ∷ []) ≡ filter_map f xs ++ cons_option (f x) []
push f [] x = refl
push {A} {B} f (y ∷ xs) x = by (push f xs x) (f y)
  where
    by : filter_map f (xs ++ x ∷ []) ≡ filter_map f xs ++ cons_option (f x) [] → (o : Option B) →
        cons_option o (filter_map f (xs ++ x ∷ [])) ≡ cons_option o (filter_map f xs) ++ cons_option (f x) []
    by ih None = ih
    by ih (Some b) = ap (λ ys. b ∷ ys) ih

pub first_going : {D : Type 0} (d : disk.Ghosts D) (n : ℕ) (old now : D) (before : List NodeFile) (names : List Slot) →
    Same (d.file old) (d.file now) → counts d now ≡ counts d old → Lists (d.file old) names → IsGoing d n (old, now) before before names []
first_going d n old now before names same stay lists =
    record { files = sym (append-nil before); same = same; counts_are = stay; names_are = lists }

-- one more
pub next_going : {D : Type 0} (d : disk.Ghosts D) (n : ℕ) (old now next : D) (before all more : List NodeFile) (names : List Slot) (i : ℕ) (s : Slot) →
    i < length names → IsGoing d n (old, now) before all names (take i names)
    → more ≡ all ++ cons_option (file_at n (d.file now) (get_or names i s)) [] → Same (d.file now) (d.file next) → counts d next ≡ counts d now
    → IsGoing d n (old, next) before more names (take (i + 1) names)
next_going d n old now next before all more names i s lt going is same stay = record {
  files =
      is ∙ (λ k. going.files k ++ cons_option (option_map (λ bytes. record { node = n; slot = get_or names i s; bytes = bytes }) (going.same (get_or names i s) k)) [])
      ∙ append_assoc before (files_at n (d.file old) (take i names)) (cons_option (file_at n (d.file old) (get_or names i s)) [])
      ∙ ap (λ fs. before ++ fs) (sym (push (file_at n (d.file old)) (take i names) (get_or names i s)) ∙ sym (ap (files_at n (d.file old)) (take_more names i s lt)));
  same = λ q. same q ∙ going.same q;
  counts_are = stay ∙ going.counts_are;
  names_are = going.names_are;
}
