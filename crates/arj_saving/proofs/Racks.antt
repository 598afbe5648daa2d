-- The files of nodes, one node after another.
use Rattle.std.proofs.Common.{◌≡◌, ◌≤◌, ◌<◌, ℕ, ◌+◌, ◌-◌, zero, suc, List, [], ◌∷◌, slice_get, Some, Bool, true, false, ◌==◌, refl, sym, ◌∙◌, ap, subst, arith}
use Rattle.std.specs.Prelude.{Result, Err, slice_set}
use Rattle.std.proofs.Common.{true≢false}
use Rattle.std.proofs.lemmas.Bool.{eq-eqb, eqb-true}
use Rattle.arj_disk.specs.Counted.{counts}
use Rattle.arj_disk.specs.Disk.{CountsCall, Same}
use Rattle.arj_disk.specs.declared.disk.Disk as disk
use Rattle.arj_image.specs.declared.image.NodeFile.{NodeFile}
use Rattle.arj_saving.specs.Gathered.{AreBehind, AreFilesOf, HaveBeenRead, HaveSameFiles, files_in, node_files}
use Rattle.arj_world.proofs.Disks.{moved_call, moved_none, moved_on, stopped_at, stopped_later, unstopped_call, unstopped_none, unstopped_on}
use Rattle.arj_world.specs.Disks.{HasStopped, HaveMoved, HaveNotStopped}

-- These are the files of so many nodes; the disks' files stay, the disks of the other nodes, and each count of stops; and none was armed.
pub record AreGathered {D : Type 0} (d : disk.Ghosts D) (nodes : ℕ) (racks : List D × List D) (done : ℕ) (files : List NodeFile) : Type 0 where
  pub files_are : AreFilesOf (node_files d.file racks.0) done files
  pub same : HaveSameFiles d.file racks.0 racks.1
  pub rest : (i : ℕ) → done ≤ i → slice_get racks.1 i ≡ slice_get racks.0 i
  pub moved : HaveMoved d nodes [] racks.0 racks.1
  pub unstopped : HaveNotStopped d racks.0 racks.1

set_here : {A : Type 0} (xs : List A) (i : ℕ) (a b : A) → slice_get xs i ≡ Some b → slice_get (slice_set xs i a) i ≡ Some a
set_here [] i a b e = cc e
set_here (x ∷ xs) zero a b e = refl
set_here (x ∷ xs) (suc i) a b e = set_here xs i a b e

set_other : {A : Type 0} (xs : List A) (i j : ℕ) (a : A) → (j ≡ i → ⊥) → slice_get (slice_set xs i a) j ≡ slice_get xs j
set_other [] i j a apart = refl
set_other (x ∷ xs) zero zero a apart = absurd (apart refl)
set_other (x ∷ xs) zero (suc j) a apart = refl
set_other (x ∷ xs) (suc i) zero a apart = refl
set_other (x ∷ xs) (suc i) (suc j) a apart = set_other xs i j a (λ e. apart (ap suc e))

never : {P : Type 0} (b : Bool) → b ≡ true → b ≡ false → P
never b holds fails = absurd (true≢false (sym holds ∙ fails))

place : (done : ℕ) → (done + 1) - 1 ≡ done
place done = omega arith

behind : (done : ℕ) → suc done - 1 ≡ done
behind done = omega arith

one_more : (done : ℕ) → suc done ≡ done + 1
one_more done = omega arith

pub none_gathered : {D : Type 0} (d : disk.Ghosts D) (nodes : ℕ) (first : List D) (files : List NodeFile) → files ≡ [] →
    AreGathered d nodes (first, first) 0 files
none_gathered d nodes first files is = record {
  files_are = is;
  same = λ n q. refl;
  rest = λ i le. refl;
  moved = moved_none d nodes first;
  unstopped = unstopped_none d first;
}

module _ {D T E : Type 0} (d : disk.Ghosts D) (nodes : ℕ) (first now : List D) (old next : D) (done : ℕ) (files : List NodeFile) (so_far : AreGathered d nodes (first, now) done files)
    (lent : slice_get now ((done + 1) - 1) ≡ Some old) (r : Result T E) (stopped : E) (counted : CountsCall (counts d old) (counts d next) r stopped)
    (less : done < nodes) where
  here : slice_get now done ≡ Some old
  here = sym (ap (slice_get now) (place done)) ∙ lent

  there : slice_get first done ≡ Some old
  there = sym (so_far.rest done (omega arith)) ∙ here

  stay : Same (d.file old) (d.file next) → HaveSameFiles d.file first (slice_set now ((done + 1) - 1) next)
  stay same n q = ap (λ i. files_in d.file (slice_get (slice_set now i next) (n - 1)) q) (place done) ∙ by (n - 1 == done) refl
    where
      by : (b : Bool) → (n - 1 == done) ≡ b → files_in d.file (slice_get (slice_set now done next) (n - 1)) q ≡ node_files d.file first n q
      by true e =
          let at : n - 1 ≡ done = eqb-true (n - 1) done e in
          ap (λ i. files_in d.file (slice_get (slice_set now done next) i) q) at ∙ ap (λ o. files_in d.file o q) (set_here now done next old here) ∙ same q
          ∙ sym (ap (λ o. files_in d.file o q) there) ∙ sym (ap (λ i. files_in d.file (slice_get first i) q) at)
      by false e =
          ap (λ o. files_in d.file o q) (set_other now done (n - 1) next (λ at. never (n - 1 == done) (eq-eqb (n - 1) done at) e)) ∙ so_far.same n q

  moves : HaveMoved d nodes [] now (slice_set now ((done + 1) - 1) next)
  moves = moved_call d nodes (done + 1) now old next r stopped (omega arith) (omega (arith, less)) lent counted

  pub read_more : Same (d.file old) (d.file next) → HaveBeenRead d nodes first (slice_set now ((done + 1) - 1) next)
  read_more same = record {
    files = stay same;
    moved = moved_on d nodes nodes first now (slice_set now ((done + 1) - 1) next) refl so_far.moved moves;
  }

  pub gathered_more : (more : List NodeFile) → Same (d.file old) (d.file next) → (r ≡ Err stopped → ⊥) →
      AreBehind (done + 1) (d.file old) files more →
      AreGathered d nodes (first, slice_set now ((done + 1) - 1) next) (done + 1) more
  gathered_more more same none added = let read = read_more same in record {
    files_are = subst (λ n. AreFilesOf (node_files d.file first) n more) (one_more done) (
      files,
      so_far.files_are,
      subst (λ f. AreBehind (suc done) f files more) (sym (ap (λ i. files_in d.file (slice_get first i)) (behind done) ∙ ap (files_in d.file) there))
          (subst (λ n. AreBehind n (d.file old) files more) (sym (one_more done)) added),
    );
    same = read.files;
    rest = λ i le. ap (λ k. slice_get (slice_set now k next) i) (place done) ∙ set_other now done i next (λ e. omega (arith, le, e)) ∙ so_far.rest i (omega (arith, le));
    moved = read.moved;
    unstopped = unstopped_on d first now (slice_set now ((done + 1) - 1) next) so_far.unstopped
        (unstopped_call d (done + 1) now old next r stopped (omega arith) lent counted none);
  }

  pub risen : r ≡ Err stopped → HasStopped d first (slice_set now ((done + 1) - 1) next)
  risen is =
      let stops = counted.stops in
      stopped_later d nodes first now (slice_set now ((done + 1) - 1) next) so_far.moved moves
      (stopped_at d (done + 1) now old next lent (stops.rose is))
