-- What is said of an object is what the protocol's node says of it.
use Rattle.std.proofs.Common.{◌≡◌, ◌∙◌, ◌++◌, ◌==◌, ℕ, true, false, List, [], refl, sym, ap, subst, Option, Some, None}
use Rattle.std.specs.Prelude.{is_some, if◌then◌else◌}
use Rattle.std.proofs.lemmas.List.{append-nil, append_assoc}
use Rattle.arj_base.specs.Uid.{entry, object}
use Rattle.arj_base.specs.declared.state.ObjectState.{ObjectState}
use Rattle.arj_base.specs.declared.uid.Uid.{Uid}
use Rattle.arj_disk.specs.Disk.{Same}
use Rattle.arj_disk.specs.FileMap.{FileMap}
use Rattle.arj_journal.specs.declared.body.Line.{Line}
use Rattle.arj_naming.specs.Confirming.{AreLines}
use Rattle.arj_naming.specs.Kept as naming
use Rattle.arj_naming.specs.Said.{said}
use Rattle.arj_naming.proofs.Cuts.{said_append}
use Rattle.arj_protocol.specs.Effect.{Disk, Effect, Pair, held_at, holder_of, stopped}
use Rattle.arj_protocol.specs.Step.{copy_line, entry_line, show_entry, shown}
use Rattle.arj_serve.specs.Did.{AreLocal, Call, IsCut, disk_after}
use Rattle.arj_serve.specs.Kept.{IsDiskOf, Kept, NamingStands, StandsOn}
use Rattle.arj_serve.specs.Shown.{IsShown, Shows, ShowsInPart}
use Rattle.arj_serve.proofs.Cuts.{after_append, cut_back, cut_front, local_append, look_cut}
use Rattle.arj_serve.proofs.Roles.{disk_is}
use Rattle.arj_serve.proofs.Served.{lines_after, lines_local}
use Rattle.arj_store.specs.declared.answer.Read.{Read}
use Rattle.arj_store.specs.declared.answer.Read.TheVariants as read
use Rattle.arj_store.specs.declared.store.ObjectStore.{Ghosts}
use Rattle.arj_law_store.specs.store.Reads.{ReadsAs, state_of}

-- ---- one line

-- `line` is what is said of a state, and it is lines
module _ (line : Option ObjectState → List Effect) (lines : (s : Option ObjectState) → AreLines (line s)) (u : Uid) (p : Pair) where
  shown_local : (h : Option Uid) → AreLocal (shown line u p h)
  shown_local (Some holder) = tt
  shown_local None = lines_local (line (held_at u p)) (lines (held_at u p))

  shown_quiet : (h : Option Uid) (d : Disk) → disk_after (shown line u p h) d ≡ d
  shown_quiet (Some holder) d = refl
  shown_quiet None d = lines_after (line (held_at u p)) d (lines (held_at u p))

  -- what was read is shown
  shown_read : line None ≡ [] → (a : Read) → ReadsAs p u a → said (line (state_of a)) ≡ said (shown line u p (holder_of u p))
  shown_read nothing (read.State s) reads = sym ((λ i. said (shown line u p (reads.0 i))) ∙ (λ i. said (line (reads.1 i))))
  shown_read nothing (read.InDoubt holder) reads = ap said nothing ∙ (λ i. said (shown line u p (sym reads i)))
  shown_read nothing read.Absent reads = sym ((λ i. said (shown line u p (reads.0 i))) ∙ (λ i. said (line (reads.1 i))))

entry_lines : (x : ℕ) (s : Option ObjectState) → AreLines (entry_line x s)
entry_lines x None = tt
entry_lines x (Some s) = tt

copy_lines : (n x : ℕ) (s : Option ObjectState) → AreLines (copy_line n x s)
copy_lines n x None = tt
copy_lines n x (Some s) = tt

-- ---- the calls

module _ {O : Type 0} (o : Ghosts O) (k : Kept O) (file left : FileMap) (same : Same file left) (before after : List Line) where
  files_are : left ≡ file
  files_are = λ i q. same q i

  abbrev call : Call O
  call = record { old = k; new = k; file = file; left = left; before = before; after = after }

  still : (d : Disk) → StandsOn o k file d → StandsOn o k left d
  still d stands = subst (λ f. StandsOn o k f d) (sym files_are) stands

  -- a stop fell into a read
  cut_read : (line : Option ObjectState → List Effect) (u : Uid) (p : Pair) (outs : List Effect) (d : Disk) → StandsOn o k file d →
      holder_of u p ≡ None → shown line u p (holder_of u p) ≡ outs → after ≡ before → IsCut o outs call d
  cut_read line u p outs d stands free are unsaid =
      look_cut o call d outs (line (held_at u p)) (sym are ∙ (λ i. shown line u p (free i))) (subst (λ f. IsDiskOf o (is_some k.naming) f d) (sym files_are) (disk_is o k file d stands)) unsaid

  pub copy_shown : (x : ℕ) (a : Read) → ((d : Disk) → StandsOn o k file d → ReadsAs d.store (object x) a) →
      after ≡ before ++ said (copy_line k.number x (state_of a))
      → Shows o (λ (d : Disk). shown (copy_line k.number x) (object x) d.store (holder_of (object x) d.store)) call
  copy_shown x a reads lines d stands = record {
    local = shown_local (copy_line k.number x) (copy_lines k.number x) (object x) d.store (holder_of (object x) d.store);
    quiet = shown_quiet (copy_line k.number x) (copy_lines k.number x) (object x) d.store (holder_of (object x) d.store) d;
    lines = lines ∙ ap (λ ls. before ++ ls) (shown_read (copy_line k.number x) (copy_lines k.number x) (object x) d.store refl a (reads d stands));
    stands = still d stands;
  }

  pub copy_cut : (x : ℕ) → ((d : Disk) → StandsOn o k file d → holder_of (object x) d.store ≡ None) → after ≡ before
      → ShowsInPart o (λ (d : Disk). shown (copy_line k.number x) (object x) d.store (holder_of (object x) d.store)) call
  copy_cut x free unsaid d stands =
      cut_read (copy_line k.number x) (object x) d.store (shown (copy_line k.number x) (object x) d.store (holder_of (object x) d.store)) d stands (free d stands) refl unsaid

  -- naming shows an entry
  module _ (x : ℕ) (place : is_some k.naming ≡ (k.number == 1)) where
    pub no_entry : k.naming ≡ None → after ≡ before → Shows o (λ (d : Disk). show_entry k.number x d.names) call
    no_entry none unsaid d stands =
        let other : (k.number == 1) ≡ false = sym place ∙ ap is_some none in
        let is : [] ≡ show_entry k.number x d.names =
        λ i. if sym other i then shown (entry_line x) (entry x) d.names (holder_of (entry x) d.names) else [] in
        subst (λ es. IsShown o es call d) is (record {
          local = tt;
          quiet = refl;
          lines = unsaid ∙ sym (append-nil before);
          stands =
              still d stands;
        })

    module _ (n : naming.Kept O) (was : k.naming ≡ Some n) where
      entry_is : (d : Disk) → StandsOn o k file d →
          shown (entry_line x) (entry x) n.pair (holder_of (entry x) n.pair) ≡ show_entry k.number x d.names
      entry_is d stands =
          let named : NamingStands o (Some n) file d.names = subst (λ m. NamingStands o m file d.names) was stands.naming in
          let here : (k.number == 1) ≡ true = sym place ∙ ap is_some was in
          (λ i. shown (entry_line x) (entry x) (named.1 i) (holder_of (entry x) (named.1 i))) ∙ (λ i. if sym here i then shown (entry_line x) (entry x) d.names (holder_of (entry x) d.names) else [])

      pub entry_shown : after ≡ before ++ said (shown (entry_line x) (entry x) n.pair (holder_of (entry x) n.pair)) →
          Shows o (λ (d : Disk). show_entry k.number x d.names) call
      entry_shown lines d stands = subst (λ es. IsShown o es call d) (entry_is d stands) (record {
        local = shown_local (entry_line x) (entry_lines x) (entry x) n.pair (holder_of (entry x) n.pair);
        quiet = shown_quiet (entry_line x) (entry_lines x) (entry x) n.pair (holder_of (entry x) n.pair) d;
        lines = lines;
        stands = still d stands;
      })

      pub entry_cut : holder_of (entry x) n.pair ≡ None → after ≡ before → ShowsInPart o (λ (d : Disk). show_entry k.number x d.names) call
      entry_cut free unsaid d stands =
          cut_read (entry_line x) (entry x) n.pair (show_entry k.number x d.names) d stands free (entry_is d stands) unsaid

-- ---- one behind the other

module _ {O : Type 0} (o : Ghosts O) (k : Kept O) (file middle left : FileMap) (before between after : List Line) (f g : Disk → List Effect)
    (first : Shows o f (record { old = k; new = k; file = file; left = middle; before = before; after = between })) where
  abbrev both : Call O
  both = record { old = k; new = k; file = file; left = left; before = before; after = after }

  pub both_shown : Shows o g (record { old = k; new = k; file = middle; left = left; before = between; after = after }) →
      Shows o (λ (d : Disk). f d ++ g d) both
  both_shown second d stands =
      let one = first d stands in
      let two = second d one.stands in
      record {
        local = local_append (f d) (g d) one.local two.local;
        quiet = after_append (f d) (g d) d ∙ (ap (disk_after (g d)) one.quiet ∙ two.quiet);
        lines = two.lines ∙ ((λ i. one.lines i ++ said (g d)) ∙ (append_assoc before (said (f d)) (said (g d)) ∙ ap (λ ls. before ++ ls) (sym (said_append (f d) (g d)))));
        stands = two.stands;
      }

  pub both_cut : ShowsInPart o g (record { old = k; new = k; file = middle; left = left; before = between; after = after }) →
      ShowsInPart o (λ (d : Disk). f d ++ g d) both
  both_cut second d stands =
      let one = first d stands in
      let c = second d one.stands in
      cut_back o both d (f d) (g d) one.local (record {
        front = c.front;
        work = c.work;
        back = c.back;
        how = c.how;
        are = c.are;
        local = c.local;
        lines = c.lines ∙ (λ i. one.lines i ++ said c.front);
        disk = subst (λ e. IsDiskOf o (is_some k.naming) left (stopped c.how c.work (disk_after c.front e))) (sym one.quiet) c.disk;
      })

-- a stop fell into the first
pub first_cut : {O : Type 0} (o : Ghosts O) (call : Call O) (f g : Disk → List Effect) → ShowsInPart o f call →
    ShowsInPart o (λ (d : Disk). f d ++ g d) call
first_cut o call f g cut d stands = cut_front o call d (f d) (g d) (cut d stands)
