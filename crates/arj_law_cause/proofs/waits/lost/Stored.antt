-- Entries that list some store: on a disk, and in what naming prepares on it.
use Rattle.arj_law_parts.proofs.Words
use Words.{◌≡◌, ◌==◌, ◌||◌, not, ℕ, Bool, true, false, cond, List, [], ◌∷◌, flat_map, Option, Some, None, refl}
use Words.{⊤, is_some, unwrap_or, AllByRecursion, Uid, End, Entry, ObjectState, Path, Row, Binding, BoundReply}
use Words.{ConfirmedReply, RecordedReply, entry, is_on, last_uid, top_of, Grants, Marks, checked, confirm, confirm_entries, confirm_new}
use Words.{confirms, entries_after, has_all, lock_all, lock_in, prepared_by, same_nodes, wanted}
use Words.{is_bare, other_grant, refused_exclude, is_there, first_of_each}
use Words.{grant_lines, is_granted, Abort, After, Already, Before, Commit, Did, Disk, Do, Effect, InDoubt, InPart, Look, Old, Pair, Prep}
use Words.{Prepare, PutInc, PutIntent, Ready, RemoveIntent, Say, Served, Stop, Work, either, held_at, is_prepared, moved_some, new_states}
use Words.{prepare_answer, reply, stopped, void, worked, Counted, Live, Made, Named, bind_call, bind_made, bind_named, conflict_on, entry_row}
use Words.{include_asked, in_use, is_lowered, live_above, live_asked, lock_lines, lower_lines, lowered, made_above, make_asked, note_made}
use Words.{note_named, note_other, did_nothing, Naming, bind, end_entries, end_lines, end_orphans, has_locks, is_over, listed_entry, note}
use Words.{on_counted, on_named, orphans, own_entries, taken_end, told_new, at_number, at_uid, binding_eq, put_uid, state_entry, is_binding}
use Words.body
use Words.confirmed
use Words.ending
use Words.mode
use Words.part
use Words.recorded
use Words.role
use Words.what
use Rattle.arj_law_runs.proofs.Terms.{told}
use Rattle.arj_law_runs.proofs.addresses.Lists.{all_append, all_at_uid, all_put, all_without}
use Rattle.arj_law_cause.proofs.waits.commits.Serving.{AreStill, IsPlain, NamingDoes, prepares_entries}
use Rattle.arj_protocol.specs.Effect.{moved}

-- the list has a node
abbrev pub IsFull : List ℕ → Type 0
IsFull [] = ⊥
IsFull (s ∷ ss) = ⊤

-- the entry lists a store
abbrev pub StateFull : ObjectState → Type 0
StateFull st = IsFull (let e = state_entry st in e.stores)

-- so does each entry of the pair, committed or prepared
pub record NamesFull (d : Pair) : Type 0 where
  pub held : AllByRecursion (λ (e : Uid × ObjectState). StateFull e.1) d.held
  pub pend : AllByRecursion (λ (e : Uid × List ObjectState). AllByRecursion StateFull e.1) d.pend

-- so does each entry that the work prepares
abbrev pub WorkFull : Work → Type 0
WorkFull (Prepare role.Names u states) = AllByRecursion StateFull states
WorkFull w = ⊤

-- so it is of an effect
abbrev pub OutFull : Effect → Type 0
OutFull (Do w) = WorkFull w
OutFull e = ⊤

abbrev pub Outs : List Effect → Type 0
Outs es = AreStill OutFull es

pub full_plain : IsPlain OutFull
full_plain = record { says = λ b is. tt; sends = λ to m. tt; works = work }
  where
    work : (w : Work) → prepares_entries w ≡ false → WorkFull w
    work (Prepare role.Names u states) is = absurd (cc is)
    work (Prepare role.Store u states) is = tt
    work Look is = tt
    work (PutInc i) is = tt
    work (Commit r u) is = tt
    work (Abort r u) is = tt
    work (PutIntent u i) is = tt
    work (RemoveIntent u) is = tt

-- ---- work on a disk

abbrev Held : List (Uid × ObjectState) → Type 0
Held held = AllByRecursion (λ (e : Uid × ObjectState). StateFull e.1) held

put_full : (s : ObjectState) (held : List (Uid × ObjectState)) → StateFull s → Held held → Held (put_uid s.uid s held)
put_full s held full all = all_put (λ (e : Uid × ObjectState). StateFull e.1) s.uid s held (λ w. full) all

moved_full : (ss : List ObjectState) (held : List (Uid × ObjectState)) → AllByRecursion StateFull ss → Held held → Held (moved ss held)
moved_full [] held all had = had
moved_full (s ∷ ss) held all had = moved_full ss (put_uid s.uid s held) all.1 (put_full s held all.0 had)

some_full : (which : Uid → Bool) (ss : List ObjectState) (held : List (Uid × ObjectState)) → AllByRecursion StateFull ss → Held held →
    Held (moved_some which ss held)
some_full which [] held all had = had
some_full which (s ∷ ss) held all had = some_full which ss (cond (which s.uid) (put_uid s.uid s held) held) all.1 (by (which s.uid))
  where
    by : (b : Bool) → Held (cond b (put_uid s.uid s held) held)
    by true = put_full s held all.0 had
    by false = had

new_full : (u : Uid) (d : Pair) → NamesFull d → AllByRecursion StateFull (new_states u d)
new_full u d full = by (at_uid u d.pend) refl
  where
    by : (o : Option (List ObjectState)) → at_uid u d.pend ≡ o → AllByRecursion StateFull (unwrap_or o [])
    by None is = tt
    by (Some ss) is = all_at_uid (AllByRecursion StateFull) u ss d.pend full.pend is

pub worked_full : (w : Work) (d : Disk) → WorkFull w → NamesFull d.names → NamesFull (let e = worked w d in e.names)
worked_full Look d its k = k
worked_full (PutInc i) d its k = k
worked_full (Prepare role.Store u states) d its k = k
worked_full (Prepare role.Names u states) d its k = record {
  held = k.held;
  pend = all_put (λ (e : Uid × List ObjectState). AllByRecursion StateFull e.1) u states d.names.pend (λ w. its) k.pend;
}
worked_full (Commit role.Store u) d its k = k
worked_full (Commit role.Names u) d its k =
    record { held = moved_full (new_states u d.names) d.names.held (new_full u d.names k) k.held; pend = all_without _ u d.names.pend k.pend }
worked_full (Abort role.Store u) d its k = k
worked_full (Abort role.Names u) d its k = record { held = k.held; pend = all_without _ u d.names.pend k.pend }
worked_full (PutIntent u i) d its k = k
worked_full (RemoveIntent u) d its k = k

pub stopped_full : (how : Stop) (w : Work) (d : Disk) → WorkFull w → NamesFull d.names → NamesFull (let e = stopped how w d in e.names)
stopped_full Before w d its k = k
stopped_full After w d its k = worked_full w d its k
stopped_full (InPart which) (Commit role.Store u) d its k = k
stopped_full (InPart which) (Commit role.Names u) d its k =
    record { held = some_full which (new_states u d.names) d.names.held (new_full u d.names k) k.held; pend = k.pend }
stopped_full (InPart which) Look d its k = k
stopped_full (InPart which) (PutInc i) d its k = k
stopped_full (InPart which) (Prepare r u states) d its k = k
stopped_full (InPart which) (Abort r u) d its k = k
stopped_full (InPart which) (PutIntent u i) d its k = k
stopped_full (InPart which) (RemoveIntent u) d its k = k

-- ---- naming

-- the entry that is committed lists a store
pub listed_full : (x : ℕ) (d : Pair) (s : ObjectState) → NamesFull d → held_at (entry x) d ≡ Some s → StateFull s
listed_full x d s full is = all_at_uid StateFull (entry x) s d.held full.held is

lines_full : (new : Row) (rows : List Row) → Outs (grant_lines 1 new rows)
lines_full new rows = by (is_granted new.object (last_uid new.holder) new.mode rows)
  where
    by : (b : Bool) → Outs (cond b [] (Say (body.Granted 1 (last_uid new.holder) new.object new.mode) ∷ []))
    by true = tt
    by false = (tt, tt)

module _ (inc x : ℕ) (p : Path) (e : Entry) (c : Counted) where
  named_full : (include : Bool) (avoid : Binding) → Outs (bind_named inc x p include avoid e c).outs
  named_full true avoid = by (conflict_on x p mode.Write c.named)
    where
      by : (r : Option Row) → Outs (include_asked inc x p e c r).outs
      by (Some r) = tt
      by None = lines_full (entry_row x p mode.Write) c.named.rows
  named_full false avoid = by (live_above avoid c.named.live)
    where
      live : (l : Live) (r : Option Row) → Outs (live_asked inc x p e c l r).outs
      live l (Some r) = tt
      live l None = lines_full (entry_row x p mode.Read) c.named.rows

      made : (m : Option Made) → Outs (bind_made inc x p e c m).outs
      made (Some m) = lines_full (entry_row x p mode.Write) c.named.rows
      made None = all_append OutFull (lock_lines x p mode.Write c.named) _ (lines_full (entry_row x p mode.Write) c.named.rows) (tt, tt)

      make : (r : Option Row) → Outs (make_asked inc x p avoid e c r).outs
      make (Some r) = tt
      make None = made (made_above avoid (at_uid (top_of p) c.named.made))

      by : (l : Option Live) → Outs (bind_call inc x p avoid e c l).outs
      by (Some l) = live l (conflict_on x p mode.Read c.named)
      by None = make (conflict_on x p mode.Write c.named)

binds_full : (d : Pair) (n : Naming) (p : Path) (x : ℕ) (include : Bool) (avoid : Binding) → Outs (bind p x include avoid d n).outs
binds_full d n p x include avoid = by (is_over p n)
  where
    call : Counted → Served Counted BoundReply
    call = bind_named n.inc x p include avoid (listed_entry x d)

    there : (o : Option Named) → Outs (on_counted x call n o).outs
    there None = tt
    there (Some o) = named_full n.inc x p (listed_entry x d) (record { named = o; count = n.count }) include avoid

    by : (b : Bool) → Outs (cond b (void n) (on_counted x call n (at_number x n.objects))).outs
    by true = tt
    by false = there (at_number x n.objects)

notes_full : (d : Pair) (n : Naming) (p : Path) (x : ℕ) (b : Binding) (i g : ℕ) → Outs (note p x b i g n).outs
notes_full d n p x b i g = by (is_over p n || not (is_some (at_number x n.objects))) (g == n.inc)
  where
    says : (o : Named) → Outs (note_named x (top_of p) b i o).outs
    says o = one (is_binding b o.recorded)
      where
        low : (c : Bool) → Outs (cond c (Say (body.Lowered 1 (top_of p) (entry x)) ∷ []) [])
        low true = (tt, tt)
        low false = tt

        made : (m : Made) (c : Bool) → Outs (cond {A = Served Named RecordedReply} c (reply o recorded.Yes) (record {
          part = lowered x (top_of p) (in_use (top_of p) m i o);
          outs = lower_lines x (top_of p) o;
          reply = Some recorded.Yes;
        })).outs
        made m true = tt
        made m false = low (is_lowered x (top_of p) o)

        same : (m : Made) (c : Bool) →
            Outs (cond {A = Served Named RecordedReply} c (note_made x (top_of p) i o m) (void o)).outs
        same m true = made m m.recorded
        same m false = tt

        other : (q : Option Made) → Outs (note_other x (top_of p) b i o q).outs
        other None = tt
        other (Some m) = same m (binding_eq b m.binding)

        one : (c : Bool) → Outs (cond {A = Served Named RecordedReply} c (reply o recorded.Yes)
            (note_other x (top_of p) b i o (at_uid (top_of p) o.made))).outs
        one true = tt
        one false = other (at_uid (top_of p) o.made)

    there : (o : Option Named) → Outs (on_named x (note_named x (top_of p) b i) n o).outs
    there None = tt
    there (Some o) = says o

    by : (over ours : Bool) → Outs (cond {A = Served Naming RecordedReply} over (void n) (cond {A = Served Naming RecordedReply} ours
        (on_named x (note_named x (top_of p) b i) n (at_number x n.objects)) (reply n (recorded.Changed (what.Inc g n.inc))))).outs
    by true ours = tt
    by false true = there (at_number x n.objects)
    by false false = tt

-- ---- confirms

either_none : {A : Type 0} (a b : Option A) → either a b ≡ None → (a ≡ None) × (b ≡ None)
either_none (Some x) b is = absurd (cc is)
either_none None b is = (refl, is)

not_bare : (s : ObjectState) → is_bare s ≡ None → StateFull s
not_bare s is = by (let e = state_entry s in e.stores) is
  where
    by : (ss : List ℕ) → ◌≡◌ {A = Option ConfirmedReply} (cond (same_nodes ss []) (Some (confirmed.NoStores s.uid.num)) None) None → IsFull ss
    by [] e = absurd (cc e)
    by (n ∷ ns) e = tt

none_bare : (ss : List ObjectState) → first_of_each is_bare ss ≡ None → AllByRecursion StateFull ss
none_bare [] is = tt
none_bare (s ∷ ss) is = let q = either_none (is_bare s) (first_of_each is_bare ss) is in (not_bare s q.0, none_bare ss q.1)

module _ (p : Path) where
  locks_full : (xs : List ℕ) (n : Naming) → Outs (lock_all xs p n).outs
  locks_full [] n = tt
  locks_full (x ∷ xs) n = all_append OutFull (lock_in x p n (at_number x n.objects)).outs
      (lock_all xs p (lock_in x p n (at_number x n.objects)).part).outs (one (at_number x n.objects))
      (locks_full xs (lock_in x p n (at_number x n.objects)).part)
    where
      one : (o : Option Named) → Outs (lock_in x p n o).outs
      one None = tt
      one (Some o) = lines_full (entry_row x p mode.Exclude) o.rows

  confirms_full : (grants : Grants) (excluded included : Marks) (d : Pair) (n : Naming) → Outs (confirm p grants excluded included d n).outs
  confirms_full grants excluded included d n =
      by (is_over p n || not (has_all grants n)) (is_on n.confirmed (top_of p) || is_prepared (top_of p) d)
    where
      states : List ObjectState
      states = entries_after (top_of p) grants excluded included d

      full : checked p grants excluded included d n ≡ None → AllByRecursion StateFull (entries_after (top_of p) grants excluded included d)
      full is =
          let a = either_none (first_of_each (other_grant n) grants) _ is in
          let b = either_none (first_of_each (refused_exclude p n) (wanted (top_of p) grants excluded d)) _ a.1 in
          let c = either_none (first_of_each (is_there d) included) _ b.1 in
          none_bare (entries_after (top_of p) grants excluded included d) c.1

      answered : (ss : List ObjectState) (t : Did Naming) (a : Prep) → AllByRecursion StateFull ss → Outs t.outs →
          Outs (prepared_by (top_of p) ss t a).outs
      answered ss t Ready all s = all_append OutFull t.outs (Do Look ∷ Do (Prepare role.Names (top_of p) ss) ∷ Say
          (body.Prepared 1 (top_of p) role.Names) ∷ []) s (tt, (all, (tt, tt)))
      answered ss t (Already u) all s = all_append OutFull t.outs (Do Look ∷ []) s (tt, tt)
      answered ss t (Old u v) all s = all_append OutFull t.outs (Do Look ∷ []) s (tt, tt)
      answered ss t (InDoubt u v) all s = all_append OutFull t.outs (Do Look ∷ []) s (tt, tt)

      entries : (ss : List ObjectState) (t : Did Naming) → AllByRecursion StateFull ss → Outs t.outs →
          Outs (confirm_entries (top_of p) ss d t).outs
      entries [] t all s = s
      entries (x ∷ xs) t all s = answered (x ∷ xs) t (prepare_answer (top_of p) (x ∷ xs) d) all s

      new : (c : Option ConfirmedReply) → checked p grants excluded included d n ≡ c → Outs (confirm_new p grants excluded included d n c).outs
      new (Some r) is = tt
      new None is = entries (entries_after (top_of p) grants excluded included d) (lock_all (wanted (top_of p) grants excluded d) p n)
          (full is) (locks_full (wanted (top_of p) grants excluded d) n)

      by : (over again : Bool) →
          Outs (cond {A = Served Naming ConfirmedReply} over (void n) (cond {A = Served Naming ConfirmedReply} again (reply
          (confirms (top_of p) n) confirmed.Yes) (confirm_new p grants excluded included d n (checked p grants excluded included d n)))).outs
      by true again = tt
      by false true = tt
      by false false = new (checked p grants excluded included d n) refl

-- ---- ends

ends_full : (u : Uid) (e : End) → Outs (end_entries u e)
ends_full u ending.Commit = (tt, (tt, tt))
ends_full u ending.Abort = (tt, (tt, tt))

told_full : (d : Pair) (n : Naming) (u : Uid) (e : End) → Outs (told u e d n).outs
told_full d n u e = all_append OutFull (own_entries u e d)
    (let t = cond {A = Did Naming} (is_on n.told u) (did_nothing n) (told_new u (taken_end u e n) d n) in t.outs)
    (own (is_prepared u d)) (outs_of (is_on n.told u))
  where
    own : (b : Bool) → Outs (cond b (end_entries u e) [])
    own true = ends_full u e
    own false = tt

    all_ends : (us : List Uid) → Outs (flat_map (λ act. end_entries act ending.Abort) us)
    all_ends [] = tt
    all_ends (w ∷ ws) = all_append OutFull (end_entries w ending.Abort) (flat_map (λ act. end_entries act ending.Abort) ws)
        (ends_full w ending.Abort) (all_ends ws)

    orphan : (end : End) → Outs (end_orphans u end d n)
    orphan ending.Commit = tt
    orphan ending.Abort = all_ends (orphans u d n)

    lines : (end : End) (b : Bool) → Outs (cond b (Say (body.Told 1 u end part.Naming) ∷ []) [])
    lines end true = (tt, tt)
    lines end false = tt

    outs_of : (b : Bool) → Outs (cond {A = Did Naming} b (did_nothing n) (told_new u (taken_end u e n) d n)).outs
    outs_of true = tt
    outs_of false = all_append OutFull (end_orphans u (taken_end u e n) d n) (end_lines u (taken_end u e n) n) (orphan (taken_end u e n))
        (lines (taken_end u e n) (has_locks u n))

-- whatever naming does, no entry that it prepares is left without a store
pub naming_full : (d : Pair) (n : Naming) → NamingDoes OutFull d n
naming_full d n = record {
  binds = λ p x include avoid. binds_full d n p x include avoid;
  notes = λ p x b i g. notes_full d n p x b i g;
  confirms = λ p grants excluded included. confirms_full p grants excluded included d n;
  told = λ u e. told_full d n u e;
}
