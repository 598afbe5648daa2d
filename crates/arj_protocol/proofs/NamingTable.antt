-- The locks of naming change by its lines, and by these alone.
use Rattle.std.proofs.Common.{◌≡◌, ℕ, ◌+◌, List, [], ◌∷◌, ◌++◌, Bool, true, false, cond, refl, sym, ◌∙◌, ap, subst, Option, Some, None}
use Rattle.std.proofs.Common.{◌==◌, ⊎_elim}
use Rattle.std.specs.Prelude.{not, ◌||◌, if◌then◌else◌, is_some}
use Rattle.std.specs.List.{flat_map}
use Rattle.std.specs.Ordering.{nat_cmp, is_eq}
use Rattle.arj_protocol.specs.Words.{Uid, End, Mode, Path, Binding, ObjectState, Entry, Row, ConfirmedReply, RecordedReply, BoundReply}
use Rattle.arj_protocol.specs.Words.{uid_eq, nobody, entry, tops_of, lower_row, is_on}
use Rattle.arj_protocol.specs.Words.mode
use Rattle.arj_protocol.specs.Words.ending
use Rattle.arj_protocol.specs.Words.body
use Rattle.arj_protocol.specs.Words.part
use Rattle.arj_protocol.specs.Words.role
use Rattle.arj_protocol.specs.Words.what
use Rattle.arj_protocol.specs.Words.recorded
use Rattle.arj_protocol.specs.Words.confirmed
use Rattle.arj_protocol.specs.Order.{at_number, put_number, each, at_uid, binding_eq}
use Rattle.arj_protocol.specs.Effect.{Effect, Say, Do, Look, Prepare, Served, Did, Pair, Prep, Ready, Already, Old, InDoubt, void, reply}
use Rattle.arj_protocol.specs.Effect.{did_nothing, is_prepared, prepare_answer}
use Rattle.arj_protocol.specs.Ask.{top_path, top_of}
use Rattle.arj_protocol.specs.Copy.{holds}
use Rattle.arj_protocol.specs.Named.{Named, Counted, Live, Made, bind_named, bind_call, live_asked, make_asked, include_asked, bind_made}
use Rattle.arj_protocol.specs.Named.{bound_new, locked, lock_lines, conflict_on, live_above, made_above, next_server, note_named}
use Rattle.arj_protocol.specs.Named.{note_other, note_made, is_lowered, lowered, lower_lines, in_use, end_named, hello_named}
use Rattle.arj_protocol.specs.Naming.{Naming, bind, note, told, told_new, hello, on_counted, on_named, is_over, listed_entry, taken_end}
use Rattle.arj_protocol.specs.Naming.{end_locks, end_lines, has_locks, end_orphans, orphans, end_entries, own_entries}
use Rattle.arj_protocol.specs.Confirm.{Grants, Marks, confirm, confirm_new, confirm_entries, prepared_by, confirms, lock_in, lock_all}
use Rattle.arj_protocol.specs.Confirm.{wanted, checked, has_all, entries_after}
use Rattle.arj_protocol.specs.Laws.{Holders, IsPathOf, NamingTable, naming_rows, rows_in_named, rows_after, rows_ended}
use Rattle.arj_protocol.proofs.Maps.{put_other, put_same, found_any}
use Rattle.arj_protocol.proofs.RowSteps.{one_or_two, same_number, after_both, asked_after, asked_elsewhere, ends_none, told_after}
use Rattle.arj_protocol.specs.Order.{is_binding}

-- the table of the entry of object x
module _ (h : Holders) (x : ℕ) where
  both_table : (n m v : Naming) (es fs : List Effect) → NamingTable h x n es m → NamingTable h x m fs v → NamingTable h x n (es ++ fs) v
  both_table n m v es fs a b =
      b ∙ ap (rows_after h 1 part.Naming (entry x) fs) a ∙ sym (after_both h 1 part.Naming (entry x) es fs (naming_rows x n))

  -- ---- a call on one object

  -- the part of object y changes by these lines, and they say nothing of another
  record OnOne (y : ℕ) (o new : Named) (outs : List Effect) : Type 0 where
    own : new.rows ≡ rows_after h 1 part.Naming (entry y) outs o.rows
    others : (rows : List Row) → uid_eq (entry y) (entry x) ≡ false → rows_after h 1 part.Naming (entry x) outs rows ≡ rows

  put_table : (y : ℕ) (n m : Naming) (o new : Named) (outs : List Effect) → at_number y n.objects ≡ Some o →
      m.objects ≡ put_number y new n.objects → OnOne y o new outs → NamingTable h x n outs m
  put_table y n m o new outs found is on = ⊎_elim {C = NamingTable h x n outs m} one two (one_or_two y x)
    where
      one : y ≡ x → NamingTable h x n outs m
      one same = subst (λ k. naming_rows k m ≡ rows_after h 1 part.Naming (entry k) outs (naming_rows k n)) same
          (ap (λ ns. rows_in_named (at_number y ns)) is ∙ ap rows_in_named (put_same y new n.objects) ∙ on.own ∙ ap (λ p. rows_after h 1 part.Naming (entry y) outs (rows_in_named p)) (sym found))

      two : (is_eq (nat_cmp x y) ≡ false) × ((y == x) ≡ false) → NamingTable h x n outs m
      two apart = ap (λ ns. rows_in_named (at_number x ns)) is ∙ ap rows_in_named (put_other y x new n.objects apart.0) ∙ sym (on.others (naming_rows x n) apart.1)

  unchanged : (y : ℕ) (o new : Named) → new.rows ≡ o.rows → OnOne y o new []
  unchanged y o new same = record { own = same; others = λ rows apart. refl }

  lock_on : (y : ℕ) (p : Path) (m : Mode) (o : Named) → IsPathOf h (top_of p) (top_path p) (tops_of p) →
      OnOne y o (locked y p m o) (lock_lines y p m o)
  lock_on y p m o is = record {
    own = sym (asked_after h 1 part.Naming (entry y) (top_path p) (tops_of p) m o.rows is);
    others = λ rows apart. asked_elsewhere h 1 part.Naming (entry y) (entry x) (top_path p) (tops_of p) m o.rows rows apart;
  }

  -- ---- bind

  -- what a call leaves of an object and of its count
  abbrev OnCounted : ℕ → Counted → Served Counted BoundReply → Type 0
  OnCounted y c r = OnOne y c.named r.part.named r.outs

  new_on : (inc y : ℕ) (p : Path) (e : Entry) (c : Counted) (server : ℕ) → IsPathOf h (top_of p) (top_path p) (tops_of p) →
      OnCounted y c (bound_new inc y p e c server)
  new_on inc y p e c server is =
      let lines = lock_lines y p mode.Write c.named in
      let more : List Effect = Say (body.Bound y (record { inc = inc; count = c.count + 1 }) server) ∷ [] in
      let l = lock_on y p mode.Write c.named is in
      record {
        own = l.own ∙ sym (after_both h 1 part.Naming (entry y) lines more c.named.rows);
        others = λ rows apart. after_both h 1 part.Naming (entry x) lines more rows ∙ l.others rows apart;
      }

  made_on : (inc y : ℕ) (p : Path) (e : Entry) (c : Counted) (m : Option Made) → IsPathOf h (top_of p) (top_path p) (tops_of p) →
      OnCounted y c (bind_made inc y p e c m)
  made_on inc y p e c (Some m) is = lock_on y p mode.Write c.named is
  made_on inc y p e c None is = new_on inc y p e c (next_server c.named.turn e.servers) is

  live_on : (inc y : ℕ) (p : Path) (e : Entry) (c : Counted) (l : Live) (r : Option Row) → IsPathOf h (top_of p) (top_path p) (tops_of p) →
      OnCounted y c (live_asked inc y p e c l r)
  live_on inc y p e c l (Some r) is = unchanged y c.named c.named refl
  live_on inc y p e c l None is = lock_on y p mode.Read c.named is

  make_on : (inc y : ℕ) (p : Path) (avoid : Binding) (e : Entry) (c : Counted) (r : Option Row) →
      IsPathOf h (top_of p) (top_path p) (tops_of p) → OnCounted y c (make_asked inc y p avoid e c r)
  make_on inc y p avoid e c (Some r) is = unchanged y c.named c.named refl
  make_on inc y p avoid e c None is = made_on inc y p e c (made_above avoid (at_uid (top_of p) c.named.made)) is

  call_on : (inc y : ℕ) (p : Path) (avoid : Binding) (e : Entry) (c : Counted) (l : Option Live) →
      IsPathOf h (top_of p) (top_path p) (tops_of p) → OnCounted y c (bind_call inc y p avoid e c l)
  call_on inc y p avoid e c (Some l) is = live_on inc y p e c l (conflict_on y p mode.Read c.named) is
  call_on inc y p avoid e c None is = make_on inc y p avoid e c (conflict_on y p mode.Write c.named) is

  include_on : (inc y : ℕ) (p : Path) (e : Entry) (c : Counted) (r : Option Row) → IsPathOf h (top_of p) (top_path p) (tops_of p) →
      OnCounted y c (include_asked inc y p e c r)
  include_on inc y p e c (Some r) is = unchanged y c.named c.named refl
  include_on inc y p e c None is = let l = lock_on y p mode.Write c.named is in record { own = l.own; others = l.others }

  bind_on : (inc y : ℕ) (p : Path) (include : Bool) (avoid : Binding) (e : Entry) (c : Counted) →
      IsPathOf h (top_of p) (top_path p) (tops_of p) → OnCounted y c (bind_named inc y p include avoid e c)
  bind_on inc y p true avoid e c is = include_on inc y p e c (conflict_on y p mode.Write c.named) is
  bind_on inc y p false avoid e c is = call_on inc y p avoid e c (live_above avoid c.named.live) is

  counted_table : (inc y : ℕ) (p : Path) (include : Bool) (avoid : Binding) (e : Entry) (n : Naming) (o : Option Named) →
      at_number y n.objects ≡ o → IsPathOf h (top_of p) (top_path p) (tops_of p)
      → NamingTable h x n (on_counted y (bind_named inc y p include avoid e) n o).outs (on_counted y (bind_named inc y p include avoid e) n o).part
  counted_table inc y p include avoid e n None found is = refl
  counted_table inc y p include avoid e n (Some o) found is =
      let c : Counted = record { named = o; count = n.count } in
      let r = bind_named inc y p include avoid e c in
      put_table y n (record n {
        count = r.part.count;
        objects =
            put_number y r.part.named n.objects;
      }) o r.part.named r.outs found refl (bind_on inc y p include avoid e c is)

  pub bind_table : (p : Path) (y : ℕ) (include : Bool) (avoid : Binding) (d : Pair) (n : Naming) →
      IsPathOf h (top_of p) (top_path p) (tops_of p)
      → NamingTable h x n (bind p y include avoid d n).outs (bind p y include avoid d n).part
  bind_table p y include avoid d n is = by (is_over p n)
    where
      r : Served Naming BoundReply
      r = on_counted y (bind_named n.inc y p include avoid (listed_entry y d)) n (at_number y n.objects)

      by : (b : Bool) → NamingTable h x n (if b then void n else r).outs (if b then void n else r).part
      by true = refl
      by false = counted_table n.inc y p include avoid (listed_entry y d) n (at_number y n.objects) refl is

  -- ---- record

  lower_on : (y : ℕ) (top : Uid) (o new : Named) → new.rows ≡ o.rows → is_lowered y top new ≡ is_lowered y top o →
      OnOne y o (lowered y top new) (lower_lines y top o)
  lower_on y top o new same alike = by (is_lowered y top o) alike
    where
      by : (b : Bool) → is_lowered y top new ≡ b →
          OnOne y o (if is_lowered y top new then record new {
            rows =
                lower_row top (entry y) new.rows;
          } else new) (if b then Say (body.Lowered 1 top (entry y)) ∷ [] else [])
      by true is = rw is (record {
        own = ap (lower_row top (entry y)) same ∙ rw (same_number y) refl;
        others = λ rows apart. rw apart refl;
      })
      by false is = rw is (unchanged y o new same)

  note_on : (y : ℕ) (top : Uid) (i : ℕ) (o : Named) (m : Made) → OnOne y o (note_made y top i o m).part (note_made y top i o m).outs
  note_on y top i o m = by m.recorded
    where
      r : Served Named RecordedReply
      r = record { part = lowered y top (in_use top m i o); outs = lower_lines y top o; reply = Some recorded.Yes }

      by : (b : Bool) → OnOne y o (if b then reply o recorded.Yes else r).part (if b then reply o recorded.Yes else r).outs
      by true = unchanged y o o refl
      by false = lower_on y top o (in_use top m i o) refl refl

  other_on : (y : ℕ) (top : Uid) (b : Binding) (i : ℕ) (o : Named) (m : Option Made) →
      OnOne y o (note_other y top b i o m).part (note_other y top b i o m).outs
  other_on y top b i o None = unchanged y o o refl
  other_on y top b i o (Some m) = by (binding_eq b m.binding)
    where
      by : (e : Bool) → OnOne y o (if e then note_made y top i o m else void o).part (if e then note_made y top i o m else void o).outs
      by true = note_on y top i o m
      by false = unchanged y o o refl

  named_on : (y : ℕ) (top : Uid) (b : Binding) (i : ℕ) (o : Named) → OnOne y o (note_named y top b i o).part (note_named y top b i o).outs
  named_on y top b i o = by (is_binding b o.recorded)
    where
      r : Served Named RecordedReply
      r = note_other y top b i o (at_uid top o.made)

      by : (e : Bool) → OnOne y o (if e then reply o recorded.Yes else r).part (if e then reply o recorded.Yes else r).outs
      by true = unchanged y o o refl
      by false = other_on y top b i o (at_uid top o.made)

  note_found : (y : ℕ) (top : Uid) (b : Binding) (i : ℕ) (n : Naming) (o : Option Named) → at_number y n.objects ≡ o
      → NamingTable h x n (on_named y (note_named y top b i) n o).outs (on_named y (note_named y top b i) n o).part
  note_found y top b i n None found = refl
  note_found y top b i n (Some o) found =
      let r = note_named y top b i o in
      put_table y n (record n { objects = put_number y r.part n.objects }) o r.part r.outs found refl (named_on y top b i o)

  pub note_table : (p : Path) (y : ℕ) (b : Binding) (i g : ℕ) (n : Naming) →
      NamingTable h x n (note p y b i g n).outs (note p y b i g n).part
  note_table p y b i g n = by (is_over p n || not (is_some (at_number y n.objects))) (g == n.inc)
    where
      r : Served Naming RecordedReply
      r = on_named y (note_named y (top_of p) b i) n (at_number y n.objects)

      w : Served Naming RecordedReply
      w = reply n (recorded.Changed (what.Inc g n.inc))

      by : (v e : Bool) →
          NamingTable h x n (if v then void n else (if e then r else w)).outs (if v then void n else (if e then r else w)).part
      by true e = refl
      by false true = note_found y (top_of p) b i n (at_number y n.objects) refl
      by false false = refl

  -- ---- confirm

  in_table : (y : ℕ) (p : Path) (n : Naming) (o : Option Named) → at_number y n.objects ≡ o →
      IsPathOf h (top_of p) (top_path p) (tops_of p) → NamingTable h x n (lock_in y p n o).outs (lock_in y p n o).part
  in_table y p n None found is = refl
  in_table y p n (Some o) found is =
      put_table y n (record n {
        objects =
            put_number y (locked y p mode.Exclude o) n.objects;
      }) o (locked y p mode.Exclude o) (lock_lines y p mode.Exclude o) found refl (lock_on y p mode.Exclude o is)

  all_table : (ys : List ℕ) (p : Path) (n : Naming) → IsPathOf h (top_of p) (top_path p) (tops_of p) →
      NamingTable h x n (lock_all ys p n).outs (lock_all ys p n).part
  all_table [] p n is = refl
  all_table (y ∷ ys) p n is =
      let d = lock_in y p n (at_number y n.objects) in
      let t = lock_all ys p d.part in
      both_table n d.part t.part d.outs t.outs (in_table y p n (at_number y n.objects) refl is) (all_table ys p d.part is)

  -- works, and the line of a prepare, do nothing to locks
  more_table : (n m : Naming) (es fs : List Effect) → rows_after h 1 part.Naming (entry x) fs (naming_rows x m) ≡ naming_rows x m →
      NamingTable h x n es m → NamingTable h x n (es ++ fs) m
  more_table n m es fs nothing a = both_table n m m es fs a (sym nothing)

  prepared_table : (top : Uid) (states : List ObjectState) (n : Naming) (t : Did Naming) (a : Prep) → NamingTable h x n t.outs t.part →
      NamingTable h x n (prepared_by top states t a).outs (prepared_by top states t a).part
  prepared_table top states n t Ready a =
      more_table n (confirms top t.part) t.outs (Do Look ∷ Do (Prepare role.Names top states) ∷ Say (body.Prepared 1 top role.Names) ∷ []) refl a
  prepared_table top states n t (Already u) a = more_table n t.part t.outs (Do Look ∷ []) refl a
  prepared_table top states n t (Old u v) a = more_table n t.part t.outs (Do Look ∷ []) refl a
  prepared_table top states n t (InDoubt u holder) a = more_table n t.part t.outs (Do Look ∷ []) refl a

  entries_table : (top : Uid) (states : List ObjectState) (d : Pair) (n : Naming) (t : Did Naming) → NamingTable h x n t.outs t.part →
      NamingTable h x n (confirm_entries top states d t).outs (confirm_entries top states d t).part
  entries_table top [] d n t a = a
  entries_table top (s ∷ ss) d n t a = prepared_table top (s ∷ ss) n t (prepare_answer top (s ∷ ss) d) a

  checked_table : (p : Path) (grants : Grants) (excluded included : Marks) (d : Pair) (n : Naming) (r : Option ConfirmedReply) →
      IsPathOf h (top_of p) (top_path p) (tops_of p)
      → NamingTable h x n (confirm_new p grants excluded included d n r).outs (confirm_new p grants excluded included d n r).part
  checked_table p grants excluded included d n (Some r) is = refl
  checked_table p grants excluded included d n None is =
      entries_table (top_of p) (entries_after (top_of p) grants excluded included d) d n (lock_all (wanted (top_of p) grants excluded d) p n) (all_table (wanted (top_of p) grants excluded d) p n is)

  pub confirm_table : (p : Path) (grants : Grants) (excluded included : Marks) (d : Pair) (n : Naming) →
      IsPathOf h (top_of p) (top_path p) (tops_of p)
      → NamingTable h x n (confirm p grants excluded included d n).outs (confirm p grants excluded included d n).part
  confirm_table p grants excluded included d n is =
      by (is_over p n || not (has_all grants n)) (is_on n.confirmed (top_of p) || is_prepared (top_of p) d)
    where
      r : Served Naming ConfirmedReply
      r = confirm_new p grants excluded included d n (checked p grants excluded included d n)

      w : Served Naming ConfirmedReply
      w = reply (confirms (top_of p) n) confirmed.Yes

      by : (v e : Bool) →
          NamingTable h x n (if v then void n else (if e then w else r)).outs (if v then void n else (if e then w else r)).part
      by true e = refl
      by false true = refl
      by false false = checked_table p grants excluded included d n (checked p grants excluded included d n) is

  -- ---- told

  end_rows : (u : Uid) (e : End) (o : Named) → (end_named u e o).rows ≡ rows_ended e u o.rows
  end_rows u ending.Commit o = refl
  end_rows u ending.Abort o = refl

  of_none : (u : Uid) (e : End) → [] ≡ rows_ended e u []
  of_none u ending.Commit = refl
  of_none u ending.Abort = refl

  each_ends : (u : Uid) (e : End) (m : List (ℕ × Named)) →
      rows_in_named (at_number x (each (λ y. end_named u e) m)) ≡ rows_ended e u (rows_in_named (at_number x m))
  each_ends u e [] = of_none u e
  each_ends u e (y ∷ ys) = by (is_eq (nat_cmp x y.0)) (each_ends u e ys)
    where
      by : (b : Bool) → rows_in_named (at_number x (each (λ y. end_named u e) ys)) ≡ rows_ended e u (rows_in_named (at_number x ys))
          → rows_in_named (cond b (Some (end_named u e y.1)) (at_number x (each (λ y. end_named u e) ys))) ≡ rows_ended e u (rows_in_named (cond b (Some y.1) (at_number x ys)))
      by true ih = end_rows u e y.1
      by false ih = ih

  holds_here : (u : Uid) (n : Naming) → has_locks u n ≡ false → holds u (naming_rows x n) ≡ false
  holds_here u n none = by (at_number x n.objects) refl
    where
      by : (o : Option Named) → at_number x n.objects ≡ o → holds u (rows_in_named o) ≡ false
      by None is = refl
      by (Some o) is = (found_any (λ (e : ℕ × Named). holds u e.1.rows) x o n.objects none is).1

  locks_table : (u : Uid) (e : End) (n : Naming) → uid_eq nobody u ≡ false → NamingTable h x n (end_lines u e n) (end_locks u e n)
  locks_table u e n someone = by (has_locks u n) refl
    where
      by : (b : Bool) → has_locks u n ≡ b →
          rows_in_named (at_number x (each (λ y. end_named u e) n.objects)) ≡ rows_after h 1 part.Naming (entry x) (if b then Say (body.Told 1 u e part.Naming) ∷ [] else []) (naming_rows x n)
      by true is = each_ends u e n.objects ∙ sym (told_after h 1 part.Naming (entry x) u e (naming_rows x n) refl)
      by false is = each_ends u e n.objects ∙ ends_none u e (naming_rows x n) someone (holds_here u n is)

  -- the ends of entries do nothing to locks
  entry_end : (u : Uid) (e : End) (rows : List Row) → rows_after h 1 part.Naming (entry x) (end_entries u e) rows ≡ rows
  entry_end u ending.Commit rows = refl
  entry_end u ending.Abort rows = refl

  entry_ends : (us : List Uid) (rows : List Row) →
      rows_after h 1 part.Naming (entry x) (flat_map (λ act. end_entries act ending.Abort) us) rows ≡ rows
  entry_ends [] rows = refl
  entry_ends (u ∷ us) rows = entry_ends us rows

  orphans_end : (u : Uid) (e : End) (d : Pair) (n : Naming) (rows : List Row) →
      rows_after h 1 part.Naming (entry x) (end_orphans u e d n) rows ≡ rows
  orphans_end u ending.Commit d n rows = refl
  orphans_end u ending.Abort d n rows = entry_ends (orphans u d n) rows

  own_end : (u : Uid) (e : End) (d : Pair) (rows : List Row) → rows_after h 1 part.Naming (entry x) (own_entries u e d) rows ≡ rows
  own_end u e d rows = by (is_prepared u d)
    where
      by : (b : Bool) → rows_after h 1 part.Naming (entry x) (if b then end_entries u e else []) rows ≡ rows
      by true = entry_end u e rows
      by false = refl

  told_new_table : (u : Uid) (e : End) (d : Pair) (n : Naming) → uid_eq nobody u ≡ false →
      NamingTable h x n (told_new u e d n).outs (told_new u e d n).part
  told_new_table u e d n someone =
      both_table n n (end_locks u e n) (end_orphans u e d n) (end_lines u e n) (sym (orphans_end u e d n (naming_rows x n))) (locks_table u e n someone)

  known_table : (u : Uid) (e : End) (d : Pair) (n : Naming) (b : Bool) → uid_eq nobody u ≡ false →
      NamingTable h x n (if b then did_nothing n else told_new u (taken_end u e n) d n).outs (if b then did_nothing n else told_new u (taken_end u e n) d n).part
  known_table u e d n true someone = refl
  known_table u e d n false someone = told_new_table u (taken_end u e n) d n someone

  pub told_table : (u : Uid) (e : End) (d : Pair) (n : Naming) → uid_eq nobody u ≡ false →
      NamingTable h x n (told u e d n).outs (told u e d n).part
  told_table u e d n someone =
      let t = if is_on n.told u then did_nothing n else told_new u (taken_end u e n) d n in
      both_table n n t.part (own_entries u e d) t.outs (sym (own_end u e d (naming_rows x n))) (known_table u e d n (is_on n.told u) someone)

  -- ---- hello

  each_hello : (node inc : ℕ) (m : List (ℕ × Named)) →
      rows_in_named (at_number x (each (λ y. hello_named node inc) m)) ≡ rows_in_named (at_number x m)
  each_hello node inc [] = refl
  each_hello node inc (y ∷ ys) = by (is_eq (nat_cmp x y.0)) (each_hello node inc ys)
    where
      by : (b : Bool) → rows_in_named (at_number x (each (λ y. hello_named node inc) ys)) ≡ rows_in_named (at_number x ys)
          → rows_in_named (cond b (Some (hello_named node inc y.1)) (at_number x (each (λ y. hello_named node inc) ys))) ≡ rows_in_named (cond b (Some y.1) (at_number x ys))
      by true ih = refl
      by false ih = ih

  pub hello_table : (node inc : ℕ) (n : Naming) → NamingTable h x n [] (hello node inc n)
  hello_table node inc n = each_hello node inc n.objects
