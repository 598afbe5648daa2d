-- Locks at naming are by the paths of tops that were begun, whatever naming does.
use Rattle.arj_law_parts.proofs.Words
use Words.{◌≡◌, ℕ, ◌==◌, ◌||◌, List, [], ◌∷◌, Bool, true, false, cond, find, map, not, Option, Some, None, refl, sym, ◌∙◌, ap, subst, inl}
use Words.{⊎_elim, Contains, is_some, option_map, AllByRecursion, strengthened, CameBy, passed_on, stayed, grant_each, In, in_filter}
use Words.{in_from, in_map, in_to, came_by, Uid, Binding, BoundReply, ConfirmedReply, End, Entry, Mode, ObjectState, Path, RecordedReply}
use Words.{Row, drop_rows, entry, grant_row, is_on, is_row_of, last_uid, lower_row, pass_rows, tops_of, uid_eq, top_of, top_path, Grants}
use Words.{Marks, checked, confirm, confirm_entries, confirm_new, confirms, entries_after, has_all, lock_all, lock_in, named_back}
use Words.{pending_of, prepared_by, recovered_naming, rows_back, wanted, is_granted, rows_asked, Did, Pair, Prep, Ready, Already, Old}
use Words.{InDoubt, Served, did_nothing, either, is_prepared, prepare_answer, reply, void, Counted, Live, Made, Named, bind_call, bind_made}
use Words.{bind_named, conflict_on, end_named, entry_row, hello_named, in_use, include_asked, is_lowered, live_above}
use Words.{live_asked, locked, lower_lines, lowered, made_above, make_asked, note_made, note_named, note_other, Naming, bind, hello}
use Words.{is_over, listed_entry, note, on_counted, on_named, taken_end, told_new, at_number, at_uid, binding_eq, is_binding}
use Words.confirmed
use Words.ending
use Words.mode
use Words.recorded
use Words.what
use Rattle.arj_law_disk_view.proofs.Terms
use Terms.{told, Action, AreBegun, all_found, all_put, AreBegunIn, AreEntryRows, IsBegun, IsEntryRow, IsTopPath}
use Rattle.arj_law_disk_view.proofs.running.Holders.{path_heir}
use Rattle.arj_law_parts.proofs.parts.LivesNamed.{all_each}

module _ (acts : List Action) (begun : AreBegun acts) where
  abbrev Known : List Row → Type 0
  Known rows = (r : Row) → Contains rows r → IsEntryRow acts r

  abbrev NamedKnown : Named → Type 0
  NamedKnown o = Known o.rows

  abbrev All : Naming → Type 0
  All n = AreEntryRows acts n.objects

  -- ---- one table

  -- a row with its holder in another mode
  same_holder : (r s : Row) → s.holder ≡ r.holder → s.tops ≡ r.tops → IsEntryRow acts r → IsEntryRow acts s
  same_holder r s holder tops its =
      subst (λ us. IsTopPath acts us s.tops) (sym holder) (subst (λ n. IsTopPath acts r.holder n) (sym tops) its)

  known_asked : (new : Row) (rows : List Row) → IsEntryRow acts new → Known rows → Known (rows_asked new rows)
  known_asked new rows its known r k = by (is_granted new.object (last_uid new.holder) new.mode rows) (in_from r (rows_asked new rows) k)
    where
      by : (b : Bool) → In r (cond b rows (grant_row new rows)) → IsEntryRow acts r
      by true i = known r (in_to r rows i)
      by false i =
          ⊎_elim (λ old. known r (in_to r rows old)) (λ q. ⊎_elim (λ same. subst (IsEntryRow acts) (sym same) its) (λ f. same_holder f.0 r
          (ap (λ (w : Row). w.holder) f.3) (ap (λ (w : Row). w.tops) f.3) (known f.0 (in_to f.0 rows f.1))) q) (grant_each new r rows i)

  known_lower : (top object : Uid) (rows : List Row) → Known rows → Known (lower_row top object rows)
  known_lower top object rows known r k =
      let f = in_map (λ row. cond (is_row_of object top row) (record row { mode = mode.Read }) row) r rows
      (in_from r (lower_row top object rows) k) in
      subst (IsEntryRow acts) f.2 (by f.0 (is_row_of object top f.0) (known f.0 (in_to f.0 rows f.1)))
    where
      by : (row : Row) (b : Bool) → IsEntryRow acts row → IsEntryRow acts (cond b (record row { mode = mode.Read }) row)
      by row true its = its
      by row false its = its

  known_end : (u : Uid) (e : End) (o : Named) → NamedKnown o → NamedKnown (end_named u e o)
  known_end u ending.Abort o known r k =
      known r (in_to r o.rows (in_filter (λ row. not (is_on row.holder u)) r o.rows (in_from r (drop_rows u o.rows) k)).0)
  known_end u ending.Commit o known r k = by (came_by u o.rows r (in_from r (pass_rows u o.rows) k))
    where
      strong : (row : Row) (p : Option Row) → ((strengthened row p).holder ≡ row.holder) × ((strengthened row p).tops ≡ row.tops)
      strong row None = (refl, refl)
      strong row (Some s) = (refl, refl)

      by : CameBy u o.rows r → IsEntryRow acts r
      by (stayed old there other is) = let s = strong old _ in
          same_holder old r (ap (λ (w : Row). w.holder) is ∙ s.0) (ap (λ (w : Row). w.tops) is ∙ s.1) (known old there)
      by (passed_on old there own heir parent free is) =
          subst (IsEntryRow acts) (sym is) (path_heir acts begun old.holder old.tops (known old there) heir parent)

  -- ---- requests

  module _ (p : Path) (its : IsTopPath acts (top_path p) (tops_of p)) where
    known_locked : (x : ℕ) (m : Mode) (o : Named) → NamedKnown o → NamedKnown (locked x p m o)
    known_locked x m o known = known_asked (entry_row x p m) o.rows its known

    abbrev Bound : Served Counted BoundReply → Type 0
    Bound r = let c = r.part in NamedKnown c.named

    module _ (inc x : ℕ) (e : Entry) (c : Counted) (known : NamedKnown c.named) where
      known_live : (l : Live) (r : Option Row) → Bound (live_asked inc x p e c l r)
      known_live l (Some r) = known
      known_live l None = known_locked x mode.Read c.named known

      known_made : (m : Option Made) → Bound (bind_made inc x p e c m)
      known_made (Some m) = known_locked x mode.Write c.named known
      known_made None = known_locked x mode.Write c.named known

      known_make : (avoid : Binding) (r : Option Row) → Bound (make_asked inc x p avoid e c r)
      known_make avoid (Some r) = known
      known_make avoid None = known_made (made_above avoid (at_uid (top_of p) c.named.made))

      known_call : (avoid : Binding) (l : Option Live) → Bound (bind_call inc x p avoid e c l)
      known_call avoid (Some l) = known_live l (conflict_on x p mode.Read c.named)
      known_call avoid None = known_make avoid (conflict_on x p mode.Write c.named)

      known_include : (r : Option Row) → Bound (include_asked inc x p e c r)
      known_include (Some r) = known
      known_include None = known_locked x mode.Write c.named known

      known_bound : (include : Bool) (avoid : Binding) → Bound (bind_named inc x p include avoid e c)
      known_bound true avoid = known_include (conflict_on x p mode.Write c.named)
      known_bound false avoid = known_call avoid (live_above avoid c.named.live)

    pub rows_bind : (x : ℕ) (include : Bool) (avoid : Binding) (d : Pair) (n : Naming) → All n → All (bind p x include avoid d n).part
    rows_bind x include avoid d n all = by (is_over p n)
      where
        call : Counted → Served Counted BoundReply
        call = bind_named n.inc x p include avoid (listed_entry x d)

        there : (o : Option Named) → at_number x n.objects ≡ o → All (on_counted x call n o).part
        there None is = all
        there (Some o) is = all_put NamedKnown x _ n.objects (known_bound n.inc x (listed_entry x d) (record { named = o; count = n.count })
            (all_found NamedKnown x n.objects o all is) include avoid) all

        by : (b : Bool) → All (cond {A = Served Naming BoundReply} b (void n) (on_counted x call n (at_number x n.objects))).part
        by true = all
        by false = there (at_number x n.objects) refl

    rows_locks : (xs : List ℕ) (n : Naming) → All n → All (lock_all xs p n).part
    rows_locks [] n all = all
    rows_locks (x ∷ xs) n all = rows_locks xs (lock_in x p n (at_number x n.objects)).part (one (at_number x n.objects) refl)
      where
        one : (o : Option Named) → at_number x n.objects ≡ o → All (lock_in x p n o).part
        one None is = all
        one (Some o) is = all_put NamedKnown x (locked x p mode.Exclude o) n.objects
            (known_locked x mode.Exclude o (all_found NamedKnown x n.objects o all is)) all

    pub rows_confirm : (grants : Grants) (excluded included : Marks) (d : Pair) (n : Naming) → All n →
        All (confirm p grants excluded included d n).part
    rows_confirm grants excluded included d n all =
        by (is_over p n || not (has_all grants n)) (is_on n.confirmed (top_of p) || is_prepared (top_of p) d)
      where
        answered : (states : List ObjectState) (t : Did Naming) (a : Prep) → All t.part → All (prepared_by (top_of p) states t a).part
        answered states t Ready s = s
        answered states t (Already u) s = s
        answered states t (Old u v) s = s
        answered states t (InDoubt u v) s = s

        entries : (states : List ObjectState) (t : Did Naming) → All t.part → All (confirm_entries (top_of p) states d t).part
        entries [] t s = s
        entries (x ∷ xs) t s = answered (x ∷ xs) t (prepare_answer (top_of p) (x ∷ xs) d) s

        new : (c : Option ConfirmedReply) → All (confirm_new p grants excluded included d n c).part
        new (Some r) = all
        new None = entries (entries_after (top_of p) grants excluded included d) (lock_all (wanted (top_of p) grants excluded d) p n)
            (rows_locks (wanted (top_of p) grants excluded d) n all)

        by : (over again : Bool) →
            All (cond {A = Served Naming ConfirmedReply} over (void n) (cond {A = Served Naming ConfirmedReply} again (reply (confirms
            (top_of p) n) confirmed.Yes) (confirm_new p grants excluded included d n (checked p grants excluded included d n)))).part
        by true again = all
        by false true = all
        by false false = new (checked p grants excluded included d n)

  pub rows_note : (p : Path) (x : ℕ) (b : Binding) (i g : ℕ) (n : Naming) → All n → All (note p x b i g n).part
  rows_note p x b i g n all = by (is_over p n || not (is_some (at_number x n.objects))) (g == n.inc)
    where
      noted : (o : Named) → NamedKnown o → NamedKnown (note_named x (top_of p) b i o).part
      noted o known = recorded_yet (is_binding b o.recorded)
        where
          lower : (v : Named) → NamedKnown v → NamedKnown (lowered x (top_of p) v)
          lower v s = one (is_lowered x (top_of p) v)
            where
              one : (c : Bool) → NamedKnown (cond c (record v { rows = lower_row (top_of p) (entry x) v.rows }) v)
              one true = known_lower (top_of p) (entry x) v.rows s
              one false = s

          made : (m : Made) → NamedKnown (note_made x (top_of p) i o m).part
          made m = one m.recorded
            where
              one : (c : Bool) → NamedKnown (cond {A = Served Named RecordedReply} c (reply o recorded.Yes) (record {
                part = lowered x (top_of p) (in_use (top_of p) m i o);
                outs = lower_lines x (top_of p) o;
                reply = Some recorded.Yes;
              })).part
              one true = known
              one false = lower (in_use (top_of p) m i o) known

          other : (q : Option Made) → NamedKnown (note_other x (top_of p) b i o q).part
          other None = known
          other (Some m) = one (binding_eq b m.binding)
            where
              one : (c : Bool) → NamedKnown (cond {A = Served Named RecordedReply} c (note_made x (top_of p) i o m) (void o)).part
              one true = made m
              one false = known

          recorded_yet : (c : Bool) → NamedKnown (cond {A = Served Named RecordedReply} c (reply o recorded.Yes)
              (note_other x (top_of p) b i o (at_uid (top_of p) o.made))).part
          recorded_yet true = known
          recorded_yet false = other (at_uid (top_of p) o.made)

      there : (o : Option Named) → at_number x n.objects ≡ o → All (on_named x (note_named x (top_of p) b i) n o).part
      there None is = all
      there (Some o) is =
          all_put NamedKnown x (note_named x (top_of p) b i o).part n.objects (noted o (all_found NamedKnown x n.objects o all is)) all

      by : (over ours : Bool) → All (cond {A = Served Naming RecordedReply} over (void n) (cond {A = Served Naming RecordedReply} ours
          (on_named x (note_named x (top_of p) b i) n (at_number x n.objects)) (reply n (recorded.Changed (what.Inc g n.inc))))).part
      by true ours = all
      by false true = there (at_number x n.objects) refl
      by false false = all

  -- ---- ends, a server that comes back, and a restart

  pub rows_told : (u : Uid) (e : End) (d : Pair) (n : Naming) → All n → All (told u e d n).part
  rows_told u e d n all = by (is_on n.told u)
    where
      by : (b : Bool) → All (cond {A = Did Naming} b (did_nothing n) (told_new u (taken_end u e n) d n)).part
      by true = all
      by false = all_each NamedKnown (λ k. end_named u (taken_end u e n)) (λ k o known. known_end u (taken_end u e n) o known) n.objects all

  pub rows_hello : (node inc : ℕ) (n : Naming) → All n → All (hello node inc n)
  rows_hello node inc n all = all_each NamedKnown (λ k. hello_named node inc) (λ k o known. known) n.objects all

  pending_begun : (u : Uid) (ps : List (Uid × List ObjectState)) → AllByRecursion (λ (e : Uid × List ObjectState). IsBegun acts e.0) ps →
      (q : Uid × ObjectState) → pending_of u ps ≡ Some q → IsBegun acts q.0
  pending_begun u [] all q is = absurd (cc is)
  pending_begun u (p ∷ ps) all q is = by (find (λ s. uid_eq s.uid u) p.1) is (pending_begun u ps all.1 q)
    where
      by : (o : Option ObjectState) → either (option_map (λ s. (p.0, s)) o) (pending_of u ps) ≡ Some q →
          (pending_of u ps ≡ Some q → IsBegun acts q.0) → IsBegun acts q.0
      by None found ih = ih found
      by (Some s) found ih = let same : (p.0, s) ≡ q = cc in subst (λ (z : Uid × ObjectState). IsBegun acts z.0) same all.0

  pub rows_recovered : (inc : ℕ) (d : Pair) → AreBegunIn acts d → All (recovered_naming inc d)
  rows_recovered inc d prepared = by d.held
    where
      back : (u : Uid) (held : ObjectState) (q : Option (Uid × ObjectState)) → pending_of u d.pend ≡ q → Known (rows_back u held q)
      back u held None is r k = absurd (in_from r [] k)
      back u held (Some p) is r k = ⊎_elim (λ same. subst (IsEntryRow acts) same
          (inl (p.0, pending_begun u d.pend prepared p is, refl, refl))) (λ none. absurd none) (in_from r (rows_back u held (Some p)) k)

      by : (held : List (Uid × ObjectState)) → AreEntryRows acts (map (named_back d) held)
      by [] = tt
      by (e ∷ es) = (back e.0 e.1 (pending_of e.0 d.pend) refl, by es)
