-- Whom naming confirmed, who holds locks on entries and who prepares entries are no nested actions, whatever naming does.
use Rattle.arj_law_parts.proofs.Words
use Words.{◌≡◌, ◌≢◌, ℕ, ◌==◌, ◌||◌, ◌++◌, ◌+◌, List, [], ◌∷◌, Bool, true, false, cond, find, map, not, Option, Some, None, refl, sym, ◌∙◌}
use Words.{ap, subst, ⊎_elim, ⊤, IfSome, is_some, option_map, AllByRecursion, flat_map, In, in_from, in_to, Uid, Binding, BoundReply}
use Words.{ConfirmedReply, End, Entry, Mode, ObjectState, Path, RecordedReply, Row, entry, front, is_on, last_uid, lower_row, uid_eq}
use Words.{uids_of, top_of, top_path, Grants, Marks, checked, confirm, confirm_entries, confirm_new, confirms, entries_after, entry_after}
use Words.{entry_state, has_all, lock_all, lock_in, named_back, pending_of, prepared_by, recovered_naming, rows_back, same_nodes}
use Words.{stores_after, wanted, grant_lines, is_granted, Did, Do, Effect, Look, Pair, Prep, Prepare, Ready, Already, Old, InDoubt, Say}
use Words.{Served, did_nothing, either, held_at, is_prepared, prepare_answer, reply, void, Counted, Live, Made, Named, bind_call, bind_made}
use Words.{bind_named, conflict_on, end_named, entry_row, hello_named, in_use, include_asked, is_lowered, live_above}
use Words.{live_asked, lock_lines, locked, lower_lines, lowered, made_above, make_asked, next_server, note_made, note_named, note_other}
use Words.{Naming, bind, end_entries, end_lines, end_orphans, has_locks, hello, is_over, listed_entry, note, on_counted, on_named, orphans}
use Words.{own_entries, taken_end, told_new, at_number, at_uid, binding_eq, drop_uid, state_entry, is_binding}
use Words.body
use Words.confirmed
use Words.ending
use Words.kind
use Words.mode
use Words.part
use Words.recorded
use Words.role
use Words.what
use Rattle.arj_law_lock_view.proofs.Terms
use Terms.{Action, AreBegun, IsAsker, IsTopAction, all_each, all_found, all_put, IsEntry, all_append, all_filter, all_with, AreOfEntries}
use Terms.{AreUpper, HavePrepared, HaveUpper, HoldsUppers, IsTopOf, PreparesUpper}
use Rattle.arj_law_lock_view.proofs.facts.Given.{Alone, Form, Within, form_of, top_action}
use Rattle.arj_law_lock_view.proofs.view.FirstRows.{have_ended, have_locked, have_lower}
use Rattle.arj_law_runs.proofs.addresses.Lists.{all_some}
use Rattle.arj_protocol.specs.Naming.{told}

module _ (acts : List Action) where
  abbrev NamedUpper : Named → Type 0
  NamedUpper o = HaveUpper acts o.rows

  abbrev Fine : List Effect → Type 0
  Fine outs = AllByRecursion (PreparesUpper acts) outs

  both : (es fs : List Effect) → Fine es → Fine fs → Fine (es ++ fs)
  both es fs a b = all_append (PreparesUpper acts) es fs a b

  -- a top is one of those
  upper_of : (u : Uid) → IsTopOf acts u → IsTopAction acts u
  upper_of u its = (its.0, its.1, its.2, its.3)

  -- ---- one table

  front_upper : (us : List Uid) → AreUpper acts us → AreUpper acts (front us)
  front_upper [] its = tt
  front_upper (u ∷ []) its = tt
  front_upper (u ∷ v ∷ vs) its = (its.0, front_upper (v ∷ vs) its.1)

  upper_end : (u : Uid) (e : End) (o : Named) → NamedUpper o → NamedUpper (end_named u e o)
  upper_end u e o known = have_ended (AreUpper acts) (AreUpper acts) u (λ us its other. its) (λ us heir its parent. front_upper us its)
      (λ us off its. its) e o known

  -- ---- requests

  says_fine : (n : ℕ) (new : Row) (rows : List Row) → Fine (grant_lines n new rows)
  says_fine n new rows = by (is_granted new.object (last_uid new.holder) new.mode rows)
    where
      by : (b : Bool) → Fine (cond b [] (Say (body.Granted n (last_uid new.holder) new.object new.mode) ∷ []))
      by true = tt
      by false = (tt, tt)

  module _ (p : Path) (its : AreUpper acts (top_path p)) where
    upper_locked : (x : ℕ) (m : Mode) (o : Named) → NamedUpper o → NamedUpper (locked x p m o)
    upper_locked x m o known = have_locked (AreUpper acts) p its x m o known

    abbrev Bound : Served Counted BoundReply → Type 0
    Bound r = NamedUpper (let c = r.part in c.named) × Fine r.outs

    module _ (inc x : ℕ) (e : Entry) (c : Counted) (known : NamedUpper c.named) where
      upper_live : (l : Live) (r : Option Row) → Bound (live_asked inc x p e c l r)
      upper_live l (Some r) = (known, tt)
      upper_live l None = (upper_locked x mode.Read c.named known, says_fine 1 (entry_row x p mode.Read) c.named.rows)

      upper_made : (m : Option Made) → Bound (bind_made inc x p e c m)
      upper_made (Some m) = (upper_locked x mode.Write c.named known, says_fine 1 (entry_row x p mode.Write) c.named.rows)
      upper_made None = (
        upper_locked x mode.Write c.named known,
        both (lock_lines x p mode.Write c.named) (Say (body.Bound x (record { inc = inc; count = c.count + 1 })
            (next_server c.named.turn e.servers)) ∷ []) (says_fine 1 (entry_row x p mode.Write) c.named.rows) (tt, tt),
      )

      upper_make : (avoid : Binding) (r : Option Row) → Bound (make_asked inc x p avoid e c r)
      upper_make avoid (Some r) = (known, tt)
      upper_make avoid None = upper_made (made_above avoid (at_uid (top_of p) c.named.made))

      upper_call : (avoid : Binding) (l : Option Live) → Bound (bind_call inc x p avoid e c l)
      upper_call avoid (Some l) = upper_live l (conflict_on x p mode.Read c.named)
      upper_call avoid None = upper_make avoid (conflict_on x p mode.Write c.named)

      upper_include : (r : Option Row) → Bound (include_asked inc x p e c r)
      upper_include (Some r) = (known, tt)
      upper_include None = (upper_locked x mode.Write c.named known, says_fine 1 (entry_row x p mode.Write) c.named.rows)

      upper_bound : (include : Bool) (avoid : Binding) → Bound (bind_named inc x p include avoid e c)
      upper_bound true avoid = upper_include (conflict_on x p mode.Write c.named)
      upper_bound false avoid = upper_call avoid (live_above avoid c.named.live)

    pub uppers_bind : (x : ℕ) (include : Bool) (avoid : Binding) (d : Pair) (n : Naming) → HoldsUppers acts n →
        HoldsUppers acts (bind p x include avoid d n).part × Fine (bind p x include avoid d n).outs
    uppers_bind x include avoid d n all = by (is_over p n)
      where
        abbrev_call : Counted → Served Counted BoundReply
        abbrev_call = bind_named n.inc x p include avoid (listed_entry x d)

        there : (o : Option Named) → at_number x n.objects ≡ o →
            HoldsUppers acts (on_counted x abbrev_call n o).part × Fine (on_counted x abbrev_call n o).outs
        there None is = (all, tt)
        there (Some o) is =
            let b = upper_bound n.inc x (listed_entry x d) (record { named = o; count = n.count })
            (all_found NamedUpper x n.objects o all.rows is) include avoid in (
              record {
                confirmed = all.confirmed;
                rows = all_put NamedUpper x (abbrev_call (record { named = o; count = n.count })).part.named n.objects b.0 all.rows;
              },
              b.1,
            )

        by : (b : Bool) → (let s = cond {A = Served Naming BoundReply} b (void n) (on_counted x abbrev_call n (at_number x n.objects)) in
            HoldsUppers acts s.part × Fine s.outs)
        by true = (all, tt)
        by false = there (at_number x n.objects) refl

    uppers_locks : (xs : List ℕ) (n : Naming) → HoldsUppers acts n → HoldsUppers acts (lock_all xs p n).part × Fine (lock_all xs p n).outs
    uppers_locks [] n all = (all, tt)
    uppers_locks (x ∷ xs) n all =
        let f = one (at_number x n.objects) refl in
        let r = uppers_locks xs (lock_in x p n (at_number x n.objects)).part f.0 in
        (r.0, both (lock_in x p n (at_number x n.objects)).outs (lock_all xs p (lock_in x p n (at_number x n.objects)).part).outs f.1 r.1)
      where
        one : (o : Option Named) → at_number x n.objects ≡ o → HoldsUppers acts (lock_in x p n o).part × Fine (lock_in x p n o).outs
        one None is = (all, tt)
        one (Some o) is = (
          record {
            confirmed = all.confirmed;
            rows = all_put NamedUpper x (locked x p mode.Exclude o) n.objects
                (upper_locked x mode.Exclude o (all_found NamedUpper x n.objects o all.rows is)) all.rows;
          },
          says_fine 1 (entry_row x p mode.Exclude) o.rows,
        )

    pub uppers_confirm : IsTopOf acts (top_of p) → (grants : Grants) (excluded included : Marks) (d : Pair) (n : Naming) → HoldsUppers acts
        n → HoldsUppers acts (confirm p grants excluded included d n).part × Fine (confirm p grants excluded included d n).outs
    uppers_confirm top grants excluded included d n all =
        by (is_over p n || not (has_all grants n)) (is_on n.confirmed (top_of p) || is_prepared (top_of p) d)
      where
        Well : Served Naming ConfirmedReply → Type 0
        Well s = HoldsUppers acts s.part × Fine s.outs

        confirmed_so : (m : Naming) → HoldsUppers acts m → HoldsUppers acts (confirms (top_of p) m)
        confirmed_so m its_all =
            record { confirmed = all_with (IsTopOf acts) (top_of p) m.confirmed top its_all.confirmed; rows = its_all.rows }

        answered : (states : List ObjectState) → AreOfEntries states → (t : Did Naming) (a : Prep) → HoldsUppers acts t.part × Fine t.outs →
            Well (prepared_by (top_of p) states t a)
        answered states of_entries t Ready s = (
          confirmed_so t.part s.0,
          both t.outs (Do Look ∷ Do (Prepare role.Names (top_of p) states) ∷ Say (body.Prepared 1 (top_of p) role.Names) ∷ []) s.1
              (tt, ((top, of_entries), (tt, tt))),
        )
        answered states of_entries t (Already u) s = (s.0, both t.outs (Do Look ∷ []) s.1 (tt, tt))
        answered states of_entries t (Old u v) s = (s.0, both t.outs (Do Look ∷ []) s.1 (tt, tt))
        answered states of_entries t (InDoubt u v) s = (s.0, both t.outs (Do Look ∷ []) s.1 (tt, tt))

        entries : (states : List ObjectState) → AreOfEntries states → (t : Did Naming) → HoldsUppers acts t.part × Fine t.outs →
            Well (confirm_entries (top_of p) states d t)
        entries [] of_entries t s = (confirmed_so t.part s.0, s.1)
        entries (x ∷ xs) of_entries t s = answered (x ∷ xs) of_entries t (prepare_answer (top_of p) (x ∷ xs) d) s

        -- a new entry is of its object
        changed : AreOfEntries (entries_after (top_of p) grants excluded included d)
        changed = all_some (λ (g : ℕ × ℕ). ⊤) (λ (s : ObjectState). IsEntry s.uid) (λ (g : ℕ × ℕ). entry_after (top_of p) excluded included
            g.0 (held_at (entry g.0) d)) grants (λ g u. one g.0 (held_at (entry g.0) d)) (anything grants)
          where
            anything : (gs : Grants) → AllByRecursion (λ (g : ℕ × ℕ). ⊤) gs
            anything [] = tt
            anything (g ∷ gs) = (tt, anything gs)

            one : (x : ℕ) (o : Option ObjectState) →
                IfSome (entry_after (top_of p) excluded included x o) (λ (s : ObjectState). IsEntry s.uid)
            one x None = tt
            one x (Some s) = either_way (same_nodes (stores_after x excluded included (state_entry s)) (state_entry s).stores)
              where
                either_way : (b : Bool) → IfSome (cond b None (Some
                    (entry_state x (top_of p) s (stores_after x excluded included (state_entry s))))) (λ (z : ObjectState). IsEntry z.uid)
                either_way true = tt
                either_way false = refl

        new : (c : Option ConfirmedReply) → Well (confirm_new p grants excluded included d n c)
        new (Some r) = (all, tt)
        new None = entries (entries_after (top_of p) grants excluded included d) changed
            (lock_all (wanted (top_of p) grants excluded d) p n) (uppers_locks (wanted (top_of p) grants excluded d) n all)

        by : (over again : Bool) →
            Well (cond {A = Served Naming ConfirmedReply} over (void n) (cond {A = Served Naming ConfirmedReply} again (reply
            (confirms (top_of p) n) confirmed.Yes) (confirm_new p grants excluded included d n (checked p grants excluded included d n))))
        by true again = (all, tt)
        by false true = (confirmed_so n all, tt)
        by false false = new (checked p grants excluded included d n)

  pub uppers_note : (p : Path) (x : ℕ) (b : Binding) (i g : ℕ) (n : Naming) → HoldsUppers acts n →
      HoldsUppers acts (note p x b i g n).part × Fine (note p x b i g n).outs
  uppers_note p x b i g n all = by (is_over p n || not (is_some (at_number x n.objects))) (g == n.inc)
    where
      Well : Served Named RecordedReply → Type 0
      Well s = NamedUpper s.part × Fine s.outs

      noted : (o : Named) → NamedUpper o → Well (note_named x (top_of p) b i o)
      noted o known = recorded_yet (is_binding b o.recorded)
        where
          lower : (v : Named) → NamedUpper v → NamedUpper (lowered x (top_of p) v)
          lower v s = one (is_lowered x (top_of p) v)
            where
              one : (c : Bool) → NamedUpper (cond c (record v { rows = lower_row (top_of p) (entry x) v.rows }) v)
              one true = have_lower (AreUpper acts) (top_of p) (entry x) v.rows s
              one false = s

          lines : (c : Bool) → Fine (cond c (Say (body.Lowered 1 (top_of p) (entry x)) ∷ []) [])
          lines true = (tt, tt)
          lines false = tt

          made : (m : Made) → Well (note_made x (top_of p) i o m)
          made m = one m.recorded
            where
              one : (c : Bool) → Well (cond {A = Served Named RecordedReply} c (reply o recorded.Yes) (record {
                part = lowered x (top_of p) (in_use (top_of p) m i o);
                outs = lower_lines x (top_of p) o;
                reply = Some recorded.Yes;
              }))
              one true = (known, tt)
              one false = (lower (in_use (top_of p) m i o) known, lines (is_lowered x (top_of p) o))

          other : (q : Option Made) → Well (note_other x (top_of p) b i o q)
          other None = (known, tt)
          other (Some m) = one (binding_eq b m.binding)
            where
              one : (c : Bool) → Well (cond {A = Served Named RecordedReply} c (note_made x (top_of p) i o m) (void o))
              one true = made m
              one false = (known, tt)

          recorded_yet : (c : Bool) → Well
              (cond {A = Served Named RecordedReply} c (reply o recorded.Yes) (note_other x (top_of p) b i o (at_uid (top_of p) o.made)))
          recorded_yet true = (known, tt)
          recorded_yet false = other (at_uid (top_of p) o.made)

      there : (o : Option Named) → at_number x n.objects ≡ o →
          (let s = on_named x (note_named x (top_of p) b i) n o in HoldsUppers acts s.part × Fine s.outs)
      there None is = (all, tt)
      there (Some o) is = let w = noted o (all_found NamedUpper x n.objects o all.rows is) in (
        record { confirmed = all.confirmed; rows = all_put NamedUpper x (note_named x (top_of p) b i o).part n.objects w.0 all.rows },
        w.1,
      )

      by : (over ours : Bool) → (let s = cond {A = Served Naming RecordedReply} over (void n) (cond {A = Served Naming RecordedReply} ours
          (on_named x (note_named x (top_of p) b i) n (at_number x n.objects)) (reply n (recorded.Changed (what.Inc g n.inc)))) in
          HoldsUppers acts s.part × Fine s.outs)
      by true ours = (all, tt)
      by false true = there (at_number x n.objects) refl
      by false false = (all, tt)

  -- ---- ends, a server that comes back, and a restart

  dropped : (u : Uid) (us : List Uid) → AllByRecursion (IsTopOf acts) us → AllByRecursion (IsTopOf acts) (drop_uid u us)
  dropped u us all = all_filter (IsTopOf acts) _ us all

  ends_fine : (u : Uid) (how : End) → Fine (end_entries u how)
  ends_fine u ending.Commit = (tt, (tt, tt))
  ends_fine u ending.Abort = (tt, (tt, tt))

  pub uppers_told : (u : Uid) (e : End) (d : Pair) (n : Naming) → HoldsUppers acts n →
      HoldsUppers acts (told u e d n).part × Fine (told u e d n).outs
  uppers_told u e d n all = (
    by (is_on n.told u),
    both (own_entries u e d) (let t = cond {A = Did Naming} (is_on n.told u) (did_nothing n) (told_new u (taken_end u e n) d n) in
        t.outs) (own (is_prepared u d)) (outs_of (is_on n.told u)),
  )
    where
      by : (b : Bool) → HoldsUppers acts (cond {A = Did Naming} b (did_nothing n) (told_new u (taken_end u e n) d n)).part
      by true = all
      by false = record {
        confirmed = dropped u n.confirmed all.confirmed;
        rows = all_each NamedUpper (λ k. end_named u (taken_end u e n)) (λ k o known. upper_end u (taken_end u e n) o known) n.objects
            all.rows;
      }

      own : (b : Bool) → Fine (cond b (end_entries u e) [])
      own true = ends_fine u e
      own false = tt

      all_ends : (us : List Uid) → Fine (flat_map (λ act. end_entries act ending.Abort) us)
      all_ends [] = tt
      all_ends (w ∷ ws) =
          both (end_entries w ending.Abort) (flat_map (λ act. end_entries act ending.Abort) ws) (ends_fine w ending.Abort) (all_ends ws)

      orphan : (end : End) → Fine (end_orphans u end d n)
      orphan ending.Commit = tt
      orphan ending.Abort = all_ends (orphans u d n)

      lines : (end : End) (b : Bool) → Fine (cond b (Say (body.Told 1 u end part.Naming) ∷ []) [])
      lines end true = (tt, tt)
      lines end false = tt

      outs_of : (b : Bool) → Fine (cond {A = Did Naming} b (did_nothing n) (told_new u (taken_end u e n) d n)).outs
      outs_of true = tt
      outs_of false = both (end_orphans u (taken_end u e n) d n) (end_lines u (taken_end u e n) n) (orphan (taken_end u e n))
          (lines (taken_end u e n) (has_locks u n))

  pub uppers_hello : (node inc : ℕ) (n : Naming) → HoldsUppers acts n → HoldsUppers acts (hello node inc n)
  uppers_hello node inc n all =
      record { confirmed = all.confirmed; rows = all_each NamedUpper (λ k. hello_named node inc) (λ k o known. known) n.objects all.rows }

  pending_upper : (u : Uid) (ps : List (Uid × List ObjectState)) → AllByRecursion (λ (e : Uid × List ObjectState). IsTopOf acts e.0
      × AreOfEntries e.1) ps → (q : Uid × ObjectState) → pending_of u ps ≡ Some q → IsTopOf acts q.0
  pending_upper u [] all q is = absurd (cc is)
  pending_upper u (p ∷ ps) all q is = by (find (λ s. uid_eq s.uid u) p.1) is (pending_upper u ps all.1 q)
    where
      by : (o : Option ObjectState) → either (option_map (λ s. (p.0, s)) o) (pending_of u ps) ≡ Some q →
          (pending_of u ps ≡ Some q → IsTopOf acts q.0) → IsTopOf acts q.0
      by None found ih = ih found
      by (Some s) found ih = let same : (p.0, s) ≡ q = cc in subst (λ (z : Uid × ObjectState). IsTopOf acts z.0) same all.0.0

  pub uppers_recovered : (inc : ℕ) (d : Pair) → HavePrepared acts d → HoldsUppers acts (recovered_naming inc d)
  uppers_recovered inc d prepared = record { confirmed = keys d.pend prepared.pend; rows = by d.held }
    where
      keys : (ps : List (Uid × List ObjectState)) → AllByRecursion (λ (e : Uid × List ObjectState). IsTopOf acts e.0 × AreOfEntries e.1) ps
          → AllByRecursion (IsTopOf acts) (map (λ (p : Uid × List ObjectState). p.0) ps)
      keys [] all = tt
      keys (p ∷ ps) all = (all.0.0, keys ps all.1)

      back : (u : Uid) (held : ObjectState) (q : Option (Uid × ObjectState)) → pending_of u d.pend ≡ q → HaveUpper acts (rows_back u held q)
      back u held None is r k = absurd (in_from r [] k)
      back u held (Some p) is r k = ⊎_elim (λ same. subst (λ (w : Row). AreUpper acts w.holder) same
          (upper_of p.0 (pending_upper u d.pend prepared.pend p is), tt)) (λ none. absurd none) (in_from r (rows_back u held (Some p)) k)

      by : (held : List (Uid × ObjectState)) →
          AllByRecursion (λ (e : ℕ × Named). HaveUpper acts (let o = e.1 in o.rows)) (map (named_back d) held)
      by [] = tt
      by (e ∷ es) = (back e.0 e.1 (pending_of e.0 d.pend) refl, by es)

  -- ---- who asks

  module _ (begun : AreBegun acts) (p : Path) (who : IsAsker acts p) where
    asker_top : (b : Action) × In b acts × (uids_of b.path ≡ top_path p) × (b.kind ≢ kind.Nested) × (b.kind ≢ kind.Serial)
    asker_top = let t = top_action acts begun who.0 (in_from who.0 acts who.1) who.3 in (t.0, t.1, t.2 ∙ ap top_path who.2, t.3, t.4)

    pub top_asks : IsTopOf acts (top_of p)
    top_asks = let t = asker_top in (t.0, in_to t.0 acts t.1, ap last_uid t.2, t.3, t.4)

    pub path_asks : AreUpper acts (top_path p)
    path_asks = let t = asker_top in subst (AreUpper acts) t.2 (by t.0 t.1 t.3 (form_of acts begun t.0 t.1 t.3))
      where
        by : (t : Action) → In t acts → t.kind ≢ kind.Nested → Form acts t → AreUpper acts (uids_of t.path)
        by t i unnested (Alone alone) = subst (AreUpper acts) (sym alone) ((t, in_to t acts i, refl, unnested), tt)
        by t i unnested (Within s si serial const two) = subst (AreUpper acts) (sym two)
            ((s, in_to s acts si, refl, λ e. cc (sym serial ∙ e)), ((t, in_to t acts i, refl, unnested), tt))
