-- What naming does: the nodes that it has, that it answers, and that it writes.
use Rattle.arj_law_parts.proofs.Words
use Words.{◌≡◌, ◌≤◌, ◌+◌, ◌==◌, ◌||◌, ◌&&◌, arith, length, ℕ, List, [], ◌∷◌, ◌++◌, Bool, true, false, cond, filter, find, map, nat_le, not}
use Words.{Option, Some, None, refl, sym, ◌∙◌, ap, subst, ⊤, IfSome, is_some, option_map, AllByRecursion, flat_map, entry_back, Uid}
use Words.{Binding, BoundReply, ConfirmedReply, End, Entry, Mode, ObjectState, Path, RecordedReply, Row, entry, is_listed, is_on, last_uid}
use Words.{lower_row, tops_of, uid_eq, uids_of, with_store, without_store, top_of, Grants, Marks, back_lines, checked, confirm}
use Words.{confirm_entries, confirm_new, confirms, entries_after, entry_after, entry_state, has_all, lock_all, lock_in, marked, named_back}
use Words.{pending_of, prepared_by, recovered_lines, recovered_naming, rows_back, same_nodes, stores_after, wanted, with_stores}
use Words.{without_stores, grant_lines, is_granted, Already, Did, Do, InDoubt, Look, Old, Pair, Prep, Prepare, Ready, Say, Served}
use Words.{did_nothing, either, held_at, is_prepared, prepare_answer, reply, void, Counted, Live, Made, Named, bind_call, bind_made}
use Words.{bind_named, conflict_on, end_named, entry_row, hello_named, in_use, include_asked, is_lowered, live_above}
use Words.{live_after, live_asked, lock_lines, locked, lower_lines, lowered, made_above, make_asked, next_server, note_made, note_named}
use Words.{note_other, Naming, bind, end_entries, end_lines, end_orphans, entry_of, has_locks, hello, is_over, listed_entry, note}
use Words.{on_counted, on_named, orphans, own_entries, taken_end, told_new, at_number, at_uid, binding_eq, binding_less, row_top}
use Words.{state_entry, is_binding}
use Words.body
use Words.confirmed
use Words.ending
use Words.mode
use Words.part
use Words.recorded
use Words.role
use Words.what
use Rattle.arj_law_runs.proofs.Terms
use Terms.{told, AllOf, AreOf, BoundOf, EntryOf, HasEntry, IsEntry, NamedOf, NamingOf, PathOf, RowsOf, StateOf, UidsOf}
use Rattle.arj_law_runs.proofs.addresses
use addresses.Lists.{all_append, all_at_uid, all_filter, all_flat, all_map, all_put, all_some, all_without, keyed_each, keyed_found}
use addresses.Lists.{keyed_put, keys_found}
use addresses.Servers.{asked_of, drop_of, lower_of, pass_of, take_of, top_fits, tops_of_rows}
use Rattle.arj_law_runs.specs.addresses.Addresses.{LiveOf}
use Rattle.arj_protocol.specs.{Named.first_server, Named.server_behind, Naming.naming_holders}

module _ (G : ℕ → Type 0) (first : G 1) where
  abbrev IsMade : Uid × Made → Type 0
  IsMade e = G (let m = e.1 in m.server)

  abbrev Is : Named → Type 0
  Is o = NamedOf G o

  -- ---- servers in turn

  first_of : (ns : List ℕ) → 1 ≤ length ns → AreOf G ns → G (first_server ns)
  first_of [] some all = absurd (let z : 1 ≤ 0 = some in omega (arith, z))
  first_of (n ∷ ns) some all = all.0

  behind_of : (last : ℕ) (every ns : List ℕ) → 1 ≤ length every → AreOf G every → AreOf G ns → G (server_behind last every ns)
  behind_of last every [] some all its = first_of every some all
  behind_of last every (n ∷ []) some all its = first_of every some all
  behind_of last every (n ∷ m ∷ ns) some all its = by (n == last) (behind_of last every (m ∷ ns) some all its.1)
    where
      by : (b : Bool) → G (server_behind last every (m ∷ ns)) → G (cond b m (server_behind last every (m ∷ ns)))
      by true ih = its.1.0
      by false ih = ih

  next_of : (turn : Option ℕ) (ns : List ℕ) → 1 ≤ length ns → AreOf G ns → G (next_server turn ns)
  next_of None ns some all = first_of ns some all
  next_of (Some last) ns some all = behind_of last ns ns some all all

  -- ---- requests about one object

  lines_of : (new : Row) (rows : List Row) → AllOf G (grant_lines 1 new rows)
  lines_of new rows = by (is_granted new.object (last_uid new.holder) new.mode rows)
    where
      by : (b : Bool) → AllOf G (cond b [] (Say (body.Granted 1 (last_uid new.holder) new.object new.mode) ∷ []))
      by true = tt
      by false = (first, tt)

  abbrev IsBound : Served Counted BoundReply → Type 0
  IsBound r = Is (let c = r.part in c.named) × IfSome r.reply (BoundOf G) × AllOf G r.outs

  module _ (p : Path) (path : PathOf G p) where
    locked_of : (x : ℕ) (m : Mode) (o : Named) → Is o → Is (locked x p m o)
    locked_of x m o its = record {
      rows = asked_of G (entry_row x p m) o.rows (take_of G (tops_of p) (uids_of p) path, top_fits p) its.rows;
      live = its.live;
      made = its.made;
      turn = its.turn;
    }

    module _ (inc x : ℕ) (e : Entry) (its_entry : EntryOf G e) (c : Counted) (its : Is c.named) where
      live_asked_of : (l : Live) → G l.server → (r : Option Row) → IsBound (live_asked inc x p e c l r)
      live_asked_of l server (Some r) = (its, tt, tt)
      live_asked_of l server None =
          (locked_of x mode.Read c.named its, (server, its_entry.stores), lines_of (entry_row x p mode.Read) c.named.rows)

      made_of : (q : Option Made) → IfSome q (λ (m : Made). G m.server) → IsBound (bind_made inc x p e c q)
      made_of (Some m) server =
          (locked_of x mode.Write c.named its, (server, its_entry.stores), lines_of (entry_row x p mode.Write) c.named.rows)
      made_of None tells =
          let s = next_server c.named.turn e.servers in
          let next = next_of c.named.turn e.servers its_entry.some its_entry.servers in
          let l = locked_of x mode.Write c.named its in (
            record {
              rows = l.rows;
              live = l.live;
              made =
                  all_put IsMade (top_of p) (record { binding = record { inc = inc; count = c.count + 1 }; server = s; recorded = false })
                  c.named.made (λ w. next) its.made;
              turn = next;
            },
            (next, its_entry.stores),
            all_append _ (lock_lines x p mode.Write c.named) (Say (body.Bound x (record { inc = inc; count = c.count + 1 }) s) ∷ [])
                (lines_of (entry_row x p mode.Write) c.named.rows) (next, tt),
          )

      above_of : (avoid : Binding) (q : Option Made) → IfSome q (λ (m : Made). G m.server) →
          IfSome (made_above avoid q) (λ (m : Made). G m.server)
      above_of avoid None server = tt
      above_of avoid (Some m) server = by (not m.recorded && binding_less avoid m.binding)
        where
          by : (b : Bool) → IfSome (cond b (Some m) None) (λ (k : Made). G k.server)
          by true = server
          by false = tt

      found_of : (u : Uid) (ms : List (Uid × Made)) → AllByRecursion IsMade ms → (q : Option Made) → at_uid u ms ≡ q →
          IfSome q (λ (m : Made). G m.server)
      found_of u ms all None is = tt
      found_of u ms all (Some m) is = all_at_uid (λ (k : Made). G k.server) u m ms all is

      make_of : (avoid : Binding) (r : Option Row) → IsBound (make_asked inc x p avoid e c r)
      make_of avoid (Some r) = (its, tt, tt)
      make_of avoid None = made_of (made_above avoid (at_uid (top_of p) c.named.made)) (above_of avoid (at_uid (top_of p) c.named.made)
          (found_of (top_of p) c.named.made its.made (at_uid (top_of p) c.named.made) refl))

      live_of : (avoid : Binding) (l : Option Live) → LiveOf G l → LiveOf G (live_above avoid l)
      live_of avoid None so = tt
      live_of avoid (Some l) so = by (binding_less avoid l.binding)
        where
          by : (b : Bool) → LiveOf G (cond b (Some l) None)
          by true = so
          by false = tt

      call_of : (avoid : Binding) (l : Option Live) → LiveOf G l → IsBound (bind_call inc x p avoid e c l)
      call_of avoid (Some l) so = live_asked_of l so (conflict_on x p mode.Read c.named)
      call_of avoid None so = make_of avoid (conflict_on x p mode.Write c.named)

      include_of : (r : Option Row) → IsBound (include_asked inc x p e c r)
      include_of (Some r) = (its, tt, tt)
      include_of None = let l = locked_of x mode.Write c.named its in (
        record { rows = l.rows; live = l.live; made = l.made; turn = l.turn },
        its_entry.stores,
        lines_of (entry_row x p mode.Write) c.named.rows,
      )

      bound_of : (include : Bool) (avoid : Binding) → IsBound (bind_named inc x p include avoid e c)
      bound_of true avoid = include_of (conflict_on x p mode.Write c.named)
      bound_of false avoid = call_of avoid (live_above avoid c.named.live) (live_of avoid c.named.live its.live)

  -- ---- entries

  abbrev IsHeld : List (Uid × ObjectState) → Type 0
  IsHeld held = AllByRecursion (λ (e : Uid × ObjectState). IsEntry e.0 × StateOf G e.1) held

  held_of : (u : Uid) (s : ObjectState) (held : List (Uid × ObjectState)) → IsHeld held → at_uid u held ≡ Some s → StateOf G s
  held_of u s held all is = all_at_uid (StateOf G) u s held (states held all) is
    where
      states : (es : List (Uid × ObjectState)) → IsHeld es → AllByRecursion (λ (e : Uid × ObjectState). StateOf G e.1) es
      states [] k = tt
      states (e ∷ es) k = (k.0.1, states es k.1)

  listed_of : (x : ℕ) (d : Pair) → HasEntry d x → IsHeld d.held → EntryOf G (listed_entry x d)
  listed_of x d has held = by (held_at (entry x) d) refl
    where
      by : (o : Option ObjectState) → held_at (entry x) d ≡ o → EntryOf G (entry_of o)
      by None is = let no_way : false ≡ true = sym (ap is_some is) ∙ has in absurd (cc no_way)
      by (Some s) is = (held_of (entry x) s d.held held is).1

  pub bind_of : (p : Path) (x : ℕ) (include : Bool) (avoid : Binding) (d : Pair) (n : Naming) → PathOf G p → IsHeld d.held →
      NamingOf G d n → (let r = bind p x include avoid d n in NamingOf G d r.part × IfSome r.reply (BoundOf G) × AllOf G r.outs)
  bind_of p x include avoid d n path held all = by (is_over p n)
    where
      call : Counted → Served Counted BoundReply
      call = bind_named n.inc x p include avoid (listed_entry x d)

      Well : Served Naming BoundReply → Type 0
      Well r = NamingOf G d r.part × IfSome r.reply (BoundOf G) × AllOf G r.outs

      there : (o : Option Named) → at_number x n.objects ≡ o → Well (on_counted x call n o)
      there None is = (all, tt, tt)
      there (Some o) is = let f = keyed_found (HasEntry d) Is x n.objects o all is in let r = bound_of p path n.inc x (listed_entry x d)
          (listed_of x d f.0 held) (record { named = o; count = n.count }) f.1 include avoid in
          (keyed_put (HasEntry d) Is x _ n.objects f.0 r.0 all, r.1, r.2)

      by : (b : Bool) → Well (cond b (void n) (on_counted x call n (at_number x n.objects)))
      by true = (all, tt, tt)
      by false = there (at_number x n.objects) refl

  -- ---- records

  noted_of : (x : ℕ) (top : Uid) (b : Binding) (i : ℕ) (o : Named) → Is o → Is (note_named x top b i o).part
  noted_of x top b i o so = by (is_binding b o.recorded)
    where
      lowered_of : (v : Named) → Is v → Is (lowered x top v)
      lowered_of v s = one (is_lowered x top v)
        where
          one : (c : Bool) → Is (cond c (record v { rows = lower_row top (entry x) v.rows }) v)
          one true = record { rows = lower_of G top (entry x) v.rows s.rows; live = s.live; made = s.made; turn = s.turn }
          one false = s

      made : (m : Made) → G m.server → Is (note_made x top i o m).part
      made m its = one m.recorded
        where
          one : (c : Bool) → Is (cond {A = Served Named RecordedReply} c (reply o recorded.Yes)
              (record { part = lowered x top (in_use top m i o); outs = lower_lines x top o; reply = Some recorded.Yes })).part
          one true = so
          one false = lowered_of (in_use top m i o) (record {
            rows = so.rows;
            live = its;
            made = all_put IsMade top (record m { recorded = true }) o.made (λ w. its) so.made;
            turn = so.turn;
          })

      other : (q : Option Made) → at_uid top o.made ≡ q → Is (note_other x top b i o q).part
      other None is = so
      other (Some m) is = one (binding_eq b m.binding)
        where
          one : (c : Bool) → Is (cond {A = Served Named RecordedReply} c (note_made x top i o m) (void o)).part
          one true = made m (all_at_uid (λ (k : Made). G k.server) top m o.made so.made is)
          one false = so

      by : (c : Bool) →
          Is (cond {A = Served Named RecordedReply} c (reply o recorded.Yes) (note_other x top b i o (at_uid top o.made))).part
      by true = so
      by false = other (at_uid top o.made) refl

  note_says : (x : ℕ) (top : Uid) (b : Binding) (i : ℕ) (o : Named) → AllOf G (note_named x top b i o).outs
  note_says x top b i o = by (is_binding b o.recorded)
    where
      low : (c : Bool) → AllOf G (cond c (Say (body.Lowered 1 top (entry x)) ∷ []) [])
      low true = (first, tt)
      low false = tt

      made : (m : Made) (c : Bool) → AllOf G (cond {A = Served Named RecordedReply} c (reply o recorded.Yes)
          (record { part = lowered x top (in_use top m i o); outs = lower_lines x top o; reply = Some recorded.Yes })).outs
      made m true = tt
      made m false = low (is_lowered x top o)

      same : (m : Made) (c : Bool) → AllOf G (cond {A = Served Named RecordedReply} c (note_made x top i o m) (void o)).outs
      same m true = made m m.recorded
      same m false = tt

      other : (q : Option Made) → AllOf G (note_other x top b i o q).outs
      other None = tt
      other (Some m) = same m (binding_eq b m.binding)

      by : (c : Bool) →
          AllOf G (cond {A = Served Named RecordedReply} c (reply o recorded.Yes) (note_other x top b i o (at_uid top o.made))).outs
      by true = tt
      by false = other (at_uid top o.made)

  pub note_of : (p : Path) (x : ℕ) (b : Binding) (i g : ℕ) (d : Pair) (n : Naming) → NamingOf G d n →
      (let r = note p x b i g n in NamingOf G d r.part × AllOf G r.outs)
  note_of p x b i g d n all = by (is_over p n || not (is_some (at_number x n.objects))) (g == n.inc)
    where
      Well : Served Naming RecordedReply → Type 0
      Well r = NamingOf G d r.part × AllOf G r.outs

      there : (o : Option Named) → at_number x n.objects ≡ o → Well (on_named x (note_named x (top_of p) b i) n o)
      there None is = (all, tt)
      there (Some o) is = let f = keyed_found (HasEntry d) Is x n.objects o all is in (
        keyed_put (HasEntry d) Is x (note_named x (top_of p) b i o).part n.objects f.0 (noted_of x (top_of p) b i o f.1) all,
        note_says x (top_of p) b i o,
      )

      by : (over ours : Bool) → Well (cond {A = Served Naming RecordedReply} over (void n) (cond {A = Served Naming RecordedReply} ours
          (on_named x (note_named x (top_of p) b i) n (at_number x n.objects)) (reply n (recorded.Changed (what.Inc g n.inc)))))
      by true ours = (all, tt)
      by false true = there (at_number x n.objects) refl
      by false false = (all, tt)

  -- ---- confirms

  with_of : (ss stores : List ℕ) → AreOf G ss → AreOf G stores → AreOf G (with_stores ss stores)
  with_of [] stores its all = all
  with_of (s ∷ ss) stores its all = with_of ss (with_store s stores) its.1 (one (is_listed s stores))
    where
      one : (b : Bool) → AreOf G (cond b stores (stores ++ s ∷ []))
      one true = all
      one false = all_append G stores (s ∷ []) all (its.0, tt)

  without_of : (ss stores : List ℕ) → AreOf G stores → AreOf G (without_stores ss stores)
  without_of [] stores all = all
  without_of (s ∷ ss) stores all = without_of ss (without_store s stores) (all_filter G _ stores all)

  pub listed_after : (x : ℕ) (excluded included : Marks) (stores : List ℕ) → AllByRecursion (λ (m : ℕ × ℕ). G m.1) included →
      AreOf G stores → AreOf G (with_stores (marked x included) (without_stores (marked x excluded) stores))
  listed_after x excluded included stores its all =
      with_of (marked x included) (without_stores (marked x excluded) stores)
      (all_map (λ (m : ℕ × ℕ). G m.1) G (λ (m : ℕ × ℕ). m.1) (filter (λ (m : ℕ × ℕ). m.0 == x) included) (λ m s. s)
      (all_filter (λ (m : ℕ × ℕ). G m.1) (λ (m : ℕ × ℕ). m.0 == x) included its))
      (without_of (marked x excluded) stores all)

  entries_of : (top : Uid) (grants : Grants) (excluded included : Marks) (d : Pair) → AllByRecursion (λ (m : ℕ × ℕ). G m.1) included →
      IsHeld d.held → AllByRecursion (StateOf G) (entries_after top grants excluded included d)
  entries_of top grants excluded included d its held = all_some (λ (g : ℕ × ℕ). ⊤) (StateOf G) (λ (g : ℕ × ℕ).
      entry_after top excluded included g.0 (held_at (entry g.0) d)) grants (λ g u. by g.0 (held_at (entry g.0) d) refl) (anything grants)
    where
      anything : (gs : Grants) → AllByRecursion (λ (g : ℕ × ℕ). ⊤) gs
      anything [] = tt
      anything (g ∷ gs) = (tt, anything gs)

      by : (x : ℕ) (o : Option ObjectState) → held_at (entry x) d ≡ o → IfSome (entry_after top excluded included x o) (StateOf G)
      by x None is = tt
      by x (Some s) is = one (same_nodes (stores_after x excluded included (state_entry s)) (state_entry s).stores)
        where
          was : EntryOf G (state_entry s)
          was = (held_of (entry x) s d.held held is).1

          stores : List ℕ
          stores = stores_after x excluded included (state_entry s)

          one : (b : Bool) → IfSome (cond b None (Some (entry_state x top s stores))) (StateOf G)
          one true = tt
          one false = (
            refl,
            subst (EntryOf G) (sym (entry_back (record { servers = (state_entry s).servers; stores = stores }))) (record {
              servers = was.servers;
              stores = listed_after x excluded included (state_entry s).stores its was.stores;
              some = was.some;
            }),
          )

  module _ (p : Path) (path : PathOf G p) (act : G (let u = top_of p in u.node)) where
    locks_of : (q : Pair) (xs : List ℕ) (n : Naming) → NamingOf G q n → (let d = lock_all xs p n in NamingOf G q d.part × AllOf G d.outs)
    locks_of q [] n all = (all, tt)
    locks_of q (x ∷ xs) n all =
        let f = one (at_number x n.objects) refl in
        let r = locks_of q xs (lock_in x p n (at_number x n.objects)).part f.0 in (
          r.0,
          all_append _ (lock_in x p n (at_number x n.objects)).outs (lock_all xs p (lock_in x p n (at_number x n.objects)).part).outs f.1
              r.1,
        )
      where
        one : (o : Option Named) → at_number x n.objects ≡ o → (let d = lock_in x p n o in NamingOf G q d.part × AllOf G d.outs)
        one None is = (all, tt)
        one (Some o) is = let f = keyed_found (HasEntry q) Is x n.objects o all is in (
          keyed_put (HasEntry q) Is x (locked x p mode.Exclude o) n.objects f.0 (locked_of p path x mode.Exclude o f.1) all,
          lines_of (entry_row x p mode.Exclude) o.rows,
        )

    pub confirm_of : (grants : Grants) (excluded included : Marks) (d : Pair) (n : Naming) → AllByRecursion (λ (m : ℕ × ℕ). G m.1) included
        → IsHeld d.held → NamingOf G d n → (let r = confirm p grants excluded included d n in NamingOf G d r.part × AllOf G r.outs)
    confirm_of grants excluded included d n its held all =
        by (is_over p n || not (has_all grants n)) (is_on n.confirmed (top_of p) || is_prepared (top_of p) d)
      where
        Well : Served Naming ConfirmedReply → Type 0
        Well r = NamingOf G d r.part × AllOf G r.outs

        answered : (states : List ObjectState) (t : Did Naming) (a : Prep) → AllByRecursion (StateOf G) states →
            NamingOf G d t.part × AllOf G t.outs → Well (prepared_by (top_of p) states t a)
        answered states t Ready all_states s = (
          s.0,
          all_append _ t.outs (Do Look ∷ Do (Prepare role.Names (top_of p) states) ∷ Say (body.Prepared 1 (top_of p) role.Names) ∷ []) s.1
              (tt, ((act, all_states), (first, tt))),
        )
        answered states t (Already u) all_states s = (s.0, all_append _ t.outs (Do Look ∷ []) s.1 (tt, tt))
        answered states t (Old u v) all_states s = (s.0, all_append _ t.outs (Do Look ∷ []) s.1 (tt, tt))
        answered states t (InDoubt u v) all_states s = (s.0, all_append _ t.outs (Do Look ∷ []) s.1 (tt, tt))

        entries : (states : List ObjectState) (t : Did Naming) → AllByRecursion (StateOf G) states → NamingOf G d t.part × AllOf G t.outs →
            Well (confirm_entries (top_of p) states d t)
        entries [] t all_states s = s
        entries (x ∷ xs) t all_states s = answered (x ∷ xs) t (prepare_answer (top_of p) (x ∷ xs) d) all_states s

        new : (c : Option ConfirmedReply) → Well (confirm_new p grants excluded included d n c)
        new (Some r) = (all, tt)
        new None = entries (entries_after (top_of p) grants excluded included d) (lock_all (wanted (top_of p) grants excluded d) p n)
            (entries_of (top_of p) grants excluded included d its held) (locks_of d (wanted (top_of p) grants excluded d) n all)

        by : (over again : Bool) →
            Well (cond {A = Served Naming ConfirmedReply} over (void n) (cond {A = Served Naming ConfirmedReply} again (reply
            (confirms (top_of p) n) confirmed.Yes) (confirm_new p grants excluded included d n (checked p grants excluded included d n))))
        by true again = (all, tt)
        by false true = (all, tt)
        by false false = new (checked p grants excluded included d n)

  -- ---- ends, a server that comes back, and a restart

  ends_of : (u : Uid) (e : End) → AllOf G (end_entries u e)
  ends_of u ending.Commit = (tt, (first, tt))
  ends_of u ending.Abort = (tt, (first, tt))

  pub told_of : (u : Uid) (e : End) (d : Pair) (n : Naming) → NamingOf G d n →
      (let r = told u e d n in NamingOf G d r.part × AllOf G r.outs)
  told_of u e d n all = (
    part_of (is_on n.told u),
    all_append _ (own_entries u e d) (let t = cond {A = Did Naming} (is_on n.told u) (did_nothing n) (told_new u (taken_end u e n) d n) in
        t.outs) (own (is_prepared u d)) (outs_of (is_on n.told u)),
  )
    where
      ended : (end : End) (o : Named) → Is o → Is (end_named u end o)
      ended ending.Commit o s =
          record { rows = pass_of G u o.rows s.rows; live = s.live; made = all_without IsMade u o.made s.made; turn = s.turn }
      ended ending.Abort o s =
          record { rows = drop_of G u o.rows s.rows; live = s.live; made = all_without IsMade u o.made s.made; turn = s.turn }

      part_of : (b : Bool) → NamingOf G d (cond {A = Did Naming} b (did_nothing n) (told_new u (taken_end u e n) d n)).part
      part_of true = all
      part_of false = keyed_each (HasEntry d) Is (λ k. end_named u (taken_end u e n)) (λ k o s. ended (taken_end u e n) o s) n.objects all

      own : (b : Bool) → AllOf G (cond b (end_entries u e) [])
      own true = ends_of u e
      own false = tt

      all_ends : (us : List Uid) → AllOf G (flat_map (λ act. end_entries act ending.Abort) us)
      all_ends [] = tt
      all_ends (w ∷ ws) = all_append _ (end_entries w ending.Abort) (flat_map (λ act. end_entries act ending.Abort) ws)
          (ends_of w ending.Abort) (all_ends ws)

      orphan : (end : End) → AllOf G (end_orphans u end d n)
      orphan ending.Commit = tt
      orphan ending.Abort = all_ends (orphans u d n)

      lines : (end : End) (b : Bool) → AllOf G (cond b (Say (body.Told 1 u end part.Naming) ∷ []) [])
      lines end true = (first, tt)
      lines end false = tt

      outs_of : (b : Bool) → AllOf G (cond {A = Did Naming} b (did_nothing n) (told_new u (taken_end u e n) d n)).outs
      outs_of true = tt
      outs_of false = all_append _ (end_orphans u (taken_end u e n) d n) (end_lines u (taken_end u e n) n) (orphan (taken_end u e n))
          (lines (taken_end u e n) (has_locks u n))

  pub hello_of : (node inc : ℕ) (d : Pair) (n : Naming) → NamingOf G d n → NamingOf G d (hello node inc n)
  hello_of node inc d n all = keyed_each (HasEntry d) Is (λ k. hello_named node inc)
      (λ k o s. record { rows = s.rows; live = after o.live s.live; made = s.made; turn = s.turn }) n.objects all
    where
      after : (l : Option Live) → LiveOf G l → LiveOf G (live_after node inc l)
      after None its = tt
      after (Some l) its = by ((l.server == node) && not (nat_le inc l.inc))
        where
          by : (b : Bool) → LiveOf G (cond b None (Some l))
          by true = tt
          by false = its

  pub holders_of : (d : Pair) (n : Naming) → NamingOf G d n → UidsOf G (naming_holders n)
  holders_of d n all = all_flat (λ (e : ℕ × Named). HasEntry d e.0 × Is e.1) (λ (u : Uid). G u.node)
      (λ (e : ℕ × Named). map row_top e.1.rows) n.objects (λ e its. tops_of_rows G e.1.rows its.1.rows) all

  pub recovered_of : (inc : ℕ) (d : Pair) → AllByRecursion (λ (e : Uid × List ObjectState). G e.0.node × AllByRecursion (StateOf G) e.1)
      d.pend → IsHeld d.held → NamingOf G d (recovered_naming inc d)
  recovered_of inc d pend held = by d.held held (keys_found d.held)
    where
      pending : (u : Uid) (ps : List (Uid × List ObjectState)) → AllByRecursion (λ (e : Uid × List ObjectState). G e.0.node
          × AllByRecursion (StateOf G) e.1) ps → IfSome (pending_of u ps) (λ (q : Uid × ObjectState). G q.0.node)
      pending u [] all = tt
      pending u (p ∷ ps) all = one (find (λ s. uid_eq s.uid u) p.1) (pending u ps all.1)
        where
          one : (o : Option ObjectState) → IfSome (pending_of u ps) (λ (q : Uid × ObjectState). G q.0.node) →
              IfSome (either (option_map (λ s. (p.0, s)) o) (pending_of u ps)) (λ (q : Uid × ObjectState). G q.0.node)
          one None ih = ih
          one (Some s) ih = all.0.0

      back : (u : Uid) (held : ObjectState) (q : Option (Uid × ObjectState)) → IfSome q (λ (p : Uid × ObjectState). G p.0.node) →
          RowsOf G (rows_back u held q)
      back u held None its = tt
      back u held (Some p) its = (((its, tt), omega arith), tt)

      by : (es : List (Uid × ObjectState)) → IsHeld es → AllByRecursion (λ (e : Uid × ObjectState). is_some (at_uid e.0 d.held) ≡ true) es
          → AllByRecursion (λ (e : ℕ × Named). HasEntry d e.0 × Is e.1) (map (named_back d) es)
      by [] all found = tt
      by (e ∷ es) all found = (
        (
          ap (λ u. is_some (at_uid u d.held)) (sym all.0.0) ∙ found.0,
          record { rows = back e.0 e.1 (pending_of e.0 d.pend) (pending e.0 d.pend pend); live = tt; made = tt; turn = tt },
        ),
        by es all.1 found.1,
      )

  pub back_of : (n : Naming) → AllOf G (recovered_lines n)
  back_of n = by n.objects
    where
      rows : (rs : List Row) → AllOf G (map (λ (r : Row). Say (body.Granted 1 (last_uid r.holder) r.object r.mode)) rs)
      rows [] = tt
      rows (r ∷ rs) = (first, rows rs)

      by : (es : List (ℕ × Named)) → AllOf G (flat_map (λ (e : ℕ × Named). back_lines e.1) es)
      by [] = tt
      by (e ∷ es) = all_append _ (back_lines e.1) (flat_map (λ (z : ℕ × Named). back_lines z.1) es) (rows e.1.rows) (by es)
