-- Naming's locks on an entry at each of a handler's lines: those before all of them, or those behind, since one line at most changes them.
use Rattle.arj_law_parts.proofs.Words
use Words.{◌≡◌, ◌⊎◌, ◌∙◌, ◌==◌, ◌++◌, ◌+◌, ◌&&◌, ℕ, List, [], ◌∷◌, Bool, true, false, filter, map, Option, Some, None, refl, sym, ap, subst}
use Words.{inl, inr, eqb-true, ⊤, ◌||◌, if◌then◌else◌, is_some, not, option_map, AllByRecursion, flat_map, list_all, and_parts, or_parts}
use Words.{entry, object, Ask, Asked, Binding, End, Entry, Head, Message, Mode, ObjectState, Path, Row, Uid, ConfirmedReply, RecordedReply}
use Words.{asks, grant_row, is_on, last_uid, Reply, actor, answers, asked_by, last_end, response, top_of, top_path, heard, Grants, Marks}
use Words.{checked, confirm, confirm_entries, confirm_new, confirms, entries_after, has_all, lock_all, lock_in, prepared_by, wanted}
use Words.{wants_lock, is_granted, row_for, Already, Did, Disk, Do, Effect, InDoubt, Look, Old, Pair, Prep, Prepare, Ready, Say, Send}
use Words.{Served, did_nothing, held_at, holder_of, is_prepared, prepare_answer, reply, void, acked, answer_query, Holders, rows_after}
use Words.{rows_by, Counted, Live, Made, Named, bind_call, bind_made, bind_named, conflict_on, in_use, include_asked}
use Words.{is_lowered, live_above, live_asked, lock_lines, lower_lines, lowered, made_above, make_asked, next_server, note_made, note_named}
use Words.{note_other, Naming, end_entries, end_lines, end_orphans, is_over, listed_entry, on_counted, on_named, orphans, own_entries}
use Words.{told_new, Handled, Parts, Took, Void, ack_told, by_reply, end_states, handle, handle_answer, handle_ask, handle_ends}
use Words.{handle_other, holders, if_naming, is_earlier, is_meant, load_by, load_held, naming_told, prepare_by, prepare_states, query_about}
use Words.{sends_answer, serve, served, stand_once, store_told, with_coord, with_naming, with_server, answer_is_meant, asked_is_meant}
use Words.{ask_is_meant, at_number, at_uid, binding_eq, has, AreAll, is_coord_effect, is_server_effect, acked_own, heard_own, map_own}
use Words.{query_own, activate_own, ends_own, invoke_own, vote_own, Quiet, coord_quiet, is_binding}
use Words.ask
use Words.body
use Words.confirmed
use Words.ending
use Words.loaded
use Words.message
use Words.mode
use Words.prepared
use Words.recorded
use Words.role
use Words.what
use Words.naming
use Words.server
use Rattle.arj_law_serial.proofs.Terms.part
use Rattle.arj_law_serial.proofs.holding.Prefixes.{Along}
use Rattle.arj_protocol.proofs.Quiet.{server_quiet}

-- ---- numbers that stand once

has_less : (f : ℕ → Bool) (y : ℕ) (ys : List ℕ) → has ys y ≡ false → has (filter f ys) y ≡ false
has_less f y [] none = none
has_less f y (z ∷ zs) none = let q = or_parts (z == y) (has zs y) none in by (f z) q.0 (has_less f y zs q.1)
  where
    by : (b : Bool) → (z == y) ≡ false → has (filter f zs) y ≡ false → has (if b then z ∷ filter f zs else filter f zs) y ≡ false
    by true off rest = λ i. off i || rest i
    by false off rest = rest

none_not : (b : Bool) → not b ≡ true → b ≡ false
none_not true is = absurd (cc is)
none_not false is = refl

once_less : (f : ℕ → Bool) (ys : List ℕ) → stand_once ys ≡ true → stand_once (filter f ys) ≡ true
once_less f [] once = once
once_less f (y ∷ ys) once = let q = and_parts (not (has ys y)) (stand_once ys) once in
    by (f y) (none_not (has ys y) q.0) (once_less f ys q.1)
  where
    by : (b : Bool) → has ys y ≡ false → stand_once (filter f ys) ≡ true → stand_once (if b then y ∷ filter f ys else filter f ys) ≡ true
    by true off rest = λ i. not (has_less f y ys off i) && rest i
    by false off rest = rest

module _ (h : Holders) (x : ℕ) where
  -- ---- effects that change them once

  -- they leave the locks on the entry
  abbrev pub AreStill : List Effect → Type 0
  AreStill es = AllByRecursion (Quiet h 1 part.Naming (entry x)) es

  -- all but one of them do
  abbrev pub DoesOnce : List Effect → Type 0
  DoesOnce [] = ⊤
  DoesOnce (e ∷ es) = (Quiet h 1 part.Naming (entry x) e × DoesOnce es) ⊎ AreStill es

  abbrev After : List Effect → List Row → List Row
  After es rows = rows_after h 1 part.Naming (entry x) es rows

  still_rows : (es : List Effect) → AreStill es → (rows : List Row) → After es rows ≡ rows
  still_rows [] s rows = refl
  still_rows (Say b ∷ es) s rows = still_rows es s.1 (rows_by h 1 part.Naming (entry x) b rows) ∙ s.0 rows
  still_rows (Send to m ∷ es) s rows = still_rows es s.1 rows
  still_rows (Do w ∷ es) s rows = still_rows es s.1 rows

  still_both : (es fs : List Effect) → AreStill es → AreStill fs → AreStill (es ++ fs)
  still_both [] fs a b = b
  still_both (e ∷ es) fs a b = (a.0, still_both es fs a.1 b)

  still_flat : {A : Type 0} (f : A → List Effect) (items : List A) → ((a : A) → AreStill (f a)) → AreStill (flat_map f items)
  still_flat f [] each = tt
  still_flat f (a ∷ rest) each = still_both (f a) (flat_map f rest) (each a) (still_flat f rest each)

  still_all : (test : Effect → Bool) → ((e : Effect) → test e ≡ true → Quiet h 1 part.Naming (entry x) e) → (es : List Effect) →
      AreAll test es → AreStill es
  still_all test each [] all = tt
  still_all test each (e ∷ es) all = let q = and_parts (test e) (list_all test es) all in (each e q.0, still_all test each es q.1)

  still_once : (es : List Effect) → AreStill es → DoesOnce es
  still_once [] s = tt
  still_once (e ∷ es) s = inl (s.0, still_once es s.1)

  once_behind : (es fs : List Effect) → AreStill es → DoesOnce fs → DoesOnce (es ++ fs)
  once_behind [] fs s o = o
  once_behind (e ∷ es) fs s o = inl (s.0, once_behind es fs s.1 o)

  once_before : (es fs : List Effect) → DoesOnce es → AreStill fs → DoesOnce (es ++ fs)
  once_before [] fs o s = still_once fs s
  once_before (e ∷ es) fs (inl o) s = inl (o.0, once_before es fs o.1 s)
  once_before (e ∷ es) fs (inr a) s = inr (still_both es fs a s)

  once_if : (b : Bool) (es fs : List Effect) → DoesOnce es → DoesOnce fs → DoesOnce (if b then es else fs)
  once_if true es fs a c = a
  once_if false es fs a c = c

  -- so at each line they are those before, or those behind
  module _ (Ok : List Row → Type 0) where
    abbrev Runs : List Effect → List Row → Type 0
    Runs es rows = Along h 1 part.Naming (entry x) Ok es rows

    still_along : (es : List Effect) → AreStill es → (rows : List Row) → Ok rows → Runs es rows
    still_along [] s rows ok = ok
    still_along (Say b ∷ es) s rows ok = (ok, subst (Runs es) (sym (s.0 rows)) (still_along es s.1 rows ok))
    still_along (Send to m ∷ es) s rows ok = still_along es s.1 rows ok
    still_along (Do w ∷ es) s rows ok = still_along es s.1 rows ok

    pub once_along : (es : List Effect) → DoesOnce es → (rows : List Row) → Ok rows → Ok (After es rows) → Runs es rows
    once_along [] o rows ok end = ok
    once_along (Say b ∷ es) (inl o) rows ok end =
        (ok, subst (Runs es) (sym (o.0 rows)) (once_along es o.1 rows ok (subst Ok (ap (After es) (o.0 rows)) end)))
    once_along (Say b ∷ es) (inr s) rows ok end = let r = rows_by h 1 part.Naming (entry x) b rows in
        (ok, still_along es s r (subst Ok (still_rows es s r) end))
    once_along (Send to m ∷ es) (inl o) rows ok end = once_along es o.1 rows ok end
    once_along (Send to m ∷ es) (inr s) rows ok end = still_along es s rows ok
    once_along (Do w ∷ es) (inl o) rows ok end = once_along es o.1 rows ok end
    once_along (Do w ∷ es) (inr s) rows ok end = still_along es s rows ok

  -- ---- a Bind, and a Record

  lock_once : (y : ℕ) (p : Path) (m : Mode) (o : Named) → DoesOnce (lock_lines y p m o)
  lock_once y p m o = once_if (is_granted (entry y) (last_uid (top_path p)) m o.rows) []
      (Say (body.Granted 1 (last_uid (top_path p)) (entry y) m) ∷ []) tt (inr tt)

  made_once : (inc y : ℕ) (p : Path) (e : Entry) (c : Counted) (m : Option Made) → DoesOnce (bind_made inc y p e c m).outs
  made_once inc y p e c (Some m) = lock_once y p mode.Write c.named
  made_once inc y p e c None = once_before (lock_lines y p mode.Write c.named)
      (Say (body.Bound y (record { inc = inc; count = c.count + 1 }) (next_server c.named.turn e.servers)) ∷ [])
      (lock_once y p mode.Write c.named) ((λ rows. refl), tt)

  live_once : (inc y : ℕ) (p : Path) (e : Entry) (c : Counted) (l : Live) (r : Option Row) → DoesOnce (live_asked inc y p e c l r).outs
  live_once inc y p e c l (Some r) = tt
  live_once inc y p e c l None = lock_once y p mode.Read c.named

  make_once : (inc y : ℕ) (p : Path) (avoid : Binding) (e : Entry) (c : Counted) (r : Option Row) →
      DoesOnce (make_asked inc y p avoid e c r).outs
  make_once inc y p avoid e c (Some r) = tt
  make_once inc y p avoid e c None = made_once inc y p e c (made_above avoid (at_uid (top_of p) c.named.made))

  include_once : (inc y : ℕ) (p : Path) (e : Entry) (c : Counted) (r : Option Row) → DoesOnce (include_asked inc y p e c r).outs
  include_once inc y p e c (Some r) = tt
  include_once inc y p e c None = lock_once y p mode.Write c.named

  call_once : (inc y : ℕ) (p : Path) (avoid : Binding) (e : Entry) (c : Counted) (l : Option Live) →
      DoesOnce (bind_call inc y p avoid e c l).outs
  call_once inc y p avoid e c (Some l) = live_once inc y p e c l (conflict_on y p mode.Read c.named)
  call_once inc y p avoid e c None = make_once inc y p avoid e c (conflict_on y p mode.Write c.named)

  named_once : (inc y : ℕ) (p : Path) (include : Bool) (avoid : Binding) (e : Entry) (c : Counted) →
      DoesOnce (bind_named inc y p include avoid e c).outs
  named_once inc y p true avoid e c = include_once inc y p e c (conflict_on y p mode.Write c.named)
  named_once inc y p false avoid e c = call_once inc y p avoid e c (live_above avoid c.named.live)

  bind_once : (p : Path) (y : ℕ) (include : Bool) (avoid : Binding) (d : Pair) (n : Naming) →
      DoesOnce (naming.bind p y include avoid d n).outs
  bind_once p y include avoid d n = by (is_over p n) (at_number y n.objects)
    where
      by : (b : Bool) (o : Option Named) →
          DoesOnce (if b then void n else on_counted y (bind_named n.inc y p include avoid (listed_entry y d)) n o).outs
      by true o = tt
      by false None = tt
      by false (Some o) = named_once n.inc y p include avoid (listed_entry y d) (record { named = o; count = n.count })

  note_made_once : (y : ℕ) (top : Uid) (i : ℕ) (o : Named) (m : Made) → DoesOnce (note_made y top i o m).outs
  note_made_once y top i o m = by m.recorded
    where
      r : Served Named RecordedReply
      r = record { part = lowered y top (in_use top m i o); outs = lower_lines y top o; reply = Some recorded.Yes }

      by : (b : Bool) → DoesOnce (if b then reply o recorded.Yes else r).outs
      by true = tt
      by false = once_if (is_lowered y top o) (Say (body.Lowered 1 top (entry y)) ∷ []) [] (inr tt) tt

  note_once : (p : Path) (y : ℕ) (b : Binding) (i g : ℕ) (n : Naming) → DoesOnce (naming.note p y b i g n).outs
  note_once p y b i g n = by (is_over p n || not (is_some (at_number y n.objects))) (g == n.inc) (at_number y n.objects)
    where
      known : (o : Named) (v : Bool) (m : Option Made) → DoesOnce (if v then reply o recorded.Yes else note_other y (top_of p) b i o m).outs
      known o true m = tt
      known o false None = tt
      known o false (Some m) = other m (binding_eq b m.binding)
        where
          other : (m : Made) (e : Bool) → DoesOnce (if e then note_made y (top_of p) i o m else void o).outs
          other m true = note_made_once y (top_of p) i o m
          other m false = tt

      by : (v e : Bool) (o : Option Named) → DoesOnce (if v then void n else
          (if e then on_named y (note_named y (top_of p) b i) n o else reply n (recorded.Changed (what.Inc g n.inc)))).outs
      by true e o = tt
      by false false o = tt
      by false true None = tt
      by false true (Some o) = known o (is_binding b o.recorded) (at_uid (top_of p) o.made)

  -- ---- a Confirm

  -- an entry of another object
  other_still : (y : ℕ) → (y == x) ≡ false → (p : Path) (m : Mode) (o : Named) → AreStill (lock_lines y p m o)
  other_still y off p m o = by (is_granted (entry y) (last_uid (top_path p)) m o.rows)
    where
      u : Uid
      u = last_uid (top_path p)

      by : (b : Bool) → AreStill (if b then [] else Say (body.Granted 1 u (entry y) m) ∷ [])
      by true = tt
      by false = ((λ rows. ap (λ (b : Bool). if b then grant_row (row_for (entry x) (h.path u) (h.tops u) m) rows else rows) off), tt)

  in_still : (y : ℕ) → (y == x) ≡ false → (p : Path) (n : Naming) (o : Option Named) → AreStill (lock_in y p n o).outs
  in_still y off p n None = tt
  in_still y off p n (Some o) = other_still y off p mode.Exclude o

  in_once : (y : ℕ) (p : Path) (n : Naming) (o : Option Named) → DoesOnce (lock_in y p n o).outs
  in_once y p n None = tt
  in_once y p n (Some o) = lock_once y p mode.Exclude o

  others_still : (ys : List ℕ) → has ys x ≡ false → (p : Path) (n : Naming) → AreStill (lock_all ys p n).outs
  others_still [] none p n = tt
  others_still (y ∷ ys) none p n =
      let q = or_parts (y == x) (has ys x) none in
      let d = lock_in y p n (at_number y n.objects) in
      still_both d.outs (lock_all ys p d.part).outs (in_still y q.0 p n (at_number y n.objects)) (others_still ys q.1 p d.part)

  all_once : (ys : List ℕ) → stand_once ys ≡ true → (p : Path) (n : Naming) → DoesOnce (lock_all ys p n).outs
  all_once [] once p n = tt
  all_once (y ∷ ys) once p n =
      by (y == x) refl (all_once ys (and_parts (not (has ys y)) (stand_once ys) once).1 p (lock_in y p n (at_number y n.objects)).part)
    where
      none : has ys y ≡ false
      none = none_not (has ys y) (and_parts (not (has ys y)) (stand_once ys) once).0

      d : Did Naming
      d = lock_in y p n (at_number y n.objects)

      by : (b : Bool) → (y == x) ≡ b → DoesOnce (lock_all ys p d.part).outs → DoesOnce (d.outs ++ (lock_all ys p d.part).outs)
      by true is ih = once_before d.outs (lock_all ys p d.part).outs (in_once y p n (at_number y n.objects))
          (others_still ys (subst (λ (z : ℕ). has ys z ≡ false) (eqb-true y x is) none) p d.part)
      by false off ih = once_behind d.outs (lock_all ys p d.part).outs (in_still y off p n (at_number y n.objects)) ih

  prepared_once : (top : Uid) (states : List ObjectState) (t : Did Naming) (a : Prep) → DoesOnce t.outs →
      DoesOnce (prepared_by top states t a).outs
  prepared_once top states t Ready own = once_before t.outs
      (Do Look ∷ Do (Prepare role.Names top states) ∷ Say (body.Prepared 1 top role.Names) ∷ []) own (tt, (tt, ((λ rows. refl), tt)))
  prepared_once top states t (Already u) own = once_before t.outs (Do Look ∷ []) own (tt, tt)
  prepared_once top states t (Old u v) own = once_before t.outs (Do Look ∷ []) own (tt, tt)
  prepared_once top states t (InDoubt u holder) own = once_before t.outs (Do Look ∷ []) own (tt, tt)

  entries_once : (top : Uid) (states : List ObjectState) (d : Pair) (t : Did Naming) → DoesOnce t.outs →
      DoesOnce (confirm_entries top states d t).outs
  entries_once top [] d t own = own
  entries_once top (s ∷ ss) d t own = prepared_once top (s ∷ ss) t (prepare_answer top (s ∷ ss) d) own

  confirm_once : (p : Path) (grants : Grants) → stand_once (map (λ (g : ℕ × ℕ). g.0) grants) ≡ true →
      (excluded included : Marks) (d : Pair) (n : Naming) → DoesOnce (confirm p grants excluded included d n).outs
  confirm_once p grants once excluded included d n = by (is_over p n || not (has_all grants n))
      (is_on n.confirmed (top_of p) || is_prepared (top_of p) d) (checked p grants excluded included d n)
    where
      by : (v e : Bool) (r : Option ConfirmedReply) → DoesOnce (if v then void n else
          (if e then reply (confirms (top_of p) n) confirmed.Yes else confirm_new p grants excluded included d n r)).outs
      by true e r = tt
      by false true r = tt
      by false false (Some r) = tt
      by false false None = entries_once (top_of p) (entries_after (top_of p) grants excluded included d) d
          (lock_all (wanted (top_of p) grants excluded d) p n) (all_once (wanted (top_of p) grants excluded d)
          (once_less (wants_lock (top_of p) excluded d) (map (λ (g : ℕ × ℕ). g.0) grants) once) p n)

  -- ---- a Told

  entries_still : (u : Uid) (e : End) → AreStill (end_entries u e)
  entries_still u ending.Commit = (tt, ((λ rows. refl), tt))
  entries_still u ending.Abort = (tt, ((λ rows. refl), tt))

  orphans_still : (u : Uid) (e : End) (d : Pair) (n : Naming) → AreStill (end_orphans u e d n)
  orphans_still u ending.Commit d n = tt
  orphans_still u ending.Abort d n =
      still_flat (λ act. end_entries act ending.Abort) (orphans u d n) (λ act. entries_still act ending.Abort)

  told_once : (u : Uid) (e : End) (d : Pair) (n : Naming) → DoesOnce (naming.told u e d n).outs
  told_once u e d n =
      let t = if is_on n.told u then did_nothing n else told_new u (naming.taken_end u e n) d n in
      once_behind (own_entries u e d) t.outs (own (is_prepared u d)) (by (is_on n.told u))
    where
      own : (b : Bool) → AreStill (if b then end_entries u e else [])
      own true = entries_still u e
      own false = tt

      by : (b : Bool) → DoesOnce (if b then did_nothing n else told_new u (naming.taken_end u e n) d n).outs
      by true = tt
      by false = once_behind (end_orphans u (naming.taken_end u e n) d n) (end_lines u (naming.taken_end u e n) n)
          (orphans_still u (naming.taken_end u e n) d n)
          (once_if (naming.has_locks u n) (Say (body.Told 1 u (naming.taken_end u e n) part.Naming) ∷ []) [] (inr tt) tt)

  -- ---- one message

  abbrev By : Handled → Type 0
  By (Void outs) = ⊤
  By (Took v outs) = DoesOnce outs

  module _ (n : ℕ) (d : Disk) (t : Parts) (from : ℕ) where
    server_still : (es : List Effect) → AreAll (is_server_effect n) es → AreStill es
    server_still = still_all (is_server_effect n) (server_quiet h n x)

    coord_still : (es : List Effect) → AreAll is_coord_effect es → AreStill es
    coord_still = still_all is_coord_effect (coord_quiet h 1 part.Naming (entry x))

    module _ (hd : Head) where
      sent : (u : Parts) (outs : List Effect) (r : Option Reply) → DoesOnce outs → By (sends_answer from hd u outs r)
      sent u outs None o = tt
      sent u outs (Some r) o = once_before outs (Send from (response (asked_by hd) r) ∷ []) o (tt, tt)

      names : {R : Type 0} (say : R → Reply) (f : Naming → Served Naming R) (o : Option Naming) → ((m : Naming) → DoesOnce (f m).outs) →
          By (if_naming (λ m. served from hd (with_naming t) say (f m)) o)
      names say f None once = tt
      names say f (Some m) once = sent (with_naming t (f m).part) (f m).outs (option_map say (f m).reply) (once m)

      load : (y : ℕ) (p : Pair) (o : Option Uid) → By (load_by y p from hd t o)
      load y p (Some holder) = sent t [] (Some (Reply.Loaded (loaded.InDoubt holder))) tt
      load y p None = by (held_at (object y) p)
        where
          by : (s : Option ObjectState) → By (load_held from hd t s)
          by None = tt
          by (Some s) = sent t (Do Look ∷ []) (Some (Reply.Loaded (loaded.State s))) (inr tt)

      prepare : (p : Pair) (states : List ObjectState) → By (prepare_states n p states from hd t)
      prepare p states = by (is_prepared (actor hd.path) p) (prepare_answer (actor hd.path) states p)
        where
          answer : (a : Prep) → By (prepare_by n states from hd t a)
          answer Ready = sent t (Do Look ∷ Do (Prepare role.Store (actor hd.path) states) ∷ Say (body.Prepared n (actor hd.path) role.Store)
              ∷ []) (Some (Reply.Prepared prepared.Yes)) (inl (tt, inl (tt, inr tt)))
          answer (Already u) = tt
          answer (Old u v) = sent t (Do Look ∷ []) (Some (Reply.Prepared (prepared.Old u.num v))) (inr tt)
          answer (InDoubt u holder) = sent t (Do Look ∷ []) (Some (Reply.Prepared (prepared.InDoubt u.num holder))) (inr tt)

          by : (b : Bool) (a : Prep) →
              By (if b then sends_answer from hd t [] (Some (Reply.Prepared prepared.Yes)) else prepare_by n states from hd t a)
          by true a = sent t [] (Some (Reply.Prepared prepared.Yes)) tt
          by false a = answer a

      serves : (a : Ask) → ask_is_meant t.server a ≡ true → By (serve n d t from hd a)
      serves (ask.Bind y include avoid) meant =
          names Reply.Bound (naming.bind hd.path y include avoid d.names) t.naming (bind_once hd.path y include avoid d.names)
      serves (ask.Load y) meant = load y d.store (holder_of (object y) d.store)
      serves (ask.Activate b st) meant = let r = server.activate n hd.path b st t.server in sent (with_server t r.part) r.outs
          (option_map Reply.Activated r.reply) (still_once r.outs (server_still r.outs (activate_own n hd.path b st t.server)))
      serves (ask.Record y b i g) meant = names Reply.Noted (naming.note hd.path y b i g) t.naming (note_once hd.path y b i g)
      serves (ask.Invoke y b i es op) meant = let r = server.invoke n hd y b i es op t.server in sent (with_server t r.part) r.outs
          (option_map Reply.Invoked r.reply) (still_once r.outs (server_still r.outs (invoke_own n hd y b i es op t.server)))
      serves (ask.Vote i ties es) meant = let r = server.vote n hd.path i ties es t.server in sent (with_server t r.part) r.outs
          (option_map Reply.Voted r.reply) (still_once r.outs (server_still r.outs (vote_own n hd.path i ties es t.server)))
      serves (ask.Prepare states) meant = prepare d.store states
      serves (ask.Confirm grants excluded included) meant = names Reply.Confirmed (confirm hd.path grants excluded included d.names)
          t.naming (confirm_once hd.path grants meant excluded included d.names)

    ends : (ack : Bool) (es : List (Uid × End)) (o : Option (Uid × End)) → By (handle_ends n d t from ack es o)
    ends ack es None = tt
    ends ack es (Some e) =
        let a = store_told n e.0 e.1 d.store in
        let o = naming_told e.0 e.1 d.names t.naming in
        let s = server.told n es t.server in
        once_before ((a ++ o.outs) ++ s.outs) (ack_told from e.0 ack)
        (once_before (a ++ o.outs) s.outs (once_behind a o.outs (stored (is_prepared e.0 d.store) e.1) (named t.naming))
        (server_still s.outs (ends_own n es t.server)))
        (acks ack)
      where
        stored : (b : Bool) (how : End) → AreStill (if b then end_states n e.0 how else [])
        stored false how = tt
        stored true ending.Commit = (tt, ((λ rows. refl), tt))
        stored true ending.Abort = (tt, ((λ rows. refl), tt))

        named : (o : Option Naming) → DoesOnce (naming_told e.0 e.1 d.names o).outs
        named None = tt
        named (Some m) = told_once e.0 e.1 d.names m

        acks : (b : Bool) → AreStill (ack_told from e.0 b)
        acks true = (tt, tt)
        acks false = tt

    replied : (u : Parts) (outs : List Effect) (r : Option (Unit {0})) → AreAll is_coord_effect outs → By (by_reply u outs r)
    replied u outs None own = tt
    replied u outs (Some r) own = still_once outs (coord_still outs own)

    others : (m : Message) → By (handle_other n d t from m)
    others (message.Told m) = ends m.ack m.ends (last_end m.ends)
    others (message.Acked m) = let r = acked from m.act d.intents t.coord in
        replied (with_coord t r.part) r.outs r.reply (acked_own from m.act d.intents t.coord)
    others (message.Query m) = let outs = answer_query from m.act d.intents t.coord in
        still_once outs (coord_still outs (query_own from m.act d.intents t.coord))
    others (message.Hello m) = let outs = map query_about (filter (is_earlier m.node m.inc) (holders d t)) in
        still_once outs (coord_still outs (map_own query_about (filter (is_earlier m.node m.inc) (holders d t)) (λ u. refl)))
    others (message.Bind m) = tt
    others (message.Bound m) = tt
    others (message.Load m) = tt
    others (message.Loaded m) = tt
    others (message.Activate m) = tt
    others (message.Activated m) = tt
    others (message.RecordMsg m) = tt
    others (message.Recorded m) = tt
    others (message.Invoke m) = tt
    others (message.Invoked m) = tt
    others (message.Vote m) = tt
    others (message.Voted m) = tt
    others (message.Prepare m) = tt
    others (message.Prepared m) = tt
    others (message.Confirm m) = tt
    others (message.Confirmed m) = tt

    -- what a message leads to changes them once
    pub message_once : (m : Message) → is_meant t m ≡ true → (v : Parts) (outs : List Effect) → handle n d t from m ≡ Took v outs →
        DoesOnce outs
    message_once m meant v outs is =
        subst By is (asked (asks m) (and_parts (asked_is_meant t.server (asks m)) (answer_is_meant t.coord (answers m)) meant).0)
      where
        heard_so : (o : Option (Asked × Reply)) → By (handle_answer n d t from m o)
        heard_so None = others m
        heard_so (Some a) = let r = heard from a.0 a.1 d.intents t.coord in
            replied (with_coord t r.part) r.outs r.reply (heard_own from a.0 a.1 d.intents t.coord)

        asked : (o : Option (Head × Ask)) → asked_is_meant t.server o ≡ true → By (handle_ask n d t from m o)
        asked None so = heard_so (answers m)
        asked (Some a) so = serves a.0 a.1 so
