-- Server and naming have effects of their own alone.
use Rattle.std.proofs.Common.{◌≡◌, ℕ, List, [], ◌∷◌, ◌++◌, Bool, true, false, refl, ◌+◌, Option, Some, None, ◌==◌, ◌&&◌}
use Rattle.std.specs.Prelude.{not, ◌||◌, if◌then◌else◌, is_some}
use Rattle.std.specs.List.{list_all, flat_map}
use Rattle.arj_protocol.specs.Words.{Uid, End, Mode, Path, Head, Binding, ObjectState, Entry, Op, Row, What, RecordedReply, ConfirmedReply}
use Rattle.arj_protocol.specs.Words.{is_on, object, entry, uids_of, tops_of, last_uid, op_mode, first_conflict}
use Rattle.arj_protocol.specs.Words.mode
use Rattle.arj_protocol.specs.Words.ending
use Rattle.arj_protocol.specs.Words.body
use Rattle.arj_protocol.specs.Words.part
use Rattle.arj_protocol.specs.Words.role
use Rattle.arj_protocol.specs.Words.what
use Rattle.arj_protocol.specs.Words.recorded
use Rattle.arj_protocol.specs.Words.confirmed
use Rattle.arj_protocol.specs.Order.{at_number, at_uid, binding_eq, binding_less}
use Rattle.arj_protocol.specs.Effect.{Effect, Say, Do, Look, Prepare, Served, Did, Pair, Prep, Ready, Already, Old, InDoubt, either, void}
use Rattle.arj_protocol.specs.Effect.{reply, did_nothing, is_prepared, prepare_answer}
use Rattle.arj_protocol.specs.Ask.{actor, top_path, top_of}
use Rattle.arj_protocol.specs.Copy.{Copy, row_for, grant_lines, is_granted, ask_copy, invoke_copy}
use Rattle.arj_protocol.specs.Server as server
use Rattle.arj_protocol.specs.Server.{Server, Kept, took_copy, has_ended, active_binding, end_one, end_new, apply_ends, is_told, has_locks}
use Rattle.arj_protocol.specs.Server.{on_copy, kept_after, invoke_new, invoke_kept, invoke_now, is_below, vote_now, changed_by, other_inc}
use Rattle.arj_protocol.specs.Server.{first_unbound}
use Rattle.arj_protocol.specs.Named.{Named, Counted, Live, Made, bind_named, bind_call, live_asked, make_asked, include_asked, bind_made}
use Rattle.arj_protocol.specs.Named.{lock_lines, conflict_on, live_above, made_above, next_server, note_named, note_other, note_made}
use Rattle.arj_protocol.specs.Named.{is_lowered, lowered, lower_lines, in_use}
use Rattle.arj_protocol.specs.Naming as naming
use Rattle.arj_protocol.specs.Naming.{Naming, on_counted, on_named, is_over, listed_entry, end_entries, own_entries, end_orphans, orphans}
use Rattle.arj_protocol.specs.Naming.{end_lines, told_new}
use Rattle.arj_protocol.specs.Confirm.{Grants, Marks, confirm, confirm_new, confirm_entries, prepared_by, confirms, lock_in, lock_all}
use Rattle.arj_protocol.specs.Confirm.{wanted, checked, has_all, entries_after}
use Rattle.arj_protocol.specs.Says.{AreAll, is_server_effect, is_naming_effect}
use Rattle.arj_protocol.proofs.RowSteps.{same_number}
use Rattle.arj_protocol.specs.Order.{is_binding}

-- ---- lists of effects of one kind

pub all_both : (test : Effect → Bool) (es fs : List Effect) → AreAll test es → AreAll test fs → AreAll test (es ++ fs)
all_both test [] fs a b = b
all_both test (e ∷ es) fs a b = by (test e) a (all_both test es fs)
  where
    by : (t : Bool) → (t && list_all test es) ≡ true → (AreAll test es → AreAll test fs → AreAll test (es ++ fs)) →
        (t && list_all test (es ++ fs)) ≡ true
    by true here ih = ih here b
    by false here ih = absurd (cc here)

pub all_flat : {A : Type 0} (test : Effect → Bool) (f : A → List Effect) (items : List A) → ((a : A) → AreAll test (f a)) →
    AreAll test (flat_map f items)
all_flat test f [] each = refl
all_flat test f (a ∷ rest) each = all_both test (f a) (flat_map f rest) (each a) (all_flat test f rest each)

pub all_if : (test : Effect → Bool) (b : Bool) (es fs : List Effect) → AreAll test es → AreAll test fs → AreAll test (if b then es else fs)
all_if test true es fs a c = a
all_if test false es fs a c = c

-- ---- the server

module _ (n : ℕ) where
  abbrev Own : List Effect → Type 0
  Own outs = AreAll (is_server_effect n) outs

  grant_own : (x : ℕ) (holder : List Uid) (tops : ℕ) (how : Mode) (rows : List Row) →
      Own (grant_lines n (row_for (object x) holder tops how) rows)
  grant_own x holder tops how rows =
      all_if (is_server_effect n) (is_granted (object x) (last_uid holder) how rows) [] (Say (body.Granted n (last_uid holder) (object x) how) ∷ []) refl (rw (same_number n) refl)

  end_own : (u : Uid) (e : End) (s : Server) → Own (end_one n u e s).outs
  end_own u e s = by (is_told u s)
    where
      new : Own (end_new n u (server.taken_end u e s) s).outs
      new = all_if (is_server_effect n) (has_locks u s) (Say (body.Told n u (server.taken_end u e s) part.Server) ∷ []) [] (rw (same_number n) refl) refl

      by : (b : Bool) → Own (if b then did_nothing s else end_new n u (server.taken_end u e s) s).outs
      by true = refl
      by false = new

  pub ends_own : (es : List (Uid × End)) (s : Server) → Own (apply_ends n es s).outs
  ends_own [] s = refl
  ends_own (e ∷ es) s =
      let d = end_one n e.0 e.1 s in
      let t = apply_ends n es d.part in
      all_both (is_server_effect n) d.outs t.outs (end_own e.0 e.1 s) (ends_own es d.part)

  pub activate_own : (p : Path) (b : Binding) (st : ObjectState) (s : Server) → Own (server.activate n p b st s).outs
  activate_own p b st s = by (has_ended p s || binding_less b (active_binding st.uid.num s)) (binding_eq b (active_binding st.uid.num s))
    where
      by : (v e : Bool) → Own (if v then void s else (if e then reply s s.inc else took_copy n st.uid.num b st s)).outs
      by true e = refl
      by false true = refl
      by false false = rw (same_number n) refl

  asked_own : (p : Path) (x : ℕ) (op : Op) (c : Copy) (r : Option Row) → Own (ask_copy n p x op c r).outs
  asked_own p x op c (Some r) = refl
  asked_own p x op c None = grant_own x (uids_of p) (tops_of p) (op_mode op) c.rows

  on_own : (h : Head) (x : ℕ) (op : Op) (s : Server) (o : Option Copy) → Own (kept_after h (on_copy x (invoke_copy n h.path x op) s o)).outs
  on_own h x op s None = refl
  on_own h x op s (Some c) = asked_own h.path x op c (first_conflict (uids_of h.path) (object x) (op_mode op) c.rows)

  new_own : (h : Head) (x : ℕ) (ends : List (Uid × End)) (op : Op) (s : Server) → Own (invoke_new n h x ends op s).outs
  new_own h x ends op s =
      let d = apply_ends n ends s in
      let t = d.part in
      let r = kept_after h (on_copy x (invoke_copy n h.path x op) t (at_number x t.objects)) in
      all_both (is_server_effect n) d.outs r.outs (ends_own ends s) (on_own h x op t (at_number x t.objects))

  kept_own : (h : Head) (x : ℕ) (ends : List (Uid × End)) (op : Op) (s : Server) (k : Option Kept) →
      Own (invoke_kept n h x ends op s k).outs
  kept_own h x ends op s None = new_own h x ends op s
  kept_own h x ends op s (Some k) = by (k.req == h.req)
    where
      by : (b : Bool) → Own (if b then reply s k.answer else invoke_new n h x ends op s).outs
      by true = refl
      by false = new_own h x ends op s

  pub invoke_own : (h : Head) (x : ℕ) (b : Binding) (i : ℕ) (ends : List (Uid × End)) (op : Op) (s : Server) →
      Own (server.invoke n h x b i ends op s).outs
  invoke_own h x b i ends op s = by (has_ended h.path s || is_below h.req (at_uid (actor h.path) s.kept)) (changed_by i x b s)
    where
      by : (v : Bool) (w : Option What) → Own (if v then void s else invoke_now n h x ends op s w).outs
      by true w = refl
      by false (Some w) = refl
      by false None = kept_own h x ends op s (at_uid (actor h.path) s.kept)

  pub vote_own : (p : Path) (i : ℕ) (ties : List (ℕ × Binding)) (ends : List (Uid × End)) (s : Server) →
      Own (server.vote n p i ties ends s).outs
  vote_own p i ties ends s = by (has_ended p s) (either (other_inc i s.inc) (first_unbound ties s))
    where
      by : (v : Bool) (w : Option What) → Own (if v then void s else vote_now n (actor p) ends s w).outs
      by true w = refl
      by false (Some w) = refl
      by false None = ends_own ends s

-- ---- naming

abbrev Names : List Effect → Type 0
Names outs = AreAll is_naming_effect outs

lock_names : (x : ℕ) (p : Path) (m : Mode) (o : Named) → Names (lock_lines x p m o)
lock_names x p m o =
    all_if is_naming_effect (is_granted (entry x) (last_uid (top_path p)) m o.rows) [] (Say (body.Granted 1 (last_uid (top_path p)) (entry x) m) ∷ []) refl refl

made_names : (inc x : ℕ) (p : Path) (e : Entry) (c : Counted) (m : Option Made) → Names (bind_made inc x p e c m).outs
made_names inc x p e c (Some m) = lock_names x p mode.Write c.named
made_names inc x p e c None =
    all_both is_naming_effect (lock_lines x p mode.Write c.named) (Say (body.Bound x (record {
      inc = inc;
      count =
          c.count + 1;
    }) (next_server c.named.turn e.servers)) ∷ []) (lock_names x p mode.Write c.named) refl

live_names : (inc x : ℕ) (p : Path) (e : Entry) (c : Counted) (l : Live) (r : Option Row) → Names (live_asked inc x p e c l r).outs
live_names inc x p e c l (Some r) = refl
live_names inc x p e c l None = lock_names x p mode.Read c.named

make_names : (inc x : ℕ) (p : Path) (avoid : Binding) (e : Entry) (c : Counted) (r : Option Row) →
    Names (make_asked inc x p avoid e c r).outs
make_names inc x p avoid e c (Some r) = refl
make_names inc x p avoid e c None = made_names inc x p e c (made_above avoid (at_uid (top_of p) c.named.made))

include_names : (inc x : ℕ) (p : Path) (e : Entry) (c : Counted) (r : Option Row) → Names (include_asked inc x p e c r).outs
include_names inc x p e c (Some r) = refl
include_names inc x p e c None = lock_names x p mode.Write c.named

call_names : (inc x : ℕ) (p : Path) (avoid : Binding) (e : Entry) (c : Counted) (l : Option Live) →
    Names (bind_call inc x p avoid e c l).outs
call_names inc x p avoid e c (Some l) = live_names inc x p e c l (conflict_on x p mode.Read c.named)
call_names inc x p avoid e c None = make_names inc x p avoid e c (conflict_on x p mode.Write c.named)

bind_names : (inc x : ℕ) (p : Path) (include : Bool) (avoid : Binding) (e : Entry) (c : Counted) →
    Names (bind_named inc x p include avoid e c).outs
bind_names inc x p true avoid e c = include_names inc x p e c (conflict_on x p mode.Write c.named)
bind_names inc x p false avoid e c = call_names inc x p avoid e c (live_above avoid c.named.live)

pub bind_own : (p : Path) (x : ℕ) (include : Bool) (avoid : Binding) (d : Pair) (n : Naming) →
    Names (naming.bind p x include avoid d n).outs
bind_own p x include avoid d n = by (is_over p n) (at_number x n.objects)
  where
    by : (b : Bool) (o : Option Named) →
        Names (if b then void n else on_counted x (bind_named n.inc x p include avoid (listed_entry x d)) n o).outs
    by true o = refl
    by false None = refl
    by false (Some o) = bind_names n.inc x p include avoid (listed_entry x d) (record { named = o; count = n.count })

lower_names : (x : ℕ) (top : Uid) (o : Named) → Names (lower_lines x top o)
lower_names x top o = all_if is_naming_effect (is_lowered x top o) (Say (body.Lowered 1 top (entry x)) ∷ []) [] refl refl

note_made_names : (x : ℕ) (top : Uid) (i : ℕ) (o : Named) (m : Made) → Names (note_made x top i o m).outs
note_made_names x top i o m = by m.recorded
  where
    r : Served Named RecordedReply
    r = record { part = lowered x top (in_use top m i o); outs = lower_lines x top o; reply = Some recorded.Yes }

    by : (b : Bool) → Names (if b then reply o recorded.Yes else r).outs
    by true = refl
    by false = lower_names x top o

note_names : (x : ℕ) (top : Uid) (b : Binding) (i : ℕ) (o : Named) → Names (note_named x top b i o).outs
note_names x top b i o = by (is_binding b o.recorded) (at_uid top o.made)
  where
    other : (m : Made) (e : Bool) → Names (if e then note_made x top i o m else void o).outs
    other m true = note_made_names x top i o m
    other m false = refl

    by : (v : Bool) (m : Option Made) → Names (if v then reply o recorded.Yes else note_other x top b i o m).outs
    by true m = refl
    by false None = refl
    by false (Some m) = other m (binding_eq b m.binding)

pub note_own : (p : Path) (x : ℕ) (b : Binding) (i g : ℕ) (n : Naming) → Names (naming.note p x b i g n).outs
note_own p x b i g n = by (is_over p n || not (is_some (at_number x n.objects))) (g == n.inc) (at_number x n.objects)
  where
    by : (v e : Bool) (o : Option Named) →
        Names (if v then void n else (if e then on_named x (note_named x (top_of p) b i) n o else reply n (recorded.Changed (what.Inc g n.inc)))).outs
    by true e o = refl
    by false false o = refl
    by false true None = refl
    by false true (Some o) = note_names x (top_of p) b i o

in_names : (x : ℕ) (p : Path) (n : Naming) (o : Option Named) → Names (lock_in x p n o).outs
in_names x p n None = refl
in_names x p n (Some o) = lock_names x p mode.Exclude o

all_names : (xs : List ℕ) (p : Path) (n : Naming) → Names (lock_all xs p n).outs
all_names [] p n = refl
all_names (x ∷ xs) p n =
    let d = lock_in x p n (at_number x n.objects) in
    let t = lock_all xs p d.part in
    all_both is_naming_effect d.outs t.outs (in_names x p n (at_number x n.objects)) (all_names xs p d.part)

prepared_names : (top : Uid) (states : List ObjectState) (t : Did Naming) (a : Prep) → Names t.outs →
    Names (prepared_by top states t a).outs
prepared_names top states t Ready own =
    all_both is_naming_effect t.outs (Do Look ∷ Do (Prepare role.Names top states) ∷ Say (body.Prepared 1 top role.Names) ∷ []) own refl
prepared_names top states t (Already u) own = all_both is_naming_effect t.outs (Do Look ∷ []) own refl
prepared_names top states t (Old u v) own = all_both is_naming_effect t.outs (Do Look ∷ []) own refl
prepared_names top states t (InDoubt u holder) own = all_both is_naming_effect t.outs (Do Look ∷ []) own refl

entries_names : (top : Uid) (states : List ObjectState) (d : Pair) (t : Did Naming) → Names t.outs →
    Names (confirm_entries top states d t).outs
entries_names top [] d t own = own
entries_names top (s ∷ ss) d t own = prepared_names top (s ∷ ss) t (prepare_answer top (s ∷ ss) d) own

pub confirm_own : (p : Path) (grants : Grants) (excluded included : Marks) (d : Pair) (n : Naming) →
    Names (confirm p grants excluded included d n).outs
confirm_own p grants excluded included d n =
    by (is_over p n || not (has_all grants n)) (is_on n.confirmed (top_of p) || is_prepared (top_of p) d) (checked p grants excluded included d n)
  where
    by : (v e : Bool) (r : Option ConfirmedReply) →
        Names (if v then void n else (if e then reply (confirms (top_of p) n) confirmed.Yes else confirm_new p grants excluded included d n r)).outs
    by true e r = refl
    by false true r = refl
    by false false (Some r) = refl
    by false false None =
        entries_names (top_of p) (entries_after (top_of p) grants excluded included d) d (lock_all (wanted (top_of p) grants excluded d) p n) (all_names (wanted (top_of p) grants excluded d) p n)

entries_end : (u : Uid) (e : End) → Names (end_entries u e)
entries_end u ending.Commit = refl
entries_end u ending.Abort = refl

orphans_names : (u : Uid) (e : End) (d : Pair) (n : Naming) → Names (end_orphans u e d n)
orphans_names u ending.Commit d n = refl
orphans_names u ending.Abort d n = all_flat is_naming_effect (λ act. end_entries act ending.Abort) (orphans u d n) (λ act. refl)

told_new_names : (u : Uid) (e : End) (d : Pair) (n : Naming) → Names (told_new u e d n).outs
told_new_names u e d n =
    all_both is_naming_effect (end_orphans u e d n) (end_lines u e n) (orphans_names u e d n) (all_if is_naming_effect (naming.has_locks u n) (Say (body.Told 1 u e part.Naming) ∷ []) [] refl refl)

pub told_own : (u : Uid) (e : End) (d : Pair) (n : Naming) → Names (naming.told u e d n).outs
told_own u e d n =
    let t = if is_on n.told u then did_nothing n else told_new u (naming.taken_end u e n) d n in
    all_both is_naming_effect (own_entries u e d) t.outs (all_if is_naming_effect (is_prepared u d) (end_entries u e) [] (entries_end u e) refl) (by (is_on n.told u))
  where
    by : (b : Bool) → Names (if b then did_nothing n else told_new u (naming.taken_end u e n) d n).outs
    by true = refl
    by false = told_new_names u (naming.taken_end u e n) d n
