-- Naming makes a binding at a Bind alone, and one at most.
use Rattle.arj_law_parts.proofs.Words
use Words.{◌≡◌, ◌≤◌, ◌==◌, ◌+◌, ◌||◌, ℕ, Bool, true, false, cond, List, [], ◌∷◌, ◌++◌, Option, Some, None, refl, arith, not, is_some, Uid}
use Words.{Binding, BoundReply, ConfirmedReply, End, Entry, Mode, ObjectState, Path, RecordedReply, Row, entry, is_on, last_uid, top_of}
use Words.{top_path, Grants, Marks, checked, confirm, confirm_entries, confirm_new, confirms, entries_after, has_all, lock_all, lock_in}
use Words.{prepared_by, wanted, is_granted, Already, Did, Do, Effect, InDoubt, Look, Old, Pair, Prep, Prepare, Ready, Say, Served}
use Words.{did_nothing, is_prepared, prepare_answer, reply, void, Counted, Live, Made, Named, bind_call, bind_made, bind_named, conflict_on}
use Words.{in_use, include_asked, is_lowered, live_above, live_asked, lock_lines, lower_lines, lowered, made_above, make_asked}
use Words.{next_server, note_made, note_named, note_other, Naming, end_entries, end_lines, end_orphans, has_locks, is_over, listed_entry}
use Words.{on_counted, on_named, orphans, own_entries, told_new, at_number, at_uid, binding_eq, is_binding}
use Words.body
use Words.confirmed
use Words.ending
use Words.mode
use Words.part
use Words.recorded
use Words.role
use Words.what
use Words.naming
use Rattle.arj_law_runs.proofs.bindings.Weights.{AllLight, IsLight, every_both, every_flat, light_weighs, weigh, weigh_both, weighs_less}

light_both : (es fs : List Effect) → AllLight es → AllLight fs → AllLight (es ++ fs)
light_both es fs a b = every_both IsLight es fs a b

light_if : (b : Bool) (es fs : List Effect) → AllLight es → AllLight fs → AllLight (cond b es fs)
light_if true es fs x y = x
light_if false es fs x y = y

locks_light : (x : ℕ) (p : Path) (m : Mode) (o : Named) → AllLight (lock_lines x p m o)
locks_light x p m o = light_if (is_granted (entry x) (last_uid (top_path p)) m o.rows) []
    (Say (body.Granted 1 (last_uid (top_path p)) (entry x) m) ∷ []) tt (refl, tt)

-- ---- bind

module _ (n inc x : ℕ) (p : Path) (e : Entry) (c : Counted) where
  abbrev One : Served Counted BoundReply → Type 0
  One r = weigh n r.outs ≤ 1

  light_one : (r : Served Counted BoundReply) → AllLight r.outs → One r
  light_one r light = weighs_less n 1 r.outs light

  live_one : (l : Live) (r : Option Row) → One (live_asked inc x p e c l r)
  live_one l (Some r) = light_one (live_asked inc x p e c l (Some r)) tt
  live_one l None = light_one (live_asked inc x p e c l None) (locks_light x p mode.Read c.named)

  made_one : (q : Option Made) → One (bind_made inc x p e c q)
  made_one (Some m) = light_one (bind_made inc x p e c (Some m)) (locks_light x p mode.Write c.named)
  made_one None =
      let lines = lock_lines x p mode.Write c.named in
      let its : List Effect = Say (body.Bound x (record { inc = inc; count = c.count + 1 }) (next_server c.named.turn e.servers)) ∷ [] in
      one (weigh n (lines ++ its)) (weigh n lines) (weigh_both n lines its) (light_weighs n lines (locks_light x p mode.Write c.named))
    where
      one : (a b : ℕ) → a ≡ b + (1 + 0) → b ≡ 0 → a ≤ 1
      one a b is none = omega (arith, is, none)

  asked_one : (avoid : Binding) (r : Option Row) → One (make_asked inc x p avoid e c r)
  asked_one avoid (Some r) = light_one (make_asked inc x p avoid e c (Some r)) tt
  asked_one avoid None = made_one (made_above avoid (at_uid (top_of p) c.named.made))

  call_one : (avoid : Binding) (l : Option Live) → One (bind_call inc x p avoid e c l)
  call_one avoid (Some l) = live_one l (conflict_on x p mode.Read c.named)
  call_one avoid None = asked_one avoid (conflict_on x p mode.Write c.named)

  include_one : (r : Option Row) → One (include_asked inc x p e c r)
  include_one (Some r) = light_one (include_asked inc x p e c (Some r)) tt
  include_one None = light_one (include_asked inc x p e c None) (locks_light x p mode.Write c.named)

  named_one : (include : Bool) (avoid : Binding) → One (bind_named inc x p include avoid e c)
  named_one true avoid = include_one (conflict_on x p mode.Write c.named)
  named_one false avoid = call_one avoid (live_above avoid c.named.live)

pub bind_one : (n : ℕ) (p : Path) (x : ℕ) (include : Bool) (avoid : Binding) (d : Pair) (o : Naming) →
    weigh n (naming.bind p x include avoid d o).outs ≤ 1
bind_one n p x include avoid d o = by (is_over p o) (at_number x o.objects)
  where
    by : (b : Bool) (q : Option Named) →
        weigh n (cond b (void o) (on_counted x (bind_named o.inc x p include avoid (listed_entry x d)) o q)).outs ≤ 1
    by true q = omega arith
    by false None = omega arith
    by false (Some q) = named_one n o.inc x p (listed_entry x d) (record { named = q; count = o.count }) include avoid

-- ---- the others

lower_light : (x : ℕ) (top : Uid) (o : Named) → AllLight (lower_lines x top o)
lower_light x top o = light_if (is_lowered x top o) (Say (body.Lowered 1 top (entry x)) ∷ []) [] (refl, tt) tt

note_made_light : (x : ℕ) (top : Uid) (i : ℕ) (o : Named) (m : Made) → AllLight (note_made x top i o m).outs
note_made_light x top i o m = by m.recorded
  where
    by : (b : Bool) → AllLight (cond {A = Served Named RecordedReply} b (reply o recorded.Yes)
        (record { part = lowered x top (in_use top m i o); outs = lower_lines x top o; reply = Some recorded.Yes })).outs
    by true = tt
    by false = lower_light x top o

note_named_light : (x : ℕ) (top : Uid) (b : Binding) (i : ℕ) (o : Named) → AllLight (note_named x top b i o).outs
note_named_light x top b i o = by (is_binding b o.recorded) (at_uid top o.made)
  where
    other : (m : Made) (e : Bool) → AllLight (cond {A = Served Named RecordedReply} e (note_made x top i o m) (void o)).outs
    other m true = note_made_light x top i o m
    other m false = tt

    by : (v : Bool) (m : Option Made) →
        AllLight (cond {A = Served Named RecordedReply} v (reply o recorded.Yes) (note_other x top b i o m)).outs
    by true m = tt
    by false None = tt
    by false (Some m) = other m (binding_eq b m.binding)

pub note_light : (p : Path) (x : ℕ) (b : Binding) (i g : ℕ) (n : Naming) → AllLight (naming.note p x b i g n).outs
note_light p x b i g n = by (is_over p n || not (is_some (at_number x n.objects))) (g == n.inc) (at_number x n.objects)
  where
    by : (v e : Bool) (o : Option Named) → AllLight (cond {A = Served Naming RecordedReply} v (void n) (cond {A = Served Naming
        RecordedReply} e (on_named x (note_named x (top_of p) b i) n o) (reply n (recorded.Changed (what.Inc g n.inc))))).outs
    by true e o = tt
    by false false o = tt
    by false true None = tt
    by false true (Some o) = note_named_light x (top_of p) b i o

all_light : (xs : List ℕ) (p : Path) (n : Naming) → AllLight (lock_all xs p n).outs
all_light [] p n = tt
all_light (x ∷ xs) p n =
    let d = lock_in x p n (at_number x n.objects) in
    let t = lock_all xs p d.part in
    light_both d.outs t.outs (one (at_number x n.objects)) (all_light xs p d.part)
  where
    one : (o : Option Named) → AllLight (lock_in x p n o).outs
    one None = tt
    one (Some o) = locks_light x p mode.Exclude o

prepared_light : (top : Uid) (states : List ObjectState) (t : Did Naming) (a : Prep) → AllLight t.outs →
    AllLight (prepared_by top states t a).outs
prepared_light top states t Ready own =
    light_both t.outs (Do Look ∷ Do (Prepare role.Names top states) ∷ Say (body.Prepared 1 top role.Names) ∷ []) own (tt, (tt, (refl, tt)))
prepared_light top states t (Already u) own = light_both t.outs (Do Look ∷ []) own (tt, tt)
prepared_light top states t (Old u v) own = light_both t.outs (Do Look ∷ []) own (tt, tt)
prepared_light top states t (InDoubt u holder) own = light_both t.outs (Do Look ∷ []) own (tt, tt)

entries_light : (top : Uid) (states : List ObjectState) (d : Pair) (t : Did Naming) → AllLight t.outs →
    AllLight (confirm_entries top states d t).outs
entries_light top [] d t own = own
entries_light top (s ∷ ss) d t own = prepared_light top (s ∷ ss) t (prepare_answer top (s ∷ ss) d) own

pub confirm_light : (p : Path) (grants : Grants) (excluded included : Marks) (d : Pair) (n : Naming) →
    AllLight (confirm p grants excluded included d n).outs
confirm_light p grants excluded included d n = by (is_over p n || not (has_all grants n))
    (is_on n.confirmed (top_of p) || is_prepared (top_of p) d) (checked p grants excluded included d n)
  where
    by : (v e : Bool) (r : Option ConfirmedReply) → AllLight (cond {A = Served Naming ConfirmedReply} v (void n) (cond {A = Served Naming
        ConfirmedReply} e (reply (confirms (top_of p) n) confirmed.Yes) (confirm_new p grants excluded included d n r))).outs
    by true e r = tt
    by false true r = tt
    by false false (Some r) = tt
    by false false None = entries_light (top_of p) (entries_after (top_of p) grants excluded included d) d
        (lock_all (wanted (top_of p) grants excluded d) p n) (all_light (wanted (top_of p) grants excluded d) p n)

pub told_light : (u : Uid) (e : End) (d : Pair) (n : Naming) → AllLight (naming.told u e d n).outs
told_light u e d n = light_both (own_entries u e d) _ (light_if (is_prepared u d) (end_entries u e) [] (ended e) tt) (by (is_on n.told u))
  where
    ended : (e : End) → AllLight (end_entries u e)
    ended ending.Commit = (tt, (refl, tt))
    ended ending.Abort = (tt, (refl, tt))

    orphaned : (e : End) → AllLight (end_orphans u e d n)
    orphaned ending.Commit = tt
    orphaned ending.Abort = every_flat IsLight (λ act. end_entries act ending.Abort) (orphans u d n) (λ act. (tt, (refl, tt)))

    new : (e : End) → AllLight (told_new u e d n).outs
    new e = light_both (end_orphans u e d n) (end_lines u e n) (orphaned e)
        (light_if (has_locks u n) (Say (body.Told 1 u e part.Naming) ∷ []) [] (refl, tt) tt)

    by : (b : Bool) → AllLight (cond {A = Did Naming} b (did_nothing n) (told_new u (naming.taken_end u e n) d n)).outs
    by true = tt
    by false = new (naming.taken_end u e n)
