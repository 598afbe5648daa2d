-- What neither answers nor prepares entries: all effects of coordinators and servers, and those of naming at a Bind, a Record and an end.
use Rattle.arj_law_parts.proofs.Words
use Words.{◌≡◌, ◌==◌, ◌||◌, ◌+◌, ◌≤◌, refl, ℕ, Bool, true, false, cond, not, List, [], ◌∷◌, ◌++◌, map, Option, Some, None, ⊤, is_some}
use Words.{AllByRecursion, flat_map, list_all, and_parts, Binding, BoundReply, End, Entry, Message, Mode, Path, RecordedReply, Row, Uid}
use Words.{entry, is_on, last_uid, answers, top_of, Coord, grant_lines, is_granted, Abort, Commit, Did, Do, Effect, Look, Pair, Prepare}
use Words.{PutInc, PutIntent, RemoveIntent, Say, Send, Served, did_nothing, is_prepared, reply, void, Counted, Live, Made, Named, bind_call}
use Words.{bind_made, bind_named, conflict_on, include_asked, entry_row, in_use, is_lowered, live_above, live_asked, lock_lines}
use Words.{lower_lines, lowered, made_above, make_asked, note_made, next_server, note_named, note_other, Naming, end_entries, end_lines}
use Words.{end_orphans, has_locks, is_over, listed_entry, on_counted, on_named, orphans, own_entries, taken_end, told_new, query_about}
use Words.{at_number, at_uid, binding_eq, AreAll, is_coord_effect, is_server_effect, is_binding}
use Words.body
use Words.ending
use Words.mode
use Words.part
use Words.recorded
use Words.role
use Words.what
use Words.naming
use Rattle.arj_law_lock_view.proofs.Terms.{AreTrue, no_answer}

-- what neither answers, nor prepares entries, nor puts an incarnation
abbrev pub IsQuiet : Effect → Type 0
IsQuiet (Send to m) = answers m ≡ None
IsQuiet (Do (Prepare role.Names u states)) = ⊥
IsQuiet (Do (PutInc i)) = ⊥
IsQuiet _ = ⊤

abbrev pub AllQuiet : List Effect → Type 0
AllQuiet outs = AllByRecursion IsQuiet outs

pub quiet_both : (es fs : List Effect) → AllQuiet es → AllQuiet fs → AllQuiet (es ++ fs)
quiet_both [] fs a b = b
quiet_both (e ∷ es) fs a b = (a.0, quiet_both es fs a.1 b)

-- a work doesn't put one below this
abbrev pub IncUp : ℕ → Effect → Type 0
IncUp least (Do (PutInc i)) = least ≤ i
IncUp least _ = ⊤

abbrev pub IncsUp : ℕ → List Effect → Type 0
IncsUp least outs = AllByRecursion (IncUp least) outs

pub quiet_incs : (least : ℕ) (outs : List Effect) → AllQuiet outs → IncsUp least outs
quiet_incs least [] q = tt
quiet_incs least (Send to m ∷ es) q = (tt, quiet_incs least es q.1)
quiet_incs least (Say b ∷ es) q = (tt, quiet_incs least es q.1)
quiet_incs least (Do (PutInc i) ∷ es) q = absurd q.0
quiet_incs least (Do Look ∷ es) q = (tt, quiet_incs least es q.1)
quiet_incs least (Do (Prepare r u states) ∷ es) q = (tt, quiet_incs least es q.1)
quiet_incs least (Do (Commit r u) ∷ es) q = (tt, quiet_incs least es q.1)
quiet_incs least (Do (Abort r u) ∷ es) q = (tt, quiet_incs least es q.1)
quiet_incs least (Do (PutIntent u i) ∷ es) q = (tt, quiet_incs least es q.1)
quiet_incs least (Do (RemoveIntent u) ∷ es) q = (tt, quiet_incs least es q.1)

-- a coordinator's effects are
pub coord_quiet : (c : Coord) (outs : List Effect) → AreTrue c outs → AreAll is_coord_effect outs → AllQuiet outs
coord_quiet c [] t own = tt
coord_quiet c (Send to m ∷ es) t own = (no_answer m (let f = t.0 in f.plain), coord_quiet c es t.1 own)
coord_quiet c (Say b ∷ es) t own = (tt, coord_quiet c es t.1 (and_parts (is_coord_effect (Say b)) (list_all is_coord_effect es) own).1)
coord_quiet c (Do (PutIntent u i) ∷ es) t own = (tt, coord_quiet c es t.1 own)
coord_quiet c (Do (RemoveIntent u) ∷ es) t own = (tt, coord_quiet c es t.1 own)
coord_quiet c (Do Look ∷ es) t own = absurd (cc own)
coord_quiet c (Do (PutInc i) ∷ es) t own = absurd (cc own)
coord_quiet c (Do (Prepare r u states) ∷ es) t own = absurd (cc own)
coord_quiet c (Do (Commit r u) ∷ es) t own = absurd (cc own)
coord_quiet c (Do (Abort r u) ∷ es) t own = absurd (cc own)

pub server_quiet : (n : ℕ) (es : List Effect) → AreAll (is_server_effect n) es → AllQuiet es
server_quiet n [] own = tt
server_quiet n (Say b ∷ es) own = (tt, server_quiet n es (and_parts (is_server_effect n (Say b)) (list_all (is_server_effect n) es) own).1)
server_quiet n (Send to m ∷ es) own = absurd (cc own)
server_quiet n (Do w ∷ es) own = absurd (cc own)

-- a line, and what isn't done on the disk
abbrev pub IsSaid : Effect → Type 0
IsSaid (Say b) = ⊤
IsSaid _ = ⊥

abbrev pub AllSaid : List Effect → Type 0
AllSaid outs = AllByRecursion IsSaid outs

abbrev pub IsNoWork : Effect → Type 0
IsNoWork (Do w) = ⊥
IsNoWork _ = ⊤

abbrev pub NoWorks : List Effect → Type 0
NoWorks outs = AllByRecursion IsNoWork outs

said_both : (es fs : List Effect) → AllSaid es → AllSaid fs → AllSaid (es ++ fs)
said_both [] fs a b = b
said_both (e ∷ es) fs a b = (a.0, said_both es fs a.1 b)

said_quiet : (es : List Effect) → AllSaid es → AllQuiet es
said_quiet [] a = tt
said_quiet (Say b ∷ es) a = (tt, said_quiet es a.1)
said_quiet (Send to m ∷ es) a = absurd a.0
said_quiet (Do w ∷ es) a = absurd a.0

pub said_sent : (es : List Effect) (to : ℕ) (m : Message) → AllSaid es → NoWorks (es ++ Send to m ∷ [])
said_sent [] to m a = (tt, tt)
said_sent (Say b ∷ es) to m a = (tt, said_sent es to m a.1)
said_sent (Send t n ∷ es) to m a = absurd a.0
said_sent (Do w ∷ es) to m a = absurd a.0

pub queries : (us : List Uid) → AllQuiet (map query_about us)
queries [] = tt
queries (u ∷ us) = (refl, queries us)

-- ---- naming

-- a Bind says lines alone
grant_said : (n : ℕ) (new : Row) (rows : List Row) → AllSaid (grant_lines n new rows)
grant_said n new rows = by (is_granted new.object (last_uid new.holder) new.mode rows)
  where
    by : (b : Bool) → AllSaid (cond b [] (Say (body.Granted n (last_uid new.holder) new.object new.mode) ∷ []))
    by true = tt
    by false = (tt, tt)

module _ (x : ℕ) (p : Path) (inc : ℕ) (e : Entry) (c : Counted) (avoid : Binding) where
  abbrev Fine : Served Counted BoundReply → Type 0
  Fine r = AllSaid r.outs

  lock_said : (m : Mode) → AllSaid (lock_lines x p m c.named)
  lock_said m = grant_said 1 (entry_row x p m) c.named.rows

  live_said : (l : Live) (r : Option Row) → Fine (live_asked inc x p e c l r)
  live_said l (Some r) = tt
  live_said l None = lock_said mode.Read

  made_said : (m : Option Made) → Fine (bind_made inc x p e c m)
  made_said (Some m) = lock_said mode.Write
  made_said None = said_both (lock_lines x p mode.Write c.named) (Say
      (body.Bound x (record { inc = inc; count = c.count + 1 }) (next_server c.named.turn e.servers)) ∷ []) (lock_said mode.Write) (tt, tt)

  make_said : (r : Option Row) → Fine (make_asked inc x p avoid e c r)
  make_said (Some r) = tt
  make_said None = made_said (made_above avoid (at_uid (top_of p) c.named.made))

  call_said : (l : Option Live) → Fine (bind_call inc x p avoid e c l)
  call_said (Some l) = live_said l (conflict_on x p mode.Read c.named)
  call_said None = make_said (conflict_on x p mode.Write c.named)

  include_said : (r : Option Row) → Fine (include_asked inc x p e c r)
  include_said (Some r) = tt
  include_said None = lock_said mode.Write

  named_said : (include : Bool) → Fine (bind_named inc x p include avoid e c)
  named_said true = include_said (conflict_on x p mode.Write c.named)
  named_said false = call_said (live_above avoid c.named.live)

pub bind_said : (p : Path) (x : ℕ) (include : Bool) (avoid : Binding) (d : Pair) (n : Naming) →
    AllSaid (let s = naming.bind p x include avoid d n in s.outs)
bind_said p x include avoid d n = by (is_over p n)
  where
    there : (q : Option Named) → AllSaid (let s = on_counted x (bind_named n.inc x p include avoid (listed_entry x d)) n q in s.outs)
    there None = tt
    there (Some o) = named_said x p n.inc (listed_entry x d) (record { named = o; count = n.count }) avoid include

    by : (b : Bool) → AllSaid
        (let s = cond b (void n) (on_counted x (bind_named n.inc x p include avoid (listed_entry x d)) n (at_number x n.objects)) in s.outs)
    by true = tt
    by false = there (at_number x n.objects)

pub bind_quiet : (p : Path) (x : ℕ) (include : Bool) (avoid : Binding) (d : Pair) (n : Naming) →
    AllQuiet (let s = naming.bind p x include avoid d n in s.outs)
bind_quiet p x include avoid d n = said_quiet (let s = naming.bind p x include avoid d n in s.outs) (bind_said p x include avoid d n)

lower_quiet : (x : ℕ) (top : Uid) (o : Named) → AllQuiet (lower_lines x top o)
lower_quiet x top o = by (is_lowered x top o)
  where
    by : (b : Bool) → AllQuiet (cond b (Say (body.Lowered 1 top (entry x)) ∷ []) [])
    by true = (tt, tt)
    by false = tt

noted_quiet : (x : ℕ) (top : Uid) (b : Binding) (i : ℕ) (o : Named) → AllQuiet (let s = note_named x top b i o in s.outs)
noted_quiet x top b i o = by (is_binding b o.recorded)
  where
    other : (q : Option Made) → AllQuiet (let s = note_other x top b i o q in s.outs)
    other None = tt
    other (Some m) = at (binding_eq b m.binding)
      where
        at : (e : Bool) → AllQuiet (let s = cond {A = Served Named RecordedReply} e (note_made x top i o m) (void o) in s.outs)
        at true = one m.recorded
          where
            one : (r : Bool) → AllQuiet (let s = cond {A = Served Named RecordedReply} r (reply o recorded.Yes)
                (record { part = lowered x top (in_use top m i o); outs = lower_lines x top o; reply = Some recorded.Yes }) in s.outs)
            one true = tt
            one false = lower_quiet x top o
        at false = tt

    by : (e : Bool) → AllQuiet
        (let s = cond {A = Served Named RecordedReply} e (reply o recorded.Yes) (note_other x top b i o (at_uid top o.made)) in s.outs)
    by true = tt
    by false = other (at_uid top o.made)

pub note_quiet : (p : Path) (x : ℕ) (b : Binding) (i g : ℕ) (n : Naming) → AllQuiet (let s = naming.note p x b i g n in s.outs)
note_quiet p x b i g n = by (is_over p n) (is_some (at_number x n.objects)) (g == n.inc)
  where
    there : (q : Option Named) → AllQuiet (let s = on_named x (note_named x (top_of p) b i) n q in s.outs)
    there None = tt
    there (Some o) = noted_quiet x (top_of p) b i o

    by : (over known ours : Bool) →
        AllQuiet (let s = cond {A = Served Naming RecordedReply} (over || not known) (void n) (cond {A = Served Naming RecordedReply} ours
        (on_named x (note_named x (top_of p) b i) n (at_number x n.objects)) (reply n (recorded.Changed (what.Inc g n.inc)))) in s.outs)
    by true known ours = tt
    by false false ours = tt
    by false true true = there (at_number x n.objects)
    by false true false = tt

pub told_quiet : (u : Uid) (how : End) (d : Pair) (n : Naming) → AllQuiet (let s = naming.told u how d n in s.outs)
told_quiet u how d n = quiet_both (own_entries u how d) (let t = cond {A = Did Naming} (is_on n.told u) (did_nothing n)
    (told_new u (taken_end u how n) d n) in t.outs) (own (is_prepared u d)) (by (is_on n.told u))
  where
    ends : (v : Uid) (e : End) → AllQuiet (end_entries v e)
    ends v ending.Commit = (tt, (tt, tt))
    ends v ending.Abort = (tt, (tt, tt))

    own : (b : Bool) → AllQuiet (cond b (end_entries u how) [])
    own true = ends u how
    own false = tt

    each : (vs : List Uid) → AllQuiet (flat_map (λ v. end_entries v ending.Abort) vs)
    each [] = tt
    each (v ∷ vs) = quiet_both (end_entries v ending.Abort) (flat_map (λ z. end_entries z ending.Abort) vs) (ends v ending.Abort) (each vs)

    orphaned : (e : End) → AllQuiet (end_orphans u e d n)
    orphaned ending.Commit = tt
    orphaned ending.Abort = each (orphans u d n)

    lines : (e : End) (b : Bool) → AllQuiet (cond b (Say (body.Told 1 u e part.Naming) ∷ []) [])
    lines e true = (tt, tt)
    lines e false = tt

    by : (b : Bool) → AllQuiet (let t = cond {A = Did Naming} b (did_nothing n) (told_new u (taken_end u how n) d n) in t.outs)
    by true = tt
    by false = quiet_both (end_orphans u (taken_end u how n) d n) (end_lines u (taken_end u how n) n) (orphaned (taken_end u how n))
        (lines (taken_end u how n) (has_locks u n))
