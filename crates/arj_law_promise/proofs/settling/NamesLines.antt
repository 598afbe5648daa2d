-- What naming says as it grants locks and makes bindings, and that it then forgets no end, and confirms nobody.
use Rattle.arj_law_parts.proofs.Words
use Words.{◌≡◌, ◌∙◌, ◌||◌, ◌==◌, ◌+◌, ℕ, Bool, true, false, cond, not, List, [], ◌∷◌, Option, Some, None, refl, is_some, Binding}
use Words.{BoundReply, Entry, Mode, Path, RecordedReply, Row, Uid, entry, last_uid, top_of, top_path, lock_all, lock_in, is_granted, Effect}
use Words.{Pair, Say, Served, reply, void, Counted, Live, Made, Named, bind_call, bind_made, bind_named, in_use, include_asked}
use Words.{is_lowered, live_above, live_asked, lock_lines, lower_lines, lowered, made_above, make_asked, next_server, note_made, note_named}
use Words.{note_other, conflict_on, Naming, is_over, listed_entry, on_counted, on_named, at_number, at_uid, binding_eq, AreAll, all_both}
use Words.{all_if, is_binding}
use Words.body
use Words.mode
use Words.recorded
use Words.what
use Words.naming
use Rattle.arj_law_promise.proofs.settling.Confirms.{IsSameMemory, same_memory}

-- ---- lines

-- a line about a lock on an entry, or a binding
abbrev pub is_lock_line : Effect → Bool
is_lock_line (Say (body.Granted m u o how)) = true
is_lock_line (Say (body.Lowered m u o)) = true
is_lock_line (Say (body.Bound x b n)) = true
is_lock_line e = false

abbrev Locks : List Effect → Type 0
Locks outs = AreAll is_lock_line outs

one_lock : (x : ℕ) (p : Path) (m : Mode) (o : Named) → Locks (lock_lines x p m o)
one_lock x p m o = all_if is_lock_line (is_granted (entry x) (last_uid (top_path p)) m o.rows) []
    (Say (body.Granted 1 (last_uid (top_path p)) (entry x) m) ∷ []) refl refl

module _ (inc x : ℕ) (p : Path) (e : Entry) (c : Counted) where
  made_locks : (m : Option Made) → Locks (bind_made inc x p e c m).outs
  made_locks (Some m) = one_lock x p mode.Write c.named
  made_locks None = all_both is_lock_line (lock_lines x p mode.Write c.named) (Say (body.Bound x (record { inc = inc; count = c.count + 1 })
      (next_server c.named.turn e.servers)) ∷ []) (one_lock x p mode.Write c.named) refl

  live_locks : (l : Live) (r : Option Row) → Locks (live_asked inc x p e c l r).outs
  live_locks l (Some r) = refl
  live_locks l None = one_lock x p mode.Read c.named

  make_locks : (avoid : Binding) (r : Option Row) → Locks (make_asked inc x p avoid e c r).outs
  make_locks avoid (Some r) = refl
  make_locks avoid None = made_locks (made_above avoid (at_uid (top_of p) c.named.made))

  include_locks : (r : Option Row) → Locks (include_asked inc x p e c r).outs
  include_locks (Some r) = refl
  include_locks None = one_lock x p mode.Write c.named

  call_locks : (avoid : Binding) (l : Option Live) → Locks (bind_call inc x p avoid e c l).outs
  call_locks avoid (Some l) = live_locks l (conflict_on x p mode.Read c.named)
  call_locks avoid None = make_locks avoid (conflict_on x p mode.Write c.named)

  named_locks : (include : Bool) (avoid : Binding) → Locks (bind_named inc x p include avoid e c).outs
  named_locks true avoid = include_locks (conflict_on x p mode.Write c.named)
  named_locks false avoid = call_locks avoid (live_above avoid c.named.live)

pub bind_locks : (p : Path) (x : ℕ) (include : Bool) (avoid : Binding) (d : Pair) (n : Naming) →
    AreAll is_lock_line (naming.bind p x include avoid d n).outs
bind_locks p x include avoid d n = by (is_over p n) (at_number x n.objects)
  where
    by : (b : Bool) (o : Option Named) → Locks
        (cond {A = Served Naming BoundReply} b (void n) (on_counted x (bind_named n.inc x p include avoid (listed_entry x d)) n o)).outs
    by true o = refl
    by false None = refl
    by false (Some o) = named_locks n.inc x p (listed_entry x d) (record { named = o; count = n.count }) include avoid

lower_locks : (x : ℕ) (top : Uid) (o : Named) → Locks (lower_lines x top o)
lower_locks x top o = all_if is_lock_line (is_lowered x top o) (Say (body.Lowered 1 top (entry x)) ∷ []) [] refl refl

note_locks_made : (x : ℕ) (top : Uid) (i : ℕ) (o : Named) (m : Made) → Locks (note_made x top i o m).outs
note_locks_made x top i o m = by m.recorded
  where
    by : (b : Bool) → Locks (cond {A = Served Named RecordedReply} b (reply o recorded.Yes)
        (record { part = lowered x top (in_use top m i o); outs = lower_lines x top o; reply = Some recorded.Yes })).outs
    by true = refl
    by false = lower_locks x top o

note_locks_named : (x : ℕ) (top : Uid) (b : Binding) (i : ℕ) (o : Named) → Locks (note_named x top b i o).outs
note_locks_named x top b i o = by (is_binding b o.recorded) (at_uid top o.made)
  where
    other : (m : Made) (c : Bool) → Locks (cond {A = Served Named RecordedReply} c (note_made x top i o m) (void o)).outs
    other m true = note_locks_made x top i o m
    other m false = refl

    by : (v : Bool) (m : Option Made) →
        Locks (cond {A = Served Named RecordedReply} v (reply o recorded.Yes) (note_other x top b i o m)).outs
    by true m = refl
    by false None = refl
    by false (Some m) = other m (binding_eq b m.binding)

pub note_locks : (p : Path) (x : ℕ) (b : Binding) (i g : ℕ) (n : Naming) → AreAll is_lock_line (naming.note p x b i g n).outs
note_locks p x b i g n = by (is_over p n || not (is_some (at_number x n.objects))) (g == n.inc) (at_number x n.objects)
  where
    by : (v c : Bool) (o : Option Named) → Locks (cond {A = Served Naming RecordedReply} v (void n) (cond {A = Served Naming RecordedReply}
        c (on_named x (note_named x (top_of p) b i) n o) (reply n (recorded.Changed (what.Inc g n.inc))))).outs
    by true c o = refl
    by false false o = refl
    by false true None = refl
    by false true (Some o) = note_locks_named x (top_of p) b i o

pub all_locks : (xs : List ℕ) (p : Path) (n : Naming) → AreAll is_lock_line (lock_all xs p n).outs
all_locks [] p n = refl
all_locks (y ∷ ys) p n = all_both is_lock_line (lock_in y p n (at_number y n.objects)).outs (lock_all ys p (lock_in y p n
    (at_number y n.objects)).part).outs (one (at_number y n.objects)) (all_locks ys p (lock_in y p n (at_number y n.objects)).part)
  where
    one : (o : Option Named) → Locks (lock_in y p n o).outs
    one None = refl
    one (Some o) = one_lock y p mode.Exclude o

-- ---- memory

pub bind_memory : (p : Path) (x : ℕ) (include : Bool) (avoid : Binding) (d : Pair) (n : Naming) →
    IsSameMemory n (naming.bind p x include avoid d n).part
bind_memory p x include avoid d n = by (is_over p n) (at_number x n.objects)
  where
    by : (b : Bool) (o : Option Named) → IsSameMemory n
        (cond {A = Served Naming BoundReply} b (void n) (on_counted x (bind_named n.inc x p include avoid (listed_entry x d)) n o)).part
    by true o = same_memory n
    by false None = same_memory n
    by false (Some o) = record { inc = refl; told = λ u on. on; confirmed = λ u on. on }

pub note_memory : (p : Path) (x : ℕ) (b : Binding) (i g : ℕ) (n : Naming) → IsSameMemory n (naming.note p x b i g n).part
note_memory p x b i g n = by (is_over p n || not (is_some (at_number x n.objects))) (g == n.inc) (at_number x n.objects)
  where
    by : (v c : Bool) (o : Option Named) → IsSameMemory n (cond {A = Served Naming RecordedReply} v (void n) (cond {A = Served Naming
        RecordedReply} c (on_named x (note_named x (top_of p) b i) n o) (reply n (recorded.Changed (what.Inc g n.inc))))).part
    by true c o = same_memory n
    by false false o = same_memory n
    by false true None = same_memory n
    by false true (Some o) = record { inc = refl; told = λ u on. on; confirmed = λ u on. on }

-- locks leave it as it is
pub record IsKept (n m : Naming) : Type 0 where
  pub inc : m.inc ≡ n.inc
  pub told : m.told ≡ n.told
  pub confirmed : m.confirmed ≡ n.confirmed

pub locks_keep : (xs : List ℕ) (p : Path) (n : Naming) → IsKept n (lock_all xs p n).part
locks_keep [] p n = record { inc = refl; told = refl; confirmed = refl }
locks_keep (y ∷ ys) p n = let a = one (at_number y n.objects) in let b = locks_keep ys p (lock_in y p n (at_number y n.objects)).part in
    record { inc = b.inc ∙ a.inc; told = b.told ∙ a.told; confirmed = b.confirmed ∙ a.confirmed }
  where
    one : (o : Option Named) → IsKept n (lock_in y p n o).part
    one None = record { inc = refl; told = refl; confirmed = refl }
    one (Some o) = record { inc = refl; told = refl; confirmed = refl }
