-- Bind, Record and Hello keep naming good, and what was granted.
use Rattle.arj_law_parts.proofs.Words
use Words.{◌≡◌, ◌≢◌, ◌≤◌, ◌+◌, ◌==◌, ℕ, List, [], ◌∷◌, ◌++◌, Bool, true, false, cond, not, ◌||◌, Option, Some, None, refl, sym, ◌∙◌, ap}
use Words.{subst, ⊎_elim, arith, is_some, list_any, nat_cmp, is_eq, or_parts, and_parts, false_from_ne_true, uid_is, uid_cases, Uid}
use Words.{Binding, Path, Mode, Entry, Row, ObjectState, BoundReply, RecordedReply, entry, is_on, uid_eq, lower_row, top_path, top_of}
use Words.{Effect, Say, Served, Pair, reply, void, Named, Counted, Live, Made, entry_row, conflict_on, locked, lock_lines, bound_new}
use Words.{bind_made, live_asked, make_asked, include_asked, bind_call, bind_named, live_above, made_above, next_server, is_lowered}
use Words.{lowered, lower_lines, in_use, note_made, note_other, note_named, hello_named, Naming, bind, note, hello, on_counted}
use Words.{on_named, is_over, listed_entry, at_number, put_number, at_uid, binding_eq, put_same, put_other, one_or_two, is_binding}
use Words.mode
use Words.bound
use Words.body
use Words.recorded
use Words.what
use Rattle.arj_law_parts.proofs.Terms
use Terms.{Told, HasLock, Owners, Fits, IsGoodObject, Untold, names_after, HasPrepared, HasLockOn, Past, IsGoodNaming, guard_of}
use Rattle.arj_law_parts.proofs.parts
use parts.GoodObjects.{good_bind, good_note, good_hello}
use parts.Pairs.{names_both, names_line, names_no_line, at_each, each_at}
use parts.Stands.{weaker, stands_asked, stands_lower, stands_lower_any}
use Rattle.arj_law_parts.specs.parts.Entries.{IsNoted}

-- a count that is higher
pub good_more : (owner : Owners) (told : Told) (inc count more x : ℕ) (o : Named) → count ≤ more → IsGoodObject owner told inc count x o →
    IsGoodObject owner told inc more x o
good_more owner told inc count more x o up good = record {
  rows = good.rows;
  sorted = good.sorted;
  unmade = good.unmade;
  unasked = good.unasked;
  asked = good.asked;
  made = λ t m found. let h = good.made t m found in (h.0, (h.1.0, omega (arith, up, h.1.1)));
  recorded = λ b is. let h = good.recorded b is in (h.0, omega (arith, up, h.1));
  live = good.live;
  unrecorded = good.unrecorded;
}

-- a path that isn't over has nobody who was told
pub untold_path : (p : Path) (n : Naming) → is_over p n ≡ false → Untold (is_on n.told) p
untold_path p n fresh u over = by (top_path p) fresh
  where
    by : (us : List Uid) → list_any (λ w. is_on n.told w) us ≡ false → is_on us u ≡ false
    by [] none = refl
    by (w ∷ us) none = more w us (or_parts (is_on n.told w) (list_any (λ v. is_on n.told v) us) none)
        (by us (or_parts (is_on n.told w) (list_any (λ v. is_on n.told v) us) none).1)
      where
        more : (w : Uid) (us : List Uid) → (is_on n.told w ≡ false) × (list_any (λ v. is_on n.told v) us ≡ false) → is_on us u ≡ false →
            is_on (w ∷ us) u ≡ false
        more w us f rest = λ i. (false_from_ne_true (uid_eq w u)
            (λ same. let no_way : true ≡ false = sym over ∙ ap (is_on n.told) (sym (uid_is w u same)) ∙ f.0 in cc)) i || rest i

-- ---- one object is put back

-- what an action has prepared of the object goes on to be guarded
abbrev pub GuardsStay : ℕ → Named → Named → Pair → Type 0
GuardsStay x o new d = (a : Uid) (s : ObjectState) → HasPrepared a x s d → HasLock a (guard_of x s d) o.rows →
    HasLock a (guard_of x s d) new.rows

abbrev pub with_object : ℕ → Named → ℕ → Naming → Naming
with_object x new count n = record n { count = count; objects = put_number x new n.objects }

module _ (x : ℕ) (o new : Named) (count : ℕ) (n : Naming) (found : at_number x n.objects ≡ Some o) where
  -- what stands on each object stands after
  pub lock_put : (u : Uid) (k l y : ℕ) → ((y ≡ x) → HasLock u k o.rows → HasLock u l new.rows) → l ≤ k → HasLockOn u k y n →
      HasLockOn u l y (with_object x new count n)
  lock_put u k l y here down h = ⊎_elim one two (one_or_two x y)
    where
      one : x ≡ y → HasLockOn u l y (with_object x new count n)
      one same =
          let is : ◌≡◌ {A = Option Named} (Some h.named) (Some o) = sym h.there ∙ ap (λ j. at_number j n.objects) (sym same) ∙ found in
          let own : h.named ≡ o = cc in
          record {
            named = new;
            there = ap (λ j. at_number j (put_number x new n.objects)) (sym same) ∙ put_same x new n.objects;
            lock = here (sym same) (subst (λ (q : Named). HasLock u k q.rows) own h.lock);
          }

      two : (is_eq (nat_cmp y x) ≡ false) × ((x == y) ≡ false) → HasLockOn u l y (with_object x new count n)
      two apart =
          record { named = h.named; there = put_other x y new n.objects apart.0 ∙ h.there; lock = weaker u l k h.named.rows down h.lock }

  pub good_put : (owner : Owners) (past : Past) (d : Pair) → n.count ≤ count → IsGoodObject owner (is_on n.told) n.inc count x new →
      GuardsStay x o new d → IsGoodNaming owner past n d → IsGoodNaming owner past (with_object x new count n) d
  good_put owner past d up object guards good = record {
    objects = objects;
    pair = good.pair;
    confirmed = good.confirmed;
    prepared = good.prepared;
    guarded =
        λ a y s has. lock_put a (guard_of y s d) (guard_of y s d) y (λ same. moved a y s same has) (omega arith) (good.guarded a y s has);
    writers = good.writers;
  }
    where
      moved : (a : Uid) (y : ℕ) (s : ObjectState) → y ≡ x → HasPrepared a y s d → HasLock a (guard_of y s d) o.rows →
          HasLock a (guard_of y s d) new.rows
      moved a y s same =
          subst (λ j. HasPrepared a j s d → HasLock a (guard_of j s d) o.rows → HasLock a (guard_of j s d) new.rows) (sym same) (guards a s)

      objects : (y : ℕ) (q : Named) → at_number y (put_number x new n.objects) ≡ Some q → IsGoodObject owner (is_on n.told) n.inc count y q
      objects y q is = ⊎_elim one two (one_or_two x y)
        where
          one : x ≡ y → IsGoodObject owner (is_on n.told) n.inc count y q
          one same =
              let e : ◌≡◌ {A = Option Named} (Some new) (Some q) = sym (put_same x new n.objects)
              ∙ ap (λ j. at_number j (put_number x new n.objects)) same ∙ is in
              let it : new ≡ q = cc in
              subst (λ j. IsGoodObject owner (is_on n.told) n.inc count j q) same
              (subst (IsGoodObject owner (is_on n.told) n.inc count x) it object)

          two : (is_eq (nat_cmp y x) ≡ false) × ((x == y) ≡ false) → IsGoodObject owner (is_on n.told) n.inc count y q
          two apart =
              good_more owner (is_on n.told) n.inc n.count count y q up (good.objects y q (sym (put_other x y new n.objects apart.0) ∙ is))

-- ---- bind

-- each lock stays, and the count doesn't fall
pub record IsGrown (o : Named) (count : ℕ) (r : Served Counted BoundReply) (d : Pair) : Type 0 where
  pub locks : (u : Uid) (k : ℕ) → HasLock u k o.rows → HasLock u k r.part.named.rows
  pub more : count ≤ r.part.count
  pub quiet : names_after r.outs d ≡ d

module _ (x : ℕ) (p : Path) (d : Pair) where
  grown_same : (c : Counted) (r : BoundReply) → IsGrown c.named c.count (reply c r) d
  grown_same c r = record { locks = λ u k h. h; more = omega arith; quiet = refl }

  grown_lock : (m : Mode) (c : Counted) (new : Named) (count : ℕ) (r : Option BoundReply) (outs : List Effect) →
      new.rows ≡ (locked x p m c.named).rows → c.count ≤ count → names_after outs d ≡ d →
      IsGrown c.named c.count (record { part = record { named = new; count = count }; outs = outs; reply = r }) d
  grown_lock m c new count r outs same up quiet = record {
    locks = λ u k h. subst (HasLock u k) (sym same) (stands_asked u k (entry_row x p m) c.named.rows h);
    more = up;
    quiet = quiet;
  }

  lock_quiet : (m : Mode) (o : Named) → names_after (lock_lines x p m o) d ≡ d
  lock_quiet m o = names_no_line _ _ d

  grown_made : (inc : ℕ) (e : Entry) (c : Counted) (m : Option Made) → IsGrown c.named c.count (bind_made inc x p e c m) d
  grown_made inc e c (Some m) = grown_lock mode.Write c (locked x p mode.Write c.named) c.count (Some
      (bound.Make m.binding m.server inc e.stores)) (lock_lines x p mode.Write c.named) refl (omega arith) (lock_quiet mode.Write c.named)
  grown_made inc e c None =
      let b : Binding = record { inc = inc; count = c.count + 1 } in
      let s = next_server c.named.turn e.servers in
      let more : List Effect = Say (body.Bound x b s) ∷ [] in
      let r = bound_new inc x p e c s in
      grown_lock mode.Write c r.part.named (c.count + 1) r.reply (lock_lines x p mode.Write c.named ++ more) refl (omega arith)
      (names_both (lock_lines x p mode.Write c.named) more d ∙ lock_quiet mode.Write c.named)

  grown_live : (inc : ℕ) (e : Entry) (c : Counted) (l : Live) (r : Option Row) → IsGrown c.named c.count (live_asked inc x p e c l r) d
  grown_live inc e c l (Some r) = grown_same c _
  grown_live inc e c l None = grown_lock mode.Read c (locked x p mode.Read c.named) c.count (Some (bound.Live l.binding l.server l.inc inc
      e.stores)) (lock_lines x p mode.Read c.named) refl (omega arith) (lock_quiet mode.Read c.named)

  grown_make : (inc : ℕ) (avoid : Binding) (e : Entry) (c : Counted) (r : Option Row) →
      IsGrown c.named c.count (make_asked inc x p avoid e c r) d
  grown_make inc avoid e c (Some r) = grown_same c _
  grown_make inc avoid e c None = grown_made inc e c (made_above avoid (at_uid (top_of p) c.named.made))

  grown_call : (inc : ℕ) (avoid : Binding) (e : Entry) (c : Counted) (l : Option Live) →
      IsGrown c.named c.count (bind_call inc x p avoid e c l) d
  grown_call inc avoid e c (Some l) = grown_live inc e c l (conflict_on x p mode.Read c.named)
  grown_call inc avoid e c None = grown_make inc avoid e c (conflict_on x p mode.Write c.named)

  grown_include : (inc : ℕ) (e : Entry) (c : Counted) (r : Option Row) → IsGrown c.named c.count (include_asked inc x p e c r) d
  grown_include inc e c (Some r) = grown_same c _
  grown_include inc e c None = let r = include_asked inc x p e c None in grown_lock mode.Write c r.part.named c.count r.reply
      (lock_lines x p mode.Write c.named) refl (omega arith) (lock_quiet mode.Write c.named)

  pub grown_bind : (inc : ℕ) (include : Bool) (avoid : Binding) (e : Entry) (c : Counted) →
      IsGrown c.named c.count (bind_named inc x p include avoid e c) d
  grown_bind inc true avoid e c = grown_include inc e c (conflict_on x p mode.Write c.named)
  grown_bind inc false avoid e c = grown_call inc avoid e c (live_above avoid c.named.live)

-- naming after a call is good, with the pair
abbrev pub IsGoodServed : {R : Type 0} → Owners → Past → Pair → Served Naming R → Type 0
IsGoodServed owner past d r = IsGoodNaming owner past r.part (names_after r.outs d)

pub bind_good : (owner : Owners) (past : Past) (p : Path) (x : ℕ) (include : Bool) (avoid : Binding) (n : Naming) (d : Pair) →
    Fits owner p → IsGoodNaming owner past n d → IsGoodServed owner past d (bind p x include avoid d n)
bind_good owner past p x include avoid n d fits good = by (is_over p n) refl
  where
    call : Counted → Served Counted BoundReply
    call = bind_named n.inc x p include avoid (listed_entry x d)

    there : Untold (is_on n.told) p → (o : Option Named) → at_number x n.objects ≡ o → IsGoodServed owner past d (on_counted x call n o)
    there untold None found = good
    there untold (Some o) found =
        let c : Counted = record { named = o; count = n.count } in
        let g = grown_bind x p d n.inc include avoid (listed_entry x d) c in
        let r = call c in
        subst (IsGoodNaming owner past (with_object x r.part.named r.part.count n)) (sym g.quiet)
        (good_put x o r.part.named r.part.count n found owner past d g.more (good_bind owner (is_on n.told) x p fits untold n.inc
        include avoid (listed_entry x d) c (good.objects x o found)) (λ a s has h. g.locks a (guard_of x s d) h) good)

    by : (b : Bool) → is_over p n ≡ b →
        IsGoodServed owner past d (cond {A = Served Naming BoundReply} b (void n) (on_counted x call n (at_number x n.objects)))
    by true is = good
    by false is = there (untold_path p n is) (at_number x n.objects) refl

-- ---- record

-- a lock of another top stays, each stays as a read lock, and where the top asked by an include each stays
pub record IsNotedRows (top : Uid) (o new : Named) : Type 0 where
  others : (u : Uid) (k : ℕ) → u ≢ top → HasLock u k o.rows → HasLock u k new.rows
  asked : is_on o.asked top ≡ true → (u : Uid) (k : ℕ) → HasLock u k o.rows → HasLock u k new.rows
  any : (u : Uid) → HasLock u 0 o.rows → HasLock u 0 new.rows

module _ (x : ℕ) (top : Uid) (d : Pair) where
  noted_same : (o new : Named) → new.rows ≡ o.rows → IsNotedRows top o new
  noted_same o new same = record {
    others = λ u k other h. subst (HasLock u k) (sym same) h;
    asked = λ e u k h. subst (HasLock u k) (sym same) h;
    any = λ u h. subst (HasLock u 0) (sym same) h;
  }

  noted_lowered : (o used : Named) → used.rows ≡ o.rows → used.asked ≡ o.asked → IsNotedRows top o (lowered x top used)
  noted_lowered o used same alike = by (is_lowered x top used) refl
    where
      by : (b : Bool) → is_lowered x top used ≡ b →
          IsNotedRows top o (cond b (record used { rows = lower_row top (entry x) used.rows }) used)
      by false is = noted_same o used same
      by true is = record {
        others = λ u k other h. stands_lower top (entry x) used.rows u k other (subst (HasLock u k) (sym same) h);
        asked = λ e u k h. absurd (never e (and_parts _ (not (is_on used.asked top)) is).1);
        any = λ u h. stands_lower_any top (entry x) used.rows u 0 (subst (HasLock u 0) (sym same) h);
      }
        where
          never : is_on o.asked top ≡ true → not (is_on used.asked top) ≡ true → ⊥
          never e f = let no_way : false ≡ true = ap not (sym (ap (λ us. is_on us top) alike ∙ e)) ∙ f in cc

  -- the part of an object after a record, and its lines
  abbrev pub IsNotedObject : Named → Served Named RecordedReply → Type 0
  IsNotedObject o r = IsNotedRows top o r.part × (names_after r.outs d ≡ d)

  noted_made : (i : ℕ) (o : Named) (m : Made) → IsNotedObject o (note_made x top i o m)
  noted_made i o m = by m.recorded
    where
      by : (b : Bool) → IsNotedObject o (cond {A = Served Named RecordedReply} b (reply o recorded.Yes)
          (record { part = lowered x top (in_use top m i o); outs = lower_lines x top o; reply = Some recorded.Yes }))
      by true = (noted_same o o refl, refl)
      by false = (noted_lowered o (in_use top m i o) refl refl, names_line (is_lowered x top o) _ d)

  noted_other : (b : Binding) (i : ℕ) (o : Named) (m : Option Made) → IsNotedObject o (note_other x top b i o m)
  noted_other b i o None = (noted_same o o refl, refl)
  noted_other b i o (Some m) = by (binding_eq b m.binding)
    where
      by : (e : Bool) → IsNotedObject o (cond {A = Served Named RecordedReply} e (note_made x top i o m) (void o))
      by true = noted_made i o m
      by false = (noted_same o o refl, refl)

  pub noted_named : (b : Binding) (i : ℕ) (o : Named) → IsNotedObject o (note_named x top b i o)
  noted_named b i o = by (is_binding b o.recorded)
    where
      by : (e : Bool) →
          IsNotedObject o (cond {A = Served Named RecordedReply} e (reply o recorded.Yes) (note_other x top b i o (at_uid top o.made)))
      by true = (noted_same o o refl, refl)
      by false = noted_other b i o (at_uid top o.made)

pub note_good : (owner : Owners) (past : Past) (p : Path) (x : ℕ) (b : Binding) (i g : ℕ) (n : Naming) (d : Pair) → Fits owner p →
    IsNoted p x n d → IsGoodNaming owner past n d → IsGoodServed owner past d (note p x b i g n)
note_good owner past p x b i g n d fits noted good = by (is_over p n) (is_some (at_number x n.objects)) (g == n.inc) refl
  where
    there : Untold (is_on n.told) p → (o : Option Named) → at_number x n.objects ≡ o →
        IsGoodServed owner past d (on_named x (note_named x (top_of p) b i) n o)
    there untold None found = good
    there untold (Some o) found =
        let r = note_named x (top_of p) b i o in
        let h = noted_named x (top_of p) d b i o in
        let rows = h.0 in
        subst (IsGoodNaming owner past (with_object x r.part n.count n)) (sym h.1) (good_put x o r.part n.count n found owner past d
        (omega arith) (good_note owner (is_on n.told) x p fits untold n.inc n.count i b o (good.objects x o found))
        (λ a s has k. ⊎_elim (λ same. rows.asked (noted s o (subst (λ w. HasPrepared w x s d) same has) found) a (guard_of x s d) k)
        (λ other. rows.others a (guard_of x s d) other k) (uid_cases a (top_of p))) good)

    by : (over known ours : Bool) → is_over p n ≡ over
        → IsGoodServed owner past d (cond {A = Served Naming RecordedReply} (over || not known) (void n) (cond ours
        (on_named x (note_named x (top_of p) b i) n (at_number x n.objects)) (reply n (recorded.Changed (what.Inc g n.inc)))))
    by true known ours is = good
    by false false ours is = good
    by false true true is = there (untold_path p n is) (at_number x n.objects) refl
    by false true false is = good

-- ---- hello

pub hello_locks : (node inc : ℕ) (n : Naming) (u : Uid) (k y : ℕ) → HasLockOn u k y n → HasLockOn u k y (hello node inc n)
hello_locks node inc n u k y h =
    record { named = hello_named node inc h.named; there = each_at (λ x. hello_named node inc) y n.objects h.named h.there; lock = h.lock }

pub hello_good : (owner : Owners) (past : Past) (node inc : ℕ) (n : Naming) (d : Pair) → IsGoodNaming owner past n d →
    IsGoodNaming owner past (hello node inc n) d
hello_good owner past node inc n d good = record {
  objects = λ x o is. let f = at_each (λ y. hello_named node inc) x n.objects o is in subst (IsGoodObject owner (is_on n.told) n.inc n.count
      x) (sym f.2) (good_hello owner (is_on n.told) n.inc n.count x node inc f.0 (good.objects x f.0 f.1));
  pair = good.pair;
  confirmed = good.confirmed;
  prepared = good.prepared;
  guarded = λ a x s has. hello_locks node inc n a (guard_of x s d) x (good.guarded a x s has);
  writers = good.writers;
}
