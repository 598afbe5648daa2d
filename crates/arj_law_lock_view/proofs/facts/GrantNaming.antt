-- No binding at naming is below its incarnation, and so says each answer to a Bind.
use Rattle.arj_law_parts.proofs.Words
use Words.{◌≡◌, ◌+◌, ◌==◌, ◌&&◌, ◌||◌, ℕ, Bool, true, false, cond, not, nat_le, List, [], ◌∷◌, map, Option, Some, None, refl, sym, subst}
use Words.{arith, IfSome, is_some, AllByRecursion, is_eq, match_ordering, nat_cmp, Ordering, Less, Equal, Greater, Binding, BoundReply}
use Words.{ConfirmedReply, End, Entry, ObjectState, Path, RecordedReply, Row, Uid, is_on, lower_row, entry, top_of, Grants, Marks, checked}
use Words.{confirm, confirm_entries, confirm_new, confirms, entries_after, has_all, lock_all, lock_in, named_back, prepared_by, wanted}
use Words.{Already, Did, InDoubt, Old, Pair, Prep, Ready, Served, did_nothing, is_prepared, prepare_answer, reply, void, Counted, Live}
use Words.{Made, Named, bind_call, bind_made, bind_named, conflict_on, end_named, hello_named, in_use, include_asked}
use Words.{is_lowered, live_above, live_after, live_asked, locked, lower_lines, lowered, made_above, make_asked, next_server, note_made}
use Words.{note_named, note_other, Naming, is_over, listed_entry, on_counted, on_named, taken_end, told_new, at_number, at_uid, binding_eq}
use Words.{binding_less, put_number, is_binding}
use Words.confirmed
use Words.ending
use Words.mode
use Words.recorded
use Words.what
use Words.naming
use Rattle.arj_law_lock_view.proofs.Terms.{all_without, IsAbove, IsLow, KnowsMade, Said}
use Rattle.arj_law_lock_view.proofs.facts.Kept.{IsGiven}
use Rattle.arj_law_lock_view.specs.facts.Grants.{AreAbove, IsMadeAbove}
use Rattle.arj_law_runs.proofs.addresses.Lists.{all_at_uid, all_put}

-- ---- lists

at_all : {X : Type 0} (Q : X → Type 0) (k : ℕ) (x : X) (m : List (ℕ × X)) → AllByRecursion (λ (e : ℕ × X). Q e.1) m →
    at_number k m ≡ Some x → Q x
at_all {X} Q k x [] all is = let no_way : ◌≡◌ {A = Option X} None (Some x) = is in absurd (cc no_way)
at_all {X} Q k x (e ∷ es) all is = by (is_eq (nat_cmp k e.0)) is (at_all Q k x es all.1)
  where
    by : (b : Bool) → cond b (Some e.1) (at_number k es) ≡ Some x → (at_number k es ≡ Some x → Q x) → Q x
    by true at ih = let same : ◌≡◌ {A = Option X} (Some e.1) (Some x) = at in subst Q (cc same) all.0
    by false at ih = ih at

put_all : {X : Type 0} (Q : X → Type 0) (k : ℕ) (x : X) (m : List (ℕ × X)) → Q x → AllByRecursion (λ (e : ℕ × X). Q e.1) m →
    AllByRecursion (λ (e : ℕ × X). Q e.1) (put_number k x m)
put_all Q k x [] q all = (q, tt)
put_all {X} Q k x (e ∷ es) q all = by (nat_cmp k e.0) (put_all Q k x es q all.1)
  where
    by : (r : Ordering) → AllByRecursion (λ (z : ℕ × X). Q z.1) (put_number k x es) →
        AllByRecursion (λ (z : ℕ × X). Q z.1) (match_ordering r ((k, x) ∷ e ∷ es) ((e.0, x) ∷ es) (e ∷ put_number k x es))
    by Less ih = (q, all)
    by Equal ih = (q, all.1)
    by Greater ih = (all.0, ih)

-- ---- one object

module _ (inc : ℕ) where
  abbrev Is : Named → Type 0
  Is o = AreAbove inc o

  -- locks alone change
  rows_alone : (o v : Named) → v.live ≡ o.live → v.made ≡ o.made → Is o → Is v
  rows_alone o v live made its = record {
    live = subst (λ (q : Option Live). IfSome q (λ (l : Live). IsLow inc l.binding)) (sym live) its.live;
    made = subst (λ (q : List (Uid × Made)). AllByRecursion (IsMadeAbove inc) q) (sym made) its.made;
  }

  abbrev IsBound : Served Counted BoundReply → Type 0
  IsBound r = Is (let c = r.part in c.named) × IfSome r.reply IsAbove

  module _ (p : Path) (x : ℕ) (e : Entry) (c : Counted) (its : Is c.named) where
    live_of : (l : Live) → IsLow inc l.binding → (r : Option Row) → IsBound (live_asked inc x p e c l r)
    live_of l low (Some r) = (its, tt)
    live_of l low None = (rows_alone c.named (locked x p mode.Read c.named) refl refl its, low)

    made_of : (q : Option Made) → IfSome q (λ (m : Made). IsLow inc m.binding) → IsBound (bind_made inc x p e c q)
    made_of (Some m) low = (rows_alone c.named (locked x p mode.Write c.named) refl refl its, low)
    made_of None low = (
      record {
        live = its.live;
        made = all_put (IsMadeAbove inc) (top_of p)
            (record { binding = record { inc = inc; count = c.count + 1 }; server = next_server c.named.turn e.servers; recorded = false })
            c.named.made (λ w. new) its.made;
      },
      new,
    )
      where
        new : IsLow inc (record { inc = inc; count = c.count + 1 })
        new = omega arith

    above_of : (avoid : Binding) (q : Option Made) → IfSome q (λ (m : Made). IsLow inc m.binding) →
        IfSome (made_above avoid q) (λ (m : Made). IsLow inc m.binding)
    above_of avoid None low = tt
    above_of avoid (Some m) low = by (not m.recorded && binding_less avoid m.binding)
      where
        by : (b : Bool) → IfSome (cond b (Some m) None) (λ (k : Made). IsLow inc k.binding)
        by true = low
        by false = tt

    found_of : (u : Uid) (q : Option Made) → at_uid u c.named.made ≡ q → IfSome q (λ (m : Made). IsLow inc m.binding)
    found_of u None is = tt
    found_of u (Some m) is = all_at_uid (λ (k : Made). IsLow inc k.binding) u m c.named.made its.made is

    make_of : (avoid : Binding) (r : Option Row) → IsBound (make_asked inc x p avoid e c r)
    make_of avoid (Some r) = (its, tt)
    make_of avoid None = made_of (made_above avoid (at_uid (top_of p) c.named.made))
        (above_of avoid (at_uid (top_of p) c.named.made) (found_of (top_of p) (at_uid (top_of p) c.named.made) refl))

    above_live : (avoid : Binding) (l : Option Live) → IfSome l (λ (k : Live). IsLow inc k.binding) →
        IfSome (live_above avoid l) (λ (k : Live). IsLow inc k.binding)
    above_live avoid None so = tt
    above_live avoid (Some l) so = by (binding_less avoid l.binding)
      where
        by : (b : Bool) → IfSome (cond b (Some l) None) (λ (k : Live). IsLow inc k.binding)
        by true = so
        by false = tt

    call_of : (avoid : Binding) (l : Option Live) → IfSome l (λ (k : Live). IsLow inc k.binding) → IsBound (bind_call inc x p avoid e c l)
    call_of avoid (Some l) so = live_of l so (conflict_on x p mode.Read c.named)
    call_of avoid None so = make_of avoid (conflict_on x p mode.Write c.named)

    include_of : (r : Option Row) → IsBound (include_asked inc x p e c r)
    include_of (Some r) = (its, tt)
    include_of None = (record { live = its.live; made = its.made }, tt)

    bound_of : (include : Bool) (avoid : Binding) → IsBound (bind_named inc x p include avoid e c)
    bound_of true avoid = include_of (conflict_on x p mode.Write c.named)
    bound_of false avoid = call_of avoid (live_above avoid c.named.live) (above_live avoid c.named.live its.live)

  -- ---- a binding is recorded

  note_of : (x : ℕ) (top : Uid) (b : Binding) (i : ℕ) (o : Named) → Is o → Is (note_named x top b i o).part
  note_of x top b i o its = by (is_binding b o.recorded)
    where
      lower : (v : Named) → Is v → Is (lowered x top v)
      lower v so = one (is_lowered x top v)
        where
          one : (w : Bool) → Is (cond w (record v { rows = lower_row top (entry x) v.rows }) v)
          one true = record { live = so.live; made = so.made }
          one false = so

      made : (m : Made) → IsLow inc m.binding → Is (note_made x top i o m).part
      made m low = one m.recorded
        where
          one : (w : Bool) → Is (cond {A = Served Named RecordedReply} w (reply o recorded.Yes)
              (record { part = lowered x top (in_use top m i o); outs = lower_lines x top o; reply = Some recorded.Yes })).part
          one true = its
          one false = lower (in_use top m i o)
              (record { live = low; made = all_put (IsMadeAbove inc) top (record m { recorded = true }) o.made (λ w. low) its.made })

      other : (q : Option Made) → at_uid top o.made ≡ q → Is (note_other x top b i o q).part
      other None is = its
      other (Some m) is = one (binding_eq b m.binding)
        where
          one : (w : Bool) → Is (cond w (note_made x top i o m) (void o)).part
          one true = made m (all_at_uid (λ (k : Made). IsLow inc k.binding) top m o.made its.made is)
          one false = its

      by : (w : Bool) → Is (cond w (reply o recorded.Yes) (note_other x top b i o (at_uid top o.made))).part
      by true = its
      by false = other (at_uid top o.made) refl

  end_of : (u : Uid) (end : End) (o : Named) → Is o → Is (end_named u end o)
  end_of u ending.Commit o its = record { live = its.live; made = all_without (IsMadeAbove inc) u o.made its.made }
  end_of u ending.Abort o its = record { live = its.live; made = all_without (IsMadeAbove inc) u o.made its.made }

  hello_of : (node k : ℕ) (o : Named) → Is o → Is (hello_named node k o)
  hello_of node k o its = record { live = after o.live its.live; made = its.made }
    where
      after : (l : Option Live) → IfSome l (λ (q : Live). IsLow inc q.binding) →
          IfSome (live_after node k l) (λ (q : Live). IsLow inc q.binding)
      after None so = tt
      after (Some l) so = by ((l.server == node) && not (nat_le k l.inc))
        where
          by : (b : Bool) → IfSome (cond b None (Some l)) (λ (q : Live). IsLow inc q.binding)
          by true = tt
          by false = so

-- ---- naming

each_of : (inc : ℕ) (f : ℕ → Named → Named) → ((x : ℕ) (o : Named) → AreAbove inc o → AreAbove inc (f x o)) → (m : List (ℕ × Named)) →
    AllByRecursion (λ (e : ℕ × Named). AreAbove inc e.1) m →
    AllByRecursion (λ (e : ℕ × Named). AreAbove inc e.1) (map {A = ℕ × Named} {B = ℕ × Named} (λ e. (e.0, f e.0 e.1)) m)
each_of inc f keeps [] all = tt
each_of inc f keeps (e ∷ es) all = (keeps e.0 e.1 all.0, each_of inc f keeps es all.1)

binds_of : (p : Path) (x : ℕ) (include : Bool) (avoid : Binding) (d : Pair) (n : Naming) → KnowsMade n →
    (let s = naming.bind p x include avoid d n in KnowsMade s.part × IfSome s.reply IsAbove)
binds_of p x include avoid d n all = by (is_over p n)
  where
    Well : Served Naming BoundReply → Type 0
    Well s = KnowsMade s.part × IfSome s.reply IsAbove

    at : (o : Option Named) → at_number x n.objects ≡ o → Well (on_counted x (bind_named n.inc x p include avoid (listed_entry x d)) n o)
    at None is = (all, tt)
    at (Some o) is =
        let its = at_all (AreAbove n.inc) x o n.objects all is in
        let g = bound_of n.inc p x (listed_entry x d) (record { named = o; count = n.count }) its include avoid in (
          put_all (AreAbove n.inc) x
              (bind_named n.inc x p include avoid (listed_entry x d) (record { named = o; count = n.count })).part.named n.objects g.0 all,
          g.1,
        )

    by : (b : Bool) →
        Well (cond b (void n) (on_counted x (bind_named n.inc x p include avoid (listed_entry x d)) n (at_number x n.objects)))
    by true = (all, tt)
    by false = at (at_number x n.objects) refl

notes_of : (p : Path) (x : ℕ) (b : Binding) (i g : ℕ) (n : Naming) → KnowsMade n → KnowsMade (naming.note p x b i g n).part
notes_of p x b i g n all = by (is_over p n || not (is_some (at_number x n.objects))) (g == n.inc)
  where
    at : (o : Option Named) → at_number x n.objects ≡ o → KnowsMade (on_named x (note_named x (top_of p) b i) n o).part
    at None is = all
    at (Some o) is = put_all (AreAbove n.inc) x (note_named x (top_of p) b i o).part n.objects
        (note_of n.inc x (top_of p) b i o (at_all (AreAbove n.inc) x o n.objects all is)) all

    by : (v w : Bool) → KnowsMade (cond {A = Served Naming RecordedReply} v (void n) (cond {A = Served Naming RecordedReply} w
        (on_named x (note_named x (top_of p) b i) n (at_number x n.objects)) (reply n (recorded.Changed (what.Inc g n.inc))))).part
    by true w = all
    by false true = at (at_number x n.objects) refl
    by false false = all

tells_of : (u : Uid) (e : End) (d : Pair) (n : Naming) → KnowsMade n → KnowsMade (naming.told u e d n).part
tells_of u e d n all = by (is_on n.told u)
  where
    by : (b : Bool) → KnowsMade (cond {A = Did Naming} b (did_nothing n) (told_new u (taken_end u e n) d n)).part
    by true = all
    by false = each_of n.inc (λ x. end_named u (taken_end u e n)) (λ x o its. end_of n.inc u (taken_end u e n) o its) n.objects all

confirms_of : (p : Path) (grants : Grants) (excluded included : Marks) (d : Pair) (n : Naming) → KnowsMade n →
    KnowsMade (confirm p grants excluded included d n).part
confirms_of p grants excluded included d n all =
    by (is_over p n || not (has_all grants n)) (is_on n.confirmed (top_of p) || is_prepared (top_of p) d)
  where
    locks : (xs : List ℕ) (m : Naming) → KnowsMade m → KnowsMade (lock_all xs p m).part
    locks [] m so = so
    locks (x ∷ xs) m so = locks xs (lock_in x p m (at_number x m.objects)).part (one (at_number x m.objects) refl)
      where
        one : (o : Option Named) → at_number x m.objects ≡ o → KnowsMade (lock_in x p m o).part
        one None is = so
        one (Some o) is = put_all (AreAbove m.inc) x (locked x p mode.Exclude o) m.objects
            (rows_alone m.inc o (locked x p mode.Exclude o) refl refl (at_all (AreAbove m.inc) x o m.objects so is)) so

    answered : (states : List ObjectState) (t : Did Naming) (a : Prep) → KnowsMade t.part →
        KnowsMade (prepared_by (top_of p) states t a).part
    answered states t Ready so = so
    answered states t (Already u) so = so
    answered states t (Old u v) so = so
    answered states t (InDoubt u v) so = so

    entries : (states : List ObjectState) (t : Did Naming) → KnowsMade t.part → KnowsMade (confirm_entries (top_of p) states d t).part
    entries [] t so = so
    entries (s ∷ ss) t so = answered (s ∷ ss) t (prepare_answer (top_of p) (s ∷ ss) d) so

    new : (c : Option ConfirmedReply) → KnowsMade (confirm_new p grants excluded included d n c).part
    new (Some r) = all
    new None = entries (entries_after (top_of p) grants excluded included d) (lock_all (wanted (top_of p) grants excluded d) p n)
        (locks (wanted (top_of p) grants excluded d) n all)

    by : (over again : Bool) →
        KnowsMade (cond {A = Served Naming ConfirmedReply} over (void n) (cond {A = Served Naming ConfirmedReply} again (reply
        (confirms (top_of p) n) confirmed.Yes) (confirm_new p grants excluded included d n (checked p grants excluded included d n)))).part
    by true again = all
    by false true = all
    by false false = new (checked p grants excluded included d n)

-- what naming keeps, whatever is said of requests
pub given_so : (S : Said) → ((r : BoundReply) → IsAbove r → S.answer r) → IsGiven S KnowsMade
given_so S gives = record {
  starts = λ inc d. starts inc d d.held;
  binds = λ p x include avoid d n so. let g = binds_of p x include avoid d n so in
      (g.0, each (let s = naming.bind p x include avoid d n in s.reply) g.1);
  notes = λ p x b i g n so. notes_of p x b i g n so;
  tells = λ u e d n so. tells_of u e d n so;
  hellos = λ node k n so. each_of n.inc (λ x. hello_named node k) (λ x o its. hello_of n.inc node k o its) n.objects so;
  confirms = λ p grants excluded included d n so. confirms_of p grants excluded included d n so;
}
  where
    starts : (inc : ℕ) (d : Pair) (es : List (Uid × ObjectState)) →
        AllByRecursion (λ (e : ℕ × Named). AreAbove inc e.1) (map (named_back d) es)
    starts inc d [] = tt
    starts inc d (e ∷ es) = (record { live = tt; made = tt }, starts inc d es)

    each : (o : Option BoundReply) → IfSome o IsAbove → IfSome o S.answer
    each None so = tt
    each (Some r) so = gives r so
