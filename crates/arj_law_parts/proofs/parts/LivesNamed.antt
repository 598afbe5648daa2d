-- The copies of servers that naming knows.
use Rattle.arj_law_parts.proofs.Words
use Words.{◌≡◌, ◌+◌, ◌==◌, arith, ℕ, List, [], ◌∷◌, Bool, true, false, cond, not, map, Option, Some, None, refl, sym, ◌∙◌, ap, subst}
use Words.{nat_le, unwrap_or, is_some, ◌||◌, ◌&&◌, AllByRecursion, is_eq, match_ordering, nat_cmp, Ordering, Less, Equal, Greater, eqb-true}
use Words.{uid_order, is_on, Uid, Binding, End, Entry, ObjectState, Path, Row, BoundReply, ConfirmedReply, RecordedReply, entry, lower_row}
use Words.{top_of, Grants, Marks, checked, confirm, confirm_entries, confirm_new, confirms, entries_after, has_all, lock_all, lock_in}
use Words.{named_back, prepared_by, recovered_naming, wanted, Did, Pair, Prep, Ready, Already, Old, InDoubt, Served, did_nothing}
use Words.{is_prepared, prepare_answer, reply, void, Counted, lower_lines, Live, Made, Named, bind_call, bind_made, bind_named, conflict_on}
use Words.{end_named, hello_named, in_use, include_asked, is_lowered, live_above, live_after, live_asked, locked, lowered}
use Words.{made_above, make_asked, next_server, note_made, note_named, note_other, Naming, bind, hello, is_over, listed_entry, note}
use Words.{on_counted, on_named, taken_end, told_new, at_number, at_uid, binding_eq, binding_less, binding_number, each, put_number}
use Words.{put_uid, without_uid, is_binding}
use Words.bound
use Words.confirmed
use Words.ending
use Words.mode
use Words.recorded
use Words.what
use Rattle.arj_law_parts.proofs.Terms.{told, Homes, Reach, IsReached, NamesBound, home_of}
use Rattle.arj_law_parts.specs.parts.Lives.{IsLiveSo, IsMadeSo, IsNamedSo, IsNamingSo}

-- ---- lists

module _ {X : Type 0} (P : ℕ → X → Type 0) where
  abbrev AllKeyed : List (ℕ × X) → Type 0
  AllKeyed m = AllByRecursion (λ (e : ℕ × X). P e.0 e.1) m

  same_key : (k n : ℕ) → is_eq (nat_cmp k n) ≡ true → n ≡ k
  same_key k n is = grind (arith, is)

  pub keyed_at : (d : X) (k : ℕ) → P k d → (m : List (ℕ × X)) → AllKeyed m → P k (unwrap_or (at_number k m) d)
  keyed_at d k base [] all = base
  keyed_at d k base (e ∷ es) all = by (is_eq (nat_cmp k e.0)) refl (keyed_at d k base es all.1)
    where
      by : (b : Bool) → is_eq (nat_cmp k e.0) ≡ b → P k (unwrap_or (at_number k es) d) →
          P k (unwrap_or (cond b (Some e.1) (at_number k es)) d)
      by true is ih = subst (λ z. P z e.1) (same_key k e.0 is) all.0
      by false is ih = ih

  pub keyed_found : (k : ℕ) (m : List (ℕ × X)) (x : X) → AllKeyed m → at_number k m ≡ Some x → P k x
  keyed_found k [] x all is = let no_way : ◌≡◌ {A = Option X} None (Some x) = is in cc
  keyed_found k (e ∷ es) x all is = by (is_eq (nat_cmp k e.0)) refl is (keyed_found k es x all.1)
    where
      by : (b : Bool) → is_eq (nat_cmp k e.0) ≡ b → cond b (Some e.1) (at_number k es) ≡ Some x → (at_number k es ≡ Some x → P k x) → P k x
      by true at s ih = let same : e.1 ≡ x = cc in subst (P k) same (subst (λ z. P z e.1) (same_key k e.0 at) all.0)
      by false at s ih = ih s

  pub keyed_put : (k : ℕ) (v : X) (m : List (ℕ × X)) → P k v → AllKeyed m → AllKeyed (put_number k v m)
  keyed_put k v [] its all = (its, tt)
  keyed_put k v (e ∷ es) its all = by (nat_cmp k e.0) refl (keyed_put k v es its all.1)
    where
      equal : (n : ℕ) → nat_cmp k n ≡ Equal → k ≡ n
      equal n is = grind (arith, is)

      by : (r : Ordering) → nat_cmp k e.0 ≡ r → AllKeyed (put_number k v es) →
          AllKeyed (match_ordering r ((k, v) ∷ e ∷ es) ((e.0, v) ∷ es) (e ∷ put_number k v es))
      by Less is ih = (its, all)
      by Equal is ih = (subst (λ z. P z v) (equal e.0 is) its, all.1)
      by Greater is ih = (all.0, ih)

  pub keyed_each : (f : ℕ → X → X) → ((k : ℕ) (x : X) → P k x → P k (f k x)) → (m : List (ℕ × X)) → AllKeyed m → AllKeyed (each f m)
  keyed_each f step [] all = tt
  keyed_each f step (e ∷ es) all = (step e.0 e.1 all.0, keyed_each f step es all.1)

-- the same, of values whatever their keys
module _ {X : Type 0} (P : X → Type 0) where
  pub all_at : (d : X) → P d → (k : ℕ) (m : List (ℕ × X)) → AllByRecursion (λ (e : ℕ × X). P e.1) m → P (unwrap_or (at_number k m) d)
  all_at d base k m all = keyed_at (λ k. P) d k base m all

  pub all_found : (k : ℕ) (m : List (ℕ × X)) (x : X) → AllByRecursion (λ (e : ℕ × X). P e.1) m → at_number k m ≡ Some x → P x
  all_found k m x all is = keyed_found (λ k. P) k m x all is

  pub all_put : (k : ℕ) (v : X) (m : List (ℕ × X)) → P v → AllByRecursion (λ (e : ℕ × X). P e.1) m →
      AllByRecursion (λ (e : ℕ × X). P e.1) (put_number k v m)
  all_put k v m its all = keyed_put (λ k. P) k v m its all

  pub all_each : (f : ℕ → X → X) → ((k : ℕ) (x : X) → P x → P (f k x)) → (m : List (ℕ × X)) → AllByRecursion (λ (e : ℕ × X). P e.1) m →
      AllByRecursion (λ (e : ℕ × X). P e.1) (each f m)
  all_each f step m all = keyed_each (λ k. P) f step m all

-- ---- one object

module _ (home : Homes) (reach : Reach) where
  made_put : (u : Uid) (m : Made) (ms : List (Uid × Made)) → m.server ≡ home_of home m.binding → AllByRecursion (IsMadeSo home) ms →
      AllByRecursion (IsMadeSo home) (put_uid u m ms)
  made_put u m [] its all = (its, tt)
  made_put u m (e ∷ es) its all = by (uid_order u e.0) (made_put u m es its all.1)
    where
      by : (r : Ordering) → AllByRecursion (IsMadeSo home) (put_uid u m es) →
          AllByRecursion (IsMadeSo home) (match_ordering r ((u, m) ∷ e ∷ es) ((e.0, m) ∷ es) (e ∷ put_uid u m es))
      by Less ih = (its, all)
      by Equal ih = (its, all.1)
      by Greater ih = (all.0, ih)

  made_without : (u : Uid) (ms : List (Uid × Made)) → AllByRecursion (IsMadeSo home) ms → AllByRecursion (IsMadeSo home) (without_uid u ms)
  made_without u [] all = tt
  made_without u (e ∷ es) all = by (uid_order u e.0) (made_without u es all.1)
    where
      by : (r : Ordering) → AllByRecursion (IsMadeSo home) (without_uid u es) →
          AllByRecursion (IsMadeSo home) (cond (is_eq r) es (e ∷ without_uid u es))
      by Less ih = (all.0, ih)
      by Equal ih = all.1
      by Greater ih = (all.0, ih)

  made_found : (u : Uid) (m : Made) (ms : List (Uid × Made)) → AllByRecursion (IsMadeSo home) ms → at_uid u ms ≡ Some m →
      m.server ≡ home_of home m.binding
  made_found u m [] all is = let no_way : ◌≡◌ {A = Option Made} None (Some m) = is in cc
  made_found u m (e ∷ es) all is = by (is_eq (uid_order u e.0)) is (made_found u m es all.1)
    where
      by : (b : Bool) → cond b (Some e.1) (at_uid u es) ≡ Some m → (at_uid u es ≡ Some m → m.server ≡ home_of home m.binding) →
          m.server ≡ home_of home m.binding
      by true s ih = let same : e.1 ≡ m = cc in subst (λ (x : Made). x.server ≡ home_of home x.binding) same all.0
      by false s ih = ih s

  same_home : (b c : Binding) → binding_eq b c ≡ true → home_of home b ≡ home_of home c
  same_home b c is = ap home (eqb-true (binding_number b) (binding_number c) is)

  -- what has the same live binding and the same made ones
  named_same : (x : ℕ) (o v : Named) → v.live ≡ o.live → v.made ≡ o.made → IsNamedSo home reach x o → IsNamedSo home reach x v
  named_same x o v live made so =
      record { live = subst (IsLiveSo home reach x) (sym live) so.live; made = subst (AllByRecursion (IsMadeSo home)) (sym made) so.made }

  answers_so : (x : ℕ) (r a : BoundReply) → NamesBound home reach x r → Some r ≡ Some a → NamesBound home reach x a
  answers_so x r a so is = let k : ◌≡◌ {A = Option BoundReply} (Some r) (Some a) = is in let same : r ≡ a = cc in
      subst (NamesBound home reach x) same so

  module _ (inc x : ℕ) (p : Path) (e : Entry) (c : Counted) (so : IsNamedSo home reach x c.named) where
    -- what a bind leaves, and what it answers, where a binding that it makes goes to its server
    abbrev IsBoundSo : Served Counted BoundReply → Type 0
    IsBoundSo r = ((let v = r.part in v.count) ≡ c.count + 1 →
        home_of home (record { inc = inc; count = c.count + 1 }) ≡ next_server c.named.turn e.servers) →
        IsNamedSo home reach x (let v = r.part in v.named) × ((a : BoundReply) → r.reply ≡ Some a → NamesBound home reach x a)

    live_so : (l : Live) → IsLiveSo home reach x (Some l) → (r : Option Row) → IsBoundSo (live_asked inc x p e c l r)
    live_so l its (Some r) = λ new. (so, λ a is. answers_so x (bound.Conflict _ r.mode) a tt is)
    live_so l its None = λ new. (
      named_same x c.named (locked x p mode.Read c.named) refl refl so,
      λ a is. answers_so x (bound.Live l.binding l.server l.inc inc e.stores) a its is,
    )

    made_so : (q : Option Made) → ((m : Made) → q ≡ Some m → m.server ≡ home_of home m.binding) → IsBoundSo (bind_made inc x p e c q)
    made_so (Some m) its = λ new. (
      named_same x c.named (locked x p mode.Write c.named) refl refl so,
      λ a is. answers_so x (bound.Make m.binding m.server inc e.stores) a (its m refl) is,
    )
    made_so None its =
        let s = next_server c.named.turn e.servers in
        let b : Binding = record { inc = inc; count = c.count + 1 } in
        λ new. (
          record {
            live = so.live;
            made = made_put (top_of p) (record { binding = b; server = s; recorded = false }) c.named.made (sym (new refl)) so.made;
          },
          λ a is. answers_so x (bound.Make b s inc e.stores) a (sym (new refl)) is,
        )

    above_so : (avoid : Binding) (q : Option Made) → ((m : Made) → q ≡ Some m → m.server ≡ home_of home m.binding) → (m : Made) →
        made_above avoid q ≡ Some m → m.server ≡ home_of home m.binding
    above_so avoid None its m is = let no_way : ◌≡◌ {A = Option Made} None (Some m) = is in cc
    above_so avoid (Some k) its m is = by (not k.recorded && binding_less avoid k.binding) is
      where
        by : (b : Bool) → cond b (Some k) None ≡ Some m → m.server ≡ home_of home m.binding
        by true s = let r : ◌≡◌ {A = Option Made} (Some k) (Some m) = s in let same : k ≡ m = cc in
            subst (λ (y : Made). y.server ≡ home_of home y.binding) same (its k refl)
        by false s = let no_way : ◌≡◌ {A = Option Made} None (Some m) = s in cc

    asked_so : (avoid : Binding) (r : Option Row) → IsBoundSo (make_asked inc x p avoid e c r)
    asked_so avoid (Some r) = λ new. (so, λ a is. answers_so x (bound.Conflict _ r.mode) a tt is)
    asked_so avoid None = made_so (made_above avoid (at_uid (top_of p) c.named.made))
        (above_so avoid (at_uid (top_of p) c.named.made) (λ m is. made_found (top_of p) m c.named.made so.made is))

    call_so : (avoid : Binding) (l : Option Live) → IsLiveSo home reach x l → IsBoundSo (bind_call inc x p avoid e c l)
    call_so avoid (Some l) its = live_so l its (conflict_on x p mode.Read c.named)
    call_so avoid None its = asked_so avoid (conflict_on x p mode.Write c.named)

    live_above_so : (avoid : Binding) (l : Option Live) → IsLiveSo home reach x l → IsLiveSo home reach x (live_above avoid l)
    live_above_so avoid None its = tt
    live_above_so avoid (Some l) its = by (binding_less avoid l.binding)
      where
        by : (b : Bool) → IsLiveSo home reach x (cond b (Some l) None)
        by true = its
        by false = tt

    include_so : (r : Option Row) → IsBoundSo (include_asked inc x p e c r)
    include_so (Some r) = λ new. (so, λ a is. answers_so x (bound.Conflict _ r.mode) a tt is)
    include_so None = λ new. (record { live = so.live; made = so.made }, λ a is. answers_so x (bound.Write inc e.stores) a tt is)

    bound_so : (include : Bool) (avoid : Binding) → IsBoundSo (bind_named inc x p include avoid e c)
    bound_so true avoid = include_so (conflict_on x p mode.Write c.named)
    bound_so false avoid = call_so avoid (live_above avoid c.named.live) (live_above_so avoid c.named.live so.live)

  -- ---- naming

  pub bind_so : (p : Path) (x : ℕ) (include : Bool) (avoid : Binding) (d : Pair) (n : Naming)
      → ((o : Named) → at_number x n.objects ≡ Some o → (let r = bind p x include avoid d n in let v = r.part in v.count) ≡ n.count + 1 →
      home_of home (record { inc = n.inc; count = n.count + 1 }) ≡ next_server o.turn (listed_entry x d).servers)
      → IsNamingSo home reach n → (let r = bind p x include avoid d n in
      IsNamingSo home reach r.part × ((a : BoundReply) → r.reply ≡ Some a → NamesBound home reach x a))
  bind_so p x include avoid d n new so = by (is_over p n) new
    where
      call : Counted → Served Counted BoundReply
      call = bind_named n.inc x p include avoid (listed_entry x d)

      Well : Served Naming BoundReply → Type 0
      Well r = ((o : Named) → at_number x n.objects ≡ Some o → (let v = r.part in v.count) ≡ n.count + 1 →
          home_of home (record { inc = n.inc; count = n.count + 1 }) ≡ next_server o.turn (listed_entry x d).servers) →
          IsNamingSo home reach r.part × ((a : BoundReply) → r.reply ≡ Some a → NamesBound home reach x a)

      nothing : Well (void n)
      nothing = λ made. (so, λ a is. let no_way : ◌≡◌ {A = Option BoundReply} None (Some a) = is in cc)

      there : (o : Option Named) → at_number x n.objects ≡ o → Well (on_counted x call n o)
      there None is = nothing
      there (Some o) is = λ made. let r = bound_so n.inc x p (listed_entry x d) (record { named = o; count = n.count })
          (keyed_found (IsNamedSo home reach) x n.objects o so is) include avoid (made o is) in
          (keyed_put (IsNamedSo home reach) x _ n.objects r.0 so, r.1)

      by : (b : Bool) → Well (cond b (void n) (on_counted x call n (at_number x n.objects)))
      by true = nothing
      by false = there (at_number x n.objects) refl

  -- a record is of a binding that its server reached, in the incarnation that is named
  noted_so : (x : ℕ) (top : Uid) (b : Binding) (i : ℕ) (o : Named) → IsReached reach (home_of home b) x b i → IsNamedSo home reach x o →
      IsNamedSo home reach x (note_named x top b i o).part
  noted_so x top b i o le so = by (is_binding b o.recorded)
    where
      lowered_so : (v : Named) → IsNamedSo home reach x v → IsNamedSo home reach x (lowered x top v)
      lowered_so v s = one (is_lowered x top v)
        where
          one : (c : Bool) → IsNamedSo home reach x (cond c (record v { rows = lower_row top (entry x) v.rows }) v)
          one true = record { live = s.live; made = s.made }
          one false = s

      used : (m : Made) → m.server ≡ home_of home m.binding → binding_eq b m.binding ≡ true → IsNamedSo home reach x (in_use top m i o)
      used m its same = record {
        live = (
          its,
          subst (λ z. reach m.server x z i ≡ true) (eqb-true (binding_number b) (binding_number m.binding) same)
              (subst (λ s. IsReached reach s x b i) (same_home b m.binding same ∙ sym its) le),
        );
        made = made_put top (record m { recorded = true }) o.made its so.made;
      }

      made_so : (m : Made) → m.server ≡ home_of home m.binding → binding_eq b m.binding ≡ true →
          IsNamedSo home reach x (note_made x top i o m).part
      made_so m its same = one m.recorded
        where
          one : (c : Bool) → IsNamedSo home reach x (cond {A = Served Named RecordedReply} c (reply o recorded.Yes)
              (record { part = lowered x top (in_use top m i o); outs = lower_lines x top o; reply = Some recorded.Yes })).part
          one true = so
          one false = lowered_so (in_use top m i o) (used m its same)

      other : (q : Option Made) → ((m : Made) → q ≡ Some m → m.server ≡ home_of home m.binding) →
          IsNamedSo home reach x (note_other x top b i o q).part
      other None its = so
      other (Some m) its = one (binding_eq b m.binding) refl
        where
          one : (c : Bool) → binding_eq b m.binding ≡ c →
              IsNamedSo home reach x (cond {A = Served Named RecordedReply} c (note_made x top i o m) (void o)).part
          one true same = made_so m (its m refl) same
          one false same = so

      by : (c : Bool) → IsNamedSo home reach x
          (cond {A = Served Named RecordedReply} c (reply o recorded.Yes) (note_other x top b i o (at_uid top o.made))).part
      by true = so
      by false = other (at_uid top o.made) (λ m is. made_found top m o.made so.made is)

  pub note_so : (p : Path) (x : ℕ) (b : Binding) (i g : ℕ) (n : Naming) → IsReached reach (home_of home b) x b i → IsNamingSo home reach n →
      IsNamingSo home reach (note p x b i g n).part
  note_so p x b i g n le so = by (is_over p n || not (is_some (at_number x n.objects))) (g == n.inc)
    where
      there : (o : Option Named) → at_number x n.objects ≡ o → IsNamingSo home reach (on_named x (note_named x (top_of p) b i) n o).part
      there None is = so
      there (Some o) is = keyed_put (IsNamedSo home reach) x (note_named x (top_of p) b i o).part n.objects
          (noted_so x (top_of p) b i o le (keyed_found (IsNamedSo home reach) x n.objects o so is)) so

      by : (over ours : Bool) →
          IsNamingSo home reach (cond {A = Served Naming RecordedReply} over (void n) (cond {A = Served Naming RecordedReply} ours
          (on_named x (note_named x (top_of p) b i) n (at_number x n.objects)) (reply n (recorded.Changed (what.Inc g n.inc))))).part
      by true ours = so
      by false true = there (at_number x n.objects) refl
      by false false = so

  locks_so : (xs : List ℕ) (p : Path) (n : Naming) → IsNamingSo home reach n → IsNamingSo home reach (lock_all xs p n).part
  locks_so [] p n so = so
  locks_so (x ∷ xs) p n so = locks_so xs p (lock_in x p n (at_number x n.objects)).part (one (at_number x n.objects) refl)
    where
      one : (o : Option Named) → at_number x n.objects ≡ o → IsNamingSo home reach (lock_in x p n o).part
      one None is = so
      one (Some o) is = keyed_put (IsNamedSo home reach) x (locked x p mode.Exclude o) n.objects
          (named_same x o (locked x p mode.Exclude o) refl refl (keyed_found (IsNamedSo home reach) x n.objects o so is)) so

  pub confirm_so : (p : Path) (grants : Grants) (excluded included : Marks) (d : Pair) (n : Naming) → IsNamingSo home reach n →
      IsNamingSo home reach (confirm p grants excluded included d n).part
  confirm_so p grants excluded included d n so =
      by (is_over p n || not (has_all grants n)) (is_on n.confirmed (top_of p) || is_prepared (top_of p) d)
    where
      answered : (states : List ObjectState) (t : Did Naming) (a : Prep) → IsNamingSo home reach t.part →
          IsNamingSo home reach (prepared_by (top_of p) states t a).part
      answered states t Ready s = s
      answered states t (Already u) s = s
      answered states t (Old u v) s = s
      answered states t (InDoubt u v) s = s

      entries : (states : List ObjectState) (t : Did Naming) → IsNamingSo home reach t.part →
          IsNamingSo home reach (confirm_entries (top_of p) states d t).part
      entries [] t s = s
      entries (x ∷ xs) t s = answered (x ∷ xs) t (prepare_answer (top_of p) (x ∷ xs) d) s

      new : (c : Option ConfirmedReply) → IsNamingSo home reach (confirm_new p grants excluded included d n c).part
      new (Some r) = so
      new None = entries (entries_after (top_of p) grants excluded included d) (lock_all (wanted (top_of p) grants excluded d) p n)
          (locks_so (wanted (top_of p) grants excluded d) p n so)

      by : (over again : Bool) → IsNamingSo home reach (cond {A = Served Naming ConfirmedReply} over (void n)
          (cond {A = Served Naming ConfirmedReply} again (reply (confirms (top_of p) n) confirmed.Yes)
          (confirm_new p grants excluded included d n (checked p grants excluded included d n)))).part
      by true again = so
      by false true = so
      by false false = new (checked p grants excluded included d n)

  pub told_so : (u : Uid) (e : End) (d : Pair) (n : Naming) → IsNamingSo home reach n → IsNamingSo home reach (told u e d n).part
  told_so u e d n so = by (is_on n.told u)
    where
      ended : (end : End) (k : ℕ) (o : Named) → IsNamedSo home reach k o → IsNamedSo home reach k (end_named u end o)
      ended ending.Commit k o s = record { live = s.live; made = made_without u o.made s.made }
      ended ending.Abort k o s = record { live = s.live; made = made_without u o.made s.made }

      by : (b : Bool) → IsNamingSo home reach (cond {A = Did Naming} b (did_nothing n) (told_new u (taken_end u e n) d n)).part
      by true = so
      by false = keyed_each (IsNamedSo home reach) (λ k. end_named u (taken_end u e n)) (ended (taken_end u e n)) n.objects so

  pub hello_so : (node inc : ℕ) (n : Naming) → IsNamingSo home reach n → IsNamingSo home reach (hello node inc n)
  hello_so node inc n so = keyed_each (IsNamedSo home reach) (λ k. hello_named node inc)
      (λ k o s. record { live = after k o.live s.live; made = s.made }) n.objects so
    where
      after : (x : ℕ) (l : Option Live) → IsLiveSo home reach x l → IsLiveSo home reach x (live_after node inc l)
      after x None its = tt
      after x (Some l) its = by ((l.server == node) && not (nat_le inc l.inc))
        where
          by : (b : Bool) → IsLiveSo home reach x (cond b None (Some l))
          by true = tt
          by false = its

  pub recovered_so : (inc : ℕ) (d : Pair) → IsNamingSo home reach (recovered_naming inc d)
  recovered_so inc d = by d.held
    where
      by : (held : List (Uid × ObjectState)) → AllByRecursion (λ (e : ℕ × Named). IsNamedSo home reach e.0 e.1) (map (named_back d) held)
      by [] = tt
      by (e ∷ es) = (record { live = tt; made = tt }, by es)
