-- The bindings that naming has, each known of the object and the server, and each live one of an incarnation of that server.
use Rattle.arj_law_parts.proofs.Words
use Words.{◌≡◌, ◌+◌, ◌==◌, ℕ, List, [], ◌∷◌, Bool, true, false, cond, not, map, Option, Some, None, refl, sym, ◌∙◌, ap, subst, ⊤}
use Words.{nat_le, is_some, ◌||◌, ◌&&◌, AllByRecursion, is_eq, match_ordering, Ordering, Less, Equal, Greater, uid_order, is_on, Uid}
use Words.{Binding}
use Words.{End, Entry, ObjectState, Path, Row, BoundReply, ConfirmedReply, RecordedReply, entry, lower_row, top_of, Grants, Marks}
use Words.{checked}
use Words.{confirm, confirm_entries, confirm_new, confirms, entries_after, has_all, lock_all, lock_in, named_back, prepared_by}
use Words.{recovered_naming, wanted, Did, Pair, Prep, Ready, Already, Old, InDoubt, Served, did_nothing, is_prepared, prepare_answer}
use Words.{reply}
use Words.{void, Counted, Live, Made, Named, bind_call, bind_made, bind_named, conflict_on, end_named, hello_named, in_use, include_asked}
use Words.{is_lowered, live_above, live_after, live_asked, locked, lowered, made_above, make_asked, next_server, note_made, note_named}
use Words.{note_other, Naming, bind, hello, is_over, listed_entry, note, on_counted, on_named, taken_end, told_new, at_number, at_uid}
use Words.{binding_eq, binding_less, put_number, put_uid, without_uid, is_binding}
use Words.bound
use Words.confirmed
use Words.ending
use Words.mode
use Words.recorded
use Words.what
use Rattle.arj_law_parts.proofs.Terms.{told}
use Rattle.arj_law_parts.proofs.parts.LivesNamed.{keyed_each, keyed_found, keyed_put}

-- ---- what is known

-- of a binding of the object with its server; and of an incarnation of that server too
abbrev pub OfServer : Type 1
OfServer = ℕ → Binding → ℕ → Type 0

abbrev pub OfInc : Type 1
OfInc = ℕ → Binding → ℕ → ℕ → Type 0

module _ (N : OfServer) (R : OfInc) where
  abbrev pub IsLiveSo : ℕ → Option Live → Type 0
  IsLiveSo x None = ⊤
  IsLiveSo x (Some l) = N x l.binding l.server × R x l.binding l.server l.inc

  abbrev pub IsMadeSo : ℕ → Uid × Made → Type 0
  IsMadeSo x e = let m = e.1 in N x m.binding m.server

  abbrev pub AreMadeSo : ℕ → List (Uid × Made) → Type 0
  AreMadeSo x ms = AllByRecursion (IsMadeSo x) ms

  -- what naming has of an object
  pub record IsNamedSo (x : ℕ) (o : Named) : Type 0 where
    pub live : IsLiveSo x o.live
    pub made : AreMadeSo x o.made

  -- so it is of all its objects
  abbrev pub IsNamingSo : Naming → Type 0
  IsNamingSo n = AllByRecursion (λ (e : ℕ × Named). IsNamedSo e.0 e.1) n.objects

  -- an answer to a Bind of the object
  abbrev pub NamesBound : ℕ → BoundReply → Type 0
  NamesBound x (bound.Live b server i g stores) = N x b server × R x b server i
  NamesBound x (bound.Make b server g stores) = N x b server
  NamesBound x r = ⊤

  -- ---- lists

  pub made_put : (x : ℕ) (u : Uid) (m : Made) (ms : List (Uid × Made)) → N x m.binding m.server → AreMadeSo x ms →
      AreMadeSo x (put_uid u m ms)
  made_put x u m [] its all = (its, tt)
  made_put x u m (e ∷ es) its all = by (uid_order u e.0) (made_put x u m es its all.1)
    where
      by : (r : Ordering) → AreMadeSo x (put_uid u m es) →
          AreMadeSo x (match_ordering r ((u, m) ∷ e ∷ es) ((e.0, m) ∷ es) (e ∷ put_uid u m es))
      by Less ih = (its, all)
      by Equal ih = (its, all.1)
      by Greater ih = (all.0, ih)

  made_without : (x : ℕ) (u : Uid) (ms : List (Uid × Made)) → AreMadeSo x ms → AreMadeSo x (without_uid u ms)
  made_without x u [] all = tt
  made_without x u (e ∷ es) all = by (uid_order u e.0) (made_without x u es all.1)
    where
      by : (r : Ordering) → AreMadeSo x (without_uid u es) → AreMadeSo x (cond (is_eq r) es (e ∷ without_uid u es))
      by Less ih = (all.0, ih)
      by Equal ih = all.1
      by Greater ih = (all.0, ih)

  pub made_found : (x : ℕ) (u : Uid) (m : Made) (ms : List (Uid × Made)) → AreMadeSo x ms → at_uid u ms ≡ Some m → N x m.binding m.server
  made_found x u m [] all is = let no_way : ◌≡◌ {A = Option Made} None (Some m) = is in absurd (cc no_way)
  made_found x u m (e ∷ es) all is = by (is_eq (uid_order u e.0)) is (made_found x u m es all.1)
    where
      by : (b : Bool) → cond b (Some e.1) (at_uid u es) ≡ Some m → (at_uid u es ≡ Some m → N x m.binding m.server) → N x m.binding m.server
      by true s ih = let same : e.1 ≡ m = cc in subst (λ (y : Made). N x y.binding y.server) same all.0
      by false s ih = ih s

  -- what has the same live binding and the same made ones
  pub named_same : (x : ℕ) (o v : Named) → v.live ≡ o.live → v.made ≡ o.made → IsNamedSo x o → IsNamedSo x v
  named_same x o v live made so =
      record { live = subst (IsLiveSo x) (sym live) so.live; made = subst (AreMadeSo x) (sym made) so.made }

  answers_so : (x : ℕ) (r a : BoundReply) → NamesBound x r → Some r ≡ Some a → NamesBound x a
  answers_so x r a so is = let k : ◌≡◌ {A = Option BoundReply} (Some r) (Some a) = is in let same : r ≡ a = cc in
      subst (NamesBound x) same so

  -- ---- a Bind

  module _ (inc x : ℕ) (p : Path) (e : Entry) (c : Counted) (so : IsNamedSo x c.named) where
    abbrev New : Binding
    New = record { inc = inc; count = c.count + 1 }

    -- what a Bind leaves, and what it answers, where a binding that it makes is known
    abbrev IsBoundSo : Served Counted BoundReply → Type 0
    IsBoundSo r = ((let v = r.part in v.count) ≡ c.count + 1 → N x New (next_server c.named.turn e.servers)) →
        IsNamedSo x (let v = r.part in v.named) × ((a : BoundReply) → r.reply ≡ Some a → NamesBound x a)

    live_so : (l : Live) → IsLiveSo x (Some l) → (r : Option Row) → IsBoundSo (live_asked inc x p e c l r)
    live_so l its (Some r) = λ new. (so, λ a is. answers_so x (bound.Conflict _ r.mode) a tt is)
    live_so l its None = λ new. (
      named_same x c.named (locked x p mode.Read c.named) refl refl so,
      λ a is. answers_so x (bound.Live l.binding l.server l.inc inc e.stores) a its is,
    )

    made_so : (q : Option Made) → ((m : Made) → q ≡ Some m → N x m.binding m.server) → IsBoundSo (bind_made inc x p e c q)
    made_so (Some m) its = λ new. (
      named_same x c.named (locked x p mode.Write c.named) refl refl so,
      λ a is. answers_so x (bound.Make m.binding m.server inc e.stores) a (its m refl) is,
    )
    made_so None its =
        let s = next_server c.named.turn e.servers in
        λ new. (
          record {
            live = so.live;
            made = made_put x (top_of p) (record { binding = New; server = s; recorded = false }) c.named.made
                (new refl) so.made;
          },
          λ a is. answers_so x (bound.Make New s inc e.stores) a (new refl) is,
        )

    above_so : (avoid : Binding) (q : Option Made) → ((m : Made) → q ≡ Some m → N x m.binding m.server) → (m : Made) →
        made_above avoid q ≡ Some m → N x m.binding m.server
    above_so avoid None its m is = let no_way : ◌≡◌ {A = Option Made} None (Some m) = is in absurd (cc no_way)
    above_so avoid (Some k) its m is = by (not k.recorded && binding_less avoid k.binding) is
      where
        by : (b : Bool) → cond b (Some k) None ≡ Some m → N x m.binding m.server
        by true s = let r : ◌≡◌ {A = Option Made} (Some k) (Some m) = s in let same : k ≡ m = cc in
            subst (λ (y : Made). N x y.binding y.server) same (its k refl)
        by false s = let no_way : ◌≡◌ {A = Option Made} None (Some m) = s in absurd (cc no_way)

    asked_so : (avoid : Binding) (r : Option Row) → IsBoundSo (make_asked inc x p avoid e c r)
    asked_so avoid (Some r) = λ new. (so, λ a is. answers_so x (bound.Conflict _ r.mode) a tt is)
    asked_so avoid None = made_so (made_above avoid (at_uid (top_of p) c.named.made))
        (above_so avoid (at_uid (top_of p) c.named.made) (λ m is. made_found x (top_of p) m c.named.made so.made is))

    call_so : (avoid : Binding) (l : Option Live) → IsLiveSo x l → IsBoundSo (bind_call inc x p avoid e c l)
    call_so avoid (Some l) its = live_so l its (conflict_on x p mode.Read c.named)
    call_so avoid None its = asked_so avoid (conflict_on x p mode.Write c.named)

    live_above_so : (avoid : Binding) (l : Option Live) → IsLiveSo x l → IsLiveSo x (live_above avoid l)
    live_above_so avoid None its = tt
    live_above_so avoid (Some l) its = by (binding_less avoid l.binding)
      where
        by : (b : Bool) → IsLiveSo x (cond b (Some l) None)
        by true = its
        by false = tt

    include_so : (r : Option Row) → IsBoundSo (include_asked inc x p e c r)
    include_so (Some r) = λ new. (so, λ a is. answers_so x (bound.Conflict _ r.mode) a tt is)
    include_so None = λ new. (record { live = so.live; made = so.made }, λ a is. answers_so x (bound.Write inc e.stores) a tt is)

    bound_so : (include : Bool) (avoid : Binding) → IsBoundSo (bind_named inc x p include avoid e c)
    bound_so true avoid = include_so (conflict_on x p mode.Write c.named)
    bound_so false avoid = call_so avoid (live_above avoid c.named.live) (live_above_so avoid c.named.live so.live)

  -- ---- naming

  pub bind_so : (p : Path) (x : ℕ) (include : Bool) (avoid : Binding) (d : Pair) (n : Naming)
      → ((o : Named) → at_number x n.objects ≡ Some o → (let r = bind p x include avoid d n in let v = r.part in v.count) ≡ n.count + 1 →
      N x (record { inc = n.inc; count = n.count + 1 }) (next_server o.turn (listed_entry x d).servers))
      → IsNamingSo n → (let r = bind p x include avoid d n in IsNamingSo r.part × ((a : BoundReply) → r.reply ≡ Some a → NamesBound x a))
  bind_so p x include avoid d n new so = by (is_over p n) new
    where
      call : Counted → Served Counted BoundReply
      call = bind_named n.inc x p include avoid (listed_entry x d)

      Well : Served Naming BoundReply → Type 0
      Well r = ((o : Named) → at_number x n.objects ≡ Some o → (let v = r.part in v.count) ≡ n.count + 1 →
          N x (record { inc = n.inc; count = n.count + 1 }) (next_server o.turn (listed_entry x d).servers)) →
          IsNamingSo r.part × ((a : BoundReply) → r.reply ≡ Some a → NamesBound x a)

      nothing : Well (void n)
      nothing = λ made. (so, λ a is. let no_way : ◌≡◌ {A = Option BoundReply} None (Some a) = is in absurd (cc no_way))

      there : (o : Option Named) → at_number x n.objects ≡ o → Well (on_counted x call n o)
      there None is = nothing
      there (Some o) is = λ made. let r = bound_so n.inc x p (listed_entry x d) (record { named = o; count = n.count })
          (keyed_found IsNamedSo x n.objects o so is) include avoid (made o is) in
          (keyed_put IsNamedSo x _ n.objects r.0 so, r.1)

      by : (b : Bool) → Well (cond b (void n) (on_counted x call n (at_number x n.objects)))
      by true = nothing
      by false = there (at_number x n.objects) refl

  -- a record is of a binding that was made, of which so much is known
  noted_so : (x : ℕ) (top : Uid) (b : Binding) (i : ℕ) (o : Named) →
      ((m : Made) → N x m.binding m.server → binding_eq b m.binding ≡ true → R x m.binding m.server i) → IsNamedSo x o →
      IsNamedSo x (note_named x top b i o).part
  noted_so x top b i o of_made so = by (is_binding b o.recorded)
    where
      lowered_so : (v : Named) → IsNamedSo x v → IsNamedSo x (lowered x top v)
      lowered_so v s = one (is_lowered x top v)
        where
          one : (c : Bool) → IsNamedSo x (cond c (record v { rows = lower_row top (entry x) v.rows }) v)
          one true = record { live = s.live; made = s.made }
          one false = s

      used : (m : Made) → N x m.binding m.server → binding_eq b m.binding ≡ true → IsNamedSo x (in_use top m i o)
      used m its same = record {
        live = (its, of_made m its same);
        made = made_put x top (record m { recorded = true }) o.made its so.made;
      }

      made_so : (m : Made) → N x m.binding m.server → binding_eq b m.binding ≡ true → IsNamedSo x (note_made x top i o m).part
      made_so m its same = one m.recorded
        where
          one : (c : Bool) → IsNamedSo x (cond {A = Served Named RecordedReply} c (reply o recorded.Yes)
              (record { part = lowered x top (in_use top m i o); outs = Words.lower_lines x top o; reply = Some recorded.Yes })).part
          one true = so
          one false = lowered_so (in_use top m i o) (used m its same)

      other : (q : Option Made) → ((m : Made) → q ≡ Some m → N x m.binding m.server) → IsNamedSo x (note_other x top b i o q).part
      other None its = so
      other (Some m) its = one (binding_eq b m.binding) refl
        where
          one : (c : Bool) → binding_eq b m.binding ≡ c →
              IsNamedSo x (cond {A = Served Named RecordedReply} c (note_made x top i o m) (void o)).part
          one true same = made_so m (its m refl) same
          one false same = so

      by : (c : Bool) → IsNamedSo x
          (cond {A = Served Named RecordedReply} c (reply o recorded.Yes) (note_other x top b i o (at_uid top o.made))).part
      by true = so
      by false = other (at_uid top o.made) (λ m is. made_found x top m o.made so.made is)

  pub note_so : (p : Path) (x : ℕ) (b : Binding) (i g : ℕ) (n : Naming) →
      ((m : Made) → N x m.binding m.server → binding_eq b m.binding ≡ true → R x m.binding m.server i) → IsNamingSo n →
      IsNamingSo (note p x b i g n).part
  note_so p x b i g n of_made so = by (is_over p n || not (is_some (at_number x n.objects))) (g == n.inc)
    where
      there : (o : Option Named) → at_number x n.objects ≡ o → IsNamingSo (on_named x (note_named x (top_of p) b i) n o).part
      there None is = so
      there (Some o) is = keyed_put IsNamedSo x (note_named x (top_of p) b i o).part n.objects
          (noted_so x (top_of p) b i o of_made (keyed_found IsNamedSo x n.objects o so is)) so

      by : (over ours : Bool) →
          IsNamingSo (cond {A = Served Naming RecordedReply} over (void n) (cond {A = Served Naming RecordedReply} ours
          (on_named x (note_named x (top_of p) b i) n (at_number x n.objects)) (reply n (recorded.Changed (what.Inc g n.inc))))).part
      by true ours = so
      by false true = there (at_number x n.objects) refl
      by false false = so

  locks_so : (xs : List ℕ) (p : Path) (n : Naming) → IsNamingSo n → IsNamingSo (lock_all xs p n).part
  locks_so [] p n so = so
  locks_so (x ∷ xs) p n so = locks_so xs p (lock_in x p n (at_number x n.objects)).part (one (at_number x n.objects) refl)
    where
      one : (o : Option Named) → at_number x n.objects ≡ o → IsNamingSo (lock_in x p n o).part
      one None is = so
      one (Some o) is = keyed_put IsNamedSo x (locked x p mode.Exclude o) n.objects
          (named_same x o (locked x p mode.Exclude o) refl refl (keyed_found IsNamedSo x n.objects o so is)) so

  pub confirm_so : (p : Path) (grants : Grants) (excluded included : Marks) (d : Pair) (n : Naming) → IsNamingSo n →
      IsNamingSo (confirm p grants excluded included d n).part
  confirm_so p grants excluded included d n so =
      by (is_over p n || not (has_all grants n)) (is_on n.confirmed (top_of p) || is_prepared (top_of p) d)
    where
      answered : (states : List ObjectState) (t : Did Naming) (a : Prep) → IsNamingSo t.part →
          IsNamingSo (prepared_by (top_of p) states t a).part
      answered states t Ready s = s
      answered states t (Already u) s = s
      answered states t (Old u v) s = s
      answered states t (InDoubt u v) s = s

      entries : (states : List ObjectState) (t : Did Naming) → IsNamingSo t.part → IsNamingSo (confirm_entries (top_of p) states d t).part
      entries [] t s = s
      entries (x ∷ xs) t s = answered (x ∷ xs) t (prepare_answer (top_of p) (x ∷ xs) d) s

      new : (c : Option ConfirmedReply) → IsNamingSo (confirm_new p grants excluded included d n c).part
      new (Some r) = so
      new None = entries (entries_after (top_of p) grants excluded included d) (lock_all (wanted (top_of p) grants excluded d) p n)
          (locks_so (wanted (top_of p) grants excluded d) p n so)

      by : (over again : Bool) → IsNamingSo (cond {A = Served Naming ConfirmedReply} over (void n)
          (cond {A = Served Naming ConfirmedReply} again (reply (confirms (top_of p) n) confirmed.Yes)
          (confirm_new p grants excluded included d n (checked p grants excluded included d n)))).part
      by true again = so
      by false true = so
      by false false = new (checked p grants excluded included d n)

  pub told_so : (u : Uid) (e : End) (d : Pair) (n : Naming) → IsNamingSo n → IsNamingSo (told u e d n).part
  told_so u e d n so = by (is_on n.told u)
    where
      ended : (end : End) (k : ℕ) (o : Named) → IsNamedSo k o → IsNamedSo k (end_named u end o)
      ended ending.Commit k o s = record { live = s.live; made = made_without k u o.made s.made }
      ended ending.Abort k o s = record { live = s.live; made = made_without k u o.made s.made }

      by : (b : Bool) → IsNamingSo (cond {A = Did Naming} b (did_nothing n) (told_new u (taken_end u e n) d n)).part
      by true = so
      by false = keyed_each IsNamedSo (λ k. end_named u (taken_end u e n)) (ended (taken_end u e n)) n.objects so

  pub hello_so : (node inc : ℕ) (n : Naming) → IsNamingSo n → IsNamingSo (hello node inc n)
  hello_so node inc n so = keyed_each IsNamedSo (λ k. hello_named node inc)
      (λ k o s. record { live = after k o.live s.live; made = s.made }) n.objects so
    where
      after : (x : ℕ) (l : Option Live) → IsLiveSo x l → IsLiveSo x (live_after node inc l)
      after x None its = tt
      after x (Some l) its = by ((l.server == node) && not (nat_le inc l.inc))
        where
          by : (b : Bool) → IsLiveSo x (cond b None (Some l))
          by true = tt
          by false = its

  pub recovered_so : (inc : ℕ) (d : Pair) → IsNamingSo (recovered_naming inc d)
  recovered_so inc d = by d.held
    where
      by : (held : List (Uid × ObjectState)) → AllByRecursion (λ (e : ℕ × Named). IsNamedSo e.0 e.1) (map (named_back d) held)
      by [] = tt
      by (e ∷ es) = (record { live = tt; made = tt }, by es)

-- where more is known
module _ (N M : OfServer) (R Q : OfInc) (more : (x : ℕ) (b : Binding) (s : ℕ) → N x b s → M x b s)
    (most : (x : ℕ) (b : Binding) (s i : ℕ) → R x b s i → Q x b s i) where
  made_map : (x : ℕ) (ms : List (Uid × Made)) → AreMadeSo N R x ms → AreMadeSo M Q x ms
  made_map x [] all = tt
  made_map x (e ∷ es) all = (more x (let m = e.1 in m.binding) (let m = e.1 in m.server) all.0, made_map x es all.1)

  live_map : (x : ℕ) (l : Option Live) → IsLiveSo N R x l → IsLiveSo M Q x l
  live_map x None its = tt
  live_map x (Some l) its = (more x l.binding l.server its.0, most x l.binding l.server l.inc its.1)

  pub naming_map : (n : Naming) → IsNamingSo N R n → IsNamingSo M Q n
  naming_map n so = by n.objects so
    where
      by : (os : List (ℕ × Named)) → AllByRecursion (λ (e : ℕ × Named). IsNamedSo N R e.0 e.1) os →
          AllByRecursion (λ (e : ℕ × Named). IsNamedSo M Q e.0 e.1) os
      by [] all = tt
      by (e ∷ es) all = (
        record {
          live = live_map e.0 (let o = e.1 in o.live) (let s = all.0 in s.live);
          made = made_map e.0 (let o = e.1 in o.made)
              (let s = all.0 in s.made);
        },
        by es all.1,
      )
