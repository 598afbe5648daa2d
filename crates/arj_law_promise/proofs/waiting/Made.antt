-- Lines say which bindings naming made, whatever it does.
use Rattle.arj_law_parts.proofs.Words
use Words.{Bool, List, None, Option, Some, [], cond, false, inl, inr, not, refl, true, ℕ, ◌==◌, ◌||◌, ◌+◌, ◌++◌, ◌∷◌, ◌≡◌, ◌⊎◌, map}
use Words.{is_some, ⊤, ◌&&◌, AllByRecursion, in_from, in_to, in_left, in_right, Binding, Body, BoundReply, ConfirmedReply, End, Entry, Line}
use Words.{ObjectState, Path, RecordedReply, Row, Uid, entry, is_on, lower_row, top_of, Grants, Marks, checked, confirm, confirm_entries}
use Words.{confirm_new, confirms, entries_after, has_all, lock_all, lock_in, named_back, prepared_by, recovered_naming, wanted, Already}
use Words.{Did, Do, Effect, InDoubt, Old, Pair, Prep, Ready, Say, Send, Served, did_nothing, is_prepared, prepare_answer, reply, void}
use Words.{Counted, Live, Made, Named, bind_call, bind_made, bind_named, conflict_on, end_named, hello_named, in_use, include_asked}
use Words.{is_lowered, live_above, live_asked, lock_lines, locked, lower_lines, lowered, made_above, make_asked, next_server}
use Words.{note_made, note_named, note_other, Naming, is_over, listed_entry, on_counted, on_named, taken_end, told_new, at_number, at_uid}
use Words.{binding_eq, binding_less, IsSaid, is_binding}
use Words.body
use Words.bound
use Words.ending
use Words.mode
use Words.recorded
use Words.what
use Words.naming
use Words.confirmed
use Rattle.arj_law_promise.proofs.Terms.{keyed_each, keyed_found, keyed_put, all_at_uid, all_without, all_each, MadeWasSaid, NamedWasSaid}
use Rattle.arj_law_runs.proofs.addresses.Lists.{all_put}

-- ---- what effects say

-- one of them is a line of this
abbrev pub SaidIn : List Effect → Body → Type 0
SaidIn [] z = ⊥
SaidIn (Say b ∷ es) z = (b ≡ z) ⊎ SaidIn es z
SaidIn (Send to m ∷ es) z = SaidIn es z
SaidIn (Do w ∷ es) z = SaidIn es z

said_last : (es : List Effect) (b : Body) → SaidIn (es ++ Say b ∷ []) b
said_last [] b = inl refl
said_last (Say c ∷ es) b = inr (said_last es b)
said_last (Send to m ∷ es) b = said_last es b
said_last (Do w ∷ es) b = said_last es b

-- lines are said once and for all
pub line_stays : (lines more : List Line) (b : Body) → IsSaid lines b → IsSaid (lines ++ more) b
line_stays lines more b s = (s.0, in_to s.0 (lines ++ more) (in_left s.0 lines more (in_from s.0 lines s.1)), s.2)

pub line_new : (lines : List Line) (e : ℕ) (c b : Body) → c ≡ b → IsSaid (lines ++ record { event = e; body = c } ∷ []) b
line_new lines e c b same = (
  record { event = e; body = c },
  in_to _ (lines ++ record { event = e; body = c } ∷ []) (in_right _ lines (record { event = e; body = c } ∷ []) (inl refl)),
  same,
)

-- ---- more was said

module _ (S T : Body → Type 0) (grows : (z : Body) → S z → T z) where
  named_grows : (x : ℕ) (o : Named) → NamedWasSaid S x o → NamedWasSaid T x o
  named_grows x o its = all_each (λ (e : Uid × Made). S (body.Bound x e.1.binding e.1.server))
      (λ (e : Uid × Made). T (body.Bound x e.1.binding e.1.server)) o.made (λ e. grows (body.Bound x e.1.binding e.1.server)) its

  pub made_more : (o : Option Naming) → MadeWasSaid S o → MadeWasSaid T o
  made_more None all = tt
  made_more (Some n) all = all_each (λ (e : ℕ × Named). NamedWasSaid S e.0 e.1) (λ (e : ℕ × Named). NamedWasSaid T e.0 e.1) n.objects
      (λ e. named_grows e.0 e.1) all

  -- ---- a Bind

  -- the answer names a binding of which a line was said
  abbrev pub MakeSaid : ℕ → Option BoundReply → Type 0
  MakeSaid x (Some (bound.Make b server g stores)) = T (body.Bound x b server)
  MakeSaid x _ = ⊤

  module _ (p : Path) (inc x : ℕ) (e : Entry) (avoid : Binding) (c : Counted) (its : NamedWasSaid S x c.named) where
    abbrev Tells : Served Counted BoundReply → Type 0
    Tells r = (z : Body) → SaidIn r.outs z → T z

    abbrev Fine : Served Counted BoundReply → Type 0
    Fine r = NamedWasSaid T x (let q = r.part in q.named) × MakeSaid x r.reply

    older : NamedWasSaid T x c.named
    older = named_grows x c.named its

    abbrev HasSaid : Option Made → Type 0
    HasSaid None = ⊤
    HasSaid (Some m) = S (body.Bound x m.binding m.server)

    live_fine : (l : Live) (r : Option Row) → Fine (live_asked inc x p e c l r)
    live_fine l (Some r) = (older, tt)
    live_fine l None = (older, tt)

    made_fine : (q : Option Made) → HasSaid q → Tells (bind_made inc x p e c q) → Fine (bind_made inc x p e c q)
    made_fine (Some m) was tells = (older, grows (body.Bound x m.binding m.server) was)
    made_fine None was tells =
        let b : Binding = record { inc = inc; count = c.count + 1 } in
        let s = next_server c.named.turn e.servers in
        let new = tells (body.Bound x b s) (said_last (lock_lines x p mode.Write c.named) (body.Bound x b s)) in (
          all_put (λ (e : Uid × Made). T (body.Bound x e.1.binding e.1.server)) (top_of p)
              (record { binding = b; server = s; recorded = false }) c.named.made (λ w. new) older,
          new,
        )

    above_fine : (q : Option Made) → HasSaid q → HasSaid (made_above avoid q)
    above_fine None was = tt
    above_fine (Some m) was = by (not m.recorded && binding_less avoid m.binding)
      where
        by : (b : Bool) → HasSaid (cond b (Some m) None)
        by true = was
        by false = tt

    found_fine : (u : Uid) (q : Option Made) → at_uid u c.named.made ≡ q → HasSaid q
    found_fine u None is = tt
    found_fine u (Some m) is = all_at_uid (λ (k : Made). S (body.Bound x k.binding k.server)) u m c.named.made its is

    make_fine : (r : Option Row) → Tells (make_asked inc x p avoid e c r) → Fine (make_asked inc x p avoid e c r)
    make_fine (Some r) tells = (older, tt)
    make_fine None tells = made_fine (made_above avoid (at_uid (top_of p) c.named.made))
        (above_fine (at_uid (top_of p) c.named.made) (found_fine (top_of p) (at_uid (top_of p) c.named.made) refl)) tells

    call_fine : (l : Option Live) → Tells (bind_call inc x p avoid e c l) → Fine (bind_call inc x p avoid e c l)
    call_fine (Some l) tells = live_fine l (conflict_on x p mode.Read c.named)
    call_fine None tells = make_fine (conflict_on x p mode.Write c.named) tells

    include_fine : (r : Option Row) → Fine (include_asked inc x p e c r)
    include_fine (Some r) = (older, tt)
    include_fine None = (older, tt)

    named_fine : (include : Bool) → Tells (bind_named inc x p include avoid e c) → Fine (bind_named inc x p include avoid e c)
    named_fine true tells = include_fine (conflict_on x p mode.Write c.named)
    named_fine false tells = call_fine (live_above avoid c.named.live) tells

  -- with the lines that it says
  pub bind_made_said : (p : Path) (x : ℕ) (include : Bool) (avoid : Binding) (d : Pair) (n : Naming) → MadeWasSaid S (Some n) →
      (let r = naming.bind p x include avoid d n in (z : Body) → SaidIn r.outs z → T z) →
      (let r = naming.bind p x include avoid d n in MadeWasSaid T (Some r.part) × MakeSaid x r.reply)
  bind_made_said p x include avoid d n all tells = by (is_over p n) tells
    where
      there : (q : Option Named) → at_number x n.objects ≡ q → (let r = on_counted x (bind_named n.inc x p include avoid (listed_entry x d))
          n q in (z : Body) → SaidIn r.outs z → T z) → (let r = on_counted x (bind_named n.inc x p include avoid (listed_entry x d)) n q in
          MadeWasSaid T (Some r.part) × MakeSaid x r.reply)
      there None is tells = (made_more (Some n) all, tt)
      there (Some o) is tells =
          let c : Counted = record { named = o; count = n.count } in
          let f = named_fine p n.inc x (listed_entry x d) avoid c (keyed_found (NamedWasSaid S) x n.objects o all is) include tells in (
            keyed_put (NamedWasSaid T) x (let r = bind_named n.inc x p include avoid (listed_entry x d) c in let q = r.part in
                q.named) n.objects f.0 (made_more (Some n) all),
            f.1,
          )

      by : (b : Bool) → (let r = cond b (void n) (on_counted x (bind_named n.inc x p include avoid (listed_entry x d)) n
          (at_number x n.objects)) in (z : Body) → SaidIn r.outs z → T z) → (let r = cond b (void n) (on_counted x (bind_named n.inc x p
          include avoid (listed_entry x d)) n (at_number x n.objects)) in MadeWasSaid T (Some r.part) × MakeSaid x r.reply)
      by true tells = (made_more (Some n) all, tt)
      by false tells = there (at_number x n.objects) refl tells

-- ---- all else that naming does

module _ (S : Body → Type 0) where
  abbrev Is : ℕ → Named → Type 0
  Is x o = NamedWasSaid S x o

  -- a binding that is recorded stays the one that it was
  noted_said : (x : ℕ) (top : Uid) (b : Binding) (i : ℕ) (o : Named) → Is x o → Is x (let r = note_named x top b i o in r.part)
  noted_said x top b i o its = by (is_binding b o.recorded)
    where
      used : (m : Made) → S (body.Bound x m.binding m.server) → Is x (in_use top m i o)
      used m was =
          all_put (λ (e : Uid × Made). S (body.Bound x e.1.binding e.1.server)) top (record m { recorded = true }) o.made (λ w. was) its

      low : (o : Named) → Is x o → Is x (lowered x top o)
      low o its = at (is_lowered x top o)
        where
          at : (b : Bool) → Is x (cond b (record o { rows = lower_row top (entry x) o.rows }) o)
          at true = its
          at false = its

      other : (q : Option Made) → at_uid top o.made ≡ q → Is x (let r = note_other x top b i o q in r.part)
      other None is = its
      other (Some m) is = at (binding_eq b m.binding)
        where
          at : (e : Bool) → Is x (let r = cond {A = Served Named RecordedReply} e (note_made x top i o m) (void o) in r.part)
          at true = one m.recorded
            where
              one : (w : Bool) → Is x (let r = cond {A = Served Named RecordedReply} w (reply o recorded.Yes)
                  (record { part = lowered x top (in_use top m i o); outs = lower_lines x top o; reply = Some recorded.Yes }) in r.part)
              one true = its
              one false =
                  low (in_use top m i o) (used m (all_at_uid (λ (k : Made). S (body.Bound x k.binding k.server)) top m o.made its is))
          at false = its

      by : (e : Bool) → Is x
          (let r = cond {A = Served Named RecordedReply} e (reply o recorded.Yes) (note_other x top b i o (at_uid top o.made)) in r.part)
      by true = its
      by false = other (at_uid top o.made) refl

  pub note_made_said : (p : Path) (x : ℕ) (b : Binding) (i g : ℕ) (n : Naming) → MadeWasSaid S (Some n) →
      MadeWasSaid S (Some (let r = naming.note p x b i g n in r.part))
  note_made_said p x b i g n all = by (is_over p n) (is_some (at_number x n.objects)) (g == n.inc)
    where
      there : (q : Option Named) → at_number x n.objects ≡ q →
          MadeWasSaid S (Some (let r = on_named x (note_named x (top_of p) b i) n q in r.part))
      there None is = all
      there (Some o) is = keyed_put Is x (let r = note_named x (top_of p) b i o in
          r.part) n.objects (noted_said x (top_of p) b i o (keyed_found Is x n.objects o all is)) all

      by : (over known ours : Bool) → MadeWasSaid S
          (Some (let r = cond {A = Served Naming RecordedReply} (over || not known) (void n) (cond {A = Served Naming RecordedReply} ours
          (on_named x (note_named x (top_of p) b i) n (at_number x n.objects)) (reply n (recorded.Changed (what.Inc g n.inc)))) in r.part))
      by true known ours = all
      by false false ours = all
      by false true true = there (at_number x n.objects) refl
      by false true false = all

  pub told_made_said : (u : Uid) (e : End) (d : Pair) (n : Naming) → MadeWasSaid S (Some n) →
      MadeWasSaid S (Some (let r = naming.told u e d n in r.part))
  told_made_said u e d n all = by (is_on n.told u)
    where
      ended : (h : End) (x : ℕ) (o : Named) → Is x o → Is x (end_named u h o)
      ended ending.Commit x o its = all_without (λ (z : Uid × Made). S (body.Bound x z.1.binding z.1.server)) u o.made its
      ended ending.Abort x o its = all_without (λ (z : Uid × Made). S (body.Bound x z.1.binding z.1.server)) u o.made its

      by : (b : Bool) → MadeWasSaid S (Some (let t = cond {A = Did Naming} b (did_nothing n) (told_new u (taken_end u e n) d n) in t.part))
      by true = all
      by false = keyed_each Is (λ x. end_named u (taken_end u e n)) (λ x o its. ended (taken_end u e n) x o its) n.objects all

  pub hello_made_said : (node inc : ℕ) (n : Naming) → MadeWasSaid S (Some n) → MadeWasSaid S (Some (naming.hello node inc n))
  hello_made_said node inc n all = keyed_each Is (λ x. hello_named node inc) (λ x o its. its) n.objects all

  pub confirm_made_said : (p : Path) (grants : Grants) (excluded included : Marks) (d : Pair) (n : Naming) → MadeWasSaid S (Some n) →
      MadeWasSaid S (Some (let r = confirm p grants excluded included d n in r.part))
  confirm_made_said p grants excluded included d n all =
      by (is_over p n) (has_all grants n) (is_on n.confirmed (top_of p) || is_prepared (top_of p) d)
    where
      locks_one : (x : ℕ) (m : Naming) → MadeWasSaid S (Some m) → (q : Option Named) → at_number x m.objects ≡ q →
          MadeWasSaid S (Some (let r = lock_in x p m q in r.part))
      locks_one x m its None is = its
      locks_one x m its (Some o) is = keyed_put Is x (locked x p mode.Exclude o) m.objects (keyed_found Is x m.objects o its is) its

      locks : (xs : List ℕ) (m : Naming) → MadeWasSaid S (Some m) → MadeWasSaid S (Some (let r = lock_all xs p m in r.part))
      locks [] m its = its
      locks (x ∷ xs) m its =
          locks xs (let r = lock_in x p m (at_number x m.objects) in r.part) (locks_one x m its (at_number x m.objects) refl)

      ready : (top : Uid) (states : List ObjectState) (t : Did Naming) → MadeWasSaid S (Some t.part) → (q : Prep) →
          MadeWasSaid S (Some (let r = prepared_by top states t q in r.part))
      ready top states t its Ready = its
      ready top states t its (InDoubt u v) = its
      ready top states t its (Already u) = its
      ready top states t its (Old u v) = its

      entries : (top : Uid) (states : List ObjectState) (t : Did Naming) → MadeWasSaid S (Some t.part) →
          MadeWasSaid S (Some (let r = confirm_entries top states d t in r.part))
      entries top [] t its = its
      entries top (s ∷ ss) t its = ready top (s ∷ ss) t its (prepare_answer top (s ∷ ss) d)

      new : (q : Option ConfirmedReply) → MadeWasSaid S (Some (let r = confirm_new p grants excluded included d n q in r.part))
      new (Some r) = all
      new None = entries (top_of p) (entries_after (top_of p) grants excluded included d)
          (lock_all (wanted (top_of p) grants excluded d) p n) (locks (wanted (top_of p) grants excluded d) n all)

      by : (over known done : Bool) → MadeWasSaid S (Some (let r = cond {A = Served Naming ConfirmedReply} (over || not known) (void n)
          (cond {A = Served Naming ConfirmedReply} done (reply (confirms (top_of p) n) confirmed.Yes)
          (confirm_new p grants excluded included d n (checked p grants excluded included d n))) in r.part))
      by true known done = all
      by false false done = all
      by false true true = all
      by false true false = new (checked p grants excluded included d n)

  -- naming that starts has made none
  pub back_made_said : (inc : ℕ) (d : Pair) → MadeWasSaid S (Some (recovered_naming inc d))
  back_made_said inc d = none d.held
    where
      none : (es : List (Uid × ObjectState)) → AllByRecursion (λ (e : ℕ × Named). Is e.0 e.1) (map (named_back d) es)
      none [] = tt
      none (e ∷ es) = (tt, none es)
