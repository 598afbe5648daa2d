-- A conflict that a server or naming answers is with the first row that stands against what was asked; and an operation is run in its lock.
use Rattle.arj_law_parts.proofs.Words
use Words.{◌≡◌, ◌∙◌, ◌==◌, ◌&&◌, ◌||◌, ℕ, Bool, true, false, cond, filter, find, not, is_some, List, [], ◌∷◌, Option, Some, None, refl}
use Words.{sym, ap, subst, eq-eqb, and_parts, ◌≤◌, arith, nat_le, nat_tests, In, in_filter, in_from, is_row_of, Answer}
use Words.{entry, object, op_mode, uid_eq, uid_same, uids_of, first_conflict, is_against, last_uid, Row, Uid, Mode, Binding, End, Entry}
use Words.{Head, Op, Path, BoundReply, InvokedReply, actor, top_path}
use Words.{Copy, Pair, Served, Naming, Server, at_number, at_uid, server_rows, rows_in_copy, rows_in_named, list_any, mode_code, What}
use Words.{invoke_copy, put_number, reply, run_copy, row_for, tops_of, top_of, void, length, take, zero, suc, is_granted, rows_asked}
use Words.{◌+◌, grant_row, in_find, is_on, on_last, uid_is}
use Rattle.std.specs.Prelude.{IfSome, is_none}
use Words.ask
use Words.bound
use Words.invoked
use Words.mode
use Words.naming
use Words.server
use Rattle.arj_law_lock_view.proofs.{Terms.some_is, moments.Later.none_is}
use Rattle.arj_law_serial.proofs.Terms.{rows_on}
use Rattle.arj_lock.proofs.Leaves.{grant_clear}
use Rattle.arj_law_parts.proofs.parts.Begun.{on_own, path_some}
use Rattle.arj_law_parts.proofs.parts.Stands.{asked_has}
use Rattle.arj_law_parts.specs.parts.Rows.{HasLock}
use Rattle.arj_law_runs.proofs.calls.CommitPlans.{any_in}
use Rattle.arj_law_lock_view.specs.moments.Made.{is_again, is_kept}
use Rattle.arj_model.specs.CauseAnswers.{has_lock, is_held, meets}
use Rattle.arj_model.specs.CauseSpans.{holds_in, same_mode}
use Rattle.arj_model.specs.Table.{table}
use Rattle.arj_journal.specs.declared.body.Line.{Line}
use Rattle.arj_protocol.proofs.Maps.{put_same}
use Rattle.arj_protocol.specs.Laws.{naming_rows}
use Rattle.arj_protocol.specs.Copy.{ask_copy}
use Rattle.arj_protocol.specs.Named as Named
use Rattle.arj_protocol.specs.Named.{Counted, Live, Made, bind_call, bind_made, bind_named, conflict_on, include_asked, live_above}
use Rattle.arj_protocol.specs.Named.{live_asked, made_above, make_asked}
use Rattle.arj_protocol.specs.Naming.{is_over, listed_entry, on_counted}
use Rattle.arj_protocol.specs.Server.{Kept, apply_ends, changed_by, has_ended, invoke_kept, invoke_new, invoke_now, is_below, on_copy}
use Rattle.arj_law_cause.proofs.rows.Holders.{one_passes}
use Rattle.arj_law_cause.specs.rows.Says.{entry_modes, meets_none}

-- what is asked meets this row, the first one against it
pub record Meets (path : List Uid) (o : Uid) (asked : Mode) (u : Uid) (held : Mode) (rows : List Row) : Type 0 where
  pub row : Row
  pub found : first_conflict path o asked rows ≡ Some row
  pub holder : last_uid (let r = row in r.holder) ≡ u
  pub mode : (let r = row in r.mode) ≡ held

-- ---- in the journal's table

-- who passes a test that a wider one has is found among those that pass the wider one
pub find_some : {A : Type 0} (p q : A → Bool) → ((a : A) → p a ≡ true → q a ≡ true) → (xs : List A) → find p xs ≡ find p (filter q xs)
find_some p q wider [] = refl
find_some p q wider (x ∷ xs) = by (p x) refl (q x) refl (find_some p q wider xs)
  where
    by : (b : Bool) → p x ≡ b → (c : Bool) → q x ≡ c → find p xs ≡ find p (filter q xs) →
        cond b (Some x) (find p xs) ≡ find p (cond c (x ∷ filter q xs) (filter q xs))
    by true is true also ih = λ i. cond (sym is i) (Some x) (find p (filter q xs))
    by true is false other ih = let no_way : true ≡ false = sym (wider x is) ∙ other in absurd (cc no_way)
    by false is true also ih = ih ∙ (λ i. cond (sym is i) (Some x) (find p (filter q xs)))
    by false is false other ih = ih

pub on_object : (path : List Uid) (o : Uid) (asked : Mode) (r : Row) → is_against path o asked r ≡ true → uid_eq r.object o ≡ true
on_object path o asked r is = (and_parts (uid_eq r.object o) _ is).0

pub meets_by : (n : ℕ) (path : List Uid) (o : Uid) (asked : Mode) (u : Uid) (held : Mode) (lines : List Line) (rows : List Row) →
    rows_on o (table n lines) ≡ rows → Meets path o asked u held rows → meets n path o asked u held lines ≡ true
meets_by n path o asked u held lines rows same m =
    ap (holds_in (is_held u held)) (find_some (is_against path o asked) (λ (r : Row). uid_eq r.object o) (on_object path o asked)
    (table n lines)
    ∙ ap (find (is_against path o asked)) same ∙ m.found) ∙ one
  where
    one : is_held u held m.row ≡ true
    one = (λ i. uid_eq (m.holder i) u && same_mode (m.mode i) held) ∙ (λ i. uid_same u i && eq-eqb (mode_code held) (mode_code held) refl i)

-- and where none stands against it there, none does here
pub free_by : (n : ℕ) (path : List Uid) (o : Uid) (asked : Mode) (lines : List Line) (rows : List Row) →
    rows_on o (table n lines) ≡ rows → first_conflict path o asked rows ≡ None → meets_none n path o asked lines ≡ true
free_by n path o asked lines rows same none =
    ap is_none (find_some (is_against path o asked) (λ (r : Row). uid_eq r.object o) (on_object path o asked) (table n lines)
    ∙ ap (find (is_against path o asked)) same ∙ none)

-- so is a lock of the action
pub lock_by : (n : ℕ) (u o : Uid) (asked : Mode) (lines : List Line) (rows : List Row) → rows_on o (table n lines) ≡ rows →
    HasLock u (mode_code asked) rows → has_lock n u o asked lines ≡ true
lock_by n u o asked lines rows same lock =
    let i = in_filter (λ (z : Row). uid_eq z.object o) lock.0 (table n lines) (subst (In lock.0) (sym same) (in_from lock.0 rows lock.1)) in
    any_in (λ (z : Row). is_row_of o u z && nat_le (mode_code asked) (mode_code z.mode)) lock.0 (table n lines) i.0
    (λ j. (i.1 j && owner j) && strong (mode_code asked) (mode_code (let r = lock.0 in r.mode)) lock.3 j)
  where
    owner : uid_eq (last_uid (let r = lock.0 in r.holder)) u ≡ true
    owner = ap (λ w. uid_eq w u) lock.2 ∙ uid_same u

    strong : (a b : ℕ) → a ≤ b → nat_le a b ≡ true
    strong a b le = grind (arith, nat_tests, le)

-- who is met isn't on the path that asks
pub off_met : (n : ℕ) (us : List Uid) (o : Uid) (asked : Mode) (u : Uid) (held : Mode) (lines : List Line) →
    meets n us o asked u held lines ≡ true →
    is_on us u ≡ false
off_met n us o asked u held lines is = by (first_conflict us o asked (table n lines)) refl is
  where
    turn : (b : Bool) → not b ≡ true → b ≡ false
    turn true no_way = absurd (cc no_way)
    turn false is = refl

    by : (f : Option Row) → first_conflict us o asked (table n lines) ≡ f → holds_in (is_held u held) f ≡ true → is_on us u ≡ false
    by None found none = absurd (cc none)
    by (Some r) found held_so =
        let p = and_parts (uid_eq (last_uid r.holder) u) (same_mode r.mode held) held_so in
        let i = in_find (is_against us o asked) r (table n lines) found in
        let a = and_parts (uid_eq r.object o) _ i.1 in
        let b = and_parts (not (is_on us (last_uid r.holder))) _ a.1 in
        ap (is_on us) (sym (uid_is (last_uid r.holder) u p.0)) ∙ turn (is_on us (last_uid r.holder)) b.0

pub off_any : (ws : List Mode) (us : List Uid) (o : Uid) (u : Uid) (held : Mode) (lines : List Line) →
    list_any (λ asked. meets 1 us o asked u held lines) ws ≡ true → is_on us u ≡ false
off_any ws us o u held lines is =
    let q = one_passes (λ asked. meets 1 us o asked u held lines) ws is in off_met 1 us o q.0 u held lines q.2

-- ---- a lock that is granted

-- the lock of an action on the path stands against nothing that the path asks
asked_clear : (path : List Uid) (o : Uid) (m : Mode) (new : Row) (rows : List Row) → is_on path (last_uid new.holder) ≡ true →
    first_conflict path o m rows ≡ None → first_conflict path o m (rows_asked new rows) ≡ None
asked_clear path o m new rows on free = by (is_granted new.object (last_uid new.holder) new.mode rows)
  where
    by : (b : Bool) → first_conflict path o m (cond b rows (grant_row new rows)) ≡ None
    by true = free
    by false = grant_clear path o m new rows on free

-- a top stands on the path down to it
top_own : (p : Path) → is_on (top_path p) (top_of p) ≡ true
top_own p = on_last (top_path p) (some_taken (tops_of p) (uids_of p) p.one_top (path_some p))
  where
    some_taken : (n : ℕ) (us : List Uid) → 1 ≤ n → 1 ≤ length us → 1 ≤ length (take n us)
    some_taken zero us one some = absurd (omega (arith, one))
    some_taken (suc n) [] one some = absurd (omega (arith, some))
    some_taken (suc n) (u ∷ us) one some = omega arith

-- ---- a server

module _ (n : ℕ) (h : Head) (x : ℕ) (ends : List (Uid × End)) (o : Op) (u : Uid) (held : Mode) where
  abbrev Answers : Served Server InvokedReply → Type 0
  Answers r = r.reply ≡ Some (invoked.Conflict u held) → Meets (uids_of h.path) (object x) (op_mode o) u held (server_rows x r.part)

  new_meets : (s : Server) → Answers (invoke_new n h x ends o s)
  new_meets s = by (at_number x t.objects) refl
    where
      t : Server
      t = (apply_ends n ends s).part

      copied : (c : Copy) (f : Option Row) → first_conflict (uids_of h.path) (object x) (op_mode o) c.rows ≡ f →
          (let r = ask_copy n h.path x o c f in r.reply ≡ Some (invoked.Conflict u held) →
          Meets (uids_of h.path) (object x) (op_mode o) u held (rows_in_copy (at_number x (put_number x r.part t.objects))))
      copied c None none is = let no_way : ◌≡◌ {A = InvokedReply} (invoked.Answered _) (invoked.Conflict u held) =
          some_is is in absurd (cc no_way)
      copied c (Some r) found is = record {
        row = r;
        found = ap (λ z. first_conflict (uids_of h.path) (object x) (op_mode o) (rows_in_copy z)) (put_same x c t.objects) ∙ found;
        holder = ap holder_in (some_is is);
        mode = ap mode_in (some_is is);
      }
        where
          holder_in : InvokedReply → Uid
          holder_in (invoked.Conflict w m) = w
          holder_in q = u

          mode_in : InvokedReply → Mode
          mode_in (invoked.Conflict w m) = m
          mode_in q = held

      by : (f : Option Copy) → at_number x t.objects ≡ f →
          (let r = on_copy x (invoke_copy n h.path x o) t f in r.reply ≡ Some (invoked.Conflict u held) →
          Meets (uids_of h.path) (object x) (op_mode o) u held (server_rows x (server.keeps (actor h.path) h.req r.reply r.part)))
      by None none is = let no_way : ◌≡◌ {A = InvokedReply} (invoked.Changed _) (invoked.Conflict u held) = some_is is in absurd (cc no_way)
      by (Some c) at is = kept (let r = invoke_copy n h.path x o c in r.reply)
          (copied c (first_conflict (uids_of h.path) (object x) (op_mode o) c.rows) refl is)
        where
          kept : (q : Option InvokedReply) → Meets (uids_of h.path) (object x) (op_mode o) u held
              (rows_in_copy (at_number x (put_number x (let r = invoke_copy n h.path x o c in r.part) t.objects))) →
              Meets (uids_of h.path) (object x) (op_mode o) u held (server_rows x (server.keeps (actor h.path) h.req q
              (record t { objects = put_number x (let r = invoke_copy n h.path x o c in r.part) t.objects })))
          kept None m = m
          kept (Some q) m = m

  pub invoke_meets : (b : Binding) (i : ℕ) (s : Server) → is_again h (ask.Invoke x b i ends o) s ≡ false →
      Answers (server.invoke n h x b i ends o s)
  invoke_meets b i s new = by (has_ended h.path s || is_below h.req (at_uid (actor h.path) s.kept))
    where
      void_none : {A : Type 0} → None ≡ Some (invoked.Conflict u held) → A
      void_none is = absurd (none_is is)

      kept : (f : Option Kept) → is_kept h.req f ≡ false → Answers (invoke_kept n h x ends o s f)
      kept None off is = new_meets s is
      kept (Some q) off is = one (q.req == h.req) off is
        where
          one : (c : Bool) → c ≡ false → Answers (cond {A = Served Server InvokedReply} c (reply s q.answer) (invoke_new n h x ends o s))
          one true e is = absurd (cc e)
          one false e is = new_meets s is

      now : (w : Option What) → (not (is_some w) && is_kept h.req (at_uid (actor h.path) s.kept)) ≡ false →
          Answers (invoke_now n h x ends o s w)
      now (Some w) off is = let no_way : ◌≡◌ {A = InvokedReply} (invoked.Changed w) (invoked.Conflict u held) =
          some_is is in absurd (cc no_way)
      now None off is = kept (at_uid (actor h.path) s.kept) off is

      by : (c : Bool) → Answers (cond {A = Served Server InvokedReply} c (void s) (invoke_now n h x ends o s (changed_by i x b s)))
      by true is = void_none is
      by false is = now (changed_by i x b s) new is

-- an operation that was run has its lock, and no other one stood against it
module _ (n : ℕ) (h : Head) (x : ℕ) (ends : List (Uid × End)) (o : Op) (a : Answer) where
  abbrev HasRun : List Row → Type 0
  HasRun rows = HasLock (actor h.path) (mode_code (op_mode o)) rows × (first_conflict (uids_of h.path) (object x) (op_mode o) rows ≡ None)

  abbrev Runs : Served Server InvokedReply → Type 0
  Runs r = r.reply ≡ Some (invoked.Answered a) → HasRun (server_rows x r.part)

  new_runs : (s : Server) → Runs (invoke_new n h x ends o s)
  new_runs s = by (at_number x t.objects)
    where
      t : Server
      t = (apply_ends n ends s).part

      copied : (c : Copy) (f : Option Row) → first_conflict (uids_of h.path) (object x) (op_mode o) c.rows ≡ f →
          (let r = ask_copy n h.path x o c f in r.reply ≡ Some (invoked.Answered a) →
          HasRun (rows_in_copy (at_number x (put_number x r.part t.objects))))
      copied c (Some r) found is = let no_way : ◌≡◌ {A = InvokedReply} (invoked.Conflict _ _) (invoked.Answered a) =
          some_is is in absurd (cc no_way)
      copied c None free is =
          let new : Row = row_for (object x) (uids_of h.path) (tops_of h.path) (op_mode o) in
          subst (λ z. HasRun (rows_in_copy z)) (sym (put_same x (let r = run_copy n h.path x o c in r.part) t.objects))
          (asked_has new c.rows, asked_clear (uids_of h.path) (object x) (op_mode o) new c.rows (on_own h.path) free)

      by : (f : Option Copy) → (let r = on_copy x (invoke_copy n h.path x o) t f in r.reply ≡ Some (invoked.Answered a) →
          HasRun (server_rows x (server.keeps (actor h.path) h.req r.reply r.part)))
      by None is = let no_way : ◌≡◌ {A = InvokedReply} (invoked.Changed _) (invoked.Answered a) = some_is is in absurd (cc no_way)
      by (Some c) is = kept (let r = invoke_copy n h.path x o c in r.reply)
          (copied c (first_conflict (uids_of h.path) (object x) (op_mode o) c.rows) refl is)
        where
          kept : (q : Option InvokedReply) →
              HasRun (rows_in_copy (at_number x (put_number x (let r = invoke_copy n h.path x o c in r.part) t.objects))) →
              HasRun (server_rows x (server.keeps (actor h.path) h.req q
              (record t { objects = put_number x (let r = invoke_copy n h.path x o c in r.part) t.objects })))
          kept None m = m
          kept (Some q) m = m

  pub invoke_runs : (b : Binding) (i : ℕ) (s : Server) → is_again h (ask.Invoke x b i ends o) s ≡ false →
      Runs (server.invoke n h x b i ends o s)
  invoke_runs b i s new = by (has_ended h.path s || is_below h.req (at_uid (actor h.path) s.kept))
    where
      void_none : {A : Type 0} → None ≡ Some (invoked.Answered a) → A
      void_none is = absurd (none_is is)

      kept : (f : Option Kept) → is_kept h.req f ≡ false → Runs (invoke_kept n h x ends o s f)
      kept None off is = new_runs s is
      kept (Some q) off is = one (q.req == h.req) off is
        where
          one : (c : Bool) → c ≡ false → Runs (cond {A = Served Server InvokedReply} c (reply s q.answer) (invoke_new n h x ends o s))
          one true e is = absurd (cc e)
          one false e is = new_runs s is

      now : (w : Option What) → (not (is_some w) && is_kept h.req (at_uid (actor h.path) s.kept)) ≡ false →
          Runs (invoke_now n h x ends o s w)
      now (Some w) off is = let no_way : ◌≡◌ {A = InvokedReply} (invoked.Changed w) (invoked.Answered a) =
          some_is is in absurd (cc no_way)
      now None off is = kept (at_uid (actor h.path) s.kept) off is

      by : (c : Bool) → Runs (cond {A = Served Server InvokedReply} c (void s) (invoke_now n h x ends o s (changed_by i x b s)))
      by true is = void_none is
      by false is = now (changed_by i x b s) new is

-- ---- naming

-- in one of the modes that may be asked for
abbrev pub MeetsEntry : Path → ℕ → Bool → Uid → Mode → List Row → Type 0
MeetsEntry p x include u held rows =
    (w : Mode) × (((test : Mode → Bool) → test w ≡ true → list_any test (entry_modes include) ≡ true) × Meets (top_path p)
    (entry x) w u held rows)

module _ (p : Path) (x : ℕ) (u : Uid) (held : Mode) where
  abbrev Binds : Bool → Served Counted BoundReply → Type 0
  Binds include r = r.reply ≡ Some (bound.Conflict u held) → MeetsEntry p x include u held (let c = r.part in (let o = c.named in o.rows))

  abbrev holder_in : BoundReply → Uid
  holder_in (bound.Conflict w m) = w
  holder_in q = u

  abbrev mode_in : BoundReply → Mode
  mode_in (bound.Conflict w m) = m
  mode_in q = held

  refused : (include : Bool) (w : Mode) → ((test : Mode → Bool) → test w ≡ true → list_any test (entry_modes include) ≡ true) →
      (c : Counted) (r : Row) →
      conflict_on x p w c.named ≡ Some r → Binds include (Named.refused_lock c r)
  refused include w among c r found is =
      (w, (among, record { row = r; found = found; holder = ap holder_in (some_is is); mode = ap mode_in (some_is is) }))

  none_so : {A : Type 0} (q : BoundReply) → (holder : BoundReply → Bool) → holder q ≡ false → holder (bound.Conflict u held) ≡ true →
      Some q ≡ Some (bound.Conflict u held) → A
  none_so q test off on is = let no_way : false ≡ true = sym off ∙ ap test (some_is is) ∙ on in absurd (cc no_way)

  abbrev is_conflict : BoundReply → Bool
  is_conflict (bound.Conflict w m) = true
  is_conflict q = false

  first_of : (b : Bool) (test : Mode → Bool) → test mode.Write ≡ true → list_any test (entry_modes b) ≡ true
  first_of true test is = λ i. is i || false
  first_of false test is = by (test mode.Read) is
    where
      by : (c : Bool) → test mode.Write ≡ true → (c || (test mode.Write || false)) ≡ true
      by true is = refl
      by false is = λ i. is i || false

  reads : (test : Mode → Bool) → test mode.Read ≡ true → list_any test (entry_modes false) ≡ true
  reads test is = λ i. is i || (test mode.Write || false)

  named_meets : (inc : ℕ) (include : Bool) (avoid : Binding) (e : Entry) (c : Counted) →
      Binds include (bind_named inc x p include avoid e c)
  named_meets inc true avoid e c = by (conflict_on x p mode.Write c.named) refl
    where
      by : (f : Option Row) → conflict_on x p mode.Write c.named ≡ f → Binds true (include_asked inc x p e c f)
      by None none is = none_so _ is_conflict refl refl is
      by (Some r) found is = refused true mode.Write (first_of true) c r found is
  named_meets inc false avoid e c = call (live_above avoid c.named.live)
    where
      live : (l : Live) (f : Option Row) → conflict_on x p mode.Read c.named ≡ f → Binds false (live_asked inc x p e c l f)
      live l None none is = none_so _ is_conflict refl refl is
      live l (Some r) found is = refused false mode.Read reads c r found is

      made : (m : Option Made) → Binds false (bind_made inc x p e c m)
      made None is = none_so _ is_conflict refl refl is
      made (Some m) is = none_so _ is_conflict refl refl is

      make : (f : Option Row) → conflict_on x p mode.Write c.named ≡ f → Binds false (make_asked inc x p avoid e c f)
      make None none is = made (made_above avoid (at_uid (top_of p) c.named.made)) is
      make (Some r) found is = refused false mode.Write (first_of false) c r found is

      call : (l : Option Live) → Binds false (bind_call inc x p avoid e c l)
      call (Some l) = live l (conflict_on x p mode.Read c.named) refl
      call None = make (conflict_on x p mode.Write c.named) refl

  pub bind_meets : (include : Bool) (avoid : Binding) (d : Pair) (o : Naming) →
      (naming.bind p x include avoid d o).reply ≡ Some (bound.Conflict u held) →
      MeetsEntry p x include u held (naming_rows x (naming.bind p x include avoid d o).part)
  bind_meets include avoid d o = by (is_over p o)
    where
      named : (f : Option Named.Named) → (let r = on_counted x (bind_named o.inc x p include avoid (listed_entry x d)) o f in
          r.reply ≡ Some (bound.Conflict u held) → MeetsEntry p x include u held (naming_rows x r.part))
      named None is = absurd (none_is is)
      named (Some z) is =
          let r = bind_named o.inc x p include avoid (listed_entry x d) (record { named = z; count = o.count }) in
          subst (λ f. MeetsEntry p x include u held (rows_in_named f)) (sym (put_same x (let c = r.part in c.named) o.objects))
          (named_meets o.inc include avoid (listed_entry x d) (record { named = z; count = o.count }) is)

      by : (b : Bool) → (let r = cond {A = Served Naming BoundReply} b (void o)
          (on_counted x (bind_named o.inc x p include avoid (listed_entry x d)) o (at_number x o.objects)) in
          r.reply ≡ Some (bound.Conflict u held) → MeetsEntry p x include u held (naming_rows x r.part))
      by true is = absurd (none_is is)
      by false is = named (at_number x o.objects) is

-- the answer lets an include go on, or makes a binding
abbrev pub is_write : BoundReply → Bool
is_write (bound.Write h ss) = true
is_write (bound.Make b s h ss) = true
is_write q = false

-- the mode in which an answer grants the entry
abbrev pub granted_mode : BoundReply → Option Mode
granted_mode (bound.Live b s i h ss) = Some mode.Read
granted_mode (bound.Make b s h ss) = Some mode.Write
granted_mode (bound.Write h ss) = Some mode.Write
granted_mode (bound.Conflict u m) = None

-- where an answer grants the entry no lock stands against that
module _ (p : Path) (x : ℕ) (q : BoundReply) where
  abbrev IsClear : BoundReply → List Row → Type 0
  IsClear z rows = IfSome (granted_mode z) (λ m. first_conflict (top_path p) (entry x) m rows ≡ None)

  abbrev Clears : Served Counted BoundReply → Type 0
  Clears r = r.reply ≡ Some q → IsClear q (let c = r.part in (let o = c.named in o.rows))

  -- an answer that is so
  its : (z : BoundReply) (rows : List Row) → IsClear z rows → Some z ≡ Some q → IsClear q rows
  its z rows clear is = subst (λ y. IsClear y rows) (some_is is) clear

  locked_clear : (m : Mode) (o : Named.Named) → conflict_on x p m o ≡ None →
      first_conflict (top_path p) (entry x) m (rows_asked (Named.entry_row x p m) o.rows) ≡ None
  locked_clear m o free = asked_clear (top_path p) (entry x) m (Named.entry_row x p m) o.rows (top_own p) free

  named_clears : (inc : ℕ) (include : Bool) (avoid : Binding) (e : Entry) (c : Counted) → Clears (bind_named inc x p include avoid e c)
  named_clears inc true avoid e c = by (conflict_on x p mode.Write c.named) refl
    where
      by : (r : Option Row) → conflict_on x p mode.Write c.named ≡ r → Clears (include_asked inc x p e c r)
      by None free is = its (bound.Write inc e.stores) (rows_asked (Named.entry_row x p mode.Write) (let o = c.named in o.rows))
          (locked_clear mode.Write c.named free) is
      by (Some r) found is = its (bound.Conflict (last_uid r.holder) r.mode) (let o = c.named in o.rows) tt is
  named_clears inc false avoid e c = call (live_above avoid c.named.live)
    where
      live : (l : Live) (f : Option Row) → conflict_on x p mode.Read c.named ≡ f → Clears (live_asked inc x p e c l f)
      live l None free is = its (bound.Live l.binding l.server l.inc inc e.stores)
          (rows_asked (Named.entry_row x p mode.Read) (let o = c.named in o.rows)) (locked_clear mode.Read c.named free) is
      live l (Some r) found is = its (bound.Conflict (last_uid r.holder) r.mode) (let o = c.named in o.rows) tt is

      made : (m : Option Made) → conflict_on x p mode.Write c.named ≡ None → Clears (bind_made inc x p e c m)
      made None free is = its
          (bound.Make (record { inc = inc; count = c.count + 1 }) (Named.next_server c.named.turn e.servers) inc e.stores)
          (rows_asked (Named.entry_row x p mode.Write) (let o = c.named in o.rows)) (locked_clear mode.Write c.named free) is
      made (Some m) free is = its (bound.Make m.binding m.server inc e.stores)
          (rows_asked (Named.entry_row x p mode.Write) (let o = c.named in o.rows)) (locked_clear mode.Write c.named free) is

      make : (f : Option Row) → conflict_on x p mode.Write c.named ≡ f → Clears (make_asked inc x p avoid e c f)
      make None free is = made (made_above avoid (at_uid (top_of p) c.named.made)) free is
      make (Some r) found is = its (bound.Conflict (last_uid r.holder) r.mode) (let o = c.named in o.rows) tt is

      call : (l : Option Live) → Clears (bind_call inc x p avoid e c l)
      call (Some l) = live l (conflict_on x p mode.Read c.named) refl
      call None = make (conflict_on x p mode.Write c.named) refl

  pub bind_clears : (include : Bool) (avoid : Binding) (d : Pair) (o : Naming) → (naming.bind p x include avoid d o).reply ≡ Some q →
      IsClear q (naming_rows x (naming.bind p x include avoid d o).part)
  bind_clears include avoid d o = by (is_over p o)
    where
      named : (f : Option Named.Named) → (let r = on_counted x (bind_named o.inc x p include avoid (listed_entry x d)) o f in
          r.reply ≡ Some q → IsClear q (naming_rows x r.part))
      named None is = absurd (none_is is)
      named (Some z) is =
          let r = bind_named o.inc x p include avoid (listed_entry x d) (record { named = z; count = o.count }) in
          subst (λ f. IsClear q (rows_in_named f)) (sym (put_same x (let c = r.part in c.named) o.objects))
          (named_clears o.inc include avoid (listed_entry x d) (record { named = z; count = o.count }) is)

      by : (b : Bool) → (let r = cond {A = Served Naming BoundReply} b (void o)
          (on_counted x (bind_named o.inc x p include avoid (listed_entry x d)) o (at_number x o.objects)) in
          r.reply ≡ Some q → IsClear q (naming_rows x r.part))
      by true is = absurd (none_is is)
      by false is = named (at_number x o.objects) is

-- an include goes on in its top's write lock, and a binding is made in it
module _ (p : Path) (x : ℕ) (q : BoundReply) where
  abbrev Writes : Served Counted BoundReply → Type 0
  Writes r = is_write q ≡ true → r.reply ≡ Some q → HasLock (top_of p) (mode_code mode.Write) (let c = r.part in (let o = c.named in o.rows))

  none_write : {A : Type 0} (z : BoundReply) → is_write z ≡ false → is_write q ≡ true → Some z ≡ Some q → A
  none_write z off on is = let no_way : false ≡ true = sym off ∙ ap is_write (some_is is) ∙ on in absurd (cc no_way)

  named_writes : (inc : ℕ) (include : Bool) (avoid : Binding) (e : Entry) (c : Counted) →
      Writes (bind_named inc x p include avoid e c)
  named_writes inc true avoid e c on = by (conflict_on x p mode.Write c.named) on
    where
      by : (r : Option Row) → Writes (include_asked inc x p e c r)
      by None on is = asked_has (row_for (entry x) (top_path p) (tops_of p) mode.Write) (let o = c.named in o.rows)
      by (Some r) on is = none_write (bound.Conflict (last_uid r.holder) r.mode) refl on is
  named_writes inc false avoid e c on = call (live_above avoid c.named.live) on
    where
      live : (l : Live) (f : Option Row) → Writes (live_asked inc x p e c l f)
      live l None on is = none_write _ refl on is
      live l (Some r) on is = none_write _ refl on is

      made : (m : Option Made) → Writes (bind_made inc x p e c m)
      made None on is = asked_has (row_for (entry x) (top_path p) (tops_of p) mode.Write) (let o = c.named in o.rows)
      made (Some m) on is = asked_has (row_for (entry x) (top_path p) (tops_of p) mode.Write) (let o = c.named in o.rows)

      make : (f : Option Row) → Writes (make_asked inc x p avoid e c f)
      make None on is = made (made_above avoid (at_uid (top_of p) c.named.made)) on is
      make (Some r) on is = none_write _ refl on is

      call : (l : Option Live) → Writes (bind_call inc x p avoid e c l)
      call (Some l) = live l (conflict_on x p mode.Read c.named)
      call None = make (conflict_on x p mode.Write c.named)

  pub bind_writes : (include : Bool) (avoid : Binding) (d : Pair) (o : Naming) → is_write q ≡ true →
      (naming.bind p x include avoid d o).reply ≡ Some q →
      HasLock (top_of p) (mode_code mode.Write) (naming_rows x (naming.bind p x include avoid d o).part)
  bind_writes include avoid d o on = by (is_over p o)
    where
      named : (f : Option Named.Named) → (let r = on_counted x (bind_named o.inc x p include avoid (listed_entry x d)) o f in
          r.reply ≡ Some q → HasLock (top_of p) (mode_code mode.Write) (naming_rows x r.part))
      named None is = absurd (none_is is)
      named (Some z) is =
          let r = bind_named o.inc x p include avoid (listed_entry x d) (record { named = z; count = o.count }) in
          subst (λ f. HasLock (top_of p) (mode_code mode.Write) (rows_in_named f)) (sym (put_same x (let c = r.part in c.named) o.objects))
          (named_writes o.inc include avoid (listed_entry x d) (record { named = z; count = o.count }) on is)

      by : (b : Bool) → (let r = cond {A = Served Naming BoundReply} b (void o)
          (on_counted x (bind_named o.inc x p include avoid (listed_entry x d)) o (at_number x o.objects)) in
          r.reply ≡ Some q → HasLock (top_of p) (mode_code mode.Write) (naming_rows x r.part))
      by true is = absurd (none_is is)
      by false is = named (at_number x o.objects) is
