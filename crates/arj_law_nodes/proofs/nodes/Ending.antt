-- A line outside of events takes nothing of what a run shows.
use Rattle.arj_law_parts.proofs.Words
use Words.{◌≡◌, ◌⊎◌, inl, inr, ⊎_elim, ◌<◌, ◌≤◌, ◌++◌, ◌==◌, ◌&&◌, nat_lt, ℕ, zero, suc, Bool, true, false, cond, not, List, [], ◌∷◌}
use Words.{Option, Some, None, map, length, refl, sym, ◌∙◌, ap, subst, append-nil, filter, Contains, take, append_assoc, journal_by}
use Words.{AllByRecursion, filter_map, list_all, list_any, Row, is_on, last_uid, state_bytes, entry, object, uid_eq, ObjectState, Uid, Body}
use Words.{Header, Line, IsSerialBy, ShowsOneOutcome, each_behind, is_write, writes, Event, HoldAllStates, HoldsEach, IsWrittenIn}
use Words.{caller_at, is_number, joins_top, joins_with, locks_call, locks_entry, writes_entry, lines_before, uid_of, DiskTakesOut}
use Words.{HasPrepared, ◌+◌}
use Words.class
use Words.body
use Rattle.arj_law_nodes.proofs.Terms
use Terms.{CleanFrom, Disks, first_values, KeepsTheBook, Task, EndsBehind, IsLast, ends_run, EndsIdle, ShowsThePromise, Reads, readings_of}
use Terms.disk
use Rattle.arj_law.proofs.{Common.all_map, Reading.quiet_calls, Reading.quiet_serial, Reading.quiet_tops, Reading.read_none}
use Rattle.arj_law.specs.Growth.{is_quiet, more}
use Rattle.arj_law_nodes.specs.nodes.Promised.{PromisesStay, marks_of, run_of_task}
use Rattle.arj_model.proofs.Read.{acts-append}
use Rattle.arj_model.specs.Actions.{Act, Placed, acts, acts_after, committed, committed_of, is_committed, recovered, recovered_of, top_in}
use Rattle.arj_model.specs.Actions.{chain_in, has_end, root_in}
use Rattle.arj_model.specs.Book.{IsAnsweredBy, OfEachTwo, is_conflict}
use Rattle.arj_model.specs.Calls.{Call, Top, committed_calls, said, said_of, tops}
use Rattle.arj_model.specs.Disks.{Reading}
use Rattle.arj_model.specs.Held.{IsHeldAt, holder_root, locks_for, root_of_call, tables_of, unit_end}
use Rattle.arj_model.specs.Last.{changer_from, changers, entry_from, entry_payload, excluded, excluded_of, included, included_of}
use Rattle.arj_model.specs.Last.{increasing, is_among}
use Rattle.arj_model.specs.Last.{joins_by, joins_of, last_from, leaves_of, listed, listed_after, listed_from, object_line}
use Rattle.arj_model.specs.Last.{same_list, serial_tops, servers_of_line, state_after, stores_of_line, uid_of_id, Inclusion}
use Rattle.arj_start.specs.Start.{Marks, format_at}
use Rattle.arj_promise.specs.{Excluded.DisksAreInTimeFrom}
use Rattle.arj_model.specs.Nested.{IsFreedFor, commit_place, nested_less}
use Rattle.arj_model.specs.Outcome.{has_cause_to_abort, is_behind_decision, is_said}
use Rattle.arj_model.specs.Serial.{Answers, Values, arrange, lex, run, serial_calls, serial_key, serial_less, root_of, top_place}
use Rattle.arj_model.specs.Serial.{unit_place, writes_on}
use Rattle.arj_model.specs.Table.{table_from, table_step, up_step, path_by}
use Rattle.arj_disk.specs.declared.slot.Role.TheVariants as role

-- ---- what is read of the line

ends_quiet : (b : Body) → ends_run b ≡ true → is_quiet b ≡ true
ends_quiet (body.Ok l x op answer) is = absurd (cc is)
ends_quiet (body.Committing l) is = absurd (cc is)
ends_quiet (body.Committed l) is = absurd (cc is)
ends_quiet (body.Recovered n u) is = absurd (cc is)
ends_quiet b is = refl

ends_committed : (us : List Act) (b : Body) → ends_run b ≡ true → committed_of us b ≡ None
ends_committed us (body.Committed l) is = absurd (cc is)
ends_committed us b is = refl

ends_recovered : (us : List Act) (b : Body) → ends_run b ≡ true → recovered_of us b ≡ None
ends_recovered us (body.Recovered n u) is = absurd (cc is)
ends_recovered us b is = refl

ends_said : (us : List Act) (b : Body) → ends_run b ≡ true → said_of us b ≡ None
ends_said us (body.Ok l x op answer) is = absurd (cc is)
ends_said us b is = refl

ends_excluded : (us : List Act) (b : Body) → ends_run b ≡ true → excluded_of us b ≡ None
ends_excluded us (body.Excluded l x n) is = absurd (cc is)
ends_excluded us b is = refl

ends_included : (us : List Act) (b : Body) → ends_run b ≡ true → included_of us b ≡ None
ends_included us (body.Includes l x n) is = absurd (cc is)
ends_included us b is = refl

ends_acts : (us : List Act) (b : Body) → ends_run b ≡ true → acts_after us b ≡ us
ends_acts us (body.Began l k u p) is = absurd (cc is)
ends_acts us b is = refl

ends_behind : (before : List Line) (b : Body) → ends_run b ≡ true → is_behind_decision before b ≡ true
ends_behind before (body.Bad n) is = refl
ends_behind before (body.Limit w) is = refl
ends_behind before b is = absurd (cc is)

ends_cause : (before : List Line) (b : Body) → ends_run b ≡ true → has_cause_to_abort before b ≡ true
ends_cause before (body.Bad n) is = refl
ends_cause before (body.Limit w) is = refl
ends_cause before b is = absurd (cc is)

ends_table : (n : ℕ) (us : List Act) (up e : ℕ) (b : Body) (rows : List Row) → ends_run b ≡ true → table_step n us up e b rows ≡ rows
ends_table n us up e (body.Bad k) rows is = refl
ends_table n us up e (body.Limit w) rows is = refl
ends_table n us up e b rows is = absurd (cc is)

-- a table is the same behind the line, and before it
table_more : (n : ℕ) (us : List Act) (up : ℕ) (rows : List Row) (p : ℕ) (lines : List Line) (l : Line) → ends_run l.body ≡ true →
    table_from n us up rows (take p (more lines l)) ≡ table_from n us up rows (take p lines)
table_more n us up rows zero [] l is = refl
table_more n us up rows zero (k ∷ lines) l is = refl
table_more n us up rows (suc zero) [] l is = ends_table n us up l.event l.body rows is
table_more n us up rows (suc (suc p)) [] l is = ends_table n us up l.event l.body rows is
table_more n us up rows (suc p) (k ∷ lines) l is =
    table_more n (acts_after us k.body) (up_step n k.event k.body up) (table_step n us up k.event k.body rows) p lines l is

-- a test of each line holds of the line too
each_more : (test : List Line → Body → Bool) → ((before : List Line) (b : Body) → ends_run b ≡ true → test before b ≡ true) →
    (before lines : List Line) (l : Line) → ends_run l.body ≡ true → each_behind test before (more lines l) ≡ each_behind test before lines
each_more test passes before [] l is = ap (λ b. b && true) (passes before l.body is)
each_more test passes before (k ∷ lines) l is = ap (λ b. test before k.body && b) (each_more test passes (before ++ k ∷ []) lines l is)

-- among the lines of earlier events the line is the last one, if any
cut_more : (e : ℕ) (lines : List Line) (l : Line) →
    (lines_before e (more lines l) ≡ lines_before e lines) ⊎ (lines_before e (more lines l) ≡ more (lines_before e lines) l)
cut_more e [] l = by (nat_lt l.event e)
  where
    by : (b : Bool) → (cond b (l ∷ []) [] ≡ []) ⊎ (cond b (l ∷ []) [] ≡ l ∷ [])
    by true = inr refl
    by false = inl refl
cut_more e (k ∷ lines) l = by (nat_lt k.event e) (cut_more e lines l)
  where
    by : (b : Bool) →
        (lines_before e (more lines l) ≡ lines_before e lines) ⊎ (lines_before e (more lines l) ≡ more (lines_before e lines) l)
        → (cond b (k ∷ lines_before e (more lines l)) [] ≡ cond b (k ∷ lines_before e lines) [])
        ⊎ (cond b (k ∷ lines_before e (more lines l)) [] ≡ more (cond b (k ∷ lines_before e lines) []) l)
    by true cut = ⊎_elim (λ same. inl (ap (λ ks. k ∷ ks) same)) (λ one. inr (ap (λ ks. k ∷ ks) one)) cut
    by false cut = inl refl

-- what holds of each line, and of one more
one_more : (P : Line → Type 0) (lines : List Line) (l : Line) → AllByRecursion P lines → P l → AllByRecursion P (lines ++ l ∷ [])
one_more P [] l all its = (its, tt)
one_more P (k ∷ lines) l all its = (all.0, one_more P lines l all.1 its)

-- lists that end alike have like fronts
pub one_behind : {A : Type 0} (xs ys : List A) (x y : A) → xs ++ x ∷ [] ≡ ys ++ y ∷ [] → (xs ≡ ys) × (x ≡ y)
one_behind [] [] x y same = (refl, cc same)
one_behind [] (b ∷ []) x y same = absurd (cc same)
one_behind [] (b ∷ c ∷ ys) x y same = absurd (cc same)
one_behind (a ∷ []) [] x y same = absurd (cc same)
one_behind (a ∷ c ∷ xs) [] x y same = absurd (cc same)
one_behind (a ∷ xs) (b ∷ ys) x y same = let r = one_behind xs ys x y (cc same) in let first : a ≡ b = cc same in
    ((λ i. first i ∷ r.0 i), r.1)

pub two_behind : {A : Type 0} (xs : List A) (x y : A) → xs ++ x ∷ y ∷ [] ≡ (xs ++ x ∷ []) ++ y ∷ []
two_behind [] x y = refl
two_behind (a ∷ xs) x y = ap (λ zs. a ∷ zs) (two_behind xs x y)

module _ (lines : List Line) (l : Line) (is : ends_run l.body ≡ true) where
  acts_same : acts (more lines l) ≡ acts lines
  acts_same = acts-append [] lines l ∙ ends_acts (acts lines) l.body is

  commits_same : committed (more lines l) ≡ committed lines
  commits_same = read_none committed_of lines l (ends_committed (acts lines) l.body is)

  founds_same : recovered (more lines l) ≡ recovered lines
  founds_same = read_none recovered_of lines l (ends_recovered (acts lines) l.body is)

  answers_same : said (more lines l) ≡ said lines
  answers_same = read_none said_of lines l (ends_said (acts lines) l.body is)

-- who is said to be committed
said_same_of : (lines : List Line) (l : Line) → ends_run l.body ≡ true → (u : Uid) → is_said (more lines l) u ≡ is_said lines u
said_same_of lines l is u = (λ i. list_any
    (λ (a : Act). uid_eq a.uid u && is_committed (commits_same lines l is i) (founds_same lines l is i) a) (acts_same lines l is i))

module _ (lines : List Line) (l : Line) (is : ends_run l.body ≡ true) where
  excludes_same : excluded (more lines l) ≡ excluded lines
  excludes_same = read_none excluded_of lines l (ends_excluded (acts lines) l.body is)

  includes_same : included (more lines l) ≡ included lines
  includes_same = read_none included_of lines l (ends_included (acts lines) l.body is)

  calls_same : committed_calls (more lines l) ≡ committed_calls lines
  calls_same = quiet_calls lines l (ends_quiet l.body is)

  tops_same : tops (more lines l) ≡ tops lines
  tops_same = quiet_tops lines l (ends_quiet l.body is)

  serial_same : serial_calls (more lines l) ≡ serial_calls lines
  serial_same = quiet_serial lines l (ends_quiet l.body is)

  -- ---- the serial order, and the lock book

  serial_more : (hd : Header) → IsSerialBy hd lines → IsSerialBy hd (more lines l)
  serial_more hd s = (
    subst (Answers (first_values hd)) (sym serial_same) s.0,
    subst (Answers (first_values hd)) (λ i. arrange (nested_less (sym (commits_same lines l is) i)) (sym serial_same i)) s.1,
  )

  book_more : (values : Values) → KeepsTheBook values lines → KeepsTheBook values (more lines l)
  book_more values book = record {
    order = subst (λ (p : List Top × List Call). OfEachTwo (λ c d. c.at < d.at → (c.top == d.top) ≡ false → is_conflict c d ≡ true →
        serial_less p.0 c d ≡ true) p.1) (λ i. (sym tops_same i, sym calls_same i)) book.order;
    commits = subst (λ (p : List Top × List Call). OfEachTwo (λ c d. c.at < d.at → (c.top == d.top) ≡ false → is_conflict c d ≡ true →
        top_place p.0 c.top < d.at) p.1) (λ i. (sym tops_same i, sym calls_same i)) book.commits;
    answers = subst (λ (cs : List Call). AllByRecursion (IsAnsweredBy values cs) cs) (sym calls_same) book.answers;
    nested = subst (λ (p : List (Placed ℕ) × List Call). OfEachTwo (IsFreedFor p.0) p.1)
        (λ i. (sym (commits_same lines l is) i, sym calls_same i)) book.nested;
    times = subst (λ (p : List (Placed ℕ) × List Call). AllByRecursion (λ (c : Call).
        AllByRecursion (λ a. c.at < commit_place p.0 a) c.chain) p.1) (λ i. (sym (commits_same lines l is) i, sym calls_same i)) book.times;
  }

  -- ---- entries and states

  leaves_same : (id x : ℕ) → leaves_of (more lines l) id x ≡ leaves_of lines id x
  leaves_same id x = (λ i. map (λ e. e.it.node) (filter (λ e. (e.it.top == id) && (e.it.x == x)) (excludes_same i)))

  joins_same : (id x : ℕ) → joins_of (more lines l) id x ≡ joins_of lines id x
  joins_same id x = (λ i. filter_map (λ k. joins_by (commits_same lines l is i) id x k (top_in k.it.path)) (includes_same i))

  after_same : (x : ℕ) (stores : List ℕ) (t : Top) → listed_after (more lines l) x stores t ≡ listed_after lines x stores t
  after_same x stores t = (λ i. filter (λ s. not (is_among (leaves_same t.id x i) s)) stores
      ++ increasing (filter (λ s. not (is_among (leaves_same t.id x i) s)) (joins_same t.id x i)))

  from_same : (x : ℕ) (stores : List ℕ) (ts : List Top) → listed_from (more lines l) x stores ts ≡ listed_from lines x stores ts
  from_same x stores [] = refl
  from_same x stores (t ∷ ts) =
      from_same x (listed_after (more lines l) x stores t) ts ∙ (λ i. listed_from lines x (after_same x stores t i) ts)

  changers_same : (x : ℕ) (stores : List ℕ) (ts : List Top) → changers (more lines l) x stores ts ≡ changers lines x stores ts
  changers_same x stores [] = refl
  changers_same x stores (t ∷ ts) =
      let one = changers_same x stores ts in
      let other = changers_same x (listed_after (more lines l) x stores t) ts ∙ (λ i. changers lines x (after_same x stores t i) ts) in
      (λ i. cond (same_list (after_same x stores t i) stores) (one i) (t ∷ other i))

  order_same : serial_tops (more lines l) ≡ serial_tops lines
  order_same = (λ i. arrange (λ t u. lex (serial_key (tops_same i) t.id) (serial_key (tops_same i) u.id)) (tops_same i))

  listed_same : (hd : Header) (x : ℕ) → listed hd (more lines l) x ≡ listed hd lines x
  listed_same hd x = from_same x (stores_of_line (object_line hd x)) (serial_tops (more lines l))
      ∙ ap (listed_from lines x (stores_of_line (object_line hd x))) order_same

  entry_same : (hd : Header) (marks : Marks) (x : ℕ) → entry_from hd marks (more lines l) x ≡ entry_from hd marks lines x
  entry_same hd marks x =
      let mark = marks.entries x in
      let changed = changers_same x (stores_of_line (object_line hd x)) (serial_tops (more lines l))
      ∙ ap (changers lines x (stores_of_line (object_line hd x))) order_same in
      (λ i. record {
        uid = entry x;
        class = class.Entry;
        version = mark.version + length (changed i);
        writer = changer_from (acts_same lines l is i) mark.writer (changed i);
        payload = entry_payload (servers_of_line (object_line hd x)) (listed_same hd x i);
        format = format_at hd.format (mark.version + length (changed i));
      })

  last_same : (hd : Header) (marks : Marks) (x : ℕ) → last_from hd marks (more lines l) x ≡ last_from hd marks lines x
  last_same hd marks x =
      (λ i. state_after hd.format (marks.states x) x (run (first_values hd) (serial_same i) x) (filter (writes_on x) (serial_same i)))

  clean_more : (hd : Header) (marks : Marks) (disks : Disks) → CleanFrom hd marks lines disks → CleanFrom hd marks (more lines l) disks
  clean_more hd marks disks clean = record {
    entries = λ x there free. clean.entries x there free ∙ (λ i. Some (state_bytes (sym (entry_same hd marks x) i)));
    stores = λ x s among entry free. clean.stores x s ((λ i. is_among (sym (listed_same hd x) i) s) ∙ among) entry free
        ∙ (λ i. Some (state_bytes (sym (last_same hd marks x) i)));
  }

  -- ---- locks

  root_same : (c : Call) → root_of_call (more lines l) c ≡ root_of_call lines c
  root_same c = (λ i. root_of (tops_same i) c.top)

  end_same : (c : Call) → unit_end (more lines l) c ≡ unit_end lines c
  end_same c = (λ i. unit_place (tops_same i) (root_same c i))

  locks_same : (c : Call) (row : Row) → locks_for (more lines l) c row ≡ locks_for lines c row
  locks_same c row = (λ i. uid_eq row.object (object c.x)
      && (uid_eq (holder_root row) (uid_of_id (acts_same lines l is i) (root_same c i)) && cond (writes c.op) (is_write row.mode) true))

  callers_same : (c : Call) (row : Row) → locks_call (more lines l) c row ≡ locks_call lines c row
  callers_same c row = (λ i. locks_same c row i && is_on (caller_at c.at (answers_same lines l is i)) (last_uid row.holder))

  rows_same : (n p : ℕ) → tables_of (more lines l) n p ≡ tables_of lines n p
  rows_same n p = table_more n [] 0 [] p lines l is

  held_more : (n : ℕ) (c : Call) → IsHeldAt lines (tables_of lines) n c → IsHeldAt (more lines l) (tables_of (more lines l)) n c
  held_more n c h = record {
    answered = subst (λ e. c.at < e) (sym (end_same c)) h.answered;
    locked = λ p behind le. (λ i. list_any (λ row. locks_same c row i) (rows_same n p i))
        ∙ h.locked p behind (subst (λ e. p ≤ e) (end_same c) le);
  }

  callers_more : (n : ℕ) (c : Call) →
      ((p : ℕ) → c.at < p → p ≤ unit_end lines c → list_any (locks_call lines c) (tables_of lines n p) ≡ true) → (p : ℕ) → c.at < p →
      p ≤ unit_end (more lines l) c → list_any (locks_call (more lines l) c) (tables_of (more lines l) n p) ≡ true
  callers_more n c h p behind le =
      (λ i. list_any (λ row. callers_same c row i) (rows_same n p i)) ∙ h p behind (subst (λ e. p ≤ e) (end_same c) le)

  -- entries that are locked for
  entries_same : (c : Call) (row : Row) → locks_entry (more lines l) c row ≡ locks_entry lines c row
  entries_same c row = (λ i. uid_eq row.object (entry c.x) && (is_number (root_in (path_by (acts_same lines l is i) (last_uid row.holder)))
      (root_same c i) && (length (chain_in (path_by (acts_same lines l is i) (last_uid row.holder))) == 0)))

  entries_more : (c : Call) → ((p : ℕ) → c.at < p → p ≤ unit_end lines c → list_any (locks_entry lines c) (tables_of lines 1 p) ≡ true) →
      (p : ℕ) → c.at < p → p ≤ unit_end (more lines l) c → list_any (locks_entry (more lines l) c) (tables_of (more lines l) 1 p) ≡ true
  entries_more c h p behind le =
      (λ i. list_any (λ row. entries_same c row i) (rows_same 1 p i)) ∙ h p behind (subst (λ e. p ≤ e) (end_same c) le)

  -- includes
  joined_same : (u : Top) (i : Placed Inclusion) (o : Option Act) → joins_top (more lines l) u i o ≡ joins_top lines u i o
  joined_same u i None = refl
  joined_same u i (Some a) = (λ k. (a.id == u.id) && list_all (λ (b : Act). has_end (commits_same lines l is k) b.id) (chain_in i.it.path))

  joining_same : (u : Top) → joins_with (more lines l) u ≡ joins_with lines u
  joining_same u = (λ k. filter (λ i. joined_same u i (top_in i.it.path) k) (includes_same k))

  writes_same : (x root : ℕ) (row : Row) → writes_entry (more lines l) x root row ≡ writes_entry lines x root row
  writes_same x root row = (λ i. uid_eq row.object (entry x) && ((is_number (root_in (path_by (acts_same lines l is i) (last_uid
      row.holder))) root && (length (chain_in (path_by (acts_same lines l is i) (last_uid row.holder))) == 0)) && is_write row.mode))

  abbrev WrittenAt : List Line → Top → Placed Inclusion → Type 0
  WrittenAt ls u i = (p : ℕ) → i.at < p → p ≤ unit_place (tops ls) u.root → IsWrittenIn ls (tables_of ls 1 p) u i.it.x

  written_more : (u : Top) (i : Placed Inclusion) → WrittenAt lines u i → WrittenAt (more lines l) u i
  written_more u i h p behind le = (λ k. list_any (λ row. writes_same i.it.x u.root row k) (rows_same 1 p k))
      ∙ h p behind (subst (λ ts. p ≤ unit_place ts u.root) tops_same le)

  holds_more : HoldsEach lines → HoldsEach (more lines l)
  holds_more h =
      let node = h.node in record {
        node = node;
        held = subst (AllByRecursion (λ c. IsHeldAt (more lines l) (tables_of (more lines l)) (node c) c)) (sym calls_same)
            (all_map (λ c. IsHeldAt lines (tables_of lines) (node c) c) (λ c. IsHeldAt (more lines l) (tables_of (more lines l)) (node c) c)
            (λ c held. held_more (node c) c held) (committed_calls lines) h.held);
        callers = subst (AllByRecursion (λ (c : Call). (p : ℕ) → c.at < p → p ≤ unit_end (more lines l) c →
            list_any (locks_call (more lines l) c) (tables_of (more lines l) (node c) p) ≡ true)) (sym calls_same)
            (all_map (λ (c : Call). (p : ℕ) → c.at < p → p ≤ unit_end lines c →
            list_any (locks_call lines c) (tables_of lines (node c) p) ≡ true)
            (λ (c : Call). (p : ℕ) → c.at < p → p ≤ unit_end (more lines l) c →
            list_any (locks_call (more lines l) c) (tables_of (more lines l) (node c) p) ≡ true)
            (λ c held. callers_more (node c) c held) (committed_calls lines) h.callers);
        entries = subst (AllByRecursion (λ (c : Call). (p : ℕ) → c.at < p → p ≤ unit_end (more lines l) c →
            list_any (locks_entry (more lines l) c) (tables_of (more lines l) 1 p) ≡ true)) (sym calls_same)
            (all_map (λ (c : Call). (p : ℕ) → c.at < p → p ≤ unit_end lines c → list_any (locks_entry lines c) (tables_of lines 1 p) ≡ true)
            (λ (c : Call). (p : ℕ) → c.at < p → p ≤ unit_end (more lines l) c →
            list_any (locks_entry (more lines l) c) (tables_of (more lines l) 1 p) ≡ true)
            entries_more (committed_calls lines) h.entries);
        includes =
            subst (AllByRecursion (λ (u : Top). AllByRecursion (WrittenAt (more lines l) u) (joins_with (more lines l) u))) (sym tops_same)
            (all_map (λ (u : Top). AllByRecursion (WrittenAt lines u) (joins_with lines u))
            (λ (u : Top). AllByRecursion (WrittenAt (more lines l) u) (joins_with (more lines l) u))
            (λ u all. subst (AllByRecursion (WrittenAt (more lines l) u)) (sym (joining_same u)) (all_map (WrittenAt lines u)
            (WrittenAt (more lines l) u) (written_more u) (joins_with lines u) all)) (tops lines) h.includes);
        at_one = subst (λ (p : List Top × List Call). OfEachTwo (λ c d. (root_of p.0 c.top == root_of p.0 d.top) ≡ false → c.x ≡ d.x → c.at
            < d.at → d.at < unit_place p.0 (root_of p.0 c.top) → node c ≡ node d) p.1) (λ i. (sym tops_same i, sym calls_same i)) h.at_one;
      }

  -- ---- excluded in time

  uid_same : (t : Top) → uid_of (more lines l) t ≡ uid_of lines t
  uid_same t = (λ i. uid_of_id (acts_same lines l is i) t.id)

  takes_more : (x : ℕ) (read : Reading) (t : Top) (s : ℕ) → DiskTakesOut lines x read t s → DiskTakesOut (more lines l) x read t s
  takes_more x read t s o = record {
    by_top = o.by_top;
    committed = subst (λ ts. Contains ts o.by_top) (sym tops_same) o.committed;
    unit = o.unit;
    new = o.new;
    form = o.form;
    of = o.of;
    prepared = subst (λ u. HasPrepared read role.Names u o.new) (sym (uid_same o.by_top)) o.prepared;
    lacks = o.lacks;
  }

  time_more : (hd : Header) (marks : Marks) (e : ℕ) (disks : Disks) → DisksAreInTimeFrom hd marks e lines disks →
      DisksAreInTimeFrom hd marks e (more lines l) disks
  time_more hd marks e disks in_time t x s new wrote lists =
      ⊎_elim (λ holds. inl (holds ∙ (λ i. Some (state_bytes (sym (last_same hd marks x) i)))))
      (λ other. inr (⊎_elim (λ prepared. inl (subst (λ (p : Uid × ObjectState). HasPrepared (disks s) role.Store p.0 p.1)
      (λ i. (sym (uid_same t) i, sym (last_same hd marks x) i)) prepared)) (λ out. inr (takes_more x (disks 1) t s out)) other))
      (in_time t x s (subst (λ ts. Contains ts t) tops_same new.0, before)
      (wrote.0, subst (λ cs. Contains cs wrote.0) calls_same wrote.1, wrote.2, wrote.3) lists)
    where
      was : is_said (lines_before e (more lines l)) (uid_of lines t) ≡ false
      was = (λ i. is_said (lines_before e (more lines l)) (sym (uid_same t) i)) ∙ new.1

      before : is_said (lines_before e lines) (uid_of lines t) ≡ false
      before = ⊎_elim (λ same. (λ i. is_said (sym same i) (uid_of lines t)) ∙ was) (λ one. sym (said_same_of (lines_before e lines) l is
          (uid_of lines t)) ∙ ((λ i. is_said (sym one i) (uid_of lines t)) ∙ was)) (cut_more e lines l)

  outcome_more : ShowsOneOutcome lines → ShowsOneOutcome (more lines l)
  outcome_more o = record {
    commits = each_more is_behind_decision ends_behind [] lines l is ∙ o.commits;
    aborts = each_more has_cause_to_abort ends_cause [] lines l is ∙ o.aborts;
  }

  -- ---- at rest

  rest_more : (hd : Header) (marks : Marks) (disks : Disks) → HoldAllStates hd marks lines disks →
      HoldAllStates hd marks (more lines l) disks
  rest_more hd marks disks held = record {
    entries = λ x there. held.entries x there ∙ (λ i. Some (state_bytes (sym (entry_same hd marks x) i)));
    stores = λ x s among. held.stores x s ((λ i. is_among (sym (listed_same hd x) i) s) ∙ among)
        ∙ (λ i. Some (state_bytes (sym (last_same hd marks x) i)));
    nothing = held.nothing;
  }

  -- whoever says that every node is idle says it before the line
  idle_before : (events : List Event) → EndsIdle events (more lines l) → EndsIdle events lines
  idle_before events e = by e.last e.outside e.line
    where
      by : (last : List Line) → IsLast last → more lines l ≡ e.front ++ record { event = e.number; body = body.Quiet true } ∷ last →
          EndsIdle events lines
      by [] out same = let m : l ≡ record { event = e.number; body = body.Quiet true } =
          (one_behind lines e.front l (record { event = e.number; body = body.Quiet true }) same).1 in
          absurd (let no : true ≡ false = sym is ∙ ap (λ (z : Line). ends_run z.body) m in cc)
      by (k ∷ []) out same = record {
        before = e.before;
        are = e.are;
        front = e.front;
        number = e.number;
        last = [];
        outside = tt;
        line = (one_behind lines (e.front ++ record { event = e.number; body = body.Quiet true } ∷ []) l k
            (same ∙ two_behind e.front (record { event = e.number; body = body.Quiet true }) k)).0;
      }
      by (k ∷ m ∷ ks) out same = absurd out

  promise_more : {D : Type 0} (d : disk.Ghosts D) (read : Reads) (t : Task D) (over : Bool) (rack : List D) →
      ShowsThePromise d read t over lines rack → ShowsThePromise d read t over (more lines l) rack
  promise_more d read t over rack shows = record {
    run = let r = shows.run in record {
      formed = r.formed;
      moves = r.moves;
      are = r.are;
      form = r.form;
      last = more r.last l;
      outside = one_more (λ (k : Line). ends_run k.body ≡ true) r.last l r.outside is;
      lines = ap (λ ls. ls ++ l ∷ []) r.lines ∙ append_assoc (journal_by t.header (run_of_task t r.formed r.moves)) r.last (l ∷ []);
      disks = r.disks;
    };
    serial = serial_more t.header shows.serial;
    book = book_more (first_values t.header) shows.book;
    held = holds_more shows.held;
    outcome = outcome_more shows.outcome;
    clean = clean_more t.header (marks_of t) (readings_of d read rack) shows.clean;
    in_time = time_more t.header (marks_of t) (length t.events) (readings_of d read rack) shows.in_time;
    rest = λ going idle. rest_more t.header (marks_of t) (readings_of d read rack) (shows.rest going (idle_before t.events idle));
  }

-- what holds of a journal, and of one with such a line more, holds of one that ends so
ends_so : (P : List Line → Type 0) → ((lines : List Line) (l : Line) → ends_run l.body ≡ true → P lines → P (more lines l)) →
    (core journal : List Line) → EndsBehind core journal → P core → P journal
ends_so P one core journal (last, is, are) p = subst P (sym are) (by last is)
  where
    by : (last : List Line) → IsLast last → P (core ++ last)
    by [] is = subst P (sym (append-nil core)) p
    by (l ∷ []) is = one core l is p
    by (l ∷ m ∷ ls) is = absurd is

pub promises_stay : {D : Type 0} (d : disk.Ghosts D) → PromisesStay d
promises_stay d read t over core journal rack ends shows = ends_so (λ ls. ShowsThePromise d read t over ls rack)
    (λ lines l is p. promise_more lines l is d read t over rack p) core journal ends shows
