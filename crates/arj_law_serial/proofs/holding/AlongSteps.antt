-- Each handler leaves the object's machine seen at each place of the journal, from the beginning of an event on.
use Rattle.arj_law_parts.proofs.Words
use Words.{◌≡◌, ◌∙◌, ◌==◌, ◌++◌, ◌+◌, ℕ, List, [], ◌∷◌, Bool, true, false, Option, Some, None, inl, refl, sym, ap, subst, arith, length}
use Words.{append_assoc, length-append, eqb-true, ⊤, ◌≤◌, if◌then◌else◌, AllByRecursion, list_all, and_parts, Row, entry, object, Body}
use Words.{Header, Line, Disk, Do, Effect, Look, PutInc, Say, Send, stopped, server_rows, Parts, AreAll, is_coord_effect, Node, parts_in}
use Words.{restart_outs, numbered, Seen}
use Words.body
use Rattle.arj_law_serial.proofs.Terms
use Terms.{Marks}
use Terms.{table, Action, at, down, said, up, Up, Walks, halted, walks_both, walks_to, State, Fixed, SayOf, entry_locks_in, locks_in}
use Terms.{memory_of, named_locks, rows_on, up_of}
use Terms.part
use Rattle.arj_law_serial.proofs.holding
use holding.{Calling.answers_call, Keeping.Shown, Marks.Guard, Marks.guard_less, Names.names_in, Points.quiet_answers, Points.quiet_commits}
use holding.{Running.behind_three, Running.restart_of, Says.All, Says.says, Sorts.is_of}
use holding.Lines.{itself, never, since_last, ups_on}
use holding.OnLines.{AreSuch, IsOldOrNew, Onward, Still, Stop, Trace, end_onward, end_unanswered, next_onward, stop_onward, stop_unanswered}
use holding.OnLines.{such_quiet}
use holding.Traces.{Rem, Rows, Stopped, Traced, Traces, rem_both, rem_coord, stopped_from, trace_walk, traces_first}
use Rattle.arj_law_serial.proofs.whole.CalledSays.{calls_commit}

-- two walks, and what they give together
pub together : (F S A : Seen → Type 0) (T : Seen → Type 0) (e k : ℕ) (outs : List Effect) (v : Parts) (d : Disk) (N : Seen) →
    ((L : Seen) → F L → S L → A L) → ((c : Disk) (L : Seen) → F (up k c v L) → T L → A (up k c v L)) → Walks F e k outs (Up F k v) d N →
    Walks S e k outs (λ c L. T L) d N → Walks A e k outs (Up A k v) d N
together F S A T e k outs v d N stop end one two = walks_to (λ L. F L × S L) A e k outs (λ c L. Up F k v c L × T L) (Up A k v) d N
    (λ L h. stop L h.0 h.1) (λ c L h. end c L h.0 h.1) (walks_both F S e k outs (Up F k v) (λ c L. T L) d N one two)

module _ (Apt : Marks → Fixed → Type 0) (x : ℕ) (R : Fixed → List Action → State → Seen →
    Type 0) (first event : ℕ) (M : Seen) (e k : ℕ) (d : Disk) (t v : Parts) (outs : List Effect) (showing : Shown first event (up k d t M))
    (N : Seen) (same_lines : N.lines ≡ M.lines) (same_nodes : N.nodes ≡ M.nodes) (own : AreAll is_coord_effect outs)
    (of : All (is_of k) outs) where
  abbrev Here : Seen
  Here = up k d t M

  others_first : (n : ℕ) → (n == k) ≡ false → memory_of (N.nodes n) ≡ memory_of (Here.nodes n)
  others_first n off = ap (λ (f : ℕ → Option Node). memory_of (f n)) same_nodes
      ∙ ap (λ b. memory_of (if b then Some (record { number = k; disk = d; live = Some t }) else M.nodes n)) (sym off)

  locks_now : Guard event first M.lines → rows_on (object x) (table k M.lines) ≡ locks_in x (memory_of (Here.nodes k))
  locks_now g = let s = showing.shown g.0 k (g.1 k) in s.server x

  locks_are : locks_in x (memory_of (Here.nodes k)) ≡ server_rows x t.server
  locks_are = ap (λ b. locks_in x (memory_of (if b then Some (record { number = k; disk = d; live = Some t }) else M.nodes k))) (itself k)

  names_now : Guard event first M.lines → rows_on (entry x) (table 1 M.lines) ≡ names_in x Here
  names_now g = let s = showing.shown g.0 1 (g.1 1) in s.naming x refl

  -- naming is left as it was
  names_stay : v.naming ≡ t.naming → (k == 1) ≡ true → named_locks x v.naming ≡ names_in x Here
  names_stay same one = ap (named_locks x) same ∙ sym (ap (λ b. entry_locks_in x (memory_of
      (if b then Some (record { number = k; disk = d; live = Some t }) else M.nodes 1))) (ap (λ (j : ℕ). 1 == j) (eqb-true k 1 one)))

  abbrev Such : (Body → Bool) → (List Row → Type 0) → List Line → Type 0
  Such test Ok = AreSuch Apt x R first event Here showing e k test Ok v.naming

  -- so it is at each line
  such_along : (test : Body → Bool) (Ok : List Row → Type 0) (rows : List Row) →
      (Guard event first M.lines → rows_on (object x) (table k M.lines) ≡ rows) → Ok rows → Rem e (Such test Ok) outs M.lines
  such_along test Ok rows now ok =
      rem_both e (Rows first event k (object x) Ok) (Rows first event 1 (entry x) (IsOldOrNew x k Here v.naming)) outs M.lines
      (rem_coord first event k (object x) Ok e part.Server refl outs M.lines rows own now showing.long ok)
      (rem_coord first event 1 (entry x) (IsOldOrNew x k Here v.naming) e part.Naming refl outs M.lines (names_in x Here) own names_now
      showing.long (inl refl))

  -- what the coordinator does, where it calls no commit
  pub coord_along : v.server ≡ t.server → v.naming ≡ t.naming → AllByRecursion (SayOf (λ (b : Body). calls_commit b ≡ false)) outs →
      Walks (Onward Apt x R first event Here) e k outs (Up (Onward Apt x R first event Here) k v) d N
  coord_along server naming none =
      walks_to (Stop Apt x R first event Here showing e k calls_commit Ok v.naming) (Onward Apt x R first event Here) e k outs
      (λ c L. Trace Apt x R first event Here showing e k calls_commit Ok v.naming L) (Up (Onward Apt x R first event Here) k v) d N
      (stop_onward Apt x R first event Here showing e k calls_commit Ok v.naming (λ b is. is))
      (λ c L tr. end_onward Apt x R first event Here showing e k calls_commit Ok v.naming v c L tr (λ b is. is) (λ rows is. is) refl
      (names_stay naming))
      (trace_walk e k M.lines Here.nodes calls_commit (Such calls_commit Ok) quiet_commits refl first showing.long
      (such_quiet Apt x R first event Here showing e k calls_commit Ok v.naming) outs d N of none
      (subst (λ ls. Rem e (Such calls_commit Ok) outs ls) (sym same_lines) (such_along calls_commit Ok (server_rows x v.server) now refl))
      (traces_first e k M.lines Here.nodes calls_commit (Such calls_commit Ok) N same_lines others_first (now, (λ g. inl (names_now g)))))
    where
      Ok : List Row → Type 0
      Ok rows = rows ≡ server_rows x v.server

      now : Guard event first M.lines → rows_on (object x) (table k M.lines) ≡ server_rows x v.server
      now g = locks_now g ∙ locks_are ∙ ap (server_rows x) (sym server)

  abbrev Same : List Row → Type 0
  Same rows = rows ≡ locks_in x (memory_of (Here.nodes k))

  abbrev pub StillHere : Seen → Type 0
  StillHere L = Still Apt x R first event Here L

  -- and where it answers no call
  pub coord_unanswered : v.naming ≡ t.naming → AllByRecursion (SayOf (λ (b : Body). answers_call b ≡ false)) outs → Walks StillHere e k outs
      (Up StillHere k v) d N → Walks (Onward Apt x R first event Here) e k outs (Up (Onward Apt x R first event Here) k v) d N
  coord_unanswered naming none walk = together StillHere (Stop Apt x R first event Here showing e k answers_call Same v.naming)
      (Onward Apt x R first event Here) (Trace Apt x R first event Here showing e k answers_call Same v.naming) e k outs v d N
      (stop_unanswered Apt x R first event Here showing e k answers_call v.naming (λ b is. is) (names_stay naming))
      (λ c L still tr.
      end_unanswered Apt x R first event Here showing e k answers_call v.naming (λ b is. is) (names_stay naming) v c L tr still)
      walk
      (trace_walk e k M.lines Here.nodes answers_call (Such answers_call Same) quiet_answers refl first showing.long
      (such_quiet Apt x R first event Here showing e k answers_call Same v.naming) outs d N of none
      (subst (λ ls. Rem e (Such answers_call Same) outs ls) (sym same_lines)
      (such_along answers_call Same (locks_in x (memory_of (Here.nodes k))) locks_now refl))
      (traces_first e k M.lines Here.nodes answers_call (Such answers_call Same) N same_lines others_first
      (locks_now, (λ g. inl (names_now g)))))

-- ---- stops, and restarts

-- whatever lines there are
abbrev pub AnyLines : List Line → Type 0
AnyLines ls = ⊤

-- such they are behind all lines
rem_any : (e : ℕ) (outs : List Effect) (ls : List Line) → Rem e AnyLines outs ls
rem_any e [] ls = tt
rem_any e (Say b ∷ es) ls = (tt, rem_any e es (ls ++ numbered e (b ∷ [])))
rem_any e (Send to m ∷ es) ls = λ more quiet. rem_any e es (ls ++ numbered e more)
rem_any e (Do w ∷ es) ls = rem_any e es ls

-- whatever rows there are
abbrev pub AnyRows : List Row → Type 0
AnyRows rows = ⊤

-- lines of no sort that is asked for
abbrev none_such : Body → Bool
none_such b = false

none_such_said : (outs : List Effect) → AllByRecursion (SayOf (λ (b : Body). none_such b ≡ false)) outs
none_such_said [] = tt
none_such_said (Say b ∷ es) = (refl, none_such_said es)
none_such_said (Send to m ∷ es) = (tt, none_such_said es)
none_such_said (Do w ∷ es) = (tt, none_such_said es)

module _ (Apt : Marks → Fixed → Type 0) (x : ℕ) (R : Fixed → List Action → State → Seen →
    Type 0) (first event : ℕ) (M : Seen) (e k : ℕ) (d : Disk) (live : Option Parts) (showing : Shown first event (at k d live M)) where
  abbrev There : Seen
  There = at k d live M

  abbrev SuchThere : List Line → Type 0
  SuchThere = AreSuch Apt x R first event There showing e k calls_commit AnyRows None

  -- a node stops, with whatever disk
  pub stop_along : (c : Disk) → Onward Apt x R first event There (halted e k c M)
  stop_along c = stop_onward Apt x R first event There showing e k calls_commit AnyRows None (λ b is. is) (halted e k c M)
      (stopped_from e k M.lines There.nodes calls_commit SuchThere quiet_commits refl first showing.long
      (such_quiet Apt x R first event There showing e k calls_commit AnyRows None) c M
      (traces_first e k M.lines There.nodes calls_commit SuchThere M refl
      (λ n off. ap (λ b. memory_of (if b then Some (record { number = k; disk = d; live = live }) else M.nodes n)) (sym off))
      ((λ g. tt), (λ g. inl (let s = showing.shown g.0 1 (g.1 1) in s.naming x refl)))))

-- A node restarts: behind the line of its start no node has started in the event, or none is to be shown.
module _ (Apt : Marks → Fixed → Type 0) (x : ℕ) (R : Fixed → List Action → State → Seen →
    Type 0) (hd : Header) (first event : ℕ) (M : Seen) (e k : ℕ) (d : Disk) (showing : Shown first event (down k d M)) where
  abbrev Down : Seen
  Down = down k d M

  abbrev start : Body
  start = body.Up k (d.inc + 1)

  abbrev base : List Line
  base = M.lines ++ numbered e (start ∷ [])

  no_guard : Guard event first base → ⊥
  no_guard g =
      let same : e ≡ event = since_last event first e start M.lines showing.long g.0 in
      never (event == event) (itself event)
      ((λ i. event == sym same i) ∙ (λ i. event == (if sym (itself k) i then e else up_of k M.lines))
      ∙ (λ i. event == sym (ups_on k 0 M.lines (numbered e (start ∷ []))) i) ∙ g.1 k)

  base_long : first ≤ length base
  base_long = let q = length-append M.lines (numbered e (start ∷ [])) in let long = showing.long in omega (arith, q, long)

  -- behind it
  from_start : (N : Seen) (more : List Body) → N.lines ≡ base ++ numbered e more → Onward Apt x R first event Down N
  from_start N more are = next_onward Apt x R first event Down showing e N (start ∷ more)
      (are ∙ append_assoc M.lines (numbered e (start ∷ [])) (numbered e more))
      (λ f begun S alike names agrees sees tied before guard has p le within.
      absurd (no_guard (guard_less event first e more base base_long (subst (Guard event first) are guard))))

  abbrev rest : List Effect
  rest = behind_three (restart_outs hd k (d.inc + 1) d)

  abbrev T : Seen → Type 0
  T N = Traces e k base M.nodes none_such AnyLines N

  abbrev Started : Seen → Type 0
  Started N = Traced e k base M.nodes none_such N

  pub restart_along : Walks (Onward Apt x R first event Down) e k (restart_outs hd k (d.inc + 1) d)
      (Up (Onward Apt x R first event Down) k (parts_in k (d.inc + 1) d)) d M
  restart_along = (
    (λ how. stop_along Apt x R first event M e k d None showing (stopped how Look d)),
    (
      (λ how. stop_along Apt x R first event M e k d None showing (stopped how (PutInc (d.inc + 1)) d)),
      walks_to (λ N. Stopped e k base M.nodes none_such AnyLines N) (Onward Apt x R first event Down) e k rest (λ c N. T N)
          (Up (Onward Apt x R first event Down) k (parts_in k (d.inc + 1) d)) (record d { inc = d.inc + 1 }) (said e (start ∷ []) M)
          (λ N s. let r : Started N = s.traced in from_start N r.more r.lines)
          (λ c N s. let r : Started N = s.traced in from_start (up k c (parts_in k (d.inc + 1) d) N) r.more r.lines)
          (trace_walk e k base M.nodes none_such AnyLines (λ b is. refl) refl first base_long (λ ls bs quiet le h. tt) rest
          (record d { inc = d.inc + 1 }) (said e (start ∷ []) M) (and_parts (k == k) (list_all (says (is_of k)) rest)
          (restart_of hd first event k (d.inc + 1) d)).1 (none_such_said rest) (rem_any e rest base)
          (traces_first e k base M.nodes none_such AnyLines (said e (start ∷ []) M) refl (λ n off. refl) tt)),
    ),
  )
