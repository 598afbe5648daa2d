-- A message leaves the object's machine seen at each place of the journal: behind some of the ends that it brings, or behind all of it.
use Rattle.arj_law_parts.proofs.Words
use Words.{◌≡◌, ◌∙◌, ◌==◌, ◌++◌, ◌||◌, ℕ, List, [], ◌∷◌, Bool, true, false, Option, Some, None, refl, sym, ap, subst, inl, inr, ⊎_elim}
use Words.{eqb-true, if◌then◌else◌, is_some, AllByRecursion, or_parts, Row, entry, object, Ask, Asked, Body, End, Head, Line, Message, Uid}
use Words.{asks, Reply, answers, heard, Disk, Do, Effect, Say, Send, acked, answer_query, TablesFollow, AreOfActions, Holders, rows_after}
use Words.{server_rows, Parts, Took, handle, is_meant, apply_ends, Seen}
use Words.message
use Words.follow
use Rattle.arj_law_serial.proofs.Terms
use Terms.{Marks}
use Terms.{acts, table, Action, AreBegun, FitsMessage, is_quiet_line, up, Up, Walks, walks_to, AreAlike, SaysPast, HasNaming, State, Fixed}
use Terms.{view_of, is_for_parts, handled_answer, is_answer, response_is, took_heard, SayOf, entry_locks_in, locks_in, memory_of}
use Terms.{named_locks, holders_in, is_steady, rows_on}
use Terms.part
use Rattle.arj_law_serial.proofs.holding
use holding.{AlongSteps.together, Facts.HaveNumbers, Keeping.Shown, Lines.itself, Marks.Guard, NamedRuns.message_once, NamedRuns.once_along}
use holding.{Names.names_in, Says.All}
use holding.Calling.{answers_call, message_answers, message_commits}
use holding.Messages.{coord_or_steady, message_fits, message_follows, named_follows, own_lines}
use holding.OnLines.{AreSuch, IsFrontOrEnd, IsOldOrNew, Onward, Still, Stop, Trace, WasAlong, end_fronts, end_onward, stop_onward}
use holding.OnLines.{such_quiet}
use holding.Points.{AtFront, quiet_answers, quiet_commits}
use holding.Prefixes.{Along, ends_by, message_runs}
use holding.Traces.{Rem, Rows, rem_along, rem_both, rem_coord, rem_other, trace_walk, traces_first}
use Rattle.arj_law_serial.proofs.whole.CalledSays.{calls_commit}

-- the line calls a commit, or answers a call
abbrev is_marked : Body → Bool
is_marked b = calls_commit b || answers_call b

quiet_marks : (b : Body) → is_quiet_line b ≡ true → is_marked b ≡ false
quiet_marks b is = λ i. quiet_commits b is i || quiet_answers b is i

all_marked : (outs : List Effect) → AllByRecursion (SayOf (λ (b : Body). calls_commit b ≡ false)) outs →
    AllByRecursion (SayOf (λ (b : Body). answers_call b ≡ false)) outs → AllByRecursion (SayOf (λ (b : Body). is_marked b ≡ false)) outs
all_marked [] a b = tt
all_marked (Say l ∷ es) a b = ((λ i. a.0 i || b.0 i), all_marked es a.1 b.1)
all_marked (Send to m ∷ es) a b = (tt, all_marked es a.1 b.1)
all_marked (Do w ∷ es) a b = (tt, all_marked es a.1 b.1)

-- the ends that a message brings are of actions
fits_ends : (h : Holders) (m : Message) (o : Option (Head × Ask)) → follow.FitsAsked h m o → AreOfActions (ends_by m o)
fits_ends h (message.Told m) None f = f
fits_ends h m None f = tt
fits_ends h m (Some a) f = f.1

-- what is for the coordinator brings none
no_ends : (m : Message) → is_for_parts m ≡ false → ends_by m (asks m) ≡ []
no_ends (message.Told m) off = absurd (cc off)
no_ends (message.Invoke m) off = absurd (cc off)
no_ends (message.Vote m) off = absurd (cc off)
no_ends m off = refl

none_front : {A : Type 0} (pre post : List A) → [] ≡ pre ++ post → pre ≡ []
none_front [] post are = refl
none_front (a ∷ pre) post are = absurd (cc are)

-- and leaves the server and naming as they were
coord_same : (k : ℕ) (d : Disk) (t v : Parts) (from : ℕ) (m : Message) (outs : List Effect) → is_for_parts m ≡ false →
    handle k d t from m ≡ Took v outs → (v.server ≡ t.server) × (v.naming ≡ t.naming)
coord_same k d t v from (message.Acked m) outs off is = let q = took_heard t v (acked from m.act d.intents t.coord) outs is in
    (ap (λ (z : Parts). z.server) (sym q.0), ap (λ (z : Parts). z.naming) (sym q.0))
coord_same k d t v from (message.Query m) outs off is =
    let taken : Took t (answer_query from m.act d.intents t.coord) ≡ Took v outs = is in
    let same : t ≡ v = cc taken in
    (ap (λ (z : Parts). z.server) (sym same), ap (λ (z : Parts). z.naming) (sym same))
coord_same k d t v from m outs off is = by (answers m) refl (is_answer m refl off)
  where
    by : (o : Option (Asked × Reply)) → answers m ≡ o → is_some o ≡ true → (v.server ≡ t.server) × (v.naming ≡ t.naming)
    by None of some = let no_way : false ≡ true = some in absurd (cc no_way)
    by (Some a) of some =
        let n = subst (λ w. handle k d t from w ≡ Took v outs) (response_is m a of) is in
        let q = took_heard t v (heard from a.0 a.1 d.intents t.coord) outs (sym (handled_answer k d t from a.0 a.1) ∙ n) in
        (ap (λ (z : Parts). z.server) (sym q.0), ap (λ (z : Parts). z.naming) (sym q.0))

module _ (Apt : Marks → Fixed → Type 0) (x : ℕ) (R : Fixed → List Action → State → Seen →
    Type 0) (first event : ℕ) (M : Seen) (e k : ℕ) (d : Disk)
    (t v : Parts) (from : ℕ) (m : Message) (outs : List Effect) (showing : Shown first event (up k d t M))
    (begun : List Action) (all : AreBegun begun) (numbers : HaveNumbers begun) (alike : AreAlike begun (acts M.lines))
    (place : HasNaming k t) (lives : ℕ → Option Parts) (fits : FitsMessage begun m) (says : SaysPast begun lives
    (record { from = from; to = k; message = m })) (meant : is_meant t m ≡ true) (is : handle k d t from m ≡ Took v outs) where
  abbrev Here : Seen
  Here = up k d t M

  abbrev H : Holders
  H = holders_in false (acts M.lines)

  abbrev ends : List (Uid × End)
  ends = ends_by m (asks m)

  abbrev Ok : List Row → Type 0
  Ok rows = IsFrontOrEnd Apt x R first event k t.server v.server ends rows

  follows : TablesFollow H k x t outs v
  follows = message_follows first event e k d t v M begun all numbers alike place from m outs lives fits says is x

  of_actions : AreOfActions ends
  of_actions = fits_ends H m (asks m)
      (message_fits begun all numbers (acts M.lines) alike lives (record { from = from; to = k; message = m }) fits says)

  at_first : Ok (server_rows x t.server)
  at_first = inl ([], ends, refl, refl)

  runs : Along H k part.Server (object x) Ok outs (server_rows x t.server)
  runs = message_runs H k x d t Ok at_first from m of_actions (λ pre post are. inl (pre, post, are, refl)) v outs is
      (inr (let f = follows in sym f.server))

  now : Guard event first M.lines → rows_on (object x) (table k M.lines) ≡ server_rows x t.server
  now g = (let s = showing.shown g.0 k (g.1 k) in s.server x)
      ∙ ap (λ b. locks_in x (memory_of (if b then Some (record { number = k; disk = d; live = Some t }) else M.nodes k))) (itself k)

  -- ---- what it does to naming

  abbrev Named : List Row → Type 0
  Named rows = IsOldOrNew x k Here v.naming rows

  names_now : Guard event first M.lines → rows_on (entry x) (table 1 M.lines) ≡ names_in x Here
  names_now g = let s = showing.shown g.0 1 (g.1 1) in s.naming x refl

  names_are : (k == 1) ≡ true → names_in x Here ≡ named_locks x t.naming
  names_are one = ap (λ b. entry_locks_in x (memory_of (if b then Some (record { number = k; disk = d; live = Some t }) else M.nodes 1)))
      (ap (λ (j : ℕ). 1 == j) (eqb-true k 1 one))

  names_run : (k == 1) ≡ true → Along H 1 part.Naming (entry x) Named outs (names_in x Here)
  names_run one = once_along H x Named outs (message_once H x k d t from m meant v outs is) (names_in x Here) (inl refl)
      (inr (
        one,
        ap (rows_after H 1 part.Naming (entry x) outs) (names_are one) ∙ sym (named_follows first event e k d t v M begun all numbers alike
            place x outs t.naming v.naming (place ∙ one) (let f = follows in f.naming)),
      ))

  names_rem : Rem e (Rows first event 1 (entry x) Named) outs M.lines
  names_rem = ⊎_elim {C = Rem e (Rows first event 1 (entry x) Named) outs M.lines}
      (λ coord.
      rem_coord first event 1 (entry x) Named e part.Naming refl outs M.lines (names_in x Here) coord names_now showing.long (inl refl))
      (λ steady. by (1 == k) refl steady)
      (coord_or_steady k d t v place from m outs is)
    where
      by : (b : Bool) → (1 == k) ≡ b → All is_steady outs → Rem e (Rows first event 1 (entry x) Named) outs M.lines
      by true here steady = rem_along first event 1 (entry x) Named e part.Naming refl (acts M.lines) outs M.lines (names_in x Here) steady
          names_now refl showing.long (names_run (ap (λ (j : ℕ). j == 1) (sym (eqb-true 1 k here))))
      by false off steady = rem_other first event 1 (entry x) Named e k off outs M.lines (own_lines k d t v place from m outs is)
          showing.long (λ g. inl (names_now g))

  abbrev Such : (Body → Bool) → List Line → Type 0
  Such test = AreSuch Apt x R first event Here showing e k test Ok v.naming

  rem : (test : Body → Bool) → Rem e (Such test) outs M.lines
  rem test = rem_both e (Rows first event k (object x) Ok) (Rows first event 1 (entry x) Named) outs M.lines
      (⊎_elim {C = Rem e (Rows first event k (object x) Ok) outs M.lines} (λ coord.
      rem_coord first event k (object x) Ok e part.Server refl outs M.lines (server_rows x t.server) coord now showing.long at_first)
      (λ steady. rem_along first event k (object x) Ok e part.Server refl (acts M.lines) outs M.lines (server_rows x t.server) steady
      now refl showing.long runs) (coord_or_steady k d t v place from m outs is))
      names_rem

  such_first : (test : Body → Bool) → Such test M.lines
  such_first test = ((λ g. inl ([], ends, refl, now g)), (λ g. inl (names_now g)))

  others_first : (n : ℕ) → (n == k) ≡ false → memory_of (M.nodes n) ≡ memory_of (Here.nodes n)
  others_first n off = ap (λ b. memory_of (if b then Some (record { number = k; disk = d; live = Some t }) else M.nodes n)) (sym off)

  abbrev StillHere : Seen → Type 0
  StillHere N = Still Apt x R first event Here N

  abbrev Goes : Seen → Type 0
  Goes N = Onward Apt x R first event Here N

  module _ (fronts : (f : Fixed) (S : State) (was : WasAlong Apt x R first event Here f S) → is_for_parts m ≡ true →
      (pre post : List (Uid × End)) → ends ≡ pre ++ post → AtFront (view_of f x was.begun k) t.server was.state pre) where
    for_coord : is_for_parts m ≡ false → Walks Goes e k outs (Up Goes k v) d M
    for_coord off = walks_to (Stop Apt x R first event Here showing e k calls_commit Ok v.naming) Goes e k outs
        (λ c L. Trace Apt x R first event Here showing e k calls_commit Ok v.naming L) (Up Goes k v) d M
        (stop_onward Apt x R first event Here showing e k calls_commit Ok v.naming (λ b none. none))
        (λ c L tr. end_onward Apt x R first event Here showing e k calls_commit Ok v.naming v c L tr (λ b none. none) same refl
        (λ one. ap (named_locks x) (coord_same k d t v from m outs off is).1 ∙ sym (names_are one)))
        (trace_walk e k M.lines Here.nodes calls_commit (Such calls_commit) quiet_commits refl first showing.long
        (such_quiet Apt x R first event Here showing e k calls_commit Ok v.naming) outs d M (own_lines k d t v place from m outs is)
        (message_commits k d t v from m outs is) (rem calls_commit)
        (traces_first e k M.lines Here.nodes calls_commit (Such calls_commit) M refl others_first (such_first calls_commit)))
      where
        same : (rows : List Row) → Ok rows → rows ≡ server_rows x v.server
        same rows (inr end) = end
        same rows (inl front) = front.3 ∙ ap (λ (pre : List (Uid × End)). server_rows x (let q = apply_ends k pre t.server in q.part))
            (none_front front.0 front.1 (sym (no_ends m off) ∙ front.2))
            ∙ ap (server_rows x) (sym (coord_same k d t v from m outs off is).0)

    for_parts : is_for_parts m ≡ true → Walks StillHere e k outs (Up StillHere k v) d M → Walks Goes e k outs (Up Goes k v) d M
    for_parts mine walk = together StillHere (Stop Apt x R first event Here showing e k is_marked Ok v.naming) Goes
        (Trace Apt x R first event Here showing e k is_marked Ok v.naming) e k outs v d M
        (λ L still s. stop_onward Apt x R first event Here showing e k is_marked Ok v.naming
        (λ b none. (or_parts (calls_commit b) (answers_call b) none).0) L s)
        (λ c L still tr. end_fronts Apt x R first event Here showing e k is_marked v.naming
        (λ b none. (or_parts (calls_commit b) (answers_call b) none).1) t.server ends (λ f S was. fronts f S was mine)
        (λ b none. (or_parts (calls_commit b) (answers_call b) none).0) v refl c L tr still)
        walk
        (trace_walk e k M.lines Here.nodes is_marked (Such is_marked) quiet_marks refl first showing.long
        (such_quiet Apt x R first event Here showing e k is_marked Ok v.naming) outs d M (own_lines k d t v place from m outs is)
        (all_marked outs (message_commits k d t v from m outs is) (message_answers k d t v from m outs mine is)) (rem is_marked)
        (traces_first e k M.lines Here.nodes is_marked (Such is_marked) M refl others_first (such_first is_marked)))

    -- a message
    pub message_along : Walks StillHere e k outs (Up StillHere k v) d M → Walks Goes e k outs (Up Goes k v) d M
    message_along walk = by (is_for_parts m) refl
      where
        by : (b : Bool) → is_for_parts m ≡ b → Walks Goes e k outs (Up Goes k v) d M
        by true mine = for_parts mine walk
        by false off = for_coord off
