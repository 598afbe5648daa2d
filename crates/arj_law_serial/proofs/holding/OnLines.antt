-- From the beginning of an event on: the object's machine was seen at each place of the journal, as each handler leaves it.
use Rattle.arj_law_parts.proofs.Words
use Words.{◌≡◌, ◌⊎◌, ◌≤◌, ◌<◌, ◌∙◌, ◌==◌, ◌++◌, ℕ, zero, suc, List, [], ◌∷◌, Bool, true, false, Option, Some, None, length, take, refl, sym}
use Words.{ap, subst, inl, inr, arith, ⊎_elim, append_assoc, length-append, eqb-true, if◌then◌else◌, AllByRecursion, list_all, list_any}
use Words.{and_parts, map-append, Row, entry, object, Body, End, Line, Uid, Disk, server_rows, Naming, Parts, Server, apply_ends, numbered}
use Words.{Seen}
use Rattle.arj_law_serial.proofs.Terms
use Terms.{acts, Marks, table, Action, IsAlikeOf, AreQuiet, is_quiet_line, said, up, Run, State, go_on, AreUppersOf, AgreesBy, Fixed}
use Terms.{view_of}
use Terms.{SeesLocks, AreTied, entry_locks_in, locks_in, memory_of, named_locks, HoldsNames, rows_on, ShowsLocks}
use Rattle.arj_law_serial.proofs.holding
use holding.{Acted.HasActs, Acted.none_taken, Acted.wider_by, Among.any_shown, Calling.answers_call, Keeping.Shown, Lines.itself}
use holding.{Lines.quiet_table, Names.IsNamed, Names.named_wider, Names.names_in}
use holding.Marks.{Guard, all_taken, guard_less, take_behind, take_front}
use holding.Places.{IsPlaced, placed_later, placed_wider}
use holding.Points.{AtFront, at_the_end, from_before, from_behind, from_front, named_at_the_end, named_before, named_behind, never_row}
use holding.Points.{other_named, other_shown, own_shown, quiet_commits}
use holding.Traces.{Rows, Stopped, Traced, Traces, rows_quiet}
use Rattle.arj_law_serial.proofs.whole.CalledSays.{calls_commit}

before_or : (m n : ℕ) → (m ≤ n) ⊎ (n < m)
before_or m n = grind arith

same_or : (m n : ℕ) → m ≤ n → (m < n) ⊎ (m ≡ n)
same_or m n le = grind (arith, le)

take_long : (p : ℕ) (ls : List Line) → length (take p ls) ≤ p
take_long p [] = by p
  where
    by : (p : ℕ) → length (take {A = Line} p []) ≤ p
    by zero = omega arith
    by (suc p) = omega arith
take_long zero (l ∷ ls) = omega arith
take_long (suc p) (l ∷ ls) = let q = take_long p ls in omega (arith, q)

-- which node it is
by_node : (k : ℕ) (P : ℕ → Type 0) → P k → ((n : ℕ) → (n == k) ≡ false → P n) → (n : ℕ) → P n
by_node k P here other n = by (n == k) refl
  where
    by : (b : Bool) → (n == k) ≡ b → P n
    by true is = subst P (sym (eqb-true n k is)) here
    by false is = other n is

parted : (j : ℕ) (bs : List Body) → (rest : List Body) × (bs ≡ take j bs ++ rest)
parted zero [] = ([], refl)
parted (suc j) [] = ([], refl)
parted zero (b ∷ bs) = (b ∷ bs, refl)
parted (suc j) (b ∷ bs) = let r = parted j bs in (r.0, ap (λ zs. b ∷ zs) r.1)

-- the first of the new lines are of the event too
front_guard : (event first e : ℕ) (ls : List Line) → first ≤ length ls → (j : ℕ) (bs : List Body) →
    Guard event first (ls ++ numbered e bs) → Guard event first (ls ++ numbered e (take j bs))
front_guard event first e ls long j bs g =
    let r = parted j bs in
    guard_less event first e r.0 (ls ++ numbered e (take j bs)) (let q = length-append ls (numbered e (take j bs)) in
    omega (arith, long, q))
    (subst (Guard event first) (ap (λ zs. ls ++ numbered e zs) r.1 ∙ ap (λ ms. ls ++ ms) (map-append (λ (b : Body).
    record { event = e; body = b }) (take j bs) r.0) ∙ sym (append_assoc ls (numbered e (take j bs)) (numbered e r.0))) g)

-- whether it is node 1
one_or : (k : ℕ) {C : Type 0} → ((1 == k) ≡ true → C) → ((1 == k) ≡ false → C) → C
one_or k {C} here other = by (1 == k) refl
  where
    by : (b : Bool) → (1 == k) ≡ b → C
    by true is = here is
    by false is = other is

-- the rows are those that naming had on the entry, or at node 1 those that it has in the end
abbrev pub IsOldOrNew : ℕ → ℕ → Seen → Option Naming → List Row → Type 0
IsOldOrNew x k M o rows = (rows ≡ names_in x M) ⊎ (((k == 1) ≡ true) × (rows ≡ named_locks x o))

-- where they stay at node 1 they are what they were
old_rows : (x k : ℕ) (M : Seen) (o : Option Naming) → ((k == 1) ≡ true → named_locks x o ≡ names_in x M) → (rows : List Row) →
    IsOldOrNew x k M o rows → rows ≡ names_in x M
old_rows x k M o stays rows (inl old) = old
old_rows x k M o stays rows (inr new) = new.1 ∙ stays new.0

module _ (Apt : Marks → Fixed → Type 0) (x : ℕ) (R : Fixed → List Action → State → Seen → Type 0) (first event : ℕ) where
  -- at each place by which an action began it was seen: up to the beginning of the event, and behind it, where no node starts in it
  abbrev pub Places : Fixed → List Action → State → List Line → Type 0
  Places f begun S lines = (p : ℕ) → p ≤ length lines → (p ≤ first) ⊎ Guard event first lines → HasActs (take p lines) →
      IsPlaced f x begun S lines p

  -- The object is seen, and was at each such place of the journal, in a state from which its machine has gone on to this one; and so much
  -- is known of it.
  pub record WasAlong (M : Seen) (f : Fixed) (S : State) : Type 0 where
    pub begun : List Action
    pub alike : IsAlikeOf begun M
    pub names : AreUppersOf HoldsNames begun M
    pub agrees : AgreesBy (Apt M.start.marks) f x begun M.sent
    pub state : State
    pub sees : SeesLocks f x begun state M
    pub tied : AreTied f x M.lines state
    pub more : R f begun state M
    pub places : Places f begun state M.lines
    pub goes : Run state S

  pub was_later : (M : Seen) (f : Fixed) (S T : State) → Run S T → WasAlong M f S → WasAlong M f T
  was_later M f S T run w = record {
    begun = w.begun;
    alike = w.alike;
    names = w.names;
    agrees = w.agrees;
    state = w.state;
    sees = w.sees;
    tied = w.tied;
    more = w.more;
    places = w.places;
    goes = go_on w.goes run;
  }

  -- no action has begun, or it was so
  abbrev pub Before : Seen → Fixed → State → Type 0
  Before M f S = (acts M.lines ≡ []) ⊎ WasAlong M f S

  -- where it was so before, it is seen at each place of these lines too
  abbrev pub Onward : Seen → Seen → Type 0
  Onward M N = (f : Fixed) (begun : List Action) (S : State) → IsAlikeOf begun N → AreUppersOf HoldsNames begun N →
      AgreesBy (Apt N.start.marks) f x begun N.sent → SeesLocks f x begun S N → AreTied f x N.lines S → Before M f S →
      Places f begun S N.lines

  -- where none began before none has
  abbrev pub Still : Seen → Seen → Type 0
  Still M N = acts M.lines ≡ [] → acts N.lines ≡ []

  module _ (M : Seen) (showing : Shown first event M) (e : ℕ) where
    -- what is to be shown of the new places
    abbrev pub News : Seen → Type 0
    News N = (f : Fixed) (begun : List Action) (S : State) → IsAlikeOf begun N → AreUppersOf HoldsNames begun N →
        AgreesBy (Apt N.start.marks) f x begun N.sent → SeesLocks f x begun S N → AreTied f x N.lines S → Before M f S →
        Guard event first N.lines →
        HasActs N.lines → (p : ℕ) → length M.lines ≤ p → p ≤ length N.lines → IsPlaced f x begun S N.lines p

    pub next_onward : (N : Seen) (more : List Body) → N.lines ≡ M.lines ++ numbered e more → News N → Onward M N
    next_onward N more are news f begun S alike names agrees sees tied before p within cond has =
        ⊎_elim {C = IsPlaced f x begun S N.lines p}
        (λ (le : p ≤ length M.lines). early le before)
        (λ (behind : length M.lines < p). news f begun S alike names agrees sees tied before (late behind cond)
        (λ none. has (none_taken p N.lines none)) p (omega (arith, behind)) within)
        (before_or p (length M.lines))
      where
        taken : p ≤ length M.lines → take p N.lines ≡ take p M.lines
        taken le = ap (take p) are ∙ take_front M.lines (numbered e more) p le

        sooner : (p ≤ first) ⊎ Guard event first N.lines → (p ≤ first) ⊎ Guard event first M.lines
        sooner (inl le) = inl le
        sooner (inr g) = inr (guard_less event first e more M.lines showing.long (subst (Guard event first) are g))

        early : p ≤ length M.lines → Before M f S → IsPlaced f x begun S N.lines p
        early le (inl none) = absurd (has (ap acts (taken le) ∙ none_taken p M.lines none))
        early le (inr was) = subst (λ (ls : List Line). IsPlaced f x begun S ls p) (sym are)
            (placed_later f x was.begun begun was.state S M.lines (numbered e more) p (wider_by was.begun begun M N (numbered e more) are
            was.alike alike) was.goes le (was.places p le (sooner cond) (λ none. has (ap acts (taken le) ∙ none))))

        late : length M.lines < p → (p ≤ first) ⊎ Guard event first N.lines → Guard event first N.lines
        late behind (inl le) = absurd (let long = showing.long in omega (arith, behind, le, long))
        late behind (inr g) = g

    -- what tables showed before
    pub shows_before : (N : Seen) (more : List Body) → N.lines ≡ M.lines ++ numbered e more → Guard event first N.lines → (n : ℕ) →
        ShowsLocks n M.lines (memory_of (M.nodes n))
    shows_before N more are g n = let q = guard_less event first e more M.lines showing.long (subst (Guard event first) are g) in
        showing.shown q.0 n (q.1 n)

    -- ---- lines at which nobody looks

    pub quiet_onward : (bs : List Body) → AreQuiet bs → Onward M (said e bs M)
    quiet_onward bs quiet = next_onward (said e bs M) bs refl (λ f begun S alike names agrees sees tied before guard has p le within.
        from_behind x e M.lines (said e bs M) bs refl (silent bs quiet) f begun S sees alike.0 agrees.0 tied p le within
        (λ n test any.
        let r = take_behind M.lines e bs p le in
        let shows = shows_before (said e bs M) bs refl guard n in
        any_shown test (object x) (table n (take p (M.lines ++ numbered e bs))) (locks_in x (memory_of (M.nodes n))) (ap (rows_on (object
        x)) (ap (table n) r.1 ∙ quiet_table n e (take r.0 bs) (all_taken is_quiet_line r.0 bs quiet) M.lines) ∙ shows.server x) any)
        (named_behind x e M.lines (said e bs M) bs refl (silent bs quiet) f begun S sees alike.0 agrees.0 names tied p le within
        (λ test any.
        let r = take_behind M.lines e bs p le in
        let shows = shows_before (said e bs M) bs refl guard 1 in
        any_shown test (entry x) (table 1 (take p (M.lines ++ numbered e bs))) (names_in x M) (ap (rows_on (entry x))
        (ap (table 1) r.1 ∙ quiet_table 1 e (take r.0 bs) (all_taken is_quiet_line r.0 bs quiet) M.lines) ∙ shows.naming x refl) any)))
      where
        silent : (bs : List Body) → AreQuiet bs → AllByRecursion (λ (b : Body). calls_commit b ≡ false) bs
        silent [] quiet = tt
        silent (b ∷ bs) quiet = let q = and_parts (is_quiet_line b) (list_all is_quiet_line bs) quiet in
            (quiet_commits b q.0, silent bs q.1)

    -- ---- a node's effects

    module _ (k : ℕ) (test : Body → Bool) (Ok : List Row → Type 0) (o : Option Naming) where
      -- where no node starts in the event, its rows on the object are such, and naming's on the entry are those at first or this one's
      abbrev pub AreSuch : List Line → Type 0
      AreSuch ls = Rows first event k (object x) Ok ls × Rows first event 1 (entry x) (IsOldOrNew x k M o) ls

      pub such_quiet : (ls : List Line) (bs : List Body) → AreQuiet bs → first ≤ length ls → AreSuch ls → AreSuch (ls ++ numbered e bs)
      such_quiet ls bs quiet le h = (
        rows_quiet first event k (object x) Ok e ls bs quiet le h.0,
        rows_quiet first event 1 (entry x) (IsOldOrNew x k M o) e ls bs quiet le h.1,
      )

      abbrev pub Stop : Seen → Type 0
      Stop N = Stopped e k M.lines M.nodes test AreSuch N

      abbrev pub Trace : Seen → Type 0
      Trace N = Traces e k M.lines M.nodes test AreSuch N

      abbrev pub Behind : Seen → Type 0
      Behind N = Traced e k M.lines M.nodes test N

      all_such : (other : Body → Bool) → ((b : Body) → test b ≡ false → other b ≡ false) → (bs : List Body) →
          AllByRecursion (λ (b : Body). test b ≡ false) bs → AllByRecursion (λ (b : Body). other b ≡ false) bs
      all_such other to [] all = tt
      all_such other to (b ∷ bs) all = (to b all.0, all_such other to bs all.1)

      -- what tables show of the other nodes at a place behind
      pub others_at : (N : Seen) (t : Behind N) → Guard event first N.lines → (p : ℕ) → length M.lines ≤ p → (n : ℕ) → (n == k) ≡ false →
          (row : Row → Bool) → list_any row (locks_in x (memory_of (M.nodes n))) ≡ true → list_any row (table n (take p N.lines)) ≡ true
      others_at N t guard p le n off row any =
          other_shown x e k M.lines M.nodes N.lines t.more t.lines t.own n off (shows_before N t.more t.lines guard n) p le row any

      others_now : (N : Seen) (t : Behind N) → Guard event first N.lines → (p : ℕ) → length M.lines ≤ p → (n : ℕ) → (n == k) ≡ false →
          (row : Row → Bool) → list_any row (locks_in x (memory_of (N.nodes n))) ≡ true → list_any row (table n (take p N.lines)) ≡ true
      others_now N t guard p le n off row any =
          others_at N t guard p le n off row (subst (λ (o : Option Parts). list_any row (locks_in x o) ≡ true) (t.others n off) any)

      gone_shown : (N : Seen) → memory_of (N.nodes k) ≡ None → (p : ℕ) (row : Row → Bool) →
          list_any row (locks_in x (memory_of (N.nodes k))) ≡ true → list_any row (table k (take p N.lines)) ≡ true
      gone_shown N gone p row any = never_row row (subst (λ (o : Option Parts). list_any row (locks_in x o) ≡ true) gone any)

      -- what naming has where the node has stopped
      pub stop_named : (N : Seen) → (t : Behind N) → memory_of (N.nodes k) ≡ None → Guard event first N.lines → (p : ℕ) →
          length M.lines ≤ p → (row : Row → Bool) → list_any row (names_in x N) ≡ true → list_any row (table 1 (take p N.lines)) ≡ true
      stop_named N t gone guard p le row any = one_or k
          (λ (here : (1 == k) ≡ true). never_row row (subst (λ (l : Option Parts). list_any row (entry_locks_in x l) ≡ true)
          (ap (λ (j : ℕ). memory_of (N.nodes j)) (eqb-true 1 k here) ∙ gone) any))
          (λ (off : (1 == k) ≡ false). any_shown row (entry x) (table 1 (take p N.lines)) (names_in x M)
          (other_named x e k M.lines M.nodes N.lines t.more t.lines t.own off (shows_before N t.more t.lines guard 1) p le)
          (subst (λ (l : Option Parts). list_any row (entry_locks_in x l) ≡ true) (t.others 1 off) any))

      -- a stop behind lines that call no commit
      pub stop_onward : ((b : Body) → test b ≡ false → calls_commit b ≡ false) → (N : Seen) → Stop N → Onward M N
      stop_onward to N s =
          let t : Behind N = s.traced in
          next_onward N t.more t.lines (λ f begun S alike names agrees sees tied before guard has p le within. from_behind x e M.lines N
          t.more t.lines (all_such calls_commit to t.more t.none) f begun S sees alike.0 agrees.0 tied p le within
          (by_node k (λ n. (row : Row → Bool) → list_any row (locks_in x (memory_of (N.nodes n))) ≡ true →
          list_any row (table n (take p N.lines)) ≡ true) (gone_shown N s.gone p) (others_now N t guard p le))
          (named_behind x e M.lines N t.more t.lines (all_such calls_commit to t.more t.none) f begun S sees alike.0 agrees.0 names tied p
          le within (stop_named N t s.gone guard p le)))

      module _ (v : Parts) (c : Disk) (L : Seen) (t : Trace L) where
        abbrev N : Seen
        N = up k c v L

        abbrev T : Behind L
        T = t.traced

        -- what tables show of the other nodes
        pub others_up : Guard event first L.lines → (p : ℕ) → length M.lines ≤ p → (n : ℕ) → (n == k) ≡ false → (row : Row → Bool) →
            list_any row (locks_in x (memory_of (N.nodes n))) ≡ true → list_any row (table n (take p L.lines)) ≡ true
        others_up guard p le n off row any = others_now L T guard p le n off row (subst (λ b. list_any row
            (locks_in x (memory_of (if b then Some (record { number = k; disk = c; live = Some v }) else L.nodes n))) ≡ true) off any)

        such_up : Guard event first L.lines → (j : ℕ) → Guard event first (M.lines ++ numbered e (take j T.more))
        such_up guard j = front_guard event first e M.lines showing.long j T.more (subst (Guard event first) T.lines guard)

        pub rows_up : Guard event first L.lines → (p : ℕ) → length M.lines ≤ p → Ok (rows_on (object x) (table k (take p L.lines)))
        rows_up guard p le =
            own_shown x e k M.lines M.nodes L.lines T.more T.lines k (object x) Ok (λ j. (t.rows j).0 (such_up guard j)) p le

        pub names_up : Guard event first L.lines → (p : ℕ) → length M.lines ≤ p →
            IsOldOrNew x k M o (rows_on (entry x) (table 1 (take p L.lines)))
        names_up guard p le = own_shown x e k M.lines M.nodes L.lines T.more T.lines 1 (entry x) (IsOldOrNew x k M o)
            (λ j. (t.rows j).1 (such_up guard j)) p le

        -- what naming has in the end
        pub names_now : (1 == k) ≡ true → names_in x N ≡ named_locks x v.naming
        names_now here =
            ap (λ b. entry_locks_in x (memory_of (if b then Some (record { number = k; disk = c; live = Some v }) else L.nodes 1))) here

        names_same : ((k == 1) ≡ true → named_locks x v.naming ≡ names_in x M) → names_in x N ≡ names_in x M
        names_same stays = one_or k
            (λ (here : (1 == k) ≡ true). names_now here ∙ stays (ap (λ (j : ℕ). j == 1) (sym (eqb-true 1 k here))))
            (λ (off : (1 == k) ≡ false). ap (λ b. entry_locks_in x (memory_of (if b then Some
            (record { number = k; disk = c; live = Some v }) else L.nodes 1))) off ∙ ap (entry_locks_in x) (T.others 1 off))

        -- where the node's locks are at each place those that it has at the end, and no commit is called
        pub end_onward : ((b : Body) → test b ≡ false → calls_commit b ≡ false) → ((rows : List Row) → Ok rows →
            rows ≡ server_rows x v.server) → o ≡ v.naming → ((k == 1) ≡ true → named_locks x v.naming ≡ names_in x M) → Onward M N
        end_onward to same last stays =
            next_onward N T.more T.lines (λ f begun S alike names agrees sees tied before guard has p le within. from_behind x e M.lines N
            T.more T.lines (all_such calls_commit to T.more T.none) f begun S sees alike.0 agrees.0 tied p le within
            (by_node k (λ n. (row : Row → Bool) → list_any row (locks_in x (memory_of (N.nodes n))) ≡ true →
            list_any row (table n (take p L.lines)) ≡ true)
            (λ row any. any_shown row (object x) (table k (take p L.lines)) (server_rows x v.server)
            (same (rows_on (object x) (table k (take p L.lines))) (rows_up guard p le)) (subst (λ b. list_any row (locks_in x
            (memory_of (if b then Some (record { number = k; disk = c; live = Some v }) else L.nodes k))) ≡ true) (itself k) any))
            (others_up guard p le))
            (named_behind x e M.lines N T.more T.lines (all_such calls_commit to T.more T.none) f begun S sees alike.0 agrees.0 names tied p
            le within
            (λ row any. any_shown row (entry x) (table 1 (take p L.lines)) (names_in x M) (old_rows x k M o
            (λ one. ap (named_locks x) last ∙ stays one) (rows_on (entry x) (table 1 (take p L.lines))) (names_up guard p le))
            (subst (λ (rows : List Row). list_any row rows ≡ true) (names_same stays) any))))

  -- ---- where no action begins

  -- the rows are those of the server behind some of these ends, or those that it has at the end
  abbrev pub IsFrontOrEnd : ℕ → Server → Server → List (Uid × End) → List Row → Type 0
  IsFrontOrEnd k s v ends rows = ((pre : List (Uid × End)) × (post : List (Uid × End)) × (ends ≡ pre ++ post)
      × (rows ≡ server_rows x (let d = apply_ends k pre s in d.part))) ⊎ (rows ≡ server_rows x v)

  module _ (M : Seen) (showing : Shown first event M) (e k : ℕ) (test : Body → Bool) (o : Option Naming) (to : (b : Body) → test b ≡ false →
      answers_call b ≡ false) where
    all_none : (bs : List Body) → AllByRecursion (λ (b : Body). test b ≡ false) bs →
        AllByRecursion (λ (b : Body). answers_call b ≡ false) bs
    all_none [] all = tt
    all_none (b ∷ bs) all = (to b all.0, all_none bs all.1)

    -- where the node's locks stay what they were, and no call is answered
    abbrev pub IsSame : List Row → Type 0
    IsSame rows = rows ≡ locks_in x (memory_of (M.nodes k))

    pub stop_unanswered : ((k == 1) ≡ true → named_locks x o ≡ names_in x M) → (N : Seen) → Still M N → Stop M showing e k test IsSame o N →
        Onward M N
    stop_unanswered stays N still s =
        let t : Behind M showing e k test IsSame o N = s.traced in
        next_onward M showing e N t.more t.lines (λ f begun S alike names agrees sees tied before guard has p le within.
        ⊎_elim {C = IsPlaced f x begun S N.lines p}
        (λ (none : acts M.lines ≡ []). absurd (has (still none)))
        (λ (was : WasAlong M f S). ⊎_elim {C = IsPlaced f x begun S N.lines p}
        (λ (early : p < length N.lines).
        placed_wider f x was.begun begun S N.lines p (wider_by was.begun begun M N (numbered e t.more) t.lines was.alike alike)
        (from_before x e k M.lines M.nodes N.lines t.more t.lines f was.begun was.state M refl was.sees was.alike.0 was.agrees.0 was.tied
        (all_none t.more t.none) S was.goes p le
        (by_node k (λ n. (row : Row → Bool) → list_any row (locks_in x (memory_of (M.nodes n))) ≡ true →
        list_any row (table n (take p N.lines)) ≡ true)
        (λ row any.
        any_shown row (object x) (table k (take p N.lines)) (locks_in x (memory_of (M.nodes k))) (rows_early N s guard p le early) any)
        (others_at M showing e k test IsSame o N t guard p le))
        (named_before x e k M.lines M.nodes N.lines t.more t.lines f was.begun was.state M refl was.sees was.alike.0 was.agrees.0 was.tied
        (all_none t.more t.none) S was.goes p le was.names
        (old_rows x k M o stays (rows_on (entry x) (table 1 (take p N.lines))) (names_early N s guard p le early)))))
        (λ (same : p ≡ length N.lines). at_the_end f x begun S N sees tied p same alike.0 agrees.0
        (by_node k (λ n. (row : Row → Bool) → list_any row (locks_in x (memory_of (N.nodes n))) ≡ true → list_any row (table n (take p
        N.lines)) ≡ true) (gone_shown M showing e k test IsSame o N s.gone p) (others_now M showing e k test IsSame o N t guard p le))
        (named_at_the_end f x begun S N sees tied p same alike.0 agrees.0 names
        (stop_named M showing e k test IsSame o N t s.gone guard p le)))
        (same_or p (length N.lines) within))
        before)
      where
        such_early : (N : Seen) (s : Stop M showing e k test IsSame o N) → Guard event first N.lines → (p : ℕ) → length M.lines ≤ p →
            p < length N.lines →
            IsSame (rows_on (object x) (table k (take p N.lines))) × IsOldOrNew x k M o (rows_on (entry x) (table 1 (take p N.lines)))
        such_early N s guard p le early =
            let t : Behind M showing e k test IsSame o N = s.traced in
            let r = take_behind M.lines e t.more p le in
            let at : take p N.lines ≡ M.lines ++ numbered e (take r.0 t.more) = ap (take p) t.lines ∙ r.1 in
            ⊎_elim {C = IsSame (rows_on (object x) (table k (take p N.lines)))
            × IsOldOrNew x k M o (rows_on (entry x) (table 1 (take p N.lines)))}
            (λ (whole : take r.0 t.more ≡ t.more).
            let same : take p N.lines ≡ N.lines = at ∙ ap (λ zs. M.lines ++ numbered e zs) whole ∙ sym t.lines in
            let long = take_long p N.lines in
            let size = ap (λ (ls : List Line). length ls) same in
            absurd (omega (arith, early, long, size)))
            (λ (rows : AreSuch M showing e k test IsSame o (M.lines ++ numbered e (take r.0 t.more))).
            let g = front_guard event first e M.lines showing.long r.0 t.more (subst (Guard event first) t.lines guard) in
            subst (λ (ls : List Line). IsSame (rows_on (object x) (table k ls)) × IsOldOrNew x k M o (rows_on (entry x) (table 1 ls)))
            (sym at) (rows.0 g, rows.1 g))
            (s.rows r.0)

        rows_early : (N : Seen) (s : Stop M showing e k test IsSame o N) → Guard event first N.lines → (p : ℕ) → length M.lines ≤ p →
            p < length N.lines → rows_on (object x) (table k (take p N.lines)) ≡ locks_in x (memory_of (M.nodes k))
        rows_early N s guard p le early = (such_early N s guard p le early).0

        names_early : (N : Seen) (s : Stop M showing e k test IsSame o N) → Guard event first N.lines → (p : ℕ) → length M.lines ≤ p →
            p < length N.lines → IsOldOrNew x k M o (rows_on (entry x) (table 1 (take p N.lines)))
        names_early N s guard p le early = (such_early N s guard p le early).1

    pub end_unanswered : ((k == 1) ≡ true → named_locks x o ≡ names_in x M) → (v : Parts) (c : Disk) (L : Seen) →
        Trace M showing e k test IsSame o L → Still M L → Onward M (up k c v L)
    end_unanswered stays v c L t still =
        let u : Behind M showing e k test IsSame o L = t.traced in
        next_onward M showing e (up k c v L) u.more u.lines (λ f begun S alike names agrees sees tied before guard has p le within.
        ⊎_elim {C = IsPlaced f x begun S L.lines p}
        (λ (none : acts M.lines ≡ []). absurd (has (still none)))
        (λ (was : WasAlong M f S). placed_wider f x was.begun begun S L.lines p
        (wider_by was.begun begun M (up k c v L) (numbered e u.more) u.lines was.alike alike)
        (from_before x e k M.lines M.nodes L.lines u.more u.lines f was.begun was.state M refl was.sees was.alike.0 was.agrees.0 was.tied
        (all_none u.more u.none) S was.goes p le
        (by_node k (λ n. (row : Row → Bool) → list_any row (locks_in x (memory_of (M.nodes n))) ≡ true →
        list_any row (table n (take p L.lines)) ≡ true)
        (λ row any. any_shown row (object x) (table k (take p L.lines)) (locks_in x (memory_of (M.nodes k)))
        (rows_up M showing e k test IsSame o v c L t guard p le) any)
        (others_at M showing e k test IsSame o L u guard p le))
        (named_before x e k M.lines M.nodes L.lines u.more u.lines f was.begun was.state M refl was.sees was.alike.0 was.agrees.0 was.tied
        (all_none u.more u.none) S was.goes p le was.names
        (old_rows x k M o stays (rows_on (entry x) (table 1 (take p L.lines))) (names_up M showing e k test IsSame o v c L t guard p le)))))
        before)

    -- where they are those behind some of the ends that came, or those at the end, and neither is a call answered nor a commit called
    module _ (old : Server) (ends : List (Uid × End)) (fronts : (f : Fixed) (S : State) (was : WasAlong M f S) (pre post : List (Uid × End))
        → ends ≡ pre ++ post → AtFront (view_of f x was.begun k) old was.state pre) (silent_commits : (b : Body) → test b ≡ false →
        calls_commit b ≡ false) (v : Parts) (last : o ≡ v.naming) where
      abbrev Ends : List Row → Type 0
      Ends rows = IsFrontOrEnd k old v.server ends rows

      pub end_fronts : (c : Disk) (L : Seen) → Trace M showing e k test Ends o L → Still M L → Onward M (up k c v L)
      end_fronts c L t still =
          let u : Behind M showing e k test Ends o L = t.traced in
          next_onward M showing e (up k c v L) u.more u.lines (λ f begun S alike names agrees sees tied before guard has p le within.
          ⊎_elim {C = IsPlaced f x begun S L.lines p}
          (λ (none : acts M.lines ≡ []). absurd (has (still none)))
          (λ (was : WasAlong M f S).
          let wide = wider_by was.begun begun M (up k c v L) (numbered e u.more) u.lines was.alike alike in
          let named : IsNamed f x begun S L.lines p = ⊎_elim
          (λ (kept : rows_on (entry x) (table 1 (take p L.lines)) ≡ names_in x M).
          named_wider f x was.begun begun S L.lines p wide (named_before x e k M.lines M.nodes L.lines u.more u.lines f was.begun
          was.state M refl was.sees was.alike.0 was.agrees.0 was.tied (all_none u.more u.none) S was.goes p le was.names kept))
          (λ (changed : ((k == 1) ≡ true) × (rows_on (entry x) (table 1 (take p L.lines)) ≡ named_locks x o)). named_behind x e M.lines
          (up k c v L) u.more u.lines (all_such M showing e k test Ends o calls_commit silent_commits u.more u.none) f begun S sees
          alike.0 agrees.0 names tied p le within
          (λ row any. any_shown row (entry x) (table 1 (take p L.lines)) (names_in x (up k c v L)) (changed.1 ∙ ap (named_locks x) last
          ∙ sym (names_now M showing e k test Ends o v c L t (ap (λ (j : ℕ). 1 == j) (eqb-true k 1 changed.0)))) any))
          (names_up M showing e k test Ends o v c L t guard p le) in
          ⊎_elim {C = IsPlaced f x begun S L.lines p}
          (λ (front : (pre : List (Uid × End)) × (post : List (Uid × End)) × (ends ≡ pre ++ post) ×
          (rows_on (object x) (table k (take p L.lines)) ≡ server_rows x (let d = apply_ends k pre old in d.part))).
          let q = fronts f S was front.0 front.1 front.2 in
          from_front x e k M.lines M.nodes L.lines u.more u.lines f was.begun was.state M refl was.sees was.alike.0 was.agrees.0 was.tied
          (all_none u.more u.none) S was.goes p le q.servers q.to q.incs q.actives q.others
          (server_rows x (let d = apply_ends k front.0 old in d.part)) q.sees q.known begun wide
          (others_at M showing e k test Ends o L u guard p le)
          (λ row any.
          any_shown row (object x) (table k (take p L.lines)) (server_rows x (let d = apply_ends k front.0 old in d.part)) front.3 any)
          named)
          (λ (close : rows_on (object x) (table k (take p L.lines)) ≡ server_rows x v.server). from_behind x e M.lines (up k c v L) u.more
          u.lines (all_such M showing e k test Ends o calls_commit silent_commits u.more u.none) f begun S sees alike.0 agrees.0 tied p
          le within
          (by_node k (λ n. (row : Row → Bool) → list_any row (locks_in x (memory_of ((up k c v L).nodes n))) ≡ true →
          list_any row (table n (take p L.lines)) ≡ true)
          (λ row any. any_shown row (object x) (table k (take p L.lines)) (server_rows x v.server) close (subst (λ b. list_any row (locks_in
          x (memory_of (if b then Some (record { number = k; disk = c; live = Some v }) else L.nodes k))) ≡ true) (itself k) any))
          (others_up M showing e k test Ends o v c L t guard p le))
          named)
          (rows_up M showing e k test Ends o v c L t guard p le))
          before)
