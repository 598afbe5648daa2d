-- Each place among the lines of a node's effects is one at which the object's machine was seen: in the state before them, or in that
-- behind.
use Rattle.arj_law_parts.proofs.Words
use Words.{◌≡◌, ◌≢◌, ◌≤◌, ◌∙◌, ◌==◌, ◌++◌, ℕ, List, [], ◌∷◌, Bool, true, false, Option, Some, None, length, take, refl, sym, ap, subst, inl}
use Words.{inr, arith, eqb-true, eq-eqb, Contains, if◌then◌else◌, AllByRecursion, list_all, list_any, Row, entry, object, Ask, Body, End}
use Words.{Head, Line, Message, Uid, uids_of, server_rows, Server, apply_ends, Node, numbered, Seen}
use Words.ask
use Words.body
use Words.message
use Rattle.arj_law_serial.proofs.Terms
use Terms.{table, Action, IsGoodOf, is_quiet_line, State, Run, stay, IsAskingShown, SeesRows, AreBrought, Sees, View, Agrees, Fixed}
use Terms.{SeesLocks, AreTied, AreUppersOf, entry_locks_in, locks_in, memory_of, HoldsNames, rows_on, ShowsLocks}
use Terms.state as machine
use Rattle.arj_law_lock_view.specs.view.Handling.{IsTellingShown}
use Rattle.arj_law_serial.proofs.holding
use holding.{Acted.AreWider, Among.any_shown, Calling.answers_call, Lines.other_tables, Names.IsNamed, Names.known_wider, Names.names_in}
use holding.{Prefixes.ends_by, Sorts.is_of, Traces.none_said}
use holding.Fronts.{front_actives, front_incs, front_known, front_others, front_run, front_sees, front_servers}
use holding.Marks.{NoneBetween, all_taken, take_all, take_behind, take_front}
use holding.Places.{IsPlaced, named_here, place_here, rows_known, servers_seen}
use Rattle.arj_law_serial.proofs.whole.CalledSays.{calls_commit}

-- lines at which nobody looks call no commit, and answer none
pub quiet_commits : (b : Body) → is_quiet_line b ≡ true → calls_commit b ≡ false
quiet_commits (body.Committing l) is = absurd (cc is)
quiet_commits b is = refl

pub quiet_answers : (b : Body) → is_quiet_line b ≡ true → answers_call b ≡ false
quiet_answers (body.Ok l x o a) is = absurd (cc is)
quiet_answers (body.Includes l x n) is = absurd (cc is)
quiet_answers b is = refl

pub never_row : {P : Type 0} (test : Row → Bool) → list_any test [] ≡ true → P
never_row test is = absurd (cc is)

-- ---- tables at a place

module _ (x e k : ℕ) (base : List Line) (nodes : ℕ →
    Option Node) (lines : List Line) (more : List Body) (are : lines ≡ base ++ numbered e more) where
  -- of all nodes but this one
  pub other_shown : list_all (is_of k) more ≡ true → (n : ℕ) → (n == k) ≡ false → ShowsLocks n base (memory_of (nodes n)) → (p : ℕ) →
      length base ≤ p → (test : Row → Bool) → list_any test (locks_in x (memory_of (nodes n))) ≡ true →
      list_any test (table n (take p lines)) ≡ true
  other_shown own n off shows p le test any =
      let r = take_behind base e more p le in
      let at : take p lines ≡ base ++ numbered e (take r.0 more) = ap (take p) are ∙ r.1 in
      any_shown test (object x) (table n (take p lines)) (locks_in x (memory_of (nodes n))) (ap (rows_on (object x))
      (ap (table n) at ∙ other_tables n k e off (take r.0 more) (all_taken (is_of k) r.0 more own) base) ∙ shows.server x) any

  -- naming's, where it is at another node than this one
  pub other_named : list_all (is_of k) more ≡ true → (1 == k) ≡ false → ShowsLocks 1 base (memory_of (nodes 1)) → (p : ℕ) →
      length base ≤ p → rows_on (entry x) (table 1 (take p lines)) ≡ entry_locks_in x (memory_of (nodes 1))
  other_named own off shows p le =
      let r = take_behind base e more p le in
      let at : take p lines ≡ base ++ numbered e (take r.0 more) = ap (take p) are ∙ r.1 in
      ap (rows_on (entry x)) (ap (table 1) at ∙ other_tables 1 k e off (take r.0 more) (all_taken (is_of k) r.0 more own) base)
      ∙ shows.naming x refl

  -- of any node, where its rows on something are known at each place
  pub own_shown : (n : ℕ) (o : Uid) (P : List Row → Type 0) → ((j : ℕ) → P (rows_on o (table n (base ++ numbered e (take j more))))) →
      (p : ℕ) → length base ≤ p → P (rows_on o (table n (take p lines)))
  own_shown n o P rows p le =
      let r = take_behind base e more p le in
      subst (λ (ls : List Line). P (rows_on o (table n ls))) (sym (ap (take p) are ∙ r.1)) (rows r.0)

  front_is : take (length base) lines ≡ base
  front_is = ap (take (length base)) are ∙ take_front base (numbered e more) (length base) (omega arith) ∙ take_all base

  base_long : length base ≤ length lines
  base_long = subst (λ (ls : List Line). length base ≤ length ls) (sym are) (more_than base)
    where
      more_than : (ls : List Line) → length ls ≤ length (ls ++ numbered e more)
      more_than [] = omega arith
      more_than (l ∷ ls) = let q = more_than ls in omega (arith, q)

  -- ---- in the state before

  module _ (f : Fixed) (begun : List Action) (S : State) (M : Seen) (same_lines : M.lines ≡ base) (sees : SeesLocks f x begun S M)
      (good : IsGoodOf begun M) (agrees : Agrees f x begun M.sent) (tied : AreTied f x M.lines S)
      (none : AllByRecursion (λ (b : Body). answers_call b ≡ false) more) (T : State) (run : Run S T) (p : ℕ) (le : length base ≤ p) where
    unanswered : NoneBetween answers_call lines (length M.lines) p
    unanswered = subst (λ (ls : List Line). NoneBetween answers_call ls (length M.lines) p) (sym are) (none_said answers_call e more none
        base (length M.lines) p (subst (λ (ls : List Line). length base ≤ length ls) (sym same_lines) (omega arith)))

    le_there : length M.lines ≤ p
    le_there = subst (λ (ls : List Line). length ls ≤ p) (sym same_lines) le

    -- no call is answered by these lines
    pub from_before : ((n : ℕ) (test : Row → Bool) → list_any test (locks_in x (memory_of (M.nodes n))) ≡ true →
        list_any test (table n (take p lines)) ≡ true) → IsNamed f x begun T lines p → IsPlaced f x begun T lines p
    from_before shown named = place_here f x begun S M sees good agrees tied lines p
        (subst (λ (ls : List Line). take (length ls) lines ≡ ls) (sym same_lines) front_is)
        (subst (λ (ls : List Line). length ls ≤ length lines) (sym same_lines) base_long) (inl (le_there, unanswered)) shown T run named

    -- and naming's rows are as they were
    pub named_before : AreUppersOf HoldsNames begun M → rows_on (entry x) (table 1 (take p lines)) ≡ names_in x M →
        IsNamed f x begun T lines p
    named_before names same = named_here f x begun S M sees good agrees names tied lines p
        (subst (λ (ls : List Line). take (length ls) lines ≡ ls) (sym same_lines) front_is)
        (subst (λ (ls : List Line). length ls ≤ length lines) (sym same_lines) base_long) (inl (le_there, unanswered))
        (λ test any. any_shown test (entry x) (table 1 (take p lines)) (names_in x M) same any) T run

    -- and behind some of the ends that came
    module _ (servers : ℕ → machine.Server) (to : Run S (record S { server = servers })) (incs : (n : ℕ) →
        (let a = servers n in a.incarnation) ≡ (let b = S.server n in b.incarnation)) (actives : (n : ℕ) →
        (let a = servers n in a.active) ≡ (let b = S.server n in b.active))
        (others : (n : ℕ) → n ≢ k → servers n ≡ S.server n) (mid : List Row) (mid_sees : SeesRows f.act (object x) mid (let a = servers k in
        a.rows)) (mid_known : (r : Row) → Contains mid r → (a : Action) × Contains begun a × (r.holder ≡ uids_of a.path)) where
      abbrev rows_with : (b : Bool) → ℕ → List Row
      rows_with b n = if b then mid else locks_in x (memory_of (M.nodes n))

      sees_with : (n : ℕ) (b : Bool) → (n == k) ≡ b → SeesRows f.act (object x) (rows_with b n) (let a = servers n in a.rows)
      sees_with n true is = subst (λ (j : ℕ). SeesRows f.act (object x) mid (let a = servers j in a.rows)) (sym (eqb-true n k is)) mid_sees
      sees_with n false is = subst (λ (m : machine.Server). SeesRows f.act (object x) (locks_in x (memory_of (M.nodes n))) m.rows)
          (sym (others n (λ same. differs n same is))) (servers_seen f x begun S M sees n)
        where
          differs : (j : ℕ) → j ≡ k → (j == k) ≡ false → ⊥
          differs j same off = let no_way : true ≡ false = sym (eq-eqb j k same) ∙ off in cc no_way

      known_with : (n : ℕ) (b : Bool) (r : Row) → Contains (rows_with b n) r → (a : Action) × Contains begun a × (r.holder ≡ uids_of a.path)
      known_with n true r i = mid_known r i
      known_with n false r i = rows_known f x begun S M sees good agrees n r i

      shown_with : ((n : ℕ) → (n == k) ≡ false → (test : Row → Bool) → list_any test (locks_in x (memory_of (M.nodes n))) ≡ true →
          list_any test (table n (take p lines)) ≡ true) →
          ((test : Row → Bool) → list_any test mid ≡ true → list_any test (table k (take p lines)) ≡ true)
          → (n : ℕ) (b : Bool) → (n == k) ≡ b → (test : Row → Bool) → list_any test (rows_with b n) ≡ true →
          list_any test (table n (take p lines)) ≡ true
      shown_with other own n true is test any =
          subst (λ (j : ℕ). list_any test (table j (take p lines)) ≡ true) (sym (eqb-true n k is)) (own test any)
      shown_with other own n false is test any = other n is test any

      pub from_front : (more_begun : List Action) → AreWider begun more_begun → ((n : ℕ) → (n == k) ≡ false → (test : Row → Bool) →
          list_any test (locks_in x (memory_of (M.nodes n))) ≡ true → list_any test (table n (take p lines)) ≡ true) →
          ((test : Row → Bool) → list_any test mid ≡ true → list_any test (table k (take p lines)) ≡ true) →
          IsNamed f x more_begun T lines p → IsPlaced f x more_begun T lines p
      from_front more_begun wider other own named = record {
        front = length M.lines;
        within = subst (λ (ls : List Line). length ls ≤ length lines) (sym same_lines) base_long;
        state = S;
        run = sees.run;
        behind = run;
        tied =
            subst (λ ls. AreTied f x ls S) (sym (subst (λ (ls : List Line). take (length ls) lines ≡ ls) (sym same_lines) front_is)) tied;
        place = inl (le_there, unanswered);
        servers = servers;
        to = to;
        incs = incs;
        actives = actives;
        rows = λ n. rows_with (n == k) n;
        sees = λ n. sees_with n (n == k) refl;
        known = λ n r i. known_wider begun more_begun wider r (known_with n (n == k) r i);
        shown = λ n test. shown_with other own n (n == k) refl test;
        named = named;
      }

-- ---- in the state behind

module _ (x e : ℕ) (base : List Line) (N : Seen) (more : List Body) (are : N.lines ≡ base ++ numbered e more)
    (none : AllByRecursion (λ (b : Body). calls_commit b ≡ false) more) where
  uncalled : (p : ℕ) → length base ≤ p → NoneBetween calls_commit N.lines p (length N.lines)
  uncalled p le = subst (λ (ls : List Line). NoneBetween calls_commit ls p (length N.lines)) (sym are)
      (none_said calls_commit e more none base p (length N.lines) le)

  -- no commit is called by these lines
  pub from_behind : (f : Fixed) (begun : List Action) (S : State) → SeesLocks f x begun S N → IsGoodOf begun N → Agrees f x begun N.sent →
      AreTied f x N.lines S → (p : ℕ) → length base ≤ p → p ≤ length N.lines
      → ((n : ℕ) (test : Row → Bool) → list_any test (locks_in x (memory_of (N.nodes n))) ≡ true →
      list_any test (table n (take p N.lines)) ≡ true) → IsNamed f x begun S N.lines p → IsPlaced f x begun S N.lines p
  from_behind f begun S sees good agrees tied p le within shown named = place_here f x begun S N sees good agrees tied N.lines p
      (take_all N.lines) (omega arith) (inr (within, uncalled p le)) shown S stay named

  -- and naming's rows are as they will be
  pub named_behind : (f : Fixed) (begun : List Action) (S : State) → SeesLocks f x begun S N → IsGoodOf begun N → Agrees f x begun N.sent →
      AreUppersOf HoldsNames begun N → AreTied f x N.lines S → (p : ℕ) → length base ≤ p → p ≤ length N.lines
      → ((test : Row → Bool) → list_any test (names_in x N) ≡ true → list_any test (table 1 (take p N.lines)) ≡ true) →
      IsNamed f x begun S N.lines p
  named_behind f begun S sees good agrees names tied p le within shown = named_here f x begun S N sees good agrees names tied N.lines p
      (take_all N.lines) (omega arith) (inr (within, uncalled p le)) shown S stay

-- at the end of all lines
module _ (f : Fixed) (x : ℕ) (begun : List Action) (S : State) (N : Seen) (sees : SeesLocks f x begun S N) (tied : AreTied f x N.lines S)
    (p : ℕ) (same : p ≡ length N.lines) where
  nothing_behind : NoneBetween calls_commit N.lines p (length N.lines)
  nothing_behind j l from less is = absurd (omega (arith, from, less, same))

  pub at_the_end : IsGoodOf begun N → Agrees f x begun N.sent → ((n : ℕ) (test : Row → Bool) → list_any test (locks_in x (memory_of (N.nodes
      n))) ≡ true → list_any test (table n (take p N.lines)) ≡ true) → IsNamed f x begun S N.lines p → IsPlaced f x begun S N.lines p
  at_the_end good agrees shown named = place_here f x begun S N sees good agrees tied N.lines p (take_all N.lines) (omega arith)
      (inr (omega (arith, same), nothing_behind)) shown S stay named

  pub named_at_the_end : IsGoodOf begun N → Agrees f x begun N.sent → AreUppersOf HoldsNames begun N → ((test : Row → Bool) →
      list_any test (names_in x N) ≡ true → list_any test (table 1 (take p N.lines)) ≡ true) → IsNamed f x begun S N.lines p
  named_at_the_end good agrees names shown = named_here f x begun S N sees good agrees names tied N.lines p (take_all N.lines) (omega arith)
      (inr (omega (arith, same), nothing_behind)) shown S stay

-- ---- behind the ends of a message

-- what is known behind some of the ends that came to a server
pub record AtFront (v : View) (s : Server) (S : State) (pre : List (Uid × End)) : Type 0 where
  pub servers : ℕ → machine.Server
  pub to : Run S (record S { server = servers })
  pub incs : (n : ℕ) → (let a = servers n in a.incarnation) ≡ (let b = S.server n in b.incarnation)
  pub actives : (n : ℕ) → (let a = servers n in a.active) ≡ (let b = S.server n in b.active)
  pub others : (n : ℕ) → n ≢ v.node → servers n ≡ S.server n
  pub sees : SeesRows (let g = v.family in
      g.act) (object v.x) (server_rows v.x (let d = apply_ends v.node pre s in d.part)) (let a = servers v.node in a.rows)
  pub known : (r : Row) → Contains (server_rows v.x (let d = apply_ends v.node pre s in d.part)) r →
      (a : Action) × Contains (let g = v.family in g.begun) a × (r.holder ≡ uids_of a.path)

module _ (v : View) (s : Server) (S : State) (sees : Sees v s S) (first_sees : SeesRows (let g = v.family in
    g.act) (object v.x) (server_rows v.x s) (let a = S.server v.node in a.rows)) (first_known : (r : Row) → Contains (server_rows v.x s) r →
    (a : Action) × Contains (let g = v.family in g.begun) a × (r.holder ≡ uids_of a.path)) where
  -- where none came
  nothing_came : (pre post : List (Uid × End)) → [] ≡ pre ++ post → AtFront v s S pre
  nothing_came [] post are = record {
    servers = S.server;
    to = stay;
    incs = λ n. refl;
    actives = λ n. refl;
    others = λ n off. refl;
    sees = first_sees;
    known = first_known;
  }
  nothing_came (e ∷ es) post are = absurd (cc are)

  told_fronts : (m : Message) → IsTellingShown v s S m → (pre post : List (Uid × End)) → ends_by m None ≡ pre ++ post → AtFront v s S pre
  told_fronts (message.Told m) shown pre post are = record {
    servers = front_servers v m.ends s S shown sees pre post are;
    to = front_run v m.ends s S shown sees pre post are;
    incs = front_incs v m.ends s S shown sees pre post are;
    actives = front_actives v m.ends s S shown sees pre post are;
    others = front_others v m.ends s S shown sees pre post are;
    sees = front_sees v m.ends s S shown sees pre post are;
    known = front_known v m.ends s S shown sees pre post are;
  }
  told_fronts m shown pre post are = nothing_came pre post are

  asked_fronts : (m : Message) (h : Head) (a : Ask) → IsAskingShown v s S m (Some (h, a)) → (pre post : List (Uid × End)) →
      ends_by m (Some (h, a)) ≡ pre ++ post → AtFront v s S pre
  asked_fronts m h (ask.Invoke x b i ends op) shown pre post are =
      let brought : AreBrought v ends s S =
      record { whole = shown.whole; server = shown.server; ordered = shown.fits.2; shown = shown.shown } in
      record {
        servers = front_servers v ends s S brought sees pre post are;
        to = front_run v ends s S brought sees pre post are;
        incs = front_incs v ends s S brought sees pre post are;
        actives = front_actives v ends s S brought sees pre post are;
        others = front_others v ends s S brought sees pre post are;
        sees = front_sees v ends s S brought sees pre post are;
        known = front_known v ends s S brought sees pre post are;
      }
  asked_fronts m h (ask.Vote i ties ends) shown pre post are =
      let brought : AreBrought v ends s S =
      record { whole = shown.whole; server = shown.server; ordered = shown.fits.2; shown = shown.shown } in
      record {
        servers = front_servers v ends s S brought sees pre post are;
        to = front_run v ends s S brought sees pre post are;
        incs = front_incs v ends s S brought sees pre post are;
        actives = front_actives v ends s S brought sees pre post are;
        others = front_others v ends s S brought sees pre post are;
        sees = front_sees v ends s S brought sees pre post are;
        known = front_known v ends s S brought sees pre post are;
      }
  asked_fronts m h a shown pre post are = nothing_came pre post are

  -- behind each front of a message's ends
  pub at_fronts : (m : Message) (o : Option (Head × Ask)) → IsAskingShown v s S m o → (pre post : List (Uid × End)) →
      ends_by m o ≡ pre ++ post → AtFront v s S pre
  at_fronts m None shown pre post are = told_fronts m shown pre post are
  at_fronts m (Some a) shown pre post are = asked_fronts m a.0 a.1 shown pre post are
