-- Places of a journal at which the lock machine was seen, with rows of the tables there.
use Rattle.arj_law_parts.proofs.Words
use Words.{◌≡◌, ◌⊎◌, ◌≤◌, ◌++◌, ℕ, List, [], Bool, true, Option, Some, None, length, take, refl, sym, ap, subst, inl, inr, arith, Contains}
use Words.{list_any, Row, object, in_from, Line, uids_of, Copy, Disk, rows_in_copy, Parts, at_number, Node, Seen}
use Rattle.arj_law_serial.proofs.Terms
use Terms.{table, Action, IsGoodOf, IsMemory, IsUp, Run, start, stay, Server, State, go_on, SeesRows, held_in, SeesObject, View, Agrees}
use Terms.{Fixed, view_of, SeesDown, SeesLocks, SeesMemory, AreTied, AreUppersOf, locks_in, memory_of, HoldsNames}
use Rattle.arj_law_parts.specs.parts.Servers.{KnowsActions}
use Rattle.arj_law_serial.proofs.holding
use holding.{Acted.AreWider, Calling.answers_call}
use holding.Marks.{NoneBetween, longer, none_more, take_front}
use holding.Names.{IsNamed, known_wider, named_later, named_wider, names_in, names_known, naming_seen}
use Rattle.arj_law_serial.proofs.whole.CalledSays.{calls_commit}

-- At this place the object's machine was seen, in a state on its way to the present one, at a place between which and this one no call is
-- answered, or no commit is called; and from that state ends alone lead to servers whose locks are rows of the tables here. So it is with
-- naming.
pub record IsPlaced (f : Fixed) (x : ℕ) (begun : List Action) (S : State) (lines : List Line) (p : ℕ) : Type 0 where
  pub front : ℕ
  pub within : front ≤ length lines
  pub state : State
  pub run : Run (start f.first) state
  pub behind : Run state S
  pub tied : AreTied f x (take front lines) state
  pub place : ((front ≤ p) × NoneBetween answers_call lines front p) ⊎ ((p ≤ front) × NoneBetween calls_commit lines p front)
  pub servers : ℕ → Server
  pub to : Run state (record state { server = servers })
  pub incs : (n : ℕ) → (let a = servers n in a.incarnation) ≡ (let b = state.server n in b.incarnation)
  pub actives : (n : ℕ) → (let a = servers n in a.active) ≡ (let b = state.server n in b.active)
  pub rows : ℕ → List Row
  pub sees : (n : ℕ) → SeesRows f.act (object x) (rows n) (let a = servers n in a.rows)
  pub known : (n : ℕ) (r : Row) → Contains (rows n) r → (a : Action) × Contains begun a × (r.holder ≡ uids_of a.path)
  pub shown : (n : ℕ) (test : Row → Bool) → list_any test (rows n) ≡ true → list_any test (table n (take p lines)) ≡ true
  pub named : IsNamed f x begun S lines p

-- so it is with more actions
pub placed_wider : (f : Fixed) (x : ℕ) (begun more : List Action) (S : State) (lines : List Line) (p : ℕ) → AreWider begun more →
    IsPlaced f x begun S lines p → IsPlaced f x more S lines p
placed_wider f x begun more S lines p wider h = record {
  front = h.front;
  within = h.within;
  state = h.state;
  run = h.run;
  behind = h.behind;
  tied = h.tied;
  place = h.place;
  servers = h.servers;
  to = h.to;
  incs = h.incs;
  actives = h.actives;
  rows = h.rows;
  sees = h.sees;
  known = λ n r i. known_wider begun more wider r (h.known n r i);
  shown = h.shown;
  named = named_wider f x begun more S lines p wider h.named;
}

-- and so it stays
pub placed_later : (f : Fixed) (x : ℕ) (begun more : List Action) (S T : State) (lines behind : List Line) (p : ℕ) → AreWider begun more →
    Run S T → p ≤ length lines → IsPlaced f x begun S lines p → IsPlaced f x more T (lines ++ behind) p
placed_later f x begun more S T lines behind p wider run le h = record {
  front = h.front;
  within = longer lines behind h.front h.within;
  state = h.state;
  run = h.run;
  behind = go_on h.behind run;
  tied = subst (λ ls. AreTied f x ls h.state) (sym (take_front lines behind h.front h.within)) h.tied;
  place = by h.place;
  servers = h.servers;
  to = h.to;
  incs = h.incs;
  actives = h.actives;
  rows = h.rows;
  sees = h.sees;
  known = λ n r i. known_wider begun more wider r (h.known n r i);
  shown = λ n test any. subst (λ ls. list_any test (table n ls) ≡ true) (sym (take_front lines behind p le)) (h.shown n test any);
  named = named_later f x begun more S T lines behind p wider run le h.named;
}
  where
    by : ((h.front ≤ p) × NoneBetween answers_call lines h.front p) ⊎ ((p ≤ h.front) × NoneBetween calls_commit lines p h.front) →
        ((h.front ≤ p) × NoneBetween answers_call (lines ++ behind) h.front p)
        ⊎ ((p ≤ h.front) × NoneBetween calls_commit (lines ++ behind) p h.front)
    by (inl before) = inl (before.0, none_more answers_call lines behind h.front p le before.1)
    by (inr after) = inr (after.0, none_more calls_commit lines behind p h.front h.within after.1)

-- ---- where the object is seen

zero_least : (n m : ℕ) → m ≡ 0 → m ≤ n
zero_least n m e = omega (arith, e)

module _ (f : Fixed) (x : ℕ) (begun : List Action) (S : State) (M : Seen) (sees : SeesLocks f x begun S M) where
  abbrev view : ℕ → View
  view n = view_of f x begun n

  none_down : (n : ℕ) (d : Disk) → SeesDown (view n) S d → (rows : List Row) → SeesRows f.act (object x) rows (let s = S.server n in s.rows)
  none_down n d down rows a = let e : (let s = S.server n in s.rows a) ≡ 0 = (let s = down.server in
      ap (λ (m : Server). m.rows a) s.empty) in zero_least (held_in f.act (object x) a rows) (let s = S.server n in s.rows a) e

  none_copied : (n i : ℕ) (o : Option Copy) → SeesObject f.act f.code x i o (S.server n) S →
      SeesRows f.act (object x) (rows_in_copy o) (let s = S.server n in s.rows)
  none_copied n i None has = λ a. zero_least 0 (let s = S.server n in s.rows a) (has.2 a)
  none_copied n i (Some c) has = let copy = has.0 in copy.rows

  served : (n : ℕ) (d : Disk) (live : Option Parts) → SeesMemory (view n) S d live →
      SeesRows f.act (object x) (locks_in x live) (let s = S.server n in s.rows)
  served n d None down = none_down n d down []
  served n d (Some t) up = let s = up.server in
      none_copied n (let v = t.server in v.inc) (at_number x (let v = t.server in v.objects)) s.object

  -- its machine has no rows but the locks of its nodes
  pub servers_seen : (n : ℕ) → SeesRows f.act (object x) (locks_in x (memory_of (M.nodes n))) (let s = S.server n in s.rows)
  servers_seen n = by (M.nodes n) refl
    where
      by : (o : Option Node) → M.nodes n ≡ o → SeesRows f.act (object x) (locks_in x (memory_of o)) (let s = S.server n in s.rows)
      by None is = let a = sees.absent n is in none_down n a.0 a.1 []
      by (Some m) is = served n m.disk m.live (sees.nodes n m is)

  module _ (good : IsGoodOf begun M) (agrees : Agrees f x begun M.sent) where
    -- these are of actions that were begun
    pub rows_known : (n : ℕ) (r : Row) → Contains (locks_in x (memory_of (M.nodes n))) r →
        (a : Action) × Contains begun a × (r.holder ≡ uids_of a.path)
    rows_known n r there = by (M.nodes n) refl there
      where
        knows : (m : Node) (t : Parts) → M.nodes n ≡ Some m → m.live ≡ Some t → KnowsActions begun t.server
        knows m t is up =
            let p = good.places n m is in
            let u : IsUp begun M.sent M.labels n m.disk.inc t = subst (IsMemory begun M.sent M.labels n m.disk.inc) up p.memory in
            let tree = agrees.whole in
            let node = u.good f.paths tree.tree tree.agree in
            node.knows

        copied : (t : Parts) → KnowsActions begun t.server → (o : Option Copy) → at_number x (let v = t.server in v.objects) ≡ o →
            Contains (rows_in_copy o) r → (a : Action) × Contains begun a × (r.holder ≡ uids_of a.path)
        copied t known None is i = absurd (in_from r [] i)
        copied t known (Some c) is i = let a = known.rows x c r is i in (a.0, a.1, a.2)

        live_rows : (m : Node) → M.nodes n ≡ Some m → (o : Option Parts) → m.live ≡ o → Contains (locks_in x o) r →
            (a : Action) × Contains begun a × (r.holder ≡ uids_of a.path)
        live_rows m is None down i = absurd (in_from r [] i)
        live_rows m is (Some t) up i = copied t (knows m t is up) (at_number x (let v = t.server in v.objects)) refl i

        by : (o : Option Node) → M.nodes n ≡ o → Contains (locks_in x (memory_of o)) r →
            (a : Action) × Contains begun a × (r.holder ≡ uids_of a.path)
        by None is i = absurd (in_from r [] i)
        by (Some m) is i = live_rows m is m.live refl i

    -- A place at which the table has naming's rows as they are now: here, or where no call is answered or no commit called between.
    pub named_here : AreUppersOf HoldsNames begun M → (tied : AreTied f x M.lines S) (lines : List Line) (p : ℕ) →
        take (length M.lines) lines ≡ M.lines → length M.lines ≤ length lines
        → ((length M.lines ≤ p) × NoneBetween answers_call lines (length M.lines) p)
        ⊎ ((p ≤ length M.lines) × NoneBetween calls_commit lines p (length M.lines))
        → ((test : Row → Bool) → list_any test (names_in x M) ≡ true → list_any test (table 1 (take p lines)) ≡ true) → (T : State) →
        Run S T → IsNamed f x begun T lines p
    named_here names tied lines p front le place shown T run = record {
      front = length M.lines;
      within = le;
      state = S;
      run = sees.run;
      behind = run;
      tied = subst (λ ls. AreTied f x ls S) (sym front) tied;
      place = place;
      rows = names_in x M;
      sees = naming_seen f x begun S M sees;
      known = names_known x begun M names;
      shown = shown;
      locks = λ n. locks_in x (memory_of (M.nodes n));
      locks_seen = servers_seen;
      locks_known = rows_known;
    }

    -- A place whose rows are those of nodes now: here, or where no call is answered or no commit called between.
    pub place_here : (tied : AreTied f x M.lines S) (lines : List Line) (p : ℕ) → take (length M.lines) lines ≡ M.lines →
        length M.lines ≤ length lines
        → ((length M.lines ≤ p) × NoneBetween answers_call lines (length M.lines) p)
        ⊎ ((p ≤ length M.lines) × NoneBetween calls_commit lines p (length M.lines))
        → ((n : ℕ) (test : Row → Bool) → list_any test (locks_in x (memory_of (M.nodes n))) ≡ true → list_any test
        (table n (take p lines)) ≡ true) → (T : State) → Run S T → IsNamed f x begun T lines p → IsPlaced f x begun T lines p
    place_here tied lines p front le place shown T run named = record {
      front = length M.lines;
      within = le;
      state = S;
      run = sees.run;
      behind = run;
      tied = subst (λ ls. AreTied f x ls S) (sym front) tied;
      place = place;
      servers = S.server;
      to = stay;
      incs = λ n. refl;
      actives = λ n. refl;
      rows = λ n. locks_in x (memory_of (M.nodes n));
      sees = servers_seen;
      known = rows_known;
      shown = shown;
      named = named;
    }
