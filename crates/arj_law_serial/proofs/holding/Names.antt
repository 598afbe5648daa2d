-- Places of a journal at which naming's rows on the object's entry were seen in the lock machine, as the table of node 1 has them there.
use Rattle.arj_law_parts.proofs.Words
use Words.{◌≡◌, ◌≢◌, ◌⊎◌, ◌≤◌, ◌∙◌, ◌++◌, ℕ, List, [], Bool, true, Option, Some, None, length, take, refl, sym, ap, subst, inl, inr, arith}
use Words.{Contains, is_some, list_any, Row, last_uid, entry, object, in_from, Line, uids_of, Disk, rows_in_named, Named, Naming, Parts}
use Words.{at_number, Node, Seen}
use Words.kind
use Rattle.arj_law_serial.proofs.Terms
use Terms.{table, Action, act_of, IsEntryRow, Run, start, State, go_on, SeesNothing, SeesNamingIn, SeesRows, held_in, AreUpper, AreUppersOf}
use Terms.{HaveUpper, Fixed, view_of, SeesLocks, SeesMemory, AreTied, entry_locks_in, memory_of, named_locks, HoldsNames}
use Rattle.arj_law_disk_view.proofs.view.Notes.{all_at}
use Rattle.arj_law_serial.proofs.{holding.Acted.AreWider, holding.Calling.answers_call, whole.CalledSays.calls_commit}
use Rattle.arj_law_serial.proofs.holding.Marks.{NoneBetween, longer, none_more, take_front}

-- the row is held by an action that was begun, and isn't nested
abbrev pub IsOfUpper : List Action → Row → Type 0
IsOfUpper begun r = (a : Action) × Contains begun a × (last_uid r.holder ≡ act_of a) × (a.kind ≢ kind.Nested)

-- At this place the object's machine was seen, in a state on its way to the present one, at a place between which and this one no call is
-- answered, or no commit is called; and in that state naming had rows on the entry that the table of node 1 shows here, and servers had
-- locks.
pub record IsNamed (f : Fixed) (x : ℕ) (begun : List Action) (S : State) (lines : List Line) (p : ℕ) : Type 0 where
  pub front : ℕ
  pub within : front ≤ length lines
  pub state : State
  pub run : Run (start f.first) state
  pub behind : Run state S
  pub tied : AreTied f x (take front lines) state
  pub place : ((front ≤ p) × NoneBetween answers_call lines front p) ⊎ ((p ≤ front) × NoneBetween calls_commit lines p front)
  pub rows : List Row
  pub sees : SeesRows f.act (entry x) rows (let n = state.naming in n.rows)
  pub known : (r : Row) → Contains rows r → IsOfUpper begun r
  pub shown : (test : Row → Bool) → list_any test rows ≡ true → list_any test (table 1 (take p lines)) ≡ true
  pub locks : ℕ → List Row
  pub locks_seen : (n : ℕ) → SeesRows f.act (object x) (locks n) (let a = state.server n in a.rows)
  pub locks_known : (n : ℕ) (r : Row) → Contains (locks n) r → (a : Action) × Contains begun a × (r.holder ≡ uids_of a.path)

pub known_wider : (begun more : List Action) → AreWider begun more → (r : Row) →
    ((a : Action) × Contains begun a × (r.holder ≡ uids_of a.path)) → (a : Action) × Contains more a × (r.holder ≡ uids_of a.path)
known_wider begun more wider r k = let w = wider k.0 k.1 in (w.0, w.1, k.2 ∙ w.2)

asker_wider : (begun more : List Action) → AreWider begun more → (r : Row) → IsOfUpper begun r → IsOfUpper more r
asker_wider begun more wider r k = let w = wider k.0 k.1 in (w.0, w.1, k.2 ∙ ap last_uid w.2, λ nested. k.3 (w.3 ∙ nested))

-- so it is with more actions
pub named_wider : (f : Fixed) (x : ℕ) (begun more : List Action) (S : State) (lines : List Line) (p : ℕ) → AreWider begun more →
    IsNamed f x begun S lines p → IsNamed f x more S lines p
named_wider f x begun more S lines p wider h = record {
  front = h.front;
  within = h.within;
  state = h.state;
  run = h.run;
  behind = h.behind;
  tied = h.tied;
  place = h.place;
  rows = h.rows;
  sees = h.sees;
  known = λ r i. asker_wider begun more wider r (h.known r i);
  shown = h.shown;
  locks = h.locks;
  locks_seen = h.locks_seen;
  locks_known = λ n r i. known_wider begun more wider r (h.locks_known n r i);
}

-- and so it stays
pub named_later : (f : Fixed) (x : ℕ) (begun more : List Action) (S T : State) (lines behind : List Line) (p : ℕ) → AreWider begun more →
    Run S T → p ≤ length lines → IsNamed f x begun S lines p → IsNamed f x more T (lines ++ behind) p
named_later f x begun more S T lines behind p wider run le h = record {
  front = h.front;
  within = longer lines behind h.front h.within;
  state = h.state;
  run = h.run;
  behind = go_on h.behind run;
  tied = subst (λ ls. AreTied f x ls h.state) (sym (take_front lines behind h.front h.within)) h.tied;
  place = by h.place;
  rows = h.rows;
  sees = h.sees;
  known = λ r i. asker_wider begun more wider r (h.known r i);
  shown = λ test any. subst (λ ls. list_any test (table 1 ls) ≡ true) (sym (take_front lines behind p le)) (h.shown test any);
  locks = h.locks;
  locks_seen = h.locks_seen;
  locks_known = λ n r i. known_wider begun more wider r (h.locks_known n r i);
}
  where
    by : ((h.front ≤ p) × NoneBetween answers_call lines h.front p) ⊎ ((p ≤ h.front) × NoneBetween calls_commit lines p h.front) →
        ((h.front ≤ p) × NoneBetween answers_call (lines ++ behind) h.front p)
        ⊎ ((p ≤ h.front) × NoneBetween calls_commit (lines ++ behind) p h.front)
    by (inl before) = inl (before.0, none_more answers_call lines behind h.front p le before.1)
    by (inr after) = inr (after.0, none_more calls_commit lines behind p h.front h.within after.1)

-- ---- where the object is seen

zero_least : (n m : ℕ) → m ≡ 0 → m ≤ n
zero_least n m e = omega (arith, e)

-- the locks on the entry at naming, as node 1 has them
abbrev pub names_in : ℕ → Seen → List Row
names_in x M = entry_locks_in x (memory_of (M.nodes 1))

module _ (f : Fixed) (x : ℕ) (begun : List Action) (S : State) (M : Seen) (sees : SeesLocks f x begun S M) where
  none_left : (d : Disk) → SeesNothing d.inc S → (rows : List Row) → SeesRows f.act (entry x) rows (let n = S.naming in n.rows)
  none_left d nothing rows a = zero_least (held_in f.act (entry x) a rows) (let n = S.naming in n.rows a) (nothing.empty a).0

  named_seen : (o : Option Naming) → is_some o ≡ true → SeesNamingIn (view_of f x begun 1) S o →
      SeesRows f.act (entry x) (named_locks x o) (let n = S.naming in n.rows)
  named_seen None none is = absurd (cc none)
  named_seen (Some n) there is = let s = is.seen in
      subst (λ (o : Option Named). SeesRows f.act (entry x) (rows_in_named o) (let n = S.naming in n.rows)) (sym is.there) s.rows

  named : (d : Disk) (live : Option Parts) → SeesMemory (view_of f x begun 1) S d live →
      SeesRows f.act (entry x) (entry_locks_in x live) (let n = S.naming in n.rows)
  named d None down = none_left d (down.naming refl) []
  named d (Some t) up = named_seen t.naming up.place up.naming

  -- the machine's naming has no rows but these
  pub naming_seen : SeesRows f.act (entry x) (names_in x M) (let n = S.naming in n.rows)
  naming_seen = by (M.nodes 1) refl
    where
      by : (o : Option Node) → M.nodes 1 ≡ o → SeesRows f.act (entry x) (entry_locks_in x (memory_of o)) (let n = S.naming in n.rows)
      by None is = let a = sees.absent 1 is in let down = a.1 in none_left a.0 (down.naming refl) []
      by (Some m) is = named m.disk m.live (sees.nodes 1 m is)

-- these are of actions that were begun, and aren't nested
pub names_known : (x : ℕ) (begun : List Action) (M : Seen) → AreUppersOf HoldsNames begun M → (r : Row) → Contains (names_in x M) r →
    IsOfUpper begun r
names_known x begun M names r there = by (M.nodes 1) refl there
  where
    of_row : AreUpper begun r.holder → IsEntryRow begun r → IsOfUpper begun r
    of_row upper (inl alone) = let a = (subst (AreUpper begun) alone.2 upper).0 in (a.0, a.1, ap last_uid alone.2 ∙ sym a.2, a.3)
    of_row upper (inr below) =
        (below.0, below.1, ap last_uid below.3, λ nested. let no_way : kind.Constituent ≡ kind.Nested = sym below.2 ∙ nested in cc no_way)

    held : (o : Option Named) (n : Naming) → HoldsNames begun n → at_number x n.objects ≡ o → Contains (rows_in_named o) r →
        IsOfUpper begun r
    held None n holds is i = absurd (in_from r [] i)
    held (Some o) n holds is i = of_row
        (all_at (λ (q : Named). HaveUpper begun q.rows) x n.objects o (let u = holds.objects.uppers in u.rows) is r i)
        (all_at (λ (q : Named). (s : Row) → Contains q.rows s → IsEntryRow begun s) x n.objects o holds.entries is r i)

    named_rows : (m : Node) (t : Parts) → M.nodes 1 ≡ Some m → m.live ≡ Some t → (o : Option Naming) → t.naming ≡ o →
        Contains (named_locks x o) r → IsOfUpper begun r
    named_rows m t is up None none i = absurd (in_from r [] i)
    named_rows m t is up (Some n) at i = held (at_number x n.objects) n (let q = names 1 m is in q.live t n up at) refl i

    live_rows : (m : Node) → M.nodes 1 ≡ Some m → (o : Option Parts) → m.live ≡ o → Contains (entry_locks_in x o) r → IsOfUpper begun r
    live_rows m is None down i = absurd (in_from r [] i)
    live_rows m is (Some t) up i = named_rows m t is up t.naming refl i

    by : (o : Option Node) → M.nodes 1 ≡ o → Contains (entry_locks_in x (memory_of o)) r → IsOfUpper begun r
    by None is i = absurd (in_from r [] i)
    by (Some m) is i = live_rows m is m.live refl i
