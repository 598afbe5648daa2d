-- A call is locked for at each place at which the machine was seen, also where a few lines stand between the two.
use Rattle.arj_law_parts.proofs.Words
use Words.{◌≡◌, ◌⊎◌, ◌≤◌, ◌<◌, ◌∙◌, ◌+◌, ℕ, suc, List, [], ◌∷◌, Bool, true, false, Option, Some, None, slice_get, refl, sym, ap, subst, inl}
use Words.{inr, arith, ⊎_elim, Contains, list_all, list_any, Row, entry, object, In, Body, Line, IsWrittenIn, locks_call, locks_entry}
use Words.body
use Rattle.arj_law_serial.proofs.Terms
use Terms.{Act, Placed, acts_after, chain_in, committed, has_end, put, read, top_in, uids, Said, Top, said_of, tops, Inclusion, included}
use Terms.{included_of, Values, unit_place, unit_end, new_book, called_of, AreRight, mode, Server, State, Run, roots_low, start_low}
use Terms.{SeesRows, AreRowsSeen, IsHeldByUpper, IsSeenAt, ran_at, Began, IsTied, path_of}
use Rattle.arj_law_serial.proofs.holding.{Calling.answers_call, Machine.inner_held, Marks.NoneBetween}
use Rattle.arj_law_serial.proofs.order
use order.{Joins.written_in, Order.IsShown, Order.top_item}
use order.Locks.{closes, entries_by, found_call, here, last_top, m, objects_by, same_node, survives_on, tie, unit_last, zero_yet}
use Rattle.arj_law_serial.proofs.whole.CalledSays.{calls_commit}
use Rattle.arj_model.specs.Calls.{Call}

-- the line of an item that was read
pub read_line : {A : Type 0} (f : List Act → Body → Option A) (us : List Act) (n : ℕ) (ls : List Line) (s : Placed A) → In s
    (read f us n ls) → (j : ℕ) × (l : Line) × (s.at ≡ n + j) × (slice_get ls j ≡ Some l) × ((vs : List Act) × (f vs l.body ≡ Some s.it))
read_line f us n [] s i = absurd i
read_line {A} f us n (l ∷ ls) s i = by (f us l.body) refl i (read_line f (acts_after us l.body) (n + 1) ls s)
  where
    by : (o : Option A) → f us l.body ≡ o → In s (put n o (read f (acts_after us l.body) (n + 1) ls)) →
        (In s (read f (acts_after us l.body) (n + 1) ls) →
        (j : ℕ) × (k : Line) × (s.at ≡ n + 1 + j) × (slice_get ls j ≡ Some k) × ((vs : List Act) × (f vs k.body ≡ Some s.it)))
        → (j : ℕ) × (k : Line) × (s.at ≡ n + j) × (slice_get (l ∷ ls) j ≡ Some k) × ((vs : List Act) × (f vs k.body ≡ Some s.it))
    by (Some a) e (inl is) ih =
        (0, l, (let p = ap (λ (z : Placed A). z.at) is in omega (arith, p)), refl, (us, e ∙ ap Some (ap (λ (z : Placed A). z.it) is)))
    by (Some a) e (inr j) ih = let r = ih j in (suc r.0, r.1, (let p = r.2 in omega (arith, p)), r.3, r.4)
    by None e j ih = let r = ih j in (suc r.0, r.1, (let p = r.2 in omega (arith, p)), r.3, r.4)

said_answers : (us : List Act) (b : Body) (s : Said) → said_of us b ≡ Some s → answers_call b ≡ true
said_answers us (body.Ok l x o a) s e = refl
said_answers us b s e = absurd (cc e)

included_answers : (us : List Act) (b : Body) (s : Inclusion) → included_of us b ≡ Some s → answers_call b ≡ true
included_answers us (body.Includes l x n) s e = refl
included_answers us b s e = absurd (cc e)

called_commits : (us : List Act) (b : Body) (n : ℕ) → called_of us b ≡ Some n → calls_commit b ≡ true
called_commits us (body.Committing l) n e = refl
called_commits us b n e = absurd (cc e)

not_both : (b : Bool) → b ≡ true → b ≡ false → ⊥
not_both true a e = cc e
not_both false a e = cc a

before_or : (m n : ℕ) → (m < n) ⊎ (n ≤ m)
before_or m n = grind arith

-- Between an answer and a commit call a place at which none is answered, or none called, beside this one stands between them, too.
pub within_both : (lines : List Line) (at end front p : ℕ) → (l : Line) × (slice_get lines at ≡ Some l) × (answers_call l.body ≡ true) →
    (l : Line) × (slice_get lines end ≡ Some l) × (calls_commit l.body ≡ true) → at < p → p ≤ end
    → ((front ≤ p) × NoneBetween answers_call lines front p) ⊎ ((p ≤ front) × NoneBetween calls_commit lines p front) →
    (at < front) × (front ≤ end)
within_both lines at end front p a z behind in_unit place = ⊎_elim
    (λ (b : (front ≤ p) × NoneBetween answers_call lines front p). (
      ⊎_elim (λ (less : at < front). less)
          (λ (le : front ≤ at). absurd (not_both (let l = a.0 in answers_call l.body) a.2 (b.1 at a.0 le behind a.1))) (before_or at front),
      (let e = b.0 in omega (arith, e, in_unit)),
    ))
    (λ (b : (p ≤ front) × NoneBetween calls_commit lines p front). (
      (let e = b.0 in omega (arith, e, behind)),
      ⊎_elim (λ (less : end < front). absurd (not_both (let l = z.0 in calls_commit l.body) z.2 (b.1 end z.0 in_unit less z.1)))
          (λ (le : front ≤ end). le) (before_or end front),
    ))
    place

module _ (values : Values) (lines : List Line) (right : AreRight new_book lines) (x : ℕ) (T : State) (t : IsTied values lines x T)
    (c : Call) (s : IsShown values lines right x T (tie values lines right x T t) c) where
  -- its line answers it
  answer_line : (l : Line) × (slice_get lines c.at ≡ Some l) × (answers_call l.body ≡ true)
  answer_line =
      let r = read_line said_of [] 0 lines s.item s.item_there in
      let at : r.0 ≡ c.at = (let i = s.is in let a = i.line in let b = s.line in let e = r.2 in omega (arith, a, b, e)) in
      let q = r.4 in
      (r.1, (λ i. slice_get lines (sym at i)) ∙ r.3, said_answers q.0 (let l = r.1 in l.body) (let z = s.item in z.it) q.1)

  -- at the end of its unit a commit is called
  commit_line : (l : Line) × (slice_get lines (unit_end lines c) ≡ Some l) × (calls_commit l.body ≡ true)
  commit_line =
      let u = last_top values lines right x T t c s in
      let item = top_item lines right u.0 u.1 in
      let placed : Placed ℕ = record { at = (let q = u.0 in q.at); it = (let a = item.act in a.id) } in
      let r = read_line called_of [] 0 lines placed item.call in
      let at : r.0 ≡ unit_end lines c = (let e = r.2 in let g = u.3 in omega (arith, e, g)) in
      let q = r.4 in
      (r.1, (λ i. slice_get lines (sym at i)) ∙ r.3, called_commits q.0 (let l = r.1 in l.body) (let a = item.act in a.id) q.1)

  -- a place within its unit, and one at which the machine was seen
  module _ (front p : ℕ) (behind : c.at < p) (in_unit : p ≤ unit_end lines c)
      (place : ((front ≤ p) × NoneBetween answers_call lines front p) ⊎ ((p ≤ front) × NoneBetween calls_commit lines p front)) where
    pub is_within : (c.at < front) × (front ≤ unit_end lines c)
    is_within = within_both lines c.at (unit_end lines c) front p answer_line commit_line behind in_unit place

    -- The entry is for its unit in rows which show what naming had there, by actions of the journal that aren't nested.
    pub entry_there : (seen : IsSeenAt values lines x T t front) (names : List Row) →
        ((r : Row) → Contains names r → r.object ≡ entry x → IsHeldByUpper lines r) →
        SeesRows t.act (entry x) names (let z = seen.state in let n = z.naming in n.rows) → list_any (locks_entry lines c) names ≡ true
    entry_there seen names askers sees = let w = is_within in entries_by values lines right x T t front seen c s w.0 w.1 names askers sees

    module _ (seen : IsSeenAt values lines x T t front) (servers : ℕ →
        Server) (to : Run seen.state (record seen.state { server = servers }))
        (incs : (n : ℕ) → (let a = servers n in a.incarnation) ≡ (let z = seen.state in let b = z.server n in b.incarnation))
        (actives : (n : ℕ) → (let a = servers n in a.active) ≡ (let z = seen.state in let b = z.server n in b.active)) where
      -- The call is locked for in rows which show what these servers have, and of which those on the object are by paths of the journal.
      pub locked_there : (rows : ℕ → List Row) → ((n : ℕ) (r : Row) → Contains (rows n) r → r.object ≡ object x → (b : Act) × Began lines b
          × (r.holder ≡ uids (path_of lines b))) → ((n : ℕ) → SeesRows t.act (object x) (rows n) (let a = servers n in a.rows))
          → list_any (locks_call lines c) (rows (ran_at values lines x T t c)) ≡ true
      locked_there rows holders sees =
          let w = is_within in
          let f = found_call values lines right x T t front seen c s w.0 w.1 in
          let node = ran_at values lines x T t c in
          let same = same_node values lines right x T t front seen c s w.0 w.1 in
          let h = inner_held seen.behind (here values lines right x T t front seen c s w.0 w.1) (roots_low seen.before (start_low t.first))
          f.0 (m values lines right x T t front seen c s w.0 w.1) f.1
          (survives_on values lines right x T t front seen c s w.0 w.1) (closes values lines right x T t front seen c s w.0 w.1)
          (zero_yet values lines right x T t front seen c s w.0 w.1) servers to incs actives in
          objects_by values lines right x T t front seen c s w.0 w.1 (rows node) (holders node) (let a = servers node in
          a.rows) (sees node) h.0 h.1 (subst (λ (n : ℕ). mode (let e = f.0 in e.write) ≤ (let a = servers n in a.rows h.0)) same h.2)

-- ---- includes

-- at the last place of a unit that has one a commit is called
pub unit_line : (lines : List Line) → AreRight new_book lines → (r p : ℕ) → 0 < p → p ≤ unit_place (tops lines) r →
    (l : Line) × (slice_get lines (unit_place (tops lines) r) ≡ Some l) × (calls_commit l.body ≡ true)
unit_line lines right r p some within =
    ⊎_elim (λ (none : unit_place (tops lines) r ≡ 0). absurd (omega (arith, some, within, none))) found (unit_last (tops lines) r)
  where
    found : (u : Top) × In u (tops lines) × (u.root ≡ r) × (u.at ≡ unit_place (tops lines) r) →
        (l : Line) × (slice_get lines (unit_place (tops lines) r) ≡ Some l) × (calls_commit l.body ≡ true)
    found u =
        let item = top_item lines right u.0 u.1 in
        let placed : Placed ℕ = record { at = (let q = u.0 in q.at); it = (let a = item.act in a.id) } in
        let z = read_line called_of [] 0 lines placed item.call in
        let at : z.0 ≡ unit_place (tops lines) r = (let e = z.2 in let g = u.3 in omega (arith, e, g)) in
        let q = z.4 in
        (z.1, (λ i. slice_get lines (sym at i)) ∙ z.3, called_commits q.0 (let l = z.1 in l.body) (let a = item.act in a.id) q.1)

-- the line that answers it
include_line : (lines : List Line) (i : Placed Inclusion) → In i (included lines) →
    (l : Line) × (slice_get lines i.at ≡ Some l) × (answers_call l.body ≡ true)
include_line lines i there =
    let z = read_line included_of [] 0 lines i there in
    let at : z.0 ≡ i.at = (let e = z.2 in omega (arith, e)) in
    let q = z.4 in
    (z.1, (λ j. slice_get lines (sym at j)) ∙ z.3, included_answers q.0 (let l = z.1 in l.body) i.it q.1)

module _ (values : Values) (lines : List Line) (right : AreRight new_book lines) (x : ℕ) (T : State) (t : IsTied values lines x T) (u : Top)
    (listed : In u (tops lines)) (i : Placed Inclusion) (there : In i (included lines)) (object : i.it.x ≡ x) (a : Act)
    (its_top : top_in i.it.path ≡ Some a) (number : a.id ≡ u.id)
    (ended : list_all (λ (b : Act). has_end (committed lines) b.id) (chain_in i.it.path) ≡ true) (front p : ℕ) (behind : i.at < p)
    (in_unit : p ≤ unit_place (tops lines) u.root)
    (place : ((front ≤ p) × NoneBetween answers_call lines front p) ⊎ ((p ≤ front) × NoneBetween calls_commit lines p front)) where
  include_within : (i.at < front) × (front ≤ unit_place (tops lines) u.root)
  include_within = within_both lines i.at (unit_place (tops lines) u.root) front p (include_line lines i there)
      (unit_line lines right u.root p (omega (arith, behind)) in_unit) behind in_unit place

  -- the entry is written for its unit in rows that were seen in naming
  pub written_there : (seen : IsSeenAt values lines x T t front) (rows : ℕ → List Row) (names : List Row) →
      AreRowsSeen t.act lines x rows names (let z = seen in z.state) → IsWrittenIn lines names u x
  written_there seen rows names sees = let w = include_within in
      written_in values lines right x T t front seen u listed i there object a its_top number ended w.0 w.1 rows names sees
