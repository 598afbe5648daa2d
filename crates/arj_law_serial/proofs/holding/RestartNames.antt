-- Where a node was to restart, naming's rows were seen at each of the event's lines: what was seen before them goes on.
use Rattle.arj_law_parts.proofs.Words
use Words.{◌≡◌, ◌⊎◌, ◌≤◌, ◌<◌, ◌∙◌, ◌&&◌, ℕ, zero, suc, List, [], ◌∷◌, Bool, true, false, cond, length, max, take, None, refl, sym, ap}
use Words.{subst, inl, inr, ⊎_elim, arith, Contains, ◌||◌, list_any, Row, last_uid, entry, uid_eq, in_from, Body, Line, Uid, at_place}
use Words.{World, numbered}
use Rattle.arj_law_serial.proofs.Terms
use Terms.{acts, table, Action, same, State, Acts, SeesRows, held_in, strength, Fixed, BeginNone, entry_locks_in, memory_of, rows_on}
use Terms.{AreShown}
use Terms.machine
use Rattle.arj_law_lock_view.proofs.running.TieSteps.{acts_none}
use Rattle.arj_law_serial.proofs.holding
use holding.{Acted.HasActs, Calling.answers_call, Names.IsNamed, Names.IsOfUpper, Points.never_row, Traces.none_said}
use holding.Marks.{NoneBetween, take_all, take_behind, take_front}
use holding.RestartPlaces.{Lately, none_answered, none_begun}
use Rattle.arj_law_serial.proofs.whole.CalledSays.{calls_commit}

-- ---- rows that aren't there

-- nobody has a lock by rows that are all on something else
none_held : (act : Acts) (o : Uid) (rows : List Row) → list_any (λ (r : Row). uid_eq r.object o) rows ≡ false → (a : machine.Act) →
    held_in act o a rows ≡ 0
none_held act o [] none a = refl
none_held act o (r ∷ rs) none a = by (uid_eq r.object o) none (λ rest. none_held act o rs rest a)
  where
    by : (b : Bool) → (b || list_any (λ (s : Row). uid_eq s.object o) rs) ≡ false → (list_any (λ (s : Row). uid_eq s.object o) rs ≡ false →
        held_in act o a rs ≡ 0) → max (cond (b && same (act (last_uid r.holder)) a) (strength r.mode) 0) (held_in act o a rs) ≡ 0
    by true is ih = absurd (cc is)
    by false is ih = ap (λ (m : ℕ). max 0 m) (ih is)

-- where none of the rows is on it there is none
none_on : (o : Uid) (rows : List Row) → rows_on o rows ≡ [] → list_any (λ (r : Row). uid_eq r.object o) rows ≡ false
none_on o [] none = refl
none_on o (r ∷ rs) none = by (uid_eq r.object o) none (none_on o rs)
  where
    by : (b : Bool) → cond b (r ∷ rows_on o rs) (rows_on o rs) ≡ [] → (rows_on o rs ≡ [] →
        list_any (λ (s : Row). uid_eq s.object o) rs ≡ false) → (b || list_any (λ (s : Row). uid_eq s.object o) rs) ≡ false
    by true is ih = absurd (cc is)
    by false is ih = ih is

-- ---- places

before_or : (m n : ℕ) → (m ≤ n) ⊎ (n < m)
before_or m n = grind arith

first_taken : (j : ℕ) (bs : List Body) → BeginNone bs → BeginNone (take j bs)
first_taken zero [] all = tt
first_taken (suc j) [] all = tt
first_taken zero (b ∷ bs) all = tt
first_taken (suc j) (b ∷ bs) all = (all.0, first_taken j bs all.1)

module _ (n e : ℕ) (w v : World) (shown : AreShown w) (l : Lately n e w v) where
  front_is : take (length w.lines) v.lines ≡ w.lines
  front_is = ap (take (length w.lines)) l.lines ∙ take_front w.lines (numbered e l.said) (length w.lines) (omega arith) ∙ take_all w.lines

  -- an action that began by then began before
  pub acted_before : (p : ℕ) → length w.lines ≤ p → HasActs (take p v.lines) → HasActs (take (length w.lines) v.lines)
  acted_before p le has none =
      let r = take_behind w.lines e l.said p le in
      has (ap acts (ap (take p) l.lines ∙ r.1) ∙ acts_none e (take r.0 l.said) w.lines (first_taken r.0 l.said (none_begun n l.said l.mute))
      ∙ ap acts (sym front_is) ∙ none)

  -- no call is answered by the event's lines
  unanswered : (a b : ℕ) → length w.lines ≤ a → NoneBetween answers_call v.lines a b
  unanswered a b le = subst (λ (ls : List Line). NoneBetween answers_call ls a b) (sym l.lines)
      (none_said answers_call e l.said (none_answered n l.said l.mute) w.lines a b le)

  -- a place beside the first of them is beside each
  place_on : (front p : ℕ) → length w.lines ≤ p → ((front ≤ length w.lines) × NoneBetween answers_call v.lines front (length w.lines))
      ⊎ ((length w.lines ≤ front) × NoneBetween calls_commit v.lines (length w.lines) front)
      → ((front ≤ p) × NoneBetween answers_call v.lines front p) ⊎ ((p ≤ front) × NoneBetween calls_commit v.lines p front)
  place_on front p le (inl before) = inl ((let b = before.0 in omega (arith, b, le)), none)
    where
      none : NoneBetween answers_call v.lines front p
      none j z from less is = ⊎_elim {C = answers_call z.body ≡ false} (λ (late : length w.lines ≤ j). unanswered (length w.lines) p
          (omega arith) j z late less is) (λ (early : j < length w.lines). before.1 j z from early is) (before_or (length w.lines) j)
  place_on front p le (inr after) =
      ⊎_elim {C = ((front ≤ p) × NoneBetween answers_call v.lines front p) ⊎ ((p ≤ front) × NoneBetween calls_commit v.lines p front)}
      (λ (late : p ≤ front). inr (late, (λ j z from less is. after.1 j z (omega (arith, le, from)) less is)))
      (λ (early : front < p). inl ((omega (arith, early)), unanswered front p after.0))
      (before_or p front)

  module _ (f : Fixed) (x : ℕ) (begun : List Action) (S : State) (h : IsNamed f x begun S v.lines (length w.lines)) (p : ℕ)
      (le : length w.lines ≤ p) where
    -- with these rows
    with_rows : (rows : List Row) → SeesRows f.act (entry x) rows (let z = h.state in let m = z.naming in m.rows) →
        ((r : Row) → Contains rows r → IsOfUpper begun r) →
        ((test : Row → Bool) → list_any test rows ≡ true → list_any test (table 1 (take p v.lines)) ≡ true) → IsNamed f x begun S v.lines p
    with_rows rows sees known shows = record {
      front = h.front;
      within = h.within;
      state = h.state;
      run = h.run;
      behind = h.behind;
      tied = h.tied;
      place = place_on h.front p le h.place;
      rows = rows;
      sees = sees;
      known = known;
      shown = shows;
      locks = h.locks;
      locks_seen = h.locks_seen;
      locks_known = h.locks_known;
    }

    -- where node 1 was down naming had none
    gone : memory_of (at_place 1 w.nodes) ≡ None → IsNamed f x begun S v.lines p
    gone down = with_rows [] (λ a. subst (λ (m : ℕ). (let z = h.state in let k = z.naming in k.rows a) ≤ m)
        (none_held f.act (entry x) h.rows (none (list_any (λ (r : Row). uid_eq r.object (entry x)) h.rows) refl) a) (h.sees a))
        (λ r i. absurd (in_from r [] i)) (λ test any. never_row test any)
      where
        in_table : list_any (λ (r : Row). uid_eq r.object (entry x)) (table 1 (take (length w.lines) v.lines)) ≡ false
        in_table = ap (λ (ls : List Line). list_any (λ (r : Row). uid_eq r.object (entry x)) (table 1 ls)) front_is
            ∙ none_on (entry x) (table 1 w.lines) ((let s = shown 1 in s.naming x refl) ∙ ap (entry_locks_in x) down)

        none : (b : Bool) → list_any (λ (r : Row). uid_eq r.object (entry x)) h.rows ≡ b →
            list_any (λ (r : Row). uid_eq r.object (entry x)) h.rows ≡ false
        none false is = is
        none true is = let no_way : true ≡ false = sym (h.shown (λ (r : Row). uid_eq r.object (entry x)) is) ∙ in_table in
            absurd (cc no_way)

    pub named_lately : IsNamed f x begun S v.lines p
    named_lately = ⊎_elim {C = IsNamed f x begun S v.lines p}
        (λ (still : (q : ℕ) → length w.lines ≤ q → table 1 (take q v.lines) ≡ table 1 w.lines). with_rows h.rows h.sees h.known (λ test any.
        subst (λ (rows : List Row). list_any test rows ≡ true) (ap (table 1) front_is ∙ sym (still p le)) (h.shown test any)))
        gone l.first
