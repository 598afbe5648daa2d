-- The entry of an object stays locked for writing for each surviving include, to the last commit call of its unit.
use Rattle.arj_law_parts.proofs.Words
use Words.{◌≡◌, ◌⊎◌, ◌<◌, ◌≤◌, ℕ, ◌==◌, ◌&&◌, List, take, true, Some, sym, ◌∙◌, ap, subst, inl, inr, ⊎_elim, arith, eq-eqb, list_all}
use Words.{uid_is, Row, last_uid, entry, uid_eq, is_write, Line, In, in_from, in_to, IsWrittenIn, is_upper_of, writes_entry}
use Rattle.arj_law_serial.proofs.Terms
use Terms.{Act, Placed, acts, chain_in, committed, has_end, root_in, top_in, Top, root_or, tops, Inclusion, included, included_of, Values}
use Terms.{unit_place, new_book, AreRight, root, Closes, IsEntryWritten, OfUnit, State, Survives, Holds, run_keeps, start_holds}
use Terms.{is_entry_written, roots_low, start_low, held_in, IsIncludeOf, included_on, AreRowsSeen, IsSeenAt, IsTied, path_of}
use Terms.machine
use Terms.state
use Rattle.arj_law_serial.proofs.order
use order.{Values.in_reversed, Values.to_filter}
use order.Including.{IsChange, IsLastOf, find_include, join_of, last_of, root_of_change}
use order.Locks.{any_in, both_true, find_row, its_number, read_taken, run_place, taken_length, write_mode}
use order.Order.{IsTopOf, head_of, top_item}

module _ (values : Values) (lines : List Line) (right : AreRight new_book lines) (x : ℕ) (T : State) (t : IsTied values lines x T) (p : ℕ)
    (seen : IsSeenAt values lines x T t p) (u : Top) (listed : In u (tops lines)) (i : Placed Inclusion) (there : In i (included lines))
    (object : i.it.x ≡ x) (a : Act) (its_top : top_in i.it.path ≡ Some a) (number : a.id ≡ u.id)
    (ended : list_all (λ (b : Act). has_end (committed lines) b.id) (chain_in i.it.path) ≡ true)
    (behind : i.at < p) (in_unit : p ≤ unit_place (tops lines) u.root) where
  abbrev S : State
  S = seen.state

  here : Holds S
  here = run_keeps seen.before (start_holds t.first)

  item : IsTopOf lines u
  item = top_item lines right u listed

  found : (k : state.Include) × machine.In k T.includes × IsIncludeOf t.act i k × IsChange values lines right x T t u item k.act i.at
  found = join_of values lines right x T t u item i there object a its_top number ended

  -- the include, as the state has it
  now : (k : state.Include) × machine.In k S.includes × IsIncludeOf t.act i k
  now =
      let l = seen.tied in
      find_include values lines right x T t t.act (included_on x (take p lines)) S.includes l.includes i
      (in_reversed i _ _ (inl (to_filter (λ (z : Placed Inclusion). z.it.x == x) i (included (take p lines))
      (read_taken included_of _ 0 lines p i there (omega (arith, behind))) (eq-eqb i.it.x x object))))

  same_act : (let k = now.0 in k.act) ≡ (let k = found.0 in k.act)
  same_act = let b = now.2 in let c = found.2 in b.by ∙ sym c.by

  last : IsLastOf values lines right x T t u item (let k = found.0 in k.act)
  last = last_of values lines right x T t u listed item (let k = found.0 in k.act) i.at found.3

  -- the last commit isn't called yet
  zero_yet : (S.action last.last).stage ≡ 0
  zero_yet = ⊎_elim (λ zero. zero) (λ one.
      let c = last.closes in
      let tops_of = here.tops last.last c.0.0 in
      let before = tops_of.before in
      let place = run_place seen.behind here last.last one in
      let l = seen.tied in
      let till = l.now in
      let few = taken_length p lines in
      let at = last.place in
      absurd (omega (arith, before, place, till, few, at, in_unit))) (cases (S.action last.last).stage)
    where
      cases : (n : ℕ) → (n ≡ 0) ⊎ (1 ≤ n)
      cases n = grind arith

  written : IsEntryWritten S now.0
  written = let c = found.3 in is_entry_written seen.behind here (roots_low seen.before (start_low t.first)) now.0 last.last now.1
      (subst (Survives T) (sym same_act) c.survives) (subst (Closes T last.last) (sym same_act) last.closes) zero_yet

  module _ (rows : ℕ → List Row) (names : List Row) (sees : AreRowsSeen t.act lines x rows names S) where
    pub written_in : IsWrittenIn lines names u x
    written_in =
        let less : 2 ≤ held_in t.act (entry x) written.0 names = (let q = written.2 in let b = sees.naming written.0 in
        omega (arith, q, b)) in
        let r = find_row t.act (entry x) written.0 2 names (omega arith) less in
        let h = sees.askers r.row (in_to r.row names r.there) (uid_is (let w = r.row in w.object) (entry x) r.of_object) in
        let b = in_from h.0 (acts lines) h.1 in
        let stands : root (t.act h.0.uid) ≡ root (t.act (let z = item.act in z.uid)) = ap (λ v. root (t.act v)) (sym h.2) ∙ ap root r.holder
        ∙ unit_root written.0 written.1 ∙ ap root same_act
        ∙ root_of_change values lines right x T t u item (let k = found.0 in k.act) i.at found.3 in
        any_in (writes_entry lines x u.root) r.row names r.there
        (both_true (uid_eq (let w = r.row in w.object) (entry x))
        (is_upper_of lines u.root (last_uid (let w = r.row in w.holder)) && is_write (let w = r.row in w.mode)) r.of_object
        (both_true (is_upper_of lines u.root (last_uid (let w = r.row in w.holder))) (is_write (let w = r.row in w.mode))
        (ap (is_upper_of lines u.root) h.2 ∙ its_number values lines right x T t h.0 b h.3 u.root (let pl = t.places in
        pl.units h.0 item.act h.1 (in_to item.act (acts lines) item.there) stands ∙ root_number))
        (write_mode (let w = r.row in w.mode) r.strong)))
      where
        unit_root : (h : machine.Act) → OfUnit (let k = now.0 in k.act) h → root h ≡ root (let k = now.0 in k.act)
        unit_root h (inl is) = ap root is
        unit_root h (inr (is, e)) = e

        -- the root's number
        root_number : root_in (path_of lines item.act) ≡ Some u.root
        root_number = let h = head_of lines right item.act item.there in
            h.2 ∙ ap Some (ap (root_or item.act.id) (sym h.2) ∙ sym item.root_is)
