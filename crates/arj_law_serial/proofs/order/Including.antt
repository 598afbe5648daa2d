-- Tops that write an object or include a store of it take turns, by the journal.
use Rattle.arj_law_parts.proofs.Words
use Words.{Contains, ◌≡◌, ◌≢◌, ◌⊎◌, ◌<◌, ◌≤◌, ℕ, ◌+◌, ◌==◌, ◌&&◌, ◌||◌, List, [], ◌∷◌, filter, Bool, true, false, cond, Option, Some, None}
use Words.{refl, sym, ◌∙◌, ap, subst, inl, inr, ⊎_elim, arith, eqb-true, eq-eqb, AllByRecursion, list_all, and_parts, last_uid, Uid}
use Words.{writes, Body, Line, name, in_to, In, in_filter_map, in_from, Header, Wrote}
use Rattle.arj_law_serial.proofs.Terms
use Terms.{Act, Placed, acts, acts_after, chain_in, committed, has_end, put, read, top_in, uids, Top, committed_calls, tops, Inclusion}
use Terms.{included, included_of, joins_by, joins_of, Values, unit_place, Book, book_from, new_book, turned, IsDone, AreRight, Right}
use Terms.{AreSound, acts_turn, its_acts, its_sound, counts_of, Done, first_values, on, root, top, Closes, State, Survives, on_top, top_of}
use Terms.{top_root, Acts, IsIncludeOf, included_on, AreDecided, AreDecisions, ChangersHaveTurns, DecideChanges, HaveTurns, IsInTurn}
use Terms.{Joined, IsTied, path_of}
use Terms.body
use Terms.machine
use Terms.state
use Rattle.arj_law_lock_view.specs.journal.Lines.{AreIncludesOf}
use Rattle.arj_law_runs.proofs.journal.Books.{never}
use Rattle.arj_law_serial.proofs.order.Includes.{call_then_include, include_then_call, include_then_include}
use Rattle.arj_law_serial.proofs.order.Items.{HasMaker, maker_at}
use Rattle.arj_law_serial.proofs.order.Locks.{tie, unit_last}
use Rattle.arj_law_serial.proofs.order.Order.{call_before, IsTopOf, before_top, is_top_in, its_top, one_root, one_unit, place_in}
use Rattle.arj_law_serial.proofs.order.Order.{same_number, shown, stage_of_top, top_item, unit_behind}
use Rattle.arj_law_serial.proofs.order.Paths.{own_last, parts, top_on}
use Rattle.arj_law_serial.proofs.order.Ties.{Tie, Ties}
use Rattle.arj_law_serial.proofs.order.Timely.{as_calls, run_too, start_too}
use Rattle.arj_law_serial.proofs.order.Turning.{in_decided_order, writers_turn}
use Rattle.arj_law_serial.proofs.order.Tying.{done_survives, in_all, member, on_it}
use Rattle.arj_law_serial.proofs.order.Values.{in_reversed, to_filter}

-- whose an include is
included_from : (B : Book) (n : ℕ) (ls : List Line) → AreRight B ls → (s : Placed Inclusion) → In s (read included_of B.acts n ls) →
    HasMaker (let V = book_from B ls in V.acts) s.it.path
included_from B n [] right s i = absurd i
included_from B n (l ∷ ls) right s i = by l.body right.0 right.1 i (λ j.
    included_from (turned B l.body) (n + 1) ls right.1 s (subst (λ xs. In s (read included_of xs (n + 1) ls)) (sym (acts_turn B l.body)) j))
  where
    by : (b : Body) → Right B b → AreRight (turned B b) ls → In s (put n (included_of B.acts b)
        (read included_of (acts_after B.acts b) (n + 1) ls)) → (In s (read included_of (acts_after B.acts b) (n + 1) ls) →
        HasMaker (let V = book_from (turned B b) ls in V.acts) s.it.path) → HasMaker (let V = book_from (turned B b) ls in V.acts) s.it.path
    by (body.Includes m x k) (a, opened, quiet) rest (inl is) ih = subst (λ (z : Placed Inclusion). HasMaker (let V = book_from
        (turned B (body.Includes m x k)) ls in V.acts) z.it.path) is (maker_at B (body.Includes m x k) ls (name m) a rest refl opened.named)
    by (body.Includes m x k) r rest (inr j) ih = ih j
    by b r rest j ih = ih j

called_so : (ks : List state.Include) (k : state.Include) → machine.In k ks →
    machine.In (record { act = k.act; write = false; line = k.line; sees = 0; gives = 0 }) (as_calls ks)
called_so [] k i = absurd i
called_so (y ∷ ys) k (inl is) =
    inl (ap (λ (z : state.Include). record { act = z.act; write = false; line = z.line; sees = 0; gives = 0 }) is)
called_so (y ∷ ys) k (inr i) = inr (called_so ys k i)

module _ (values : Values) (lines : List Line) (right : AreRight new_book lines) (x : ℕ) (S : State) (t : IsTied values lines x S) where
  abbrev its : Tie values lines x S
  its = tie values lines right x S t

  sound : AreSound (acts lines)
  sound = its_sound lines right

  pub find_include : (act : Acts) (is : List (Placed Inclusion)) (ks : List state.Include) → AreIncludesOf act is ks →
      (i : Placed Inclusion) → In i is → (k : state.Include) × machine.In k ks × IsIncludeOf act i k
  find_include act [] ks are i j = absurd j
  find_include act (y ∷ is) [] are i j = absurd are
  find_include act (y ∷ is) (k ∷ ks) are i (inl same) = (k, inl refl, subst (λ (z : Placed Inclusion). IsIncludeOf act z k) same are.0)
  find_include act (y ∷ is) (k ∷ ks) are i (inr j) = let r = find_include act is ks are.1 i j in (r.0, inr r.1, r.2)

  -- A change of the object by a top: where its line stands, and which action of the machine made it.
  pub record IsChange (u : Top) (item : IsTopOf lines u) (a : machine.Act) (at : ℕ) : Type 0 where
    pub survives : Survives S a
    pub its_top_is : top a ≡ t.act (let b = item.act in b.uid)
    pub before : at < u.at

  pub root_of_change : (u : Top) (item : IsTopOf lines u) (a : machine.Act) (at : ℕ) → IsChange u item a at →
      root a ≡ root (t.act (let b = item.act in b.uid))
  root_of_change u item a at c = sym (top_root a) ∙ ap root c.its_top_is

  -- a surviving include in the machine
  record IsJoin (u : Top) (item : IsTopOf lines u) : Type 0 where
    include : state.Include
    there : machine.In include S.includes
    at : ℕ
    line : include.line ≡ at + 1
    change : IsChange u item include.act at

  -- an include that survives in a committed top is one of the machine's
  pub join_of : (u : Top) (item : IsTopOf lines u) (i : Placed Inclusion) → In i (included lines) → i.it.x ≡ x → (a : Act) →
      top_in i.it.path ≡ Some a → a.id ≡ u.id → list_all (λ (y : Act). has_end (committed lines) y.id) (chain_in i.it.path) ≡ true
      → (k : state.Include) × machine.In k S.includes × IsIncludeOf t.act i k × IsChange u item k.act i.at
  join_of u item i j object a is number ended =
      let m : HasMaker (acts lines) i.it.path = subst (λ xs. HasMaker xs i.it.path) (its_acts lines right)
      (included_from new_book 0 lines right i j) in
      let l = t.tied in
      let k = find_include t.act (included_on x lines) S.includes l.includes i
      (in_reversed i (filter (λ (z : Placed Inclusion). z.it.x == x) (included lines)) []
      (inl (to_filter (λ (z : Placed Inclusion). z.it.x == x) i (included lines) j (eq-eqb i.it.x x object)))) in
      let made = k.2 in
      let top_is : top_in (path_of lines m.act) ≡ Some a = ap top_in (sym m.path_is) ∙ is in
      let a_there = member values lines right x S its m.act a (top_on (path_of lines m.act) a top_is) in
      let one : a ≡ item.act = same_number lines right a item.act a_there item.there (number ∙ sym item.number) in
      let caller : k.0.act ≡ t.act m.act.uid = made.by ∙ ap (λ w. t.act (last w)) m.path_is
      ∙ ap t.act (own_last (acts lines) sound.distinct sound.formed m.act m.there) in
      let survives : Survives S k.0.act = subst (Survives S) (sym caller)
      (done_survives values lines right x S its m.act m.there (λ b h plain. ⊎_elim
      (λ (same_top : a ≡ b). subst (IsDone lines) (sym one ∙ same_top) item.done)
      (λ below. or_yes (has_end (committed lines) b.id) _ (in_all (λ (y : Act). has_end (committed lines) y.id) (chain_in i.it.path) ended b
      (subst (λ w. In b (chain_in w)) (sym m.path_is) below)))
      (parts (path_of lines m.act) a b top_is h plain))) in
      let its_top_is : top k.0.act ≡ t.act item.act.uid =
      top_of k.0.act (t.act item.act.uid) (is_top_in values lines right x S its item.act item.there item.kind)
      (ap (λ z. on z (t.act item.act.uid)) caller ∙ on_it values lines right x S its m.act item.act m.there
      (subst (λ z. In z (path_of lines m.act)) one (top_on (path_of lines m.act) a top_is))) in
      let timely = run_too its.run (start_too (its.code (values x) its.writer)) in
      let stage = stage_of_top values lines right x S its u item in
      let early = timely.places (record { act = k.0.act; write = false; line = k.0.line; sees = 0; gives = 0 }) (t.act item.act.uid)
      (called_so S.includes k.0 k.1) (subst (λ z. on k.0.act z ≡ true) its_top_is (on_top k.0.act))
      (is_top_in values lines right x S its item.act item.there item.kind) (omega (arith, stage)) (omega (arith, stage)) in
      let place = place_in values lines right x S its u item in
      let line = made.line in (
        k.0,
        k.1,
        made,
        record {
          survives = survives;
          its_top_is = its_top_is;
          before = (let z : k.0.line < (S.action (t.act item.act.uid)).place = early in omega (arith, z, place, line));
        },
      )
    where
      last : List Act → Uid
      last w = last_uid (uids w)

      or_yes : (b c : Bool) → b ≡ true → (b || c) ≡ true
      or_yes b c e = ap (λ d. d || c) e

  joined : (u : Top) → In u (tops lines) → (item : IsTopOf lines u) → Joined lines x u → IsJoin u item
  joined u listed item (n, here) =
      let f = in_filter_map (λ (i : Placed Inclusion). joins_by (committed lines) u.id x i (top_in i.it.path)) n (included lines)
      (in_from n (joins_of lines u.id x) here) in
      by f.0 f.1 (top_in f.0.it.path) refl f.2
    where
      by : (i : Placed Inclusion) → In i (included lines) → (o : Option Act) → top_in i.it.path ≡ o →
          joins_by (committed lines) u.id x i o ≡ Some n → IsJoin u item
      by i j None is e = absurd (cc e)
      by i j (Some a) is e =
          test ((a.id == u.id) && ((i.it.x == x) && list_all (λ (y : Act). has_end (committed lines) y.id) (chain_in i.it.path))) refl e
        where
          test : (b : Bool) → ((a.id == u.id) && ((i.it.x == x) && list_all (λ (y : Act). has_end (committed lines) y.id)
              (chain_in i.it.path))) ≡ b → cond b (Some i.it.node) None ≡ Some n → IsJoin u item
          test false same g = absurd (cc g)
          test true same g =
              let p = and_parts (a.id == u.id)
              ((i.it.x == x) && list_all (λ (y : Act). has_end (committed lines) y.id) (chain_in i.it.path)) same in
              let q = and_parts (i.it.x == x) (list_all (λ (y : Act). has_end (committed lines) y.id) (chain_in i.it.path)) p.1 in
              let k = join_of u item i j (eqb-true i.it.x x q.0) a is (eqb-true a.id u.id p.0) q.1 in
              let made = k.2 in
              record { include = k.0; there = k.1; at = i.at; line = made.line; change = k.3 }

  -- a surviving write in the machine
  record IsWrite (u : Top) (item : IsTopOf lines u) : Type 0 where
    call : state.Call
    there : machine.In call S.calls
    at : ℕ
    line : call.line ≡ at + 1
    change : IsChange u item call.act at

  wrote : (u : Top) → In u (tops lines) → (item : IsTopOf lines u) → Wrote lines x u → IsWrite u item
  wrote u listed item (c, here, write, whose) =
      let object = eqb-true c.x x (and_parts (c.x == x) (writes c.op) write).0 in
      let s = shown values lines right x S its c (in_from c (committed_calls lines) here) object in
      let i = s.top_of_it in
      let one : i.act ≡ item.act = same_number lines right i.act item.act i.there item.there
      (i.number ∙ sym s.top_number ∙ whose ∙ sym item.number) in
      let top_is : top s.call.act ≡ t.act item.act.uid = its_top values lines right x S its c s ∙ ap (λ (z : Act). t.act z.uid) one in
      let early = before_top values lines right x S its c s in
      let p = place_in values lines right x S its s.number i in
      let q = place_in values lines right x S its u item in
      let same : (S.action (t.act i.act.uid)).place ≡ (S.action (t.act item.act.uid)).place = ap
      (λ (z : Act). (S.action (t.act z.uid)).place) one in
      record {
        call = s.call;
        there = s.there;
        at = c.at;
        line = s.line;
        change = record { survives = s.survives; its_top_is = top_is; before = (omega (arith, early, p, q, same)) };
      }

  -- ---- the last member of a unit

  pub record IsLastOf (u : Top) (item : IsTopOf lines u) (a : machine.Act) : Type 0 where
    pub last : machine.Act
    pub closes : Closes S last a
    pub place : (S.action last).place ≡ unit_place (tops lines) u.root + 1

  pub last_of : (u : Top) → In u (tops lines) → (item : IsTopOf lines u) → (a : machine.Act) (at : ℕ) → IsChange u item a at →
      IsLastOf u item a
  last_of u listed item a at c = ⊎_elim
      (λ none. made u item refl (let l = unit_behind (tops lines) u listed in let z : u.at ≡ 0 = omega (arith, l, none) in z ∙ sym none))
      (λ found. made found.0 (top_item lines right found.0 found.1) found.2 found.3) (unit_last (tops lines) u.root)
    where
      made : (w : Top) (i : IsTopOf lines w) → w.root ≡ u.root → w.at ≡ unit_place (tops lines) u.root → IsLastOf u item a
      made w i same at =
          let p = place_in values lines right x S its w i in
          let q = place_in values lines right x S its u item in
          let l = unit_behind (tops lines) u listed in
          let own : (S.action (top a)).place ≡ (S.action (t.act item.act.uid)).place = ap (λ z. (S.action z).place) c.its_top_is in
          record {
            last = t.act i.act.uid;
            closes = (
              (is_top_in values lines right x S its i.act i.there i.kind, stage_of_top values lines right x S its w i),
              one_unit values lines right x S its w u i item same ∙ sym (root_of_change u item a _ c),
              (omega (arith, own, p, q, l, at)),
            );
            place = p ∙ ap (λ n. n + 1) at;
          }

  -- ---- turns

  module _ (u w : Top) (iu : In u (tops lines)) (iw : In w (tops lines)) (called : u.at < w.at) (other : (u.root == w.root) ≡ false) where
    abbrev ui : IsTopOf lines u
    ui = top_item lines right u iu

    abbrev wi : IsTopOf lines w
    wi = top_item lines right w iw

    apart : (a b : machine.Act) (m n : ℕ) → IsChange u ui a m → IsChange w wi b n → root a ≢ root b
    apart a b m n c d e = never (eq-eqb u.root w.root
        (one_root values lines right x S its u w ui wi (sym (root_of_change u ui a m c) ∙ e ∙ root_of_change w wi b n d))) other

    behind : u.at ≤ unit_place (tops lines) u.root
    behind = unit_behind (tops lines) u iu

    behind_too : w.at ≤ unit_place (tops lines) w.root
    behind_too = unit_behind (tops lines) w iw

    le_cases : (m n : ℕ) → (m ≤ n) ⊎ (n < m)
    le_cases m n = grind arith

    join_then_write : IsJoin u ui → IsWrite w wi → unit_place (tops lines) u.root < w.at
    join_then_write j k = by (le_cases j.at k.at)
      where
        lu : IsLastOf u ui (let i = j.include in i.act)
        lu = last_of u iu ui (let i = j.include in i.act) j.at j.change

        lw : IsLastOf w wi (let i = k.call in i.act)
        lw = last_of w iw wi (let i = k.call in i.act) k.at k.change

        by : (j.at ≤ k.at) ⊎ (k.at < j.at) → unit_place (tops lines) u.root < w.at
        by (inl first) =
            let c = j.change in let d = k.change in let l = j.line in let m = k.line in let p = lu.place in let q = lw.place in
            let b = d.before in
            let r = include_then_call (its.code (values x) its.writer) S its.run j.include k.call lu.last lw.last j.there k.there
            (omega (arith, first, l, m)) c.survives d.survives (apart _ _ j.at k.at c d) lu.closes lw.closes
            (omega (arith, m, q, b, behind_too)) in
            omega (arith, r, p, m, b)
        by (inr later) =
            let c = j.change in let d = k.change in let l = j.line in let m = k.line in let p = lu.place in let q = lw.place in
            let b = c.before in
            let r = call_then_include (its.code (values x) its.writer) S its.run k.call j.include lw.last lu.last k.there j.there
            (omega (arith, later, l, m)) d.survives c.survives (apart _ _ j.at k.at c d) lw.closes lu.closes
            (omega (arith, l, p, b, behind)) in
            absurd (omega (arith, r, q, l, b, behind_too, called))

    write_then_join : IsWrite u ui → IsJoin w wi → unit_place (tops lines) u.root < w.at
    write_then_join k j = by (le_cases j.at k.at)
      where
        lu : IsLastOf u ui (let i = k.call in i.act)
        lu = last_of u iu ui (let i = k.call in i.act) k.at k.change

        lw : IsLastOf w wi (let i = j.include in i.act)
        lw = last_of w iw wi (let i = j.include in i.act) j.at j.change

        turned_apart : root (let i = j.include in i.act) ≢ root (let i = k.call in i.act)
        turned_apart e = apart (let i = k.call in i.act) (let i = j.include in i.act) k.at j.at k.change j.change (sym e)

        by : (j.at ≤ k.at) ⊎ (k.at < j.at) → unit_place (tops lines) u.root < w.at
        by (inl first) =
            let c = k.change in let d = j.change in let l = j.line in let m = k.line in let p = lu.place in let q = lw.place in
            let b = c.before in
            let r = include_then_call (its.code (values x) its.writer) S its.run j.include k.call lw.last lu.last j.there k.there
            (omega (arith, first, l, m)) d.survives c.survives turned_apart lw.closes lu.closes (omega (arith, m, p, b, behind)) in
            absurd (omega (arith, r, q, m, b, behind_too, called))
        by (inr later) =
            let c = k.change in let d = j.change in let l = j.line in let m = k.line in let p = lu.place in let q = lw.place in
            let b = d.before in
            let r = call_then_include (its.code (values x) its.writer) S its.run k.call j.include lu.last lw.last k.there j.there
            (omega (arith, later, l, m)) c.survives d.survives turned_apart lu.closes lw.closes (omega (arith, l, q, b, behind_too)) in
            omega (arith, r, p, l, b)

    join_then_join : IsJoin u ui → IsJoin w wi → unit_place (tops lines) u.root < w.at
    join_then_join j k = by (le_cases j.at k.at)
      where
        lu : IsLastOf u ui (let i = j.include in i.act)
        lu = last_of u iu ui (let i = j.include in i.act) j.at j.change

        lw : IsLastOf w wi (let i = k.include in i.act)
        lw = last_of w iw wi (let i = k.include in i.act) k.at k.change

        by : (j.at ≤ k.at) ⊎ (k.at < j.at) → unit_place (tops lines) u.root < w.at
        by (inl first) =
            let c = j.change in let d = k.change in let l = j.line in let m = k.line in let p = lu.place in let q = lw.place in
            let b = d.before in
            let r = include_then_include (its.code (values x) its.writer) S its.run j.include k.include lu.last lw.last j.there k.there
            (omega (arith, first, l, m)) c.survives d.survives (apart _ _ j.at k.at c d) lu.closes lw.closes
            (omega (arith, m, q, b, behind_too)) in
            omega (arith, r, p, m, b)
        by (inr later) =
            let c = j.change in let d = k.change in let l = j.line in let m = k.line in let p = lu.place in let q = lw.place in
            let b = c.before in
            let r = include_then_include (its.code (values x) its.writer) S its.run k.include j.include lw.last lu.last k.there j.there
            (omega (arith, later, l, m)) d.survives c.survives (λ e. apart _ _ j.at k.at c d (sym e)) lw.closes lu.closes
            (omega (arith, l, p, b, behind)) in
            absurd (omega (arith, r, q, l, b, behind_too, called))

  pub changers_turn : Ties values lines → ChangersHaveTurns lines x
  changers_turn all u w iu iw a b called = by (u.root == w.root) refl a b
    where
      hu : In u (tops lines)
      hu = in_from u (tops lines) iu

      hw : In w (tops lines)
      hw = in_from w (tops lines) iw

      by : (r : Bool) → (u.root == w.root) ≡ r → Wrote lines x u ⊎ Joined lines x u → Wrote lines x w ⊎ Joined lines x w →
          IsInTurn lines u w
      by true is c d = inl (eqb-true u.root w.root is)
      by false is (inl c) (inl d) = writers_turn values lines right all x u w iu iw c d called
      by false is (inl c) (inr d) =
          inr (write_then_join u w hu hw called is (wrote u hu (top_item lines right u hu) c) (joined w hw (top_item lines right w hw) d))
      by false is (inr c) (inl d) =
          inr (join_then_write u w hu hw called is (joined u hu (top_item lines right u hu) c) (wrote w hw (top_item lines right w hw) d))
      by false is (inr c) (inr d) =
          inr (join_then_join u w hu hw called is (joined u hu (top_item lines right u hu) c) (joined w hw (top_item lines right w hw) d))

-- ---- decisions

module _ (header : Header) (lines : List Line) (right : AreRight new_book lines) (all : Ties (first_values header) lines) (x : ℕ)
    (S : State) (t : IsTied (first_values header) lines x S) (ds : List Done) (d : DecideChanges header lines x ds) where
  its_those : (es : List Done) (ts : List Top) → AreDecisions (first_values header) lines x es ts → (u : Top) → In u ts →
      Contains (tops lines) u
  its_those [] [] are u i = absurd i
  its_those [] (v ∷ ts) are u i = absurd are
  its_those (e ∷ es) [] are u i = absurd are
  its_those (e ∷ es) (v ∷ ts) are u (inl is) = subst (Contains (tops lines)) is (let q = are.0 in q.listed)
  its_those (e ∷ es) (v ∷ ts) are u (inr i) = its_those es ts are.1 u i

  each_counts : (ts : List Top) → ((u : Top) → In u ts → d.counts u ≡ true) → AllByRecursion (λ (u : Top). d.counts u ≡ true) ts
  each_counts [] f = tt
  each_counts (v ∷ ts) f = (f v (inl refl), each_counts ts (λ u i. f u (inr i)))

  turns : HaveTurns header lines x d.counts d.those
  turns = record {
    called = d.called;
    listed = λ u c. (its_those (filter counts_of ds) d.those d.each u (in_from u d.those c), (d.counted u c).0);
    all = λ u c counts. d.all u c (inl counts);
    turns = λ u w c e called. changers_turn (first_values header) lines right x S t all u w
        (its_those (filter counts_of ds) d.those d.each u (in_from u d.those c))
        (its_those (filter counts_of ds) d.those d.each w (in_from w d.those e)) (d.counted u c).1 (d.counted w e).1 called;
    idle = d.idle;
  }

  pub are_decided : AreDecided header lines x ds
  are_decided = record {
    those = d.those;
    each = d.each;
    called = d.called;
    counts = d.counts;
    counted = each_counts d.those (λ u i. (d.counted u (in_to u d.those i)).0);
    order = in_decided_order header lines right x d.counts d.those turns;
    all = λ e there write.
        let b = call_before (first_values header) lines right all e (in_from e (committed_calls lines) there) in
        (b.0, d.all b.0 (in_to b.0 (tops lines) b.1) (inr (e, there, write, b.2)), b.2);
  }
