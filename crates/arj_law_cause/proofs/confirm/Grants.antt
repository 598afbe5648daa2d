-- What naming's answer to a Bind says of the journal where it is made: whose lock it grants stands there, in naming's incarnation.
use Rattle.arj_law_parts.proofs.Words
use Words.{⊤, ◌≡◌, ◌≤◌, ◌∙◌, ◌==◌, ◌+◌, ◌++◌, ℕ, Bool, true, false, cond, List, [], ◌∷◌, Option, Some, None, IfSome, refl, sym, ap, subst}
use Words.{is_some}
use Words.{arith, option_map, eqb-true, eq-eqb, Ask, Binding, BoundReply, Head, Header, Line, Message, Path, Reply, Row, Start, Uid}
use Words.{asked_by}
use Words.{asks, at_number, at_uid, entry, last_uid, response, row_for, top_of, top_path, tops_of, void, Disk, Effect, Entry, Send, Served}
use Words.{Naming, Handled, Parts, Took, Void, if_naming, sends_answer, serve, served, with_naming, Grant, granted_by, is_over}
use Words.{listed_entry}
use Words.{put_number, Node, rows_in_named}
use Words.ask
use Words.bound
use Words.mode
use Words.naming
use Rattle.arj_law_lock_view.proofs.Terms.{same_number}
use Rattle.arj_law_lock_view.specs.moments.Made.{lines_behind}
use Rattle.arj_law_parts.proofs.moves.Happens.{Wide}
use Rattle.arj_law_parts.proofs.parts.Stands.{asked_has}
use Rattle.arj_law_parts.specs.moves.Moments.{Moment, up}
use Rattle.arj_law_parts.specs.moves.Seen as seen
use Rattle.arj_law_parts.specs.parts.Rows.{HasLock}
use Rattle.arj_law_serial.proofs.Terms.{ShowsLocks, named_locks, rows_on}
use Rattle.arj_law_serial.proofs.holding.Says.{All}
use Rattle.arj_law_serial.proofs.holding.Sorts.{is_no_start}
use Rattle.arj_model.specs.CauseAnswers.{has_lock}
use Rattle.arj_model.specs.Refusals.{incarnation}
use Rattle.arj_model.specs.Table.{table}
use Rattle.arj_promise.specs.Starts.{next_inc}
use Rattle.arj_protocol.proofs.Maps.{put_same}
use Rattle.arj_protocol.specs.Laws.{naming_rows}
use Rattle.arj_protocol.specs.Named as Named
use Rattle.arj_protocol.specs.Named.{Counted, Live, Made, bind_call, bind_made, bind_named, conflict_on, include_asked, live_above}
use Rattle.arj_protocol.specs.Named.{live_asked, made_above, make_asked}
use Rattle.arj_protocol.specs.Naming.{on_counted}
use Rattle.arj_law_cause.proofs.bindings.Counted.{IsCounted}
use Rattle.arj_law_cause.proofs.bindings.Said.{KnowsBindings}
use Rattle.arj_law_cause.proofs.rows.Differing.{behind_inc}
use Rattle.arj_law_cause.proofs.rows.Meeting.{lock_by}
use Rattle.arj_law_cause.proofs.rows.Telling.{outs_in, same_reply}

some_is : {A : Type 0} {a b : A} → Some a ≡ Some b → a ≡ b
some_is {A} {a} {b} is = let k : ◌≡◌ {A = Option A} (Some a) (Some b) = is in cc

none_is : {A P : Type 0} {x : A} → None ≡ Some x → P
none_is {A} {P} {x} is = let no_way : ◌≡◌ {A = Option A} None (Some x) = is in absurd (cc no_way)

-- ---- at naming

module _ (p : Path) (x inc : ℕ) where
  -- its top has a lock, which was granted in this incarnation
  abbrev pub Has : List Row → Grant → Type 0
  Has rows g = HasLock g.top 0 rows × (g.x ≡ x) × (g.least ≡ inc)

  abbrev Grants : Served Counted BoundReply → Type 0
  Grants r = (q : BoundReply) → r.reply ≡ Some q → (g : Grant) → granted_by (top_of p) x (Reply.Bound q) ≡ Some g →
      Has (let c = r.part in (let o = c.named in o.rows)) g

  its : (n : ℕ) (rows : List Row) → HasLock (top_of p) n rows → (b : Option Binding) (g : Grant) →
      Some (record { top = top_of p; x = x; least = inc; named = b }) ≡ Some g → Has rows g
  its n rows lock b g is =
      let e : record { top = top_of p; x = x; least = inc; named = b } ≡ g = some_is is in (
        subst (λ u. HasLock u 0 rows) (ap (λ (z : Grant). z.top) e) (lock.0, lock.1, lock.2, low n _ lock.3),
        sym (ap (λ (z : Grant). z.x) e),
        sym (ap (λ (z : Grant). z.least) e),
      )
    where
      low : (a b : ℕ) → a ≤ b → 0 ≤ b
      low a b le = omega arith

  refused : (c : Counted) (r : Row) → Grants (Named.refused_lock c r)
  refused c r q is g gr =
      none_is (ap (λ z. granted_by (top_of p) x (Reply.Bound z)) (some_is is) ∙ gr)

  named_grants : (include : Bool) (avoid : Binding) (e : Entry) (c : Counted) → Grants (bind_named inc x p include avoid e c)
  named_grants true avoid e c = λ q is g gr. by (conflict_on x p mode.Write c.named) q is g gr
    where
      by : (r : Option Row) → Grants (include_asked inc x p e c r)
      by None q is g gr = its 2 _ (asked_has (row_for (entry x) (top_path p) (tops_of p) mode.Write) (let o = c.named in o.rows)) None g
          (ap (λ z. granted_by (top_of p) x (Reply.Bound z)) (some_is is) ∙ gr)
      by (Some r) q is g gr = refused c r q is g gr
  named_grants false avoid e c = λ q is g gr. call (live_above avoid c.named.live) q is g gr
    where
      live : (l : Live) (f : Option Row) → Grants (live_asked inc x p e c l f)
      live l None q is g gr = its 0 _ (asked_has (row_for (entry x) (top_path p) (tops_of p) mode.Read) (let o = c.named in o.rows))
          (Some l.binding) g (ap (λ z. granted_by (top_of p) x (Reply.Bound z)) (some_is is) ∙ gr)
      live l (Some r) q is g gr = refused c r q is g gr

      made : (m : Option Made) → Grants (bind_made inc x p e c m)
      made None q is g gr = its 2 _ (asked_has (row_for (entry x) (top_path p) (tops_of p) mode.Write) (let o = c.named in o.rows))
          (Some (record { inc = inc; count = c.count + 1 })) g (ap (λ z. granted_by (top_of p) x (Reply.Bound z)) (some_is is) ∙ gr)
      made (Some m) q is g gr = its 2 _ (asked_has (row_for (entry x) (top_path p) (tops_of p) mode.Write) (let o = c.named in o.rows))
          (Some m.binding) g (ap (λ z. granted_by (top_of p) x (Reply.Bound z)) (some_is is) ∙ gr)

      make : (f : Option Row) → Grants (make_asked inc x p avoid e c f)
      make None q is g gr = made (made_above avoid (at_uid (top_of p) c.named.made)) q is g gr
      make (Some r) q is g gr = refused c r q is g gr

      call : (l : Option Live) → Grants (bind_call inc x p avoid e c l)
      call (Some l) q is g gr = live l (conflict_on x p mode.Read c.named) q is g gr
      call None q is g gr = make (conflict_on x p mode.Write c.named) q is g gr

pub bind_grants : (p : Path) (x : ℕ) (include : Bool) (avoid : Binding) (d : Words.Pair) (o : Naming) (q : BoundReply) →
    (naming.bind p x include avoid d o).reply ≡ Some q → (g : Grant) → granted_by (top_of p) x (Reply.Bound q) ≡ Some g →
    Has p x o.inc (naming_rows x (naming.bind p x include avoid d o).part) g
bind_grants p x include avoid d o q = by (is_over p o)
  where
    Says : Served Naming BoundReply → Type 0
    Says r = r.reply ≡ Some q → (g : Grant) → granted_by (top_of p) x (Reply.Bound q) ≡ Some g → Has p x o.inc (naming_rows x r.part) g

    found : (f : Option Named.Named) → Says (on_counted x (bind_named o.inc x p include avoid (listed_entry x d)) o f)
    found None is g gr = none_is is
    found (Some z) is g gr =
        let r = bind_named o.inc x p include avoid (listed_entry x d) (record { named = z; count = o.count }) in
        subst (λ f. Has p x o.inc (rows_in_named f) g) (sym (put_same x (let c = r.part in c.named) o.objects))
        (named_grants p x o.inc include avoid (listed_entry x d) (record { named = z; count = o.count }) q is g gr)

    by : (b : Bool) → Says (cond {A = Served Naming BoundReply} b (void o)
        (on_counted x (bind_named o.inc x p include avoid (listed_entry x d)) o (at_number x o.objects)))
    by true is g gr = none_is is
    by false is g gr = found (at_number x o.objects) is g gr

-- ---- what is said

-- whose lock the answer grants has one there, in that incarnation of naming's node, in which it was up
abbrev pub grants_so : Start → Head → ℕ → Reply → List Line → Type 0
grants_so st h x r before = IfSome (granted_by (top_of h.path) x r) (λ (g : Grant). (has_lock 1 g.top (entry g.x) mode.Read before ≡ true)
    × (incarnation st before 1 ≡ g.least) × (next_inc st 1 ≤ g.least))

module _ (st : Start) (k : ℕ) (d : Disk) (t v : Parts) (from : ℕ) (m : Message) (h : Head) (r : Reply) (front : List Effect) (M : Moment)
    (bindings : Wide KnowsBindings (up k d t M)) (there : seen.In (record { from = from; to = k; message = m }) M.seen.sent)
    (starts : (let N = M.seen in N.start) ≡ st) (calm : All (is_no_start 1) front)
    (shown : ShowsLocks k (lines_behind M.past.number front M.seen.lines) (Some v))
    (since : next_inc st k ≤ incarnation M.seen.start M.seen.lines k) where
  abbrev Behind : List Line
  Behind = lines_behind M.past.number front M.seen.lines

  abbrev Sent : Handled → Type 0
  Sent a = a ≡ Took v (front ++ Send from (response (asked_by h) r) ∷ [])

  here : (let N = up k d t M in N.seen.nodes k) ≡ Some (record { number = k; disk = d; live = Some t })
  here = λ i. cond (same_number k i) (Some (record { number = k; disk = d; live = Some t })) (M.seen.nodes k)

  abbrev part_in : Handled → Parts
  part_in (Void outs) = t
  part_in (Took w outs) = w

  pub grants_say : (x : ℕ) (include : Bool) (avoid : Binding) → Sent (serve k d t from h (ask.Bind x include avoid)) →
      grants_so st h x r (lines_behind M.past.number front M.seen.lines)
  grants_say x include avoid is = with_it t.naming refl is
    where
      named : (o : Naming) → t.naming ≡ Some o →
          Sent (served from h (with_naming t) Reply.Bound (naming.bind h.path x include avoid d.names o)) →
          grants_so st h x r (lines_behind M.past.number front M.seen.lines)
      named o at_it e = by (naming.bind h.path x include avoid d.names o).reply refl e
        where
          c : IsCounted k o M.seen.start M.seen.lines
          c = bindings.2.0.1.1.1 k (record { number = k; disk = d; live = Some t }) t here refl o at_it

          level : incarnation st (lines_behind M.past.number front M.seen.lines) 1 ≡ o.inc
          level = ap (λ s. incarnation s (lines_behind M.past.number front M.seen.lines) 1) (sym starts)
              ∙ behind_inc k d t v from m h r front M bindings there M.past.number front M.seen.lines calm ∙ sym c.inc

          rows : with_naming t (naming.bind h.path x include avoid d.names o).part ≡ v →
              rows_on (entry x) (table 1 (lines_behind M.past.number front M.seen.lines))
              ≡ naming_rows x (naming.bind h.path x include avoid d.names o).part
          rows same = subst (λ j. rows_on (entry x) (table j (lines_behind M.past.number front M.seen.lines)) ≡ named_locks x v.naming) c.first
              (shown.naming x (eq-eqb k 1 c.first)) ∙ ap (λ (z : Parts). named_locks x z.naming) (sym same)

          says : (q : BoundReply) → (naming.bind h.path x include avoid d.names o).reply ≡ Some q →
              with_naming t (naming.bind h.path x include avoid d.names o).part ≡ v →
              grants_so st h x (Reply.Bound q) (lines_behind M.past.number front M.seen.lines)
          says q at same = of (granted_by (top_of h.path) x (Reply.Bound q)) refl
            where
              of : (f : Option Grant) → granted_by (top_of h.path) x (Reply.Bound q) ≡ f → IfSome f
                  (λ (g : Grant). (has_lock 1 g.top (entry g.x) mode.Read (lines_behind M.past.number front M.seen.lines) ≡ true)
                  × (incarnation st (lines_behind M.past.number front M.seen.lines) 1 ≡ g.least) × (next_inc st 1 ≤ g.least))
              of None gr = tt
              of (Some g) gr =
                  let b = bind_grants h.path x include avoid d.names o q at g gr in (
                    subst (λ y. has_lock 1 g.top (entry y) mode.Read (lines_behind M.past.number front M.seen.lines) ≡ true) (sym b.1)
                        (lock_by 1 g.top (entry x) mode.Read (lines_behind M.past.number front M.seen.lines)
                        (naming_rows x (naming.bind h.path x include avoid d.names o).part) (rows same) b.0),
                    level ∙ sym b.2,
                    subst (λ i. next_inc st 1 ≤ i) (sym (b.2 ∙ c.inc))
                        (subst (λ j. next_inc st j ≤ incarnation M.seen.start M.seen.lines j) c.first since),
                  )

          by : (f : Option BoundReply) → (naming.bind h.path x include avoid d.names o).reply ≡ f →
              Sent (sends_answer from h (with_naming t (naming.bind h.path x include avoid d.names o).part)
              (naming.bind h.path x include avoid d.names o).outs (option_map Reply.Bound f)) →
              grants_so st h x r (lines_behind M.past.number front M.seen.lines)
          by None at e = let no_way : Void [] ≡ Took v (front ++ Send from (response (asked_by h) r) ∷ []) = e in absurd (cc no_way)
          by (Some q) at e = subst (λ z. grants_so st h x z (lines_behind M.past.number front M.seen.lines))
              (sym (same_reply from h r (Reply.Bound q) front (naming.bind h.path x include avoid d.names o).outs (sym (ap outs_in e))))
              (says q at (ap part_in e))

      with_it : (f : Option Naming) → t.naming ≡ f →
          Sent (if_naming (λ o. served from h (with_naming t) Reply.Bound (naming.bind h.path x include avoid d.names o)) f) →
          grants_so st h x r (lines_behind M.past.number front M.seen.lines)
      with_it None at e = let no_way : Void [] ≡ Took v (front ++ Send from (response (asked_by h) r) ∷ []) = e in absurd (cc no_way)
      with_it (Some o) at e = named o at e
