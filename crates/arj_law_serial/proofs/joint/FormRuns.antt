-- The form of an object's states and entries, in every run.
use Rattle.arj_law_parts.proofs.Words
use Words.{in_from}
use Words.{IsFormed, Start, node_by}
use Words.{◌≡◌, ◌∙◌, ◌+◌, ◌==◌, ℕ, Bool, true, false, cond, filter, List, [], ◌∷◌, map, refl, sym, subst, arith, ap, eqb-true, inl, inr}
use Words.{⊎_elim, Option, Some, None, if◌then◌else◌, AllByRecursion, nat_tests, entry, object, In as Listed, in_find, in_find_none}
use Words.{Header, ObjectLine, ObjectState, Uid, own_class, again_all, begin_action, Coord, Disk, Do, Effect, Say, Send, stopped}
use Words.{worked, tick_outs, Parts, with_coord, has, Node, acts, parent_of}
use Words.{parts_in, restart_outs, World, entry_back, same_number, Post, Seen, see, is_serial}
use Rattle.arj_law_serial.proofs.Terms
use Terms.{IsOlder, Marks, all_append, disk_by, entries_from, entry_by, older_at, state_by, states_from}
use Terms.{HeaderFits, entry_payload, first_values, object_line, servers_of_line, value_of_line, never, Keeps, In, at, given, posted}
use Terms.{said, Up, Walks, Keeping, kept_holds, IsLine, first_at, HaveForm, CoordIsSo, MessageIsSo, Own, acts_so, begins_so, AllAreSo}
use Terms.{AreSo, DiskIsSo, Kind, PartsAreSo, kind_of, listed, so_of, stored}
use Rattle.arj_base.specs.State.{is_object_class}
use Rattle.arj_law_parts.specs.moves.Keeps.{Holds}
use Rattle.arj_law_serial.proofs.joint
use joint.{Firsts.line_in, Firsts.one_line, FormServers.read_so, GivenFirst.first_is_object}
use joint.FormNodes.{handled_so, keep, restart_so, says_so, starts_so, stopped_so, tick_so, worked_so}
use joint.FormPairs.{none_so, puts_so}
use Rattle.arj_law_serial.specs.joint.Forms.{FormsAreKept, NodeIsSo, UpIsSo}

module _ (k : Kind) where
  abbrev Is : Node → Type 0
  Is n = NodeIsSo k n

  -- of each node but this, and of all that was sent
  abbrev RestIsSo : ℕ → Seen → Type 0
  RestIsSo n M =
      ((j : ℕ) (m : Node) → (j == n) ≡ false → M.nodes j ≡ Some m → Is m) × ((p : Post) → In p M.sent → MessageIsSo (so_of k) p.message)

  rest : (n : ℕ) (d : Disk) (live : Option Parts) (M : Seen) → AreSo k (at n d live M) → RestIsSo n M
  rest n d live M all =
      (λ j m apart is. all.0 j m ((λ i. cond (apart i) (Some (record { number = n; disk = d; live = live })) (M.nodes j)) ∙ is), all.1)

  own : (n : ℕ) (d : Disk) (live : Option Parts) (M : Seen) → AreSo k (at n d live M) → Is (record { number = n; disk = d; live = live })
  own n d live M all = all.0 n (record { number = n; disk = d; live = live })
      (λ i. cond (same n i) (Some (record { number = n; disk = d; live = live })) (M.nodes n))
    where
      same : (n : ℕ) → (n == n) ≡ true
      same n = grind (arith, nat_tests)

  back : (n : ℕ) (d : Disk) (live : Option Parts) (M : Seen) → Is (record { number = n; disk = d; live = live }) → RestIsSo n M →
      AreSo k (at n d live M)
  back n d live M its all = (λ j m is. by j m (j == n) refl is, all.1)
    where
      x : Node
      x = record { number = n; disk = d; live = live }

      by : (j : ℕ) (m : Node) (b : Bool) → (j == n) ≡ b → cond b (Some x) (M.nodes j) ≡ Some m → Is m
      by j m true same there = let here : x ≡ m = cc in subst Is here its
      by j m false apart there = all.0 j m apart there

  -- whatever a node does
  walk : (e n : ℕ) (outs : List Effect) (v : Parts) (d : Disk) (M : Seen) → DiskIsSo k d → PartsAreSo k v → AllAreSo k outs → RestIsSo n M →
      Walks (AreSo k) e n outs (Up (AreSo k) n v) d M
  walk e n [] v d M disk its outs all = back n d (Some v) M (disk, its) all
  walk e n (Do w ∷ es) v d M disk its outs all = (
    λ how. back n (stopped how w d) None (said e [] M) (stopped_so k how w d outs.0 disk, tt) all,
    walk e n es v (worked w d) M (worked_so k w d outs.0 disk) its outs.1 all,
  )
  walk e n (Say b ∷ es) v d M disk its outs all = walk e n es v d (said e (b ∷ []) M) disk its outs.1 all
  walk e n (Send to m ∷ es) v d M disk its outs all = λ more quiet.
      walk e n es v d (said e more (posted (record { from = n; to = to; message = m }) M)) disk its outs.1
      (all.0, λ p. ⊎_elim (λ same. subst (λ (q : Post). MessageIsSo (so_of k) q.message) same outs.0) (λ old. all.1 p old))

  with_it : (t : Parts) (c : Coord) → PartsAreSo k t → CoordIsSo (so_of k) c → PartsAreSo k (with_coord t c)
  with_it t c its so = record { server = its.server; coord = so }

-- ---- as a run begins

line_out : (o : ObjectLine) (os : List ObjectLine) → IsLine o os → Listed o os
line_out o [] i = absurd i
line_out o (p ∷ ps) (inl same) = inl same
line_out o (p ∷ ps) (inr more) = inr (line_out o ps more)

filter_line : (test : ObjectLine → Bool) (os : List ObjectLine) (o : ObjectLine) → IsLine o (filter test os) → IsLine o os
filter_line test [] o i = absurd i
filter_line test (p ∷ ps) o i = by (test p) i (filter_line test ps o)
  where
    by : (b : Bool) → IsLine o (cond b (p ∷ filter test ps) (filter test ps)) → (IsLine o (filter test ps) → IsLine o ps) →
        IsLine o (p ∷ ps)
    by true (inl same) ih = inl same
    by true (inr more) ih = inr (ih more)
    by false more ih = inr (ih more)

module _ (hd : Header) (x : ℕ) (form : HeaderFits hd) where
  -- a line of the object is the one that is found
  line_is : (o : ObjectLine) → IsLine o hd.objects → o.x ≡ x → object_line hd x ≡ Some o
  line_is o is same = by (object_line hd x) refl
    where
      by : (q : Option ObjectLine) → object_line hd x ≡ q → q ≡ Some o
      by None none = absurd (never (ap (λ y. y == x) same ∙ same_number x)
          (in_find_none (λ (p : ObjectLine). p.x == x) o hd.objects none (line_out o hd.objects is)))
      by (Some p) found =
          let f = in_find (λ (q : ObjectLine). q.x == x) p hd.objects found in
          ap Some (one_line hd.objects (let fs = form.objects in fs.1) p o (line_in p hd.objects f.0) is (eqb-true p.x x f.1 ∙ sym same))

  real : is_object_class (own_class (first_values hd x)) ≡ true
  real = first_is_object hd x form

  values_so : (marks : Marks) (os : List ObjectLine) → ((o : ObjectLine) → IsLine o os → IsLine o hd.objects) →
      AllByRecursion (Own (stored (kind_of hd x))) (map (λ (o : ObjectLine). state_by hd.format (marks.states o.x) o) os)
  values_so marks [] there = tt
  values_so marks (o ∷ os) there = (
    (
      refl,
      λ same. read_so (kind_of hd x) real o.value
          (ap (λ q. own_class (value_of_line q)) (sym (line_is o (there o (inl refl)) (ap (λ (u : Uid). u.num) same)))),
    ),
    values_so marks os (λ p i. there p (inr i)),
  )

  entries_so : (marks : Marks) (os : List ObjectLine) → ((o : ObjectLine) → IsLine o os → IsLine o hd.objects) →
      AllByRecursion (Own (listed (kind_of hd x))) (map (λ (o : ObjectLine). entry_by hd.format (marks.entries o.x) o) os)
  entries_so marks [] there = tt
  entries_so marks (o ∷ os) there = (
    λ same.
        let l = sym (line_is o (there o (inl refl)) (ap (λ (u : Uid). u.num) same)) in
        let b = sym (entry_back (record { servers = o.servers; stores = o.stores })) in
        (refl, λ i. entry_payload (servers_of_line (l i)) ((b i).stores), refl),
    entries_so marks os (λ p i. there p (inr i)),
  )

  module _ (st : Start) where
    -- older states are of their objects' own classes
    older_so : (n : ℕ) (more : List (ℕ × ObjectState)) → AllByRecursion (IsOlder hd st) more →
        AllByRecursion (Own (stored (kind_of hd x))) (older_at n more)
    older_so n [] all = tt
    older_so n (a ∷ more) all = by (a.0 == n) (older_so n more all.1)
      where
        o : IsOlder hd st a
        o = all.0

        line : IsLine o.line hd.objects
        line = line_in o.line hd.objects (in_from o.line hd.objects o.there)

        its : Own (stored (kind_of hd x)) a.1
        its = (
          o.of ∙ ap object (sym (ap (λ (u : Uid). u.num) o.of)),
          λ same. o.class ∙ ap (λ q. own_class (value_of_line q))
              (sym (line_is o.line line (sym (ap (λ (u : Uid). u.num) o.of) ∙ ap (λ (u : Uid). u.num) same))),
        )

        by : (b : Bool) → AllByRecursion (Own (stored (kind_of hd x))) (older_at n more) →
            AllByRecursion (Own (stored (kind_of hd x))) (cond b (a.1 ∷ older_at n more) (older_at n more))
        by true rest = (its, rest)
        by false rest = rest

    disk_so : AllByRecursion (IsOlder hd st) st.older → (n : ℕ) → DiskIsSo (kind_of hd x) (disk_by hd st n)
    disk_so older n = record {
      store = record {
        held = puts_so (stored (kind_of hd x)) (states_from n hd st) [] (all_append (Own (stored (kind_of hd x))) (older_at n st.older)
            (map (λ (o : ObjectLine). state_by hd.format (st.marks.states o.x) o) (filter (λ (o : ObjectLine). has o.stores n) hd.objects))
            (older_so n st.older older) (values_so st.marks (filter (λ (o : ObjectLine). has o.stores n) hd.objects)
            (λ o i. filter_line (λ (o : ObjectLine). has o.stores n) hd.objects o i))) (none_so (stored (kind_of hd x)));
        pend = tt;
      };
      names = record {
        held = puts_so (listed (kind_of hd x)) (entries_from n hd st.marks) [] (by (n == 1)) (none_so (listed (kind_of hd x)));
        pend = tt;
      };
    }
      where
        by : (b : Bool) → AllByRecursion (Own (listed (kind_of hd x)))
            (if b then map (λ (o : ObjectLine). entry_by hd.format (st.marks.entries o.x) o) hd.objects else [])
        by true = entries_so st.marks hd.objects (λ o i. i)
        by false = tt

    first_so : IsFormed hd st → (n : ℕ) → NodeIsSo (kind_of hd x) (node_by hd st n)
    first_so formed n = (disk_so formed.older n, by (st.up n))
      where
        by : (b : Bool) → UpIsSo (kind_of hd x) (if b then Some (parts_in n (st.incs n + 1) (disk_by hd st n)) else None)
        by true = starts_so (kind_of hd x) n (st.incs n + 1) (disk_by hd st n)
        by false = tt

  forms_kept : Keeps hd (AreSo (kind_of hd x))
  forms_kept = record {
    quiet = λ e bs M quiet all. (all.0, all.1);
    stop = λ e n d live M all. let o = own k n d live M all in back k n d None M (o.0, tt) (rest k n d live M all);
    message = λ e n d t v from m outs M all there meant is.
        let o = own k n d (Some t) M all in
        let h = handled_so k real n d t from o.0 o.1 m v outs meant (all.1 (record { from = from; to = n; message = m }) there) is in
        walk k e n outs v d M o.0 h.0 h.1 (rest k n d (Some t) M all);
    act = λ e n d t i M is free all.
        let o = own k n d (Some t) M all in
        let did = acts i d.intents t.coord in
        let a = acts_so (so_of k) (keep k) i d.intents t.coord (let p = o.1 in p.coord) in
        walk k e n did.outs (with_coord t did.part) d M o.0 (with_it k t did.part o.1 a.0) (says_so k did.outs a.1)
        (rest k n d (Some t) M all);
    begin = λ e n d t l how parent M new may free all.
        let o = own k n d (Some t) M all in
        let did = begin_action l how parent (parent_of parent t.coord) t.coord in
        let a = begins_so (so_of k) (keep k) l how parent (parent_of parent t.coord) t.coord (let p = o.1 in p.coord) in
        walk k e n did.outs (with_coord t did.part) d (given l (record { node = n; serial = is_serial how }) M) o.0
        (with_it k t did.part o.1 a.0) (says_so k did.outs a.1) (rest k n d (Some t) M all);
    tick = λ e n d t M all.
        let o = own k n d (Some t) M all in
        let y : Node = record { number = n; disk = d; live = Some t } in
        let a = tick_so k y t o.1 in
        walk k e n (tick_outs y t) (with_coord t (again_all t.coord.doings t.coord).part) d M o.0 a.0 a.1 (rest k n d (Some t) M all);
    restart = λ e n d M all.
        let o = own k n d None M all in
        walk k e n (restart_outs hd n (d.inc + 1) d) (parts_in n (d.inc + 1) d) d M o.0 (starts_so k n (d.inc + 1) d) (restart_so k hd n d)
        (rest k n d None M all);
    first = λ st formed. (λ j n is. subst (NodeIsSo k) (first_at hd st j n is) (first_so st formed j), λ p no_way. absurd no_way);
  }
    where
      k : Kind
      k = kind_of hd x

pub kept_forms : FormsAreKept
kept_forms hd x form = forms_kept hd x form

pub kept_have_form : (hd : Header) (x : ℕ) → HeaderFits hd → (w : World) → Keeping hd w → Holds hd (HaveForm hd x) w
kept_have_form hd x form w keeping =
    let h = kept_holds hd w keeping (AreSo (kind_of hd x)) (forms_kept hd x form) in
    record { sent = h.sent; stands = h.stands; holds = has_form (see h.sent w) h.holds }
  where
    has_form : (M : Seen) → AreSo (kind_of hd x) M → HaveForm hd x M
    has_form M all n st here held = let a = (all.0 1 n here).0 in (a.names.held (entry x) st held).0 refl
