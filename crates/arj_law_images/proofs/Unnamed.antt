-- What disks hold is of the header's objects: of any other object each state would be of every class, and each entry have all servers.
use Rattle.arj_law_parts.proofs.Words
use Words.{◌||◌, ◌≡◌, ◌∙◌, ◌+◌, ◌==◌, ℕ, Bool, true, false, cond, filter, List, [], ◌∷◌, map, refl, sym, subst, ap, inl, inr, ⊎_elim}
use Words.{Option, Some}
use Words.{None, if◌then◌else◌, AllByRecursion, entry, object, In, in_from, Header, ObjectLine, ObjectState, Uid, Class, again_all}
use Words.{begin_action}
use Words.{Coord, Disk, Do, Effect, Say, Send, stopped, worked, tick_outs, Parts, with_coord, has, Node, acts, parent_of, parts_in}
use Words.{restart_outs, World, list_any, uid_same, same_number, Post, Seen, is_serial, Start, node_by, IsFormed}
use Words.class
use Rattle.arj_law_serial.proofs.Terms
use Terms.{IsOlder, Marks, all_append, all_at_uid, all_each, disk_by, entries_from, entry_by, older_at, state_by, states_from, HeaderFits}
use Terms.{Keeps, In as Posted, at, given, posted, said, Up, Walks, Keeping, kept_holds, first_at, CoordIsSo, MessageIsSo, Own}
use Terms.{acts_so, begins_so, AllAreSo, AreSo, DiskIsSo, Kind, PartsAreSo, kind_of, listed, so_of, stored, never}
use Rattle.arj_base.specs.State.{is_object_class}
use Rattle.arj_base.specs.Uid.{uid_eq}
use Rattle.arj_law_parts.specs.moves.Keeps.{Holds}
use Rattle.arj_law_runs.proofs.addresses.Runs.{kept}
use Rattle.arj_law_runs.specs.addresses.Addresses.{AreAddressed, IsNode, StateOf}
use Rattle.arj_law_serial.proofs.joint.FormNodes.{handled_so, keep, restart_so, says_so, starts_so, stopped_so, tick_so, worked_so}
use Rattle.arj_law_serial.proofs.joint.FormPairs.{none_so, puts_so}
use Rattle.arj_law_serial.proofs.joint.FormRuns.{kept_forms}
use Rattle.arj_law_serial.specs.joint.Forms.{NodeIsSo, UpIsSo}
use Rattle.arj_protocol.specs.Effect.{held_at}
use Rattle.arj_protocol.specs.Tree.{at_place}

module _ (k : Kind) where
  -- of each node but this, and of all that was sent
  abbrev Rest : ℕ → Seen → Type 0
  Rest n M = ((j : ℕ) (m : Node) → (j == n) ≡ false → M.nodes j ≡ Some m → NodeIsSo k m)
      × ((p : Post) → Posted p M.sent → MessageIsSo (so_of k) p.message)

  rest : (n : ℕ) (d : Disk) (live : Option Parts) (M : Seen) → AreSo k (at n d live M) → Rest n M
  rest n d live M all =
      (λ j m apart is. all.0 j m ((λ i. cond (apart i) (Some (record { number = n; disk = d; live = live })) (M.nodes j)) ∙ is), all.1)

  own : (n : ℕ) (d : Disk) (live : Option Parts) (M : Seen) → AreSo k (at n d live M) →
      NodeIsSo k (record { number = n; disk = d; live = live })
  own n d live M all = all.0 n (record { number = n; disk = d; live = live })
      (λ i. cond (same_number n i) (Some (record { number = n; disk = d; live = live })) (M.nodes n))

  back : (n : ℕ) (d : Disk) (live : Option Parts) (M : Seen) → NodeIsSo k (record { number = n; disk = d; live = live }) → Rest n M →
      AreSo k (at n d live M)
  back n d live M its all = (λ j m is. by j m (j == n) refl is, all.1)
    where
      x : Node
      x = record { number = n; disk = d; live = live }

      by : (j : ℕ) (m : Node) (b : Bool) → (j == n) ≡ b → cond b (Some x) (M.nodes j) ≡ Some m → NodeIsSo k m
      by j m true same there = let here : x ≡ m = cc in subst (NodeIsSo k) here its
      by j m false apart there = all.0 j m apart there

  walk : (e n : ℕ) (outs : List Effect) (v : Parts) (d : Disk) (M : Seen) → DiskIsSo k d → PartsAreSo k v → AllAreSo k outs → Rest n M →
      Walks (AreSo k) e n outs (Up (AreSo k) n v) d M
  walk e n [] v d M disk its outs all = back n d (Some v) M (disk, its) all
  walk e n (Do w ∷ es) v d M disk its outs all = (
    λ how. back n (stopped how w d) None (said e [] M) (stopped_so k how w d outs.0 disk, tt) all,
    walk e n es v (worked w d) M (worked_so k w d outs.0 disk) its outs.1 all,
  )
  walk e n (Say b ∷ es) v d M disk its outs all = walk e n es v d (said e (b ∷ []) M) disk its outs.1 all
  walk e n (Send to m ∷ es) v d M disk its outs all = λ more quiet.
      walk e n es v d (said e more (posted (record { from = n; to = to; message = m }) M)) disk its outs.1
      (all.0, λ p. ⊎_elim (λ same. subst (λ (q : Post). MessageIsSo (so_of k) q.message) same outs.0) (λ old. all.1 p old))

  with_it : (t : Parts) (c : Coord) → PartsAreSo k t → CoordIsSo (so_of k) c → PartsAreSo k (with_coord t c)
  with_it t c its so = record { server = its.server; coord = so }

-- ---- an object that the header hasn't

module _ (hd : Header) (y : ℕ) (c : Class) (real : is_object_class c ≡ true) (servers : List ℕ)
    (absent : (o : ObjectLine) → In o hd.objects → o.x ≡ y → ⊥) where
  abbrev none : Kind
  none = record { x = y; class = c; servers = servers; format = hd.format }

  in_filter_of : (test : ObjectLine → Bool) (os : List ObjectLine) (o : ObjectLine) → In o (filter test os) → In o os
  in_filter_of test [] o i = absurd i
  in_filter_of test (p ∷ ps) o i = by (test p) i (in_filter_of test ps o)
    where
      by : (b : Bool) → In o (cond b (p ∷ filter test ps) (filter test ps)) → (In o (filter test ps) → In o ps) → In o (p ∷ ps)
      by true (inl same) ih = inl same
      by true (inr more) ih = inr (ih more)
      by false more ih = inr (ih more)

  values_so : (marks : Marks) (os : List ObjectLine) → ((o : ObjectLine) → In o os → In o hd.objects) →
      AllByRecursion (Own (stored none)) (map (λ (o : ObjectLine). state_by hd.format (marks.states o.x) o) os)
  values_so marks [] there = tt
  values_so marks (o ∷ os) there = (
    (refl, λ same. absurd (absent o (there o (inl refl)) (ap (λ (u : Uid). u.num) same))),
    values_so marks os (λ p i. there p (inr i)),
  )

  entries_so : (marks : Marks) (os : List ObjectLine) → ((o : ObjectLine) → In o os → In o hd.objects) →
      AllByRecursion (Own (listed none)) (map (λ (o : ObjectLine). entry_by hd.format (marks.entries o.x) o) os)
  entries_so marks [] there = tt
  entries_so marks (o ∷ os) there = (
    λ same. absurd (absent o (there o (inl refl)) (ap (λ (u : Uid). u.num) same)),
    entries_so marks os (λ p i. there p (inr i)),
  )

  module _ (st : Start) where
    older_so : (n : ℕ) (more : List (ℕ × ObjectState)) → AllByRecursion (IsOlder hd st) more →
        AllByRecursion (Own (stored none)) (older_at n more)
    older_so n [] all = tt
    older_so n (a ∷ more) all = by (a.0 == n) (older_so n more all.1)
      where
        o : IsOlder hd st a
        o = all.0

        its : Own (stored none) a.1
        its = (
          o.of ∙ ap object (sym (ap (λ (u : Uid). u.num) o.of)),
          λ same. absurd (absent o.line (in_from o.line hd.objects o.there)
              (sym (ap (λ (u : Uid). u.num) o.of) ∙ ap (λ (u : Uid). u.num) same)),
        )

        by : (b : Bool) → AllByRecursion (Own (stored none)) (older_at n more) →
            AllByRecursion (Own (stored none)) (cond b (a.1 ∷ older_at n more) (older_at n more))
        by true more = (its, more)
        by false more = more

    disk_so : AllByRecursion (IsOlder hd st) st.older → (n : ℕ) → DiskIsSo none (disk_by hd st n)
    disk_so older n = record {
      store = record {
        held = puts_so (stored none) (states_from n hd st) [] (all_append (Own (stored none)) (older_at n st.older)
            (map (λ (o : ObjectLine). state_by hd.format (st.marks.states o.x) o) (filter (λ (o : ObjectLine). has o.stores n) hd.objects))
            (older_so n st.older older) (values_so st.marks (filter (λ (o : ObjectLine). has o.stores n) hd.objects)
            (λ o i. in_filter_of (λ (o : ObjectLine). has o.stores n) hd.objects o i))) (none_so (stored none));
        pend = tt;
      };
      names = record {
        held = puts_so (listed none) (entries_from n hd st.marks) [] (by (n == 1)) (none_so (listed none));
        pend = tt;
      };
    }
      where
        by : (b : Bool) → AllByRecursion (Own (listed none))
            (if b then map (λ (o : ObjectLine). entry_by hd.format (st.marks.entries o.x) o) hd.objects else [])
        by true = entries_so st.marks hd.objects (λ o i. i)
        by false = tt

    first_so : IsFormed hd st → (n : ℕ) → NodeIsSo none (node_by hd st n)
    first_so formed n = (disk_so formed.older n, by (st.up n))
      where
        by : (b : Bool) → UpIsSo none (if b then Some (parts_in n (st.incs n + 1) (disk_by hd st n)) else None)
        by true = starts_so none n (st.incs n + 1) (disk_by hd st n)
        by false = tt

  forms_kept : Keeps hd (AreSo none)
  forms_kept = record {
    quiet = λ e bs M quiet all. (all.0, all.1);
    stop = λ e n d live M all. let o = own none n d live M all in back none n d None M (o.0, tt) (rest none n d live M all);
    message = λ e n d t v from m outs M all there meant is.
        let o = own none n d (Some t) M all in
        let h = handled_so none real n d t from o.0 o.1 m v outs meant (all.1 (record { from = from; to = n; message = m }) there) is in
        walk none e n outs v d M o.0 h.0 h.1 (rest none n d (Some t) M all);
    act = λ e n d t i M is free all.
        let o = own none n d (Some t) M all in
        let did = acts i d.intents t.coord in
        let a = acts_so (so_of none) (keep none) i d.intents t.coord (let p = o.1 in p.coord) in
        walk none e n did.outs (with_coord t did.part) d M o.0 (with_it none t did.part o.1 a.0) (says_so none did.outs a.1)
        (rest none n d (Some t) M all);
    begin = λ e n d t l how parent M new may free all.
        let o = own none n d (Some t) M all in
        let did = begin_action l how parent (parent_of parent t.coord) t.coord in
        let a = begins_so (so_of none) (keep none) l how parent (parent_of parent t.coord) t.coord (let p = o.1 in p.coord) in
        walk none e n did.outs (with_coord t did.part) d (given l (record { node = n; serial = is_serial how }) M) o.0
        (with_it none t did.part o.1 a.0) (says_so none did.outs a.1) (rest none n d (Some t) M all);
    tick = λ e n d t M all.
        let o = own none n d (Some t) M all in
        let z : Node = record { number = n; disk = d; live = Some t } in
        let a = tick_so none z t o.1 in
        walk none e n (tick_outs z t) (with_coord t (again_all t.coord.doings t.coord).part) d M o.0 a.0 a.1 (rest none n d (Some t) M all);
    restart = λ e n d M all.
        let o = own none n d None M all in
        walk none e n (restart_outs hd n (d.inc + 1) d) (parts_in n (d.inc + 1) d) d M o.0 (starts_so none n (d.inc + 1) d)
        (restart_so none hd n d) (rest none n d None M all);
    first = λ st formed. (λ j n is. subst (NodeIsSo none) (first_at hd st j n is) (first_so st formed j), λ p no_way. absurd no_way);
  }

-- ---- worlds

-- a test that fails of each line finds no object
none_named : (objects : List ObjectLine) (test : ObjectLine → Bool) → list_any test objects ≡ false → (o : ObjectLine) → In o objects →
    test o ≡ false
none_named [] test off o i = absurd i
none_named (p ∷ ps) test off o i = by (test p) refl off i (none_named ps test)
  where
    Later : Type 0
    Later = list_any test ps ≡ false → (q : ObjectLine) → In q ps → test q ≡ false

    by : (b : Bool) → test p ≡ b → (b || list_any test ps) ≡ false → In o (p ∷ ps) → Later → test o ≡ false
    by true is none (inl same) later = absurd (cc none)
    by true is none (inr more) later = absurd (cc none)
    by false is none (inl same) later = ap test (sym same) ∙ is
    by false is none (inr more) later = later none o more

module _ (hd : Header) (form : HeaderFits hd) (w : World) (keeping : Keeping hd w) (s : ℕ) (n : Node)
    (there : at_place s w.nodes ≡ Some n) where
  -- the disk has the form that any kind has of an object which the header hasn't
  so : (y : ℕ) (c : Class) (servers : List ℕ) → is_object_class c ≡ true → ((o : ObjectLine) → In o hd.objects → o.x ≡ y → ⊥) →
      DiskIsSo (record { x = y; class = c; servers = servers; format = hd.format }) n.disk
  so y c servers real absent =
      let h = kept_holds hd w keeping (AreSo (record { x = y; class = c; servers = servers; format = hd.format }))
      (forms_kept hd y c real servers absent) in
      (h.holds.0 s n there).0

  real_so : DiskIsSo (kind_of hd 0) n.disk
  real_so = let h = kept_holds hd w keeping (AreSo (kind_of hd 0)) (kept_forms hd 0 form) in (h.holds.0 s n there).0

  -- no line has the object, where none has its Uid
  none_has : (role : ℕ → Uid) (u : Uid) → u ≡ role u.num → list_any (λ (o : ObjectLine). uid_eq u (role o.x)) hd.objects ≡ false →
      (o : ObjectLine) → In o hd.objects → o.x ≡ u.num → ⊥
  none_has role u own off o i same =
      let yes : uid_eq u (role o.x) ≡ true = ap (uid_eq u) (ap role same ∙ sym own) ∙ uid_same u in
      never yes (none_named hd.objects (λ (p : ObjectLine). uid_eq u (role p.x)) off o i)

  -- each state at a store is of one of the header's objects
  pub state_named : (u : Uid) (st : ObjectState) → held_at u n.disk.store ≡ Some st →
      list_any (λ (o : ObjectLine). uid_eq u (object o.x)) hd.objects ≡ true
  state_named u st held = by (list_any (λ (o : ObjectLine). uid_eq u (object o.x)) hd.objects) refl
    where
      own : u ≡ object u.num
      own = (real_so.store.held u st held).0.0

      by : (b : Bool) → list_any (λ (o : ObjectLine). uid_eq u (object o.x)) hd.objects ≡ b → b ≡ true
      by true is = refl
      by false off =
          let absent = none_has object u own off in
          let counter = ((so u.num class.Counter [] refl absent).store.held u st held).0.1 own in
          let register = ((so u.num class.Register [] refl absent).store.held u st held).0.1 own in
          let no_way : class.Counter ≡ class.Register = sym counter ∙ register in
          absurd (cc no_way)

  addressed : Holds hd (AreAddressed hd) w
  addressed = keeping (AreAddressed hd) (kept hd form)

  -- and each entry of naming
  pub entry_named : (u : Uid) (st : ObjectState) → held_at u n.disk.names ≡ Some st →
      list_any (λ (o : ObjectLine). uid_eq u (entry o.x)) hd.objects ≡ true
  entry_named u st held = by (list_any (λ (o : ObjectLine). uid_eq u (entry o.x)) hd.objects) refl
    where
      its : StateOf (IsNode hd) st
      its =
          let h = addressed in
          let all = h.holds.1 in
          let node = all.0 s n there in
          let d = node.1 in
          all_at_uid (StateOf (IsNode hd)) u st n.disk.names.held (all_each _ (λ (e : Uid × ObjectState). StateOf (IsNode hd) e.1)
          n.disk.names.held (λ e both. both.1) d.held) held

      same : st.uid ≡ u
      same = (real_so.names.held u st held).1

      own : u ≡ entry u.num
      own = sym same ∙ its.0 ∙ ap (λ (v : Uid). entry v.num) same

      by : (b : Bool) → list_any (λ (o : ObjectLine). uid_eq u (entry o.x)) hd.objects ≡ b → b ≡ true
      by true is = refl
      by false off =
          let absent = none_has entry u own off in
          let few = (((so u.num class.Counter [] refl absent).names.held u st held).0 own).1 in
          let more = (((so u.num class.Counter (1 ∷ []) refl absent).names.held u st held).0 own).1 in
          let no_way = sym few ∙ more in
          absurd (other _ _ no_way)
        where
          other : (xs ys : List ℕ) → 0 ∷ xs ≡ 1 ∷ ys → ⊥
          other xs ys is = let no_way : ◌≡◌ {A = ℕ} 0 1 = ap (λ (zs : List ℕ). first zs) is in cc
            where
              first : List ℕ → ℕ
              first [] = 0
              first (z ∷ zs) = z
